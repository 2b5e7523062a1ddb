-- Recordings in pieces: records of transport packets, or, under a plan of baseband frames, frames. What pieces tell and deliver.
use Rattle.std.specs.Prelude.{ℕ, List, [], ◌++◌, Option, Some, None}
use Rattle.ts_spec.specs.Recording.{Record, records_of}
use Rattle.plan_spec.specs.Plan.{PlanFields}
use Rattle.reception_spec.specs.Delivered.{told_of as told_of_records, delivered_of as delivered_of_records, told_pairs as told_pairs_of_records, pairs_of_record, pairs_of_end as pairs_behind_records}
use Rattle.bb_reception_spec.specs.Delivered.{delivered_of as delivered_of_frames, delivered_pairs as pairs_of_frames, pairs_of_frame}

-- what is so of packets, or, where frames have so many bytes, of frames
abbrev pub by_carrier : {X : Type 0} → Option ℕ → X → X → X
by_carrier None of_packets of_frames = of_packets
by_carrier (Some bytes) of_packets of_frames = of_frames

-- the records of these pieces
abbrev pub records_in : PlanFields → List (List ℕ) → List Record
records_in plan pieces = records_of plan.recording pieces

-- the pairs of service and datagram that pieces tell; those that the piece at a place gives; those that the end gives after all. The end
-- of a recording of frames gives nothing: fragments without a last one carry no datagram
abbrev pub told_pairs : PlanFields → List (List ℕ) → List (ℕ × List ℕ)
told_pairs plan pieces = by_carrier plan.frame_bytes (told_pairs_of_records plan (records_in plan pieces)) (pairs_of_frames plan pieces)

abbrev pub pairs_of_piece : PlanFields → List (List ℕ) → ℕ → List (ℕ × List ℕ)
pairs_of_piece plan pieces place = by_carrier plan.frame_bytes (pairs_of_record plan (records_in plan pieces) place) (pairs_of_frame plan pieces place)

abbrev pub pairs_of_end : PlanFields → List (List ℕ) → List (ℕ × List ℕ)
pairs_of_end plan pieces = by_carrier plan.frame_bytes (pairs_behind_records plan (records_in plan pieces)) []

-- all pairs that a recording of these pieces delivers, ordered by the piece that gives them, then by service, and of one service in order
abbrev pub delivered_pairs : PlanFields → List (List ℕ) → List (ℕ × List ℕ)
delivered_pairs plan pieces = told_pairs plan pieces ++ pairs_of_end plan pieces

-- the datagrams of service k that pieces tell, and those that a whole recording of them delivers
abbrev pub told_of : PlanFields → ℕ → List (List ℕ) → List (List ℕ)
told_of plan k pieces = by_carrier plan.frame_bytes (told_of_records plan k (records_in plan pieces)) (delivered_of_frames plan k pieces)

abbrev pub delivered_of : PlanFields → ℕ → List (List ℕ) → List (List ℕ)
delivered_of plan k pieces = by_carrier plan.frame_bytes (delivered_of_records plan k (records_in plan pieces)) (delivered_of_frames plan k pieces)
