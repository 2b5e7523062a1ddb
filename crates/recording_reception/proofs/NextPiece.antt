-- The pieces of a recording: what one piece more gives.
use Rattle.std.proofs.Common.{◌≡◌, ℕ, List, [], ◌∷◌, ◌++◌, length, refl, ap, ap₂, sym, ◌∙◌, Option, None, Some}
use Rattle.std.proofs.lemmas.List.{map-append}
use Rattle.ts_spec.specs.Recording.{Record, RecordingForm, plain, stamped, m2ts, plain_record, stamped_record, m2ts_record, m2ts_stamp, moment_behind, m2ts_records, records_of}
use Rattle.plan_spec.specs.Plan.{PlanFields}
use Rattle.channel_law.proofs.Late.{length-records}
use Rattle.reception_spec.specs.Delivered.{told_pairs as told_pairs_of_records, pairs_of_record}
use Rattle.reception_law.proofs.DeliveredPairs.{pairs_more}
use Rattle.bb_reception_spec.specs.Delivered.{delivered_pairs as pairs_of_frames, pairs_of_frame}
use Rattle.bb_reception_law.proofs.FrameByFrame.{pairs_more as frame_pairs_more}
use Rattle.recording_spec.specs.Pieces.{by_carrier, records_in, told_pairs, pairs_of_piece}

-- the records of one piece more
m2ts_next : (before : Option ℕ) (pieces : List (List ℕ)) (piece : List ℕ)
    → (r : Record) × (m2ts_records before (pieces ++ piece ∷ []) ≡ m2ts_records before pieces ++ r ∷ [])
m2ts_next before [] piece = (m2ts_record before piece, refl)
m2ts_next before (x ∷ pieces) piece =
    let next = m2ts_next (Some (moment_behind before (m2ts_stamp x))) pieces piece in
    (next.0, ap (λ (rs : List Record). m2ts_record before x ∷ rs) next.1)

pub records_next : (form : RecordingForm) (pieces : List (List ℕ)) (piece : List ℕ)
    → (r : Record) × (records_of form (pieces ++ piece ∷ []) ≡ records_of form pieces ++ r ∷ [])
records_next plain pieces piece = (plain_record piece, map-append plain_record pieces (piece ∷ []))
records_next stamped pieces piece = (stamped_record piece, map-append stamped_record pieces (piece ∷ []))
records_next m2ts pieces piece = m2ts_next None pieces piece

-- the pairs of all pieces are those of the first ones and those of the last
last_pairs_on : (carrier : Option ℕ) (plan : PlanFields) (pieces : List (List ℕ)) (piece : List ℕ)
    → by_carrier carrier (told_pairs_of_records plan (records_in plan (pieces ++ piece ∷ []))) (pairs_of_frames plan (pieces ++ piece ∷ []))
    ≡ by_carrier carrier (told_pairs_of_records plan (records_in plan pieces)) (pairs_of_frames plan pieces)
    ++ by_carrier carrier (pairs_of_record plan (records_in plan (pieces ++ piece ∷ [])) (length pieces)) (pairs_of_frame plan (pieces ++ piece ∷ []) (length pieces))
last_pairs_on None plan pieces piece =
    let next = records_next plan.recording pieces piece in
    let told : List (ℕ × List ℕ) = told_pairs_of_records plan (records_in plan pieces) in
    ap (told_pairs_of_records plan) next.1
    ∙ pairs_more plan (records_in plan pieces) next.0
    ∙ ap (λ (ps : List (ℕ × List ℕ)). told ++ ps) (ap₂ (λ (records : List Record) (n : ℕ). pairs_of_record plan records n) (sym next.1) (length-records plan.recording pieces))
last_pairs_on (Some size) plan frames frame = frame_pairs_more plan frames frame

pub last_pairs : (plan : PlanFields) (pieces : List (List ℕ)) (piece : List ℕ)
    → told_pairs plan (pieces ++ piece ∷ []) ≡ told_pairs plan pieces ++ pairs_of_piece plan (pieces ++ piece ∷ []) (length pieces)
last_pairs plan pieces piece = last_pairs_on plan.frame_bytes plan pieces piece
