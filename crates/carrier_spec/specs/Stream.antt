-- The sender's stream of a plan of either carrier, in pieces: records of transport packets, or baseband frames.
use Rattle.std.specs.Prelude.{◌≡◌, ℕ, true, false, List}
use Rattle.std.specs.Option.{unwrap_or}
use Rattle.ts_spec.specs.Recording.{record_size}
use Rattle.plan_spec.specs.Plan.{PlanFields, is_baseband}
use Rattle.stream_spec.specs.Stream.{IsStream}
use Rattle.bb_stream_spec.specs.Stream.{IsBasebandStream}

-- the pieces are the stream of these datagrams, by version and service: of a plan of baseband frames these, and of any other records
pub record IsSentStream (plan : PlanFields) (datagrams : ℕ → ℕ → List (List ℕ)) (pieces : List (List ℕ)) : Type 0 where
  pub in_frames : is_baseband plan ≡ true → IsBasebandStream plan datagrams pieces
  pub in_records : is_baseband plan ≡ false → IsStream plan datagrams pieces

-- the bytes of a piece: of a frame, or of a record
abbrev pub piece_size : PlanFields → ℕ
piece_size plan = unwrap_or plan.frame_bytes (record_size plan.recording)
