-- What becomes of a sample's stream, packet by packet.
use Rattle.std.specs.Prelude.{◌≡◌, ℕ, ◌+◌, ◌*◌, false, List, ◌++◌, length, All}
use Rattle.wire_spec.specs.Lists.{joined}
use Rattle.ts_spec.specs.Recording.{Record, stamped, records_of, record_size}
use Rattle.plan_spec.specs.Given.{sample_plan}
use Rattle.reception_spec.specs.Delivered.{told_pairs}
use Rattle.sample_spec.specs.Draws.{state_after}
use Rattle.sample_spec.specs.Datagrams.{datagram_count}
use Rattle.sample_spec.specs.Summary.{dropped_count, kept_of, delivered_count}
use Rattle.demux_core.specs.Receiving.{ReceiverState, HasReceived}
use Rattle.sample_command.specs.Counting.{StandsFor}
use Rattle.sample_command.specs.declared.outlet.Delivered.{Delivered}
use Rattle.sample_command.specs.declared.losses.Rest.{Rest}

-- pieces of a stamped recording
abbrev pub ArePieces : List (List ℕ) → Type 0
ArePieces pieces = All (λ piece. length piece ≡ record_size stamped) pieces

-- the records of the packets that are not dropped
abbrev pub kept_records : ℕ → List (List ℕ) → List Record
kept_records number pieces = records_of sample_plan.recording (kept_of number pieces)

-- the first packets of a stream were taken: each had its draw, so many were dropped, and the receiver was given the others
pub record HasTaken (number : ℕ) (pieces : List (List ℕ)) (draws dropped : ℕ) (receiver : ReceiverState) (delivered : Delivered) : Type 0 where
  pub drawn : draws ≡ state_after number (2 * datagram_count + length pieces)
  pub dropped_is : dropped ≡ dropped_count number pieces
  pub received : HasReceived false sample_plan (kept_records number pieces) receiver
  pub told : StandsFor delivered (told_pairs sample_plan (kept_records number pieces))

-- some of the packets of a stream were taken, and these bytes are left
pub record IsTaking (number : ℕ) (pieces : List (List ℕ)) (left : List ℕ) (draws dropped : ℕ) (receiver : ReceiverState) (delivered : Delivered) : Type 0 where
  pub before : List (List ℕ)
  pub after : List (List ℕ)
  pub parts : pieces ≡ before ++ after
  pub left_is : left ≡ joined after
  pub taken : HasTaken number before draws dropped receiver delivered

-- how many packets of a whole stream are dropped, and how many datagrams the others deliver
pub record IsRest (number : ℕ) (pieces : List (List ℕ)) (rest : Rest) : Type 0 where
  pub dropped : rest.dropped ≡ dropped_count number pieces
  pub lecture : rest.delivered.lecture ≡ delivered_count number pieces 0
  pub files : rest.delivered.files ≡ delivered_count number pieces 1
