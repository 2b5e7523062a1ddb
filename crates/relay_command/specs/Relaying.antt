-- What a relay ensures, by its answer: one record, a field a sentence.
use Rattle.std.specs.Prelude.{◌≡◌, ◌≢◌, ◌⊎◌, ℕ, Bool, true, false, List, All, Option}
use Rattle.wire_spec.specs.Bytes.{AreBytes}
use Rattle.wire_spec.specs.Causes.{Rose}
use Rattle.wire_spec.specs.Content.{Stays}
use Rattle.ipe_io.specs.Told.{InputTold, OutputTold}
use Rattle.ipe_io.specs.Counts.{IsFlushed}
use Rattle.plan_spec.specs.Plan.{PlanFields}
use Rattle.send_command.specs.Writing.{WritesAll, WritesFront}
use Rattle.send_command.specs.declared.ends.Tally.{Tally}
use Rattle.recording_spec.specs.Relayed.{as_records}
use Rattle.relay_core.specs.Gathering.{FitsCapture}
use Rattle.datagram_routing.specs.Offering.{IsOffered}
use Rattle.datagram_routing.specs.declared.offered.Offered.{Offered}
use Rattle.relay_command.specs.Gathered.{Gathers, FailsToRead, HasTooMany, LacksForDatagram}
use Rattle.relay_command.specs.declared.ends.RelayEnd.{RelayEnd}
use Rattle.relay_command.specs.declared.ends.RelayEnd.TheVariants as ends

-- the input was read to its end, and these are all datagrams that the recording delivers under the plan: no more than a capture has, and bytes
pub record Receives (plan : PlanFields) (input now : InputTold) (datagrams : List (List ℕ)) : Type 0 where
  pub gathers : Gathers plan input now datagrams
  pub fits : FitsCapture datagrams
  pub of_bytes : All AreBytes datagrams

-- they were offered under the outer plan, as the records of a capture
pub record GathersInto (inner outer : PlanFields) (input now : InputTold) (offered : Offered) : Type 0 where
  pub datagrams : List (List ℕ)
  pub receives : Receives inner input now datagrams
  pub offers : IsOffered outer (as_records datagrams) offered

-- memory ran out: before the input was read, at a datagram with which the limits are not passed, or after all datagrams were gathered
pub data RelayLacksMemory (plan : PlanFields) (input now : InputTold) : Type 0 where
  unread : now ≡ input → RelayLacksMemory plan input now
  at_datagram : LacksForDatagram plan input now → RelayLacksMemory plan input now
  gathered : (datagrams : List (List ℕ)) → Receives plan input now datagrams → RelayLacksMemory plan input now

-- the whole stream of them was written, as of a capture's records, and these are the numbers
pub record RelaysAll (inner outer : PlanFields) (input now : InputTold) (tally : Tally) (old new : Option (List ℕ)) : Type 0 where
  pub datagrams : List (List ℕ)
  pub receives : Receives inner input now datagrams
  pub writes : WritesAll outer (as_records datagrams) tally old new

-- a front of that stream was written
pub record RelaysFront (inner outer : PlanFields) (input now : InputTold) (old new : Option (List ℕ)) : Type 0 where
  pub datagrams : List (List ℕ)
  pub receives : Receives inner input now datagrams
  pub writes : WritesFront outer (as_records datagrams) old new

-- what stands after each end; after the last three nothing was written
abbrev pub Stands : RelayEnd → PlanFields → PlanFields → InputTold → InputTold → Option (List ℕ) → Option (List ℕ) → Type 0
Stands (ends.Done tally) inner outer input now old new = RelaysAll inner outer input now tally old new
Stands ends.SinkFault inner outer input now old new = RelaysFront inner outer input now old new
Stands ends.SourceFault inner outer input now old new = FailsToRead inner input now
Stands ends.TooLong inner outer input now old new = HasTooMany inner input now
Stands ends.OutOfMemory inner outer input now old new = RelayLacksMemory inner input now

-- writing was begun
abbrev pub is_begun : RelayEnd → Bool
is_begun (ends.Done tally) = true
is_begun ends.SinkFault = true
is_begun ends.SourceFault = false
is_begun ends.TooLong = false
is_begun ends.OutOfMemory = false

-- the whole stream was written
abbrev pub is_done : RelayEnd → Bool
is_done (ends.Done tally) = true
is_done ends.SinkFault = false
is_done ends.SourceFault = false
is_done ends.TooLong = false
is_done ends.OutOfMemory = false

-- A relay, from an input and an output as they were; Silent says that the output is the very one. It ends at a fault of the input or the
-- output only where that was counted, and no other count changes
pub record Relays (result : RelayEnd) (inner outer : PlanFields) (input now : InputTold) (output written : OutputTold) (Silent : Type 0) : Type 0 where
  pub stands : Stands result inner outer input now output.held written.held
  pub flushed : is_done result ≡ true → IsFlushed written.held written.flushed
  pub unflushed : result ≡ ends.SinkFault → Stays output.flushed written.flushed
  pub unchanged : is_begun result ≡ true ⊎ Silent
  pub sink : result ≡ ends.SinkFault → Rose output.faults written.faults
  pub input_kept : result ≢ ends.SourceFault → now.faults ≡ input.faults
  pub output_kept : result ≢ ends.SinkFault → written.faults ≡ output.faults
