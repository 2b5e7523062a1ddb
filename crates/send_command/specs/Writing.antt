-- What is written of what was offered.
use Rattle.std.specs.Prelude.{ℕ, List, take, Option, Result, Ok, Err}
use Rattle.std.specs.Io.KnownBytes.{Appends}
use Rattle.wire_spec.specs.Lists.{joined}
use Rattle.plan_spec.specs.Plan.{PlanFields}
use Rattle.plan_spec.specs.Offered.{Records, offered_in}
use Rattle.carrier_spec.specs.Stream.{IsSentStream}
use Rattle.datagram_routing.specs.declared.faults.MuxFault.{MuxFault}
use Rattle.send_command.specs.Tally.{IsTally}
use Rattle.send_command.specs.declared.ends.Tally.{Tally}

-- the whole stream of what services take of these records, each in the version of its record; and these are the numbers
pub record WritesAll (plan : PlanFields) (gives : Records) (tally : Tally) (old new : Option (List ℕ)) : Type 0 where
  pub stream : List (List ℕ)
  pub stream_is : IsSentStream plan (offered_in plan gives) stream
  pub written : Appends old new (joined stream)
  pub numbers : IsTally plan gives tally

-- a front of that stream
pub record WritesFront (plan : PlanFields) (gives : Records) (old new : Option (List ℕ)) : Type 0 where
  pub stream : List (List ℕ)
  pub stream_is : IsSentStream plan (offered_in plan gives) stream
  pub count : ℕ
  pub written : Appends old new (take count (joined stream))

-- what is written of what was offered, by the answer
abbrev pub Writes : PlanFields → Records → Result Tally MuxFault → Option (List ℕ) → Option (List ℕ) → Type 0
Writes plan gives (Ok tally) old new = WritesAll plan gives tally old new
Writes plan gives (Err fault) old new = WritesFront plan gives old new
