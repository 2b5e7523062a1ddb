-- What a relay sends: all datagrams that a recording delivers under one plan, of all services in the order of the pieces that give them,
-- offered under another plan as those of a capture are, and the sender's stream of them. Profile: all of it.
use Rattle.std.specs.Prelude.{ℕ, List, map, Some}
use Rattle.plan_spec.specs.Plan.{PlanFields}
use Rattle.plan_spec.specs.Offered.{Records, offered_in}
use Rattle.carrier_spec.specs.Stream.{IsSentStream}
use Rattle.recording_spec.specs.Pieces.{delivered_pairs}

-- the datagrams of pairs of service and datagram
abbrev pub datagrams_in : List (ℕ × List ℕ) → List (List ℕ)
datagrams_in pairs = map (λ (pair : ℕ × List ℕ). pair.1) pairs

-- the datagrams that a recording delivers, of all services in one order
abbrev pub relayed : PlanFields → List (List ℕ) → List (List ℕ)
relayed plan pieces = datagrams_in (delivered_pairs plan pieces)

-- records of a capture that have these datagrams, one each
abbrev pub as_records : List (List ℕ) → Records
as_records datagrams = map (λ (datagram : List ℕ). Some datagram) datagrams

-- this stream, under the outer plan, is what a relay sends of the pieces of a recording, which it receives under the inner plan
abbrev pub IsRelayed : (inner outer : PlanFields) (pieces stream : List (List ℕ)) → Type 0
IsRelayed inner outer pieces stream = IsSentStream outer (offered_in outer (as_records (relayed inner pieces))) stream
