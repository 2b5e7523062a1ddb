-- What is sent of what was offered, by the carrier of the plan.
use Rattle.std.specs.Prelude.{◌≡◌, ℕ, List, length, Option, Result, IfOk}
use Rattle.wire_spec.specs.Lists.{joined}
use Rattle.wire_spec.specs.Content.{Puts}
use Rattle.plan_spec.specs.Plan.{PlanFields}
use Rattle.carrier_spec.specs.Stream.{IsSentStream}
use Rattle.datagram_routing.specs.declared.sent.Sent.{Sent}
use Rattle.datagram_routing.specs.declared.faults.MuxFault.{MuxFault}

-- a call wrote the stream of these datagrams, by version and service: all of it at Ok, with the number of its packets or frames, and a
-- prefix at Err
pub record WritesStream (plan : PlanFields) (datagrams : ℕ → ℕ → List (List ℕ)) (result : Result Sent MuxFault) (old new : Option (List ℕ)) : Type 0 where
  pub pieces : List (List ℕ)
  pub stream : IsSentStream plan datagrams pieces
  pub written : Puts result old new (joined pieces)
  pub packets : IfOk result (λ sent. sent.packets ≡ length pieces)
