-- What is sent of what was offered.
use Rattle.std.specs.Prelude.{◌≡◌, ℕ, ◌+◌, ◌<◌, ◌≤◌, List, [], length, get_or, slice_get, Option, Some, Result, IfOk}
use Rattle.wire_spec.specs.Lists.{joined}
use Rattle.wire_spec.specs.Content.{Puts}
use Rattle.plan_spec.specs.Plan.{PlanFields}
use Rattle.stream_spec.specs.Stream.{IsStream}
use Rattle.ts_mux.specs.PartUnits.{MadeUnits, AreUnitsOf}
use Rattle.ts_mux.specs.Services.{frames_before}
use Rattle.datagram_routing.specs.declared.sent.Sent.{Sent}
use Rattle.datagram_routing.specs.declared.faults.MuxFault.{MuxFault}

-- a call wrote the stream of transport packets of these datagrams, by version and service: all of it at Ok, with the number of its packets,
-- and a prefix at Err
pub record WritesPackets (plan : PlanFields) (datagrams : ℕ → ℕ → List (List ℕ)) (result : Result Sent MuxFault) (old new : Option (List ℕ)) : Type 0 where
  pub records : List (List ℕ)
  pub stream : IsStream plan datagrams records
  pub written : Puts result old new (joined records)
  pub packets : IfOk result (λ sent. sent.packets ≡ length records)

-- the records of the stream were written, as so many packets
pub record WritesRecords {E : Type 0} (plan : PlanFields) (datagrams : ℕ → ℕ → List (List ℕ)) (result : Result ℕ E) (old new : Option (List ℕ)) : Type 0 where
  pub records : List (List ℕ)
  pub stream : IsStream plan datagrams records
  pub written : Puts result old new (joined records)
  pub packets : IfOk result (λ n. n ≡ length records)

-- these are listed, by version and service
pub record AreDatagrams (plan : PlanFields) (datagrams : ℕ → ℕ → List (List ℕ)) (lists : List (List (List (List ℕ)))) : Type 0 where
  pub versions : length lists ≡ length plan.changes + 1
  pub each : (version k : ℕ) → version ≤ length plan.changes → k < length plan.services
      → slice_get (get_or lists version []) k ≡ Some (datagrams version k)

-- what each part is sent from
pub record AreUnits (plan : PlanFields) (lists : List (List (List (List ℕ)))) (units : List MadeUnits) : Type 0 where
  pub versions : length lists ≡ length plan.changes + 1
  pub size : length units ≡ length lists
  pub each : (version : ℕ) (made : MadeUnits) → slice_get units version ≡ Some made → AreUnitsOf plan version (frames_before plan lists version) (get_or lists version []) made
