-- Which records are packets of a service, of the INT, or of neither (ISO/IEC 13818-1 clause 2.4.3.2).
use Rattle.std.specs.Prelude.{ℕ, Bool, not, ◌&&◌, ◌||◌, List, ◌++◌, ◌==◌, is_none, is_some}
use Rattle.std.specs.List.{list_any}
use Rattle.ts_spec.specs.Packet.{fields_of, is_packet, lacks_sync, is_marked, has_bad_adaptation, lacks_payload}
use Rattle.ts_spec.specs.Recording.{Record}
use Rattle.ts_spec.specs.Received.{is_of}
use Rattle.plan_spec.specs.Plan.{PlanFields, table_pids, service_pids}

-- a packet with an adaptation field alone (ISO/IEC 13818-1 clause 2.4.3.3)
abbrev pub is_without_payload : List ℕ → Bool
is_without_payload bytes = not (lacks_sync bytes || (is_marked bytes || has_bad_adaptation bytes)) && lacks_payload bytes

-- the PIDs of a plan: those of its services and of its INT, which a receiver reads
abbrev pub heard_pids : PlanFields → List ℕ
heard_pids plan = table_pids plan.table ++ service_pids plan

abbrev pub is_pid_of : PlanFields → ℕ → Bool
is_pid_of plan pid = list_any (λ other. other == pid) (heard_pids plan)

-- the record has a moment and is a packet of this PID
abbrev pub is_on : ℕ → Record → Bool
is_on pid r = is_some r.moment && is_of pid r.bytes

-- a record that has no moment, or is neither a packet that can be read nor one without payload
abbrev pub is_unreadable : Record → Bool
is_unreadable r = is_none r.moment || not (is_packet r.bytes || is_without_payload r.bytes)

-- a packet without payload, with a moment
abbrev pub lacks_content : Record → Bool
lacks_content r = not (is_none r.moment) && is_without_payload r.bytes

-- a packet that can be read, with a moment, of no service and not of the INT
abbrev pub is_other : PlanFields → Record → Bool
is_other plan r = not (is_none r.moment) && (is_packet r.bytes && not (is_pid_of plan (fields_of r.bytes).pid))
