-- Recordings that are the same on one PID, or on all PIDs of a service and the INT's, whatever stands on the others.
use Rattle.std.specs.Prelude.{◌≡◌, ◌==◌, ℕ, ◌&&◌, Bool, true, false, List, [], ◌++◌, length, map, filter, if◌then◌else◌, option_map, is_some}
use Rattle.std.specs.List.{list_any}
use Rattle.ts_spec.specs.Recording.{Record}
use Rattle.ts_spec.specs.Received.{Arrival, arrivals}
use Rattle.plan_spec.specs.Plan.{KindFields, PlanFields, table_pids, sliced_of}
use Rattle.plan_spec.specs.Changes.{pids_in}
use Rattle.reception_spec.specs.Packets.{is_on}
use Rattle.loss_law.specs.Loss.{service_at}

-- moments are read of a service of this kind: with time slicing alone
abbrev pub reads_moments : KindFields → Bool
reads_moments kind = is_some (sliced_of kind)

-- what is read of a packet: its bytes, and its moment where moments are read
abbrev pub packet_read : (with_moment : Bool) → Arrival → ℕ × List ℕ
packet_read true a = (a.moment, a.bytes)
packet_read false a = (0, a.bytes)

-- both have the same readable packets of the PID, with their moments or without, in the same order; their places may differ
abbrev pub SamePackets : (with_moments : Bool) → ℕ → List Record → List Record → Type 0
SamePackets with_moments pid records others = map (packet_read with_moments) (arrivals pid records) ≡ map (packet_read with_moments) (arrivals pid others)

-- the PIDs that say what service k delivers: its own, and where the plan changes that of the INT, which says when
abbrev pub pids_for : PlanFields → ℕ → List ℕ
pids_for plan k = (if length plan.changes == 0 then [] else table_pids plan.table) ++ pids_in plan k

-- the record has a moment and is a packet of one of these
abbrev pub is_for : PlanFields → ℕ → Record → Bool
is_for plan k r = list_any (λ pid. is_on pid r) (pids_for plan k)

-- what a service reads of such a record: its bytes, and with time slicing the moment too of a packet on its own PIDs
abbrev pub read_of : (with_moment : Bool) → Record → Record
read_of true r = r
read_of false r = record { moment = option_map (λ time. 0) r.moment; bytes = r.bytes }

-- the record has a moment and is a packet on a PID of the service's own
abbrev pub is_on_own : PlanFields → ℕ → Record → Bool
is_on_own plan k r = list_any (λ pid. is_on pid r) (pids_in plan k)

abbrev pub read_for : PlanFields → ℕ → List Record → List Record
read_for plan k records = map (λ r. read_of (reads_moments (service_at plan k).kind && is_on_own plan k r) r) (filter (is_for plan k) records)

-- both have the same such packets, in one order and as the service reads them: which span a packet stands in is said by the sections before it
abbrev pub SameForService : PlanFields → ℕ → List Record → List Record → Type 0
SameForService plan k records others = read_for plan k records ≡ read_for plan k others
