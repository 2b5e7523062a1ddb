-- What the checks over a whole plan ask of its services.
use Rattle.std.specs.Prelude.{ℕ, ◌-◌, ◌*◌, ◌/◌, Bool, true, false, nat_lt, ◌==◌, List, Option, None, Some, is_some}
use Rattle.std.specs.List.{list_any, filter_map}
use Rattle.plan_spec.specs.Plan.{KindFields, IntFields, PlanFields, pid_of, isi_of, SlicedFields, sliced_of}
use Rattle.plan.specs.Parts.{kind_seen}
use Rattle.plan.specs.declared.service.Service.{Service}
use Rattle.service_plan.specs.declared.window_checks.Sliced.{Sliced}

-- the ISI in baseband frames, the PID in packets
abbrev pub id_seen : Bool → KindFields → Option ℕ
id_seen true kind = isi_of kind
id_seen false kind = pid_of kind

abbrev pub sliced_view : Sliced → SlicedFields
sliced_view s = record { rows = s.rows; parity = s.parity; start = s.start; length = s.length }

abbrev pub has_slices : KindFields → Bool
has_slices kind = is_some (sliced_of kind)

abbrev pub is_small_gap : PlanFields → SlicedFields → Bool
is_small_gap plan service = nat_lt ((plan.cycle - service.length) * 1000000 / plan.packet_rate) 10000

abbrev pub ids_seen : Bool → List Service → List ℕ
ids_seen baseband services = filter_map (λ (s : Service). id_seen baseband (kind_seen s.kind)) services

-- the INT has one of these PIDs
abbrev pub int_shares : Option IntFields → List ℕ → Bool
int_shares None pids = false
int_shares (Some int) pids = list_any (λ x. int.pid == x) pids
