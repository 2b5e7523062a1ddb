use Rattle.std.proofs.Common.{◌≡◌, Option, Some, None}
use Rattle.plan_spec.specs.Plan.{SlicedFields, sliced_of}
use Rattle.plan_spec.specs.Signalling.{table_packets}
use Rattle.stream_spec.specs.Services.{kind_at}
use Rattle.stream_spec.specs.Windows.{windows_of}
use Rattle.slice_law.proofs.Checks.{shorter}
use Rattle.slice_law.proofs.PlanOwners.{owner_is}
use Rattle.slice_law.proofs.After.{leaves, keeps_none, keeps_none_of}
use Rattle.slice_law.proofs.slots.bursts_leave_slots.Goals as goal

not_both : (fields : SlicedFields) (o : Option SlicedFields) → o ≡ Some fields → o ≡ None → ⊥
not_both fields o e e2 = absurd (cc)

pub returns-clause-leaves : goal.returns-clause-leaves
returns-clause-leaves c = λ plan accepted sizes cycles are. leaves plan.cycle (table_packets plan) (windows_of plan) sizes cycles are (shorter plan accepted)

pub returns-clause-over : goal.returns-clause-over
returns-clause-over c = λ plan accepted sizes cycles are. keeps_none plan.cycle (table_packets plan) (windows_of plan) sizes cycles are (shorter plan accepted)

pub returns-clause-unsliced : goal.returns-clause-unsliced
returns-clause-unsliced c = λ plan accepted sizes k none.
    keeps_none_of plan.cycle (table_packets plan) (windows_of plan) sizes k
    (λ o n e. not_both (owner_is plan accepted o k n e).0 (sliced_of (kind_at plan k)) (owner_is plan accepted o k n e).1 none)
