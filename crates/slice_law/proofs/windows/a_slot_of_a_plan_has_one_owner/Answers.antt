use Rattle.slice_law.proofs.Checks.{inside}
use Rattle.slice_law.proofs.PlanOwners.{plan_apart, owner_is, is_owned}
use Rattle.slice_law.proofs.windows.a_slot_of_a_plan_has_one_owner.Goals as goal

pub returns-clause-apart : goal.returns-clause-apart
returns-clause-apart c = plan_apart

pub returns-clause-inside : goal.returns-clause-inside
returns-clause-inside c = inside

pub returns-clause-owner : goal.returns-clause-owner
returns-clause-owner c = λ plan accepted offset k n.
    (owner_is plan accepted offset k n, λ found. is_owned plan accepted offset k n found.0 found.1 found.2 found.3)
