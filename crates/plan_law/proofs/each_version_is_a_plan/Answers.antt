use Rattle.std.proofs.Common.{arith}
use Rattle.plan_law.proofs.Versions.{each_version, whole_is_plan, first_is_zero}
use Rattle.plan_law.proofs.each_version_is_a_plan.Goals as goal

pub returns : goal.returns
returns c = record {
  each = λ plan version whole there. each_version plan version whole (omega (arith, there));
  written = whole_is_plan;
  first = first_is_zero;
}
