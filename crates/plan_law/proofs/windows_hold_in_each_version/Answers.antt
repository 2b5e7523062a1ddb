use Rattle.std.proofs.Common.{◌∙◌, arith}
use Rattle.plan_spec.specs.Signalling.{table_packets}
use Rattle.plan_spec.specs.Changes.{plan_in}
use Rattle.plan_spec.specs.Wholes.{most_table_packets}
use Rattle.plan_law.proofs.Kept.{window_kept}
use Rattle.plan_law.proofs.Windows.{windows_right, most_packets}
use Rattle.plan_law.proofs.windows_hold_in_each_version.Goals as goal

pub returns : goal.returns
returns c = λ plan version there right.
    window_kept plan version (table_packets (plan_in plan version))
    ∙ windows_right plan (table_packets (plan_in plan version)) (most_table_packets plan) (most_packets plan version (omega (arith, there))) right
