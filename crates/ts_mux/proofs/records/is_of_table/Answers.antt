use Rattle.std.proofs.Common.{arith}
use Rattle.plan.specs.PlanView.{plan_fields}
use Rattle.ts_mux.proofs.Signalled.{cycle_some}
use Rattle.ts_mux.proofs.records.is_of_table.Goals as goal

pub nonzero_rem-result : goal.nonzero_rem-result
nonzero_rem-result c = omega (arith, c.from.ensures, cycle_some (plan_fields c.args.plan.now) c.args.plan.now.valid)
