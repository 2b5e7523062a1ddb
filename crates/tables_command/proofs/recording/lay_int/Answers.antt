use Rattle.plan.specs.Parts.{int_seen}
use Rattle.plan.specs.PlanView.{plan_fields}
use Rattle.ts_mux.proofs.Signalled.{platform_below}
use Rattle.tables_command.proofs.recording.lay_int.Goals as goal

pub lay-requires-clause-pid : goal.lay-requires-clause-pid
lay-requires-clause-pid c = (platform_below (plan_fields c.args.plan.now) (int_seen c.args.int.now) c.args.plan.now.valid c.requires).1
