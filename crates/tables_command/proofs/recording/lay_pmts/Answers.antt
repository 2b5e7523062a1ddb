use Rattle.std.proofs.Common.{◌∙◌}
use Rattle.plan.specs.PlanView.{plan_fields}
use Rattle.psi_tables.specs.Views.{program_seen}
use Rattle.psi_spec.specs.Tables.{laid_pmt}
use Rattle.tables_command.proofs.Recorded.{next_laid}
use Rattle.tables_command.proofs.recording.lay_pmts.Goals as goal

pub loop-place-preserved : goal.loop-place-preserved
loop-place-preserved c = rw c.in-Ok.ensures
    (next_laid (laid_pmt (plan_fields c.args.plan.now)) c.loop-place.packets.items c.args.pat.now.programs c.loop-place.place (program_seen c.at.result.now)
    (rw c.len-place-end.ensures at c.loop-place-test.true) c.at.ensures ∙ c.loop-place.invariant)
