use Rattle.plan.specs.PlanView.{plan_fields}
use Rattle.settings_load.specs.Lines.{check_text}
use Rattle.settings_load.proofs.Texts.{puts_kept, stays_at_err, cause_kept}
use Rattle.settings_load.proofs.list.list_services.Goals as goal

pub returns-clause-written : goal.returns-clause-written
returns-clause-written g c =
    puts_kept c.flush.result (g.O.Sink.told c.args.output.now).held (g.O.Sink.told c.put_plan.new.output).held (g.O.Sink.told c.flush.new.self).held
    (check_text (plan_fields c.args.plan.now)) c.in_ok-put_plan.ensures.written c.flush.ensures.kept

pub returns-clause-unflushed : goal.returns-clause-unflushed
returns-clause-unflushed g c =
    stays_at_err c.flush.result (g.O.Sink.told c.args.output.now).flushed (g.O.Sink.told c.put_plan.new.output).flushed (g.O.Sink.told c.flush.new.self).flushed
    c.in_ok-put_plan.ensures.flushed c.flush.ensures.unchanged

pub returns-clause-cause : goal.returns-clause-cause
returns-clause-cause g c =
    cause_kept c.flush.result (g.O.Sink.told c.args.output.now).faults (g.O.Sink.told c.put_plan.new.output).faults (g.O.Sink.told c.flush.new.self).faults
    c.in_ok-put_plan.ensures.cause.kept c.flush.ensures.cause
