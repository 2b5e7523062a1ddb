use Rattle.plan.specs.PlanView.{plan_fields}
use Rattle.recording_reception.proofs.Begun.{has_begun}
use Rattle.recording_reception.proofs.reception.Reception.open.Goals as goal

pub returns : goal.returns
returns c = record {
  begun = has_begun (plan_fields c.args.plan.now) c.in_ok-receiver.receiver c.in_ok-pieces.pieces c.args.plan.now.whole c.in_ok-pieces.ensures.form c.in_ok-pieces.ensures.content
      c.in_ok-pieces.ensures.unread c.in_ok-pieces.ensures.uncounted c.in_ok-receiver.ensures.packets c.in_ok-receiver.ensures.frames c.in_ok-receiver.ensures.is_open c.in_ok-receiver.ensures.plan;
}
