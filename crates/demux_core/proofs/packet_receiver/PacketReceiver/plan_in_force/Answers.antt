use Rattle.std.proofs.Common.{◌≡◌, false, ◌∙◌, sym, subst}
use Rattle.plan_spec.specs.Plan.{PlanFields}
use Rattle.plan_spec.specs.Changes.{has_wrong_change}
use Rattle.demux_core.specs.Receiving.{ReceiverState, HasReceived}
use Rattle.demux_core.proofs.Laws.{laws_of}
use Rattle.demux_core.proofs.Whole.{version_is}
use Rattle.demux_core.proofs.packet_receiver.PacketReceiver.plan_in_force.Goals as goal

pub returns : goal.returns
returns c = record {
  read = λ ended plan records has.
      let seen : HasReceived ended plan records _ = subst (λ (v : ReceiverState). HasReceived ended plan records v) (sym c.self.view_is) has in
      c.version_in_force.ensures.read
      ∙ version_is plan (laws_of plan (subst (λ (p : PlanFields). has_wrong_change p ≡ false) seen.plan_is c.self.invariant.0.right_changes)) c.self.inside.table records seen.all.int;
}
