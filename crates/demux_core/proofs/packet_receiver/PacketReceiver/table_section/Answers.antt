use Rattle.std.proofs.Common.{◌≡◌, false, ◌∙◌, ap, sym, subst}
use Rattle.plan_spec.specs.Plan.{PlanFields}
use Rattle.plan_spec.specs.Changes.{has_wrong_change}
use Rattle.demux_core.specs.Receiving.{ReceiverState, HasReceived}
use Rattle.demux_core.proofs.Laws.{laws_of}
use Rattle.demux_core.proofs.Whole.{shown_of, shown_is}
use Rattle.demux_core.proofs.packet_receiver.PacketReceiver.table_section.Goals as goal

pub returns-in-Some : goal.returns-in-Some
returns-in-Some c = record {
  read = λ ended plan records has.
      let seen : HasReceived ended plan records _ = subst (λ (v : ReceiverState). HasReceived ended plan records v) (sym c.self.view_is) has in
      c.section.ensures.read ∙ ap shown_of (sym c.in-Some.is)
      ∙ shown_is plan (laws_of plan (subst (λ (p : PlanFields). has_wrong_change p ≡ false) seen.plan_is c.self.invariant.0.right_changes)) c.self.inside.table records seen.all.int;
}

pub returns-in-None : goal.returns-in-None
returns-in-None c = record {
  read = λ ended plan records has.
      let seen : HasReceived ended plan records _ = subst (λ (v : ReceiverState). HasReceived ended plan records v) (sym c.self.view_is) has in
      ap shown_of (sym c.in-None.is)
      ∙ shown_is plan (laws_of plan (subst (λ (p : PlanFields). has_wrong_change p ≡ false) seen.plan_is c.self.invariant.0.right_changes)) c.self.inside.table records seen.all.int;
}
