use Rattle.std.proofs.Common.{◌≡◌, ℕ, ◌+◌, ◌<◌, ◌≤◌, ◌^◌, false, length, Some, refl, ap, ap₂, ◌∙◌, sym, subst, arith}
use Rattle.std.specs.Prelude.{slice_get}
use Rattle.std.proofs.lemmas.Option.{slice_get_read}
use Rattle.plan_spec.specs.Plan.{PlanFields}
use Rattle.plan_spec.specs.Changes.{has_wrong_change}
use Rattle.reception_spec.specs.Spans.{version_at_end}
use Rattle.loss_report.specs.declared.counts.StreamCounts.{StreamCounts}
use Rattle.demux_core.specs.Receiving.{ReceiverState, HasReceived}
use Rattle.demux_core.specs.Services.{HasReceivedOne}
use Rattle.demux_core.proofs.Laws.{Laws, laws_of}
use Rattle.demux_core.proofs.One.{counts_are}
use Rattle.demux_core.proofs.packet_receiver.PacketReceiver.counts.Goals as goal

pub returns : goal.returns
returns c = record {
  read = λ ended plan records has.
      let seen : HasReceived ended plan records _ = subst (λ (v : ReceiverState). HasReceived ended plan records v) (sym c.self.view_is) has in
      let laws : Laws plan = laws_of plan (subst (λ (p : PlanFields). has_wrong_change p ≡ false) seen.plan_is c.self.invariant.0.right_changes) in
      let few : length records ≤ 2 ^ 32 = omega (arith, c.self.invariant.2, ap (λ (s : StreamCounts). s.records) seen.stream) in
      let few_changes : length plan.changes ≤ 31 = subst (λ (p : PlanFields). length p.changes ≤ 31) seen.plan_is c.self.invariant.0.few_changes in
      let asked = subst (λ (v : ReceiverState). c.args.service < length v.plan.services) (sym c.self.view_is) c.requires in
      let there : slice_get c.self.inside.services.receivers.items c.args.service ≡ Some c.index-receiver.result.now =
      slice_get_read c.self.inside.services.receivers.items (length c.self.inside.services.receivers.items) c.args.service c.index-receiver.result.now refl
      (omega (arith, asked, c.self.invariant.0.count_is)) c.index-receiver.ensures in
      let one : HasReceivedOne ended plan (version_at_end plan records) c.args.service c.index-receiver.result.now records =
      seen.all.services.each c.args.service c.index-receiver.result.now there in
      c.counts.ensures.read ∙ counts_are ended plan laws c.args.service c.index-receiver.result.now records one few few_changes;
}
