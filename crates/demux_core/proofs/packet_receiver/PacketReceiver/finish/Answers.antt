use Rattle.std.proofs.Common.{◌≤◌, ◌^◌, false, true, length, OnOk, OnErr, ap, refl, sym, ◌∙◌, subst, arith}
use Rattle.plan_spec.specs.Plan.{PlanFields}
use Rattle.plan.specs.PlanView.{plan_fields}
use Rattle.reception_spec.specs.Spans.{version_at_end}
use Rattle.reception_spec.specs.Delivered.{pairs_of_end}
use Rattle.loss_report.specs.declared.counts.StreamCounts.{StreamCounts}
use Rattle.outlet_spec.specs.Pairs.{Delivers, DeliversFront}
use Rattle.demux_core.specs.Receiving.{ReceiverState, HasReceived}
use Rattle.demux_core.specs.Services.{HaveAllReceived}
use Rattle.demux_core.proofs.Laws.{laws_of}
use Rattle.demux_core.proofs.Switches.{end_pairs}
use Rattle.demux_core.proofs.Numbers.{all_along}
use Rattle.demux_core.proofs.packet_receiver.PacketReceiver.finish.Goals as goal

pub returns-clause-received : goal.returns-clause-received
returns-clause-received g c = λ plan records has.
    let seen : HasReceived false plan records _ = subst (λ (v : ReceiverState). HasReceived false plan records v) (sym c.self.view_is) has in
    let own : PlanFields = plan_fields c.self.inside.plan.now in
    let few : length records ≤ 2 ^ 32 = omega (arith, c.self.invariant.2, ap (λ (s : StreamCounts). s.records) seen.stream) in
    let all : HaveAllReceived false own c.self.inside.services.receivers.items c.self.inside.table records =
    all_along false plan own c.self.inside.services.receivers.items c.self.inside.services.receivers.items c.self.inside.table records records (sym seen.plan_is) refl refl seen.all in
    record {
      plan_is = seen.plan_is;
      stream = seen.stream;
      all = all_along true own plan c.close_services.new.services.receivers.items c.close_services.new.services.receivers.items c.self.inside.table records records seen.plan_is refl refl
          (record { services = c.close_services.ensures.ended (version_at_end own records) records few all.services; int = all.int });
    }

pub returns-clause-written : goal.returns-clause-written
returns-clause-written g c = λ plan records has.
    let seen : HasReceived false plan records _ = subst (λ (v : ReceiverState). HasReceived false plan records v) (sym c.self.view_is) has in
    let own : PlanFields = plan_fields c.self.inside.plan.now in
    let few : length records ≤ 2 ^ 32 = omega (arith, c.self.invariant.2, ap (λ (s : StreamCounts). s.records) seen.stream) in
    let all : HaveAllReceived false own c.self.inside.services.receivers.items c.self.inside.table records =
    all_along false plan own c.self.inside.services.receivers.items c.self.inside.services.receivers.items c.self.inside.table records records (sym seen.plan_is) refl refl seen.all in
    subst (λ pairs. OnOk c.close_services.result (Delivers (g.T.Outlet.StandsFor c.args.outlet.now) (g.T.Outlet.StandsFor c.close_services.new.outlet) pairs))
    (sym (end_pairs own (laws_of own c.self.invariant.0.right_changes) records) ∙ ap (λ (p : PlanFields). pairs_of_end p records) seen.plan_is)
    (c.close_services.ensures.delivered (version_at_end own records) records few all.services)

pub returns-clause-failed : goal.returns-clause-failed
returns-clause-failed g c = λ plan records has.
    let seen : HasReceived false plan records _ = subst (λ (v : ReceiverState). HasReceived false plan records v) (sym c.self.view_is) has in
    let own : PlanFields = plan_fields c.self.inside.plan.now in
    let few : length records ≤ 2 ^ 32 = omega (arith, c.self.invariant.2, ap (λ (s : StreamCounts). s.records) seen.stream) in
    let all : HaveAllReceived false own c.self.inside.services.receivers.items c.self.inside.table records =
    all_along false plan own c.self.inside.services.receivers.items c.self.inside.services.receivers.items c.self.inside.table records records (sym seen.plan_is) refl refl seen.all in
    subst (λ pairs. OnErr c.close_services.result (DeliversFront (g.T.Outlet.StandsFor c.args.outlet.now) (g.T.Outlet.StandsFor c.close_services.new.outlet) (g.T.Outlet.Refused c.close_services.new.outlet) pairs))
    (sym (end_pairs own (laws_of own c.self.invariant.0.right_changes) records) ∙ ap (λ (p : PlanFields). pairs_of_end p records) seen.plan_is)
    (c.close_services.ensures.failed (version_at_end own records) records few all.services)
