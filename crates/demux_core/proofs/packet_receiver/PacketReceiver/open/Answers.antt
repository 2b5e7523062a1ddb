use Rattle.std.proofs.Common.{ℕ, ◌≤◌, ◌∙◌, false, [], map, refl, ap, sym, subst, arith}
use Rattle.std.proofs.lemmas.List.{length-map}
use Rattle.plan.specs.Parts.{service_seen, change_seen}
use Rattle.plan.specs.PlanView.{plan_fields}
use Rattle.plan.proofs.RouteLemmas.{plans_are_small}
use Rattle.plan.proofs.VersionLemmas.{changes_are_few}
use Rattle.reception_law.proofs.Sums.{before_none, units_before_none, frames_before_none}
use Rattle.reception_law.proofs.VersionInForce.{first}
use Rattle.loss_report.specs.declared.counts.StreamCounts.{StreamCounts}
use Rattle.demux_core.specs.Services.{HaveReceived}
use Rattle.demux_core.proofs.Opened.{right_changes, right_rows, all_on_pids, as_many, received_nothing}
use Rattle.demux_core.proofs.packet_receiver.PacketReceiver.open.Goals as goal

pub overflow_cast-len : goal.overflow_cast-len
overflow_cast-len c = omega (arith, c.len.ensures.read, length-map c.args.plan.now.changes change_seen, changes_are_few (plan_fields c.args.plan.now) c.args.plan.now.whole)

pub open_services-requires-clause-on_pids : goal.open_services-requires-clause-on_pids
open_services-requires-clause-on_pids c = all_on_pids (plan_fields c.args.plan.now) c.args.plan.now.services refl c.args.plan.now.valid c.requires.packets

pub open_services-requires-clause-rows : goal.open_services-requires-clause-rows
open_services-requires-clause-rows c = right_rows (plan_fields c.args.plan.now) c.args.plan.now.services refl c.args.plan.now.valid

pub open_services-requires-clause-few : goal.open_services-requires-clause-few
open_services-requires-clause-few c = subst (λ (n : ℕ). n ≤ 64) (length-map c.args.plan.now.services service_seen) (plans_are_small (plan_fields c.args.plan.now) c.args.plan.now.valid)

pub invariant_of-result : goal.invariant_of-result
invariant_of-result c = (
  record {
    count_is = as_many (plan_fields c.args.plan.now).recording (map service_seen c.args.plan.now.services) c.in_ok-services.services.receivers.items c.in_ok-services.ensures.opened;
    few = plans_are_small (plan_fields c.args.plan.now) c.args.plan.now.valid;
    right_changes = right_changes (plan_fields c.args.plan.now) c.args.plan.now.whole;
    few_changes = changes_are_few (plan_fields c.args.plan.now) c.args.plan.now.whole;
    up_to_last = c.in_ok-table.ensures.last (plan_fields c.args.plan.now) (length-map c.args.plan.now.changes change_seen ∙ sym c.len.ensures.read);
  },
  c.in_ok-services.ensures.found,
  omega (arith, ap (λ (s : StreamCounts). s.records) (c.nothing_counted.ensures (plan_fields c.args.plan.now))),
)

pub returns-clause-received : goal.returns-clause-received
returns-clause-received c = record {
  plan_is = refl;
  stream = c.nothing_counted.ensures (plan_fields c.args.plan.now);
  all = record {
    services = subst (λ (v : ℕ). HaveReceived false (plan_fields c.args.plan.now) v c.in_ok-services.services.receivers.items []) (sym (first (plan_fields c.args.plan.now)))
        (received_nothing (plan_fields c.args.plan.now) c.in_ok-services.services.receivers.items (before_none (plan_fields c.args.plan.now)) (units_before_none (plan_fields c.args.plan.now))
        (frames_before_none (plan_fields c.args.plan.now)) c.in_ok-services.ensures.opened);
    int = c.in_ok-table.ensures.received (plan_fields c.args.plan.now) refl (length-map c.args.plan.now.changes change_seen ∙ sym c.len.ensures.read);
  };
}
