use Rattle.std.proofs.Common.{◌∙◌, ap, refl, map, arith}
use Rattle.plan.specs.Parts.{service_seen}
use Rattle.plan.specs.PlanView.{plan_fields}
use Rattle.bb_stream_law.proofs.PlanChecks.{of_whole}
use Rattle.loss_report.specs.declared.counts.StreamCounts.{StreamCounts}
use Rattle.bb_demux.proofs.Opened.{gse_seen, as_many, given_nothing}
use Rattle.bb_demux.proofs.receiver.BbReceiver.open.Goals as goal

pub open_receivers-requires : goal.open_receivers-requires
open_receivers-requires c = record { gse = gse_seen c.args.plan.now.services ∙ (of_whole (plan_fields c.args.plan.now) c.args.plan.now.whole c.requires.baseband).kinds_are }

pub invariant_of-result : goal.invariant_of-result
invariant_of-result c = (
  c.requires.baseband,
  as_many (map service_seen c.args.plan.now.services) c.in_ok-services.services.items c.in_ok-services.ensures.opened,
  omega (arith, ap (λ (s : StreamCounts). s.records) (c.nothing_counted.ensures (plan_fields c.args.plan.now))),
)

pub returns-clause-received : goal.returns-clause-received
returns-clause-received c = record {
  plan_is = refl;
  stream = c.nothing_counted.ensures (plan_fields c.args.plan.now);
  all = given_nothing (plan_fields c.args.plan.now) c.in_ok-services.services.items c.in_ok-services.ensures.opened;
}
