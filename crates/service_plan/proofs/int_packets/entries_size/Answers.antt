-- Each service adds its entry.
use Rattle.std.proofs.Common.{◌<◌, ◌≤◌, length, arith, sym, subst, Option, List, ℕ}
use Rattle.plan_spec.specs.Signalling.{entry_of}
use Rattle.int_table.specs.Views.{HaveSlices}
use Rattle.plan.specs.Moves.{services_after, service_after}
use Rattle.plan.proofs.VersionLemmas.{length-services_after}
use Rattle.service_plan.proofs.SizeLemmas.{counted_more, counted_all, rules_more, slices_after}
use Rattle.service_plan.proofs.int_packets.entries_size.Goals as goal

pub loop-service-preserved : goal.loop-service-preserved
loop-service-preserved c =
    let services = c.args.services.now in
    let changes = c.args.changes.now in
    let i = c.loop-service.service in
    let after = services_after services changes in
    let within : i < length after = omega (arith, c.loop-service-test.true, length-services_after services changes) in
    let more = rules_more after i within in
    let most = rw c.rules_after-rules.ensures at c.entry_size-total.ensures.most in
    record {
      counted = λ table packet_rate. counted_more table packet_rate after i c.loop-service.total c.entry_size-total.result within c.loop-service.invariant.rules most
          (c.entry_size-total.ensures.counted table (entry_of packet_rate (service_after services changes i)) (sym c.rules_after-rules.ensures)
          (subst (λ (o : Option (List ℕ)). HaveSlices c.has_identifier.result o) (slices_after services changes i c.index-services-service.result packet_rate c.loop-service-test.true c.index-services-service.is) (c.has_identifier.ensures.read packet_rate)))
          (c.loop-service.invariant.counted table packet_rate);
      most = omega (arith, more, c.loop-service.invariant.most, most);
      within = omega (arith, c.loop-service-test.true);
      rules = omega (arith, more, c.loop-service.invariant.rules);
    }

pub returns : goal.returns
returns c =
    let services = c.args.services.now in
    let after = services_after services c.args.changes.now in
    let past : length after ≤ c.loop-service.service = omega (arith, c.loop-service-test.false, length-services_after services c.args.changes.now) in
    record {
      read = λ table packet_rate. counted_all table packet_rate after c.loop-service.service c.loop-service.total past (c.loop-service.invariant.counted table packet_rate);
      most = omega (arith, c.loop-service.invariant.most, c.loop-service.invariant.within, c.requires.few);
    }
