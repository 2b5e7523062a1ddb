use Rattle.std.proofs.Common.{ℕ, length, get_or, sym, bytes_eq, true, false, arith}
use Rattle.std.proofs.lemmas.List.{length-map}
use Rattle.std.proofs.lemmas.List.Sums.{position_or_len_is}
use Rattle.plan_spec.specs.Plan.{ServiceFields}
use Rattle.plan_spec.specs.Changes.{no_service}
use Rattle.plan.specs.Parts.{service_seen, services_seen}
use Rattle.service_plan.proofs.ChangeLemmas.{name_at, none_more}
use Rattle.service_plan.proofs.changes.place_named.Goals as goal

pub returns-then-eq : goal.returns-then-eq
returns-then-eq c =
    let services = c.args.services.now in
    let name = c.args.name.now in
    let count = length-map services service_seen in
    let here = name_at services c.loop-i.i c.index-services-i.result name true c.loop-i-test.true c.index-services-i.is (rw c.text.ensures.read at c.if-eq.ensures) in
    record {
      read = sym (position_or_len_is (λ (s : ServiceFields). bytes_eq s.name name) (services_seen services) c.loop-i.i no_service (omega (arith, count, c.loop-i-test.true)) c.loop-i.invariant (λ within. here));
      within = omega (arith, c.loop-i-test.true);
    }

pub loop-i-preserved : goal.loop-i-preserved
loop-i-preserved c =
    let services = c.args.services.now in
    let name = c.args.name.now in
    let here = name_at services c.loop-i.i c.index-services-i.result name false c.loop-i-test.true c.index-services-i.is (rw c.text.ensures.read at c.if-eq.ensures) in
    none_more (λ (k : ℕ). bytes_eq (get_or (services_seen services) k no_service).name name) c.loop-i.i c.loop-i.invariant here

pub returns : goal.returns
returns c =
    let services = c.args.services.now in
    let count = length-map services service_seen in
    record {
      read = sym (position_or_len_is (λ (s : ServiceFields). bytes_eq s.name c.args.name.now) (services_seen services) (length services) no_service (omega (arith, count))
          (λ k within. c.loop-i.invariant k (omega (arith, within, c.loop-i-test.false))) (λ within. absurd (omega (arith, within, count))));
      within = omega arith;
    }
