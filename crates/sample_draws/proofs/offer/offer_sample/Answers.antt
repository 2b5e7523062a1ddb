use Rattle.std.proofs.Common.{[], sym, subst, arith}
use Rattle.plan_spec.specs.Plan.{PlanFields}
use Rattle.datagram_routing.specs.Offering.{IsOffered}
use Rattle.sample_draws.proofs.Steps.{none_drawn, has_room, all_offered, all_drawn}
use Rattle.sample_draws.proofs.offer.offer_sample.Goals as goal

pub loop-i-init : goal.loop-i-init
loop-i-init c = record {
  stands = subst (λ (plan : PlanFields). IsOffered plan [] c.in_ok-offered.offered) c.requires.plan c.in_ok-offered.ensures.stands;
  drawn = sym (none_drawn c.args.draws.now);
  buffer = c.in_ok-buffer.ensures;
}

pub offer_next-requires-clause-room : goal.offer_next-requires-clause-room
offer_next-requires-clause-room c =
    has_room c.args.draws.now c.loop-i.i c.loop-i.offered (omega (arith, c.loop-i-test.true)) c.loop-i.invariant.stands

pub returns-clause-offered : goal.returns-clause-offered
returns-clause-offered c = λ number was.
    all_offered number c.args.draws.now c.loop-i.i c.loop-i.offered was (omega (arith, c.loop-i-test.false, c.loop-i.auto.i-end)) c.loop-i.invariant.stands

pub returns-clause-drawn : goal.returns-clause-drawn
returns-clause-drawn c = λ number was.
    all_drawn number c.args.draws.now c.loop-i.draws c.loop-i.i was (omega (arith, c.loop-i-test.false, c.loop-i.auto.i-end)) c.loop-i.invariant.drawn
