use Rattle.std.proofs.Common.{◌+◌, ◌∷◌, [], ◌++◌, List, ℕ, sym, subst, arith}
use Rattle.sample_command.specs.Taking.{HasTaken, IsTaking}
use Rattle.sample_command.proofs.Taking.{next_taken, all_taken}
use Rattle.sample_command.proofs.losses.take_packets.Goals as goal

pub packets-preserved-then-take_packet : goal.packets-preserved-then-take_packet
packets-preserved-then-take_packet c = record {
  is_open = c.take_packet.ensures.goes_on;
  plan = c.take_packet.ensures.plan;
  given = omega (arith, c.packets.invariant.given, c.take_packet.ensures.counted, c.in-Some.ensures.cases.2);
  counted = omega (arith, c.packets.invariant.counted, c.in-Some.ensures.cases.2);
  taken = λ number pieces each is begun.
      subst (λ (t : List ℕ). IsTaking number pieces t c.take_packet.new.draws (c.packets.dropped + 1) c.take_packet.new.receiver c.take_packet.new.delivered) (sym c.in-Some.ensures.cases.1)
      (next_taken number c.packets.draws c.take_packet.new.draws c.packets.dropped (c.packets.dropped + 1) c.packets.receiver c.take_packet.new.receiver c.packets.delivered c.take_packet.new.delivered
      pieces c.packets.left.now each (omega (arith, c.in-Some.ensures.cases.2)) (c.packets.invariant.taken number pieces each is begun)
      (λ before taken. subst (λ (t : List ℕ). HasTaken number (before ++ t ∷ []) c.take_packet.new.draws (c.packets.dropped + 1) c.take_packet.new.receiver c.take_packet.new.delivered)
      c.in-Some.ensures.cases.0 (c.if-take_packet.ensures.taken number c.packets.dropped before taken)));
}

pub packets-preserved : goal.packets-preserved
packets-preserved c = record {
  is_open = c.take_packet.ensures.goes_on;
  plan = c.take_packet.ensures.plan;
  given = omega (arith, c.packets.invariant.given, c.take_packet.ensures.counted, c.in-Some.ensures.cases.2);
  counted = omega (arith, c.packets.invariant.counted, c.in-Some.ensures.cases.2);
  taken = λ number pieces each is begun.
      subst (λ (t : List ℕ). IsTaking number pieces t c.take_packet.new.draws c.packets.dropped c.take_packet.new.receiver c.take_packet.new.delivered) (sym c.in-Some.ensures.cases.1)
      (next_taken number c.packets.draws c.take_packet.new.draws c.packets.dropped c.packets.dropped c.packets.receiver c.take_packet.new.receiver c.packets.delivered c.take_packet.new.delivered
      pieces c.packets.left.now each (omega (arith, c.in-Some.ensures.cases.2)) (c.packets.invariant.taken number pieces each is begun)
      (λ before taken. subst (λ (t : List ℕ). HasTaken number (before ++ t ∷ []) c.take_packet.new.draws c.packets.dropped c.take_packet.new.receiver c.take_packet.new.delivered)
      c.in-Some.ensures.cases.0 (c.if-take_packet.ensures.taken number c.packets.dropped before taken)));
}

pub returns-clause-taken : goal.returns-clause-taken
returns-clause-taken c = λ number pieces each is begun.
    all_taken number c.packets.draws c.packets.dropped c.packets.receiver c.packets.delivered pieces c.packets.left.now each c.in_default.ensures.cases
    (c.packets.invariant.taken number pieces each is begun)
