use Rattle.std.proofs.Common.{◌≡◌, ◌+◌, ◌∙◌, ℕ, true, false, nat_lt, sym, ap, arith}
use Rattle.ts_mux.specs.Services.{packet_total, burst_total}
use Rattle.ts_mux.proofs.services.Services.has_packets.Goals as goal

some_more : (n m : ℕ) → nat_lt 0 n ≡ true → true ≡ nat_lt 0 (n + m)
some_more n m e = grind (arith, e)

no_more : (n : ℕ) → nat_lt 0 n ≡ false → n ≡ 0
no_more n e = grind (arith, e)

none_more : (n m : ℕ) → nat_lt 0 n ≡ false → nat_lt 0 m ≡ nat_lt 0 (n + m)
none_more n m e = ap (λ (k : ℕ). nat_lt 0 k) (omega (arith, no_more n e))

pub returns-then-is_some : goal.returns-then-is_some
returns-then-is_some c =
    let some = c.requires.turn ∙ sym c.is_some.ensures ∙ c.if-is_some.true in
    record { read = c.if-is_some.true ∙ some_more (packet_total c.args.self.now.turns) (burst_total c.args.self.now.bursts) some }

pub returns-else-is_some : goal.returns-else-is_some
returns-else-is_some c =
    let none = c.requires.turn ∙ sym c.is_some.ensures ∙ c.if-is_some.false in
    record { read = c.has_bursts.ensures.read ∙ none_more (packet_total c.args.self.now.turns) (burst_total c.args.self.now.bursts) none }
