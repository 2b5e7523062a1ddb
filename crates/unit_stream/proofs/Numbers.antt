-- What tests on numbers say.
use Rattle.std.proofs.Common.{◌≡◌, ℕ, zero, suc, ◌<◌, ◌≤◌, true, false, leb, ltb, eqb, arith}

pub eqb_true : (a b : ℕ) → a ≡ b → eqb a b ≡ true
eqb_true a b same = grind arith

pub eqb_false : (a b : ℕ) → (a ≡ b → ⊥) → eqb a b ≡ false
eqb_false a b apart = grind (arith, apart)

pub eqb_zero : (n : ℕ) → eqb n 0 ≡ true → n ≡ 0
eqb_zero n e = grind (arith, e)

pub not_zero : (n : ℕ) → eqb n 0 ≡ false → 1 ≤ n
not_zero zero e = absurd (cc)
not_zero (suc n) e = omega arith

pub leb_false : (a b : ℕ) → b < a → leb a b ≡ false
leb_false a b less = grind arith

pub ltb_true : (a b : ℕ) → a < b → ltb a b ≡ true
ltb_true a b less = grind arith

pub ltb_false : (a b : ℕ) → b ≤ a → ltb a b ≡ false
ltb_false a b le = grind arith
