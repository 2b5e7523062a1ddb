-- Lists in which one item after another is changed.
use Rattle.std.proofs.Common.{◌≡◌, ℕ, zero, suc, ◌+◌, ◌<◌, ◌≤◌, Bool, true, false, List, [], ◌∷◌, length, set, refl, ap, sym, ◌∙◌, subst, arith, eq-eqb, Option, Some}
use Rattle.std.specs.Prelude.{◌==◌, slice_get}
use Rattle.std.proofs.lemmas.Bool.{eqb-true}
use Rattle.std.proofs.lemmas.Bool.Decides.{nat_tests}

set_same : {X : Type 0} (xs : List X) (k : ℕ) (new x : X) → slice_get (set xs k new) k ≡ Some x → new ≡ x
set_same [] k new x found = absurd (cc)
set_same (a ∷ xs) zero new x found = cc
set_same (a ∷ xs) (suc k) new x found = set_same xs k new x found

set_other : {X : Type 0} (xs : List X) (k j : ℕ) (new x : X) → (j ≡ k → ⊥) → slice_get (set xs k new) j ≡ Some x → slice_get xs j ≡ Some x
set_other [] k j new x apart found = found
set_other (a ∷ xs) zero zero new x apart found = absurd (apart refl)
set_other (a ∷ xs) zero (suc j) new x apart found = found
set_other (a ∷ xs) (suc k) zero new x apart found = found
set_other (a ∷ xs) (suc k) (suc j) new x apart found = set_other xs k j new x (λ same. apart (ap suc same)) found

true_false : true ≡ false → ⊥
true_false e = cc

pub some_at : {X : Type 0} (xs : List X) (k : ℕ) → k < length xs → (x : X) × (slice_get xs k ≡ Some x)
some_at [] k less = absurd (omega (arith, less))
some_at (x ∷ xs) zero less = (x, refl)
some_at (x ∷ xs) (suc k) less = some_at xs k (omega (arith, less))

-- from a place on all are as they were
abbrev pub AreLeft : {X : Type 0} → ℕ → List X → List X → Type 0
AreLeft at olds nows = (k : ℕ) → at ≤ k → slice_get nows k ≡ slice_get olds k

set_behind : {X : Type 0} (xs : List X) (i k : ℕ) (x : X) → i < k → slice_get (set xs i x) k ≡ slice_get xs k
set_behind [] i k x less = refl
set_behind (y ∷ ys) zero zero x less = absurd (omega (arith, less))
set_behind (y ∷ ys) zero (suc k) x less = refl
set_behind (y ∷ ys) (suc i) zero x less = absurd (omega (arith, less))
set_behind (y ∷ ys) (suc i) (suc k) x less = set_behind ys i k x (omega (arith, less))

pub left_next : {X : Type 0} (olds nows : List X) (at : ℕ) (new : X) → AreLeft at olds nows → AreLeft (at + 1) olds (set nows at new)
left_next olds nows at new left = λ k least. set_behind nows at k new (omega (arith, least)) ∙ left k (omega (arith, least))

same_some : {X : Type 0} (o : Option X) (a b : X) → o ≡ Some a → o ≡ Some b → a ≡ b
same_some o a b is_a is_b = cc

-- those before a place are so related to what they were
abbrev pub AreSet : {X : Type 0} → (X → X → Type 0) → ℕ → List X → List X → Type 0
AreSet {X} R at olds nows = (k : ℕ) (old new : X) → k < at → slice_get olds k ≡ Some old → slice_get nows k ≡ Some new → R old new

module _ {X : Type 0} (R : X → X → Type 0) where
  pub set_next : (olds nows : List X) (at : ℕ) (was new : X) → AreSet R at olds nows → AreLeft at olds nows → slice_get nows at ≡ Some was → R was new
      → AreSet R (at + 1) olds (set nows at new)
  set_next olds nows at was new done left there is = λ k old now below found found_now. by_place k old now below found found_now (k == at) refl
    where
      by_place : (k : ℕ) (old now : X) → k < at + 1 → slice_get olds k ≡ Some old → slice_get (set nows at new) k ≡ Some now → (b : Bool) → (k == at) ≡ b → R old now
      by_place k old now below found found_now true e =
          let place : k ≡ at = eqb-true k at e in
          let is_new : new ≡ now = set_same nows at new now (ap (λ (n : ℕ). slice_get (set nows at new) n) (sym place) ∙ found_now) in
          let is_old : was ≡ old = same_some (slice_get nows at) was old there (left at (omega arith) ∙ ap (slice_get olds) (sym place) ∙ found) in
          subst (λ (x : X). R old x) is_new (subst (λ (x : X). R x new) is_old is)
      by_place k old now below found found_now false e =
          done k old now (grind (arith, nat_tests, below, e)) found (set_other nows at k new now (λ same. true_false (sym (eq-eqb k at same) ∙ e)) found_now)
