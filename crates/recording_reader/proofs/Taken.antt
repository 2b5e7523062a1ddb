-- Pieces by the last of them, and the bytes of all.
use Rattle.std.proofs.Common.{◌≡◌, ◌⊎◌, inl, inr, ℕ, ◌+◌, ◌*◌, ◌^◌, ◌<◌, List, [], ◌∷◌, ◌++◌, refl, ap, subst, Option, None, Some}
use Rattle.std.proofs.lemmas.List.{same_from_push}
use Rattle.std.proofs.Math.Nat.{mul_comm}
use Rattle.std.proofs.lemmas.Nat.{mul-add-lt}
use Rattle.std.specs.Io.KnownBytes.{Consumes}

pub init_same : {A : Type 0} (xs ys : List A) (x y : A) → xs ++ x ∷ [] ≡ ys ++ y ∷ [] → xs ≡ ys
init_same xs ys x y e = (same_from_push xs ys x y e).0

pub by_last : {A : Type 0} (xs : List A) → (xs ≡ []) ⊎ ((ys : List A) × (y : A) × (xs ≡ ys ++ y ∷ []))
by_last [] = inl refl
by_last (x ∷ xs) = elim (by_last xs) [
  | inl none ↦ inr ([], x, ap (λ l. x ∷ l) none)
  | inr more ↦ inr (x ∷ more.0, more.1, ap (λ l. x ∷ l) more.2)
]

pub consumes_none : (left : Option (List ℕ)) → Consumes left left []
consumes_none None = tt
consumes_none (Some bytes) = refl

-- the bytes of fewer than 2^32 pieces
pub below_product : (size pieces behind : ℕ) → pieces < 2 ^ 32 → behind < size → size * pieces + behind < size * 2 ^ 32
below_product size pieces behind few short = subst (λ (m : ℕ). m + behind < size * 2 ^ 32) (mul_comm pieces size) (mul-add-lt pieces size behind (2 ^ 32) few short)
