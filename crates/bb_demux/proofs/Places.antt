-- Lists by place.
use Rattle.std.proofs.Common.{◌≡◌, ℕ, zero, suc, ◌+◌, ◌<◌, ◌≤◌, Bool, true, false, cond, None, Some, List, [], ◌∷◌, length, set, refl, ap, sym, ◌∙◌, arith}
use Rattle.std.specs.Prelude.{not, nat_lt, slice_get}
use Rattle.std.specs.List.{position, position_or_len}

pub some_at : {X : Type 0} (xs : List X) (k : ℕ) → k < length xs → (x : X) × (slice_get xs k ≡ Some x)
some_at [] k less = absurd (omega (arith, less))
some_at (x ∷ xs) zero less = (x, refl)
some_at (x ∷ xs) (suc k) less = some_at xs k (omega (arith, less))

pub within_of : {X : Type 0} (xs : List X) (k : ℕ) (x : X) → slice_get xs k ≡ Some x → k < length xs
within_of [] k x found = absurd (cc)
within_of (a ∷ xs) zero x found = omega arith
within_of (a ∷ xs) (suc k) x found = let less : k < length xs = within_of xs k x found in omega (arith, less)

-- after one was set
pub set_same : {X : Type 0} (xs : List X) (k : ℕ) (new x : X) → slice_get (set xs k new) k ≡ Some x → new ≡ x
set_same [] k new x found = absurd (cc)
set_same (a ∷ xs) zero new x found = cc
set_same (a ∷ xs) (suc k) new x found = set_same xs k new x found

pub set_other : {X : Type 0} (xs : List X) (k j : ℕ) (new x : X) → (j ≡ k → ⊥) → slice_get (set xs k new) j ≡ Some x → slice_get xs j ≡ Some x
set_other [] k j new x apart found = found
set_other (a ∷ xs) zero zero new x apart found = absurd (apart refl)
set_other (a ∷ xs) zero (suc j) new x apart found = found
set_other (a ∷ xs) (suc k) zero new x apart found = found
set_other (a ∷ xs) (suc k) (suc j) new x apart found = set_other xs k j new x (λ same. apart (ap suc same)) found

-- where none was found, none passes
past_all : {X : Type 0} (p : X → Bool) (xs : List X) (k : ℕ) (x : X) → length xs ≤ position_or_len p xs → slice_get xs k ≡ Some x → p x ≡ false
past_all p [] k x le found = absurd (cc)
past_all {X} p (a ∷ xs) zero x le found = let same : a ≡ x = cc in ap p (sym same) ∙ by_test (p a) le
  where
    by_test : (t : Bool) → suc (length xs) ≤ cond (not t) (1 + position_or_len p xs) 0 → t ≡ false
    by_test true short = absurd (omega (arith, short))
    by_test false short = refl
past_all {X} p (a ∷ xs) (suc k) x le found = by_test (p a) le (λ later. past_all p xs k x later found)
  where
    by_test : (t : Bool) → suc (length xs) ≤ cond (not t) (1 + position_or_len p xs) 0 → (length xs ≤ position_or_len p xs → p x ≡ false) → p x ≡ false
    by_test true short later = absurd (omega (arith, short))
    by_test false short later = later (omega (arith, short))

pub none_passes : {X : Type 0} (p : X → Bool) (xs : List X) (k : ℕ) (x : X) → position p xs ≡ None → slice_get xs k ≡ Some x → p x ≡ false
none_passes {X} p xs k x none found = by_length (nat_lt (position_or_len p xs) (length xs)) refl
  where
    none_some : (n : ℕ) → Some n ≡ None → ⊥
    none_some n e = cc

    by_length : (t : Bool) → nat_lt (position_or_len p xs) (length xs) ≡ t → p x ≡ false
    by_length true h = absurd (none_some (position_or_len p xs) (sym (ap (λ (t : Bool). cond t (Some (position_or_len p xs)) None) h) ∙ none))
    by_length false h = past_all p xs k x (grind (arith, h)) found
