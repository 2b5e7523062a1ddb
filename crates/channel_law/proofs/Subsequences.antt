-- Subsequences, and lists of numbers that rise.
use Rattle.std.proofs.Common.{◌≡◌, ◌⊎◌, inl, inr, ℕ, zero, suc, ◌+◌, ◌-◌, ◌<◌, ◌≤◌, List, [], ◌∷◌, ◌++◌, length, map, flat_map, get_or, drop, refl, ap, sym, subst, arith}
use Rattle.std.specs.Prelude.{slice_index_or}
use Rattle.std.proofs.lemmas.Bool.{cases_eq}
use Rattle.std.proofs.lemmas.List.{drop_more}
use Rattle.wire_spec.specs.Lists.{IsSubsequence}
use Rattle.channel_spec.specs.Carried.{IsRising}
use Rattle.channel_law.proofs.Member.{Member}

-- Subsequences.

-- a list stands after others
subsequence_behind : {X : Type 0} (xs front ys : List X) → IsSubsequence xs ys → IsSubsequence xs (front ++ ys)
subsequence_behind [] front ys within = tt
subsequence_behind (x ∷ xs) [] ys within = within
subsequence_behind (x ∷ xs) (y ∷ front) ys within = inr (subsequence_behind (x ∷ xs) front ys within)

-- both lists have the same front
subsequence_front : {X : Type 0} (front xs ys : List X) → IsSubsequence xs ys → IsSubsequence (front ++ xs) (front ++ ys)
subsequence_front [] xs ys within = within
subsequence_front (x ∷ front) xs ys within = inl (refl, subsequence_front front xs ys within)

-- what the items of a subsequence give
pub subsequence_flat : {X Y : Type 0} (f : X → List Y) (xs ys : List X) → IsSubsequence xs ys → IsSubsequence (flat_map f xs) (flat_map f ys)
subsequence_flat f [] ys within = tt
subsequence_flat f (x ∷ xs) [] within = absurd within
subsequence_flat f (x ∷ xs) (y ∷ ys) (inl taken) =
    subst (λ t. IsSubsequence (f t ++ flat_map f xs) (f y ++ flat_map f ys)) (sym taken.0) (subsequence_front (f y) (flat_map f xs) (flat_map f ys) (subsequence_flat f xs ys taken.1))
subsequence_flat f (x ∷ xs) (y ∷ ys) (inr left_out) = subsequence_behind (flat_map f (x ∷ xs)) (f y) (flat_map f ys) (subsequence_flat f (x ∷ xs) ys left_out)

-- one item each
pub subsequence_map : {X Y : Type 0} (f : X → Y) (xs ys : List X) → IsSubsequence xs ys → IsSubsequence (map f xs) (map f ys)
subsequence_map f [] ys within = tt
subsequence_map f (x ∷ xs) [] within = absurd within
subsequence_map f (x ∷ xs) (y ∷ ys) (inl taken) = inl (ap f taken.0, subsequence_map f xs ys taken.1)
subsequence_map f (x ∷ xs) (y ∷ ys) (inr left_out) = inr (subsequence_map f (x ∷ xs) ys left_out)

-- Numbers that rise.

-- no number is below the least
pub rising_member : (k : ℕ) (numbers : List ℕ) (n : ℕ) → IsRising k numbers → Member numbers n → k ≤ n
rising_member k [] n rising there = absurd there
rising_member k (m ∷ numbers) n rising (inl same) = omega (arith, rising.0, same)
rising_member k (m ∷ numbers) n rising (inr there) = omega (arith, rising.0, rising_member (m + 1) numbers n rising.1 there)

-- a higher number stands after the first
behind_first : (m n : ℕ) (numbers : List ℕ) → m < n → Member (m ∷ numbers) n → Member numbers n
behind_first m n numbers less (inl same) = absurd (omega (arith, same))
behind_first m n numbers less (inr there) = there

-- numbers among others, both rising, are a subsequence of them
pub rising_subsequence : (xs ys : List ℕ) (j k : ℕ) → IsRising j xs → IsRising k ys → ((n : ℕ) → Member xs n → Member ys n) → IsSubsequence xs ys
rising_subsequence [] ys j k rising_xs rising_ys all = tt
rising_subsequence (x ∷ xs) [] j k rising_xs rising_ys all = absurd (all x (inl refl))
rising_subsequence (x ∷ xs) (y ∷ ys) j k rising_xs rising_ys all =
    by_first (all x (inl refl)) (cases_eq x y)
    (λ less. rising_subsequence (x ∷ xs) ys x (y + 1) (omega arith, rising_xs.1) rising_ys.1 (λ n there. behind_first y n ys (later less n there) (all n there)))
    (λ same. rising_subsequence xs ys (x + 1) (y + 1) rising_xs.1 rising_ys.1
    (λ n there. behind_first y n ys (omega (arith, same, rising_member (x + 1) xs n rising_xs.1 there)) (all n (inr there))))
  where
    later : y < x → (n : ℕ) → Member (x ∷ xs) n → y < n
    later less n there = omega (arith, less, rising_member x (x ∷ xs) n (omega arith, rising_xs.1) there)

    by_first : Member (y ∷ ys) x → (x ≡ y) ⊎ (x ≡ y → ⊥) → (y < x → IsSubsequence (x ∷ xs) ys) → (x ≡ y → IsSubsequence xs ys) → IsSubsequence (x ∷ xs) (y ∷ ys)
    by_first there (inl same) skip take_it = inl (same, take_it same)
    by_first (inl same) (inr other) skip take_it = absurd (other (sym same))
    by_first (inr behind) (inr other) skip take_it = inr (skip (omega (arith, rising_member (y + 1) ys x rising_ys.1 behind)))

-- a list that is found further after
from_behind : {X : Type 0} (xs ys : List X) (default : X) (k d : ℕ) → k + d ≤ length ys → IsSubsequence xs (drop (k + d) ys) → IsSubsequence xs (drop k ys)
from_behind xs ys default k zero within found = let same : k + 0 ≡ k = omega arith in subst (λ (t : ℕ). IsSubsequence xs (drop t ys)) same found
from_behind xs ys default k (suc d) within found =
    let next : k + suc d ≡ k + 1 + d = omega arith in
    subst (IsSubsequence xs) (sym (drop_more ys k default (omega arith)))
    (subsequence_behind xs (get_or ys k default ∷ []) (drop (k + 1) ys)
    (from_behind xs ys default (k + 1) d (omega arith) (subst (λ (t : ℕ). IsSubsequence xs (drop t ys)) next found)))

-- the items at places that rise, from the first of them on
items_from : {X : Type 0} (xs : List X) (default : X) (k : ℕ) (numbers : List ℕ) → k ≤ length xs → IsRising k numbers → ((n : ℕ) → Member numbers n → n < length xs)
    → IsSubsequence (map (λ n. slice_index_or xs n default) numbers) (drop k xs)
items_from xs default k [] order rising within = tt
items_from xs default k (n ∷ numbers) order rising within =
    let known : n < length xs = within n (inl refl) in
    let rest = items_from xs default (n + 1) numbers (omega arith) rising.1 (λ m there. within m (inr there)) in
    let place : k + (n - k) ≡ n = omega (arith, rising.0) in
    from_behind (map (λ m. slice_index_or xs m default) (n ∷ numbers)) xs default k (n - k) (omega arith)
    (subst (λ (t : ℕ). IsSubsequence (map (λ m. slice_index_or xs m default) (n ∷ numbers)) (drop t xs)) (sym place)
    (subst (IsSubsequence (map (λ m. slice_index_or xs m default) (n ∷ numbers))) (sym (drop_more xs n default known)) (inl (refl, rest))))

-- the items at places that rise are a subsequence
pub items_subsequence : {X : Type 0} (xs : List X) (default : X) (numbers : List ℕ) → IsRising 0 numbers → ((n : ℕ) → Member numbers n → n < length xs)
    → IsSubsequence (map (λ n. slice_index_or xs n default) numbers) xs
items_subsequence xs default numbers rising within = items_from xs default 0 numbers (omega arith) rising within
