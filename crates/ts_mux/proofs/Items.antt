-- Items of lists at a place.
use Rattle.std.proofs.Common.{◌≡◌, ◌⊎◌, inl, inr, ℕ, zero, suc, ◌+◌, ◌<◌, ◌≤◌, Bool, true, false, ◌&&◌, List, [], ◌∷◌, ◌++◌, length, map, take, drop, replicate, refl, sym, ap, ◌∙◌, add-one, subst, arith}
use Rattle.std.specs.Prelude.{All, slice_get, Some, sum_by}
use Rattle.std.specs.List.{list_all}
use Rattle.std.proofs.lemmas.Bool.{cases_lt}
use Rattle.std.proofs.lemmas.List.{length-replicate}
use Rattle.std.proofs.lemmas.List.Elements.{All-push}
use Rattle.std.proofs.lemmas.List.Sums.{sum_by-cons}
use Rattle.int_table.proofs.Parts.{take_one_more, drop_from}

-- a test that all pass is passed by the one at a place
pub list_all_at : {X : Type 0} (p : X → Bool) (xs : List X) (i : ℕ) (x : X) → slice_get xs i ≡ Some x → list_all p xs ≡ true → p x ≡ true
list_all_at p [] i x found all = absurd (cc)
list_all_at p (y ∷ ys) zero x found all = let same : y ≡ x = cc in ap p (sym same) ∙ first (p y) (list_all p ys) all
  where
    first : (a b : Bool) → (a && b) ≡ true → a ≡ true
    first true b e = refl
    first false b e = absurd (cc)
list_all_at p (y ∷ ys) (suc i) x found all = list_all_at p ys i x found (rest (p y) (list_all p ys) all)
  where
    rest : (a b : Bool) → (a && b) ≡ true → b ≡ true
    rest true b e = e
    rest false b e = absurd (cc)

-- the item of a list of results
pub map_at : {X Y : Type 0} (f : X → Y) (xs : List X) (i : ℕ) (x : X) → slice_get xs i ≡ Some x → slice_get (map f xs) i ≡ Some (f x)
map_at f [] i x found = absurd (cc)
map_at f (y ∷ ys) zero x found = let same : y ≡ x = cc in ap (λ z. Some (f z)) same
map_at f (y ∷ ys) (suc i) x found = map_at f ys i x found

-- one item more of the front
pub take_next : {X : Type 0} (xs : List X) (i : ℕ) (x : X) → slice_get xs i ≡ Some x → take (i + 1) xs ≡ take i xs ++ x ∷ []
take_next xs i x found = ap (λ n. take n xs) (add-one i) ∙ take_one_more xs i x found

pub all_next : {X : Type 0} (P : X → Type 0) (xs : List X) (i : ℕ) (x : X) → slice_get xs i ≡ Some x → All P (take i xs) → P x → All P (take (i + 1) xs)
all_next P xs i x found before there = subst (All P) (sym (take_next xs i x found)) (All-push P (take i xs) x before there)

-- the length of a list of lists, from one on and from the next
pub lengths_next : (lists : List (List (List ℕ))) (i : ℕ) (x : List (List ℕ)) → slice_get lists i ≡ Some x
    → sum_by (λ (list : List (List ℕ)). length list) (drop i lists) ≡ length x + sum_by (λ (list : List (List ℕ)). length list) (drop (i + 1) lists)
lengths_next lists i x found =
    ap (sum_by (λ (list : List (List ℕ)). length list)) (drop_from lists i x found) ∙ sum_by-cons (λ (list : List (List ℕ)). length list) x (drop (i + 1) lists)

-- what holds of each item by its place, and of one behind them
pub each_pushed : {X : Type 0} (P : ℕ → X → Type 0) (xs new : List X) (x : X) (n : ℕ) → length xs ≡ n → new ≡ xs ++ x ∷ []
    → ((i : ℕ) (y : X) → slice_get xs i ≡ Some y → P i y) → P n x → (i : ℕ) (y : X) → slice_get new i ≡ Some y → P i y
each_pushed {X} P xs new x n size is before here i y found = by_place (cases_lt i (length xs))
  where
    low : (zs : List X) (k : ℕ) → k < length zs → slice_get (zs ++ x ∷ []) k ≡ slice_get zs k
    low [] k less = absurd (omega (arith, less))
    low (z ∷ zs) zero less = refl
    low (z ∷ zs) (suc k) less = low zs k (omega (arith, less))

    high : (zs : List X) (k : ℕ) → length zs ≤ k → slice_get (zs ++ x ∷ []) k ≡ Some y → (length zs ≡ k) × (x ≡ y)
    high [] zero le e = (refl, cc)
    high [] (suc k) le e = absurd (cc)
    high (z ∷ zs) zero le e = absurd (omega (arith, le))
    high (z ∷ zs) (suc k) le e = let it = high zs k (omega (arith, le)) e in (ap suc it.0, it.1)

    there : slice_get (xs ++ x ∷ []) i ≡ Some y
    there = ap (λ (l : List X). slice_get l i) (sym is) ∙ found

    by_place : (i < length xs) ⊎ (length xs ≤ i) → P i y
    by_place (inl less) = before i y (sym (low xs i less) ∙ there)
    by_place (inr le) =
        let it = high xs i le there in
        subst (λ (z : X). P i z) it.1 (subst (λ (k : ℕ). P k x) (sym size ∙ it.0) here)

-- a test of all, from one on and from the next
pub list_all_next : {X : Type 0} (p : X → Bool) (xs : List X) (i : ℕ) (x : X) → slice_get xs i ≡ Some x → list_all p (drop i xs) ≡ (p x && list_all p (drop (i + 1) xs))
list_all_next p xs i x found = ap (list_all p) (drop_from xs i x found)

-- how many zeros there are
pub length-zeros : (bytes : List ℕ) (count : ℕ) → bytes ≡ replicate count 0 → length bytes ≡ count
length-zeros bytes count is = ap length is ∙ length-replicate count 0
