-- Lists of numbers in which none stands twice.
use Rattle.std.proofs.Common.{◌≡◌, ◌⊎◌, inl, inr, ℕ, zero, suc, ◌+◌, ◌<◌, ◌≤◌, Bool, true, false, not, ◌||◌, cond, eqb, List, [], ◌∷◌, ◌++◌, map, flat_map, refl, sym, ap, ap₂, ◌∙◌, arith}
use Rattle.std.specs.Prelude.{filter}
use Rattle.std.specs.List.{range_with_len}
use Rattle.std.proofs.lemmas.Bool.{or_parts, or_from, or_left, or_right, eqb-true, eq-eqb, cases_lt}
use Rattle.std.proofs.lemmas.List.Folds.{list_any-append}
use Rattle.plan_law.proofs.Pids.{is_in, twice}

pub self_is_in : (x : ℕ) (xs : List ℕ) → is_in x (x ∷ xs) ≡ true
self_is_in x xs = or_left (eqb x x) (is_in x xs) (eq-eqb x x refl)

pub other_way : (x y : ℕ) → eqb x y ≡ false → eqb y x ≡ false
other_way x y apart = by_test (eqb y x) refl
  where
    by_test : (b : Bool) → eqb y x ≡ b → b ≡ false
    by_test true same =
        let never : true ≡ false = sym (eq-eqb x y (sym (eqb-true y x same))) ∙ apart in
        absurd (cc (never))
    by_test false is = refl

pub in_both : (x : ℕ) (first second : List ℕ) → (is_in x first ≡ true) ⊎ (is_in x second ≡ true) → is_in x (first ++ second) ≡ true
in_both x first second there = list_any-append (λ y. eqb x y) first second ∙ by_side there
  where
    by_side : (is_in x first ≡ true) ⊎ (is_in x second ≡ true) → (is_in x first || is_in x second) ≡ true
    by_side (inl is) = or_left (is_in x first) (is_in x second) is
    by_side (inr is) = or_right (is_in x first) (is_in x second) is

-- of lists one behind the other neither has a number twice, and none of the first stands in the second
pub twice_parts : (first second : List ℕ) → twice (first ++ second) ≡ false → (twice second ≡ false) × ((x : ℕ) → is_in x first ≡ true → is_in x second ≡ false)
twice_parts [] second none = (none, λ x there. absurd (cc))
twice_parts (y ∷ first) second none =
    let parts : (is_in y (first ++ second) ≡ false) × (twice (first ++ second) ≡ false) = or_parts (is_in y (first ++ second)) (twice (first ++ second)) none in
    let absent : (is_in y first ≡ false) × (is_in y second ≡ false)
    = or_parts (is_in y first) (is_in y second) (sym (list_any-append (λ z. eqb y z) first second) ∙ parts.0) in
    let rest : (twice second ≡ false) × ((x : ℕ) → is_in x first ≡ true → is_in x second ≡ false) = twice_parts first second parts.1 in
    (rest.0, λ x there. by_head x (eqb x y) refl there absent.1 rest.1)
  where
    by_head : (x : ℕ) (same : Bool) → eqb x y ≡ same → (eqb x y || is_in x first) ≡ true → is_in y second ≡ false
        → ((z : ℕ) → is_in z first ≡ true → is_in z second ≡ false) → is_in x second ≡ false
    by_head x true e there absent others = ap (λ (n : ℕ). is_in n second) (eqb-true x y e) ∙ absent
    by_head x false e there absent others = others x (sym (ap (λ (b : Bool). b || is_in x first) e) ∙ there)

pub twice_first : (first second : List ℕ) → twice (first ++ second) ≡ false → twice first ≡ false
twice_first [] second none = refl
twice_first (x ∷ first) second none =
    let parts : (is_in x (first ++ second) ≡ false) × (twice (first ++ second) ≡ false) = or_parts (is_in x (first ++ second)) (twice (first ++ second)) none in
    let absent : (is_in x first ≡ false) × (is_in x second ≡ false)
    = or_parts (is_in x first) (is_in x second) (sym (list_any-append (λ y. eqb x y) first second) ∙ parts.0) in
    or_from (is_in x first) (twice first) absent.0 (twice_first first second parts.1)

-- Lists of a range of numbers.

pub in_lists : (list : ℕ → List ℕ) (x k start n i : ℕ) → k ≡ start + i → i < n → is_in x (list k) ≡ true → is_in x (flat_map list (range_with_len start n)) ≡ true
in_lists list x k start zero i e less there = absurd (omega (arith, less))
in_lists list x k start (suc n) zero e less there =
    let here : k ≡ start = omega (arith, e) in
    in_both x (list start) (flat_map list (range_with_len (start + 1) n)) (inl (ap (λ (j : ℕ). is_in x (list j)) (sym here) ∙ there))
in_lists list x k start (suc n) (suc i) e less there =
    in_both x (list start) (flat_map list (range_with_len (start + 1) n)) (inr (in_lists list x k (start + 1) n i (omega (arith, e)) (omega (arith, less)) there))

apart_in : (list : ℕ → List ℕ) (x a b start n i j : ℕ) → a ≡ start + i → b ≡ start + j → i < j → j < n → twice (flat_map list (range_with_len start n)) ≡ false
    → is_in x (list a) ≡ true → is_in x (list b) ≡ true → ⊥
apart_in list x a b start zero i j e e2 order less none own own2 = absurd (omega (arith, less))
apart_in list x a b start (suc n) i zero e e2 order less none own own2 = absurd (omega (arith, order))
apart_in list x a b start (suc n) zero (suc j) e e2 order less none own own2 =
    let here : a ≡ start = omega (arith, e) in
    let behind : is_in x (flat_map list (range_with_len (start + 1) n)) ≡ true = in_lists list x b (start + 1) n j (omega (arith, e2)) (omega (arith, less)) own2 in
    let absent : is_in x (flat_map list (range_with_len (start + 1) n)) ≡ false
    = (twice_parts (list start) (flat_map list (range_with_len (start + 1) n)) none).1 x (ap (λ (k : ℕ). is_in x (list k)) (sym here) ∙ own) in
    absurd (cc)
apart_in list x a b start (suc n) (suc i) (suc j) e e2 order less none own own2 =
    apart_in list x a b (start + 1) n i j (omega (arith, e)) (omega (arith, e2)) (omega (arith, order)) (omega (arith, less))
    (twice_parts (list start) (flat_map list (range_with_len (start + 1) n)) none).0 own own2

pub one_not_twice : (list : ℕ → List ℕ) (k start n i : ℕ) → k ≡ start + i → i < n → twice (flat_map list (range_with_len start n)) ≡ false → twice (list k) ≡ false
one_not_twice list k start zero i e less none = absurd (omega (arith, less))
one_not_twice list k start (suc n) zero e less none =
    let here : start ≡ k = omega (arith, e) in
    ap (λ (j : ℕ). twice (list j)) (sym here) ∙ twice_first (list start) (flat_map list (range_with_len (start + 1) n)) none
one_not_twice list k start (suc n) (suc i) e less none =
    one_not_twice list k (start + 1) n i (omega (arith, e)) (omega (arith, less)) (twice_parts (list start) (flat_map list (range_with_len (start + 1) n)) none).0

pub lists_apart : (list : ℕ → List ℕ) (x n j k : ℕ) → (j ≡ k → ⊥) → j < n → k < n → twice (flat_map list (range_with_len 0 n)) ≡ false
    → is_in x (list j) ≡ true → is_in x (list k) ≡ true → ⊥
lists_apart list x n j k apart known known2 none own own2 = by_order (cases_lt j k)
  where
    above : k ≤ j → k < j
    above le = omega (arith, apart, le)

    by_order : (j < k) ⊎ (k ≤ j) → ⊥
    by_order (inl less) = apart_in list x j k 0 n j k (omega arith) (omega arith) less known2 none own own2
    by_order (inr le) = apart_in list x k j 0 n k j (omega arith) (omega arith) (above le) known none own2 own

-- What the same numbers give.

pub flat_same : {X : Type 0} (f g : ℕ → List X) (xs : List ℕ) → ((x : ℕ) → is_in x xs ≡ true → f x ≡ g x) → flat_map f xs ≡ flat_map g xs
flat_same f g [] each = refl
flat_same {X} f g (x ∷ xs) each =
    ap₂ (λ (a b : List X). a ++ b) (each x (self_is_in x xs)) (flat_same f g xs (λ y there. each y (or_right (eqb y x) (is_in y xs) there)))

pub flat_none : {X : Type 0} (f : ℕ → List X) (xs : List ℕ) → ((x : ℕ) → is_in x xs ≡ true → f x ≡ []) → flat_map f xs ≡ []
flat_none f [] each = refl
flat_none {X} f (x ∷ xs) each =
    ap₂ (λ (a b : List X). a ++ b) (each x (self_is_in x xs)) (flat_none f xs (λ y there. each y (or_right (eqb y x) (is_in y xs) there)))

-- those of a list but one
abbrev pub but : ℕ → List ℕ → List ℕ
but x xs = filter (λ y. not (eqb y x)) xs

pub map_but : {X : Type 0} (f g : ℕ → X) (x : ℕ) → ((y : ℕ) → eqb y x ≡ false → f y ≡ g y) → (xs : List ℕ) → map f (but x xs) ≡ map g (but x xs)
map_but f g x each [] = refl
map_but {X} f g x each (y ∷ xs) = by_test (eqb y x) refl (map_but f g x each xs)
  where
    by_test : (b : Bool) → eqb y x ≡ b → map f (but x xs) ≡ map g (but x xs) → map f (cond (not b) (y ∷ but x xs) (but x xs)) ≡ map g (cond (not b) (y ∷ but x xs) (but x xs))
    by_test true is later = later
    by_test false is later = ap₂ (λ (a : X) (t : List X). a ∷ t) (each y is) later

pub but_none : (x : ℕ) (xs : List ℕ) → is_in x xs ≡ false → but x xs ≡ xs
but_none x [] none = refl
but_none x (y ∷ xs) none =
    let parts : (eqb x y ≡ false) × (is_in x xs ≡ false) = or_parts (eqb x y) (is_in x xs) none in
    ap (λ (b : Bool). cond (not b) (y ∷ but x xs) (but x xs)) (other_way x y parts.0) ∙ ap (λ (t : List ℕ). y ∷ t) (but_none x xs parts.1)
