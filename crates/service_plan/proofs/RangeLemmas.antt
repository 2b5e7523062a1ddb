-- The numbers of a range from one on, and what is done over them.
use Rattle.std.proofs.Common.{◌≡◌, ℕ, suc, ◌+◌, ◌-◌, ◌<◌, ◌≤◌, Bool, false, ◌||◌, List, [], ◌∷◌, ◌++◌, map, fold, ap, sym, ◌∙◌, arith, append_assoc}
use Rattle.std.specs.Prelude.{flat_map}
use Rattle.std.specs.List.{list_any, range_with_len}

pub range_more : (i n : ℕ) → i < n → range_with_len i (n - i) ≡ i ∷ range_with_len (i + 1) (n - (i + 1))
range_more i n within = ap (λ (k : ℕ). range_with_len i k) (one_less i n within)
  where
    one_less : (a b : ℕ) → a < b → b - a ≡ suc (b - (a + 1))
    one_less a b less = omega (arith, less)

pub range_end : (i n : ℕ) → n ≤ i → range_with_len i (n - i) ≡ []
range_end i n past = ap (λ (k : ℕ). range_with_len i k) (none_left i n past)
  where
    none_left : (a b : ℕ) → b ≤ a → b - a ≡ 0
    none_left a b less = omega (arith, less)

pub any_more : (p : ℕ → Bool) (i n : ℕ) (b : Bool) → i < n → b ≡ p i → list_any p (range_with_len i (n - i)) ≡ (b || list_any p (range_with_len (i + 1) (n - (i + 1))))
any_more p i n b within is = ap (list_any p) (range_more i n within) ∙ ap (λ (t : Bool). t || list_any p (range_with_len (i + 1) (n - (i + 1)))) (sym is)

pub any_end : (p : ℕ → Bool) (i n : ℕ) → n ≤ i → list_any p (range_with_len i (n - i)) ≡ false
any_end p i n past = ap (list_any p) (range_end i n past)

pub fold_more : {X Y : Type 0} (f : Y → X → Y) (g : ℕ → X) (i n : ℕ) (before : Y) → i < n
    → fold f before (map g (range_with_len i (n - i))) ≡ fold f (f before (g i)) (map g (range_with_len (i + 1) (n - (i + 1))))
fold_more f g i n before within = ap (λ (l : List ℕ). fold f before (map g l)) (range_more i n within)

pub fold_end : {X Y : Type 0} (f : Y → X → Y) (g : ℕ → X) (i n : ℕ) (before : Y) → n ≤ i → fold f before (map g (range_with_len i (n - i))) ≡ before
fold_end f g i n before past = ap (λ (l : List ℕ). fold f before (map g l)) (range_end i n past)

pub lists_more : {X : Type 0} (f : ℕ → List X) (i n : ℕ) (before : List X) → i < n
    → before ++ flat_map f (range_with_len i (n - i)) ≡ (before ++ f i) ++ flat_map f (range_with_len (i + 1) (n - (i + 1)))
lists_more f i n before within =
    ap (λ (l : List ℕ). before ++ flat_map f l) (range_more i n within)
    ∙ sym (append_assoc before (f i) (flat_map f (range_with_len (i + 1) (n - (i + 1)))))
