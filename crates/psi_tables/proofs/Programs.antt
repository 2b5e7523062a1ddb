-- Programs by their places, and lines by their columns.
use Rattle.std.proofs.Common.{◌≡◌, ℕ, zero, suc, ◌+◌, ◌-◌, ◌<◌, Bool, true, false, cond, List, [], ◌∷◌, ◌++◌, map, find, drop, ap, ◌∙◌, arith, append_assoc, Option, Some}
use Rattle.std.specs.Prelude.{slice_get}
use Rattle.std.specs.List.{range_with_len}
use Rattle.std.proofs.lemmas.List.{drop_more}
use Rattle.std.proofs.lemmas.Option.{get_or_from_slice_get, slice_get_within}
use Rattle.psi_tables.specs.Text.{line_of}

pub at_place : {X : Type 0} (f : ℕ → X) (a n k : ℕ) → k < n → slice_get (map f (range_with_len a n)) k ≡ Some (f (a + k))
at_place f a zero k less = absurd (omega (arith, less))
at_place f a (suc n) zero less = let e : a ≡ a + 0 = omega arith in ap (λ (m : ℕ). Some (f m)) e
at_place f a (suc n) (suc k) less =
    let e : a + 1 + k ≡ a + suc k = omega arith in
    at_place f (a + 1) n k (omega (arith, less)) ∙ ap (λ (m : ℕ). Some (f m)) e

range_first : (a m : ℕ) → 0 < m → range_with_len a m ≡ a ∷ range_with_len (a + 1) (m - 1)
range_first a zero some = absurd (omega (arith, some))
range_first a (suc n) some = let e : n ≡ suc n - 1 = omega arith in ap (λ (k : ℕ). a ∷ range_with_len (a + 1) k) e

pub find_here : {X : Type 0} (p : X → Bool) (f : ℕ → X) (a m : ℕ) → 0 < m → p (f a) ≡ true → find p (map f (range_with_len a m)) ≡ Some (f a)
find_here {X} p f a m some is =
    ap (λ (l : List ℕ). find p (map f l)) (range_first a m some)
    ∙ ap (λ (b : Bool). cond {A = Option X} b (Some (f a)) (find p (map f (range_with_len (a + 1) (m - 1))))) is

pub find_next : {X : Type 0} (p : X → Bool) (f : ℕ → X) (a m : ℕ) → 0 < m → p (f a) ≡ false → find p (map f (range_with_len a m)) ≡ find p (map f (range_with_len (a + 1) (m - 1)))
find_next {X} p f a m some is =
    ap (λ (l : List ℕ). find p (map f l)) (range_first a m some)
    ∙ ap (λ (b : Bool). cond {A = Option X} b (Some (f a)) (find p (map f (range_with_len (a + 1) (m - 1))))) is

pub line_built : (t a b c d i j k l m n o p : List ℕ) → i ≡ t ++ a → j ≡ i ++ 44 ∷ [] → k ≡ j ++ b → l ≡ k ++ 44 ∷ [] → m ≡ l ++ c → n ≡ m ++ 44 ∷ [] → o ≡ n ++ d → p ≡ o ++ 10 ∷ []
    → p ≡ t ++ line_of a b c d
line_built t a b c d i j k l m n o p e1 e2 e3 e4 e5 e6 e7 e8 =
    let r4 : List ℕ = d ++ 10 ∷ [] in
    let r3 : List ℕ = c ++ 44 ∷ r4 in
    let r2 : List ℕ = b ++ 44 ∷ r3 in
    e8 ∙ ap (λ (x : List ℕ). x ++ 10 ∷ []) e7 ∙ append_assoc n d (10 ∷ [])
    ∙ ap (λ (x : List ℕ). x ++ r4) e6 ∙ append_assoc m (44 ∷ []) r4
    ∙ ap (λ (x : List ℕ). x ++ 44 ∷ r4) e5 ∙ append_assoc l c (44 ∷ r4)
    ∙ ap (λ (x : List ℕ). x ++ r3) e4 ∙ append_assoc k (44 ∷ []) r3
    ∙ ap (λ (x : List ℕ). x ++ 44 ∷ r3) e3 ∙ append_assoc j b (44 ∷ r3)
    ∙ ap (λ (x : List ℕ). x ++ r2) e2 ∙ append_assoc i (44 ∷ []) r2
    ∙ ap (λ (x : List ℕ). x ++ 44 ∷ r2) e1 ∙ append_assoc t a (44 ∷ r2)

-- the item at a place, and those after it
pub drop_first : {X : Type 0} (xs : List X) (k : ℕ) (x : X) → slice_get xs k ≡ Some x → drop k xs ≡ x ∷ drop (k + 1) xs
drop_first {X} xs k x there =
    drop_more xs k x (slice_get_within xs k x there) ∙ ap (λ (y : X). y ∷ drop (k + 1) xs) (get_or_from_slice_get xs k x x there)
