-- A cut of bytes into pieces of one size is unique.
use Rattle.std.proofs.Common.{◌≡◌, ℕ, ◌<◌, List, [], ◌∷◌, ◌++◌, length, take, drop, refl, ap, ap₂, sym, ◌∙◌, append_assoc, arith, All}
use Rattle.std.proofs.lemmas.List.{take_at, drop_at, length-append}
use Rattle.std.proofs.lemmas.List.Elements.{All-head, All-tail}
use Rattle.wire_spec.specs.Lists.{joined, IsCut}

-- a piece and what is after it: two such lists that are equal have equal pieces, and the same after them
same_front : (size : ℕ) (x y r s : List ℕ) → length x ≡ size → length y ≡ size → x ++ r ≡ y ++ s → x ≡ y
same_front size x y r s of_x of_y e = sym (take_at x r size of_x) ∙ ap (take size) e ∙ take_at y s size of_y

same_behind : (size : ℕ) (x y r s : List ℕ) → length x ≡ size → length y ≡ size → x ++ r ≡ y ++ s → r ≡ s
same_behind size x y r s of_x of_y e = sym (drop_at x r size of_x) ∙ ap (drop size) e ∙ drop_at y s size of_y

-- a tail is too short to be a piece with more after it
no_piece : (size : ℕ) (x r s : List ℕ) → length x ≡ size → length s < size → s ≡ x ++ r → ⊥
no_piece size x r s of_x short e = omega (arith, length-append x r, ap length e)

-- pieces of one size, and a tail too short to be one
pub same_pieces : (size : ℕ) (xs ys : List (List ℕ)) (s t : List ℕ)
    → All (λ piece. length piece ≡ size) xs → All (λ piece. length piece ≡ size) ys → length s < size → length t < size
    → joined xs ++ s ≡ joined ys ++ t → (xs ≡ ys) × (s ≡ t)
same_pieces size [] [] s t of_xs of_ys short_s short_t e = (refl, e)
same_pieces size [] (y ∷ ys) s t of_xs of_ys short_s short_t e =
    absurd (no_piece size y (joined ys ++ t) s (All-head (λ piece. length piece ≡ size) y ys of_ys) short_s (e ∙ append_assoc y (joined ys) t))
same_pieces size (x ∷ xs) [] s t of_xs of_ys short_s short_t e =
    absurd (no_piece size x (joined xs ++ s) t (All-head (λ piece. length piece ≡ size) x xs of_xs) short_t (sym e ∙ append_assoc x (joined xs) s))
same_pieces size (x ∷ xs) (y ∷ ys) s t of_xs of_ys short_s short_t e =
    let both : x ++ (joined xs ++ s) ≡ y ++ (joined ys ++ t) = sym (append_assoc x (joined xs) s) ∙ e ∙ append_assoc y (joined ys) t in
    let of_x : length x ≡ size = All-head (λ piece. length piece ≡ size) x xs of_xs in
    let of_y : length y ≡ size = All-head (λ piece. length piece ≡ size) y ys of_ys in
    let behind = same_pieces size xs ys s t (All-tail (λ piece. length piece ≡ size) x xs of_xs) (All-tail (λ piece. length piece ≡ size) y ys of_ys)
    short_s short_t (same_behind size x y (joined xs ++ s) (joined ys ++ t) of_x of_y both) in
    (ap₂ (λ p ps. p ∷ ps) (same_front size x y (joined xs ++ s) (joined ys ++ t) of_x of_y both) behind.0, behind.1)

pub one_cut : (size : ℕ) (bytes : List ℕ) (xs ys : List (List ℕ)) (s t : List ℕ) → IsCut size bytes xs s → IsCut size bytes ys t → (xs ≡ ys) × (s ≡ t)
one_cut size bytes xs ys s t cut other = same_pieces size xs ys s t cut.each other.each cut.short other.short (sym cut.whole ∙ other.whole)
