-- Texts written one after another.
use Rattle.std.proofs.Common.{◌≡◌, ℕ, ◌+◌, min, List, ◌++◌, length, take, Option, Result, Ok, Err, ap, sym, ◌∙◌, subst}
use Rattle.std.specs.Io.KnownBytes.{Appends}
use Rattle.std.proofs.KnownBytes.{Appends-trans}
use Rattle.std.proofs.lemmas.List.{take-append-le, take_min}
use Rattle.std.proofs.Math.Seq.{take-append-add}
use Rattle.std.proofs.Math.Nat.{min-le_right}
use Rattle.wire_spec.specs.Content.{Puts}

-- a front of a text is one of a longer text
pub front_of_longer : (a b : Option (List ℕ)) (xs ys zs : List ℕ) → zs ≡ xs ++ ys → (n : ℕ) × Appends a b (take n xs) → (n : ℕ) × Appends a b (take n zs)
front_of_longer a b xs ys zs e h =
    let m : ℕ = min h.0 (length xs) in
    let same : take h.0 xs ≡ take m zs =
    sym (take_min h.0 xs) ∙ (sym (take-append-le m xs ys (min-le_right h.0 (length xs))) ∙ ap (take m) (sym e)) in
    (m, subst (λ (t : List ℕ). Appends a b t) same h.1)

-- a text, and then a front of another
pub front_then : (a b c : Option (List ℕ)) (xs ys zs : List ℕ) → zs ≡ xs ++ ys → Appends a b xs → (n : ℕ) × Appends b c (take n ys) → (n : ℕ) × Appends a c (take n zs)
front_then a b c xs ys zs e first h =
    let same : xs ++ take h.0 ys ≡ take (length xs + h.0) zs = sym (take-append-add xs ys h.0) ∙ ap (take (length xs + h.0)) (sym e) in
    (length xs + h.0, subst (λ (t : List ℕ). Appends a c t) same (Appends-trans a b c xs (take h.0 ys) first h.1))

-- a text, and then another
pub puts_then : {T E : Type 0} (r : Result T E) (a b c : Option (List ℕ)) (xs ys zs : List ℕ) → zs ≡ xs ++ ys → Appends a b xs → Puts r b c ys → Puts r a c zs
puts_then (Ok x) a b c xs ys zs e first h = subst (λ (t : List ℕ). Appends a c t) (sym e) (Appends-trans a b c xs ys first h)
puts_then (Err f) a b c xs ys zs e first h = front_then a b c xs ys zs e first h
