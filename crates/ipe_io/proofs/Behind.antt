-- A writer behind a buffer: what it takes, and what stays held.
use Rattle.std.proofs.Common.{◌≡◌, ℕ, ◌+◌, ◌-◌, ◌≤◌, List, [], length, take, drop, ap, sym, subst, ◌∙◌, arith, append-nil, length-drop, None, Some, Option, Ok, Result}
use lib.Seq.{paste}
use Rattle.std.proofs.lemmas.List.{drop-take}
use Rattle.std.proofs.lemmas.List.Edits.{take-paste}
use Rattle.std.specs.Io.KnownBytes.{Appends, Keeps, WriteAppends}
use Rattle.std.proofs.KnownBytes.{Keeps-trans}

keeps_of_none : (a b : Option (List ℕ)) → Appends a b [] → Keeps a b
keeps_of_none None b p = tt
keeps_of_none (Some x) None p = absurd p
keeps_of_none (Some x) (Some y) p = p ∙ append-nil x

-- a writer that took nothing keeps what it has
pub took_none : {E : Type 0} (a b c : Option (List ℕ)) (r : Result ℕ E) (n : ℕ) (piece : List ℕ) → r ≡ Ok n → n ≡ 0
    → Keeps a b → WriteAppends b c r piece → Keeps a c
took_none a b c r n piece is none kept p =
    Keeps-trans a b c kept (keeps_of_none b c (subst (λ k. Appends b c (take k piece)) none (subst (λ s. WriteAppends b c s piece) is p)))

-- what is left of the front of a buffer, moved down
pub moved_down : (xs : List ℕ) (n fill : ℕ) → n ≤ fill → fill ≤ length xs → take (fill - n) (paste xs 0 (drop n xs) (fill - n)) ≡ drop n (take fill xs)
moved_down xs n fill part within =
    let left = fill - n in
    let same : left ≡ 0 + left = omega arith in
    let on : n + left ≡ fill = omega arith in
    ap (λ k. take k (paste xs 0 (drop n xs) (fill - n))) same
    ∙ take-paste xs 0 (drop n xs) left (omega arith) (omega (arith, length-drop n xs))
    ∙ sym (drop-take n left xs)
    ∙ ap (λ k. drop n (take k xs)) on
