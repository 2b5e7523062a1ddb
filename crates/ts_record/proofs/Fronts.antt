-- One list after another: their prefixes, and what a source gives of both.
use Rattle.std.proofs.Common.{◌≡◌, ℕ, ◌+◌, List, ◌++◌, length, take, ap, sym, ◌∙◌, subst, Option}
use Rattle.std.proofs.Math.Seq.{take-append-add, take-length}
use Rattle.std.specs.Io.KnownBytes.{Consumes}
use Rattle.std.proofs.KnownBytes.{Consumes-trans}

-- a prefix that reaches into the second list
pub take-both : (xs ys : List ℕ) (n m : ℕ) → n ≡ length xs → take (n + m) (xs ++ ys) ≡ take n xs ++ take m ys
take-both xs ys n m all =
    ap (λ k. take (k + m) (xs ++ ys)) all ∙ take-append-add xs ys m
    ∙ ap (λ front. front ++ take m ys) (sym (ap (λ k. take k xs) all ∙ take-length xs))

-- the first list was consumed whole, and then a prefix of the second
pub consumes_both : (a b c : Option (List ℕ)) (xs ys : List ℕ) (n m : ℕ) → n ≡ length xs
    → Consumes a b (take n xs) → Consumes b c (take m ys) → Consumes a c (take (n + m) (xs ++ ys))
consumes_both a b c xs ys n m all first second =
    subst (Consumes a c) (sym (take-both xs ys n m all)) (Consumes-trans a b c (take n xs) (take m ys) first second)
