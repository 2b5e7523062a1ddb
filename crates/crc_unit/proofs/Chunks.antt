-- Bytes cut into pieces of one size, and the rest after them.
use Rattle.std.proofs.Common.{ℕ, zero, suc, List, [], ◌∷◌, ◌++◌, ◌≡◌, ◌+◌, ◌*◌, ◌≤◌, length, take, drop, get_or, ap, sym, ◌∙◌, arith, append_assoc, length-drop}
use Rattle.std.specs.Simd.{first_chunks}
use Rattle.std.proofs.Math.Seq.{drop-cons}
use Rattle.std.proofs.lemmas.List.{drop-drop, drop_all, take-append-drop}
use Rattle.wire_spec.specs.Lists.{joined}

-- the pieces one after another, and what stands after them, are the bytes
pub joined_chunks : (n k : ℕ) (bytes : List ℕ) → k * n ≤ length bytes → joined (first_chunks n k bytes) ++ drop (k * n) bytes ≡ bytes
joined_chunks n zero bytes fits =
    let none : zero * n ≡ zero = omega arith in
    ap (λ m. drop m bytes) none
joined_chunks n (suc k) bytes fits =
    let e : suc k * n ≡ n + k * n = grind arith in
    let room : k * n ≤ length (drop n bytes) = omega (arith, length-drop n bytes) in
    append_assoc (take n bytes) (joined (first_chunks n k (drop n bytes))) (drop (suc k * n) bytes)
    ∙ ap (λ l. take n bytes ++ (joined (first_chunks n k (drop n bytes)) ++ l)) (ap (λ m. drop m bytes) e ∙ sym (drop-drop (k * n) n bytes))
    ∙ ap (λ l. take n bytes ++ l) (joined_chunks n k (drop n bytes) room)
    ∙ take-append-drop n bytes

-- a list of eight, byte by byte
pub eight_is : (xs : List ℕ) → length xs ≡ 8
    → xs ≡ get_or xs 0 0 ∷ get_or xs 1 0 ∷ get_or xs 2 0 ∷ get_or xs 3 0 ∷ get_or xs 4 0 ∷ get_or xs 5 0 ∷ get_or xs 6 0 ∷ get_or xs 7 0 ∷ []
eight_is xs long =
    drop-cons xs 0 0 (omega arith)
    ∙ ap (λ l. get_or xs 0 0 ∷ l) (drop-cons xs 1 0 (omega arith)
    ∙ ap (λ l. get_or xs 1 0 ∷ l) (drop-cons xs 2 0 (omega arith)
    ∙ ap (λ l. get_or xs 2 0 ∷ l) (drop-cons xs 3 0 (omega arith)
    ∙ ap (λ l. get_or xs 3 0 ∷ l) (drop-cons xs 4 0 (omega arith)
    ∙ ap (λ l. get_or xs 4 0 ∷ l) (drop-cons xs 5 0 (omega arith)
    ∙ ap (λ l. get_or xs 5 0 ∷ l) (drop-cons xs 6 0 (omega arith)
    ∙ ap (λ l. get_or xs 6 0 ∷ l) (drop-cons xs 7 0 (omega arith)
    ∙ ap (λ l. get_or xs 7 0 ∷ l) (drop_all 8 xs (omega arith)))))))))

-- the first four bytes, and what stands after them
pub four_ahead : (xs : List ℕ) → 4 ≤ length xs → xs ≡ get_or xs 0 0 ∷ get_or xs 1 0 ∷ get_or xs 2 0 ∷ get_or xs 3 0 ∷ drop 4 xs
four_ahead xs long =
    drop-cons xs 0 0 (omega arith)
    ∙ ap (λ l. get_or xs 0 0 ∷ l) (drop-cons xs 1 0 (omega arith)
    ∙ ap (λ l. get_or xs 1 0 ∷ l) (drop-cons xs 2 0 (omega arith)
    ∙ ap (λ l. get_or xs 2 0 ∷ l) (drop-cons xs 3 0 (omega arith))))

-- the last twelve of sixteen bytes, byte by byte
pub twelve_are : (xs : List ℕ) → length xs ≡ 16
    → drop 4 xs ≡ get_or xs 4 0 ∷ get_or xs 5 0 ∷ get_or xs 6 0 ∷ get_or xs 7 0 ∷ get_or xs 8 0 ∷ get_or xs 9 0 ∷ get_or xs 10 0 ∷ get_or xs 11 0 ∷ get_or xs 12 0 ∷ get_or xs 13 0 ∷ get_or xs 14 0 ∷ get_or xs 15 0 ∷ []
twelve_are xs long =
    drop-cons xs 4 0 (omega arith)
    ∙ ap (λ l. get_or xs 4 0 ∷ l) (drop-cons xs 5 0 (omega arith)
    ∙ ap (λ l. get_or xs 5 0 ∷ l) (drop-cons xs 6 0 (omega arith)
    ∙ ap (λ l. get_or xs 6 0 ∷ l) (drop-cons xs 7 0 (omega arith)
    ∙ ap (λ l. get_or xs 7 0 ∷ l) (drop-cons xs 8 0 (omega arith)
    ∙ ap (λ l. get_or xs 8 0 ∷ l) (drop-cons xs 9 0 (omega arith)
    ∙ ap (λ l. get_or xs 9 0 ∷ l) (drop-cons xs 10 0 (omega arith)
    ∙ ap (λ l. get_or xs 10 0 ∷ l) (drop-cons xs 11 0 (omega arith)
    ∙ ap (λ l. get_or xs 11 0 ∷ l) (drop-cons xs 12 0 (omega arith)
    ∙ ap (λ l. get_or xs 12 0 ∷ l) (drop-cons xs 13 0 (omega arith)
    ∙ ap (λ l. get_or xs 13 0 ∷ l) (drop-cons xs 14 0 (omega arith)
    ∙ ap (λ l. get_or xs 14 0 ∷ l) (drop-cons xs 15 0 (omega arith)
    ∙ ap (λ l. get_or xs 15 0 ∷ l) (drop_all 16 xs (omega arith)))))))))))))
