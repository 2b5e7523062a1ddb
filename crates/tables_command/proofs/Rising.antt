-- A number put among rising ones.
use Rattle.std.proofs.Common.{◌≡◌, ℕ, zero, suc, ◌≤◌, ◌<◌, List, [], ◌∷◌, length, refl, ap, slice_index_or, ◌==◌, nat_lt, if◌then◌else◌, arith, rules, sym, ◌∙◌}
use Rattle.std.specs.List.{insert}
use Rattle.psi_spec.specs.Tables.{with_number}

-- a smaller one is passed
passes : {A : Type 0} (n m : ℕ) (a b d : A) → m < n → (if n == m then a else if nat_lt n m then b else d) ≡ d
passes n m a b d less = grind (arith, less)

-- an equal one stands for it
equals : {A : Type 0} (n m : ℕ) (a b : A) → m ≡ n → (if n == m then a else b) ≡ a
equals n m a b same = grind (arith, same)

-- it stands before a larger one
precedes : {A : Type 0} (n m : ℕ) (a b d : A) → n < m → (if n == m then a else if nat_lt n m then b else d) ≡ b
precedes n m a b d less = grind (arith, less)

pub with_number-there : (numbers : List ℕ) (n at : ℕ) → ((k : ℕ) → k < at → slice_index_or numbers k 0 < n) → at < length numbers
    → slice_index_or numbers at 0 ≡ n → numbers ≡ with_number numbers n
with_number-there [] n at before less same = search rules
with_number-there (m ∷ numbers) n zero before less same = sym (equals n m _ _ same)
with_number-there (m ∷ numbers) n (suc at) before less same =
    ap (λ xs. m ∷ xs) (with_number-there numbers n at (λ k below. before (suc k) (search rules)) (search rules) same) ∙ sym (passes n m _ _ _ (before 0 (search rules)))

pub with_number-new : (numbers : List ℕ) (n at : ℕ) → ((k : ℕ) → k < at → slice_index_or numbers k 0 < n) → at ≤ length numbers
    → (at < length numbers → n < slice_index_or numbers at 0) → insert numbers at n ≡ with_number numbers n
with_number-new [] n zero before less above = refl
with_number-new [] n (suc at) before less above = search rules
with_number-new (m ∷ numbers) n zero before less above = sym (precedes n m _ _ _ (above (search rules)))
with_number-new (m ∷ numbers) n (suc at) before less above =
    ap (λ xs. m ∷ xs) (with_number-new numbers n at (λ k below. before (suc k) (search rules)) (search rules) (λ below. above (search rules)))
    ∙ sym (passes n m _ _ _ (before 0 (search rules)))
