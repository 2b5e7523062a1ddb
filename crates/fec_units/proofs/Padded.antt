-- Bytes with zeros after them, column by column.
use Rattle.std.proofs.Common.{◌≡◌, ℕ, zero, suc, ◌+◌, ◌-◌, ◌*◌, ◌≤◌, List, [], ◌∷◌, ◌++◌, length, drop, replicate, refl, ap, ◌∙◌, arith}
use Rattle.std.proofs.lemmas.List.{drop_all}
use Rattle.wire_spec.specs.Lists.{joined}
use Rattle.fec_frame_spec.specs.Frame.{data_table}
use Rattle.fec_units.specs.Parts.{padded}

pub padded_zero : (xs : List ℕ) → padded 0 xs ≡ []
unfolding padded
padded_zero xs = refl

pub length-padded : (n : ℕ) (xs : List ℕ) → length (padded n xs) ≡ n
unfolding padded
length-padded zero xs = refl
length-padded (suc n) [] = ap (λ (k : ℕ). suc k) (length-padded n [])
length-padded (suc n) (x ∷ xs) = ap (λ (k : ℕ). suc k) (length-padded n xs)

padded_nil : (n : ℕ) → padded n [] ≡ replicate n 0
unfolding padded
padded_nil zero = refl
padded_nil (suc n) = ap (λ (l : List ℕ). 0 ∷ l) (padded_nil n)

-- columns one after another
pub padded-add : (a b : ℕ) (xs : List ℕ) → padded (a + b) xs ≡ padded a xs ++ padded b (drop a xs)
unfolding padded
padded-add zero b xs = let e : 0 + b ≡ b = omega arith in ap (λ (n : ℕ). padded n xs) e
padded-add (suc a) b [] =
    let e : suc a + b ≡ suc (a + b) = omega arith in
    ap (λ (n : ℕ). padded n []) e
    ∙ ap (λ (l : List ℕ). 0 ∷ l) (padded-add a b [] ∙ ap (λ (l : List ℕ). padded a [] ++ padded b l) (drop_all a [] (omega arith)))
padded-add (suc a) b (x ∷ xs) =
    let e : suc a + b ≡ suc (a + b) = omega arith in
    ap (λ (n : ℕ). padded n (x ∷ xs)) e ∙ ap (λ (l : List ℕ). x ∷ l) (padded-add a b xs)

-- bytes and zeros
pub padded-append : (n : ℕ) (xs : List ℕ) → length xs ≤ n → padded n xs ≡ xs ++ replicate (n - length xs) 0
unfolding padded
padded-append n [] fits = let e : n ≡ n - 0 = omega arith in padded_nil n ∙ ap (λ (k : ℕ). replicate k 0) e
padded-append zero (x ∷ xs) fits = absurd (omega (arith, fits))
padded-append (suc n) (x ∷ xs) fits =
    let e : n - length xs ≡ suc n - suc (length xs) = omega arith in
    ap (λ (l : List ℕ). x ∷ l) (padded-append n xs (omega (arith, fits)) ∙ ap (λ (k : ℕ). xs ++ replicate k 0) e)

-- the first of many
pub padded_front : (xs ys : List ℕ) → padded (length xs) (xs ++ ys) ≡ xs
unfolding padded
padded_front [] ys = refl
padded_front (x ∷ xs) ys = ap (λ (l : List ℕ). x ∷ l) (padded_front xs ys)

-- the application data table
pub table_is_padded : (rows : ℕ) (datagrams : List (List ℕ)) → length (joined datagrams) ≤ 191 * rows → padded (191 * rows) (joined datagrams) ≡ data_table rows datagrams
unfolding data_table
table_is_padded rows datagrams fits = padded-append (191 * rows) (joined datagrams) fits
