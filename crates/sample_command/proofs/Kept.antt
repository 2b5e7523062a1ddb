-- One packet more of a sample's stream.
use Rattle.std.proofs.Common.{◌≡◌, ℕ, zero, suc, ◌+◌, ◌<◌, Bool, true, false, not, cond, List, [], ◌∷◌, ◌++◌, length, map, refl, ap, ap₂, ◌∙◌, arith}
use Rattle.std.specs.Prelude.{filter, count_by, sum_by, get_or}
use Rattle.std.specs.List.{range_with_len}
use Rattle.std.proofs.lemmas.List.{append-nil, length_push, map-append, get_or_append_left}
use Rattle.std.proofs.Math.Seq.{get_or-append_seam}
use Rattle.std.proofs.lemmas.List.Elements.{filter-append}
use Rattle.std.proofs.lemmas.List.Sums.{sum_by-append, sum_by-cons}
use Rattle.sample_spec.specs.Summary.{is_dropped, places, dropped_count, kept_of}

-- a range with one number more
range_push : (a n : ℕ) → range_with_len a (suc n) ≡ range_with_len a n ++ (a + n) ∷ []
range_push a zero = let e : a ≡ a + 0 = omega arith in ap (λ (t : ℕ). t ∷ []) e
range_push a (suc n) =
    let e : a + 1 + n ≡ a + suc n = omega arith in
    ap (λ (t : List ℕ). a ∷ t) (range_push (a + 1) n ∙ ap (λ (t : ℕ). range_with_len (a + 1) n ++ t ∷ []) e)

-- what is the same of each number of a range is the same of those that are chosen
same_chosen : {X : Type 0} (f g : ℕ → X) (test : ℕ → Bool) (a n : ℕ) → ((i : ℕ) → i < a + n → f i ≡ g i)
    → map f (filter test (range_with_len a n)) ≡ map g (filter test (range_with_len a n))
same_chosen f g test a zero same = refl
same_chosen {X} f g test a (suc n) same = by_test (test a) (same_chosen f g test (a + 1) n (λ i below. same i (omega (arith, below))))
  where
    by_test : (b : Bool) → map f (filter test (range_with_len (a + 1) n)) ≡ map g (filter test (range_with_len (a + 1) n))
        → map f (cond b (a ∷ filter test (range_with_len (a + 1) n)) (filter test (range_with_len (a + 1) n)))
        ≡ map g (cond b (a ∷ filter test (range_with_len (a + 1) n)) (filter test (range_with_len (a + 1) n)))
    by_test true others = ap₂ (λ (x : X) (xs : List X). x ∷ xs) (same a (omega arith)) others
    by_test false others = others

places_more : (stream : List (List ℕ)) (piece : List ℕ) → places (stream ++ piece ∷ []) ≡ places stream ++ length stream ∷ []
places_more stream piece =
    let longer : length (stream ++ piece ∷ []) ≡ suc (length stream) = omega (arith, length_push stream piece) in
    let last : 0 + length stream ≡ length stream = omega arith in
    ap (range_with_len 0) longer ∙ range_push 0 (length stream) ∙ ap (λ (t : ℕ). range_with_len 0 (length stream) ++ t ∷ []) last

-- how many are dropped
dropped_more : (number : ℕ) (stream : List (List ℕ)) (piece : List ℕ) → dropped_count number (stream ++ piece ∷ []) ≡ dropped_count number stream + cond (is_dropped number (length stream)) 1 0
dropped_more number stream piece =
    let one : ℕ → ℕ = λ place. cond (is_dropped number place) 1 0 in
    let alone : one (length stream) + 0 ≡ one (length stream) = omega arith in
    ap (count_by (is_dropped number)) (places_more stream piece) ∙ sum_by-append one (places stream) (length stream ∷ [])
    ∙ ap (λ (n : ℕ). sum_by one (places stream) + n) (sum_by-cons one (length stream) [] ∙ alone)

pub dropped_yes : (number : ℕ) (stream : List (List ℕ)) (piece : List ℕ) → is_dropped number (length stream) ≡ true → dropped_count number (stream ++ piece ∷ []) ≡ dropped_count number stream + 1
dropped_yes number stream piece lost = dropped_more number stream piece ∙ ap (λ (b : Bool). dropped_count number stream + cond b 1 0) lost

pub dropped_no : (number : ℕ) (stream : List (List ℕ)) (piece : List ℕ) → is_dropped number (length stream) ≡ false → dropped_count number (stream ++ piece ∷ []) ≡ dropped_count number stream
dropped_no number stream piece kept =
    let none : dropped_count number stream + 0 ≡ dropped_count number stream = omega arith in
    dropped_more number stream piece ∙ ap (λ (b : Bool). dropped_count number stream + cond b 1 0) kept ∙ none

-- which are kept
abbrev is_kept : ℕ → ℕ → Bool
is_kept number place = not (is_dropped number place)

kept_more : (number : ℕ) (stream : List (List ℕ)) (piece : List ℕ) → kept_of number (stream ++ piece ∷ []) ≡ kept_of number stream ++ cond (is_dropped number (length stream)) [] (piece ∷ [])
kept_more number stream piece =
    ap (λ (t : List ℕ). map longer (filter (is_kept number) t)) (places_more stream piece)
    ∙ ap (map longer) (filter-append (is_kept number) (places stream) (length stream ∷ []))
    ∙ map-append longer (filter (is_kept number) (places stream)) (filter (is_kept number) (length stream ∷ []))
    ∙ ap₂ (λ (x y : List (List ℕ)). x ++ y) (same_chosen longer shorter (is_kept number) 0 (length stream) same) (last (is_dropped number (length stream)))
  where
    longer : ℕ → List ℕ
    longer place = get_or (stream ++ piece ∷ []) place []

    shorter : ℕ → List ℕ
    shorter place = get_or stream place []

    same : (i : ℕ) → i < 0 + length stream → longer i ≡ shorter i
    same i below = get_or_append_left stream (piece ∷ []) [] i (omega (arith, below))

    last : (b : Bool) → map longer (cond (not b) (length stream ∷ []) []) ≡ cond b [] (piece ∷ [])
    last true = refl
    last false = ap (λ (x : List ℕ). x ∷ []) (get_or-append_seam stream piece [] [])

pub kept_yes : (number : ℕ) (stream : List (List ℕ)) (piece : List ℕ) → is_dropped number (length stream) ≡ false → kept_of number (stream ++ piece ∷ []) ≡ kept_of number stream ++ piece ∷ []
kept_yes number stream piece kept = kept_more number stream piece ∙ ap (λ (b : Bool). kept_of number stream ++ cond b [] (piece ∷ [])) kept

pub kept_no : (number : ℕ) (stream : List (List ℕ)) (piece : List ℕ) → is_dropped number (length stream) ≡ true → kept_of number (stream ++ piece ∷ []) ≡ kept_of number stream
kept_no number stream piece lost = kept_more number stream piece ∙ ap (λ (b : Bool). kept_of number stream ++ cond b [] (piece ∷ [])) lost ∙ append-nil (kept_of number stream)
