-- Lists: what is among them, and what stands where in joined ones.
use Rattle.std.proofs.Common.{◌≡◌, ◌⊎◌, inl, inr, ℕ, zero, suc, ◌+◌, ◌<◌, ◌≤◌, Bool, true, false, cond, eqb, List, [], ◌∷◌, ◌++◌, length, get_or, filter, drop, replicate, refl, ap, sym, ◌∙◌, arith}
use Rattle.std.specs.List.{list_any, range_with_len}
use Rattle.std.proofs.lemmas.Bool.{cases_eq, or_from, or_left, or_right, eq-eqb, eqb-true, or_cases}
use Rattle.wire_spec.specs.Lists.{IsSubsequence}
use Rattle.fec_spec.specs.Row.{is_among}
use Rattle.channel_law.proofs.Member.{Member}

-- an item of a subsequence is one of the list
pub subsequence_member : {X : Type 0} (xs ys : List X) → IsSubsequence xs ys → (x : X) → Member xs x → Member ys x
subsequence_member [] ys within x there = absurd there
subsequence_member (a ∷ xs) [] within x there = absurd within
subsequence_member (a ∷ xs) (b ∷ ys) (inl taken) x (inl same) = inl (sym taken.0 ∙ same)
subsequence_member (a ∷ xs) (b ∷ ys) (inl taken) x (inr there) = inr (subsequence_member xs ys taken.1 x there)
subsequence_member (a ∷ xs) (b ∷ ys) (inr later) x there = inr (subsequence_member (a ∷ xs) ys later x there)

-- what holds of no item holds of none in the list
pub any_none : {X : Type 0} (test : X → Bool) (xs : List X) → ((x : X) → Member xs x → test x ≡ false) → list_any test xs ≡ false
any_none test [] none = refl
any_none test (x ∷ xs) none = or_from (test x) (list_any test xs) (none x (inl refl)) (any_none test xs (λ y there. none y (inr there)))

-- the rest after a list
pub drop_over : (front rest : List ℕ) (k : ℕ) → drop (length front + k) (front ++ rest) ≡ drop k rest
drop_over [] rest k = let e : 0 + k ≡ k = omega arith in ap (λ (n : ℕ). drop n rest) e
drop_over (x ∷ front) rest k =
    let e : suc (length front) + k ≡ suc (length front + k) = omega arith in
    ap (λ (n : ℕ). drop n (x ∷ (front ++ rest))) e ∙ drop_over front rest k

-- zeros are zeros at each place
pub zero_at : (n i : ℕ) → ◌≡◌ {A = ℕ} (get_or (replicate n 0) i 0) 0
zero_at zero i = refl
zero_at (suc n) zero = refl
zero_at (suc n) (suc i) = zero_at n i

-- Numbers of a range that pass a test.

module _ (test : ℕ → Bool) where
  -- one that passes is among them
  pub among_filtered : (a n j : ℕ) → test j ≡ true → a ≤ j → j < a + n → is_among j (filter test (range_with_len a n)) ≡ true
  among_filtered a zero j passes from below = absurd (omega arith)
  among_filtered a (suc n) j passes from below = by_first (cases_eq j a) (λ other. among_filtered (a + 1) n j passes (omega (arith, other)) (omega arith))
    where
      behind : List ℕ
      behind = filter test (range_with_len (a + 1) n)

      by_test : (b : Bool) → test a ≡ b → (j ≡ a) ⊎ (is_among j behind ≡ true) → is_among j (cond b (a ∷ behind) behind) ≡ true
      by_test true passes_a (inl same) = or_left (eqb j a) (is_among j behind) (eq-eqb j a same)
      by_test true passes_a (inr there) = or_right (eqb j a) (is_among j behind) there
      by_test false fails (inl same) = absurd (both (sym passes ∙ ap test same ∙ fails))
        where
          both : true ≡ false → ⊥
          both e = cc
      by_test false fails (inr there) = there

      by_first : (j ≡ a) ⊎ (j ≡ a → ⊥) → ((j ≡ a → ⊥) → is_among j behind ≡ true) → is_among j (filter test (range_with_len a (suc n))) ≡ true
      by_first (inl same) later = by_test (test a) refl (inl same)
      by_first (inr other) later = by_test (test a) refl (inr (later other))

  -- each of them is below the end of the range
  pub filtered_below : (a n j : ℕ) → is_among j (filter test (range_with_len a n)) ≡ true → j < a + n
  filtered_below a zero j there = absurd (never there)
    where
      never : false ≡ true → ⊥
      never e = cc
  filtered_below a (suc n) j there = by_test (test a) there (λ behind. omega (arith, filtered_below (a + 1) n j behind))
    where
      by_test : (b : Bool) → is_among j (cond b (a ∷ filter test (range_with_len (a + 1) n)) (filter test (range_with_len (a + 1) n))) ≡ true
          → (is_among j (filter test (range_with_len (a + 1) n)) ≡ true → j < a + suc n) → j < a + suc n
      by_test false here later = later here
      by_test true here later = by_part (or_cases (eqb j a) (is_among j (filter test (range_with_len (a + 1) n))) here)
        where
          by_part : (eqb j a ≡ true) ⊎ (is_among j (filter test (range_with_len (a + 1) n)) ≡ true) → j < a + suc n
          by_part (inl first) = omega (arith, eqb-true j a first)
          by_part (inr behind) = later behind

  -- each of them passes
  pub filtered_passes : (xs : List ℕ) (j : ℕ) → is_among j (filter test xs) ≡ true → test j ≡ true
  filtered_passes [] j there = absurd (never there)
    where
      never : false ≡ true → ⊥
      never e = cc
  filtered_passes (x ∷ xs) j there = by_test (test x) refl there (filtered_passes xs j)
    where
      by_test : (b : Bool) → test x ≡ b → is_among j (cond b (x ∷ filter test xs) (filter test xs)) ≡ true → (is_among j (filter test xs) ≡ true → test j ≡ true) → test j ≡ true
      by_test false fails here later = later here
      by_test true passes here later = by_part (or_cases (eqb j x) (is_among j (filter test xs)) here)
        where
          by_part : (eqb j x ≡ true) ⊎ (is_among j (filter test xs) ≡ true) → test j ≡ true
          by_part (inl first) = ap test (eqb-true j x first) ∙ passes
          by_part (inr behind) = later behind
