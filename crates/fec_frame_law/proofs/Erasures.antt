-- The erasures of a row are its unknown columns, each once.
use Rattle.std.proofs.Common.{◌≡◌, ◌⊎◌, inl, inr, ℕ, zero, suc, ◌+◌, ◌*◌, ◌<◌, ◌≤◌, Bool, true, false, cond, eqb, List, [], ◌∷◌, length, filter, Option, Some, None, refl, ap, sym, ◌∙◌, arith}
use Rattle.std.specs.Prelude.{is_none, Contains, ◌↔◌}
use Rattle.std.specs.List.{range_with_len}
use Rattle.std.proofs.lemmas.Bool.{or_cases, or_left, or_right, eq-eqb, eqb-true}
use Rattle.channel_spec.specs.Carried.{IsRising}
use Rattle.channel_law.proofs.Member.{Member, member_contains, contains_member}
use Rattle.fec_spec.specs.Row.{is_among}
use Rattle.erasure_law.specs.Roots.{without}
use Rattle.erasure_law.proofs.Unique.{length-without, among-without}
use Rattle.fec_frame_spec.specs.Sections.{FrameSection}
use Rattle.fec_frame_spec.specs.Known.{known_byte, IsErasure}
use Rattle.fec_frame_spec.specs.Corrected.{unknown_columns, IsRecoverable}
use Rattle.fec_frame_law.specs.Recovered.{HasFewErasures}
use Rattle.fec_frame_law.proofs.Lists.{among_filtered, filtered_below, filtered_passes}

-- A number is among some where it is one of them.

among_member : (xs : List ℕ) (j : ℕ) → is_among j xs ≡ true → Member xs j
among_member [] j among = absurd (never among)
  where
    never : false ≡ true → ⊥
    never e = cc
among_member (x ∷ xs) j among = by_part (or_cases (eqb j x) (is_among j xs) among) (among_member xs j)
  where
    by_part : (eqb j x ≡ true) ⊎ (is_among j xs ≡ true) → (is_among j xs ≡ true → Member xs j) → Member (x ∷ xs) j
    by_part (inl first) later = inl (sym (eqb-true j x first))
    by_part (inr behind) later = inr (later behind)

member_among : (xs : List ℕ) (j : ℕ) → Member xs j → is_among j xs ≡ true
member_among [] j there = absurd there
member_among (x ∷ xs) j (inl same) = or_left (eqb j x) (is_among j xs) (eq-eqb j x (sym same))
member_among (x ∷ xs) j (inr there) = or_right (eqb j x) (is_among j xs) (member_among xs j there)

-- Rising numbers.

filter_rises : (test : ℕ → Bool) (n a least : ℕ) → least ≤ a → IsRising least (filter test (range_with_len a n))
filter_rises test zero a least low = tt
filter_rises test (suc n) a least low =
    by_test (test a) (filter_rises test n (a + 1) (a + 1) (omega arith)) (filter_rises test n (a + 1) least (omega (arith, low)))
  where
    by_test : (b : Bool) → IsRising (a + 1) (filter test (range_with_len (a + 1) n)) → IsRising least (filter test (range_with_len (a + 1) n))
        → IsRising least (cond b (a ∷ filter test (range_with_len (a + 1) n)) (filter test (range_with_len (a + 1) n)))
    by_test true after before = (low, after)
    by_test false after before = before

rising_least : (xs : List ℕ) (least x : ℕ) → IsRising least xs → Member xs x → least ≤ x
rising_least [] least x rising there = absurd there
rising_least (y ∷ xs) least x rising (inl same) = omega (arith, rising.0, same)
rising_least (y ∷ xs) least x rising (inr there) = omega (arith, rising.0, rising_least xs (y + 1) x rising.1 there)

-- those that lie in a list are no more than it has
rising_fit : (xs : List ℕ) (least : ℕ) (ys : List ℕ) → IsRising least xs → ((x : ℕ) → Member xs x → is_among x ys ≡ true) → length xs ≤ length ys
rising_fit [] least ys rising each = omega arith
rising_fit (x ∷ xs) least ys rising each =
    omega (
      arith,
      length-without x ys (each x (inl refl)),
      rising_fit xs (x + 1) (without x ys) rising.1
          (λ y there. among-without x y ys (λ same. absurd (omega (arith, same, rising_least xs (x + 1) y rising.1 there))) ∙ each y (inr there)),
    )

-- Erasures.

module _ (rows : ℕ) (known : ℕ → Option ℕ) (r : ℕ) where
  pub columns_rise : IsRising 0 (unknown_columns rows known r)
  unfolding unknown_columns
  columns_rise = filter_rises (λ (j : ℕ). is_none (known (j * rows + r))) 255 0 0 (omega arith)

  column_there : (j : ℕ) → j < 255 → known (j * rows + r) ≡ None → Member (unknown_columns rows known r) j
  unfolding unknown_columns
  column_there j low unknown =
      among_member (filter (λ (i : ℕ). is_none (known (i * rows + r))) (range_with_len 0 255)) j
      (among_filtered (λ (i : ℕ). is_none (known (i * rows + r))) 0 255 j (ap (λ (o : Option ℕ). is_none o) unknown) (omega arith) (omega (arith, low)))

  column_is : (j : ℕ) → Member (unknown_columns rows known r) j → (j < 255) × (known (j * rows + r) ≡ None)
  unfolding unknown_columns
  column_is j there = (
    omega (arith, filtered_below (λ (i : ℕ). is_none (known (i * rows + r))) 0 255 j among),
    none_is (known (j * rows + r)) (filtered_passes (λ (i : ℕ). is_none (known (i * rows + r))) (range_with_len 0 255) j among),
  )
    where
      among : is_among j (filter (λ (i : ℕ). is_none (known (i * rows + r))) (range_with_len 0 255)) ≡ true
      among = member_among (filter (λ (i : ℕ). is_none (known (i * rows + r))) (range_with_len 0 255)) j there

      none_is : (o : Option ℕ) → is_none o ≡ true → o ≡ None
      none_is None none = refl
      none_is (Some byte) none = absurd (cc (none))

module _ (rows : ℕ) (intact : List FrameSection) where
  abbrev columns : ℕ → List ℕ
  columns r = unknown_columns rows (known_byte rows intact) r

  pub erasures_are : (r j : ℕ) → r < rows → Contains (columns r) j ↔ IsErasure rows intact r j
  erasures_are r j low = (
    λ there. let is = column_is rows (known_byte rows intact) r j (member_contains (columns r) j there) in record { row = low; column = is.0; unknown = is.1 },
    λ is. contains_member (columns r) j (column_there rows (known_byte rows intact) r j is.column is.unknown),
  )

  pub recoverable_few : IsRecoverable rows intact → (r : ℕ) → r < rows → HasFewErasures rows intact r
  recoverable_few recoverable r low = record { columns = columns r; few = recoverable.row r low; all = λ j is. (erasures_are r j low).1 is }

  few_each : (r : ℕ) → r < rows → HasFewErasures rows intact r → length (columns r) ≤ 64
  few_each r low has =
      omega (
        arith,
        has.few,
        rising_fit (columns r) 0 has.columns (columns_rise rows (known_byte rows intact) r)
            (λ j there. member_among has.columns j (member_contains has.columns j (has.all j ((erasures_are r j low).0 (contains_member (columns r) j there))))),
      )

  pub few_recoverable : ((r : ℕ) → r < rows → HasFewErasures rows intact r) → IsRecoverable rows intact
  few_recoverable each = record { row = λ r low. few_each r low (each r low) }
