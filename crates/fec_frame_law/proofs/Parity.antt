-- Any 191 bytes begin one codeword: the bytes at the other places are chosen one by one, so that nothing is left of the row.
use Rattle.std.proofs.Common.{◌≡◌, ◌⊎◌, inl, inr, ℕ, zero, suc, ◌+◌, ◌-◌, ◌^◌, ◌<◌, ◌≤◌, true, false, eqb, List, [], ◌∷◌, ◌++◌, length, get_or, map, drop, replicate, slice_set, Option, Some, None, unwrap_or, bit_xor, lit<, refl, ap, ap₂, sym, ◌∙◌, subst, arith}
use Rattle.std.specs.List.{range_with_len}
use Rattle.std.specs.Int.Bits.{xor_self, xor_lt}
use Rattle.std.proofs.lemmas.Bool.{cases_eq, cases_lt, or_cases, or_left, or_right, eq-eqb, eqb-true, false_from_ne_true}
use Rattle.std.proofs.lemmas.List.{length-set, length-append, length-replicate, get_or-set_same, get_or-set_other, get_or_append_left, get_or-append_right, get_or-replicate}
use Rattle.wire_spec.specs.Bytes.{AreBytes}
use Rattle.fec_spec.specs.Field.{field_product}
use Rattle.fec_spec.specs.Codeword.{IsCodeword}
use Rattle.fec_spec.specs.Row.{is_among}
use Rattle.field_law.proofs.Field.{product_fits, product_assoc, product_comm, product_one_right, product_inverse, field_inverse}
use Rattle.erasure_law.specs.Roots.{combined, differences, eliminated, place_power, root_polynomial, syndromes_of}
use Rattle.erasure_law.proofs.Unique.{differences_fit, differences_some, one_codeword}
use Rattle.erasure_law.proofs.Elimination.{eliminated_agree, eliminated_changed, codeword_left}
use Rattle.fec_frame_spec.specs.Corrected.{codeword_with}
use Rattle.fec_frame_spec.specs.Sender.{row_parity}
use Rattle.fec_frame_law.proofs.Lists.{drop_over}
use Rattle.fec_frame_law.proofs.Completions.{Agree, with_is, with_there}

-- Places that differ, and rows of which nothing is left at each.

abbrev AreApart : List ℕ → Type 0
AreApart [] = Unit {0}
AreApart (x ∷ places) = (x < 255) × (is_among x places ≡ false) × AreApart places

abbrev AreLeft : List ℕ → List ℕ → Type 0
AreLeft [] row = Unit {0}
AreLeft (x ∷ places) row = (eliminated places (syndromes_of row) 0 ≡ 0) × AreLeft places row

places_low : (places : List ℕ) → AreApart places → (j : ℕ) → is_among j places ≡ true → j < 255
places_low [] apart j among = absurd (never among)
  where
    never : false ≡ true → ⊥
    never e = cc
places_low (x ∷ places) apart j among = by_part (or_cases (eqb j x) (is_among j places) among) (places_low places apart.2 j)
  where
    by_part : (eqb j x ≡ true) ⊎ (is_among j places ≡ true) → (is_among j places ≡ true → j < 255) → j < 255
    by_part (inl first) later = omega (arith, eqb-true j x first, apart.0)
    by_part (inr behind) later = later behind

combined_fits : (p : List ℕ) (term : ℕ → ℕ) (m : ℕ) → combined p term m < 2 ^ 8
combined_fits [] term m = lit< tt
combined_fits (a ∷ p) term m = xor_lt 8 (field_product a (term m)) (combined p term (suc m)) (product_fits a (term m)) (combined_fits p term (suc m))

-- a byte times the inverse of another, times this
times_inverse : (v d : ℕ) → v < 2 ^ 8 → d < 2 ^ 8 → (d ≡ 0 → ⊥) → field_product (field_product v (field_inverse d)) d ≡ v
times_inverse v d fits low some =
    product_assoc v (field_inverse d) d
    ∙ ap (field_product v) (product_comm (field_inverse d) d ∙ product_inverse d low some)
    ∙ product_one_right v fits

-- The row with other bytes at the places.

record Filled (places row new : List ℕ) : Type 0 where
  pub long : length new ≡ 255
  pub bytes : AreBytes new
  pub same : (j : ℕ) → j < 255 → is_among j places ≡ false → get_or new j 0 ≡ get_or row j 0
  pub left : AreLeft places new

module _ (x : ℕ) (places row : List ℕ) (low : x < 255) (other : is_among x places ≡ false) (apart : AreApart places) (long : length row ≡ 255) (bytes : AreBytes row) where
  abbrev value : ℕ
  value = eliminated places (syndromes_of row) 0

  abbrev factor : ℕ
  factor = differences (map place_power places) (place_power x)

  abbrev added : ℕ
  added = field_product value (field_inverse factor)

  -- with the byte that leaves nothing
  abbrev with_byte : List ℕ
  with_byte = slice_set row x (bit_xor (get_or row x 0) added)

  long_with : length with_byte ≡ 255
  long_with = length-set row x (bit_xor (get_or row x 0) added) ∙ long

  other_byte : (j : ℕ) → (j ≡ x → ⊥) → get_or with_byte j 0 ≡ get_or row j 0
  other_byte j ne = get_or-set_other row x j (bit_xor (get_or row x 0) added) 0 ne

  bytes_with : AreBytes with_byte
  bytes_with i d within = by_place (cases_eq i x)
    where
      inside : i < length row
      inside = omega (arith, within, long, long_with)

      by_place : (i ≡ x) ⊎ (i ≡ x → ⊥) → get_or with_byte i d < 256
      by_place (inl same) =
          let here : get_or with_byte x d ≡ bit_xor (get_or row x 0) added = get_or-set_same row x (bit_xor (get_or row x 0) added) d (omega (arith, low, long)) in
          let fits : bit_xor (get_or row x 0) added < 2 ^ 8 = xor_lt 8 (get_or row x 0) added (bytes x 0 (omega (arith, low, long))) (product_fits value (field_inverse factor)) in
          subst (λ (b : ℕ). b < 256) (sym (ap (λ (k : ℕ). get_or with_byte k d) same ∙ here)) fits
      by_place (inr ne) = subst (λ (b : ℕ). b < 256) (sym (get_or-set_other row x i (bit_xor (get_or row x 0) added) d ne)) (bytes i d inside)

  none_with : eliminated places (syndromes_of with_byte) 0 ≡ 0
  none_with =
      eliminated_changed places row with_byte x added long long_with low (λ j below ne. sym (other_byte j ne))
      (get_or-set_same row x (bit_xor (get_or row x 0) added) 0 (omega (arith, low, long)))
      ∙ ap (bit_xor value)
      (times_inverse value factor (combined_fits (root_polynomial (map place_power places)) (syndromes_of row) 0) (differences_fit (map place_power places) (place_power x))
      (differences_some x places low (places_low places apart) other))
      ∙ xor_self value

  one_more : (new : List ℕ) → Filled places with_byte new → Filled (x ∷ places) row new
  one_more new filled = record {
    long = filled.long;
    bytes = filled.bytes;
    same = λ j below not_among.
        filled.same j below (false_from_ne_true (is_among j places) (λ among. both (sym (or_right (eqb j x) (is_among j places) among) ∙ not_among)))
        ∙ other_byte j (λ same. both (sym (or_left (eqb j x) (is_among j places) (eq-eqb j x same)) ∙ not_among));
    left = (eliminated_agree places new with_byte 0 filled.long long_with filled.same ∙ none_with, filled.left);
  }
    where
      both : true ≡ false → ⊥
      both e = cc

fill : (places row : List ℕ) → AreApart places → length row ≡ 255 → AreBytes row → (new : List ℕ) × Filled places row new
fill [] row apart long bytes = (row, record { long = long; bytes = bytes; same = λ j below not_among. refl; left = tt })
fill (x ∷ places) row apart long bytes =
    let rest = fill places (with_byte x places row apart.0 apart.1 apart.2 long bytes) apart.2
    (long_with x places row apart.0 apart.1 apart.2 long bytes) (bytes_with x places row apart.0 apart.1 apart.2 long bytes) in
    (rest.0, one_more x places row apart.0 apart.1 apart.2 long bytes rest.0 rest.1)

-- A row of which nothing is left at 64 places is a codeword.

left_after : (places row : List ℕ) → AreLeft places row → (k : ℕ) → k < length places → eliminated (drop (suc k) places) (syndromes_of row) 0 ≡ 0
left_after [] row left k low = absurd (omega (arith, low))
left_after (x ∷ places) row left zero low = left.0
left_after (x ∷ places) row left (suc k) low = left_after places row left.1 k (omega (arith, low))

left_codeword : (places row : List ℕ) → length places ≡ 64 → length row ≡ 255 → AreBytes row → AreLeft places row → IsCodeword row
left_codeword places row count long bytes left =
    codeword_left places row long bytes
    (λ j low.
    let first : length places - j ≡ suc (63 - j) = omega (arith, count, low) in
    let power : j - length places ≡ 0 = omega (arith, count, low) in
    ap₂ (λ (k m : ℕ). eliminated (drop k places) (syndromes_of row) m) first power
    ∙ left_after places row left (63 - j) (omega (arith, count)))

-- The places of parity.

range_from : (n a j : ℕ) → is_among j (range_with_len a n) ≡ true → (a ≤ j) × (j < a + n)
range_from zero a j among = absurd (never among)
  where
    never : false ≡ true → ⊥
    never e = cc
range_from (suc n) a j among = by_part (or_cases (eqb j a) (is_among j (range_with_len (a + 1) n)) among) (range_from n (a + 1) j)
  where
    by_part : (eqb j a ≡ true) ⊎ (is_among j (range_with_len (a + 1) n) ≡ true)
        → (is_among j (range_with_len (a + 1) n) ≡ true → (a + 1 ≤ j) × (j < a + 1 + n)) → (a ≤ j) × (j < a + suc n)
    by_part (inl first) later = (omega (arith, eqb-true j a first), omega (arith, eqb-true j a first))
    by_part (inr behind) later = (omega (arith, (later behind).0), omega (arith, (later behind).1))

range_has : (n a j : ℕ) → a ≤ j → j < a + n → is_among j (range_with_len a n) ≡ true
range_has zero a j from below = absurd (omega (arith, from, below))
range_has (suc n) a j from below = by_place (cases_eq j a) (λ ne. range_has n (a + 1) j (omega (arith, from, ne)) (omega (arith, below)))
  where
    by_place : (j ≡ a) ⊎ (j ≡ a → ⊥) → ((j ≡ a → ⊥) → is_among j (range_with_len (a + 1) n) ≡ true) → is_among j (range_with_len a (suc n)) ≡ true
    by_place (inl same) later = or_left (eqb j a) (is_among j (range_with_len (a + 1) n)) (eq-eqb j a same)
    by_place (inr ne) later = or_right (eqb j a) (is_among j (range_with_len (a + 1) n)) (later ne)

range_apart : (n a : ℕ) → a + n ≤ 255 → AreApart (range_with_len a n)
range_apart zero a low = tt
range_apart (suc n) a low = (
  omega (arith, low),
  false_from_ne_true (is_among a (range_with_len (a + 1) n)) (λ among. absurd (omega (arith, (range_from n (a + 1) a among).0))),
  range_apart n (a + 1) (omega (arith, low)),
)

range_length : (n a : ℕ) → length (range_with_len a n) ≡ n
range_length zero a = refl
range_length (suc n) a = ap (λ (k : ℕ). suc k) (range_length n (a + 1))

-- A row of known bytes and unknown ones after them.

abbrev row_with : ℕ → List ℕ → List (Option ℕ)
row_with n row = map Some row ++ replicate n None

agree_front : (n : ℕ) (row code : List ℕ) → length code ≡ length row + n → AreBytes code → ((j : ℕ) → j < length row → get_or code j 0 ≡ get_or row j 0) → Agree (row_with n row) code
agree_front zero [] [] long bytes same = tt
agree_front zero [] (b ∷ code) long bytes same = absurd (omega (arith, long))
agree_front (suc n) [] [] long bytes same = absurd (omega (arith, long))
agree_front (suc n) [] (b ∷ code) long bytes same =
    (bytes 0 0 (omega arith), agree_front n [] code (omega (arith, long)) (λ i d within. bytes (suc i) d (omega (arith, within))) (λ j low. absurd (omega (arith, low))))
agree_front n (x ∷ row) [] long bytes same = absurd (omega (arith, long))
agree_front n (x ∷ row) (b ∷ code) long bytes same =
    (sym (same 0 (omega arith)), agree_front n row code (omega (arith, long)) (λ i d within. bytes (suc i) d (omega (arith, within))) (λ j low. same (suc j) (omega (arith, low))))

front_is : (n : ℕ) (row code : List ℕ) → Agree (row_with n row) code → code ≡ row ++ drop (length row) code
front_is n [] code agree = refl
front_is n (x ∷ row) [] agree = absurd agree
front_is n (x ∷ row) (b ∷ code) agree = ap₂ (λ (c : ℕ) (l : List ℕ). c ∷ l) (sym agree.0) (front_is n row code agree.1)

module _ (row : List ℕ) (long : length row ≡ 191) (bytes : AreBytes row) where
  abbrev start : List ℕ
  start = row ++ replicate 64 0

  long_start : length start ≡ 255
  long_start = length-append row (replicate 64 0) ∙ ap₂ (λ (m n : ℕ). m + n) long (length-replicate {A = ℕ} 64 0)

  bytes_start : AreBytes start
  bytes_start i d within = by_place (cases_lt i (length row))
    where
      by_place : (i < length row) ⊎ (length row ≤ i) → get_or start i d < 256
      by_place (inl front) = subst (λ (b : ℕ). b < 256) (sym (get_or_append_left row (replicate 64 0) d i front)) (bytes i d front)
      by_place (inr behind) =
          let zero_there : get_or start i d ≡ 0 =
          get_or-append_right row (replicate 64 0) (length row) i d refl behind ∙ get_or-replicate {A = ℕ} 64 (i - length row) 0 d (omega (arith, within, long_start, long, behind)) in
          omega (arith, zero_there)

  filled : (new : List ℕ) × Filled (range_with_len 191 64) start new
  filled = fill (range_with_len 191 64) start (range_apart 64 191 (omega arith)) long_start bytes_start

  agree : Agree (row_with 64 row) filled.0
  agree =
      agree_front 64 row filled.0 (omega (arith, filled.1.long, long)) filled.1.bytes
      (λ j low.
      filled.1.same j (omega (arith, low, long))
      (false_from_ne_true (is_among j (range_with_len 191 64)) (λ among. absurd (omega (arith, (range_from 64 191 j among).0, low, long))))
      ∙ get_or_append_left row (replicate 64 0) 0 j low)

  found : (code : List ℕ) × (codeword_with (row_with 64 row) ≡ Some code)
  found =
      with_there (row_with 64 row) filled.0
      (left_codeword (range_with_len 191 64) filled.0 (range_length 64 191) filled.1.long filled.1.bytes filled.1.left) agree

  pub parity_completes : IsCodeword (row ++ row_parity row)
  unfolding row_parity
  parity_completes =
      let is = with_is (row_with 64 row) found.0 found.1 in
      let whole : found.0 ≡ row ++ drop 191 (unwrap_or (codeword_with (row_with 64 row)) []) =
      front_is 64 row found.0 is.1
      ∙ ap (λ (k : ℕ). row ++ drop k found.0) long
      ∙ ap (λ (o : Option (List ℕ)). row ++ drop 191 (unwrap_or o [])) (sym found.1) in
      subst IsCodeword whole is.0

front_bytes : (row parity : List ℕ) → AreBytes (row ++ parity) → AreBytes row
front_bytes row parity bytes i d within =
    subst (λ (b : ℕ). b < 256) (get_or_append_left row parity d i within) (bytes i d (omega (arith, within, length-append row parity)))

pub parity_is : (row parity : List ℕ) → length row ≡ 191 → IsCodeword (row ++ parity) → parity ≡ row_parity row
parity_is row parity long is =
    sym (behind parity) ∙ ap (λ (l : List ℕ). drop (length row + 0) l) same ∙ behind (row_parity row)
  where
    behind : (rest : List ℕ) → drop (length row + 0) (row ++ rest) ≡ rest
    behind rest = drop_over row rest 0

    known : (j : ℕ) → j < 255 → is_among j (range_with_len 191 64) ≡ false → get_or (row ++ parity) j 0 ≡ get_or (row ++ row_parity row) j 0
    known j low not_among = by_place (cases_lt j (length row))
      where
        both : true ≡ false → ⊥
        both e = cc

        by_place : (j < length row) ⊎ (length row ≤ j) → get_or (row ++ parity) j 0 ≡ get_or (row ++ row_parity row) j 0
        by_place (inl front) = get_or_append_left row parity 0 j front ∙ sym (get_or_append_left row (row_parity row) 0 j front)
        by_place (inr after) = absurd (both (sym (range_has 64 191 j (omega (arith, after, long)) (omega (arith, low))) ∙ not_among))

    few : length (range_with_len 191 64) ≤ 64
    few = omega (arith, range_length 64 191)

    below : (j : ℕ) → is_among j (range_with_len 191 64) ≡ true → j < 255
    below j among = omega (arith, (range_from 64 191 j among).1)

    same : row ++ parity ≡ row ++ row_parity row
    same =
        one_codeword (range_with_len 191 64) (row ++ parity) (row ++ row_parity row) is (parity_completes row long (front_bytes row parity is.bytes)) below few
        (record { known = known })
