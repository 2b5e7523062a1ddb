-- A corrected row is the codeword that agrees with its known bytes; those of a received frame are rows of the sent one.
use Rattle.std.proofs.Common.{◌≡◌, ℕ, zero, suc, ◌+◌, ◌*◌, ◌/◌, ◌%◌, ◌<◌, ◌≤◌, Bool, true, false, cond, leb, List, [], ◌∷◌, length, get_or, map, filter, Option, Some, None, refl, ap, sym, ◌∙◌, arith, le-leb}
use Rattle.std.specs.Prelude.{is_none}
use Rattle.std.specs.List.{range_with_len, list_any}
use Rattle.std.proofs.lemmas.Nat.{div-add-mod', div_below, mod_below, div-mul-add, mod-mul-add}
use Rattle.std.proofs.lemmas.Bool.{false_from_ne_true, leb-true, or_parts}
use Rattle.wire_spec.specs.Bytes.{AreBytes}
use Rattle.fec_spec.specs.Codeword.{IsCodeword}
use Rattle.fec_spec.specs.Row.{is_among, Agrees, IsCorrectable}
use Rattle.fec_spec.specs.Table.{table_row}
use Rattle.erasure_law.proofs.Unique.{one_codeword}
use Rattle.erasure_law.proofs.Tables.{get_or-table_row}
use Rattle.fec_frame_spec.specs.Corrected.{known_row, unknown_columns, IsCorrection, codeword_with, corrected_row, byte_of_row, corrected_byte, lacks_data}
use Rattle.fec_frame_law.proofs.Lists.{among_filtered, filtered_below, filtered_passes}
use Rattle.fec_frame_law.proofs.Completions.{Agree, with_is, with_there}

-- a column that is not among the unknown ones is known
known_column : (rows : ℕ) (known : ℕ → Option ℕ) (r j : ℕ) → j < 255 → is_among j (unknown_columns rows known r) ≡ false
    → (byte : ℕ) × (known (j * rows + r) ≡ Some byte)
unfolding unknown_columns
known_column rows known r j low not_among = by_byte (known (j * rows + r)) refl
  where
    both : true ≡ false → ⊥
    both e = cc

    by_byte : (o : Option ℕ) → known (j * rows + r) ≡ o → (byte : ℕ) × (known (j * rows + r) ≡ Some byte)
    by_byte (Some byte) is = (byte, is)
    by_byte None is =
        absurd (both (sym (among_filtered (λ (i : ℕ). is_none (known (i * rows + r))) 0 255 j (ap (λ (o : Option ℕ). is_none o) is) (omega arith) (omega arith)) ∙ not_among))

unknown_low : (rows : ℕ) (known : ℕ → Option ℕ) (r j : ℕ) → is_among j (unknown_columns rows known r) ≡ true → j < 255
unfolding unknown_columns
unknown_low rows known r j among = omega (arith, filtered_below (λ (i : ℕ). is_none (known (i * rows + r))) 0 255 j among)

known_not_among : (rows : ℕ) (known : ℕ → Option ℕ) (r j byte : ℕ) → known (j * rows + r) ≡ Some byte → is_among j (unknown_columns rows known r) ≡ false
unfolding unknown_columns
known_not_among rows known r j byte is = false_from_ne_true (is_among j (filter (λ (i : ℕ). is_none (known (i * rows + r))) (range_with_len 0 255))) not_there
  where
    both : true ≡ false → ⊥
    both e = cc

    not_there : is_among j (filter (λ (i : ℕ). is_none (known (i * rows + r))) (range_with_len 0 255)) ≡ true → ⊥
    not_there among =
        both (sym (filtered_passes (λ (i : ℕ). is_none (known (i * rows + r))) (range_with_len 0 255) j among) ∙ ap (λ (o : Option ℕ). is_none o) is)

-- Rows as lists.

agree_from : (f : ℕ → Option ℕ) (n a : ℕ) (code : List ℕ) → length code ≡ n → AreBytes code → ((j byte : ℕ) → j < n → f (a + j) ≡ Some byte → get_or code j 0 ≡ byte)
    → Agree (map f (range_with_len a n)) code
agree_from f zero a [] long bytes same = tt
agree_from f zero a (b ∷ code) long bytes same = absurd (omega (arith, long))
agree_from f (suc n) a [] long bytes same = absurd (omega (arith, long))
agree_from f (suc n) a (b ∷ code) long bytes same =
    by_byte (f a) refl (agree_from f n (a + 1) code (omega (arith, long)) (λ i d within. bytes (suc i) d (omega (arith, within)))
    (λ j byte low is. let e : a + suc j ≡ a + 1 + j = omega arith in same (suc j) byte (omega (arith, low)) (ap f e ∙ is)))
  where
    by_byte : (o : Option ℕ) → f a ≡ o → Agree (map f (range_with_len (a + 1) n)) code → Agree (o ∷ map f (range_with_len (a + 1) n)) (b ∷ code)
    by_byte None is rest = (bytes 0 0 (omega arith), rest)
    by_byte (Some known) is rest = let e : a + 0 ≡ a = omega arith in (sym (same 0 known (omega arith) (ap f e ∙ is)), rest)

agree_back : (f : ℕ → Option ℕ) (n a : ℕ) (code : List ℕ) → Agree (map f (range_with_len a n)) code → (j byte : ℕ) → j < n → f (a + j) ≡ Some byte → get_or code j 0 ≡ byte
agree_back f zero a code agree j byte low is = absurd (omega (arith, low))
agree_back f (suc n) a [] agree j byte low is = absurd agree
agree_back f (suc n) a (b ∷ code) agree j byte low is =
    by_place j low is (by_byte (f a) refl agree) (λ rest k below here. agree_back f n (a + 1) code rest k byte below here)
  where
    by_byte : (o : Option ℕ) → f a ≡ o → Agree (o ∷ map f (range_with_len (a + 1) n)) (b ∷ code)
        → ((known : ℕ) → f a ≡ Some known → b ≡ known) × Agree (map f (range_with_len (a + 1) n)) code
    by_byte None none all = (λ known some. absurd (cc), all.1)
    by_byte (Some x) some all = (λ known is_known. cc, all.1)

    by_place : (k : ℕ) → k < suc n → f (a + k) ≡ Some byte → ((known : ℕ) → f a ≡ Some known → b ≡ known) × Agree (map f (range_with_len (a + 1) n)) code
        → (Agree (map f (range_with_len (a + 1) n)) code → (i : ℕ) → i < n → f (a + 1 + i) ≡ Some byte → get_or code i 0 ≡ byte) → get_or (b ∷ code) k 0 ≡ byte
    by_place zero below here parts later = let e : a ≡ a + 0 = omega arith in parts.0 byte (ap f e ∙ here)
    by_place (suc k) below here parts later =
        let e : a + 1 + k ≡ a + suc k = omega arith in
        later parts.1 k (omega (arith, below)) (ap f e ∙ here)

-- Corrected rows.

module _ (rows : ℕ) (known : ℕ → Option ℕ) (r : ℕ) where
  pub corrected_is : (code : List ℕ) → corrected_row rows known r ≡ Some code → IsCorrection rows known r code
  unfolding corrected_row known_row
  corrected_is code is = by_few (leb (length (unknown_columns rows known r)) 64) refl is
    where
      by_few : (b : Bool) → leb (length (unknown_columns rows known r)) 64 ≡ b → cond b (codeword_with (known_row rows known r)) None ≡ Some code → IsCorrection rows known r code
      by_few true few found =
          let all = with_is (known_row rows known r) code found in
          record {
            few = leb-true (length (unknown_columns rows known r)) 64 few;
            codeword = all.0;
            agrees = λ j byte low is_known.
                let e : 0 + j ≡ j = omega arith in
                agree_back (λ (i : ℕ). known (i * rows + r)) 255 0 code all.1 j byte low (ap (λ (i : ℕ). known (i * rows + r)) e ∙ is_known);
          }
      by_few false many never = absurd (cc)

  -- there is one codeword that agrees
  pub one_correction : (code other : List ℕ) → IsCorrection rows known r code → IsCorrection rows known r other → code ≡ other
  one_correction code other is also =
      one_codeword (unknown_columns rows known r) code other is.codeword also.codeword (unknown_low rows known r) is.few
      (record {
        known = λ j below not_among.
            let byte = known_column rows known r j below not_among in
            is.agrees j byte.0 below byte.1 ∙ sym (also.agrees j byte.0 below byte.1);
      })

  pub corrected_there : (code : List ℕ) → IsCorrection rows known r code → corrected_row rows known r ≡ Some code
  unfolding corrected_row known_row
  corrected_there code is =
      let found = with_there (known_row rows known r) code is.codeword
      (agree_from (λ (i : ℕ). known (i * rows + r)) 255 0 code (is.codeword).long (is.codeword).bytes (λ j byte low is_known. let e : j ≡ 0 + j = omega arith in is.agrees j byte low (ap (λ (i : ℕ). known (i * rows + r)) e ∙ is_known))) in
      let row : corrected_row rows known r ≡ Some found.0 =
      ap (λ (b : Bool). cond b (codeword_with (known_row rows known r)) None) (le-leb (length (unknown_columns rows known r)) 64 is.few) ∙ found.1 in
      row ∙ ap (λ (l : List ℕ). Some l) (one_correction found.0 code (corrected_is found.0 row) is)

  pub corrected_none : ((code : List ℕ) → IsCorrection rows known r code → ⊥) → corrected_row rows known r ≡ None
  corrected_none none = by_row (corrected_row rows known r) refl
    where
      by_row : (o : Option (List ℕ)) → corrected_row rows known r ≡ o → corrected_row rows known r ≡ None
      by_row None is = is
      by_row (Some code) is = absurd (none code (corrected_is code is))

  -- a byte of the row
  pub byte_at : (j : ℕ) → r < rows → corrected_byte rows known (j * rows + r) ≡ byte_of_row (corrected_row rows known r) j (known (j * rows + r))
  byte_at j low =
      let at : (j * rows + r) % rows ≡ r = mod-mul-add j rows r low in
      let column : (j * rows + r) / rows ≡ j = div-mul-add j rows r low in
      ap (λ (i : ℕ). byte_of_row (corrected_row rows known i) ((j * rows + r) / rows) (known (j * rows + r))) at
      ∙ ap (λ (i : ℕ). byte_of_row (corrected_row rows known r) i (known (j * rows + r))) column

-- a known byte stays known
pub stays_known : (rows : ℕ) (known : ℕ → Option ℕ) (place : ℕ) → is_none (known place) ≡ false → is_none (corrected_byte rows known place) ≡ false
stays_known rows known place some = by_row (corrected_row rows known (place % rows))
  where
    by_row : (o : Option (List ℕ)) → is_none (byte_of_row o (place / rows) (known place)) ≡ false
    by_row None = some
    by_row (Some code) = refl

module _ (rows : ℕ) (table : List ℕ) (known : ℕ → Option ℕ)
    (agrees : (place byte : ℕ) → known place ≡ Some byte → get_or table place 0 ≡ byte)
    (codewords : (r : ℕ) → r < rows → IsCodeword (table_row 255 rows table r)) where
  -- the row of the table corrects, where at most 64 bytes are unknown
  pub row_corrects : (r : ℕ) → r < rows → length (unknown_columns rows known r) ≤ 64 → IsCorrection rows known r (table_row 255 rows table r)
  row_corrects r low few = record {
    few = few;
    codeword = codewords r low;
    agrees = λ j byte below is. get_or-table_row 255 rows table r j below ∙ agrees (j * rows + r) byte is;
  }

  row_agrees : (r j byte : ℕ) → r < rows → j < 255 → (o : Option (List ℕ)) → corrected_row rows known r ≡ o → byte_of_row o j (known (j * rows + r)) ≡ Some byte
      → get_or table (j * rows + r) 0 ≡ byte
  row_agrees r j byte low below None none is = agrees (j * rows + r) byte is
  row_agrees r j byte low below (Some code) some is =
      let correction = corrected_is rows known r code some in
      let same : code ≡ table_row 255 rows table r = one_correction rows known r code (table_row 255 rows table r) correction (row_corrects r low correction.few) in
      let here : get_or code j 0 ≡ byte = cc in
      sym (get_or-table_row 255 rows table r j below) ∙ ap (λ (l : List ℕ). get_or l j 0) (sym same) ∙ here

  row_whole : (r j : ℕ) → r < rows → j < 255 → length (unknown_columns rows known r) ≤ 64
      → byte_of_row (corrected_row rows known r) j (known (j * rows + r)) ≡ Some (get_or table (j * rows + r) 0)
  row_whole r j low below few =
      ap (λ (o : Option (List ℕ)). byte_of_row o j (known (j * rows + r))) (corrected_there rows known r (table_row 255 rows table r) (row_corrects r low few))
      ∙ ap (λ (b : ℕ). Some b) (get_or-table_row 255 rows table r j below)

  -- what is known then is what was sent
  pub corrected_agrees : 0 < rows → (place byte : ℕ) → place < 255 * rows → corrected_byte rows known place ≡ Some byte → get_or table place 0 ≡ byte
  corrected_agrees some place byte below is =
      let at : place / rows * rows + place % rows ≡ place = div-add-mod' place rows in
      let r : place % rows < rows = mod_below place rows some in
      let j : place / rows < 255 = div_below place rows 255 some below in
      ap (λ (n : ℕ). get_or table n 0) (sym at)
      ∙ row_agrees (place % rows) (place / rows) byte r j (corrected_row rows known (place % rows)) refl
      (sym (byte_at rows known (place % rows) (place / rows) r) ∙ ap (corrected_byte rows known) at ∙ is)

  -- where each row has at most 64 unknown bytes, all is known
  pub corrected_whole : 0 < rows → ((r : ℕ) → r < rows → length (unknown_columns rows known r) ≤ 64) → (place : ℕ) → place < 255 * rows
      → corrected_byte rows known place ≡ Some (get_or table place 0)
  corrected_whole some few place below =
      let at : place / rows * rows + place % rows ≡ place = div-add-mod' place rows in
      let r : place % rows < rows = mod_below place rows some in
      let j : place / rows < 255 = div_below place rows 255 some below in
      ap (corrected_byte rows known) (sym at)
      ∙ byte_at rows known (place % rows) (place / rows) r
      ∙ row_whole (place % rows) (place / rows) r j (few (place % rows) r)
      ∙ ap (λ (n : ℕ). Some (get_or table n 0)) at

-- A row as a decoder takes and leaves it.

module _ (rows : ℕ) (known : ℕ → Option ℕ) (r : ℕ) (row : List ℕ) (holds : (j byte : ℕ) → j < 255 → known (j * rows + r) ≡ Some byte → get_or row j 0 ≡ byte) where
  -- filled with the codeword that agrees
  pub row_done : (code : List ℕ) → length (unknown_columns rows known r) ≤ 64 → IsCodeword code → Agrees (unknown_columns rows known r) row code
      → corrected_row rows known r ≡ Some code
  row_done code few codeword agrees =
      corrected_there rows known r code
      (record {
        few = few;
        codeword = codeword;
        agrees = λ j byte below is. sym (agrees.known j below (known_not_among rows known r j byte is)) ∙ holds j byte below is;
      })

  -- or left
  pub row_left : (IsCorrectable (unknown_columns rows known r) row → ⊥) → corrected_row rows known r ≡ None
  row_left none =
      corrected_none rows known r
      (λ code correction. none (
        correction.few,
        (
          code,
          correction.codeword,
          record {
            known = λ j below not_among.
                let byte = known_column rows known r j below not_among in
                holds j byte.0 below byte.1 ∙ sym (correction.agrees j byte.0 below byte.1);
          },
        ),
      ))

none_lacks : (test : ℕ → Bool) (n a j : ℕ) → list_any test (range_with_len a n) ≡ false → j < n → test (a + j) ≡ false
none_lacks test zero a j none low = absurd (omega (arith, low))
none_lacks test (suc n) a zero none low =
    let e : a + 0 ≡ a = omega arith in ap test e ∙ (or_parts (test a) (list_any test (range_with_len (a + 1) n)) none).0
none_lacks test (suc n) a (suc j) none low =
    let e : a + suc j ≡ a + 1 + j = omega arith in
    ap test e ∙ none_lacks test n (a + 1) j (or_parts (test a) (list_any test (range_with_len (a + 1) n)) none).1 (omega (arith, low))

-- the application data of a row that lacks none of it are as they were
pub row_has_data : (rows : ℕ) (known : ℕ → Option ℕ) (r j : ℕ) → r < rows → j < 191 → lacks_data rows known r ≡ false
    → corrected_byte rows known (j * rows + r) ≡ known (j * rows + r)
unfolding lacks_data
row_has_data rows known r j low below none = byte_at rows known r j low ∙ by_row (corrected_row rows known r) refl (known (j * rows + r)) refl
  where
    here : is_none (known (j * rows + r)) ≡ false
    here =
        let e : j ≡ 0 + j = omega arith in
        ap (λ (i : ℕ). is_none (known (i * rows + r))) e ∙ none_lacks (λ (i : ℕ). is_none (known (i * rows + r))) 191 0 j none below

    by_row : (o : Option (List ℕ)) → corrected_row rows known r ≡ o → (b : Option ℕ) → known (j * rows + r) ≡ b → byte_of_row o j (known (j * rows + r)) ≡ known (j * rows + r)
    by_row None is b is_known = refl
    by_row (Some code) is None is_known = let wrong : true ≡ false = ap (λ (o : Option ℕ). is_none o) (sym is_known) ∙ here in absurd (cc)
    by_row (Some code) is (Some byte) is_known =
        ap (λ (x : ℕ). Some x) ((corrected_is rows known r code is).agrees j byte (omega (arith, below)) is_known) ∙ sym is_known
