-- Units that read as sections of frames, and units that read as none between them: the numbers of the sections.
use Rattle.std.proofs.Common.{◌≡◌, ◌⊎◌, inl, inr, ℕ, zero, suc, ◌+◌, ◌-◌, ◌<◌, ◌≤◌, Bool, true, false, ◌&&◌, cond, eqb, List, [], ◌∷◌, ◌++◌, length, map, filter, flat_map, take, Option, Some, None, refl, ap, sym, ◌∙◌, subst, arith, length-append}
use Rattle.std.specs.Prelude.{option_to_list, option_map, drop}
use Rattle.std.specs.List.{range_with_len}
use Rattle.std.proofs.lemmas.Bool.{and_parts, eqb-true}
use Rattle.std.proofs.lemmas.List.{get_or-append-add}
use Rattle.wire_spec.specs.Datagram.{front_length}
use Rattle.ts_spec.specs.Packetized.{unit_at}
use Rattle.ts_spec.specs.Reassembly.{PlacedUnit}
use Rattle.section_spec.specs.Section.{SectionFields, section_fields}
use Rattle.section_spec.specs.Mpe.{has_mpe_head, is_fec, mpe_with, fec_fields, is_current, is_clear, has_no_llc_snap, is_only_section, has_fec_numbers}
use Rattle.channel_spec.specs.Carried.{IsRising}
use Rattle.channel_law.proofs.Member.{Member, member_flat, member_parted}
use Rattle.fec_frame_spec.specs.Sections.{FrameSection, data_section, parity_section, TimedSection, sections_in, is_within_table, frame_sections_in, timed_section, timed_sections_in, sections_of_unit}
use Rattle.fec_frame_spec.specs.Groups.{section_at, no_section}
use Rattle.fec_frame_spec.specs.Carried.{sections_of_units}
use Rattle.fec_frame_law.specs.Kept.{sections_before, ArePaired}

-- A unit reads as one section at most.

abbrev IsOne : List FrameSection → Type 0
IsOne xs = (xs ≡ []) ⊎ ((s : FrameSection) × (xs ≡ s ∷ []))

tables_differ : (rows : ℕ) (s : SectionFields) → has_mpe_head s ≡ true → is_fec rows s ≡ true → ⊥
tables_differ rows s mpe fec =
    let a = eqb-true s.table_id 0x3E (and_parts (eqb s.table_id 0x3E) (is_current s.body && (is_clear s.body && (has_no_llc_snap s.body && is_only_section s.body))) mpe).0 in
    let b = eqb-true s.table_id 0x78 (and_parts (eqb s.table_id 0x78) (is_current s.body && (has_fec_numbers s.body && eqb (length s.body) (9 + rows))) fec).0 in
    omega (arith, a, b)

read_one : (rows : ℕ) (unit : List ℕ) → IsOne (sections_in rows unit)
read_one rows unit = by_heads (has_mpe_head s) (is_fec rows s) refl refl
  where
    s : SectionFields
    s = section_fields unit

    data_one : (n : Option ℕ) → IsOne (option_to_list (option_map data_section (mpe_with s.body n)) ++ [])
    data_one None = inl refl
    data_one (Some n) = inr (_, refl)

    by_heads : (a b : Bool) → has_mpe_head s ≡ a → is_fec rows s ≡ b
        → IsOne (option_to_list (option_map data_section (cond a (mpe_with s.body (front_length (drop 9 s.body))) None))
        ++ option_to_list (option_map parity_section (cond b (Some (fec_fields s.body)) None)))
    by_heads true true mpe fec = absurd (tables_differ rows s mpe fec)
    by_heads true false mpe fec = data_one (front_length (drop 9 s.body))
    by_heads false true mpe fec = inr (_, refl)
    by_heads false false mpe fec = inl refl

pub one_section : (rows : ℕ) (unit : List ℕ) → IsOne (frame_sections_in rows unit)
one_section rows unit = by_read (sections_in rows unit) (read_one rows unit)
  where
    by_test : (s : FrameSection) (b : Bool) → IsOne (cond b (s ∷ []) [])
    by_test s true = inr (s, refl)
    by_test s false = inl refl

    by_read : (xs : List FrameSection) → IsOne xs → IsOne (filter (is_within_table rows) xs)
    by_read xs (inl none) = subst (λ (l : List FrameSection). IsOne (filter (is_within_table rows) l)) (sym none) (inl refl)
    by_read xs (inr one) = subst (λ (l : List FrameSection). IsOne (filter (is_within_table rows) l)) (sym one.1) (by_test one.0 (is_within_table rows one.0))

-- Numbers of sections.

before_next : (rows : ℕ) (units : List (List ℕ)) (n : ℕ) → n < length units
    → sections_before rows units (suc n) ≡ sections_before rows units n + length (frame_sections_in rows (unit_at units n))
before_next rows [] n within = absurd (omega (arith, within))
before_next rows (u ∷ units) zero within = omega (arith, length-append (frame_sections_in rows u) [])
before_next rows (u ∷ units) (suc n) within =
    omega (
      arith,
      length-append (frame_sections_in rows u) (flat_map (frame_sections_in rows) (take (suc n) units)),
      length-append (frame_sections_in rows u) (flat_map (frame_sections_in rows) (take n units)),
      before_next rows units n (omega (arith, within)),
    )

before_grows : (rows : ℕ) (units : List (List ℕ)) (n k : ℕ) → n + k ≤ length units → sections_before rows units n ≤ sections_before rows units (n + k)
before_grows rows units n zero within = let e : n + 0 ≡ n = omega arith in omega (arith, ap (sections_before rows units) e)
before_grows rows units n (suc k) within =
    let e : n + suc k ≡ suc (n + k) = omega arith in
    omega (arith, ap (sections_before rows units) e, before_next rows units (n + k) (omega (arith, within)), before_grows rows units n k (omega (arith, within)))

pub before_order : (rows : ℕ) (units : List (List ℕ)) (m n : ℕ) → m ≤ n → n ≤ length units → sections_before rows units m ≤ sections_before rows units n
before_order rows units m n order within =
    let e : m + (n - m) ≡ n = omega (arith, order) in
    omega (arith, ap (sections_before rows units) e, before_grows rows units m (n - m) (omega (arith, order, within)))

-- The sections of units, by their numbers.

timed_long : (moment : ℕ) (xs : List FrameSection) → length (map (timed_section moment) xs) ≡ length xs
timed_long moment [] = refl
timed_long moment (x ∷ xs) = ap (λ (n : ℕ). suc n) (timed_long moment xs)

module _ (rows : ℕ) (g : ℕ → List TimedSection) (moments : ℕ → ℕ) where
  abbrev Reads : ℕ → List (List ℕ) → Type 0
  Reads a units = (i : ℕ) → i < length units → g (a + i) ≡ timed_sections_in rows (moments (a + i)) (unit_at units i)

  reads_next : (a : ℕ) (u : List ℕ) (units : List (List ℕ)) → Reads a (u ∷ units) → Reads (a + 1) units
  reads_next a u units reads i within =
      let e : a + 1 + i ≡ a + suc i = omega arith in
      ap g e ∙ reads (suc i) (omega (arith, within)) ∙ ap (λ (j : ℕ). timed_sections_in rows (moments j) (unit_at units i)) (sym e)

  reads_first : (a : ℕ) (u : List ℕ) (units : List (List ℕ)) → Reads a (u ∷ units) → g a ≡ timed_sections_in rows (moments a) u
  reads_first a u units reads =
      let e : a + 0 ≡ a = omega arith in
      ap g (sym e) ∙ reads 0 (omega arith) ∙ ap (λ (j : ℕ). timed_sections_in rows (moments j) u) e

  first_long : (a : ℕ) (u : List ℕ) (units : List (List ℕ)) → Reads a (u ∷ units) → length (g a) ≡ length (frame_sections_in rows u)
  first_long a u units reads =
      ap (λ (l : List TimedSection). length l) (reads_first a u units reads) ∙ timed_long (moments a) (frame_sections_in rows u)

  count_all : (a : ℕ) (units : List (List ℕ)) → Reads a units → length (flat_map g (range_with_len a (length units))) ≡ sections_before rows units (length units)
  count_all a [] reads = refl
  count_all a (u ∷ units) reads =
      omega (
        arith,
        length-append (g a) (flat_map g (range_with_len (a + 1) (length units))),
        first_long a u units reads,
        count_all (a + 1) units (reads_next a u units reads),
        length-append (frame_sections_in rows u) (flat_map (frame_sections_in rows) (take (length units) units)),
      )

  place_of : (a : ℕ) (units : List (List ℕ)) → Reads a units → (n : ℕ) (s : FrameSection) → n < length units → frame_sections_in rows (unit_at units n) ≡ s ∷ []
      → section_at (flat_map g (range_with_len a (length units))) (sections_before rows units n) ≡ timed_section (moments (a + n)) s
  place_of a [] reads n s within is = absurd (omega (arith, within))
  place_of a (u ∷ units) reads zero s within is =
      let e : a ≡ a + 0 = omega arith in
      ap (λ (l : List TimedSection). section_at (l ++ flat_map g (range_with_len (a + 1) (length units))) 0)
      (reads_first a u units reads ∙ ap (map (timed_section (moments a))) is)
      ∙ ap (λ (j : ℕ). timed_section (moments j) s) e
  place_of a (u ∷ units) reads (suc n) s within is =
      let e : a + 1 + n ≡ a + suc n = omega arith in
      let size : length (frame_sections_in rows u ++ flat_map (frame_sections_in rows) (take n units)) ≡ length (g a) + sections_before rows units n =
      omega (arith, length-append (frame_sections_in rows u) (flat_map (frame_sections_in rows) (take n units)), first_long a u units reads) in
      ap (section_at (g a ++ flat_map g (range_with_len (a + 1) (length units)))) size
      ∙ get_or-append-add (g a) (flat_map g (range_with_len (a + 1) (length units))) (sections_before rows units n) no_section
      ∙ place_of (a + 1) units (reads_next a u units reads) n s (omega (arith, within)) is
      ∙ ap (λ (j : ℕ). timed_section (moments j) s) e

module _ (rows : ℕ) (units : List (List ℕ)) (moments : ℕ → ℕ) where
  abbrev all : List TimedSection
  all = sections_of_units rows units moments

  same_units : (i : ℕ) → i < length units → timed_sections_in rows (moments (0 + i)) (unit_at units (0 + i)) ≡ timed_sections_in rows (moments (0 + i)) (unit_at units i)
  same_units i within = let e : 0 + i ≡ i = omega arith in ap (λ (j : ℕ). timed_sections_in rows (moments (0 + i)) (unit_at units j)) e

  pub all_long : length all ≡ sections_before rows units (length units)
  all_long = count_all rows (λ n. timed_sections_in rows (moments n) (unit_at units n)) moments 0 units same_units

  pub section_is : (n : ℕ) (s : FrameSection) → n < length units → frame_sections_in rows (unit_at units n) ≡ s ∷ []
      → section_at all (sections_before rows units n) ≡ timed_section (moments n) s
  section_is n s within is =
      let e : 0 + n ≡ n = omega arith in
      place_of rows (λ i. timed_sections_in rows (moments i) (unit_at units i)) moments 0 units same_units n s within is
      ∙ ap (λ (j : ℕ). timed_section (moments j) s) e

  -- the numbers of the sections among units of some numbers
  abbrev pub section_numbers : List ℕ → List ℕ
  section_numbers numbers = flat_map (λ n. map (λ (s : FrameSection). sections_before rows units n) (frame_sections_in rows (unit_at units n))) numbers

  rising_lower : (j k : ℕ) (xs : List ℕ) → j ≤ k → IsRising k xs → IsRising j xs
  rising_lower j k [] order rising = tt
  rising_lower j k (x ∷ xs) order rising = (omega (arith, order, rising.0), rising.1)

  pub numbers_rise : (k : ℕ) (numbers : List ℕ) → IsRising k numbers → ((n : ℕ) → Member numbers n → n < length units) → k ≤ length units
      → IsRising (sections_before rows units k) (section_numbers numbers)
  numbers_rise k [] rising within low = tt
  numbers_rise k (n ∷ numbers) rising within low =
      by_one (frame_sections_in rows (unit_at units n)) (one_section rows (unit_at units n)) refl
      (numbers_rise (n + 1) numbers rising.1 (λ m there. within m (inr there)) (omega (arith, within n (inl refl))))
    where
      next : sections_before rows units (n + 1) ≡ sections_before rows units n + length (frame_sections_in rows (unit_at units n))
      next = let e : n + 1 ≡ suc n = omega arith in ap (sections_before rows units) e ∙ before_next rows units n (within n (inl refl))

      order : sections_before rows units k ≤ sections_before rows units n
      order = before_order rows units k n rising.0 (omega (arith, within n (inl refl)))

      by_one : (xs : List FrameSection) → IsOne xs → frame_sections_in rows (unit_at units n) ≡ xs → IsRising (sections_before rows units (n + 1)) (section_numbers numbers)
          → IsRising (sections_before rows units k) (map (λ (s : FrameSection). sections_before rows units n) (frame_sections_in rows (unit_at units n)) ++ section_numbers numbers)
      by_one xs (inl none) is rest =
          subst (λ (l : List FrameSection). IsRising (sections_before rows units k) (map (λ (s : FrameSection). sections_before rows units n) l ++ section_numbers numbers)) (sym (is ∙ none))
          (rising_lower (sections_before rows units k) (sections_before rows units (n + 1)) (section_numbers numbers) (omega (arith, order, next)) rest)
      by_one xs (inr one) is rest =
          subst (λ (l : List FrameSection). IsRising (sections_before rows units k) (map (λ (s : FrameSection). sections_before rows units n) l ++ section_numbers numbers)) (sym (is ∙ one.1)) (
            order,
            rising_lower (sections_before rows units n + 1) (sections_before rows units (n + 1)) (section_numbers numbers)
                (omega (arith, next, ap (λ (l : List FrameSection). length l) (is ∙ one.1))) rest,
          )

  pub number_in : (numbers : List ℕ) (n : ℕ) (s : FrameSection) → Member numbers n → frame_sections_in rows (unit_at units n) ≡ s ∷ []
      → Member (section_numbers numbers) (sections_before rows units n)
  number_in numbers n s there is =
      member_flat (λ m. map (λ (t : FrameSection). sections_before rows units m) (frame_sections_in rows (unit_at units m))) numbers n (sections_before rows units n) there
      (subst (λ (l : List FrameSection). Member (map (λ (t : FrameSection). sections_before rows units n) l) (sections_before rows units n)) (sym is) (inl refl))

  -- which unit a number is of
  pub record IsOfUnit (numbers : List ℕ) (m : ℕ) : Type 0 where
    pub unit : ℕ
    pub among : Member numbers unit
    pub section : FrameSection
    pub reads : frame_sections_in rows (unit_at units unit) ≡ section ∷ []
    pub number : sections_before rows units unit ≡ m

  pub number_of : (numbers : List ℕ) (m : ℕ) → Member (section_numbers numbers) m → IsOfUnit numbers m
  number_of [] m there = absurd there
  number_of (n ∷ numbers) m there =
      by_part (member_parted (map (λ (s : FrameSection). sections_before rows units n) (frame_sections_in rows (unit_at units n))) (section_numbers numbers) m there)
      (λ behind. number_of numbers m behind)
    where
      by_one : (xs : List FrameSection) → IsOne xs → frame_sections_in rows (unit_at units n) ≡ xs
          → Member (map (λ (s : FrameSection). sections_before rows units n) xs) m → IsOfUnit (n ∷ numbers) m
      by_one xs (inl none) is here =
          absurd (subst (λ (l : List FrameSection). Member (map (λ (s : FrameSection). sections_before rows units n) l) m) none here)
      by_one xs (inr one) is here =
          record { unit = n; among = inl refl; section = one.0; reads = is ∙ one.1; number = by_first (subst (λ (l : List FrameSection). Member (map (λ (s : FrameSection). sections_before rows units n) l) m) one.1 here) }
        where
          by_first : (sections_before rows units n ≡ m) ⊎ ⊥ → sections_before rows units n ≡ m
          by_first (inl same) = same
          by_first (inr never) = absurd never

      by_part : Member (map (λ (s : FrameSection). sections_before rows units n) (frame_sections_in rows (unit_at units n))) m ⊎ Member (section_numbers numbers) m
          → (Member (section_numbers numbers) m → IsOfUnit numbers m) → IsOfUnit (n ∷ numbers) m
      by_part (inl here) later = by_one (frame_sections_in rows (unit_at units n)) (one_section rows (unit_at units n)) refl here
      by_part (inr behind) later =
          let found = later behind in
          record { unit = found.unit; among = inr found.among; section = found.section; reads = found.reads; number = found.number }

  pub numbers_low : (numbers : List ℕ) → ((n : ℕ) → Member numbers n → n < length units) → (m : ℕ) → Member (section_numbers numbers) m → m < length all
  numbers_low numbers within m there =
      let of_unit = number_of numbers m there in
      let low = within of_unit.unit of_unit.among in
      omega (
        arith,
        all_long,
        of_unit.number,
        before_next rows units of_unit.unit low,
        ap (λ (l : List FrameSection). length l) of_unit.reads,
        before_order rows units (suc of_unit.unit) (length units) (omega (arith, low)) (omega arith),
      )

  -- the section of an accepted unit, with its moment, is section k
  pub record IsOfAccepted (is_sent : PlacedUnit → ℕ → Type 0) (s : TimedSection) (k : ℕ) : Type 0 where
    pub accepted : PlacedUnit
    pub unit : ℕ
    pub sent_unit : is_sent accepted unit
    pub low : unit < length units
    pub reads : frame_sections_in rows (unit_at units unit) ≡ s.section ∷ []
    pub timed : sections_of_unit rows accepted ≡ s ∷ []
    pub number : sections_before rows units unit ≡ k

  pub accepted_alike : (is_sent : PlacedUnit → ℕ → Type 0) (s : TimedSection) (k : ℕ) → IsOfAccepted is_sent s k → s.section ≡ (section_at all k).section
  accepted_alike is_sent s k is =
      sym (ap (λ (t : TimedSection). t.section) (section_is is.unit s.section is.low is.reads)) ∙ ap (λ (m : ℕ). (section_at all m).section) is.number

  -- the sections of accepted units are those of these numbers
  pub sections_are : (is_sent : PlacedUnit → ℕ → Type 0) → ((a : PlacedUnit) (n : ℕ) → is_sent a n → unit_at units n ≡ a.unit)
      → (accepted : List PlacedUnit) (numbers : List ℕ) → ((n : ℕ) → Member numbers n → n < length units) → ArePaired is_sent accepted numbers
      → ArePaired (IsOfAccepted is_sent) (flat_map (sections_of_unit rows) accepted) (section_numbers numbers)
  sections_are is_sent bytes [] [] within same = tt
  sections_are is_sent bytes [] (n ∷ numbers) within same = absurd same
  sections_are is_sent bytes (a ∷ accepted) [] within same = absurd same
  sections_are is_sent bytes (a ∷ accepted) (n ∷ numbers) within same =
      by_one (frame_sections_in rows (unit_at units n)) (one_section rows (unit_at units n)) refl
      (sections_are is_sent bytes accepted numbers (λ m there. within m (inr there)) same.1)
    where
      here : frame_sections_in rows a.unit ≡ frame_sections_in rows (unit_at units n)
      here = ap (frame_sections_in rows) (sym (bytes a n same.0))

      Paired : List FrameSection → List FrameSection → Type 0
      Paired xs ys =
          ArePaired (IsOfAccepted is_sent) (map (timed_section a.moment) xs ++ flat_map (sections_of_unit rows) accepted)
          (map (λ (s : FrameSection). sections_before rows units n) ys ++ section_numbers numbers)

      both : (xs : List FrameSection) → frame_sections_in rows (unit_at units n) ≡ xs → Paired xs xs → Paired (frame_sections_in rows a.unit) (frame_sections_in rows (unit_at units n))
      both xs is paired =
          subst (λ (l : List FrameSection). Paired l (frame_sections_in rows (unit_at units n))) (sym (here ∙ is)) (subst (λ (l : List FrameSection). Paired xs l) (sym is) paired)

      by_one : (xs : List FrameSection) → IsOne xs → frame_sections_in rows (unit_at units n) ≡ xs
          → ArePaired (IsOfAccepted is_sent) (flat_map (sections_of_unit rows) accepted) (section_numbers numbers)
          → Paired (frame_sections_in rows a.unit) (frame_sections_in rows (unit_at units n))
      by_one xs (inl none) is rest = both [] (is ∙ none) rest
      by_one xs (inr one) is rest =
          both (one.0 ∷ []) (is ∙ one.1) (
            record {
              accepted = a;
              unit = n;
              sent_unit = same.0;
              low = within n (inl refl);
              reads = is ∙ one.1;
              timed = ap (map (timed_section a.moment)) (here ∙ is ∙ one.1);
              number = refl;
            },
            rest,
          )
