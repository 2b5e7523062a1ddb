-- The datagrams found in a received frame are datagrams of the sent one, in order: those whose own bytes are known, and all where all are.
use Rattle.std.proofs.Common.{◌≡◌, ◌⊎◌, inl, inr, ℕ, zero, suc, ◌+◌, ◌-◌, ◌*◌, ◌<◌, ◌≤◌, true, false, List, [], ◌∷◌, ◌++◌, length, get_or, map, flat_map, drop, take, replicate, Option, Some, None, refl, ap, ap₂, sym, ◌∙◌, subst, arith}
use Rattle.std.specs.Prelude.{All, is_none}
use Rattle.std.specs.List.{range_with_len}
use Rattle.std.proofs.lemmas.Bool.{cases_lt}
use Rattle.std.proofs.lemmas.List.{take-append-le, take_at}
use Rattle.std.proofs.lemmas.List.FromFn.{fill_by_all}
use Rattle.wire_spec.specs.Lists.{joined, IsSubsequence}
use Rattle.wire_spec.specs.Datagram.{IsDatagram, front_length}
use Rattle.ip_datagram.specs.Hint.{hint_of}
use Rattle.ip_datagram.specs.declared.hint.Hint.TheVariants.{Length}
use Rattle.ip_datagram.proofs.Fronts.{front_length-from_front}
use Rattle.ip_datagram.proofs.HintFronts.{hint_of-front}
use Rattle.channel_spec.specs.Carried.{IsRising}
use Rattle.channel_law.proofs.Member.{Member, member_contains}
use Rattle.channel_law.proofs.Subsequences.{items_subsequence, rising_member, rising_subsequence, subsequence_map}
use Rattle.section_spec.specs.Mpe.{MpeFields}
use Rattle.fec_frame_spec.specs.Sections.{data_end}
use Rattle.fec_frame_spec.specs.Frame.{data_table, datagram_start, datagram_at}
use Rattle.fec_frame_spec.specs.Starts.{run_on, run_within, known_run, IsTold, AreTold, IsSectionEdge, IsDatagramStart, front_datagram, datagram_from, starts_below, found_datagrams}
use Rattle.fec_frame_law.proofs.Places.{datagram_long, start_zero, start_next, start_all, start_most, start_below, one_start, drop_data}
use Rattle.fec_frame_law.proofs.Runs.{told_is, found_is, end_tells_nothing, whole_run, front_at, run_from}
use Rattle.fec_frame_law.proofs.Starts.{starts_are, start_in, starts_rise}

-- a run is as long as the known bytes
run_long : (bytes : ℕ → Option ℕ) (most place k : ℕ) → k ≤ most → ((i : ℕ) → i < k → is_none (bytes (place + i)) ≡ false) → k ≤ length (run_within bytes most place)
unfolding run_within
run_long bytes most place zero order known = omega arith
run_long bytes zero place (suc k) order known = absurd (omega (arith, order))
run_long bytes (suc most) place (suc k) order known =
    by_byte (bytes place) refl
    (run_long bytes most (place + 1) k (omega (arith, order))
    (λ i low. let e : place + 1 + i ≡ place + suc i = omega arith in ap (λ (p : ℕ). is_none (bytes p)) e ∙ known (suc i) (omega (arith, low))))
  where
    first : is_none (bytes place) ≡ false
    first = let e : place ≡ place + 0 = omega arith in ap (λ (p : ℕ). is_none (bytes p)) e ∙ known 0 (omega arith)

    by_byte : (o : Option ℕ) → bytes place ≡ o → k ≤ length (run_within bytes most (place + 1)) → suc k ≤ length (run_on o (run_within bytes most (place + 1)))
    by_byte None is later = let wrong : true ≡ false = ap (λ (o : Option ℕ). is_none o) (sym is) ∙ first in absurd (cc)
    by_byte (Some byte) is later = omega (arith, later)

-- rising numbers of which none is missing
pub rising_all : (k c : ℕ) (numbers : List ℕ) → IsRising k numbers → ((n : ℕ) → Member numbers n → n < k + c)
    → ((n : ℕ) → k ≤ n → n < k + c → Member numbers n) → numbers ≡ range_with_len k c
rising_all k zero [] rising below all = refl
rising_all k zero (n ∷ numbers) rising below all = absurd (omega (arith, rising.0, below n (inl refl)))
rising_all k (suc c) [] rising below all = absurd (all k (omega arith) (omega arith))
rising_all k (suc c) (n ∷ numbers) rising below all =
    let first : n ≡ k = by_first (all k (omega arith) (omega arith)) in
    ap₂ (λ (x : ℕ) (l : List ℕ). x ∷ l) first
    (rising_all (k + 1) c numbers (subst (λ (t : ℕ). IsRising (t + 1) numbers) first rising.1)
    (λ m there. omega (arith, below m (inr there)))
    (λ m from low. behind m (omega (arith, from, first)) (all m (omega arith) (omega arith))))
  where
    by_first : Member (n ∷ numbers) k → n ≡ k
    by_first (inl same) = same
    by_first (inr there) = absurd (omega (arith, rising.0, rising_member (n + 1) numbers k rising.1 there))

    behind : (m : ℕ) → n < m → Member (n ∷ numbers) m → Member numbers m
    behind m less (inl same) = absurd (omega (arith, less, same))
    behind m less (inr there) = there

module _ (rows : ℕ) (ds : List (List ℕ)) (bytes : ℕ → Option ℕ) (fits : length (joined ds) ≤ 191 * rows) (are : All IsDatagram ds)
    (agrees : (place byte : ℕ) → place < 191 * rows → bytes place ≡ Some byte → get_or (data_table rows ds) place 0 ≡ byte)
    (sections : List MpeFields)
    (edges : (m : MpeFields) → Member sections m → (n : ℕ) × (n < length ds) × (m.datagram ≡ get_or ds n []) × (m.real_time.address ≡ datagram_start ds n)) where
  long : (i : ℕ) → i < length ds → 1 ≤ length (get_or ds i [])
  long i within = datagram_long (get_or ds i []) (are i [] within)

  -- a datagram starts here, or the last one ends
  abbrev pub IsBegin : ℕ → Type 0
  IsBegin place = (n : ℕ) × (n ≤ length ds) × (place ≡ datagram_start ds n)

  end_is : (n : ℕ) → n ≤ length ds → length ds ≤ n → datagram_start ds n ≡ length (joined ds)
  end_is n within over = let e : n ≡ length ds = omega arith in ap (datagram_start ds) e ∙ start_all ds

  -- from such a place only such a one is told
  told_begin : (place k : ℕ) → IsBegin place → hint_of (known_run rows bytes place) ≡ Length k → IsBegin (place + k)
  told_begin place k begin told = by_order (cases_lt begin.0 (length ds))
    where
      here : hint_of (known_run rows bytes (datagram_start ds begin.0)) ≡ Length k
      here = ap (λ (p : ℕ). hint_of (known_run rows bytes p)) (sym begin.2) ∙ told

      by_order : (begin.0 < length ds) ⊎ (length ds ≤ begin.0) → IsBegin (place + k)
      by_order (inl within) =
          let size : k ≡ length (get_or ds begin.0 []) = told_is rows ds bytes fits are agrees begin.0 k within here in
          (suc begin.0, omega (arith, within), omega (arith, begin.2, size, start_next ds begin.0 within))
      by_order (inr over) =
          absurd (end_tells_nothing rows ds bytes fits are agrees k
          (ap (λ (p : ℕ). hint_of (known_run rows bytes p)) (sym (end_is begin.0 begin.1 over)) ∙ here))

  told_begins : (lengths : List ℕ) (place end : ℕ) → IsBegin place → AreTold rows bytes place lengths end → IsBegin end
  told_begins [] place end begin told = (begin.0, begin.1, sym told ∙ begin.2)
  told_begins (k ∷ lengths) place end begin told = told_begins lengths (place + k) end (told_begin place k begin (told.0).length_is) told.1

  edge_begin : (place : ℕ) → IsSectionEdge sections place → IsBegin place
  edge_begin place edge = by_side (edges edge.0 (member_contains sections edge.0 edge.1)) edge.2
    where
      by_side : (n : ℕ) × (n < length ds) × ((edge.0).datagram ≡ get_or ds n []) × ((edge.0).real_time.address ≡ datagram_start ds n)
          → (place ≡ (edge.0).real_time.address) ⊎ (place ≡ data_end edge.0) → IsBegin place
      by_side is (inl start) = (is.0, omega (arith, is.1), start ∙ is.3)
      by_side is (inr end) =
          (suc is.0, omega (arith, is.1), omega (arith, end, is.3, ap (λ (l : List ℕ). length l) is.2, start_next ds is.0 is.1))

  from_begin : (start : ℕ) → (start ≡ 0) ⊎ IsSectionEdge sections start → IsBegin start
  from_begin start (inl zero_is) = (0, omega arith, zero_is ∙ sym (start_zero ds))
  from_begin start (inr edge) = edge_begin start edge

  pub start_begin : (place : ℕ) → IsDatagramStart rows bytes sections place → IsBegin place
  start_begin place is = told_begins is.lengths is.start place (from_begin is.start is.from) is.told

  -- a datagram that is found is one of those sent
  abbrev pub IsFound : ℕ → ℕ → ℕ → Type 0
  IsFound place k n = (n < length ds) × (place ≡ datagram_start ds n) × (take k (known_run rows bytes place) ≡ get_or ds n [])

  found_sent : (place k : ℕ) → IsDatagramStart rows bytes sections place → front_length (known_run rows bytes place) ≡ Some k → (n : ℕ) × IsFound place k n
  found_sent place k is front = by_begin (start_begin place is)
    where
      by_front : (n : ℕ) → n < length ds → place ≡ datagram_start ds n → take k (known_run rows bytes place) ≡ get_or ds n []
      by_front n within at =
          ap (λ (p : ℕ). take k (known_run rows bytes p)) at
          ∙ found_is rows ds bytes fits are agrees n k within (ap (λ (p : ℕ). front_length (known_run rows bytes p)) (sym at) ∙ front)

      no_front : place ≡ length (joined ds) → ⊥
      no_front at =
          end_tells_nothing rows ds bytes fits are agrees k
          (hint_of-front (known_run rows bytes (length (joined ds))) k (ap (λ (p : ℕ). front_length (known_run rows bytes p)) (sym at) ∙ front))

      by_order : (begin : IsBegin place) → (begin.0 < length ds) ⊎ (length ds ≤ begin.0) → (n : ℕ) × IsFound place k n
      by_order begin (inl within) = (begin.0, (within, begin.2, by_front begin.0 within begin.2))
      by_order begin (inr over) = absurd (no_front (begin.2 ∙ end_is begin.0 begin.1 over))

      by_begin : IsBegin place → (n : ℕ) × IsFound place k n
      by_begin begin = by_order begin (cases_lt begin.0 (length ds))

  -- Numbers of the datagrams found.

  pub record AreNumbered (least : ℕ) (places numbers : List ℕ) : Type 0 where
    pub rising : IsRising least numbers
    pub below : (n : ℕ) → Member numbers n → n < length ds
    pub found : flat_map (datagram_from rows bytes) places ≡ map (datagram_at ds) numbers
    pub there : (n k : ℕ) → n < length ds → Member places (datagram_start ds n) → front_length (known_run rows bytes (datagram_start ds n)) ≡ Some k → Member numbers n

  numbered : (places : List ℕ) (from least : ℕ) → IsRising from places → ((place : ℕ) → Member places place → IsDatagramStart rows bytes sections place)
      → ((n : ℕ) → n < length ds → from ≤ datagram_start ds n → least ≤ n) → (numbers : List ℕ) × AreNumbered least places numbers
  numbered [] from least rising is above = ([], record { rising = tt; below = λ n there. absurd there; found = refl; there = λ n k within there. absurd there })
  numbered (place ∷ places) from least rising is above =
      by_front (front_length (known_run rows bytes place)) refl (λ later_least. numbered places (place + 1) later_least rising.1 (λ p there. is p (inr there)))
    where
      others : List (List ℕ)
      others = flat_map (datagram_from rows bytes) places

      above_next : (n : ℕ) → n < length ds → place ≡ datagram_start ds n → (m : ℕ) → m < length ds → place + 1 ≤ datagram_start ds m → n + 1 ≤ m
      above_next n low at m within later = by_order (cases_lt n m)
        where
          by_order : (n < m) ⊎ (m ≤ n) → n + 1 ≤ m
          by_order (inl less) = omega (arith, less)
          by_order (inr not_less) = absurd (back (cases_lt m n))
            where
              back : (m < n) ⊎ (n ≤ m) → ⊥
              back (inl more) = omega (arith, later, at, start_below ds long m n more (omega (arith, low)))
              back (inr same) = let e : m ≡ n = omega (arith, same, not_less) in omega (arith, later, at, ap (datagram_start ds) e)

      by_front : (o : Option ℕ) → front_length (known_run rows bytes place) ≡ o
          → ((later_least : ℕ) → ((n : ℕ) → n < length ds → place + 1 ≤ datagram_start ds n → later_least ≤ n) → (numbers : List ℕ) × AreNumbered later_least places numbers)
          → (numbers : List ℕ) × AreNumbered least (place ∷ places) numbers
      by_front None none later =
          let rest = later least (λ n within from_place. above n within (omega (arith, rising.0, from_place))) in (
            rest.0,
            record {
              rising = (rest.1).rising;
              below = (rest.1).below;
              found = ap (λ (o : Option ℕ). front_datagram (known_run rows bytes place) o ++ others) none ∙ (rest.1).found;
              there = λ n k within there front. there_all rest.0 rest.1 n k within there front;
            },
          )
        where
          there_all : (numbers : List ℕ) → AreNumbered least places numbers → (n k : ℕ) → n < length ds → Member (place ∷ places) (datagram_start ds n)
              → front_length (known_run rows bytes (datagram_start ds n)) ≡ Some k → Member numbers n
          there_all numbers all n k within (inl same) front =
              let here : front_length (known_run rows bytes (datagram_start ds n)) ≡ None = ap (λ (p : ℕ). front_length (known_run rows bytes p)) (sym same) ∙ none in
              absurd (cc)
          there_all numbers all n k within (inr there) front = all.there n k within there front
      by_front (Some k) front later = with_rest (found_sent place k (is place (inl refl)) front)
        where
          with_rest : (n : ℕ) × IsFound place k n → (numbers : List ℕ) × AreNumbered least (place ∷ places) numbers
          with_rest first =
              let rest = later (first.0 + 1) (above_next first.0 (first.1).0 (first.1).1) in (
                first.0 ∷ rest.0,
                record {
                  rising = (above first.0 (first.1).0 (omega (arith, rising.0, (first.1).1)), (rest.1).rising);
                  below = below_all rest.0 rest.1;
                  found = ap (λ (o : Option ℕ). front_datagram (known_run rows bytes place) o ++ others) front
                      ∙ ap₂ (λ (d : List ℕ) (l : List (List ℕ)). d ∷ l) (first.1).2 (rest.1).found;
                  there = there_all rest.0 rest.1;
                },
              )
            where
              below_all : (numbers : List ℕ) → AreNumbered (first.0 + 1) places numbers → (n : ℕ) → Member (first.0 ∷ numbers) n → n < length ds
              below_all numbers all n (inl same) = omega (arith, same, (first.1).0)
              below_all numbers all n (inr there) = all.below n there

              there_all : (numbers : List ℕ) → AreNumbered (first.0 + 1) places numbers → (n j : ℕ) → n < length ds → Member (place ∷ places) (datagram_start ds n)
                  → front_length (known_run rows bytes (datagram_start ds n)) ≡ Some j → Member (first.0 ∷ numbers) n
              there_all numbers all n j within (inl same) is_front =
                  inl (one_start ds long first.0 n (omega (arith, (first.1).0)) (omega (arith, within)) (sym (first.1).1 ∙ same))
              there_all numbers all n j within (inr there) is_front = inr (all.there n j within there is_front)

  abbrev all_starts_list : List ℕ
  all_starts_list = starts_below rows bytes sections (191 * rows + 1)

  pub numbers_of : (numbers : List ℕ) × AreNumbered 0 all_starts_list numbers
  numbers_of =
      numbered all_starts_list 0 0 (starts_rise rows bytes sections (191 * rows + 1)) (λ place there. (starts_are rows bytes sections (191 * rows + 1) place there).1)
      (λ n within from. omega arith)

  -- what is found is a subsequence of what was sent
  pub found_subsequence : IsSubsequence (found_datagrams rows bytes sections) ds
  found_subsequence =
      subst (λ (l : List (List ℕ)). IsSubsequence l ds) (sym (numbers_of.1).found)
      (items_subsequence ds [] numbers_of.0 (numbers_of.1).rising (numbers_of.1).below)

  -- Datagrams whose own bytes are known, and that came in a section.

  own_within : (n : ℕ) → n < length ds → datagram_start ds n + length (get_or ds n []) ≤ 191 * rows
  own_within n within = omega (arith, start_next ds n within, start_most ds (suc n), fits)

  own_front : (n : ℕ) → n < length ds → ((i : ℕ) → i < length (get_or ds n []) → is_none (bytes (datagram_start ds n + i)) ≡ false)
      → front_length (known_run rows bytes (datagram_start ds n)) ≡ Some (length (get_or ds n []))
  own_front n within known =
      let rest = run_from rows ds bytes fits are agrees (datagram_start ds n) (omega (arith, own_within n within)) in
      let inside : length (get_or ds n []) ≤ length (known_run rows bytes (datagram_start ds n)) =
      run_long bytes (191 * rows - datagram_start ds n) (datagram_start ds n) (length (get_or ds n [])) (omega (arith, own_within n within)) known in
      let is : take (length (get_or ds n [])) (known_run rows bytes (datagram_start ds n)) ≡ get_or ds n [] =
      sym (take-append-le (length (get_or ds n [])) (known_run rows bytes (datagram_start ds n)) rest.0 inside)
      ∙ ap (take (length (get_or ds n []))) rest.1
      ∙ ap (take (length (get_or ds n []))) (drop_data rows ds n within)
      ∙ take_at (get_or ds n []) (joined (drop (suc n) ds) ++ replicate (191 * rows - length (joined ds)) 0) (length (get_or ds n [])) refl in
      front_length-from_front (known_run rows bytes (datagram_start ds n)) (length (get_or ds n []))
      (record { within = inside; datagram = subst IsDatagram (sym is) (are n [] within) })

  own_number : (n : ℕ) → n < length ds → IsSectionEdge sections (datagram_start ds n)
      → ((i : ℕ) → i < length (get_or ds n []) → is_none (bytes (datagram_start ds n + i)) ≡ false) → Member numbers_of.0 n
  own_number n within edge known =
      (numbers_of.1).there n (length (get_or ds n [])) within
      (start_in rows bytes sections (191 * rows + 1) (datagram_start ds n) (omega (arith, own_within n within))
      (record { start = datagram_start ds n; from = inr edge; lengths = []; told = refl }))
      (own_front n within known)

  -- they are among those found, in order
  pub found_own : (numbers : List ℕ) → IsRising 0 numbers
      → ((n : ℕ) → Member numbers n
      → (n < length ds) × IsSectionEdge sections (datagram_start ds n) × ((i : ℕ) → i < length (get_or ds n []) → is_none (bytes (datagram_start ds n + i)) ≡ false))
      → IsSubsequence (map (datagram_at ds) numbers) (found_datagrams rows bytes sections)
  found_own numbers rising each =
      subst (λ (l : List (List ℕ)). IsSubsequence (map (datagram_at ds) numbers) l) (sym (numbers_of.1).found)
      (subsequence_map (datagram_at ds) numbers numbers_of.0
      (rising_subsequence numbers numbers_of.0 0 0 rising (numbers_of.1).rising (λ n there. let own = each n there in own_number n own.0 own.1 own.2)))

  -- Where all bytes are known.

  module _ (known : (place : ℕ) → place < 191 * rows → bytes place ≡ Some (get_or (data_table rows ds) place 0)) where
    next_within : (n : ℕ) → n < length ds → datagram_start ds n + length (get_or ds n []) ≤ 191 * rows
    next_within n within = omega (arith, start_next ds n within, start_most ds (suc n), fits)

    all_told : (n : ℕ) → n < length ds → IsTold rows bytes (datagram_start ds n) (length (get_or ds n []))
    all_told n within = record {
      length_is =
          ap hint_of (whole_run rows ds bytes fits are agrees known (datagram_start ds n) (omega (arith, next_within n within)))
          ∙ hint_of-front (drop (datagram_start ds n) (data_table rows ds)) (length (get_or ds n [])) (front_at rows ds bytes fits are agrees n within);
      within = next_within n within;
    }

    -- the lengths of datagrams lead from start to start
    lengths_from : (k n : ℕ) → n + k ≤ length ds → (lengths : List ℕ) × AreTold rows bytes (datagram_start ds n) lengths (datagram_start ds (n + k))
    lengths_from zero n within = let e : n ≡ n + 0 = omega arith in ([], ap (datagram_start ds) e)
    lengths_from (suc k) n within =
        let later = lengths_from k (suc n) (omega arith) in
        let e : suc n + k ≡ n + suc k = omega arith in
        let told : AreTold rows bytes (datagram_start ds n + length (get_or ds n [])) later.0 (datagram_start ds (n + suc k)) =
        subst (λ (t : ℕ). AreTold rows bytes (datagram_start ds n + length (get_or ds n [])) later.0 (datagram_start ds t)) e
        (subst (λ (t : ℕ). AreTold rows bytes t later.0 (datagram_start ds (suc n + k))) (start_next ds n (omega arith)) later.1) in
        (length (get_or ds n []) ∷ later.0, (all_told n (omega arith), told))

    -- place 0 reaches every datagram
    pub all_starts : (n : ℕ) → n ≤ length ds → IsDatagramStart rows bytes sections (datagram_start ds n)
    all_starts n within =
        let lengths = lengths_from n 0 (omega arith) in
        let e : 0 + n ≡ n = omega arith in
        record {
          start = datagram_start ds 0;
          from = inl (start_zero ds);
          lengths = lengths.0;
          told = subst (λ (t : ℕ). AreTold rows bytes (datagram_start ds 0) lengths.0 (datagram_start ds t)) e lengths.1;
        }

    -- all datagrams are found
    pub found_all : found_datagrams rows bytes sections ≡ ds
    found_all =
        let all : numbers_of.0 ≡ range_with_len 0 (length ds) =
        rising_all 0 (length ds) numbers_of.0 (numbers_of.1).rising (λ n there. omega (arith, (numbers_of.1).below n there))
        (λ n from low. (numbers_of.1).there n (length (get_or ds n [])) (omega (arith, low))
        (start_in rows bytes sections (191 * rows + 1) (datagram_start ds n) (omega (arith, start_most ds n, fits)) (all_starts n (omega (arith, low))))
        (ap front_length (whole_run rows ds bytes fits are agrees known (datagram_start ds n) (omega (arith, start_most ds n, fits))) ∙ front_at rows ds bytes fits are agrees n (omega (arith, low)))) in
        (numbers_of.1).found ∙ ap (map (datagram_at ds)) all ∙ sym (fill_by_all (datagram_at ds) ds (length ds) [] refl (λ n within. refl))
