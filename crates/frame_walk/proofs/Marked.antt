-- Where the marks tell the starts, a walk finds the datagrams of the frame.
use Rattle.std.proofs.Common.{◌≡◌, ◌⊎◌, inl, inr, ℕ, zero, suc, ◌+◌, ◌-◌, ◌*◌, ◌<◌, ◌≤◌, Bool, true, false, ◌||◌, ◌&&◌, cond, leb, List, [], ◌∷◌, ◌++◌, get_or, flat_map, Option, refl, ap, ap₂, sym, ◌∙◌, subst, arith, append_assoc, append-nil}
use Rattle.std.specs.List.{list_any}
use Rattle.std.proofs.lemmas.Bool.{cases_Bool}
use Rattle.std.proofs.lemmas.List.Concat.{flat_map-append}
use Rattle.wire_spec.specs.Datagram.{front_length}
use Rattle.ip_datagram.specs.Hint.{hint_of}
use Rattle.channel_law.proofs.Member.{Member, member_parted}
use Rattle.section_spec.specs.Mpe.{MpeFields}
use Rattle.fec_frame_spec.specs.Sections.{FrameSection, data_of}
use Rattle.fec_frame_spec.specs.Known.{known_byte}
use Rattle.fec_frame_spec.specs.Corrected.{corrected_byte}
use Rattle.fec_frame_spec.specs.Delivered.{frame_datagrams}
use Rattle.fec_frame_spec.specs.Starts.{run_on, run_within, known_run, is_first_start, ends_at, tells_end, starts_below, front_datagram, datagram_from, found_datagrams}
use Rattle.fec_frame_law.proofs.Starts.{starts_are, start_in}
use Rattle.fec_frame.specs.Marks.{is_start_mark, marked_byte, marked_run, AreStartsMarked}
use Rattle.fec_frame.specs.Stands.{TableState, IsSolved}
use Rattle.frame_walk.specs.Found.{front_list, found_at, found_within, found_from}

-- Datagrams depend on the application data table alone.

run_same : (f g : ℕ → Option ℕ) (most place : ℕ) → ((i : ℕ) → i < most → f (place + i) ≡ g (place + i)) → run_within f most place ≡ run_within g most place
unfolding run_within
run_same f g zero place same = refl
run_same f g (suc most) place same =
    let e : place + 0 ≡ place = omega arith in
    ap₂ (λ (o : Option ℕ) (l : List ℕ). run_on o l) (ap f (sym e) ∙ same 0 (omega arith) ∙ ap g e)
    (run_same f g most (place + 1) (λ i low. let t : place + 1 + i ≡ place + suc i = omega arith in ap f t ∙ same (suc i) (omega (arith, low)) ∙ ap g (sym t)))

any_same : (p q : ℕ → Bool) (xs : List ℕ) → ((x : ℕ) → p x ≡ q x) → list_any p xs ≡ list_any q xs
any_same p q [] same = refl
any_same p q (x ∷ xs) same = ap₂ (λ (a b : Bool). a || b) (same x) (any_same p q xs same)

flat_same : (p q : ℕ → List (List ℕ)) (xs : List ℕ) → ((x : ℕ) → p x ≡ q x) → flat_map p xs ≡ flat_map q xs
flat_same p q [] same = refl
flat_same p q (x ∷ xs) same = ap₂ (λ (a b : List (List ℕ)). a ++ b) (same x) (flat_same p q xs same)

module _ (rows : ℕ) (f g : ℕ → Option ℕ) (sections : List MpeFields) (same : (place : ℕ) → place < 191 * rows → f place ≡ g place) where
  known_same : (place : ℕ) → known_run rows f place ≡ known_run rows g place
  known_same place = run_same f g (191 * rows - place) place (λ i low. same (place + i) (omega (arith, low)))

  starts_same : (n : ℕ) → starts_below rows f sections n ≡ starts_below rows g sections n
  unfolding starts_below
  starts_same zero = refl
  starts_same (suc n) =
      ap₂ (λ (l : List ℕ) (b : Bool). l ++ cond (is_first_start sections n || b) (n ∷ []) []) (starts_same n)
      (any_same (tells_end rows f n) (tells_end rows g n) (starts_below rows f sections n) (λ place. ap (λ (l : List ℕ). leb n (191 * rows) && ends_at (hint_of l) place n) (known_same place))
      ∙ ap (list_any (tells_end rows g n)) (starts_same n))

  pub found_same : found_datagrams rows f sections ≡ found_datagrams rows g sections
  found_same =
      ap (flat_map (datagram_from rows f)) (starts_same (191 * rows + 1))
      ∙ flat_same (datagram_from rows f) (datagram_from rows g) (starts_below rows g sections (191 * rows + 1)) (λ place. ap (λ (l : List ℕ). front_datagram l (front_length l)) (known_same place))

-- The walk goes from place to place.

module _ (rows : ℕ) (bytes marks : List ℕ) (sections : List MpeFields) (marked : AreStartsMarked rows bytes marks sections) where
  abbrev f : ℕ → Option ℕ
  f = marked_byte bytes marks

  abbrev limit : ℕ
  limit = 191 * rows

  abbrev starts : ℕ → List ℕ
  starts n = starts_below rows f sections n

  abbrev test_at : ℕ → Bool
  test_at n = is_first_start sections n || list_any (tells_end rows f n) (starts n)

  next_is : (n : ℕ) → starts (suc n) ≡ starts n ++ cond (test_at n) (n ∷ []) []
  unfolding starts_below
  next_is n = refl

  -- the test for a start is the mark
  test_is : (n : ℕ) → n < 191 * rows → test_at n ≡ is_start_mark (get_or marks n 0)
  test_is n low = by_tests (cases_Bool (test_at n)) (cases_Bool (is_start_mark (get_or marks n 0)))
    where
      in_next : test_at n ≡ true → Member (starts (suc n)) n
      in_next test =
          subst (λ (l : List ℕ). Member l n) (sym (next_is n ∙ ap (λ (b : Bool). starts n ++ cond b (n ∷ []) []) test)) (last_member (starts n))
        where
          last_member : (xs : List ℕ) → Member (xs ++ n ∷ []) n
          last_member [] = inl refl
          last_member (x ∷ xs) = inr (last_member xs)

      is_test : Member (starts (suc n)) n → test_at n ≡ true
      is_test there = by_part (member_parted (starts n) (cond (test_at n) (n ∷ []) []) n (subst (λ (l : List ℕ). Member l n) (next_is n) there))
        where
          by_cond : (b : Bool) → Member (cond b (n ∷ []) []) n → b ≡ true
          by_cond true here = refl
          by_cond false never = absurd never

          by_part : Member (starts n) n ⊎ Member (cond (test_at n) (n ∷ []) []) n → test_at n ≡ true
          by_part (inl before) = let order : n < n = (starts_are rows f sections n n before).0 in absurd (omega (arith, order))
          by_part (inr here) = by_cond (test_at n) here

      by_tests : (test_at n ≡ true) ⊎ (test_at n ≡ false) → (is_start_mark (get_or marks n 0) ≡ true) ⊎ (is_start_mark (get_or marks n 0) ≡ false)
          → test_at n ≡ is_start_mark (get_or marks n 0)
      by_tests (inl passed) (inl mark) = passed ∙ sym mark
      by_tests (inr failed) (inr not_marked) = failed ∙ sym not_marked
      by_tests (inl passed) (inr not_marked) = passed ∙ sym (marked.marked n low (starts_are rows f sections (suc n) n (in_next passed)).1)
      by_tests (inr failed) (inl mark) = is_test (start_in rows f sections (suc n) n (omega arith) (marked.start n low mark)) ∙ sym mark

  -- one place more
  within_more : (n place : ℕ) → found_within bytes marks (191 * rows) (suc n) place ≡ found_within bytes marks (191 * rows) n place ++ found_at bytes marks (191 * rows) (place + n)
  unfolding found_within
  within_more zero place = let e : place ≡ place + 0 = omega arith in append-nil (found_at bytes marks (191 * rows) place) ∙ ap (found_at bytes marks (191 * rows)) e
  within_more (suc n) place =
      let e : place + 1 + n ≡ place + suc n = omega arith in
      ap (λ (l : List (List ℕ)). found_at bytes marks (191 * rows) place ++ l) (within_more n (place + 1) ∙ ap (λ (p : ℕ). found_within bytes marks (191 * rows) n (place + 1) ++ found_at bytes marks (191 * rows) p) e)
      ∙ sym (append_assoc (found_at bytes marks (191 * rows) place) (found_within bytes marks (191 * rows) n (place + 1)) (found_at bytes marks (191 * rows) (place + suc n)))

  at_is : (n : ℕ) → n < 191 * rows → flat_map (datagram_from rows f) (cond (test_at n) (n ∷ []) []) ≡ found_at bytes marks (191 * rows) n
  unfolding found_at marked_run
  at_is n low =
      ap (λ (b : Bool). flat_map (datagram_from rows f) (cond b (n ∷ []) [])) (test_is n low) ∙ by_mark (is_start_mark (get_or marks n 0))
    where
      by_mark : (b : Bool) → flat_map (datagram_from rows f) (cond b (n ∷ []) []) ≡ cond b (front_list (run_within (marked_byte bytes marks) (191 * rows - n) n)) []
      by_mark true = append-nil (datagram_from rows f n)
      by_mark false = refl

  found_up_to : (n : ℕ) → n ≤ 191 * rows → flat_map (datagram_from rows f) (starts n) ≡ found_within bytes marks (191 * rows) n 0
  unfolding starts_below found_within
  found_up_to zero low = refl
  found_up_to (suc n) low =
      let e : n ≡ 0 + n = omega arith in
      ap (flat_map (datagram_from rows f)) (next_is n)
      ∙ flat_map-append (datagram_from rows f) (starts n) (cond (test_at n) (n ∷ []) [])
      ∙ ap₂ (λ (a b : List (List ℕ)). a ++ b) (found_up_to n (omega (arith, low))) (at_is n (omega (arith, low)) ∙ ap (found_at bytes marks (191 * rows)) e)
      ∙ sym (within_more n 0)

  none_at_end : datagram_from rows f (191 * rows) ≡ []
  unfolding run_within
  none_at_end =
      let e : 191 * rows - 191 * rows ≡ 0 = omega arith in
      ap (λ (n : ℕ). front_datagram (run_within f n (191 * rows)) (front_length (run_within f n (191 * rows)))) e

  pub found_is : found_from bytes marks (191 * rows) 0 ≡ found_datagrams rows f sections
  unfolding found_from
  found_is =
      let e : 191 * rows + 1 ≡ suc (191 * rows) = omega arith in
      let size : 191 * rows - 0 ≡ 191 * rows = omega arith in
      ap (λ (n : ℕ). found_within bytes marks (191 * rows) n 0) size
      ∙ sym (found_up_to (191 * rows) (omega arith))
      ∙ sym (ap (λ (n : ℕ). flat_map (datagram_from rows f) (starts_below rows f sections n)) e
      ∙ ap (flat_map (datagram_from rows f)) (next_is (191 * rows))
      ∙ flat_map-append (datagram_from rows f) (starts (191 * rows)) (cond (test_at (191 * rows)) (191 * rows ∷ []) [])
      ∙ ap (λ (l : List (List ℕ)). flat_map (datagram_from rows f) (starts (191 * rows)) ++ l) (last_is (test_at (191 * rows)))
      ∙ append-nil (flat_map (datagram_from rows f) (starts (191 * rows))))
    where
      last_is : (b : Bool) → flat_map (datagram_from rows f) (cond b (191 * rows ∷ []) []) ≡ []
      last_is true = append-nil (datagram_from rows f (191 * rows)) ∙ none_at_end
      last_is false = refl

-- the datagrams of a frame whose rows were corrected
pub walk_finds : (table : TableState) (sections : List FrameSection) → IsSolved table sections → found_from table.bytes table.marks (191 * table.rows) 0 ≡ frame_datagrams table.rows sections
walk_finds table sections solved =
    found_is table.rows table.bytes table.marks (data_of sections) solved.starts
    ∙ found_same table.rows (marked_byte table.bytes table.marks) (corrected_byte table.rows (known_byte table.rows sections)) (data_of sections) solved.byte
