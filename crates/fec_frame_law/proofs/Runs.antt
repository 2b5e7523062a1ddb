-- Runs of known bytes, and what they tell of the datagram that starts there.
use Rattle.std.proofs.Common.{◌≡◌, ◌⊎◌, inl, inr, ℕ, zero, suc, ◌+◌, ◌-◌, ◌*◌, ◌<◌, ◌≤◌, List, [], ◌∷◌, ◌++◌, length, get_or, drop, take, replicate, Option, Some, None, refl, ap, ap₂, sym, ◌∙◌, subst, arith, length-append}
use Rattle.std.specs.Prelude.{All}
use Rattle.std.proofs.lemmas.List.{length-drop, get_or-drop, take_at, take-append-le}
use Rattle.wire_spec.specs.Lists.{joined}
use Rattle.wire_spec.specs.Datagram.{IsDatagram, IsFront, front_length}
use Rattle.ip_datagram.specs.Hint.{hint_of}
use Rattle.ip_datagram.specs.declared.hint.Hint.TheVariants.{More, Padding, Length}
use Rattle.ip_datagram.proofs.Fronts.{IsFront-front_length, front_length-from_front}
use Rattle.ip_datagram.proofs.HintFronts.{hint_of-front, told_front}
use Rattle.fec_frame_spec.specs.Frame.{data_table, datagram_start}
use Rattle.fec_frame_spec.specs.Starts.{run_on, run_within, known_run}
use Rattle.fec_frame_law.proofs.Places.{data_long, drop_data, drop_all_data, start_most}

-- A run is the front of all bytes.

pub run_front : (bytes : ℕ → Option ℕ) (most place : ℕ) (all : List ℕ) → length all ≡ most
    → ((i byte : ℕ) → i < most → bytes (place + i) ≡ Some byte → get_or all i 0 ≡ byte)
    → (rest : List ℕ) × (run_within bytes most place ++ rest ≡ all)
unfolding run_within
run_front bytes zero place all long same = (all, refl)
run_front bytes (suc most) place [] long same = absurd (omega (arith, long))
run_front bytes (suc most) place (a ∷ all) long same =
    by_first
    (run_front bytes most (place + 1) all (omega (arith, long))
    (λ i byte low is. let e : place + suc i ≡ place + 1 + i = omega arith in same (suc i) byte (omega arith) (ap bytes e ∙ is)))
    (bytes place) refl
  where
    by_first : (rest : List ℕ) × (run_within bytes most (place + 1) ++ rest ≡ all) → (o : Option ℕ) → bytes place ≡ o
        → (rest : List ℕ) × (run_on o (run_within bytes most (place + 1)) ++ rest ≡ a ∷ all)
    by_first later None is = (a ∷ all, refl)
    by_first later (Some byte) is =
        let e : place + 0 ≡ place = omega arith in
        (later.0, ap₂ (λ (x : ℕ) (l : List ℕ). x ∷ l) (sym (same 0 byte (omega arith) (ap bytes e ∙ is))) later.1)

-- and all of them, where all are known
pub run_whole : (bytes : ℕ → Option ℕ) (most place : ℕ) (all : List ℕ) → length all ≡ most
    → ((i : ℕ) → i < most → bytes (place + i) ≡ Some (get_or all i 0)) → run_within bytes most place ≡ all
unfolding run_within
run_whole bytes zero place [] long known = refl
run_whole bytes zero place (a ∷ all) long known = absurd (omega (arith, long))
run_whole bytes (suc most) place [] long known = absurd (omega (arith, long))
run_whole bytes (suc most) place (a ∷ all) long known =
    let e : place + 0 ≡ place = omega arith in
    ap (λ (o : Option ℕ). run_on o (run_within bytes most (place + 1))) (ap bytes (sym e) ∙ known 0 (omega arith))
    ∙ ap (λ (l : List ℕ). a ∷ l) (run_whole bytes most (place + 1) all (omega (arith, long))
    (λ i low. let n : place + 1 + i ≡ place + suc i = omega arith in ap bytes n ∙ known (suc i) (omega arith)))

-- Zeros tell no length.

zero_hint : (x : ℕ) (run : List ℕ) → x ≡ 0 → hint_of (x ∷ run) ≡ Padding
zero_hint x run zeros = grind arith

pub zeros_tell_nothing : (run rest : List ℕ) (k n : ℕ) → run ++ rest ≡ replicate k 0 → hint_of run ≡ Length n → ⊥
zeros_tell_nothing [] rest k n same told = cc
zeros_tell_nothing (x ∷ run) rest zero n same told = cc
zeros_tell_nothing (x ∷ run) rest (suc k) n same told =
    let zeros : x ≡ 0 = cc in
    let padding : hint_of (x ∷ run) ≡ Padding = zero_hint x run zeros in
    cc

-- Known bytes of a table of datagrams.

module _ (rows : ℕ) (ds : List (List ℕ)) (bytes : ℕ → Option ℕ) (fits : length (joined ds) ≤ 191 * rows) (are : All IsDatagram ds)
    (agrees : (place byte : ℕ) → place < 191 * rows → bytes place ≡ Some byte → get_or (data_table rows ds) place 0 ≡ byte) where
  -- from a place on
  pub run_from : (place : ℕ) → place ≤ 191 * rows → (rest : List ℕ) × (known_run rows bytes place ++ rest ≡ drop place (data_table rows ds))
  run_from place within =
      run_front bytes (191 * rows - place) place (drop place (data_table rows ds)) (omega (arith, length-drop place (data_table rows ds), data_long rows ds fits))
      (λ i byte low is. get_or-drop place (data_table rows ds) i 0 ∙ agrees (place + i) byte (omega (arith, low, within)) is)

  start_within : (n : ℕ) → datagram_start ds n ≤ 191 * rows
  start_within n = omega (arith, start_most ds n, fits)

  -- a datagram stands at its start
  stands : (n : ℕ) → n < length ds → IsFront (drop (datagram_start ds n) (data_table rows ds)) (length (get_or ds n []))
  stands n within =
      subst (λ (l : List ℕ). IsFront l (length (get_or ds n []))) (sym (drop_data rows ds n within))
      (front_of (get_or ds n []) (joined (drop (suc n) ds) ++ replicate (191 * rows - length (joined ds)) 0) (are n [] within))
    where
      front_of : (d rest : List ℕ) → IsDatagram d → IsFront (d ++ rest) (length d)
      front_of d rest is = record {
        within = omega (arith, length-append d rest);
        datagram = subst IsDatagram (sym (take_at d rest (length d) refl)) is;
      }

  pub front_at : (n : ℕ) → n < length ds → front_length (drop (datagram_start ds n) (data_table rows ds)) ≡ Some (length (get_or ds n []))
  front_at n within = front_length-from_front (drop (datagram_start ds n) (data_table rows ds)) (length (get_or ds n [])) (stands n within)

  -- the length that its known bytes tell is its own
  pub told_is : (n k : ℕ) → n < length ds → hint_of (known_run rows bytes (datagram_start ds n)) ≡ Length k → k ≡ length (get_or ds n [])
  told_is n k within told =
      let run = run_from (datagram_start ds n) (start_within n) in
      by_told (told_front (known_run rows bytes (datagram_start ds n)) run.0 (length (get_or ds n [])) (ap front_length run.1 ∙ front_at n within))
    where
      by_told : (hint_of (known_run rows bytes (datagram_start ds n)) ≡ Length (length (get_or ds n []))) ⊎ (hint_of (known_run rows bytes (datagram_start ds n)) ≡ More)
          → k ≡ length (get_or ds n [])
      by_told (inl is) = cc
      by_told (inr more) = absurd (cc)

  -- a datagram among its known bytes is it
  pub found_is : (n k : ℕ) → n < length ds → front_length (known_run rows bytes (datagram_start ds n)) ≡ Some k
      → take k (known_run rows bytes (datagram_start ds n)) ≡ get_or ds n []
  found_is n k within found =
      let run = run_from (datagram_start ds n) (start_within n) in
      let size : k ≡ length (get_or ds n []) = told_is n k within (hint_of-front (known_run rows bytes (datagram_start ds n)) k found) in
      let inside : k ≤ length (known_run rows bytes (datagram_start ds n)) = (IsFront-front_length (known_run rows bytes (datagram_start ds n)) k found).within in
      sym (take-append-le k (known_run rows bytes (datagram_start ds n)) run.0 inside)
      ∙ ap (take k) run.1
      ∙ ap (take k) (drop_data rows ds n within)
      ∙ take_at (get_or ds n []) (joined (drop (suc n) ds) ++ replicate (191 * rows - length (joined ds)) 0) k (sym size)

  -- after the last datagram nothing is told
  pub end_tells_nothing : (k : ℕ) → hint_of (known_run rows bytes (length (joined ds))) ≡ Length k → ⊥
  end_tells_nothing k told =
      let run = run_from (length (joined ds)) fits in
      zeros_tell_nothing (known_run rows bytes (length (joined ds))) run.0 (191 * rows - length (joined ds)) k (run.1 ∙ drop_all_data rows ds) told

  -- where all bytes are known, the run is all after the place
  pub whole_run : ((place : ℕ) → place < 191 * rows → bytes place ≡ Some (get_or (data_table rows ds) place 0))
      → (place : ℕ) → place ≤ 191 * rows → known_run rows bytes place ≡ drop place (data_table rows ds)
  whole_run known place within =
      run_whole bytes (191 * rows - place) place (drop place (data_table rows ds)) (omega (arith, length-drop place (data_table rows ds), data_long rows ds fits))
      (λ i low. known (place + i) (omega (arith, low, within)) ∙ ap (λ (b : ℕ). Some b) (sym (get_or-drop place (data_table rows ds) i 0)))
