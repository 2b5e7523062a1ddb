-- The frames of a service on one PID: their units are numbered one after another, and carry its datagrams there.
use Rattle.std.proofs.Common.{◌≡◌, ℕ, zero, suc, ◌+◌, ◌<◌, Bool, true, false, cond, List, [], ◌∷◌, ◌++◌, length, refl, sym, ap, ap₂, subst, ◌∙◌, arith, Option, Some}
use Rattle.std.specs.Prelude.{flat_map}
use Rattle.std.specs.List.{range_with_len}
use Rattle.std.proofs.lemmas.List.{append-nil, length-append}
use Rattle.std.proofs.lemmas.Grind.{flat_map-append}
use Rattle.section_spec.specs.Mpe.{IsRows}
use Rattle.plan_spec.specs.Changes.{has_pid}
use Rattle.plan_law.proofs.Pids.{twice}
use Rattle.stream_spec.specs.Units.{datagrams_by_frame, units_of_frames}
use Rattle.stream_law.proofs.Ranges.{range_append}
use Rattle.stream_law.proofs.AllPids.{pids}
use Rattle.stream_law.proofs.Numbered.{items_before, goes_on}
use Rattle.stream_law.proofs.Frames.{AreFramed, AreFrames, frames_both, all_in_frames, are_frames, units_both}

module _ (pid_at : ℕ → Option ℕ) (all : (v : ℕ) → (pid : ℕ) × (pid_at v ≡ Some pid)) (lists : ℕ → List (List ℕ)) (rows columns : ℕ) (unicast : List ℕ) (pid : ℕ) where
  abbrev frames_of : ℕ → List (List (List ℕ))
  frames_of v = datagrams_by_frame rows (lists v)

  -- the frames on the PID before a version
  abbrev pub frames_on : ℕ → List (List (List ℕ))
  frames_on n = flat_map (λ v. cond (has_pid (pid_at v) pid) (datagrams_by_frame rows (lists v)) []) (range_with_len 0 n)

  abbrev number_of : ℕ → ℕ
  number_of v = items_before pid_at all (λ u. datagrams_by_frame rows (lists u)) v

  -- the numbers of the frames on the PID in a version
  abbrev pub numbers_on : ℕ → List ℕ
  numbers_on v = cond (has_pid (pid_at v) pid) (range_with_len (number_of v) (length (datagrams_by_frame rows (lists v)))) []

  -- the units on the PID of a version
  abbrev pub units_in : ℕ → List (List ℕ)
  units_in v = cond (has_pid (pid_at v) pid) (units_of_frames rows columns unicast (number_of v) (datagrams_by_frame rows (lists v))) []

  next : (n : ℕ) → range_with_len 0 (suc n) ≡ range_with_len 0 n ++ n ∷ []
  next n = let one : suc n ≡ n + 1 = omega arith in ap (range_with_len 0) one ∙ range_append 0 n 1 n (omega arith)

  frames_next : (n : ℕ) → frames_on (suc n) ≡ frames_on n ++ cond (has_pid (pid_at n) pid) (datagrams_by_frame rows (lists n)) []
  frames_next n =
      ap (flat_map (λ v. cond (has_pid (pid_at v) pid) (datagrams_by_frame rows (lists v)) [])) (next n)
      ∙ flat_map-append (λ v. cond (has_pid (pid_at v) pid) (datagrams_by_frame rows (lists v)) []) (range_with_len 0 n) (n ∷ [])
      ∙ ap (λ (l : List (List (List ℕ))). frames_on n ++ l) (append-nil (cond (has_pid (pid_at n) pid) (datagrams_by_frame rows (lists n)) []))

  module _ (first : ℕ) where
    units_go_on : (n : ℕ) → ((v : ℕ) → v < n → has_pid (pid_at v) pid ≡ true → number_of v ≡ first + length (frames_on v))
        → flat_map units_in (range_with_len 0 n) ≡ units_of_frames rows columns unicast first (frames_on n)
    units_go_on zero each = refl
    units_go_on (suc n) each =
        ap (flat_map units_in) (next n)
        ∙ flat_map-append units_in (range_with_len 0 n) (n ∷ [])
        ∙ ap₂ (λ (a b : List (List ℕ)). a ++ b) (units_go_on n (λ v less. each v (omega (arith, less)))) (append-nil (units_in n))
        ∙ by_pid (has_pid (pid_at n) pid) refl
        ∙ sym (ap (units_of_frames rows columns unicast first) (frames_next n))
      where
        by_pid : (own : Bool) → has_pid (pid_at n) pid ≡ own
            → units_of_frames rows columns unicast first (frames_on n) ++ cond own (units_of_frames rows columns unicast (number_of n) (datagrams_by_frame rows (lists n))) []
            ≡ units_of_frames rows columns unicast first (frames_on n ++ cond own (datagrams_by_frame rows (lists n)) [])
        by_pid true e =
            ap (λ (i : ℕ). units_of_frames rows columns unicast first (frames_on n) ++ units_of_frames rows columns unicast i (datagrams_by_frame rows (lists n)))
            (each n (omega arith) e)
            ∙ sym (units_both rows columns unicast first (frames_on n) (datagrams_by_frame rows (lists n)))
        by_pid false e =
            append-nil (units_of_frames rows columns unicast first (frames_on n))
            ∙ ap (units_of_frames rows columns unicast first) (sym (append-nil (frames_on n)))

    numbers_go_on : (n : ℕ) → ((v : ℕ) → v < n → has_pid (pid_at v) pid ≡ true → number_of v ≡ first + length (frames_on v))
        → flat_map numbers_on (range_with_len 0 n) ≡ range_with_len first (length (frames_on n))
    numbers_go_on zero each = refl
    numbers_go_on (suc n) each =
        ap (flat_map numbers_on) (next n)
        ∙ flat_map-append numbers_on (range_with_len 0 n) (n ∷ [])
        ∙ ap₂ (λ (a b : List ℕ). a ++ b) (numbers_go_on n (λ v less. each v (omega (arith, less)))) (append-nil (numbers_on n))
        ∙ by_pid (has_pid (pid_at n) pid) refl
        ∙ sym (ap (λ (l : List (List (List ℕ))). range_with_len first (length l)) (frames_next n))
      where
        by_pid : (own : Bool) → has_pid (pid_at n) pid ≡ own
            → range_with_len first (length (frames_on n)) ++ cond own (range_with_len (number_of n) (length (datagrams_by_frame rows (lists n)))) []
            ≡ range_with_len first (length (frames_on n ++ cond own (datagrams_by_frame rows (lists n)) []))
        by_pid true e =
            sym (ap (range_with_len first) (length-append (frames_on n) (datagrams_by_frame rows (lists n)))
            ∙ range_append first (length (frames_on n)) (length (datagrams_by_frame rows (lists n))) (number_of n) (each n (omega arith) e))
        by_pid false e =
            append-nil (range_with_len first (length (frames_on n)))
            ∙ ap (λ (l : List (List (List ℕ))). range_with_len first (length l)) (sym (append-nil (frames_on n)))

  -- the datagrams on the PID
  pub framed_on : (n : ℕ) → flat_map (λ (frame : List (List ℕ)). frame) (frames_on n) ≡ flat_map (λ v. cond (has_pid (pid_at v) pid) (lists v) []) (range_with_len 0 n)
  framed_on zero = refl
  framed_on (suc n) =
      ap (flat_map (λ (frame : List (List ℕ)). frame)) (frames_next n)
      ∙ flat_map-append (λ (frame : List (List ℕ)). frame) (frames_on n) (cond (has_pid (pid_at n) pid) (datagrams_by_frame rows (lists n)) [])
      ∙ ap₂ (λ (a b : List (List ℕ)). a ++ b) (framed_on n) (by_pid (has_pid (pid_at n) pid))
      ∙ sym (ap (flat_map (λ v. cond (has_pid (pid_at v) pid) (lists v) [])) (next n)
      ∙ flat_map-append (λ v. cond (has_pid (pid_at v) pid) (lists v) []) (range_with_len 0 n) (n ∷ [])
      ∙ ap (λ (l : List (List ℕ)). flat_map (λ v. cond (has_pid (pid_at v) pid) (lists v) []) (range_with_len 0 n) ++ l)
      (append-nil (cond (has_pid (pid_at n) pid) (lists n) [])))
    where
      by_pid : (own : Bool) → flat_map (λ (frame : List (List ℕ)). frame) (cond own (datagrams_by_frame rows (lists n)) []) ≡ cond own (lists n) []
      by_pid true = all_in_frames rows (lists n)
      by_pid false = refl

  pub frames_are : IsRows rows → ((v : ℕ) → AreFramed (lists v)) → (n : ℕ) → AreFrames rows (frames_on n)
  frames_are is_rows framed zero = tt
  frames_are is_rows framed (suc n) =
      subst (AreFrames rows) (sym (frames_next n))
      (frames_both rows (frames_on n) (cond (has_pid (pid_at n) pid) (datagrams_by_frame rows (lists n)) []) (frames_are is_rows framed n) (by_pid (has_pid (pid_at n) pid)))
    where
      by_pid : (own : Bool) → AreFrames rows (cond own (datagrams_by_frame rows (lists n)) [])
      by_pid true = are_frames rows is_rows (lists n) (framed n)
      by_pid false = tt

  -- their units are those of frames with numbers that go on
  pub units_are_numbered : (n : ℕ) → twice (pids pid_at all (λ u. datagrams_by_frame rows (lists u)) n) ≡ false
      → (first : ℕ) × (flat_map units_in (range_with_len 0 n) ≡ units_of_frames rows columns unicast first (frames_on n))
      × (flat_map numbers_on (range_with_len 0 n) ≡ range_with_len first (length (frames_on n)))
  units_are_numbered n once = of_first (goes_on pid_at all (λ u. datagrams_by_frame rows (lists u)) n pid once)
    where
      of_first : (first : ℕ) × ((v : ℕ) → v < n → has_pid (pid_at v) pid ≡ true → number_of v ≡ first + length (frames_on v))
          → (first : ℕ) × (flat_map units_in (range_with_len 0 n) ≡ units_of_frames rows columns unicast first (frames_on n))
          × (flat_map numbers_on (range_with_len 0 n) ≡ range_with_len first (length (frames_on n)))
      of_first (first, each) = (first, units_go_on first n each, numbers_go_on first n each)
