-- Which datagrams share a frame.
use Rattle.std.proofs.Common.{◌≡◌, ℕ, ◌<◌, Bool, true, false, cond, List, [], ◌∷◌, ◌++◌, length, refl, ap, sym, ◌∙◌, arith, append_assoc}
use Rattle.std.specs.List.{fold, flat_map, All}
use Rattle.std.proofs.lemmas.List.{append-nil}
use Rattle.std.proofs.lemmas.List.Elements.{All-cons, All-head, All-nil, All-push, All-tail}
use Rattle.fec_frame_spec.specs.Sender.{with_datagram}

module _ (fits : List (List ℕ) → Bool) where
  -- the frames when more datagrams come
  abbrev pub frames_with : List (List (List ℕ)) → List (List ℕ) → List (List (List ℕ))
  frames_with frames ds = fold (with_datagram fits) frames ds

  some_frames : (frames : List (List (List ℕ))) (d : List ℕ) → 0 < length (with_datagram fits frames d)
  some_frames [] d = omega arith
  some_frames (last ∷ []) d = by_fit (fits (last ++ d ∷ []))
    where
      by_fit : (b : Bool) → 0 < length (cond b ((last ++ d ∷ []) ∷ []) (last ∷ (d ∷ []) ∷ []))
      by_fit true = omega arith
      by_fit false = omega arith
  some_frames (frame ∷ next ∷ others) d = omega arith

  -- only the last one grows
  frame_stays : (ds : List (List ℕ)) (frame : List (List ℕ)) (frames : List (List (List ℕ))) → 0 < length frames
      → frames_with (frame ∷ frames) ds ≡ frame ∷ frames_with frames ds
  frame_stays [] frame frames some = refl
  frame_stays (d ∷ ds) frame [] some = absurd (omega (arith, some))
  frame_stays (d ∷ ds) frame (next ∷ others) some = frame_stays ds frame (with_datagram fits (next ∷ others) d) (some_frames (next ∷ others) d)

  -- a datagram that fits
  pub joins : (last ds : List (List ℕ)) (d : List ℕ) → fits (last ++ d ∷ []) ≡ true → frames_with (last ∷ []) (d ∷ ds) ≡ frames_with ((last ++ d ∷ []) ∷ []) ds
  joins last ds d it = ap (λ (b : Bool). frames_with (cond b ((last ++ d ∷ []) ∷ []) (last ∷ (d ∷ []) ∷ [])) ds) it

  -- and one that does not
  pub begins : (last ds : List (List ℕ)) (d : List ℕ) → fits (last ++ d ∷ []) ≡ false → frames_with (last ∷ []) (d ∷ ds) ≡ last ∷ frames_with [] (d ∷ ds)
  begins last ds d it =
      ap (λ (b : Bool). frames_with (cond b ((last ++ d ∷ []) ∷ []) (last ∷ (d ∷ []) ∷ [])) ds) it
      ∙ frame_stays ds last ((d ∷ []) ∷ []) (omega arith)

  -- The datagrams of all frames are all datagrams.

  abbrev pub all_of : List (List (List ℕ)) → List (List ℕ)
  all_of frames = flat_map (λ (frame : List (List ℕ)). frame) frames

  all_with : (frames : List (List (List ℕ))) (d : List ℕ) → all_of (with_datagram fits frames d) ≡ all_of frames ++ d ∷ []
  all_with [] d = refl
  all_with (last ∷ []) d = by_fit (fits (last ++ d ∷ []))
    where
      by_fit : (b : Bool) → all_of (cond b ((last ++ d ∷ []) ∷ []) (last ∷ (d ∷ []) ∷ [])) ≡ (last ++ []) ++ d ∷ []
      by_fit true = append-nil (last ++ d ∷ []) ∙ ap (λ (l : List (List ℕ)). l ++ d ∷ []) (sym (append-nil last))
      by_fit false = ap (λ (l : List (List ℕ)). l ++ d ∷ []) (sym (append-nil last))
  all_with (frame ∷ next ∷ others) d =
      ap (λ (l : List (List ℕ)). frame ++ l) (all_with (next ∷ others) d) ∙ sym (append_assoc frame (all_of (next ∷ others)) (d ∷ []))

  pub all_in_frames : (ds : List (List ℕ)) (frames : List (List (List ℕ))) → all_of (frames_with frames ds) ≡ all_of frames ++ ds
  all_in_frames [] frames = sym (append-nil (all_of frames))
  all_in_frames (d ∷ ds) frames =
      all_in_frames ds (with_datagram fits frames d)
      ∙ ap (λ (l : List (List ℕ)). l ++ ds) (all_with frames d)
      ∙ append_assoc (all_of frames) (d ∷ []) ds

  -- Each frame has a datagram, its datagrams fit, and each is as all datagrams are.

  module _ (Is : List ℕ → Type 0) where
    pub record IsFilled (frame : List (List ℕ)) : Type 0 where
      pub some : 0 < length frame
      pub fit : fits frame ≡ true
      pub each : All Is frame

    abbrev pub AreFilled : List (List (List ℕ)) → Type 0
    AreFilled [] = Unit {0}
    AreFilled (frame ∷ frames) = IsFilled frame × AreFilled frames

    one_filled : (d : List ℕ) → fits (d ∷ []) ≡ true → Is d → IsFilled (d ∷ [])
    one_filled d fit is = record { some = omega arith; fit = fit; each = All-cons Is d [] is (All-nil Is) }

    filled_with : (frames : List (List (List ℕ))) (d : List ℕ) → fits (d ∷ []) ≡ true → Is d → AreFilled frames → AreFilled (with_datagram fits frames d)
    filled_with [] d fit is are = (one_filled d fit is, tt)
    filled_with (last ∷ []) d fit is are = by_fit (fits (last ++ d ∷ [])) refl
      where
        by_fit : (b : Bool) → fits (last ++ d ∷ []) ≡ b → AreFilled (cond b ((last ++ d ∷ []) ∷ []) (last ∷ (d ∷ []) ∷ []))
        by_fit true it = (record { some = omega (arith, some_more last); fit = it; each = All-push Is last d are.0.each is }, tt)
          where
            some_more : (l : List (List ℕ)) → 0 < length (l ++ d ∷ [])
            some_more [] = omega arith
            some_more (x ∷ l) = omega arith
        by_fit false it = (are.0, (one_filled d fit is, tt))
    filled_with (frame ∷ next ∷ others) d fit is are = (are.0, filled_with (next ∷ others) d fit is are.1)

    pub frames_filled : (ds : List (List ℕ)) (frames : List (List (List ℕ))) → ((d : List ℕ) → Is d → fits (d ∷ []) ≡ true) → All Is ds → AreFilled frames
        → AreFilled (frames_with frames ds)
    frames_filled [] frames alone all are = are
    frames_filled (d ∷ ds) frames alone all are =
        frames_filled ds (with_datagram fits frames d) alone (All-tail Is d ds all) (filled_with frames d (alone d (All-head Is d ds all)) (All-head Is d ds all) are)

    -- what each frame has then
    pub all_filled : (P : List (List ℕ) → Type 0) (frames : List (List (List ℕ))) → ((frame : List (List ℕ)) → IsFilled frame → P frame) → AreFilled frames → All P frames
    all_filled P [] each are = All-nil P
    all_filled P (frame ∷ frames) each are = All-cons P frame frames (each frame are.0) (all_filled P frames each are.1)
