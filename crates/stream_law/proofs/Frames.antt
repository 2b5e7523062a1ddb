-- Datagrams divided into frames: each is in one, in order, and they fit.
use Rattle.std.proofs.Common.{◌≡◌, inl, inr, ℕ, ◌+◌, ◌*◌, ◌<◌, ◌≤◌, Bool, true, false, cond, leb, List, [], ◌∷◌, ◌++◌, length, refl, ap, sym, ◌∙◌, arith, append_assoc}
use Rattle.std.specs.Prelude.{flat_map}
use Rattle.std.specs.List.{fold}
use Rattle.std.proofs.lemmas.Bool.{and_parts}
use Rattle.std.proofs.lemmas.List.{append-nil, length-append}
use Rattle.wire_spec.specs.Bytes.{AreBytes}
use Rattle.wire_spec.specs.Datagram.{IsDatagram}
use Rattle.wire_spec.specs.Lists.{joined}
use Rattle.section_spec.specs.Mpe.{IsRows}
use Rattle.fec_frame_spec.specs.Sender.{fits_table, with_datagram, datagrams_in_frames}
use Rattle.stream_spec.specs.Units.{burst_size, fits_window, datagrams_by_burst, datagrams_by_frame, units_of_frame, units_of_frames}

-- a datagram that a section of a frame has room for
pub record IsFramed (datagram : List ℕ) : Type 0 where
  pub is : IsDatagram datagram
  pub bytes : AreBytes datagram
  pub size : length datagram ≤ 4080

abbrev pub AreFramed : List (List ℕ) → Type 0
AreFramed [] = Unit {0}
AreFramed (datagram ∷ datagrams) = IsFramed datagram × AreFramed datagrams

-- datagrams of which a frame can be made
pub record IsFrameOf (rows : ℕ) (frame : List (List ℕ)) : Type 0 where
  pub some : 0 < length frame
  pub fits : length (joined frame) ≤ 191 * rows
  pub each : AreFramed frame

abbrev pub AreFrames : ℕ → List (List (List ℕ)) → Type 0
AreFrames rows [] = Unit {0}
AreFrames rows (frame ∷ frames) = IsFrameOf rows frame × AreFrames rows frames

pub frames_both : (rows : ℕ) (a b : List (List (List ℕ))) → AreFrames rows a → AreFrames rows b → AreFrames rows (a ++ b)
frames_both rows [] b are others = others
frames_both rows (frame ∷ a) b are others = (are.0, frames_both rows a b are.1 others)

pub framed_both : (a b : List (List ℕ)) → AreFramed a → AreFramed b → AreFramed (a ++ b)
framed_both [] b are others = others
framed_both (datagram ∷ a) b are others = (are.0, framed_both a b are.1 others)

-- where datagrams are divided by what may share a frame
module _ (fits : List (List ℕ) → Bool) where
  -- all datagrams, in order
  all_with : (frames : List (List (List ℕ))) (d : List ℕ)
      → flat_map (λ (frame : List (List ℕ)). frame) (with_datagram fits frames d) ≡ flat_map (λ (frame : List (List ℕ)). frame) frames ++ d ∷ []
  all_with [] d = refl
  all_with (last ∷ []) d = by_fit (fits (last ++ d ∷ []))
    where
      by_fit : (is : Bool) → flat_map (λ (frame : List (List ℕ)). frame) (cond is ((last ++ d ∷ []) ∷ []) (last ∷ (d ∷ []) ∷ [])) ≡ (last ++ []) ++ d ∷ []
      by_fit true = append-nil (last ++ d ∷ []) ∙ ap (λ (l : List (List ℕ)). l ++ d ∷ []) (sym (append-nil last))
      by_fit false = ap (λ (l : List (List ℕ)). l ++ d ∷ []) (sym (append-nil last))
  all_with (frame ∷ next ∷ others) d =
      ap (λ (l : List (List ℕ)). frame ++ l) (all_with (next ∷ others) d)
      ∙ sym (append_assoc frame (flat_map (λ (f : List (List ℕ)). f) (next ∷ others)) (d ∷ []))

  all_from : (ds : List (List ℕ)) (frames : List (List (List ℕ)))
      → flat_map (λ (frame : List (List ℕ)). frame) (fold (with_datagram fits) frames ds) ≡ flat_map (λ (frame : List (List ℕ)). frame) frames ++ ds
  all_from [] frames = sym (append-nil (flat_map (λ (frame : List (List ℕ)). frame) frames))
  all_from (d ∷ ds) frames =
      all_from ds (with_datagram fits frames d)
      ∙ ap (λ (l : List (List ℕ)). l ++ ds) (all_with frames d)
      ∙ append_assoc (flat_map (λ (frame : List (List ℕ)). frame) frames) (d ∷ []) ds

  pub all_in : (ds : List (List ℕ)) → flat_map (λ (frame : List (List ℕ)). frame) (datagrams_in_frames fits ds) ≡ ds
  all_in ds = all_from ds []

  -- the frames fit
  module _ (rows : ℕ) (within : (frame : List (List ℕ)) → fits frame ≡ true → length (joined frame) ≤ 191 * rows) (is_rows : IsRows rows) where
    one_fits : (d : List ℕ) → length d ≤ 4080 → length (joined (d ∷ [])) ≤ 191 * rows
    one_fits d le = by_rows is_rows
      where
        by_rows : IsRows rows → length (joined (d ∷ [])) ≤ 191 * rows
        by_rows (inl e) = omega (arith, e, le, length-append d [])
        by_rows (inr (inl e)) = omega (arith, e, le, length-append d [])
        by_rows (inr (inr (inl e))) = omega (arith, e, le, length-append d [])
        by_rows (inr (inr (inr e))) = omega (arith, e, le, length-append d [])

    alone : (d : List ℕ) → IsFramed d → IsFrameOf rows (d ∷ [])
    alone d is = record { some = omega arith; fits = one_fits d is.size; each = (is, tt) }

    frames_with : (frames : List (List (List ℕ))) (d : List ℕ) → IsFramed d → AreFrames rows frames → AreFrames rows (with_datagram fits frames d)
    frames_with [] d is are = (alone d is, tt)
    frames_with (last ∷ []) d is are = by_fit (fits (last ++ d ∷ [])) refl
      where
        by_fit : (is_one : Bool) → fits (last ++ d ∷ []) ≡ is_one → AreFrames rows (cond is_one ((last ++ d ∷ []) ∷ []) (last ∷ (d ∷ []) ∷ []))
        by_fit true e = (
          record {
            some = omega (arith, length-append last (d ∷ []));
            fits = within (last ++ d ∷ []) e;
            each = framed_both last (d ∷ []) are.0.each (is, tt);
          },
          tt,
        )
        by_fit false e = (are.0, (alone d is, tt))
    frames_with (frame ∷ next ∷ others) d is are = (are.0, frames_with (next ∷ others) d is are.1)

    frames_from : (ds : List (List ℕ)) (frames : List (List (List ℕ))) → AreFramed ds → AreFrames rows frames → AreFrames rows (fold (with_datagram fits) frames ds)
    frames_from [] frames framed are = are
    frames_from (d ∷ ds) frames framed are = frames_from ds (with_datagram fits frames d) framed.1 (frames_with frames d framed.0 are)

    pub are_in : (ds : List (List ℕ)) → AreFramed ds → AreFrames rows (datagrams_in_frames fits ds)
    are_in ds framed = frames_from ds [] framed tt

-- frames without time slicing
within_table : (rows : ℕ) (frame : List (List ℕ)) → fits_table rows frame ≡ true → length (joined frame) ≤ 191 * rows
within_table rows frame e = no_more (length (joined frame)) e
  where
    no_more : (n : ℕ) → leb n (191 * rows) ≡ true → n ≤ 191 * rows
    no_more n e2 = grind (arith, e2)

pub all_in_frames : (rows : ℕ) (ds : List (List ℕ)) → flat_map (λ (frame : List (List ℕ)). frame) (datagrams_by_frame rows ds) ≡ ds
all_in_frames rows ds = all_in (fits_table rows) ds

pub are_frames : (rows : ℕ) → IsRows rows → (ds : List (List ℕ)) → AreFramed ds → AreFrames rows (datagrams_by_frame rows ds)
are_frames rows is_rows ds framed = are_in (fits_table rows) rows (within_table rows) is_rows ds framed

-- and bursts
pub all_in_bursts : (rows columns slots : ℕ) (ds : List (List ℕ)) → flat_map (λ (frame : List (List ℕ)). frame) (datagrams_by_burst rows columns slots ds) ≡ ds
all_in_bursts rows columns slots ds = all_in (fits_window rows columns slots) ds

pub are_bursts : (rows columns slots : ℕ) → IsRows rows → (ds : List (List ℕ)) → AreFramed ds → AreFrames rows (datagrams_by_burst rows columns slots ds)
are_bursts rows columns slots is_rows ds framed =
    are_in (fits_window rows columns slots) rows (λ frame e. within_table rows frame (and_parts (fits_table rows frame) (leb (burst_size rows columns frame) slots) e).0) is_rows ds framed

-- the units of frames after others go on with their numbers
pub units_both : (rows columns : ℕ) (unicast : List ℕ) (number : ℕ) (a b : List (List (List ℕ)))
    → units_of_frames rows columns unicast number (a ++ b) ≡ units_of_frames rows columns unicast number a ++ units_of_frames rows columns unicast (number + length a) b
units_both rows columns unicast number [] b = let e : number ≡ number + 0 = omega arith in ap (λ (n : ℕ). units_of_frames rows columns unicast n b) e
units_both rows columns unicast number (frame ∷ a) b =
    let e : number + 1 + length a ≡ number + length (frame ∷ a) = omega arith in
    ap (λ (l : List (List ℕ)). units_of_frame rows columns unicast number frame ++ l)
    (units_both rows columns unicast (number + 1) a b
    ∙ ap (λ (n : ℕ). units_of_frames rows columns unicast (number + 1) a ++ units_of_frames rows columns unicast n b) e)
    ∙ sym (append_assoc (units_of_frame rows columns unicast number frame) (units_of_frames rows columns unicast (number + 1) a)
    (units_of_frames rows columns unicast (number + length (frame ∷ a)) b))
