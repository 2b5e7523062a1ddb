-- A table whose rows were corrected and whose starts were marked.
use Rattle.std.proofs.Common.{◌≡◌, ℕ, ◌+◌, ◌*◌, ◌/◌, ◌%◌, ◌<◌, Bool, true, false, cond, ◌&&◌, List, get_or, Option, Some, None, refl, ap, ap₂, sym, ◌∙◌, arith}
use Rattle.std.specs.Prelude.{is_none, is_some, count_by}
use Rattle.std.specs.List.{range_with_len}
use Rattle.std.proofs.lemmas.Nat.{div-add-mod', div_below, mod_below}
use Rattle.fec_frame_spec.specs.Sections.{FrameSection, data_of}
use Rattle.fec_frame_spec.specs.Known.{known_byte}
use Rattle.fec_frame_spec.specs.Corrected.{byte_of_row, corrected_byte, mended_rows, left_rows}
use Rattle.fec_frame.specs.Marks.{is_known_mark, marked_byte, AreEdgesMarked, AreStartsMarked}
use Rattle.fec_frame.specs.Runs.{AreRowsSolved, is_mended, is_left}
use Rattle.fec_frame.specs.Stands.{IsOf, IsSolved}
use Rattle.fec_frame.specs.declared.place.State.{State}
use Rattle.fec_frame.proofs.Patterns.{row_same, lacks_same}
use Rattle.fec_frame.proofs.Counting.{count_same}
use Rattle.fec_frame.proofs.Placing.{marked_same, edges_same}

module _ (rows : ℕ) (f g : ℕ → Option ℕ) (same : (p : ℕ) → f p ≡ g p) where
  byte_same : (place : ℕ) → corrected_byte rows f place ≡ corrected_byte rows g place
  byte_same place =
      ap₂ (λ (o : Option (List ℕ)) (b : Option ℕ). byte_of_row o (place / rows) b) (row_same rows f g (place % rows) (λ j low. same (j * rows + place % rows))) (same place)

  pub mended_same : count_by (is_mended rows f) (range_with_len 0 rows) ≡ mended_rows rows g
  mended_same =
      count_same (is_mended rows f) (is_mended rows g) rows 0
      (λ i low. ap₂ (λ (b : Bool) (o : Option (List ℕ)). b && is_some o) (lacks_same rows f g (0 + i) (λ j l. same (j * rows + (0 + i)))) (row_same rows f g (0 + i) (λ j l. same (j * rows + (0 + i)))))

  pub left_same : count_by (is_left rows f) (range_with_len 0 rows) ≡ left_rows rows g
  left_same =
      count_same (is_left rows f) (is_left rows g) rows 0
      (λ i low. ap₂ (λ (b : Bool) (o : Option (List ℕ)). b && is_none o) (lacks_same rows f g (0 + i) (λ j l. same (j * rows + (0 + i)))) (row_same rows f g (0 + i) (λ j l. same (j * rows + (0 + i)))))

module _ (rows : ℕ) (bytes marks new mid_marks : List ℕ) (mended left : ℕ) (solved : AreRowsSolved rows 0 rows bytes marks new mid_marks mended left) (state : State)
    (sections : List FrameSection) (stands : IsOf rows bytes marks state sections) where
  pub solved_is : 0 < rows → (new_marks : List ℕ) → ((place : ℕ) → is_known_mark (get_or new_marks place 0) ≡ is_known_mark (get_or mid_marks place 0))
      → (AreEdgesMarked rows mid_marks (data_of sections) → AreStartsMarked rows new new_marks (data_of sections))
      → (now : State) → now.empty ≡ state.empty → IsSolved (record { rows = rows; bytes = new; marks = new_marks; state = now }) sections
  solved_is some new_marks known marked now empty = record {
    byte = λ place below.
        let at : place / rows * rows + place % rows ≡ place = div-add-mod' place rows in
        marked_same new new_marks mid_marks known place
        ∙ ap (marked_byte new mid_marks) (sym at)
        ∙ solved.row (place / rows) (place % rows) (div_below place rows 191 some below) (omega arith) (mod_below place rows some)
        ∙ ap (corrected_byte rows (marked_byte bytes marks)) at
        ∙ byte_same rows (marked_byte bytes marks) (known_byte rows sections) stands.byte place;
    starts = marked (edges_same rows marks mid_marks (data_of sections) solved.start stands.starts);
    empty = stands.empty ∙ sym empty;
  }

  pub mended_is : mended ≡ mended_rows rows (known_byte rows sections)
  mended_is = let e : 0 + rows ≡ rows = omega arith in solved.mended_are rows e ∙ mended_same rows (marked_byte bytes marks) (known_byte rows sections) stands.byte

  pub left_is : left ≡ left_rows rows (known_byte rows sections)
  left_is = let e : 0 + rows ≡ rows = omega arith in solved.left_are rows e ∙ left_same rows (marked_byte bytes marks) (known_byte rows sections) stands.byte

-- whether a place is known
pub some_is : (bytes marks : List ℕ) (place : ℕ) → is_some (marked_byte bytes marks place) ≡ is_known_mark (get_or marks place 0)
unfolding marked_byte
some_is bytes marks place = by (is_known_mark (get_or marks place 0))
  where
    by : (b : Bool) → is_some (cond b (Some (get_or bytes place 0)) None) ≡ b
    by true = refl
    by false = refl
