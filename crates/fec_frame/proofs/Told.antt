-- What a state tells of the bytes of its table, as sections come in.
use Rattle.std.proofs.Common.{◌≡◌, ◌⊎◌, inl, inr, ℕ, ◌+◌, ◌-◌, ◌*◌, ◌<◌, ◌≤◌, Bool, true, false, ◌&&◌, cond, List, get_or, Option, Some, None, refl, ap, ap₂, sym, ◌∙◌, arith}
use Rattle.std.specs.Prelude.{is_some}
use Rattle.std.proofs.lemmas.Bool.{cases_Bool, cases_lt}
use Rattle.section_spec.specs.Mpe.{MpeFields, FecFields}
use Rattle.fec_frame_spec.specs.Sections.{data_section, parity_section, data_end}
use Rattle.fec_frame_spec.specs.Known.{is_in, told_byte, first_told}
use Rattle.fec_frame.specs.Marks.{is_known_mark, marked_byte, IsRun}
use Rattle.fec_frame.specs.declared.place.State.{State}
use Rattle.fec_frame.specs.Stands.{TakesIn, TellsKnown}
use Rattle.fec_frame.proofs.Filling.{is_in-before, is_in-after, is_in-inside}
use Rattle.fec_frame.proofs.Placing.{marked_same}
use Rattle.fec_frame.proofs.Ended.{some_is}

-- nothing
pub none_known : (rows : ℕ) (bytes marks : List ℕ) (state : State) → state.known_to ≡ 0 → state.zeros_from ≡ 191 * rows → TellsKnown rows bytes marks state
none_known rows bytes marks state known zeros = record {
  most = omega (arith, zeros);
  known = λ place below. absurd (omega (arith, below, known));
  zeros = λ place from below. absurd (omega (arith, from, below, zeros));
}

-- the same of marks that know the same bytes
pub told_same : (rows : ℕ) (bytes a b : List ℕ) (state : State) → ((place : ℕ) → is_known_mark (get_or b place 0) ≡ is_known_mark (get_or a place 0))
    → TellsKnown rows bytes a state → TellsKnown rows bytes b state
told_same rows bytes a b state same told = record {
  most = told.most;
  known = λ place below. same place ∙ told.known place below;
  zeros = λ place from below. marked_same bytes b a same place ∙ told.zeros place from below;
}

-- all known bytes are a run
pub told_run : (rows : ℕ) (bytes marks : List ℕ) (state : State) → TellsKnown rows bytes marks state → state.zeros_from ≤ state.known_to → (place : ℕ) → place < 191 * rows
    → is_known_mark (get_or marks place 0) ≡ true
told_run rows bytes marks state told order place below = by_order (cases_lt place state.known_to)
  where
    by_order : (place < state.known_to) ⊎ (state.known_to ≤ place) → is_known_mark (get_or marks place 0) ≡ true
    by_order (inl low) = told.known place low
    by_order (inr over) = sym (some_is bytes marks place) ∙ ap (λ (o : Option ℕ). is_some o) (told.zeros place (omega (arith, order, over)) below)

pub whole_run : (rows : ℕ) (bytes marks : List ℕ) (state : State) → TellsKnown rows bytes marks state → state.zeros_from ≤ state.known_to → IsRun marks (191 * rows) 0 (191 * rows)
whole_run rows bytes marks state told order = record {
  order = omega arith;
  within = omega arith;
  known = λ place from below. told_run rows bytes marks state told order place below;
  over = λ below. absurd (omega (arith, below));
}

-- Sections come in.

some_kept : (told before : Option ℕ) → is_some before ≡ true → is_some (first_told told before) ≡ true
some_kept None before some = some
some_kept (Some byte) before some = refl

some_told : (inside : Bool) (byte : ℕ) (rest before : Option ℕ) → inside ≡ true → is_some (first_told (cond inside (Some byte) rest) before) ≡ true
some_told true byte rest before is = refl
some_told false byte rest before is = absurd (cc)

-- zeros are told, or stood there
zero_told : (own zeros : Bool) (byte : ℕ) (before : Option ℕ) → own ≡ false → (zeros ≡ true) ⊎ (before ≡ Some 0)
    → first_told (cond own (Some byte) (cond zeros (Some 0) None)) before ≡ Some 0
zero_told true zeros byte before none side = absurd (cc)
zero_told false true byte before none side = refl
zero_told false false byte before none (inl is) = absurd (cc)
zero_told false false byte before none (inr stood) = stood

module _ (rows : ℕ) (old old_marks new new_marks : List ℕ) (state now : State) (told : TellsKnown rows old old_marks state) where
  kept_known : (place : ℕ) (byte : Option ℕ) → marked_byte new new_marks place ≡ first_told byte (marked_byte old old_marks place) → place < state.known_to
      → is_known_mark (get_or new_marks place 0) ≡ true
  kept_known place byte is low =
      sym (some_is new new_marks place) ∙ ap (λ (o : Option ℕ). is_some o) is
      ∙ some_kept byte (marked_byte old old_marks place) (some_is old old_marks place ∙ told.known place low)

  pub data_told : (m : MpeFields) → TakesIn rows (data_section m) old old_marks new new_marks → data_end m ≤ 191 * rows
      → ((place : ℕ) → place < now.known_to → (place < state.known_to) ⊎ ((m.real_time.address ≤ place) × (place < data_end m)))
      → now.zeros_from ≡ cond m.real_time.table_boundary (data_end m) (191 * rows) → TellsKnown rows new new_marks now
  data_told m taken within known zeros_is = record {
    most = by_most (cases_Bool m.real_time.table_boundary);
    known = λ place below. by_known place (known place below);
    zeros = λ place from below. by_end place from below (cases_Bool m.real_time.table_boundary);
  }
    where
      from_is : (b : Bool) → m.real_time.table_boundary ≡ b → now.zeros_from ≡ cond b (data_end m) (191 * rows)
      from_is b is = zeros_is ∙ ap (λ (t : Bool). cond t (data_end m) (191 * rows)) is

      by_most : (m.real_time.table_boundary ≡ true) ⊎ (m.real_time.table_boundary ≡ false) → now.zeros_from ≤ 191 * rows
      by_most (inl is) = let e : now.zeros_from ≡ data_end m = from_is true is in omega (arith, e, within)
      by_most (inr is) = let e : now.zeros_from ≡ 191 * rows = from_is false is in omega (arith, e)

      by_known : (place : ℕ) → (place < state.known_to) ⊎ ((m.real_time.address ≤ place) × (place < data_end m)) → is_known_mark (get_or new_marks place 0) ≡ true
      by_known place (inl low) = kept_known place (told_byte rows (data_section m) place) (taken.byte place) low
      by_known place (inr inside) =
          sym (some_is new new_marks place) ∙ ap (λ (o : Option ℕ). is_some o) (taken.byte place)
          ∙ some_told (is_in m.real_time.address (data_end m) place) (get_or m.datagram (place - m.real_time.address) 0)
          (cond (m.real_time.table_boundary && is_in (data_end m) (191 * rows) place) (Some 0) None) (marked_byte old old_marks place)
          (is_in-inside m.real_time.address (data_end m) place inside.0 inside.1)

      by_end : (place : ℕ) → now.zeros_from ≤ place → place < 191 * rows → (m.real_time.table_boundary ≡ true) ⊎ (m.real_time.table_boundary ≡ false) → marked_byte new new_marks place ≡ Some 0
      by_end place from below (inl is) =
          let e : now.zeros_from ≡ data_end m = from_is true is in
          taken.byte place
          ∙ zero_told (is_in m.real_time.address (data_end m) place) (m.real_time.table_boundary && is_in (data_end m) (191 * rows) place) (get_or m.datagram (place - m.real_time.address) 0)
          (marked_byte old old_marks place) (is_in-after m.real_time.address (data_end m) place (omega (arith, e, from)))
          (inl (ap₂ (λ (a b : Bool). a && b) is (is_in-inside (data_end m) (191 * rows) place (omega (arith, e, from)) below)))
      by_end place from below (inr is) = let e : now.zeros_from ≡ 191 * rows = from_is false is in absurd (omega (arith, e, from, below))

  pub parity_told : (f : FecFields) → TakesIn rows (parity_section f) old old_marks new new_marks → now.known_to ≡ state.known_to → now.zeros_from ≤ state.zeros_from
      → ((place : ℕ) → now.zeros_from ≤ place → (state.zeros_from ≤ place) ⊎ ((191 - f.padding) * rows ≤ place)) → TellsKnown rows new new_marks now
  parity_told f taken known most zeros = record {
    most = omega (arith, most, told.most);
    known = λ place below. kept_known place (told_byte rows (parity_section f) place) (taken.byte place) (omega (arith, below, known));
    zeros = λ place from below.
        taken.byte place
        ∙ zero_told (is_in (191 * rows + f.number * rows) (191 * rows + f.number * rows + rows) place) (is_in ((191 - f.padding) * rows) (191 * rows) place)
        (get_or f.column (place - (191 * rows + f.number * rows)) 0) (marked_byte old old_marks place)
        (is_in-before (191 * rows + f.number * rows) (191 * rows + f.number * rows + rows) place (omega (arith, below)))
        (by_side place below (zeros place from));
  }
    where
      by_side : (place : ℕ) → place < 191 * rows → (state.zeros_from ≤ place) ⊎ ((191 - f.padding) * rows ≤ place)
          → (is_in ((191 - f.padding) * rows) (191 * rows) place ≡ true) ⊎ (marked_byte old old_marks place ≡ Some 0)
      by_side place below (inl stood) = inr (told.zeros place stood below)
      by_side place below (inr first) = inl (is_in-inside ((191 - f.padding) * rows) (191 * rows) place first below)
