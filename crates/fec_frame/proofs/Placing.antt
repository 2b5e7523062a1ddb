-- What placing a section does.
use Rattle.std.proofs.Common.{◌≡◌, ◌⊎◌, inl, inr, ℕ, ◌+◌, ◌-◌, ◌*◌, ◌<◌, ◌≤◌, Bool, true, false, ◌&&◌, cond, ltb, List, [], ◌∷◌, ◌++◌, length, get_or, set, Option, Some, None, refl, ap, ap₂, sym, ◌∙◌, subst, arith, length-set, append-nil, length-append}
use Rattle.std.specs.Prelude.{Contains, is_some}
use Rattle.std.proofs.lemmas.Bool.{cases_eq, cases_lt, ne_eqb}
use Rattle.std.proofs.lemmas.List.{get_or-set_same, get_or-set_other, get_or_past}
use Rattle.std.proofs.lemmas.List.Elements.{Contains-append_left, Contains-push, Contains-push_cases}
use Rattle.std.proofs.lemmas.List.Concat.{flat_map-append}
use Rattle.section_spec.specs.Mpe.{MpeFields, FecFields}
use Rattle.fec_frame_spec.specs.Sections.{FrameSection, data_section, parity_section, data_end, data_part, data_of}
use Rattle.fec_frame_spec.specs.Known.{is_in, told_byte, first_told}
use Rattle.fec_frame_spec.specs.Starts.{IsSectionEdge}
use Rattle.fec_frame_law.specs.Summary.{Summary, summary_more, is_apart, is_cut_by_summary, IsSummaryOf}
use Rattle.fec_frame_law.proofs.Known.{known_more}
use Rattle.fec_frame_law.proofs.Summary.{cut_by_summary, summary_next, summary_none}
use Rattle.fec_frame.specs.Marks.{is_known_mark, is_start_mark, marked_byte, AreEdgesMarked, IsStartSet}
use Rattle.fec_frame.proofs.Marking.{known_set}
use Rattle.fec_frame.specs.declared.place.State.{State}
use Rattle.fec_frame.specs.Filled.{IsFilled}
use Rattle.fec_frame.specs.Stands.{IsOf, TakesIn, IsSameSummary, summary_of}

pub start_set : (marks : List ℕ) (at mark : ℕ) → at < length marks → is_start_mark mark ≡ true → is_known_mark mark ≡ is_known_mark (get_or marks at 0) → IsStartSet marks (set marks at mark) at
start_set marks at mark below start known = record {
  long = length-set marks at mark;
  known = known_set marks at mark below known;
  here = ap is_start_mark (get_or-set_same marks at mark 0 below) ∙ start;
  elsewhere = λ place other. ap is_start_mark (get_or-set_other marks at place mark 0 other);
}

pub marked_same : (bytes a b : List ℕ) → ((place : ℕ) → is_known_mark (get_or a place 0) ≡ is_known_mark (get_or b place 0)) → (place : ℕ) → marked_byte bytes a place ≡ marked_byte bytes b place
unfolding marked_byte
marked_same bytes a b same place = ap (λ (t : Bool). cond t (Some (get_or bytes place 0)) None) (same place)

-- the bytes of a datagram, zeros after it, or what was there
told_else : (own zeros : Bool) (byte : ℕ) (before : Option ℕ) → cond own (Some byte) (cond zeros (Some 0) before) ≡ first_told (cond own (Some byte) (cond zeros (Some 0) None)) before
told_else true zeros byte before = refl
told_else false true byte before = refl
told_else false false byte before = refl

-- starts that were marked, and two more
edges_more : (rows : ℕ) (old new : List ℕ) (sections : List MpeFields) (m : MpeFields)
    → ((place : ℕ) → is_start_mark (get_or old place 0) ≡ true → is_start_mark (get_or new place 0) ≡ true)
    → is_start_mark (get_or new m.real_time.address 0) ≡ true → is_start_mark (get_or new (data_end m) 0) ≡ true
    → ((place : ℕ) → is_start_mark (get_or new place 0) ≡ true → (is_start_mark (get_or old place 0) ≡ true) ⊎ ((place ≡ m.real_time.address) ⊎ (place ≡ data_end m)))
    → AreEdgesMarked rows old sections → AreEdgesMarked rows new (sections ++ m ∷ [])
edges_more rows old new sections m kept first last only edges = record {
  marked = λ place below is. by_edge place below is;
  edge = λ place below is. by_mark place below (only place is);
}
  where
    by_edge : (place : ℕ) → place < 191 * rows → (place ≡ 0) ⊎ IsSectionEdge (sections ++ m ∷ []) place → is_start_mark (get_or new place 0) ≡ true
    by_edge place below (inl is) = kept place (edges.marked place below (inl is))
    by_edge place below (inr edge) = by_section (Contains-push_cases sections m edge.0 edge.1) edge.2
      where
        by_section : Contains sections edge.0 ⊎ (m ≡ edge.0) → (place ≡ (edge.0).real_time.address) ⊎ (place ≡ data_end edge.0) → is_start_mark (get_or new place 0) ≡ true
        by_section (inl there) side = kept place (edges.marked place below (inr (edge.0, there, side)))
        by_section (inr same) (inl start) =
            ap (λ (p : ℕ). is_start_mark (get_or new p 0)) (start ∙ ap (λ (t : MpeFields). t.real_time.address) (sym same)) ∙ first
        by_section (inr same) (inr end) = ap (λ (p : ℕ). is_start_mark (get_or new p 0)) (end ∙ ap (λ (t : MpeFields). data_end t) (sym same)) ∙ last

    by_mark : (place : ℕ) → place < 191 * rows → (is_start_mark (get_or old place 0) ≡ true) ⊎ ((place ≡ m.real_time.address) ⊎ (place ≡ data_end m))
        → (place ≡ 0) ⊎ IsSectionEdge (sections ++ m ∷ []) place
    by_mark place below (inl before) = by_old (edges.edge place below before)
      where
        by_old : (place ≡ 0) ⊎ IsSectionEdge sections place → (place ≡ 0) ⊎ IsSectionEdge (sections ++ m ∷ []) place
        by_old (inl is) = inl is
        by_old (inr edge) = inr (edge.0, Contains-append_left sections (m ∷ []) edge.0 edge.1, edge.2)
    by_mark place below (inr side) = inr (m, Contains-push sections m, side)

-- zeros, a datagram and two starts
pub data_taken : (rows : ℕ) (old old_marks mid mid_marks new new_marks first last : List ℕ) (m : MpeFields)
    → length mid ≡ length old → length mid_marks ≡ length old_marks
    → ((place : ℕ) → marked_byte mid mid_marks place ≡ cond (m.real_time.table_boundary && is_in (data_end m) (191 * rows) place) (Some 0) (marked_byte old old_marks place))
    → ((place : ℕ) → is_start_mark (get_or mid_marks place 0) ≡ is_start_mark (get_or old_marks place 0))
    → IsFilled mid mid_marks new new_marks m.real_time.address (data_end m) (λ (place : ℕ). get_or m.datagram (place - m.real_time.address) 0)
    → IsStartSet new_marks first m.real_time.address → IsStartSet first last (data_end m)
    → TakesIn rows (data_section m) old old_marks new last
data_taken rows old old_marks mid mid_marks new new_marks first last m long marks_long zeros stays filled set_first set_last = record {
  long = filled.long ∙ long;
  marks_long = set_last.long ∙ set_first.long ∙ filled.marks_long ∙ marks_long;
  byte = λ place.
      marked_same new last new_marks (λ p. set_last.known p ∙ set_first.known p) place
      ∙ filled.byte place
      ∙ ap (λ (o : Option ℕ). cond (is_in m.real_time.address (data_end m) place) (Some (get_or m.datagram (place - m.real_time.address) 0)) o) (zeros place)
      ∙ told_else (is_in m.real_time.address (data_end m) place) (m.real_time.table_boundary && is_in (data_end m) (191 * rows) place)
      (get_or m.datagram (place - m.real_time.address) 0) (marked_byte old old_marks place);
  starts = λ sections edges.
      edges_more rows old_marks last sections m
      (λ place is. kept_last place (kept_first place (filled.start place ∙ stays place ∙ is)))
      (kept_last m.real_time.address set_first.here) set_last.here only edges;
}
  where
    kept_first : (place : ℕ) → is_start_mark (get_or new_marks place 0) ≡ true → is_start_mark (get_or first place 0) ≡ true
    kept_first place is = by_place (cases_eq place m.real_time.address)
      where
        by_place : (place ≡ m.real_time.address) ⊎ (place ≡ m.real_time.address → ⊥) → is_start_mark (get_or first place 0) ≡ true
        by_place (inl same) = ap (λ (p : ℕ). is_start_mark (get_or first p 0)) same ∙ set_first.here
        by_place (inr other) = set_first.elsewhere place other ∙ is

    kept_last : (place : ℕ) → is_start_mark (get_or first place 0) ≡ true → is_start_mark (get_or last place 0) ≡ true
    kept_last place is = by_place (cases_eq place (data_end m))
      where
        by_place : (place ≡ data_end m) ⊎ (place ≡ data_end m → ⊥) → is_start_mark (get_or last place 0) ≡ true
        by_place (inl same) = ap (λ (p : ℕ). is_start_mark (get_or last p 0)) same ∙ set_last.here
        by_place (inr other) = set_last.elsewhere place other ∙ is

    only : (place : ℕ) → is_start_mark (get_or last place 0) ≡ true → (is_start_mark (get_or old_marks place 0) ≡ true) ⊎ ((place ≡ m.real_time.address) ⊎ (place ≡ data_end m))
    only place is = by_last (cases_eq place (data_end m)) (cases_eq place m.real_time.address)
      where
        by_last : (place ≡ data_end m) ⊎ (place ≡ data_end m → ⊥) → (place ≡ m.real_time.address) ⊎ (place ≡ m.real_time.address → ⊥)
            → (is_start_mark (get_or old_marks place 0) ≡ true) ⊎ ((place ≡ m.real_time.address) ⊎ (place ≡ data_end m))
        by_last (inl same) side = inr (inr same)
        by_last (inr other) (inl same) = inr (inl same)
        by_last (inr other) (inr apart) =
            inl (sym (stays place) ∙ sym (filled.start place) ∙ sym (set_first.elsewhere place apart) ∙ sym (set_last.elsewhere place other) ∙ is)

-- a summary that tells the same
pub summary_same : (group : List FrameSection) (s t : Summary) → IsSummaryOf group s → IsSameSummary s t → IsSummaryOf group t
summary_same group s t is same = record {
  frame_ended = is.frame_ended ∙ same.frame_ended;
  table_ended = is.table_ended ∙ same.table_ended;
  end_is = is.end_is ∙ same.end_is;
  ends = λ place. is.ends place ∙ ap (λ (n : ℕ). ltb place n) same.covered_is;
  covered_most = omega (arith, is.covered_most, same.covered_is, same.end_is);
  column_some = is.column_some ∙ same.column_some;
  apart = λ f. is.apart f ∙ same.apart f;
}

pub same_summary : (s t : Summary) → s ≡ t → IsSameSummary s t
same_summary s t e = record {
  frame_ended = ap (λ (u : Summary). u.frame_ended) e;
  table_ended = ap (λ (u : Summary). u.table_ended) e;
  end_is = ap (λ (u : Summary). u.end) e;
  covered_is = ap (λ (u : Summary). u.covered) e;
  column_some = ap (λ (u : Summary). is_some u.column) e;
  apart = λ f. ap (λ (u : Summary). is_apart u.column f) e;
}

-- a table with a section more
pub stands_more : (rows : ℕ) (old old_marks new new_marks : List ℕ) (state now : State) (sections : List FrameSection) (section : FrameSection)
    → IsOf rows old old_marks state sections → is_cut_by_summary rows (summary_of state) section ≡ false → TakesIn rows section old old_marks new new_marks
    → IsSameSummary (summary_more (summary_of state) section) (summary_of now) → now.empty ≡ false
    → IsOf rows new new_marks now (sections ++ section ∷ [])
stands_more rows old old_marks new new_marks state now sections section stands uncut taken summary some = record {
  byte = λ place.
      taken.byte place ∙ ap (λ (o : Option ℕ). first_told (told_byte rows section place) o) (stands.byte place) ∙ sym (known_more rows sections section place);
  starts = subst (λ (l : List MpeFields). AreEdgesMarked rows new_marks l) (sym data_more) (taken.starts (data_of sections) stands.starts);
  summary = summary_same (sections ++ section ∷ []) (summary_more (summary_of state) section) (summary_of now)
      (summary_next rows sections (summary_of state) section stands.summary (cut_by_summary rows sections (summary_of state) stands.summary section ∙ uncut)) summary;
  empty = ne_eqb (length (sections ++ section ∷ [])) 0 (λ none. omega (arith, none, length-append sections (section ∷ []))) ∙ sym some;
}
  where
    data_more : data_of (sections ++ section ∷ []) ≡ data_of sections ++ data_part section
    data_more = flat_map-append data_part sections (section ∷ []) ∙ ap (λ (l : List MpeFields). data_of sections ++ l) (append-nil (data_part section))

-- zeros and a column
pub column_taken : (rows : ℕ) (old old_marks mid mid_marks new new_marks : List ℕ) (f : FecFields) (first begin end : ℕ)
    → first ≡ (191 - f.padding) * rows → begin ≡ 191 * rows + f.number * rows → end ≡ 191 * rows + f.number * rows + rows
    → IsFilled old old_marks mid mid_marks first (191 * rows) (λ (place : ℕ). 0)
    → IsFilled mid mid_marks new new_marks begin end (λ (place : ℕ). get_or f.column (place - begin) 0)
    → TakesIn rows (parity_section f) old old_marks new new_marks
column_taken rows old old_marks mid mid_marks new new_marks f first begin end first_is begin_is end_is zeros filled = record {
  long = filled.long ∙ zeros.long;
  marks_long = filled.marks_long ∙ zeros.marks_long;
  byte = λ place.
      filled.byte place
      ∙ ap (λ (o : Option ℕ). cond (is_in begin end place) (Some (get_or f.column (place - begin) 0)) o) (zeros.byte place)
      ∙ ap₂ (λ (b e : ℕ). cond (is_in b e place) (Some (get_or f.column (place - b) 0)) (cond (is_in first (191 * rows) place) (Some 0) (marked_byte old old_marks place))) begin_is end_is
      ∙ ap (λ (z : ℕ). cond (is_in (191 * rows + f.number * rows) (191 * rows + f.number * rows + rows) place) (Some (get_or f.column (place - (191 * rows + f.number * rows)) 0))
      (cond (is_in z (191 * rows) place) (Some 0) (marked_byte old old_marks place))) first_is
      ∙ told_else (is_in (191 * rows + f.number * rows) (191 * rows + f.number * rows + rows) place) (is_in ((191 - f.padding) * rows) (191 * rows) place)
      (get_or f.column (place - (191 * rows + f.number * rows)) 0) (marked_byte old old_marks place);
  starts = λ sections edges. record {
    marked = λ place below is. filled.start place ∙ zeros.start place ∙ edges.marked place below (subst (λ (l : List MpeFields). (place ≡ 0) ⊎ IsSectionEdge l place) (append-nil sections) is);
    edge = λ place below is.
        subst (λ (l : List MpeFields). (place ≡ 0) ⊎ IsSectionEdge l place) (sym (append-nil sections))
        (edges.edge place below (sym (zeros.start place) ∙ sym (filled.start place) ∙ is));
  };
}

-- A table without sections.

pub zero_more : (marks : List ℕ) (n : ℕ) → n < length marks → ((place : ℕ) → place < n → ◌≡◌ {A = ℕ} (get_or marks place 0) 0) → (place : ℕ) → place < n + 1 → ◌≡◌ {A = ℕ} (get_or (set marks n 0) place 0) 0
zero_more marks n inside so_far place below = by_place (cases_eq place n)
  where
    by_place : (place ≡ n) ⊎ (place ≡ n → ⊥) → ◌≡◌ {A = ℕ} (get_or (set marks n 0) place 0) 0
    by_place (inl same) = ap (λ (p : ℕ). get_or (set marks n 0) p 0) same ∙ get_or-set_same marks n 0 0 inside
    by_place (inr apart) = get_or-set_other marks n place 0 0 apart ∙ so_far place (omega (arith, below, apart))

pub zero_all : (marks : List ℕ) (n : ℕ) → length marks ≤ n → ((place : ℕ) → place < n → ◌≡◌ {A = ℕ} (get_or marks place 0) 0) → (place : ℕ) → ◌≡◌ {A = ℕ} (get_or marks place 0) 0
zero_all marks n all so_far place = by_order (cases_lt place n)
  where
    by_order : (place < n) ⊎ (n ≤ place) → ◌≡◌ {A = ℕ} (get_or marks place 0) 0
    by_order (inl below) = so_far place below
    by_order (inr over) = get_or_past marks place 0 (omega (arith, all, over))

unknown_byte : (bytes marks : List ℕ) (place : ℕ) → is_known_mark (get_or marks place 0) ≡ false → marked_byte bytes marks place ≡ None
unfolding marked_byte
unknown_byte bytes marks place unknown = ap (λ (t : Bool). cond t (Some (get_or bytes place 0)) None) unknown

both_tests : {X : Type 0} → true ≡ false → X
both_tests e = absurd (cc)

pub begun : (rows : ℕ) (bytes marks : List ℕ) (mark zeros_from : ℕ) → 0 < length marks → ((place : ℕ) → ◌≡◌ {A = ℕ} (get_or marks place 0) 0) → is_start_mark mark ≡ true → is_known_mark mark ≡ is_known_mark 0
    → IsOf rows bytes (set marks 0 mark) (record { empty = true; frame_ended = false; table_ended = false; end = 0; covered = 0; column = None; known_to = 0; zeros_from = zeros_from }) []
begun rows bytes marks mark zeros_from some zeros start known = record {
  byte = λ place. unknown_byte bytes (set marks 0 mark) place (by_known place (cases_eq place 0));
  starts = record { marked = λ place below is. by_edge place is; edge = λ place below is. by_start place is (cases_eq place 0) };
  summary = summary_none;
  empty = refl;
}
  where
    by_known : (place : ℕ) → (place ≡ 0) ⊎ (place ≡ 0 → ⊥) → is_known_mark (get_or (set marks 0 mark) place 0) ≡ false
    by_known place (inl same) = ap (λ (p : ℕ). is_known_mark (get_or (set marks 0 mark) p 0)) same ∙ ap is_known_mark (get_or-set_same marks 0 mark 0 some) ∙ known
    by_known place (inr apart) = ap is_known_mark (get_or-set_other marks 0 place mark 0 apart) ∙ ap is_known_mark (zeros place)

    by_edge : (place : ℕ) → (place ≡ 0) ⊎ IsSectionEdge [] place → is_start_mark (get_or (set marks 0 mark) place 0) ≡ true
    by_edge place (inl same) = ap (λ (p : ℕ). is_start_mark (get_or (set marks 0 mark) p 0)) same ∙ ap is_start_mark (get_or-set_same marks 0 mark 0 some) ∙ start
    by_edge place (inr edge) = absurd (omega (arith, (edge.1).1))

    by_start : (place : ℕ) → is_start_mark (get_or (set marks 0 mark) place 0) ≡ true → (place ≡ 0) ⊎ (place ≡ 0 → ⊥) → (place ≡ 0) ⊎ IsSectionEdge [] place
    by_start place is (inl same) = inl same
    by_start place is (inr apart) = both_tests (sym is ∙ ap is_start_mark (get_or-set_other marks 0 place mark 0 apart) ∙ ap is_start_mark (zeros place))

pub edges_same : (rows : ℕ) (old new : List ℕ) (sections : List MpeFields) → ((place : ℕ) → is_start_mark (get_or new place 0) ≡ is_start_mark (get_or old place 0))
    → AreEdgesMarked rows old sections → AreEdgesMarked rows new sections
edges_same rows old new sections same edges = record {
  marked = λ place below is. same place ∙ edges.marked place below is;
  edge = λ place below is. edges.edge place below (sym (same place) ∙ is);
}
