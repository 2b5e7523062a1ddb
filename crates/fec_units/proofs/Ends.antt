-- Where units end, by their sizes.
use Rattle.std.proofs.Common.{◌≡◌, ℕ, zero, suc, ◌+◌, ◌-◌, ◌%◌, ◌≤◌, List, [], ◌∷◌, ◌++◌, take, drop, length, get_or, refl, sym, ap, ap₂, subst, ◌∙◌, arith, append_assoc}
use Rattle.std.proofs.lemmas.List.{length-append, take_at, drop_at, map-append}
use Rattle.wire_spec.specs.Lists.{joined}
use Rattle.unit_stream.specs.Packers.{AreRising, AreEnds, between, units_from, units_of}
use Rattle.stream_spec.specs.Units.{units_of_frame, units_of_frames}
use Rattle.fec_units.specs.Ends.{AreUnitEnds, after_sizes, ends_of_sizes}
use Rattle.fec_units.specs.Packets.{column_sizes, data_sizes}
use Rattle.fec_units.specs.Parts.{part_of}
use Rattle.fec_units.proofs.Counted.{AreSome, sizes_of}
use Rattle.fec_units.proofs.Timed.{some_columns, some_data, unit_sizes}

-- One unit more.

pub ends_append : (at : ℕ) (a b : List ℕ) → ends_of_sizes at (a ++ b) ≡ ends_of_sizes at a ++ ends_of_sizes (after_sizes at a) b
ends_append at [] b = refl
ends_append at (size ∷ a) b = ap (λ (l : List ℕ). (at + size) ∷ l) (ends_append (at + size) a b)

pub after_append : (at : ℕ) (a b : List ℕ) → after_sizes at (a ++ b) ≡ after_sizes (after_sizes at a) b
after_append at [] b = refl
after_append at (size ∷ a) b = after_append (at + size) a b

module _ (old ends new : List ℕ) (start at end : ℕ) (sizes more : List ℕ) (size : ℕ) (more_is : more ≡ sizes ++ size ∷ []) (at_is : at ≡ after_sizes start sizes) (end_is : end ≡ at + size) where
  pub after_more : end ≡ after_sizes start more
  after_more = end_is ∙ ap (λ (n : ℕ). n + size) at_is ∙ sym (ap (after_sizes start) more_is ∙ after_append start sizes (size ∷ []))

  pub put_more : ends ≡ old ++ ends_of_sizes start sizes → new ≡ ends ++ end ∷ [] → new ≡ old ++ ends_of_sizes start more
  put_more so_far put =
      put
      ∙ ap₂ (λ (l : List ℕ) (n : ℕ). l ++ n ∷ []) so_far (end_is ∙ ap (λ (n : ℕ). n + size) at_is)
      ∙ append_assoc old (ends_of_sizes start sizes) ((after_sizes start sizes + size) ∷ [])
      ∙ ap (λ (l : List ℕ). old ++ l) (sym (ap (ends_of_sizes start) more_is ∙ ends_append start sizes (size ∷ [])))

pub data_more : (from end : ℕ) (list : List (List ℕ)) (d : List ℕ) → part_of from (end + 1) list ≡ part_of from end list ++ d ∷ []
    → data_sizes (part_of from (end + 1) list) ≡ data_sizes (part_of from end list) ++ (length d + 16) ∷ []
data_more from end list d more =
    ap data_sizes more ∙ map-append (λ (x : List ℕ). length x + 16) (part_of from end list) (d ∷ [])

pub column_more : (rows n : ℕ) → column_sizes rows (n + 1) ≡ column_sizes rows n ++ (rows + 16) ∷ []
column_more rows zero = refl
column_more rows (suc n) =
    let next : suc n + 1 ≡ suc (n + 1) = omega arith in
    ap (column_sizes rows) next ∙ ap (λ (l : List ℕ). (rows + 16) ∷ l) (column_more rows n)

-- The units of frames.

abbrev pub sizes_of_frames : ℕ → ℕ → List (List (List ℕ)) → List ℕ
sizes_of_frames rows columns [] = []
sizes_of_frames rows columns (frame ∷ frames) = (data_sizes frame ++ column_sizes rows columns) ++ sizes_of_frames rows columns frames

sizes_append : (a b : List (List ℕ)) → sizes_of (a ++ b) ≡ sizes_of a ++ sizes_of b
sizes_append a b = map-append (λ (u : List ℕ). length u) a b

pub sizes_are : (rows columns : ℕ) (unicast : List ℕ) (number : ℕ) (frames : List (List (List ℕ))) → columns ≤ 64
    → sizes_of (units_of_frames rows columns unicast number frames) ≡ sizes_of_frames rows columns frames
sizes_are rows columns unicast number [] few = refl
sizes_are rows columns unicast number (frame ∷ frames) few =
    sizes_append (units_of_frame rows columns unicast number frame) (units_of_frames rows columns unicast (number + 1) frames)
    ∙ ap₂ (λ (a b : List ℕ). a ++ b) (unit_sizes rows columns unicast frame (λ (i : ℕ). number % 4096) few) (sizes_are rows columns unicast (number + 1) frames few)

some_both : (a b : List ℕ) → AreSome a → AreSome b → AreSome (a ++ b)
some_both [] b some others = others
some_both (size ∷ a) b some others = (some.0, some_both a b some.1 others)

pub some_frames : (rows columns : ℕ) (frames : List (List (List ℕ))) → AreSome (sizes_of_frames rows columns frames)
some_frames rows columns [] = tt
some_frames rows columns (frame ∷ frames) =
    some_both (data_sizes frame ++ column_sizes rows columns) (sizes_of_frames rows columns frames)
    (some_data frame (column_sizes rows columns) (some_columns rows columns)) (some_frames rows columns frames)

-- one frame more
pub frame_ends : (rows columns : ℕ) (old ends new all : List ℕ) (at middle end : ℕ) (frame : List (List ℕ)) (left later : List (List (List ℕ)))
    → left ≡ frame ∷ later → old ++ ends_of_sizes at (sizes_of_frames rows columns left) ≡ all
    → ends ≡ old ++ ends_of_sizes at (data_sizes frame) → middle ≡ after_sizes at (data_sizes frame)
    → new ≡ ends ++ ends_of_sizes middle (column_sizes rows columns) → end ≡ after_sizes middle (column_sizes rows columns)
    → new ++ ends_of_sizes end (sizes_of_frames rows columns later) ≡ all
frame_ends rows columns old ends new all at middle end frame left later is so_far put middle_is put2 end_is =
    let own : List ℕ = data_sizes frame ++ column_sizes rows columns in
    let rest : List ℕ = sizes_of_frames rows columns later in
    let own_ends : new ≡ old ++ ends_of_sizes at own
    = put2
    ∙ ap₂ (λ (l : List ℕ) (n : ℕ). l ++ ends_of_sizes n (column_sizes rows columns)) put middle_is
    ∙ append_assoc old (ends_of_sizes at (data_sizes frame)) (ends_of_sizes (after_sizes at (data_sizes frame)) (column_sizes rows columns))
    ∙ ap (λ (l : List ℕ). old ++ l) (sym (ends_append at (data_sizes frame) (column_sizes rows columns))) in
    let own_end : end ≡ after_sizes at own
    = end_is ∙ ap (λ (n : ℕ). after_sizes n (column_sizes rows columns)) middle_is ∙ sym (after_append at (data_sizes frame) (column_sizes rows columns)) in
    ap₂ (λ (l : List ℕ) (n : ℕ). l ++ ends_of_sizes n rest) own_ends own_end
    ∙ append_assoc old (ends_of_sizes at own) (ends_of_sizes (after_sizes at own) rest)
    ∙ ap (λ (l : List ℕ). old ++ l) (sym (ends_append at own rest))
    ∙ ap (λ (fs : List (List (List ℕ))). old ++ ends_of_sizes at (sizes_of_frames rows columns fs)) (sym is)
    ∙ so_far

-- Units that end where their sizes say.

rising : (at : ℕ) (sizes : List ℕ) → AreSome sizes → AreRising 1 at (ends_of_sizes at sizes)
rising at [] some = tt
rising at (size ∷ sizes) some = (omega (arith, some.0), rising (at + size) sizes some.1)

last : (at : ℕ) (units : List (List ℕ)) → get_or (at ∷ ends_of_sizes at (sizes_of units)) (length (ends_of_sizes at (sizes_of units))) 0 ≡ at + length (joined units)
last at [] = omega arith
last at (unit ∷ units) = omega (arith, last (at + length unit) units, length-append unit (joined units))

units_there : (all : List ℕ) (from : ℕ) (front : List ℕ) (units : List (List ℕ)) → from ≡ length front → all ≡ front ++ joined units
    → units_from from all (ends_of_sizes from (sizes_of units)) ≡ units
units_there all from front [] at is = refl
units_there all from front (unit ∷ units) at is =
    let there : drop from all ≡ unit ++ joined units = ap (drop from) is ∙ drop_at front (unit ++ joined units) from (sym at) in
    let size : from + length unit - from ≡ length unit = omega arith in
    let first : between all from (from + length unit) ≡ unit
    = ap (λ (n : ℕ). take n (drop from all)) size ∙ ap (take (length unit)) there ∙ take_at unit (joined units) (length unit) refl in
    ap (λ (t : List ℕ). t ∷ units_from (from + length unit) all (ends_of_sizes (from + length unit) (sizes_of units))) first
    ∙ ap (λ (t : List (List ℕ)). unit ∷ t)
    (units_there all (from + length unit) (front ++ unit) units (omega (arith, at, length-append front unit)) (is ∙ sym (append_assoc front unit (joined units))))

pub unit_ends_are : (units : List (List ℕ)) (sizes ends : List ℕ) → sizes_of units ≡ sizes → AreSome sizes → ends ≡ ends_of_sizes 0 sizes → AreUnitEnds units ends
unit_ends_are units sizes ends sized some is =
    let there : ends ≡ ends_of_sizes 0 (sizes_of units) = is ∙ ap (ends_of_sizes 0) (sym sized) in
    record {
      units_are = ap (units_of (joined units)) there ∙ units_there (joined units) 0 [] units refl refl;
      ends_are = subst (AreEnds 1 (length (joined units))) (sym there) (record {
        rising = subst (λ (s : List ℕ). AreRising 1 0 (ends_of_sizes 0 s)) (sym sized) (rising 0 sizes some);
        within = omega (arith, last 0 units);
      });
    }
