-- The packets of sections, one section after another.
use Rattle.std.proofs.Common.{◌≡◌, ℕ, ◌+◌, ◌<◌, List, [], ◌∷◌, ◌++◌, length, take, drop, refl, ap, sym, ◌∙◌, subst, Some}
use Rattle.std.specs.Prelude.{flat_map, slice_get}
use Rattle.std.proofs.Math.Seq.{take-append_seam}
use Rattle.std.proofs.lemmas.List.{drop_more, append_assoc}
use Rattle.std.proofs.lemmas.List.Concat.{flat_map-cons}
use Rattle.std.proofs.lemmas.Option.{get_or_from_slice_get}
use Rattle.wire_spec.specs.Lists.{joined}
use Rattle.int_spec.specs.Table.{table_bytes}
use Rattle.plan_spec.specs.Plan.{IntFields, PlanFields}
use Rattle.plan_spec.specs.Signalling.{table_of}
use Rattle.psi_spec.specs.Pat.{ProgramFields, PatFields, pat_bytes}
use Rattle.psi_spec.specs.Tables.{laid, laid_pmt, pat_of_plan, tables_with}

-- the section at the front of a buffer
pub front_is : (size : ℕ) (bytes behind into : List ℕ) → size ≡ length bytes → into ≡ bytes ++ behind → take size into ≡ bytes
front_is size bytes behind into sized written = rw (sized, written) (take-append_seam bytes behind)

pub joined-append : (a b : List (List ℕ)) → joined (a ++ b) ≡ joined a ++ joined b
joined-append [] b = refl
joined-append (x ∷ a) b = ap (λ t. x ++ t) (joined-append a b) ∙ sym (append_assoc x (joined a) (joined b))

-- one program more
pub next_laid : (f : ProgramFields → List (List ℕ)) (front : List ℕ) (programs : List ProgramFields) (place : ℕ) (program : ProgramFields) → place < length programs
    → slice_get programs place ≡ Some program
    → (front ++ joined (f program)) ++ joined (flat_map f (drop (place + 1) programs)) ≡ front ++ joined (flat_map f (drop place programs))
next_laid f front programs place program within is =
    let rest = drop (place + 1) programs in
    let here : drop place programs ≡ (program ∷ rest)
    = drop_more programs place program within ∙ ap (λ (p : ProgramFields). p ∷ rest) (get_or_from_slice_get programs place program program is) in
    append_assoc front (joined (f program)) (joined (flat_map f rest))
    ∙ ap (λ t. front ++ t) (sym (ap (λ (ps : List ProgramFields). joined (flat_map f ps)) here ∙ ap joined (flat_map-cons f program rest) ∙ joined-append (f program) (flat_map f rest)))

-- the tables in order
of_pat : (plan : PlanFields) (int : IntFields) (pat : PatFields) (start one two all : List ℕ) → start ≡ [] → one ≡ start ++ joined (laid 0 (pat_bytes pat))
    → two ≡ one ++ joined (flat_map (laid_pmt plan) pat.programs) → all ≡ two ++ joined (laid int.pid (table_bytes (table_of plan int)))
    → all ≡ joined (laid 0 (pat_bytes pat) ++ flat_map (laid_pmt plan) pat.programs ++ laid int.pid (table_bytes (table_of plan int)))
of_pat plan int pat start one two all none first second third =
    let a = laid 0 (pat_bytes pat) in
    let b = flat_map (laid_pmt plan) pat.programs in
    let c = laid int.pid (table_bytes (table_of plan int)) in
    third
    ∙ ap (λ (t : List ℕ). t ++ joined c) (second ∙ ap (λ (t : List ℕ). t ++ joined b) (first ∙ ap (λ (t : List ℕ). t ++ joined a) none) ∙ sym (joined-append a b))
    ∙ sym (joined-append (a ++ b) c)

pub tables_laid : (plan : PlanFields) (int : IntFields) (pat : PatFields) (start one two all : List ℕ) → start ≡ [] → pat ≡ pat_of_plan plan int
    → one ≡ start ++ joined (laid 0 (pat_bytes pat)) → two ≡ one ++ joined (flat_map (laid_pmt plan) pat.programs)
    → all ≡ two ++ joined (laid int.pid (table_bytes (table_of plan int))) → all ≡ joined (tables_with plan (Some int))
tables_laid plan int pat start one two all none is first second third =
    subst (λ (p : PatFields). all ≡ joined (laid 0 (pat_bytes p) ++ flat_map (laid_pmt plan) p.programs ++ laid int.pid (table_bytes (table_of plan int)))) is
    (of_pat plan int pat start one two all none first second third)
