use Rattle.std.proofs.Common.{◌≡◌, ◌-◌, ◌/◌, ◌∙◌, ap, ap₂, sym, List, ℕ, [], ◌∷◌, ◌++◌, length, map, arith}
use Rattle.std.specs.List.{range_with_len}
use Rattle.std.proofs.lemmas.List.FromFn.{map-range_with_len_more}
use Rattle.psi_spec.specs.Pat.{ProgramFields, PatFields, program_at}
use Rattle.psi_tables.proofs.pat.pat_of.Goals as goal

pub loop-place-preserved : goal.loop-place-preserved
loop-place-preserved c =
    let body : List ℕ = c.args.body.now in
    let place : ℕ = c.loop-place.place in (
      omega (arith, c.loop-place-test.true, c.count_programs-place-end.ensures),
      ap (λ (p : PatFields). p.transport_stream_id) c.in_ok-push.ensures.pushed ∙ c.loop-place.invariant.1,
      ap (λ (p : PatFields). p.programs) c.in_ok-push.ensures.pushed
          ∙ ap₂ (λ (xs : List ProgramFields) (x : ProgramFields). xs ++ x ∷ []) c.loop-place.invariant.2 c.program_at.ensures
          ∙ sym (map-range_with_len_more (program_at body) 0 place place (omega arith)),
    )

pub returns : goal.returns
returns c =
    let body : List ℕ = c.args.body.now in
    let all : c.loop-place.place ≡ (length body - 5) / 4 = omega (arith, c.loop-place-test.false, c.count_programs-place-end.ensures, c.loop-place.invariant.0) in
    ap₂ (λ (a : ℕ) (l : List ProgramFields). record { transport_stream_id = a; programs = l }) c.loop-place.invariant.1
    (c.loop-place.invariant.2 ∙ ap (λ (n : ℕ). map (program_at body) (range_with_len 0 n)) all)
