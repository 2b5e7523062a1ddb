use Rattle.std.proofs.Common.{◌≡◌, ℕ, ◌+◌, ◌-◌, ◌/◌, ◌<◌, ◌∙◌, ap, sym, arith, eq-eqb, length, map, find, List}
use Rattle.std.specs.List.{range_with_len}
use Rattle.std.proofs.lemmas.Bool.{ne_eqb}
use Rattle.psi_spec.specs.Pat.{ProgramFields, program_at}
use Rattle.psi_spec.specs.Named.{has_number}
use Rattle.psi_tables.proofs.Programs.{find_here, find_next}
use Rattle.psi_tables.proofs.text.place_of.Goals as goal

pub returns-then-program_at-number-clause-found : goal.returns-then-program_at-number-clause-found
returns-then-program_at-number-clause-found c =
    let body : List ℕ = c.args.body.now in
    let place : ℕ = c.loop-place.place in
    let n : ℕ = (length body - 5) / 4 in
    let less : place < n = omega (arith, c.loop-place-test.true, c.count_programs-place-end.ensures) in (
      less,
      sym c.loop-place.invariant.1
          ∙ find_here (has_number c.args.number) (program_at body) place (n - place) (omega (arith, less))
          (eq-eqb (program_at body place).number c.args.number (ap (λ (p : ProgramFields). p.number) (sym c.program_at.ensures) ∙ c.if-program_at-number.true)),
    )

pub loop-place-preserved : goal.loop-place-preserved
loop-place-preserved c =
    let body : List ℕ = c.args.body.now in
    let place : ℕ = c.loop-place.place in
    let n : ℕ = (length body - 5) / 4 in
    let less : place < n = omega (arith, c.loop-place-test.true, c.count_programs-place-end.ensures) in
    let fewer : n - (place + 1) ≡ n - place - 1 = omega arith in (
      omega (arith, less),
      ap (λ (k : ℕ). find (has_number c.args.number) (map (program_at body) (range_with_len (place + 1) k))) fewer
          ∙ sym (find_next (has_number c.args.number) (program_at body) place (n - place) (omega (arith, less))
          (ne_eqb (program_at body place).number c.args.number (λ e. c.if-program_at-number.false (ap (λ (p : ProgramFields). p.number) c.program_at.ensures ∙ e))))
          ∙ c.loop-place.invariant.1,
    )
