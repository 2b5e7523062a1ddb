use Rattle.std.proofs.Common.{◌≡◌, ◌-◌, ◌/◌, ◌∙◌, ap, sym, subst, true, false, Bool, List, ℕ, [], ◌∷◌, ◌++◌, length, map, is_none, arith}
use Rattle.std.specs.List.{range_with_len}
use Rattle.std.proofs.lemmas.List.FromFn.{map-range_with_len_more}
use Rattle.section_spec.specs.Section.{SectionFields}
use Rattle.psi_spec.specs.Pat.{ProgramFields, program_at, programs_in}
use Rattle.psi_tables.specs.Watching.{IsWatching, WatchesPrograms}
use Rattle.psi_tables.specs.declared.first.Wanted.TheVariants as wanted
use Rattle.psi_tables.specs.declared.watch.Watch.{Watch}
use Rattle.psi_tables.proofs.Tests.{pat_tested}
use Rattle.psi_tables.proofs.Seen.{programs_more}
use Rattle.psi_tables.proofs.finder.watch_programs.Goals as goal

never : {b : Bool} → b ≡ false → b ≡ true → ⊥
never f t = cc

pub returns-in_default : goal.returns-in_default
returns-in_default c = λ is. absurd (never (pat_tested c.args.section.now ∙ ap is_none c.in_default.ensures.refused) is)

pub loop-place-preserved : goal.loop-place-preserved
loop-place-preserved c =
    let body : List ℕ = c.in-Ok.read.body.now in
    let place : ℕ = c.loop-place.place in
    let one : IsWatching (wanted.Pmt (program_at body place).number) (program_at body place).pid c.in_ok-open.field-0 [] =
    subst (λ (p : ProgramFields). IsWatching (wanted.Pmt p.number) p.pid c.in_ok-open.field-0 []) c.program_at-program.ensures c.in_ok-open.ensures in (
      omega (arith, c.loop-place-test.true, c.count_programs-count.ensures),
      subst (λ (ps : List ProgramFields). WatchesPrograms ps c.push.new.self.items []) (sym (map-range_with_len_more (program_at body) 0 place place (omega arith)))
          (subst (λ (ws : List Watch). WatchesPrograms (map (program_at body) (range_with_len 0 place) ++ program_at body place ∷ []) ws []) (sym c.in_ok-push.ensures.items)
          (programs_more (map (program_at body) (range_with_len 0 place)) c.loop-place.watches.items (program_at body place) c.in_ok-open.field-0 [] c.loop-place.invariant.1 one)),
    )

pub returns : goal.returns
returns c = λ is.
    let body : List ℕ = c.in-Ok.read.body.now in
    let all : c.loop-place.place ≡ (length body - 5) / 4 = omega (arith, c.loop-place-test.false, c.count_programs-count.ensures, c.loop-place.invariant.0) in
    subst (λ (b : List ℕ). WatchesPrograms (programs_in b) c.loop-place.watches.items []) (ap (λ (s : SectionFields). s.body) c.in-Ok.ensures.read.0)
    (subst (λ (n : ℕ). WatchesPrograms (map (program_at body) (range_with_len 0 n)) c.loop-place.watches.items []) all c.loop-place.invariant.1)
