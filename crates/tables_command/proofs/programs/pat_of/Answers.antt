use Rattle.std.proofs.Common.{◌≡◌, suc, ◌+◌, ◌-◌, ◌<◌, ◌≤◌, List, [], ◌∷◌, ◌++◌, length, All, refl, ap, sym, ◌∙◌, subst, arith, rules}
use Rattle.std.proofs.lemmas.List.{length_push}
use Rattle.std.proofs.lemmas.List.Elements.{All-nil, All-push}
use Rattle.plan.specs.PlanView.{plan_fields}
use Rattle.plan.specs.Parts.{int_seen}
use Rattle.psi_spec.specs.Pat.{ProgramFields, PatFields}
use Rattle.psi_spec.specs.Tables.{used_pids}
use Rattle.tables_command.proofs.Going.{left_of, left_of-start, left_of-used, left_of-unused, left_of-no_pid, left_of-no_number, pat_is}
use Rattle.tables_command.proofs.programs.pat_of.Goals as goal

pub loop-pid-init : goal.loop-pid-init
loop-pid-init c =
    let none : c.new-pat.result.programs ≡ [] = ap (λ (p : PatFields). p.programs) c.new-pat.ensures in (
      refl,
      left_of-start (plan_fields c.args.plan.now) c.in-Ok.numbers.items c.new-pat.result.programs none (rw c.items.ensures.read at c.in-Ok.ensures.numbers),
      ap (λ (p : PatFields). p.transport_stream_id) c.new-pat.ensures,
      ap (λ (ps : List ProgramFields). length ps) none,
      omega arith,
      omega arith,
      subst (λ (ps : List ProgramFields). All (λ (p : ProgramFields). p.pid ≤ 8191) ps) (sym none) (All-nil (λ (p : ProgramFields). p.pid ≤ 8191)),
    )

pub returns-then-place-len-clause-pat : goal.returns-then-place-len-clause-pat
returns-then-place-len-clause-pat c =
    let many : c.len.result ≡ length c.in-Ok.numbers.items = search (rules, c.len.ensures) in
    pat_is (plan_fields c.args.plan.now) (int_seen c.args.int.now) c.loop-pid.pat _
    (left_of-no_number c.in-Ok.numbers.items (used_pids (plan_fields c.args.plan.now)) c.loop-pid.place c.loop-pid.pid (omega (arith, many, c.if-place-len.true)))
    c.loop-pid.invariant.1 c.loop-pid.invariant.2

pub returns-then-place-len-clause-few : goal.returns-then-place-len-clause-few
returns-then-place-len-clause-few c =
    let most : length c.in-Ok.numbers.items ≤ length c.args.plan.now.services = rw c.items.ensures.read at c.in-Ok.ensures.most in
    omega (arith, c.loop-pid.invariant.3, c.loop-pid.invariant.4, most)

pub loop-pid-preserved-then-not-is_used : goal.loop-pid-preserved-then-not-is_used
loop-pid-preserved-then-not-is_used c =
    let used = used_pids (plan_fields c.args.plan.now) in
    let many : c.len.result ≡ length c.in-Ok.numbers.items = search (rules, c.len.ensures) in
    let program : ProgramFields = record { number = c.index-number.result.now; pid = c.loop-pid.pid - 1 } in
    let pushed : c.push.new.self.programs ≡ c.loop-pid.pat.programs ++ program ∷ [] = ap (λ (p : PatFields). p.programs) c.in-Ok-push.ensures.pushed in
    let is : c.loop-pid.pid ≡ suc (c.loop-pid.pid - 1) = omega (arith, c.loop-pid-test.true) in
    let within : c.loop-pid.place < length c.in-Ok.numbers.items = omega (arith, c.loop-pid.invariant.4, c.if-place-len.false, many) in (
      refl,
      ap (λ (ps : List ProgramFields). ps ++ left_of c.in-Ok.numbers.items used (c.loop-pid.place + 1) (c.loop-pid.pid - 1)) pushed
          ∙ left_of-unused c.loop-pid.pat.programs c.in-Ok.numbers.items used c.loop-pid.place c.loop-pid.pid (c.loop-pid.pid - 1) c.index-number.result.now is within
          c.index-number.ensures (sym c.if-not-is_used.ensures) ∙ c.loop-pid.invariant.1,
      ap (λ (p : PatFields). p.transport_stream_id) c.in-Ok-push.ensures.pushed ∙ c.loop-pid.invariant.2,
      omega (arith, ap (λ (ps : List ProgramFields). length ps) pushed, length_push c.loop-pid.pat.programs program, c.loop-pid.invariant.3),
      omega (arith, within),
      omega (arith, c.loop-pid.invariant.5),
      subst (λ (ps : List ProgramFields). All (λ (p : ProgramFields). p.pid ≤ 8191) ps) (sym pushed)
          (All-push (λ (p : ProgramFields). p.pid ≤ 8191) c.loop-pid.pat.programs program c.loop-pid.invariant.6 (omega (arith, c.loop-pid.invariant.5))),
    )

pub loop-pid-preserved : goal.loop-pid-preserved
loop-pid-preserved c =
    let used = used_pids (plan_fields c.args.plan.now) in
    let is : c.loop-pid.pid ≡ suc (c.loop-pid.pid - 1) = omega (arith, c.loop-pid-test.true) in (
      refl,
      ap (λ (r : List ProgramFields). c.loop-pid.pat.programs ++ r)
          (sym (left_of-used c.in-Ok.numbers.items used c.loop-pid.place c.loop-pid.pid (c.loop-pid.pid - 1) is (sym c.if-not-is_used.ensures))) ∙ c.loop-pid.invariant.1,
      c.loop-pid.invariant.2,
      c.loop-pid.invariant.3,
      c.loop-pid.invariant.4,
      omega (arith, c.loop-pid.invariant.5),
      c.loop-pid.invariant.6,
    )

pub returns-clause-pat : goal.returns-clause-pat
returns-clause-pat c =
    let none : c.loop-pid.pid ≡ 0 = omega (arith, c.loop-pid-test.false) in
    pat_is (plan_fields c.args.plan.now) (int_seen c.args.int.now) c.loop-pid.pat _
    (ap (left_of c.in-Ok.numbers.items (used_pids (plan_fields c.args.plan.now)) c.loop-pid.place) none
    ∙ left_of-no_pid c.in-Ok.numbers.items (used_pids (plan_fields c.args.plan.now)) c.loop-pid.place)
    c.loop-pid.invariant.1 c.loop-pid.invariant.2

pub returns-clause-few : goal.returns-clause-few
returns-clause-few c =
    let most : length c.in-Ok.numbers.items ≤ length c.args.plan.now.services = rw c.items.ensures.read at c.in-Ok.ensures.most in
    omega (arith, c.loop-pid.invariant.3, c.loop-pid.invariant.4, most)
