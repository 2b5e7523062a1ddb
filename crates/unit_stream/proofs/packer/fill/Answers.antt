use Rattle.std.proofs.Common.{◌≡◌, ℕ, ◌-◌, Bool, false, ◌&&◌, leb, get_or, ap, sym, ◌∙◌, subst, arith}
use Rattle.unit_stream.specs.Packers.{AreRising}
use Rattle.unit_stream.proofs.Numbers.{leb_false}
use Rattle.unit_stream.proofs.Between.{end_of-next, rises}
use Rattle.unit_stream.proofs.Filled.{filled_unit, fills_unit, fills_cut, fills_all}
use Rattle.unit_stream.proofs.packer.fill.Goals as goal
use Rattle.unit_stream.proofs.packer.fill.Goals.{then-not-packing-via-then-not-packing, then-not-packing-via-else-not-packing+then-left-START}

pub overflow_sub-size : goal.overflow_sub-size
overflow_sub-size g c =
    omega (arith, rises g.F.UnitForm.START c.args.ends.now c.loop-next.next c.requires.rising c.loop-next-test.true, end_of-next c.args.ends.now c.loop-next.next, c.loop-next.invariant.at_end)

pub returns-then-size-left-clause-fills : goal.returns-then-size-left-clause-fills
returns-then-size-left-clause-fills g c =
    let rising : AreRising g.F.UnitForm.form.start 0 c.args.ends.now = subst (λ (n : ℕ). AreRising n 0 c.args.ends.now) (sym g.met.F.UnitForm.start_is) c.requires.rising in
    rw c.beginning.ensures (
    fills_cut g.F.UnitForm.form.start c.args.packing c.args.room c.args.ends.now c.args.begun rising g.met.F.UnitForm.lawful.start_least
    c.loop-next.left c.loop-next.next c.loop-next.at (get_or c.args.ends.now c.loop-next.next 0 - c.loop-next.at) c.loop-next.invariant c.loop-next-test.true
    (ap (λ (e : ℕ). e - c.loop-next.at) (sym (end_of-next c.args.ends.now c.loop-next.next))) c.if-size-left.true)

pub returns-then-not-packing-clause-fills : goal.returns-then-not-packing-clause-fills
returns-then-not-packing-clause-fills g c =
    let rising : AreRising g.F.UnitForm.form.start 0 c.args.ends.now = subst (λ (n : ℕ). AreRising n 0 c.args.ends.now) (sym g.met.F.UnitForm.start_is) c.requires.rising in
    let none : (c.args.packing && leb g.F.UnitForm.form.start (c.loop-next.left - (get_or c.args.ends.now c.loop-next.next 0 - c.loop-next.at))) ≡ false =
    elim c.then-not-packing.branch [
      | then-not-packing-via-then-not-packing w ↦ ap (λ (b : Bool). b && leb g.F.UnitForm.form.start (c.loop-next.left - (get_or c.args.ends.now c.loop-next.next 0 - c.loop-next.at))) w.if-not-packing.true
      | then-not-packing-via-else-not-packing+then-left-START w ↦
          ap (λ (b : Bool). b && leb g.F.UnitForm.form.start (c.loop-next.left - (get_or c.args.ends.now c.loop-next.next 0 - c.loop-next.at))) w.if-not-packing.false
          ∙ leb_false g.F.UnitForm.form.start (c.loop-next.left - (get_or c.args.ends.now c.loop-next.next 0 - c.loop-next.at)) (omega (arith, w.if-left-START.true, w.START.ensures, g.met.F.UnitForm.start_is))
    ] in
    rw c.beginning-then-not-packing.ensures (
    fills_unit g.F.UnitForm.form.start c.args.packing c.args.room c.args.ends.now c.args.begun rising g.met.F.UnitForm.lawful.start_least
    c.loop-next.left c.loop-next.next c.loop-next.at (get_or c.args.ends.now c.loop-next.next 0 - c.loop-next.at) c.loop-next.invariant c.loop-next-test.true
    (ap (λ (e : ℕ). e - c.loop-next.at) (sym (end_of-next c.args.ends.now c.loop-next.next))) (omega arith) none)

pub loop-next-preserved : goal.loop-next-preserved
loop-next-preserved g c =
    let rising : AreRising g.F.UnitForm.form.start 0 c.args.ends.now = subst (λ (n : ℕ). AreRising n 0 c.args.ends.now) (sym g.met.F.UnitForm.start_is) c.requires.rising in
    filled_unit g.F.UnitForm.form.start c.args.packing c.args.room c.args.ends.now c.args.begun rising g.met.F.UnitForm.lawful.start_least
    c.loop-next.left c.loop-next.next c.loop-next.at (get_or c.args.ends.now c.loop-next.next 0 - c.loop-next.at) c.loop-next.invariant c.loop-next-test.true
    (ap (λ (e : ℕ). e - c.loop-next.at) (sym (end_of-next c.args.ends.now c.loop-next.next))) (omega arith) c.if-not-packing.false (omega (arith, c.if-left-START.false, c.START.ensures, g.met.F.UnitForm.start_is))

pub returns-clause-fills : goal.returns-clause-fills
returns-clause-fills g c =
    let rising : AreRising g.F.UnitForm.form.start 0 c.args.ends.now = subst (λ (n : ℕ). AreRising n 0 c.args.ends.now) (sym g.met.F.UnitForm.start_is) c.requires.rising in
    rw c.beginning-2.ensures (
    fills_all g.F.UnitForm.form.start c.args.packing c.args.room c.args.ends.now c.args.begun rising g.met.F.UnitForm.lawful.start_least
    c.loop-next.left c.loop-next.next c.loop-next.at c.loop-next.invariant c.loop-next-test.false)
