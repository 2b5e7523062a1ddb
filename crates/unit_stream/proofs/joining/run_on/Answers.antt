use Rattle.std.proofs.Common.{ℕ, take, Option, refl, sym, subst, arith}
use Rattle.ts_spec.specs.Form.{whole}
use Rattle.unit_stream.specs.States.{KeepsLength, open_in}
use Rattle.unit_stream.proofs.Resumed.{goes_open_in, held_is, span_stays}
use Rattle.unit_stream.proofs.Numbers.{leb_false}
use Rattle.unit_stream.proofs.joining.run_on.Goals as goal

pub returns-in-Some-clause-unit : goal.returns-in-Some-clause-unit
returns-in-Some-clause-unit g c =
    let kept = subst (λ (kept : Option ℕ). KeepsLength g.F.UnitForm.form kept (take c.args.unit.now.size c.args.buffer.now)) c.in-Some.is c.requires.unit.1 in
    let told = span_stays g.F.UnitForm.form g.met.F.UnitForm.lawful c.args.buffer.now c.append-unit.new.buffer c.args.piece.now c.args.unit.now.size c.append-unit.result c.in-Some.whole
    g.F.UnitForm.LONGEST c.append-unit.ensures.bytes c.requires.room g.met.F.UnitForm.longest_is kept in (
      omega arith,
      subst (λ (kept : Option ℕ). KeepsLength g.F.UnitForm.form kept (take c.append-unit.result c.append-unit.new.buffer)) (sym c.in-Some.is) (sym told),
    )

pub returns-in-Some-clause-goes : goal.returns-in-Some-clause-goes
returns-in-Some-clause-goes g c = λ packet goes plain payload good.
    let kept = subst (λ (kept : Option ℕ). KeepsLength g.F.UnitForm.form kept (take c.args.unit.now.size c.args.buffer.now)) c.in-Some.is c.requires.unit.1 in
    let told = span_stays g.F.UnitForm.form g.met.F.UnitForm.lawful c.args.buffer.now c.append-unit.new.buffer c.args.piece.now c.args.unit.now.size c.append-unit.result c.in-Some.whole
    g.F.UnitForm.LONGEST c.append-unit.ensures.bytes c.requires.room g.met.F.UnitForm.longest_is kept in
    goes_open_in g.F.UnitForm.form g.met.F.UnitForm.lawful (open_in c.args.unit.now c.args.buffer.now) packet plain c.append-unit.new.buffer c.append-unit.result
    (omega arith)
    (held_is c.args.buffer.now c.append-unit.new.buffer c.args.piece.now packet.payload c.args.unit.now.size c.append-unit.result g.F.UnitForm.form.longest g.F.UnitForm.LONGEST
    c.append-unit.ensures.bytes c.requires.room g.met.F.UnitForm.longest_is payload)
    (whole c.in-Some.whole) told (leb_false c.in-Some.whole c.append-unit.result (omega arith)) good

pub returns-in-Some-clause-unchanged : goal.returns-in-Some-clause-unchanged
returns-in-Some-clause-unchanged g c = λ never. absurd (let h = never in cc)

pub returns-in_default-clause-unit : goal.returns-in_default-clause-unit
returns-in_default-clause-unit g c = c.requires.unit

pub returns-in_default-clause-goes : goal.returns-in_default-clause-goes
returns-in_default-clause-goes g c = λ packet never. absurd (let h = never in cc)

pub returns-in_default-clause-unchanged : goal.returns-in_default-clause-unchanged
returns-in_default-clause-unchanged g c = λ _. (refl, refl)

pub returns-in_default-2-clause-unit : goal.returns-in_default-2-clause-unit
returns-in_default-2-clause-unit g c = c.requires.unit

pub returns-in_default-2-clause-goes : goal.returns-in_default-2-clause-goes
returns-in_default-2-clause-goes g c = λ packet never. absurd (let h = never in cc)

pub returns-in_default-2-clause-unchanged : goal.returns-in_default-2-clause-unchanged
returns-in_default-2-clause-unchanged g c = λ _. (refl, refl)
