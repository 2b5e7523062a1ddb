use Rattle.std.proofs.Common.{◌≡◌, sym, ◌∙◌, ap, arith, false, inl, inr}
use Rattle.ts_spec.specs.Form.{whole}
use Rattle.reassembly_law.specs.UnderWay.{is_told}
use Rattle.unit_stream.specs.declared.form.Span.{Span}
use Rattle.unit_stream.specs.Form.{span_told}
use Rattle.unit_stream.specs.States.{open_in}
use Rattle.unit_stream.proofs.Resumed.{goes_whole_in, goes_bad_in, goes_open_in, held_is}
use Rattle.unit_stream.proofs.Numbers.{leb_false}
use Rattle.unit_stream.proofs.joining.go_on.Goals as goal

pub returns-then-whole-size-clause-goes : goal.returns-then-whole-size-clause-goes
returns-then-whole-size-clause-goes g c = λ packet plain payload good.
    goes_whole_in g.F.UnitForm.form g.met.F.UnitForm.lawful (open_in c.args.unit c.args.buffer.now) packet plain c.extend-size.new.buffer c.extend-size.result.0
    (omega arith)
    (held_is c.args.buffer.now c.extend-size.new.buffer c.args.payload.now packet.payload c.args.unit.size c.extend-size.result.0 g.F.UnitForm.form.longest g.F.UnitForm.LONGEST
    c.extend-size.ensures.bytes c.requires.room g.met.F.UnitForm.longest_is payload)
    c.in-Whole.whole (sym (ap span_told c.in-Whole.is) ∙ c.extend-size.ensures.told) c.if-whole-size.true

pub returns-else-whole-size-clause-goes : goal.returns-else-whole-size-clause-goes
returns-else-whole-size-clause-goes g c = λ packet plain payload good.
    goes_open_in g.F.UnitForm.form g.met.F.UnitForm.lawful (open_in c.args.unit c.args.buffer.now) packet plain c.extend-size.new.buffer c.extend-size.result.0
    (omega arith)
    (held_is c.args.buffer.now c.extend-size.new.buffer c.args.payload.now packet.payload c.args.unit.size c.extend-size.result.0 g.F.UnitForm.form.longest g.F.UnitForm.LONGEST
    c.extend-size.ensures.bytes c.requires.room g.met.F.UnitForm.longest_is payload)
    (whole c.in-Whole.whole) (sym (ap span_told c.in-Whole.is) ∙ c.extend-size.ensures.told) (leb_false c.in-Whole.whole c.extend-size.result.0 c.if-whole-size.false) good

pub returns-in-Bad-clause-goes : goal.returns-in-Bad-clause-goes
returns-in-Bad-clause-goes g c = λ packet plain payload good.
    goes_bad_in g.F.UnitForm.form g.met.F.UnitForm.lawful (open_in c.args.unit c.args.buffer.now) packet plain c.extend-size.new.buffer c.extend-size.result.0
    (omega arith)
    (held_is c.args.buffer.now c.extend-size.new.buffer c.args.payload.now packet.payload c.args.unit.size c.extend-size.result.0 g.F.UnitForm.form.longest g.F.UnitForm.LONGEST
    c.extend-size.ensures.bytes c.requires.room g.met.F.UnitForm.longest_is payload)
    (sym (ap span_told c.in-Bad.is) ∙ c.extend-size.ensures.told)

pub returns-in-More-clause-goes : goal.returns-in-More-clause-goes
returns-in-More-clause-goes g c = λ packet plain payload good.
    let untold : is_told (span_told c.extend-size.result.1) c.extend-size.result.0 ≡ false =
    elim c.in-More.is [
      | inl e ↦ ap (λ (t : Span). is_told (span_told t) c.extend-size.result.0) e
      | inr e ↦ ap (λ (t : Span). is_told (span_told t) c.extend-size.result.0) e
    ] in
    goes_open_in g.F.UnitForm.form g.met.F.UnitForm.lawful (open_in c.args.unit c.args.buffer.now) packet plain c.extend-size.new.buffer c.extend-size.result.0
    (omega arith)
    (held_is c.args.buffer.now c.extend-size.new.buffer c.args.payload.now packet.payload c.args.unit.size c.extend-size.result.0 g.F.UnitForm.form.longest g.F.UnitForm.LONGEST
    c.extend-size.ensures.bytes c.requires.room g.met.F.UnitForm.longest_is payload)
    (span_told c.extend-size.result.1) c.extend-size.ensures.told untold good
