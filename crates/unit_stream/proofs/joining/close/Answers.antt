use Rattle.std.proofs.Common.{◌≡◌, ◌⊎◌, ◌∙◌, ap, sym, arith, take, length, inl, inr}
use Rattle.std.proofs.lemmas.List.{length-take-le}
use Rattle.ts_spec.specs.Form.{more, stuffing}
use Rattle.unit_stream.specs.Form.{span_told}
use Rattle.unit_stream.specs.Steps.{pointed}
use Rattle.unit_stream.specs.States.{open_in}
use Rattle.unit_stream.proofs.Resumed.{held_is}
use Rattle.unit_stream.proofs.Closed.{closes_whole, closes_other, closes_bad, closes_untold}
use Rattle.unit_stream.proofs.joining.close.Goals as goal
use Rattle.unit_stream.proofs.joining.close.Goals.{else-whole-size-via-then-whole-size+else-size-unit, else-whole-size-via-else-whole-size}

pub returns-then-size-unit-clause-closes : goal.returns-then-size-unit-clause-closes
returns-then-size-unit-clause-closes g c = λ packet place starts fits rest good.
    let front : length (take c.extend-size.result.0 c.extend-size.new.buffer) ≡ c.extend-size.result.0 = length-take-le c.extend-size.result.0 c.extend-size.new.buffer (omega arith) in
    let before : length (take c.args.unit.size c.args.buffer.now) ≡ c.args.unit.size = length-take-le c.args.unit.size c.args.buffer.now (omega arith) in
    let pointed_size : length c.args.rest.now ≡ length (pointed packet) = ap length rest in
    let same : c.in-Whole.whole ≡ c.extend-size.result.0 = omega arith in
    rw same (
    closes_whole g.F.UnitForm.form g.met.F.UnitForm.lawful (open_in c.args.unit c.args.buffer.now) packet starts fits good place
    c.extend-size.result.0 (take c.extend-size.result.0 c.extend-size.new.buffer)
    (held_is c.args.buffer.now c.extend-size.new.buffer c.args.rest.now (pointed packet) c.args.unit.size c.extend-size.result.0 g.F.UnitForm.form.longest g.F.UnitForm.LONGEST
    c.extend-size.ensures.bytes c.requires.room g.met.F.UnitForm.longest_is (sym rest))
    (rw same at (sym (ap span_told c.in-Whole.is) ∙ c.extend-size.ensures.told)) (omega arith) (omega arith))

pub returns-else-whole-size-clause-closes : goal.returns-else-whole-size-clause-closes
returns-else-whole-size-clause-closes g c = λ packet place starts fits rest good.
    let front : length (take c.extend-size.result.0 c.extend-size.new.buffer) ≡ c.extend-size.result.0 = length-take-le c.extend-size.result.0 c.extend-size.new.buffer (omega arith) in
    let before : length (take c.args.unit.size c.args.buffer.now) ≡ c.args.unit.size = length-take-le c.args.unit.size c.args.buffer.now (omega arith) in
    let pointed_size : length c.args.rest.now ≡ length (pointed packet) = ap length rest in
    closes_other g.F.UnitForm.form g.met.F.UnitForm.lawful (open_in c.args.unit c.args.buffer.now) packet starts fits good place
    c.in-Whole.whole (take c.extend-size.result.0 c.extend-size.new.buffer)
    (held_is c.args.buffer.now c.extend-size.new.buffer c.args.rest.now (pointed packet) c.args.unit.size c.extend-size.result.0 g.F.UnitForm.form.longest g.F.UnitForm.LONGEST
    c.extend-size.ensures.bytes c.requires.room g.met.F.UnitForm.longest_is (sym rest))
    (sym (ap span_told c.in-Whole.is) ∙ c.extend-size.ensures.told)
    (λ same all. elim c.else-whole-size.branch [
      | else-whole-size-via-then-whole-size+else-size-unit w ↦ omega arith
      | else-whole-size-via-else-whole-size w ↦ omega arith
    ])

pub returns-in-Bad-clause-closes : goal.returns-in-Bad-clause-closes
returns-in-Bad-clause-closes g c = λ packet place starts fits rest good.
    closes_bad g.F.UnitForm.form g.met.F.UnitForm.lawful (open_in c.args.unit c.args.buffer.now) packet starts fits good place
    (take c.extend-size.result.0 c.extend-size.new.buffer)
    (held_is c.args.buffer.now c.extend-size.new.buffer c.args.rest.now (pointed packet) c.args.unit.size c.extend-size.result.0 g.F.UnitForm.form.longest g.F.UnitForm.LONGEST
    c.extend-size.ensures.bytes c.requires.room g.met.F.UnitForm.longest_is (sym rest))
    (sym (ap span_told c.in-Bad.is) ∙ c.extend-size.ensures.told)

pub returns-in-More-clause-closes : goal.returns-in-More-clause-closes
returns-in-More-clause-closes g c = λ packet place starts fits rest good.
    let open_span : (span_told c.extend-size.result.1 ≡ more) ⊎ (span_told c.extend-size.result.1 ≡ stuffing) =
    elim c.in-More.is [ inl e ↦ inl (ap span_told e) | inr e ↦ inr (ap span_told e) ] in
    closes_untold g.F.UnitForm.form g.met.F.UnitForm.lawful (open_in c.args.unit c.args.buffer.now) packet starts fits good place
    (span_told c.extend-size.result.1) (take c.extend-size.result.0 c.extend-size.new.buffer)
    (held_is c.args.buffer.now c.extend-size.new.buffer c.args.rest.now (pointed packet) c.args.unit.size c.extend-size.result.0 g.F.UnitForm.form.longest g.F.UnitForm.LONGEST
    c.extend-size.ensures.bytes c.requires.room g.met.F.UnitForm.longest_is (sym rest))
    c.extend-size.ensures.told open_span
