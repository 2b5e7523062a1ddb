use Rattle.std.proofs.Common.{ℕ, take, subst, Option}
use Rattle.unit_stream.specs.States.{KeepsLength}
use Rattle.unit_stream.proofs.Resumed.{span_stays}
use Rattle.unit_stream.proofs.joining.extend.Goals as goal

pub returns-in-Some-clause-told : goal.returns-in-Some-clause-told
returns-in-Some-clause-told g c =
    span_stays g.F.UnitForm.form g.met.F.UnitForm.lawful c.args.buffer.now c.append-size.new.buffer c.args.piece.now c.args.unit.size c.append-size.result c.in-Some.whole g.F.UnitForm.LONGEST
    c.append-size.ensures.bytes c.requires.room g.met.F.UnitForm.longest_is
    (subst (λ (kept : Option ℕ). KeepsLength g.F.UnitForm.form kept (take c.args.unit.size c.args.buffer.now)) c.in-Some.is c.requires.unit.1)
