use Rattle.std.proofs.Common.{◌≡◌, true, List, [], ◌∷◌, ◌++◌, ℕ, length, take, drop, refl, sym, ap, ◌∙◌, subst, arith, Option}
use Rattle.std.proofs.lemmas.List.{take_at}
use Rattle.ts_packet.specs.Fields.{fields_in}
use Rattle.reassembly_law.specs.UnderWay.{Open}
use Rattle.unit_stream.specs.Joining.{drained}
use Rattle.unit_stream.specs.Steps.{IsFed, AreProper}
use Rattle.unit_stream.specs.States.{open_in, opens_in, state_in}
use Rattle.unit_stream.specs.declared.joining.UnderWay.{UnderWay}
use Rattle.unit_stream.specs.declared.joining.State.{State}
use Rattle.unit_stream.proofs.Fed.{fed_on, under_way_is}
use Rattle.unit_stream.proofs.joiner.Joiner.run_on.Goals as goal

pub returns-in-Drained-Some-clause-runs : goal.returns-in-Drained-Some-clause-runs
returns-in-Drained-Some-clause-runs g c = λ under_way moment runs was good.
    let same : take c.self.inside.buffer.len (c.run_on.new.buffer ++ drop (length c.run_on.new.buffer) c.self.inside.buffer.items) ≡ c.run_on.new.buffer =
    take_at c.run_on.new.buffer (drop (length c.run_on.new.buffer) c.self.inside.buffer.items) c.self.inside.buffer.len (omega arith) in
    let unit : Open = open_in c.in-Drained-Some.unit c.deref_mut.result.now in
    let now : Open = open_in c.run_on.new.unit c.run_on.new.buffer in
    let one : unit ∷ [] ≡ under_way =
    under_way_is (unit ∷ []) under_way
    (ap (λ (b : List ℕ). drained (open_in c.in-Drained-Some.unit b ∷ [])) c.deref_mut.ensures.value
    ∙ sym (ap (λ (u : Option UnderWay). drained (opens_in u c.self.inside.buffer.items)) c.in-Drained-Some.field-0-is)
    ∙ sym (ap (λ (s : State). state_in s c.self.inside.buffer.items) c.in-Drained-Some.is)
    ∙ c.self.view_is ∙ was) in
    rw same (
    subst (λ (us : List Open). IsFed g.F.UnitForm.form true us moment (fields_in c.args.packet.now) (drained (now ∷ []))) one
    (fed_on g.F.UnitForm.form unit moment (fields_in c.args.packet.now) (drained (now ∷ [])) c.if-packet.false
    (c.run_on.ensures.goes (fields_in c.args.packet.now) runs c.if-packet.false refl (subst (AreProper g.F.UnitForm.form) (sym one) good).0)))
