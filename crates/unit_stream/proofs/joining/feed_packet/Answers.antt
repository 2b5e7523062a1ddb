use Rattle.std.proofs.Common.{inl, inr, sym, ap, ◌∙◌, Option}
use Rattle.ts_packet.specs.Fields.{fields_in}
use Rattle.unit_stream.specs.Joining.{drained}
use Rattle.unit_stream.specs.States.{opens_in, state_in}
use Rattle.unit_stream.specs.declared.joining.UnderWay.{UnderWay}
use Rattle.unit_stream.specs.declared.joining.State.{State}
use Rattle.unit_stream.proofs.Fed.{feeds, is_next}
use Rattle.unit_stream.proofs.Views.{drained_is}
use Rattle.unit_stream.proofs.joining.feed_packet.Goals as goal
use Rattle.unit_stream.proofs.joining.feed_packet.Goals.{in-Next, in-First, in-Drained, in_default}

pub returns-clause-fed : goal.returns-clause-fed
returns-clause-fed g c = λ packets next stands linked fields time.
    feeds g.F.UnitForm.form g.met.F.UnitForm.lawful (state_in c.args.state c.args.buffer.now) (state_in c.take_packet.result c.take_packet.new.buffer)
    (opens_in c.match-state.under_way c.args.buffer.now) c.args.link c.match-link.is_continuous packets next (fields_in c.args.packet.now) c.args.moment
    stands
    (elim c.match-state.branch [
      | in-Drained w ↦
          ap (λ (s : State). state_in s c.args.buffer.now) w.in-Drained.is
          ∙ ap (λ (u : Option UnderWay). drained (opens_in u c.args.buffer.now)) (sym w.under_way-is)
      | in_default w ↦
          let drained_state = drained_is c.args.state c.args.buffer.now _ stands in
          absurd (w.in_default.not-Drained drained_state.0 drained_state.1)
    ])
    linked
    (λ duplicate. elim c.match-link.branch [ in-Next w ↦ cc | in-First w ↦ elim w.in-First.is [ inl e ↦ cc | inr e ↦ cc ] ])
    (elim c.match-link.branch [
      | in-Next w ↦ w.is_continuous-is ∙ ap is_next (sym w.in-Next.is)
      | in-First w ↦ w.is_continuous-is ∙ elim w.in-First.is [ inl e ↦ ap is_next (sym e) | inr e ↦ ap is_next (sym e) ]
    ])
    fields time c.take_packet.ensures.fed
