use Rattle.std.proofs.Common.{◌≡◌, ℕ, List, ◌++◌, length, take, drop, refl, ap, sym, ◌∙◌, arith, option_map}
use Rattle.std.proofs.lemmas.List.{take_at}
use Rattle.ts_packet.specs.Fields.{fields_in}
use Rattle.unit_stream.specs.Joining.{reading}
use Rattle.unit_stream.specs.States.{event_in, place_of, rest_of, ended_state, state_in}
use Rattle.unit_stream.specs.declared.joining.State.{State}
use Rattle.unit_stream.proofs.Answered.{answers_reading, answers_end}
use Rattle.unit_stream.proofs.joiner.Joiner.next.Goals as goal

pub returns-in-Reading : goal.returns-in-Reading
returns-in-Reading g c =
    let same : take c.self.inside.buffer.len (c.read_start-state.new.buffer ++ drop (length c.read_start-state.new.buffer) c.self.inside.buffer.items) ≡ c.read_start-state.new.buffer =
    take_at c.read_start-state.new.buffer (drop (length c.read_start-state.new.buffer) c.self.inside.buffer.items) c.self.inside.buffer.len (omega arith) in
    let was : reading (place_of c.in-Reading.position) ≡ c.args.self.now =
    ap (λ (s : State). state_in s c.self.inside.buffer.items) (sym c.in-Reading.is) ∙ c.self.view_is in (
      (
        refl,
        λ _. tt,
        answers_reading g.F.UnitForm.form c.args.self.now _ (fields_in c.args.packet.now) (place_of c.in-Reading.position) (option_map event_in c.read_start-state.result.0) was
            (rw same c.read_start-state.ensures.read),
      ),
      record { rests = tt },
    )

pub returns-in-Ended : goal.returns-in-Ended
returns-in-Ended g c =
    let was : ended_state c.in-Ended.ended (rest_of c.in-Ended.rest) c.deref.result.now ≡ c.args.self.now =
    ap (λ (b : List ℕ). ended_state c.in-Ended.ended (rest_of c.in-Ended.rest) b) c.deref.ensures.value
    ∙ ap (λ (s : State). state_in s c.self.inside.buffer.items) (sym c.in-Ended.is) ∙ c.self.view_is in (
      (
        refl,
        λ _. tt,
        answers_end g.F.UnitForm.form (fields_in c.args.packet.now) c.in-Ended.ended (rest_of c.in-Ended.rest) c.deref.result.now _ (event_in c.end_event.result)
            (c.end_event.ensures (fields_in c.args.packet.now) (rest_of c.in-Ended.rest)) (c.after_end-self-inside.ensures.state c.self.inside.buffer.items) c.args.self.now was,
      ),
      record { rests = tt },
    )
