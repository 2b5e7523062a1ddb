use Rattle.std.proofs.Common.{◌≡◌, ◌++◌, ◌∷◌, [], refl, ap, sym, ◌∙◌, map, subst, length}
use Rattle.bridge_spec.specs.Frames.{on_pid}
use Rattle.bridge_spec.specs.Sending.{sndu_with_frame}
use Rattle.bridge_command.proofs.Sorted.{carried_same, room_bounds, on_ok_of_three}
use Rattle.bridge_command.proofs.Held.{holds_more}
use Rattle.bridge_command.specs.Holding.{HoldsSndus}
use Rattle.bridge_command.specs.Tally.{IsBridgeTally}
use Rattle.bridge_command.specs.declared.ends.BridgeTally.{BridgeTally}
use Rattle.bridge_command.proofs.sndus.SndusCaptureTaker.take.Goals as goal

pub push-requires : goal.push-requires
push-requires c = record { size = (room_bounds (on_pid 0) c.args.captured.now (sym (c.sort.ensures.room (on_pid 0) refl) ∙ c.if-sort.true)).1 }

pub returns-then-sort : goal.returns-then-sort
returns-then-sort c = record {
  took = λ start records held few.
      let room = sym (c.sort.ensures.room (on_pid 0) refl) ∙ c.if-sort.true in
      on_ok_of_three c.push.result (c.push.new.self.bytes.items ≡ c.args.self.now.bytes.items ++ sndu_with_frame c.args.captured.now)
      (c.push.new.self.ends.items ≡ c.args.self.now.ends.items ++ length c.push.new.self.bytes.items ∷ []) (c.push.new.self.tally ≡ c.sort.new.tally)
      (HoldsSndus c.push.new.self (records ++ c.args.captured.now ∷ []))
      (λ bytes ends tally. holds_more c.args.self.now c.push.new.self records c.args.captured.now held room
      (subst (λ (t : BridgeTally). IsBridgeTally (on_pid 0) (records ++ c.args.captured.now ∷ []) t) (sym tally) (c.sort.ensures.counted (on_pid 0) records refl held.numbers)) bytes ends)
      c.push.ensures.bytes c.push.ensures.ends c.push.ensures.tally;
}

pub returns : goal.returns
returns c = record {
  took = λ start records held few. record {
    units_are = held.units_are ∙ ap (map sndu_with_frame) (sym (carried_same (on_pid 0) records c.args.captured.now (sym (c.sort.ensures.room (on_pid 0) refl) ∙ c.if-sort.false)));
    ends = held.ends;
    rising = held.rising;
    numbers = c.sort.ensures.counted (on_pid 0) records refl held.numbers;
  };
}
