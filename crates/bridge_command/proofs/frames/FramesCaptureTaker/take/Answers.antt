use Rattle.std.proofs.Common.{◌≡◌, ◌++◌, ◌∷◌, [], refl, ap, sym, ◌∙◌}
use Rattle.bridge_spec.specs.Frames.{on_isi}
use Rattle.bridge_command.specs.Holding.{HoldsFrames}
use Rattle.bridge_command.proofs.Sorted.{carried_more, carried_same, on_ok}
use Rattle.bridge_command.proofs.frames.FramesCaptureTaker.take.Goals as goal

pub returns-then-sort : goal.returns-then-sort
returns-then-sort c = record {
  took = λ start records held few.
      on_ok c.push.result (c.push.new.self ≡ c.args.self.now.list ++ c.args.captured.now ∷ [])
      (HoldsFrames (record { list = c.push.new.self; tally = c.sort.new.tally }) (records ++ c.args.captured.now ∷ []))
      (λ pushed. record {
        list_is = pushed ∙ (ap (λ l. l ++ c.args.captured.now ∷ []) held.list_is ∙ sym (carried_more (on_isi 0) records c.args.captured.now (sym (c.sort.ensures.room (on_isi 0) refl) ∙ c.if-sort.true)));
        numbers = c.sort.ensures.counted (on_isi 0) records refl held.numbers;
      }) c.push.ensures.written;
}

pub returns : goal.returns
returns c = record {
  took = λ start records held few. record {
    list_is = held.list_is ∙ sym (carried_same (on_isi 0) records c.args.captured.now (sym (c.sort.ensures.room (on_isi 0) refl) ∙ c.if-sort.false));
    numbers = c.sort.ensures.counted (on_isi 0) records refl held.numbers;
  };
}
