use Rattle.std.proofs.Common.{◌≡◌, ◌≤◌, ◌-◌, length, take}
use Rattle.std.specs.Io.KnownBytes.{Appends}
use Rattle.wire_spec.specs.Content.{Stays}
use Rattle.ipe_io.proofs.helpers.put_all.Given as goal

abbrev pub invariant-loop-done : goal.invariant-loop-done
invariant-loop-done g l =
    record {
      within : l.done ≤ length l.piece;
      written : Appends (g.K.Sink.told l.fn.sink).held (g.K.Sink.told l.sink).held (take l.done l.piece);
      flushed : Stays (g.K.Sink.told l.fn.sink).flushed (g.K.Sink.told l.sink).flushed;
      same : (g.K.Sink.told l.sink).faults ≡ (g.K.Sink.told l.fn.sink).faults;
    }

abbrev pub decreases-loop-done : goal.decreases-loop-done
decreases-loop-done g l = length l.piece - l.done
