use Rattle.std.proofs.Common.{◌≤◌, ◌-◌, ◌≡◌, false, length, take}
use Rattle.std.specs.Io.KnownBytes.{Consumes}
use Rattle.wire_spec.specs.Causes.{raised}
use Rattle.ipe_io.proofs.helpers.fill.Given as goal

abbrev pub invariant-loop-got : goal.invariant-loop-got
invariant-loop-got g l =
    record {
      within : l.got ≤ length l.buf;
      read : Consumes (g.S.Source.told l.fn.source).left (g.S.Source.told l.source).left (take l.got l.buf);
      taken : (g.S.Source.told l.source).taken ≡ raised (g.S.Source.told l.fn.source).taken l.got;
      unended : (g.S.Source.told l.fn.source).ended ≡ false → (g.S.Source.told l.source).ended ≡ false;
      same : (g.S.Source.told l.source).faults ≡ (g.S.Source.told l.fn.source).faults;
    }

abbrev pub decreases-loop-got : goal.decreases-loop-got
decreases-loop-got g l = length l.initial.buf - l.got
