-- The bytes so far.
use Rattle.std.proofs.Common.{◌≡◌, ◌≤◌, ◌-◌, ◌++◌, length, take}
use Rattle.fec_units.specs.Parts.{IsWithin, bytes_left}
use Rattle.fec_units.proofs.columns.fill_column.Given as goal

abbrev pub invariant-loop-done : goal.invariant-loop-done
invariant-loop-done l = record {
  within : IsWithin l.list l.end l.at;
  most : l.done ≤ length l.into;
  read : bytes_left l.list l.end l.initial.at ≡ take l.done l.into ++ bytes_left l.list l.end l.at;
}

abbrev pub decreases-loop-done : goal.decreases-loop-done
decreases-loop-done l = length l.initial.into - l.done
