-- The bursts so far, and those of the datagrams that are left.
use Rattle.std.proofs.Common.{◌≡◌, ◌+◌, ◌-◌, ◌≤◌, length, drop}
use Rattle.stream_spec.specs.Units.{datagrams_by_burst}
use Rattle.fec_units.proofs.bursts.bursts_in.Given as goal

abbrev pub invariant-loop-from : goal.invariant-loop-from
invariant-loop-from l = record {
  counted : l.bursts + length (datagrams_by_burst l.rows l.columns l.slots (drop l.from l.list)) ≡ length (datagrams_by_burst l.rows l.columns l.slots l.list);
  few : l.bursts ≤ l.from;
  within : l.from ≤ length l.list;
}

abbrev pub decreases-loop-from : goal.decreases-loop-from
decreases-loop-from l = length l.list - l.from
