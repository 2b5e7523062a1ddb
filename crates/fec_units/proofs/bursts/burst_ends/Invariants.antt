-- The bursts so far, and those of the datagrams that are left.
use Rattle.std.proofs.Common.{◌≡◌, ℕ, ◌+◌, ◌-◌, ◌*◌, ◌≤◌, List, ◌++◌, length, drop, vec_len, vec_capacity}
use Rattle.std.specs.List.{All}
use Rattle.wire_spec.specs.Lists.{joined}
use Rattle.unit_stream.specs.Packers.{AreRising, end_of}
use Rattle.stream_spec.specs.Units.{datagrams_by_burst}
use Rattle.fec_units.specs.Bursts.{parts_from}
use Rattle.fec_units.proofs.bursts.burst_ends.Given as goal

abbrev pub invariant-loop-from : goal.invariant-loop-from
invariant-loop-from l = record {
  within : l.from ≤ length l.list;
  last : end_of l.ends.items (length l.ends.items) ≡ l.from;
  rising : AreRising 1 0 l.ends.items;
  bursts : parts_from 0 l.ends.items l.list ++ datagrams_by_burst l.rows l.columns l.slots (drop l.from l.list) ≡ datagrams_by_burst l.rows l.columns l.slots l.list;
  fit : All (λ (burst : List (List ℕ)). length (joined burst) ≤ 191 * l.rows) (parts_from 0 l.ends.items l.list);
  room : vec_len l.ends + length (datagrams_by_burst l.rows l.columns l.slots (drop l.from l.list)) ≡ vec_capacity l.ends;
}

abbrev pub decreases-loop-from : goal.decreases-loop-from
decreases-loop-from l = length l.list - l.from
