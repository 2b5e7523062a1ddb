-- The ends so far, and those of the units of the datagrams that are left.
use Rattle.std.proofs.Common.{◌≡◌, ◌++◌, ◌+◌, ◌-◌, ◌*◌, ◌≤◌, length, drop, vec_len, vec_capacity}
use Rattle.fec_units.specs.Ends.{ends_of_sizes}
use Rattle.stream_spec.specs.Units.{datagrams_by_frame}
use Rattle.fec_units.proofs.Ends.{sizes_of_frames}
use Rattle.fec_units.proofs.frame_units.unit_ends.Given as goal

abbrev pub invariant-loop-from : goal.invariant-loop-from
invariant-loop-from l = record {
  within : l.from ≤ length l.list;
  put : l.ends.items ++ ends_of_sizes l.at (sizes_of_frames l.rows l.columns (datagrams_by_frame l.rows (drop l.from l.list)))
      ≡ ends_of_sizes 0 (sizes_of_frames l.rows l.columns (datagrams_by_frame l.rows l.list));
  most : l.at ≤ 70656 * l.from;
  room : vec_len l.ends + (length l.list - l.from) + l.columns * length (datagrams_by_frame l.rows (drop l.from l.list)) ≡ vec_capacity l.ends;
}

abbrev pub decreases-loop-from : goal.decreases-loop-from
decreases-loop-from l = length l.list - l.from
