use Rattle.std.proofs.Common.{◌≡◌, ◌≤◌, ◌-◌}
use Rattle.std.specs.Prelude.{count_by}
use Rattle.std.specs.List.{range_with_len}
use Rattle.fec_frame.specs.Runs.{is_good}
use Rattle.fec_frame.proofs.solving.count_good.Given as goal

abbrev pub invariant-loop-r : goal.invariant-loop-r
invariant-loop-r l = record {
  count : l.count ≡ count_by (is_good l.bad) (range_with_len l.from (l.r - l.from));
  few : l.count ≤ l.r - l.from;
}
