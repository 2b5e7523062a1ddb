use Rattle.std.proofs.Common.{◌≡◌, ◌≤◌}
use Rattle.capture_files.specs.Flushes.{Flush}
use Rattle.capture_files.proofs.files.flush_files.Given as goal

abbrev pub invariant-loop-k : goal.invariant-loop-k
invariant-loop-k g l = record {
  count : (g.R.Rack.told l.rack).count ≡ (g.R.Rack.told l.fn.rack).count;
  within : l.k ≤ l.services;
  flushed : Flush (g.R.Rack.told l.fn.rack).files (g.R.Rack.told l.rack).files l.first l.k;
  faults : (g.R.Rack.told l.rack).faults ≡ (g.R.Rack.told l.fn.rack).faults;
}
