use Rattle.std.proofs.Common.{◌≡◌, ◌<◌, ◌+◌, false, map, take}
use Rattle.plan.specs.Parts.{service_seen}
use Rattle.capture_files.specs.Files.{AddsCaptures, head_of}
use Rattle.capture_files.proofs.files.add_files.Given as goal

abbrev pub invariant-loop-k : goal.invariant-loop-k
invariant-loop-k g l = record {
  count : (g.R.Rack.told l.rack).count ≡ (g.R.Rack.told l.fn.rack).count + l.k;
  place : 0 < l.k → l.last + 1 ≡ (g.R.Rack.told l.fn.rack).count + l.k;
  added : AddsCaptures false head_of (take l.k (map service_seen l.services)) (g.R.Rack.told l.fn.rack).files (g.R.Rack.told l.rack).files;
  faults : (g.R.Rack.told l.rack).faults ≡ (g.R.Rack.told l.fn.rack).faults;
}
