use Rattle.std.proofs.Common.{◌≡◌, ◌≤◌, ◌-◌, length, take}
use Rattle.wire_spec.specs.Content.{ChangesFile, grown}
use Rattle.capture_files.proofs.records.put_piece.Given as goal

abbrev pub invariant-loop-put : goal.invariant-loop-put
invariant-loop-put g l =
    record {
      within : l.put ≤ length l.piece;
      count : (g.R.Rack.told l.rack).count ≡ (g.R.Rack.told l.fn.rack).count;
      written : ChangesFile (g.R.Rack.told l.fn.rack).files (g.R.Rack.told l.rack).files l.at (λ file. grown file (take l.put l.piece));
      same : (g.R.Rack.told l.rack).faults ≡ (g.R.Rack.told l.fn.rack).faults;
    }

abbrev pub decreases-loop-put : goal.decreases-loop-put
decreases-loop-put g l = length l.piece - l.put
