-- None before has packets left.
use Rattle.std.proofs.Common.{◌≡◌, drop}
use Rattle.ts_mux.specs.Services.{burst_total}
use Rattle.ts_mux.proofs.services.Services.has_bursts.Given as goal

abbrev pub invariant-loop-k : goal.invariant-loop-k
invariant-loop-k l = burst_total l.self.bursts ≡ burst_total (drop l.k l.self.bursts)
