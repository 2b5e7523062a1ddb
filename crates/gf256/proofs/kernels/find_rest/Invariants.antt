use Rattle.std.proofs.Common.{length}
use Rattle.gf256.specs.Horner.{AreValues}
use Rattle.gf256.proofs.kernels.find_rest.Given as goal

abbrev pub invariant-loop-step : goal.invariant-loop-step
invariant-loop-step l = AreValues l.root.0 l.first l.stride l.step l.source (length l.fn.target) l.target
