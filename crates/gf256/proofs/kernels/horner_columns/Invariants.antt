use Rattle.std.proofs.Common.{◌*◌}
use Rattle.gf256.specs.Horner.{AreValues}
use Rattle.gf256.proofs.kernels.horner_columns.Given as goal

abbrev pub invariant-loop-block : goal.invariant-loop-block
invariant-loop-block l = AreValues l.root.0 l.first l.stride l.count l.source (l.block * 64) l.target
