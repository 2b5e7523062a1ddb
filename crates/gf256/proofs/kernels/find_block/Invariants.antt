use Rattle.std.proofs.Common.{◌+◌}
use Rattle.gf256.proofs.Horner.{AreLanes}
use Rattle.gf256.proofs.kernels.find_block.Given as goal

abbrev pub invariant-loop-step : goal.invariant-loop-step
invariant-loop-step l = record {
  a : AreLanes l.root.value.0 l.first l.stride l.step l.source l.at l.a;
  b : AreLanes l.root.value.0 l.first l.stride l.step l.source (l.at + 16) l.b;
  c : AreLanes l.root.value.0 l.first l.stride l.step l.source (l.at + 32) l.c;
  d : AreLanes l.root.value.0 l.first l.stride l.step l.source (l.at + 48) l.d;
}
