use Rattle.std.specs.Io.KnownBytes.{Keeps}
use Rattle.ipe_io.proofs.write_behind.write_some.Given as goal

abbrev pub invariant-loop : goal.invariant-loop
invariant-loop g l = Keeps (g.W.Write.contents l.initial.inner) (g.W.Write.contents l.inner)
