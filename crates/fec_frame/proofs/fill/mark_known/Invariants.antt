use Rattle.fec_frame.specs.Filled.{AreMarkedKnown}
use Rattle.fec_frame.proofs.fill.mark_known.Given as goal

abbrev pub invariant-loop-place : goal.invariant-loop-place
invariant-loop-place l = AreMarkedKnown l.initial.marks l.marks l.from l.place
