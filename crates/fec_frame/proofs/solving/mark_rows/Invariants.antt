use Rattle.fec_frame.specs.Runs.{IsMarked}
use Rattle.fec_frame.proofs.solving.mark_rows.Given as goal

abbrev pub invariant-loop-j : goal.invariant-loop-j
invariant-loop-j l = IsMarked l.rows l.j l.from l.to l.bad l.initial.marks l.marks
