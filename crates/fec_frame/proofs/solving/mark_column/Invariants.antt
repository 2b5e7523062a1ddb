use Rattle.fec_frame.specs.Runs.{IsColumnMarked}
use Rattle.fec_frame.proofs.solving.mark_column.Given as goal

abbrev pub invariant-loop-r : goal.invariant-loop-r
invariant-loop-r l = IsColumnMarked l.rows l.j l.from l.r l.bad l.initial.marks l.marks
