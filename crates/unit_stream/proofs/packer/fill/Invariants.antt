use Rattle.std.proofs.Common.{◌-◌, length}
use Rattle.unit_stream.proofs.Filled.{IsFilledTo}
use Rattle.unit_stream.proofs.packer.fill.Given as goal

abbrev pub invariant-loop-next : goal.invariant-loop-next
invariant-loop-next g l = IsFilledTo g.F.UnitForm.form.start l.fn.packing l.fn.room l.ends l.fn.begun l.left l.next l.at

abbrev pub decreases-loop-next : goal.decreases-loop-next
decreases-loop-next g l = length l.ends - l.next
