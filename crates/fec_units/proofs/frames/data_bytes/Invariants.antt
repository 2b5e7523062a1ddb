-- The bytes so far.
use Rattle.std.proofs.Common.{◌≡◌, length}
use Rattle.wire_spec.specs.Lists.{joined}
use Rattle.fec_units.specs.Parts.{part_of}
use Rattle.fec_units.proofs.frames.data_bytes.Given as goal

abbrev pub invariant-loop-place : goal.invariant-loop-place
invariant-loop-place l = l.size ≡ length (joined (part_of l.from l.place l.list))
