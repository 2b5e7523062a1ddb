use Rattle.std.proofs.Common.{◌≡◌, drop}
use Rattle.ipe_io.specs.Real.{bytes_in}
use Rattle.ipe_io.proofs.file_shelf.find.Given as goal

abbrev pub invariant-loop-at : goal.invariant-loop-at
invariant-loop-at l = bytes_in (drop l.at l.files) l.name ≡ bytes_in l.files l.name
