-- A rack tells as many files as it has.
use Rattle.std.proofs.Common.{◌≡◌, Bool, true, false, List, length, IfSome}
use Rattle.std.proofs.lemmas.List.{length-map}
use Rattle.ipe_io.specs.Real.{FileState, told_file, told_files}

pub as_many_told : (tells : Bool) (files : List FileState) → IfSome (told_files tells files) (λ told. length told ≡ length files)
as_many_told false files = tt
as_many_told true files = length-map files told_file
