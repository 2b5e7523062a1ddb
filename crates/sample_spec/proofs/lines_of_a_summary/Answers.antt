use Rattle.std.proofs.Common.{refl}
use Rattle.std.specs.Fmt.{digits}
use Rattle.sample_spec.proofs.lines_of_a_summary.Goals as goal

pub returns : goal.returns
unfolding digits
returns c = record { count = refl; service = refl }
