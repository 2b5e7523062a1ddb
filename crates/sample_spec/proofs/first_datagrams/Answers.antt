use Rattle.std.proofs.Common.{refl}
use Rattle.sample_spec.specs.Draws.{state_after}
use Rattle.sample_spec.proofs.first_datagrams.Goals as goal

pub returns : goal.returns
unfolding state_after
returns c = record { service = refl; size = refl; next_service = refl; next_size = refl; head = refl; bytes = refl }
