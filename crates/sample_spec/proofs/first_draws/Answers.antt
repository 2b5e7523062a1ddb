use Rattle.std.proofs.Common.{refl}
use Rattle.sample_spec.specs.Draws.{state_after}
use Rattle.sample_spec.proofs.first_draws.Goals as goal

pub returns : goal.returns
unfolding state_after
returns c = record { first = refl; second = refl; third = refl; last_number = refl; after_it = refl }
