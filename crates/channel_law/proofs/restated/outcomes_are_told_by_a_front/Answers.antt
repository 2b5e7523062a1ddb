use Rattle.channel_law.proofs.Words.{tells_by_fronts}
use Rattle.channel_law.proofs.restated.outcomes_are_told_by_a_front.Goals as goal

pub returns : goal.returns
returns c = record { told = λ form given lawful. tells_by_fronts form lawful given }
