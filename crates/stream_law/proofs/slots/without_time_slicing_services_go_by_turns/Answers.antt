use Rattle.stream_law.proofs.ByTurns.{by_turns}
use Rattle.stream_law.proofs.slots.without_time_slicing_services_go_by_turns.Goals as goal

pub returns : goal.returns
returns c = record { turns = λ part none s. by_turns part none s }
