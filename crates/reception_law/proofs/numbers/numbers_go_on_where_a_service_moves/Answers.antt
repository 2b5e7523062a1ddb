use Rattle.reception_law.proofs.Sums.{numbers_move, units_move, frames_move}
use Rattle.reception_law.proofs.numbers.numbers_go_on_where_a_service_moves.Goals as goal

pub returns : goal.returns
returns c = record { numbers = numbers_move; units = units_move; frames = frames_move }
