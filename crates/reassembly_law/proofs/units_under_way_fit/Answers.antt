use Rattle.reassembly_law.proofs.Room.{are_under_way}
use Rattle.reassembly_law.proofs.units_under_way_fit.Goals as goal

pub returns : goal.returns
returns c = λ form packets lawful. are_under_way form lawful packets
