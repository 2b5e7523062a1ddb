use Rattle.unit_stream.proofs.Carried.{carries}
use Rattle.unit_stream.proofs.laws.packetized_units_are_carried.Goals as goal

pub returns : goal.returns
returns c = λ form packing pid counter units lawful each. carries form lawful packing pid counter units each
