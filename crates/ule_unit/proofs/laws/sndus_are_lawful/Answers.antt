use Rattle.ule_unit.specs.Spans.{sndu_lawful}
use Rattle.ule_unit.proofs.laws.sndus_are_lawful.Goals as goal

pub returns : goal.returns
returns c = record { lawful = sndu_lawful }
