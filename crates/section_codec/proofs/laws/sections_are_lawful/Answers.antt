use Rattle.section_codec.specs.Spans.{section_lawful}
use Rattle.section_codec.proofs.laws.sections_are_lawful.Goals as goal

pub returns : goal.returns
returns c = record { lawful = section_lawful }
