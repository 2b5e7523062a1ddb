use Rattle.command_words.proofs.Commands.{unpaired}
use Rattle.command_words.proofs.parse.command_in.Goals as goal

pub returns-in-None-clause-refused : goal.returns-in-None-clause-refused
returns-in-None-clause-refused c = unpaired _ c.in_default.ensures.refused c.in-None.ensures.refused
