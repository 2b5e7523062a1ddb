use Rattle.ule_extension.proofs.Headers.{some_end, only_end}
use Rattle.ule_extension.proofs.laws.a_chain_has_one_end.Goals as goal

pub returns : goal.returns
returns c = record { end = some_end; only = only_end }
