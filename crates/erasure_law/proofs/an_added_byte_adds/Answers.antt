use Rattle.erasure_law.proofs.Elimination.{eliminated_changed}
use Rattle.erasure_law.proofs.an_added_byte_adds.Goals as goal

pub returns : goal.returns
returns c = eliminated_changed
