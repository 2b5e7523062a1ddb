use Rattle.erasure_law.proofs.Elimination.{eliminated_more}
use Rattle.erasure_law.proofs.one_place_is_eliminated.Goals as goal

pub returns : goal.returns
returns c = eliminated_more
