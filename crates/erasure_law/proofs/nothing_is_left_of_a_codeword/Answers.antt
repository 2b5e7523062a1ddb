use Rattle.erasure_law.proofs.Elimination.{nothing_left}
use Rattle.erasure_law.proofs.nothing_is_left_of_a_codeword.Goals as goal

pub returns : goal.returns
returns c = nothing_left
