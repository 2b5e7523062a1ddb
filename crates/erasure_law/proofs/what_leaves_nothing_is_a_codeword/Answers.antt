use Rattle.erasure_law.proofs.Elimination.{codeword_left}
use Rattle.erasure_law.proofs.what_leaves_nothing_is_a_codeword.Goals as goal

pub returns : goal.returns
returns c = codeword_left
