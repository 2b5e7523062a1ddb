use Rattle.ts_record.proofs.Cuts.{one_cut}
use Rattle.ts_record.proofs.laws.cuts_are_unique.Goals as goal

pub returns-clause-pieces : goal.returns-clause-pieces
returns-clause-pieces c size bytes xs ys s t cut other = (one_cut size bytes xs ys s t cut other).0

pub returns-clause-tail : goal.returns-clause-tail
returns-clause-tail c size bytes xs ys s t cut other = (one_cut size bytes xs ys s t cut other).1
