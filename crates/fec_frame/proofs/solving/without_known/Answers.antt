use Rattle.std.proofs.Common.{refl}
use Rattle.fec_frame.proofs.Told.{none_known}
use Rattle.fec_frame.proofs.solving.without_known.Goals as goal

pub returns-clause-told : goal.returns-clause-told
returns-clause-told c = λ bytes marks. none_known c.args.rows bytes marks _ refl refl
