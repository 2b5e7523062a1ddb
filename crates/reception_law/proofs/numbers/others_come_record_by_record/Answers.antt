use Rattle.std.proofs.Common.{refl}
use Rattle.reception_law.proofs.Others.{others_more}
use Rattle.reception_law.proofs.numbers.others_come_record_by_record.Goals as goal

pub returns : goal.returns
returns c = record { none = λ plan. refl; more = others_more }
