use Rattle.std.proofs.Common.{refl}
use Rattle.reception_law.proofs.DeliveredPairs.{pairs_more, end_closes}
use Rattle.reception_law.proofs.pairs.pairs_come_record_by_record.Goals as goal

pub returns : goal.returns
returns c = record {
  none = λ plan. refl;
  more = pairs_more;
  end = end_closes;
  all = λ plan records. refl;
}
