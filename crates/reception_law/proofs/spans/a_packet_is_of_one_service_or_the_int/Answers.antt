use Rattle.std.proofs.Common.{sym}
use Rattle.std.proofs.lemmas.Bool.{eqb-false, ne_eqb}
use Rattle.reception_law.proofs.Pids.{services_apart, table_apart}
use Rattle.reception_law.proofs.DeliveredPairs.{off_other}
use Rattle.reception_law.proofs.spans.a_packet_is_of_one_service_or_the_int.Goals as goal

pub returns : goal.returns
returns c = record {
  services = λ plan version j k a b right within known known2 differs own own2. eqb-false a b (services_apart plan right version j k a b within differs known known2 own own2);
  table = λ plan int version k pid right within known is own. eqb-false int.pid pid (table_apart plan int right version k pid within known is own);
  packets = λ a b r differs on. off_other a b r on (ne_eqb b a (λ same. differs (sym same)));
}
