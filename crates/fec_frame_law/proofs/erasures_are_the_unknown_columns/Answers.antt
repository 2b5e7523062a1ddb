use Rattle.channel_law.proofs.Member.{member_contains, contains_member}
use Rattle.fec_frame_law.proofs.Datagrams.{datagrams_all, recoverable_more}
use Rattle.fec_frame_law.proofs.Erasures.{columns_rise, erasures_are, recoverable_few, few_recoverable}
use Rattle.fec_frame_law.proofs.erasures_are_the_unknown_columns.Goals as goal

pub returns : goal.returns
returns c = record {
  are = erasures_are;
  rising = columns_rise;
  few = λ rows intact. (recoverable_few rows intact, few_recoverable rows intact);
  all = λ rows frame sections group intact sent kept among each.
      datagrams_all rows frame sections group sent kept
      (recoverable_more rows intact group (λ s there. member_contains group s (among s (contains_member intact s there))) (few_recoverable rows intact each));
}
