use Rattle.std.proofs.Common.{Some, arith}
use Rattle.std.proofs.lemmas.List.FromFn.{length-map-range_with_len}
use Rattle.sample_spec.specs.Datagrams.{datagram_count, datagram_drawn}
use Rattle.sample_draws.proofs.Whole.{all_datagrams}
use Rattle.sample_draws.proofs.laws.a_sample_offers_datagrams.Goals as goal

pub returns-clause-datagrams : goal.returns-clause-datagrams
returns-clause-datagrams c = λ number few. all_datagrams number datagram_count

pub returns-clause-few : goal.returns-clause-few
returns-clause-few c = λ number. omega (arith, length-map-range_with_len (λ i. Some (datagram_drawn number i)) 0 datagram_count)
