use Rattle.std.proofs.Common.{◌≡◌, ◌*◌, length}
use Rattle.plan_spec.specs.Given.{sample_plan}
use Rattle.datagram_routing.specs.Offering.{IsOffered}
use Rattle.sample_spec.specs.Draws.{state_after}
use Rattle.sample_draws.specs.First.{first_records}
use Rattle.sample_draws.proofs.offer.offer_sample.Given as goal

abbrev pub invariant-loop-i : goal.invariant-loop-i
invariant-loop-i l = record {
  stands : IsOffered sample_plan (first_records l.initial.draws l.i) l.offered;
  drawn : l.draws ≡ state_after l.initial.draws (2 * l.i);
  buffer : length l.buffer.items ≡ 1400;
}
