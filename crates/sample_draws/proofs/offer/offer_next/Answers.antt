use Rattle.std.proofs.Common.{◌≡◌, ◌+◌, ◌*◌, rules}
use Rattle.std.specs.Prelude.{OnOk}
use Rattle.plan_spec.specs.Given.{sample_plan}
use Rattle.plan_spec.specs.Offered.{Records}
use Rattle.datagram_routing.specs.Offering.{IsOffered}
use Rattle.sample_spec.specs.Draws.{draw_at}
use Rattle.sample_draws.specs.First.{first_records}
use Rattle.sample_draws.proofs.Steps.{next_holds}
use Rattle.sample_draws.proofs.offer.offer_next.Goals as goal

pub returns-clause-stands : goal.returns-clause-stands
returns-clause-stands c = λ number drawn stands.
    let first : c.next-of_service.result ≡ draw_at number (2 * c.args.i) = c.next-of_service.ensures.drawn number (2 * c.args.i) drawn in
    let second : c.next-of_length.result ≡ draw_at number (2 * c.args.i + 1) =
    c.next-of_length.ensures.drawn number (2 * c.args.i + 1) (c.next-of_service.ensures.state number (2 * c.args.i) drawn) in
    next_holds number c.args.i (λ (records : Records). OnOk c.offer_datagram.result (IsOffered sample_plan records c.offer_datagram.new.offered))
    _ _ (c.offer_datagram.ensures.stands (first_records number c.args.i) stands) (search rules) (search rules)
