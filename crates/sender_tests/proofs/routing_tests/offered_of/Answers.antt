use Rattle.std.proofs.Common.{◌<◌, length, [], arith}
use Rattle.plan_spec.specs.Plan.{PlanFields}
use Rattle.plan_spec.specs.Offered.{Records}
use Rattle.datagram_routing.specs.Offering.{IsOffered, HasRoom}
use Rattle.datagram_routing.specs.declared.offered.Offered.{Offered}
use Rattle.sender_tests.proofs.routing_tests.offered_of.Goals as goal

room : (plan : PlanFields) (records : Records) (o : Offered) → length records < 9 → IsOffered plan records o → HasRoom plan o
room plan records o few stands = record { records = records; stands = stands; few = omega (arith, few) }

pub offer-requires-2-clause-room : goal.offer-requires-2-clause-room
offer-requires-2-clause-room c =
    let one = c.in_ok-offer.ensures.stands [] c.in_ok-offered.ensures.stands in
    room _ _ _ (omega arith) one

pub offer-requires-3-clause-room : goal.offer-requires-3-clause-room
offer-requires-3-clause-room c =
    let one = c.in_ok-offer.ensures.stands [] c.in_ok-offered.ensures.stands in
    let two = c.in_ok-offer-2.ensures.stands _ one in
    room _ _ _ (omega arith) two

pub offer-requires-4-clause-room : goal.offer-requires-4-clause-room
offer-requires-4-clause-room c =
    let one = c.in_ok-offer.ensures.stands [] c.in_ok-offered.ensures.stands in
    let two = c.in_ok-offer-2.ensures.stands _ one in
    let three = c.in_ok-offer-3.ensures.stands _ two in
    room _ _ _ (omega arith) three
