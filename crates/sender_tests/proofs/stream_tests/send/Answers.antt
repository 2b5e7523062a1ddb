use Rattle.std.proofs.Common.{ℕ, zero, suc, ◌<◌, List, [], ◌∷◌, length, sym, subst, arith, Some}
use Rattle.wire_spec.specs.Datagram.{IsDatagram}
use Rattle.plan_spec.specs.Plan.{PlanFields}
use Rattle.plan_spec.specs.Offered.{Records}
use Rattle.plan.specs.PlanView.{plan_fields}
use Rattle.datagram_routing.specs.Offering.{IsOffered, HasRoom, HoldDatagrams, IsUnderPlan}
use Rattle.datagram_routing.specs.declared.offered.Offered.{Offered}
use Rattle.sender_tests.proofs.stream_tests.send.Goals as goal

room : (plan : PlanFields) (records : Records) (o : Offered) → length records < 9 → IsOffered plan records o → HasRoom plan o
room plan records o few stands = record { records = records; stands = stands; few = omega (arith, few) }

under : (plan : PlanFields) (a b : List ℕ) (o : Offered) → IsDatagram a → IsDatagram b → IsOffered plan (Some a ∷ Some b ∷ []) o → IsUnderPlan plan o
under plan a b o first second stands = record { records = Some a ∷ Some b ∷ []; stands = stands; datagrams = hold; few = omega arith }
  where
    hold : HoldDatagrams (Some a ∷ Some b ∷ [])
    hold zero d less = first
    hold (suc zero) d less = second
    hold (suc (suc n)) d less = absurd (omega (arith, less))

pub offer-requires-2-clause-room : goal.offer-requires-2-clause-room
offer-requires-2-clause-room c =
    let one = c.in_ok-offer.ensures.stands [] c.in_ok-offered.ensures.stands in
    room _ _ _ (omega arith) one

pub stream-requires : goal.stream-requires
stream-requires c =
    let one = c.in_ok-offer.ensures.stands [] c.in_ok-offered.ensures.stands in
    let two = c.in_ok-offer-2.ensures.stands _ one in
    record {
      offered = under (plan_fields c.args.plan.now) c.deref.result.now c.deref-2.result.now c.offer-2.new.self
          (subst IsDatagram (sym c.deref.ensures.value) c.in_ok-datagram_of.ensures)
          (subst IsDatagram (sym c.deref-2.ensures.value) c.in_ok-datagram_of-2.ensures) two;
    }
