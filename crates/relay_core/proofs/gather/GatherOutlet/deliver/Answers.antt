use Rattle.std.proofs.Common.{◌≡◌, ◌∙◌, ℕ, ◌+◌, ◌≤◌, List, [], ◌∷◌, ◌++◌, length, map, subst, sym, ap, arith}
use Rattle.pcap_file.specs.Reading.{most_records, most_bytes}
use Rattle.plan_spec.specs.Plan.{PlanFields}
use Rattle.plan_spec.specs.Offered.{Records}
use Rattle.std.specs.Option.{option_copied}
use Rattle.datagram_routing.specs.Offering.{IsOffered}
use Rattle.relay_core.specs.Gathering.{GatherState, IsGathered, HasOffered}
use Rattle.relay_core.proofs.More.{one_more, datagrams_then}
use Rattle.relay_core.proofs.gather.GatherOutlet.deliver.Goals as goal

pub invariant_of-self : goal.invariant_of-self
invariant_of-self g c =
    let outer : PlanFields = g.P.OuterPlan.outer in
    let some = c.self-2.invariant.1 in
    let counted : c.self.inside.count ≡ c.self-2.inside.count = ap (λ (gather : GatherState). gather.count) (c.self.view_is ∙ sym c.self-2.view_is) in
    let sized : c.self.inside.size ≡ c.self-2.inside.size = ap (λ (gather : GatherState). gather.size) (c.self.view_is ∙ sym c.self-2.view_is) in
    let few : c.self-2.inside.count + 1 ≤ most_records = omega (arith, counted, c.if-self-ge-MOST_DATAGRAMS.false) in
    let small : c.self-2.inside.size + length c.args.datagram.now ≤ most_bytes = omega (arith, sized, c.if-datagram-self.false, some.from.size_is, some.from.fits.size) in (
      c.self-2.invariant.0,
      record {
        datagrams = some.datagrams ++ c.args.datagram.now ∷ [];
        from = one_more outer c.self-2.inside.offered c.offer.new.self c.self-2.inside.count c.self-2.inside.size c.args.datagram.now c.as_bytes.result.now
            (option_copied c.one_datagram.result) c.as_bytes.ensures.same c.as_bytes.ensures.bytes c.one_datagram.ensures.read
            few small
            (subst (λ (plan : PlanFields). (records : Records) → IsOffered plan records c.self-2.inside.offered → IsOffered plan (records ++ option_copied c.one_datagram.result ∷ []) c.offer.new.self)
            c.self-2.invariant.0 (λ records stands. c.in-Ok.ensures.stands records stands))
            some.datagrams some.from;
      },
    )

pub returns-in-Ok-clause-written : goal.returns-in-Ok-clause-written
returns-in-Ok-clause-written g c = λ pairs gathered.
    let outer : PlanFields = g.P.OuterPlan.outer in
    let some = c.self-2.invariant.1 in
    let counted : c.self.inside.count ≡ c.self-2.inside.count = ap (λ (gather : GatherState). gather.count) (c.self.view_is ∙ sym c.self-2.view_is) in
    let sized : c.self.inside.size ≡ c.self-2.inside.size = ap (λ (gather : GatherState). gather.size) (c.self.view_is ∙ sym c.self-2.view_is) in
    let few : c.self-2.inside.count + 1 ≤ most_records = omega (arith, counted, c.if-self-ge-MOST_DATAGRAMS.false) in
    let small : c.self-2.inside.size + length c.args.datagram.now ≤ most_bytes = omega (arith, sized, c.if-datagram-self.false, some.from.size_is, some.from.fits.size) in
    let before : HasOffered outer c.self-2.inside.offered c.self-2.inside.count c.self-2.inside.size (map (λ (pair : ℕ × List ℕ). pair.1) pairs) =
    subst (λ (gather : GatherState). IsGathered outer gather pairs) (sym c.self-2.view_is) gathered in
    subst (λ (datagrams : List (List ℕ)). HasOffered outer c.offer.new.self (c.self-2.inside.count + 1) (c.self-2.inside.size + length c.args.datagram.now) datagrams)
    (datagrams_then pairs c.args.service c.args.datagram.now)
    (one_more outer c.self-2.inside.offered c.offer.new.self c.self-2.inside.count c.self-2.inside.size c.args.datagram.now c.as_bytes.result.now
    (option_copied c.one_datagram.result) c.as_bytes.ensures.same c.as_bytes.ensures.bytes c.one_datagram.ensures.read
    few small
    (subst (λ (plan : PlanFields). (records : Records) → IsOffered plan records c.self-2.inside.offered → IsOffered plan (records ++ option_copied c.one_datagram.result ∷ []) c.offer.new.self)
    c.self-2.invariant.0 (λ records stands. c.in-Ok.ensures.stands records stands))
    (map (λ (pair : ℕ × List ℕ). pair.1) pairs) before)
