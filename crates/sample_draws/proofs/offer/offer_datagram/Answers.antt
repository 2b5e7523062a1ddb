use Rattle.std.proofs.Common.{ℕ, [], ◌∷◌, ◌++◌, length, List, Some, rules, sym, subst}
use Rattle.std.specs.Prelude.{OnOk}
use Rattle.plan_spec.specs.Plan.{PlanFields}
use Rattle.plan.specs.PlanView.{plan_fields}
use Rattle.datagram_routing.specs.Offering.{IsOffered}
use Rattle.sample_spec.specs.Datagrams.{head_of, bytes_after_head}
use Rattle.sample_draws.proofs.Steps.{of_wanted}
use Rattle.sample_draws.proofs.offer.offer_datagram.Goals as goal

pub returns-clause-stands : goal.returns-clause-stands
returns-clause-stands c = λ records stands.
    let wanted : List ℕ = head_of (length c.args.into.now) c.args.service ++ bytes_after_head c.args.i (length c.args.into.now) in
    let before : IsOffered (plan_fields c.args.plan.now) records c.args.offered.now =
    subst (λ (plan : PlanFields). IsOffered plan records c.args.offered.now) (sym c.requires.plan) stands in
    subst (λ (plan : PlanFields). OnOk c.offer.result (IsOffered plan (records ++ Some wanted ∷ []) c.offer.new.self)) c.requires.plan
    (of_wanted (λ (bytes : List ℕ). OnOk c.offer.result (IsOffered (plan_fields c.args.plan.now) (records ++ Some bytes ∷ []) c.offer.new.self))
    _ wanted (c.offer.ensures.stands records before) (search rules))
