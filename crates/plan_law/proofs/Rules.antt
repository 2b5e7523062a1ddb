-- The rules by which services take datagrams are some of all their rules.
use Rattle.std.proofs.Common.{ℕ, ◌≤◌, List, [], ◌∷◌, ◌++◌, length, map, arith}
use Rattle.std.specs.Prelude.{sum_by}
use Rattle.std.proofs.lemmas.List.{length-append}
use Rattle.std.proofs.lemmas.List.Sums.{sum_by-cons}
use Rattle.plan_spec.specs.Plan.{ServiceFields}

pub rules_within : (services : List ServiceFields)
    → sum_by length (map (λ (service : ServiceFields). service.rules) services) ≤ sum_by length (map (λ (service : ServiceFields). service.rules ++ service.urgent) services)
rules_within [] = omega arith
rules_within (service ∷ services) =
    omega (
      arith,
      sum_by-cons length service.rules (map (λ (s : ServiceFields). s.rules) services),
      sum_by-cons length (service.rules ++ service.urgent) (map (λ (s : ServiceFields). s.rules ++ s.urgent) services),
      length-append service.rules service.urgent,
      rules_within services,
    )
