-- A service that some changes move, and one that is not there.
use Rattle.std.proofs.Common.{◌≡◌, ℕ, ◌≤◌, List, [], ◌∷◌, length, get_or, zero, suc, Option, Some, None, refl, arith}
use Rattle.plan_spec.specs.Plan.{ServiceFields, MovedFields}
use Rattle.plan_spec.specs.Changes.{no_service}
use Rattle.plan.specs.Moves.{services_after, service_after}
use Rattle.plan.specs.declared.service.Service.{Service}
use Rattle.plan.specs.declared.change.Change.{Change}
use Rattle.plan.proofs.VersionLemmas.{moved_so, length-services_after}

-- a move leaves its urgent rules
pub urgent_stays : (service : ServiceFields) (found : Option MovedFields) → (moved_so service found).urgent ≡ service.urgent
urgent_stays service None = refl
urgent_stays service (Some moved) = refl

-- one that is not there
pub no_service_after : (services : List Service) (changes : List Change) (k : ℕ) → length services ≤ k → service_after services changes k ≡ no_service
no_service_after services changes k past = none_at (services_after services changes) k (omega (arith, past, length-services_after services changes))
  where
    none_at : (xs : List ServiceFields) (n : ℕ) → length xs ≤ n → get_or xs n no_service ≡ no_service
    none_at [] n less = refl
    none_at (x ∷ xs) zero less = absurd (omega (arith, less))
    none_at (x ∷ xs) (suc n) less = none_at xs n (omega (arith, less))
