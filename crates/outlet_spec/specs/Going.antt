-- Datagrams of a service delivered one call after another, up to the first that is refused.
use Rattle.std.specs.Prelude.{◌≡◌, ℕ, List, Result, OnOk, OnErr}
use Rattle.wire_spec.specs.Causes.{HasCause}
use Rattle.outlet_spec.specs.Pairs.{pairs_of, Delivers, DeliversFront}

-- an outlet, and how the deliveries to it went
pub record Going (T A E : Type 0) : Type 0 where
  pub outlet : T
  pub went : Result A E

-- The outlet's words stand before: what it stands for, what it refused, its services and its faults.
module _ {T A E : Type 0} (StandsFor : T → List (ℕ × List ℕ) → Type 0) (Refused : T → ℕ → List ℕ → Type 0) where
  -- where none was refused before, these datagrams of a service were delivered, or the first of them and the next was refused
  pub record DeliversAfter (service : ℕ) (datagrams : List (List ℕ)) (old new : Going T A E) : Type 0 where
    pub told : OnOk old.went (OnOk new.went (Delivers (StandsFor old.outlet) (StandsFor new.outlet) (pairs_of service datagrams)))
    pub failed : OnOk old.went (OnErr new.went (DeliversFront (StandsFor old.outlet) (StandsFor new.outlet) (Refused new.outlet) (pairs_of service datagrams)))

module _ {T A E : Type 0} (services faults : T → ℕ) where
  -- a refusal has its cause, and after it nothing is offered
  pub record GoesOn (old new : Going T A E) : Type 0 where
    pub services_are : services new.outlet ≡ services old.outlet
    pub cause : OnOk old.went (HasCause (faults old.outlet) (faults new.outlet) new.went)
    pub stays : OnErr old.went ((new.went ≡ old.went) × (new.outlet ≡ old.outlet))
