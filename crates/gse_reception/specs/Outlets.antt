-- What a call hands to an outlet, where the calls before it went this way: datagrams of a service, up to the first that is refused.
use Rattle.std.specs.Prelude.{ℕ, List}
use Rattle.outlet_spec.specs.Going.{Going, DeliversAfter, GoesOn}

-- the outlet's words: what it stands for, what it refused, its services and its faults
module _ {T A E : Type 0} (StandsFor : T → List (ℕ × List ℕ) → Type 0) (Refused : T → ℕ → List ℕ → Type 0) (services faults : T → ℕ) where
  -- where none was refused before, these datagrams are delivered up to the first that is refused; otherwise none is offered
  pub record HandsOut (service : ℕ) (datagrams : List (List ℕ)) (old new : Going T A E) : Type 0 where
    pub delivers : DeliversAfter StandsFor Refused service datagrams old new
    pub goes : GoesOn services faults old new
