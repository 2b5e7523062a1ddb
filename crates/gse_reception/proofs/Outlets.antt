-- What was handed to an outlet, one call after another.
use Rattle.std.proofs.Common.{◌≡◌, ℕ, List, [], ◌++◌, sym, subst, Result, Ok, Err, OnOk, OnErr}
use Rattle.wire_spec.specs.Causes.{HasCause}
use Rattle.outlet_spec.specs.Pairs.{pairs_of, Delivers, DeliversFront}
use Rattle.outlet_spec.specs.Going.{Going}
use Rattle.outlet_spec.proofs.Going.{goes_nowhere, goes_then, after_none, after_then, after_refused}
use Rattle.gse_reception.specs.Outlets.{HandsOut}

module _ {T A E : Type 0} (StandsFor : T → List (ℕ × List ℕ) → Type 0) (Refused : T → ℕ → List ℕ → Type 0) (services faults : T → ℕ) where
  abbrev Hands : ℕ → List (List ℕ) → Going T A E → Going T A E → Type 0
  Hands service datagrams old new = HandsOut StandsFor Refused services faults service datagrams old new

  -- nothing was handed out
  pub hands_nothing : (service : ℕ) (outlet : T) (went : Result A E) → Hands service [] (record { outlet = outlet; went = went }) (record { outlet = outlet; went = went })
  hands_nothing service outlet went = record {
    delivers = after_none StandsFor Refused services faults service (record { outlet = outlet; went = went });
    goes = goes_nowhere StandsFor Refused services faults service (record { outlet = outlet; went = went });
  }

  -- some datagrams, and others after them
  pub hands_both : (service : ℕ) (xs ys : List (List ℕ)) (old mid new : Going T A E) → Hands service xs old mid → Hands service ys mid new → Hands service (xs ++ ys) old new
  hands_both service xs ys old mid new one two = record {
    delivers = after_then StandsFor Refused services faults service xs ys old mid new one.delivers two.delivers two.goes;
    goes = goes_then StandsFor Refused services faults service old mid new one.goes two.goes;
  }

  -- what is known of the faults alone, after calls that began well
  pub caused_then : (a b c : T) (mid now : Result A E) → HasCause (faults a) (faults b) mid → OnOk mid (HasCause (faults b) (faults c) now)
      → OnErr mid ((now ≡ mid) × (c ≡ b)) → HasCause (faults a) (faults c) now
  caused_then a b c (Ok m) now one two stays = subst (λ (n : ℕ). HasCause n (faults c) now) one.kept two
  caused_then a b c (Err m) now one two stays =
      subst (λ (t : T). HasCause (faults a) (faults t) now) (sym stays.1)
      (subst (λ (r : Result A E). HasCause (faults a) (faults b) r) (sym stays.0) one)

  -- a delivery, where it is known how the calls before went, and what is to be delivered
  pub hands_ok : (service : ℕ) (these datagrams : List (List ℕ)) (a b : T) (x : A) (went now : Result A E) → went ≡ Ok x → these ≡ datagrams
      → OnOk now (Delivers (StandsFor a) (StandsFor b) (pairs_of service datagrams))
      → OnErr now (DeliversFront (StandsFor a) (StandsFor b) (Refused b) (pairs_of service datagrams))
      → services b ≡ services a → HasCause (faults a) (faults b) now
      → Hands service these (record { outlet = a; went = went }) (record { outlet = b; went = now })
  hands_ok service these datagrams a b x went now is same told failed kept cause =
      subst (λ (w : Result A E). Hands service these (record { outlet = a; went = w }) (record { outlet = b; went = now })) (sym is)
      (subst (λ (d : List (List ℕ)). Hands service d (record { outlet = a; went = Ok x }) (record { outlet = b; went = now })) (sym same)
      (record { delivers = record { told = told; failed = failed }; goes = record { services_are = kept; cause = cause; stays = tt } }))

  -- none is offered after one that was refused
  pub hands_err : (service : ℕ) (datagrams : List (List ℕ)) (a : T) (x : E) (went : Result A E) → went ≡ Err x
      → Hands service datagrams (record { outlet = a; went = went }) (record { outlet = a; went = Err x })
  hands_err service datagrams a x went is =
      subst (λ (w : Result A E). Hands service datagrams (record { outlet = a; went = w }) (record { outlet = a; went = Err x })) (sym is)
      (record {
        delivers = after_refused StandsFor Refused services faults service datagrams a a x (Err x);
        goes = goes_nowhere StandsFor Refused services faults service (record { outlet = a; went = Err x });
      })
