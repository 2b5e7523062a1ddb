-- Calls that hand to an outlet, one after another: after the first that is refused nothing is offered.
use Rattle.std.proofs.Common.{◌≡◌, ℕ, List, [], ◌∷◌, ◌++◌, refl, ap, sym, ◌∙◌, subst, arith, Result, Ok, Err, OnOk, OnErr}
use Rattle.wire_spec.specs.Causes.{HasCause}
use Rattle.outlet_spec.specs.Pairs.{pairs_of, Delivers, DeliversFront}
use Rattle.outlet_spec.specs.Going.{Going, DeliversAfter, GoesOn}
use Rattle.outlet_spec.proofs.Pairs.{pairs_of-append, delivers_none, delivers_then, delivers_same, front_one, front_then, front_before}

-- The outlet stood for a before both calls, for b between them and for c after them.
module _ {T A E : Type 0} (StandsFor : T → List (ℕ × List ℕ) → Type 0) (Refused : T → ℕ → List ℕ → Type 0) (xs ys all : List (ℕ × List ℕ)) (are : all ≡ xs ++ ys) where
  pub told_both : (a b c : T) (was mid now : Result A E) → OnOk was (OnOk mid (Delivers (StandsFor a) (StandsFor b) xs))
      → OnOk mid (OnOk now (Delivers (StandsFor b) (StandsFor c) ys)) → OnErr mid ((now ≡ mid) × (c ≡ b))
      → OnOk was (OnOk now (Delivers (StandsFor a) (StandsFor c) all))
  told_both a b c (Err w) mid now one two stays = tt
  told_both a b c (Ok w) mid (Err n) one two stays = tt
  told_both a b c (Ok w) (Err m) (Ok n) one two stays = absurd (cc)
  told_both a b c (Ok w) (Ok m) (Ok n) one two stays =
      delivers_same (StandsFor a) (StandsFor c) (xs ++ ys) all are (delivers_then (StandsFor a) (StandsFor b) (StandsFor c) xs ys one two)

  pub failed_either : (a b c : T) (was mid now : Result A E) → OnOk was (OnOk mid (Delivers (StandsFor a) (StandsFor b) xs))
      → OnOk was (OnErr mid (DeliversFront (StandsFor a) (StandsFor b) (Refused b) xs))
      → OnOk mid (OnErr now (DeliversFront (StandsFor b) (StandsFor c) (Refused c) ys)) → OnErr mid ((now ≡ mid) × (c ≡ b))
      → OnOk was (OnErr now (DeliversFront (StandsFor a) (StandsFor c) (Refused c) all))
  failed_either a b c (Err w) mid now told one two stays = tt
  failed_either a b c (Ok w) mid (Ok n) told one two stays = tt
  failed_either a b c (Ok w) (Ok m) (Err n) told one two stays = front_then (StandsFor a) (StandsFor b) (StandsFor c) (Refused c) xs ys all are told two
  failed_either a b c (Ok w) (Err m) (Err n) told one two stays =
      subst (λ (t : T). DeliversFront (StandsFor a) (StandsFor t) (Refused t) all) (sym stays.1)
      (front_before (StandsFor a) (StandsFor b) (Refused b) xs ys all are one)

module _ {T A E : Type 0} (faults : T → ℕ) where
  pub caused_both : (a b c : T) (was mid now : Result A E) → OnOk was (HasCause (faults a) (faults b) mid) → OnOk mid (HasCause (faults b) (faults c) now)
      → OnErr mid ((now ≡ mid) × (c ≡ b)) → OnOk was (HasCause (faults a) (faults c) now)
  caused_both a b c (Err w) mid now one two stays = tt
  caused_both a b c (Ok w) (Ok m) now one two stays = subst (λ (n : ℕ). HasCause n (faults c) now) one.kept two
  caused_both a b c (Ok w) (Err m) now one two stays =
      subst (λ (t : T). HasCause (faults a) (faults t) now) (sym stays.1)
      (subst (λ (r : Result A E). HasCause (faults a) (faults b) r) (sym stays.0) one)

  pub caused_none : (a : T) (went : Result A E) → OnOk went (HasCause (faults a) (faults a) went)
  caused_none a (Ok x) = record { later = omega arith; failed = tt; kept = refl }
  caused_none a (Err x) = tt

module _ {T A E : Type 0} where
  pub stays_both : (a b c : T) (was mid now : Result A E) → OnErr was ((mid ≡ was) × (b ≡ a)) → OnErr mid ((now ≡ mid) × (c ≡ b)) → OnErr was ((now ≡ was) × (c ≡ a))
  stays_both a b c (Ok w) mid now one two = tt
  stays_both a b c (Err w) (Ok m) now one two = absurd (cc)
  stays_both a b c (Err w) (Err m) now one two = (two.0 ∙ one.0, two.1 ∙ one.1)

  pub stays_none : (a : T) (went : Result A E) → OnErr went ((went ≡ went) × (a ≡ a))
  stays_none a (Ok x) = tt
  stays_none a (Err x) = (refl, refl)

module _ {T A E : Type 0} (StandsFor : T → List (ℕ × List ℕ) → Type 0) (Refused : T → ℕ → List ℕ → Type 0) (services faults : T → ℕ) (service : ℕ) where
  -- nothing
  pub goes_nowhere : (one : Going T A E) → GoesOn services faults one one
  goes_nowhere one = record { services_are = refl; cause = caused_none faults one.outlet one.went; stays = stays_none one.outlet one.went }

  pub after_none : (one : Going T A E) → DeliversAfter StandsFor Refused service [] one one
  after_none one = record { told = told_of one.went; failed = failed_of one.went }
    where
      told_of : (went : Result A E) → OnOk went (OnOk went (Delivers (StandsFor one.outlet) (StandsFor one.outlet) []))
      told_of (Ok x) = delivers_none (StandsFor one.outlet)
      told_of (Err x) = tt

      failed_of : (went : Result A E) → OnOk went (OnErr went (DeliversFront (StandsFor one.outlet) (StandsFor one.outlet) (Refused one.outlet) []))
      failed_of (Ok x) = tt
      failed_of (Err x) = tt

  pub after_same : (xs ys : List (List ℕ)) (old new : Going T A E) → xs ≡ ys → DeliversAfter StandsFor Refused service xs old new → DeliversAfter StandsFor Refused service ys old new
  after_same xs ys old new same delivers = subst (λ (l : List (List ℕ)). DeliversAfter StandsFor Refused service l old new) same delivers

  -- one after the other
  pub goes_then : (a b c : Going T A E) → GoesOn services faults a b → GoesOn services faults b c → GoesOn services faults a c
  goes_then a b c one two = record {
    services_are = two.services_are ∙ one.services_are;
    cause = caused_both faults a.outlet b.outlet c.outlet a.went b.went c.went one.cause two.cause two.stays;
    stays = stays_both a.outlet b.outlet c.outlet a.went b.went c.went one.stays two.stays;
  }

  pub after_then : (xs ys : List (List ℕ)) (a b c : Going T A E) → DeliversAfter StandsFor Refused service xs a b → DeliversAfter StandsFor Refused service ys b c
      → GoesOn services faults b c → DeliversAfter StandsFor Refused service (xs ++ ys) a c
  after_then xs ys a b c one two goes = record {
    told = told_both StandsFor Refused (pairs_of service xs) (pairs_of service ys) (pairs_of service (xs ++ ys)) (pairs_of-append service xs ys)
        a.outlet b.outlet c.outlet a.went b.went c.went one.told two.told goes.stays;
    failed = failed_either StandsFor Refused (pairs_of service xs) (pairs_of service ys) (pairs_of service (xs ++ ys)) (pairs_of-append service xs ys)
        a.outlet b.outlet c.outlet a.went b.went c.went one.told one.failed two.failed goes.stays;
  }

  -- one datagram is offered
  pub after_one : (datagram : List ℕ) (a b : T) (x : A) (now : Result A E)
      → OnOk now ((pairs : List (ℕ × List ℕ)) → StandsFor a pairs → StandsFor b (pairs ++ (service, datagram) ∷ []))
      → OnErr now (Refused b service datagram) → OnErr now ((pairs : List (ℕ × List ℕ)) → StandsFor a pairs → StandsFor b pairs)
      → DeliversAfter StandsFor Refused service (datagram ∷ []) (record { outlet = a; went = Ok x }) (record { outlet = b; went = now })
  after_one datagram a b x now written refused unchanged = record {
    told = written;
    failed = front_one now (StandsFor a) (StandsFor b) (Refused b) service datagram (pairs_of service (datagram ∷ [])) refl refused unchanged;
  }

  -- none is offered after one that was refused
  pub after_refused : (xs : List (List ℕ)) (a b : T) (x : E) (now : Result A E)
      → DeliversAfter StandsFor Refused service xs (record { outlet = a; went = Err x }) (record { outlet = b; went = now })
  after_refused xs a b x now = record { told = tt; failed = tt }
