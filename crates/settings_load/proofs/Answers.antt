-- One answer: a file that is refused gives no plan, and is refused for one thing.
use Rattle.std.proofs.Common.{◌≡◌, ◌<◌, ◌≤◌, List, ℕ, length, ap, refl, subst, arith, Option, None, Some, IfSome}
use Rattle.ipe_io.specs.Counts.{longest_file}
use Rattle.plan_spec.specs.Plan.{PlanFields}
use Rattle.settings_spec.specs.Keys.{SettingsFault}
use Rattle.settings_spec.specs.Refusal.{IsAccepted, IsRefused}
use Rattle.settings_spec.proofs.OneAnswer.{refusal_is_one, acceptance_is_no_refusal}
use Rattle.settings_load.specs.Settings.{Refusal, too_long, refused, IsRefusedFile, IsRefusedAs, IsAcceptedFile}

pub one_refusal : (bytes : List ℕ) (one other : Refusal) → IsRefusedFile bytes one → IsRefusedFile bytes other → one ≡ other
one_refusal bytes too_long too_long a b = refl
one_refusal bytes too_long (refused g) a b = absurd (omega (arith, a, b.0))
one_refusal bytes (refused f) too_long a b = absurd (omega (arith, a.0, b))
one_refusal bytes (refused f) (refused g) a b = ap (λ h. refused h) (refusal_is_one bytes f g a.1 b.1)

pub not_both : (bytes : List ℕ) (plan : PlanFields) (refusal : Refusal) → IsAcceptedFile bytes plan → IsRefusedFile bytes refusal → ⊥
not_both bytes plan too_long a b = omega (arith, a.short, b)
not_both bytes plan (refused f) a b = acceptance_is_no_refusal bytes plan f a.accepted b.1

-- what was loaded gave a plan, so the file is not refused
pub gives_a_plan : (file : Option (List ℕ)) (loaded bytes : List ℕ) (plan : PlanFields) (refusal : Refusal) → file ≡ Some loaded
    → length loaded ≤ longest_file → IsAccepted loaded plan → file ≡ Some bytes → IsRefusedFile bytes refusal → ⊥
gives_a_plan file loaded bytes plan refusal told short accepted is refuses =
    let same : bytes ≡ loaded = cc in
    not_both bytes plan refusal (record { short = rw same short; accepted = rw same accepted }) refuses

-- what was loaded is refused for a fault, so the file is refused for it alone
pub gives_its_fault : (file : Option (List ℕ)) (loaded bytes : List ℕ) (fault : SettingsFault) (refusal : Refusal) → file ≡ Some loaded
    → length loaded ≤ longest_file → IsRefused loaded fault → file ≡ Some bytes → IsRefusedFile bytes refusal → refused fault ≡ refusal
gives_its_fault file loaded bytes fault refusal told short refuses is other =
    let same : bytes ≡ loaded = cc in
    one_refusal bytes (refused fault) refusal (rw same short, rw same refuses) other

-- a file that was too long is refused for that, known or not
pub too_long_as : (file : Option (List ℕ)) → IfSome file (λ held. longest_file < length held) → IsRefusedAs file too_long
too_long_as None long = refl
too_long_as (Some bytes) long = long

-- one that is known, for what its bytes are
pub known_as : (file : Option (List ℕ)) (bytes : List ℕ) (refusal : Refusal) → file ≡ Some bytes → IsRefusedFile bytes refusal → IsRefusedAs file refusal
known_as None bytes refusal is refuses = absurd (cc)
known_as (Some x) bytes refusal is refuses = let same : bytes ≡ x = cc in subst (λ (b : List ℕ). IsRefusedFile b refusal) same refuses

-- and so the other way round
pub refused_as : (file : Option (List ℕ)) (bytes : List ℕ) (refusal : Refusal) → file ≡ Some bytes → IsRefusedAs file refusal → IsRefusedFile bytes refusal
refused_as None bytes refusal is refuses = absurd (cc)
refused_as (Some x) bytes refusal is refuses = let same : x ≡ bytes = cc in subst (λ (b : List ℕ). IsRefusedFile b refusal) same refuses

pub unknown_as : (file : Option (List ℕ)) (refusal : Refusal) → IsRefusedAs file refusal → ((bytes : List ℕ) → file ≡ Some bytes → ⊥) → refusal ≡ too_long
unknown_as None refusal refuses none = refuses
unknown_as (Some x) refusal refuses none = absurd (none x refl)
