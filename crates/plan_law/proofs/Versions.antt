-- Each version of a whole plan is a plan by itself.
use Rattle.std.proofs.Common.{◌≡◌, ◌⊎◌, inl, inr, ℕ, ◌+◌, ◌<◌, Bool, true, false, not, ◌&&◌, ◌||◌, List, [], ◌∷◌, length, refl, ap, sym, ◌∙◌, arith, eqb}
use Rattle.std.proofs.lemmas.Bool.{and_parts, eqb-true}
use Rattle.plan_spec.specs.Plan.{ChangeFields, PlanFields}
use Rattle.plan_spec.specs.Signalling.{table_packets}
use Rattle.plan_spec.specs.Changes.{plan_in, has_wrong_change}
use Rattle.plan_spec.specs.Valid.{has_valid_top, is_in_range, is_consistent, is_plan_of_settings, is_plan_of_pid, is_plan}
use Rattle.plan_spec.specs.Wholes.{has_valid_changes, is_whole_of_settings, is_whole_of_pid, is_whole_plan}
use Rattle.plan_law.proofs.Lists.{all_at}
use Rattle.plan_law.proofs.Alone.{plan_alone}

either : (a b : Bool) → (a || b) ≡ true → (a ≡ true) ⊎ (b ≡ true)
either true b is = inl refl
either false b is = inr is

or_first : (a b : Bool) → a ≡ true → (a || b) ≡ true
or_first true b is = refl
or_first false b is = absurd (cc)

or_second : (a b : Bool) → b ≡ true → (a || b) ≡ true
or_second true b is = refl
or_second false b is = is

no_item : {X : Type 0} (xs : List X) → length xs ≡ 0 → xs ≡ []
no_item [] none = refl
no_item (x ∷ xs) none = absurd (omega (arith, none))

pub versions_of_settings : (plan : PlanFields) (version : ℕ) → is_whole_of_settings plan ≡ true → version < length plan.changes + 1
    → is_plan_of_settings (plan_in plan version) ≡ true
unfolding is_whole_of_settings
versions_of_settings plan version whole within =
    let changes = (and_parts (eqb plan.version 0) _ whole).1 in
    let right = (and_parts (has_valid_changes plan) _ changes).1 in
    let each = (and_parts (not (has_wrong_change plan)) _ right).1 in
    ap (λ v. is_plan_of_settings (plan_in plan v)) (zero_is version)
    ∙ all_at (λ v. is_plan_of_settings (plan_in plan v)) 0 (length plan.changes + 1) version each within
  where
    zero_is : (n : ℕ) → n ≡ 0 + n
    zero_is n = omega arith

pub first_of_settings : (plan : PlanFields) → is_whole_of_settings plan ≡ true → plan.version ≡ 0
unfolding is_whole_of_settings
first_of_settings plan whole = eqb-true plan.version 0 (and_parts (eqb plan.version 0) _ whole).0

record OfPid (plan : PlanFields) : Type 0 where
  first : plan.version ≡ 0
  none : plan.changes ≡ []
  plan_is : is_plan_of_pid plan ≡ true

of_pid : (plan : PlanFields) → is_whole_of_pid plan ≡ true → OfPid plan
unfolding is_whole_of_pid
of_pid plan whole =
    let parts = and_parts (eqb plan.version 0) (eqb (length plan.changes) 0 && is_plan_of_pid plan) whole in
    let rest = and_parts (eqb (length plan.changes) 0) (is_plan_of_pid plan) parts.1 in
    record { first = eqb-true plan.version 0 parts.0; none = no_item plan.changes (eqb-true (length plan.changes) 0 rest.0); plan_is = rest.1 }

pub each_version : (plan : PlanFields) (version : ℕ) → is_whole_plan plan ≡ true → version < length plan.changes + 1 → is_plan (plan_in plan version) ≡ true
each_version plan version whole within = elim (either (is_whole_of_settings plan) (is_whole_of_pid plan) whole) [
  | inl settings ↦
      or_first (is_plan_of_settings (plan_in plan version)) (is_plan_of_pid (plan_in plan version)) (versions_of_settings plan version settings within)
  | inr pid ↦
      let it : OfPid plan = of_pid plan pid in
      let only : version ≡ 0 = omega (arith, within, ap (λ (l : List ChangeFields). length l) it.none) in
      or_second (is_plan_of_settings (plan_in plan version)) (is_plan_of_pid (plan_in plan version))
      (ap (λ v. is_plan_of_pid (plan_in plan v)) only ∙ ap is_plan_of_pid (plan_alone plan it.first it.none) ∙ it.plan_is)
]

pub first_is_zero : (plan : PlanFields) → is_whole_plan plan ≡ true → plan.version ≡ 0
first_is_zero plan whole = elim (either (is_whole_of_settings plan) (is_whole_of_pid plan) whole) [
  | inl settings ↦ first_of_settings plan settings
  | inr pid ↦ (of_pid plan pid).first
]

-- what changes a plan later is not asked of it by itself
same_by_itself : (plan : PlanFields) (version : ℕ) (changes : List ChangeFields)
    → is_plan (record plan { version = version; changes = [] }) ≡ is_plan (record plan { version = version; changes = changes })
unfolding has_valid_top is_in_range is_consistent is_plan_of_settings is_plan_of_pid table_packets
same_by_itself plan version changes = refl

pub whole_is_plan : (plan : PlanFields) → is_whole_plan plan ≡ true → is_plan plan ≡ true
whole_is_plan plan whole =
    ap (λ (v : ℕ). is_plan (record plan { version = v })) (first_is_zero plan whole)
    ∙ sym (same_by_itself plan 0 plan.changes)
    ∙ each_version plan 0 whole (omega arith)
