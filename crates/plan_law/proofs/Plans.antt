-- What holds of every plan: how many services it has, their names, and that none of its changes is wrong.
use Rattle.std.proofs.Common.{◌≡◌, inl, inr, ℕ, ◌<◌, ◌≤◌, Bool, true, false, not, ◌&&◌, Some, length, eqb, refl, ap, sym, ◌∙◌, arith}
use Rattle.std.specs.Prelude.{nat_le, slice_get}
use Rattle.std.specs.List.{list_all}
use Rattle.std.proofs.lemmas.Bool.{eqb-true, leb-true, and_parts, or_cases}
use Rattle.std.proofs.lemmas.List.{nil_from_length}
use Rattle.std.proofs.lemmas.List.Recursion.{and_at}
use Rattle.std.proofs.lemmas.Option.{slice_get_within, get_or_from_slice_get}
use Rattle.plan_spec.specs.Plan.{ServiceFields, PlanFields, is_baseband}
use Rattle.plan_spec.specs.Checks.{is_between, is_service_name, has_wrong_carrier, has_same_name, has_same_pid}
use Rattle.plan_spec.specs.Changes.{has_wrong_change}
use Rattle.plan_spec.specs.Valid.{most_services, is_valid_rule, has_valid_values, is_valid_service, is_valid_frame_size, is_valid_int, has_valid_top, is_in_range, is_consistent, is_plan_of_settings, is_plan_of_pid, is_plan}
use Rattle.plan_spec.specs.Wholes.{has_valid_changes, is_whole_of_settings, is_whole_of_pid, is_whole_plan}
use Rattle.plan_law.proofs.Lists.{not_false}
use Rattle.plan_law.proofs.Alone.{right_alone}

-- The ranges of its values.

record IsInRange (plan : PlanFields) : Type 0 where
  pub least : ℕ
  pub top : has_valid_top plan ≡ true
  pub services : list_all (is_valid_service least) plan.services ≡ true

in_range : (least : ℕ) (plan : PlanFields) → is_in_range least plan ≡ true → IsInRange plan
unfolding is_in_range
in_range least plan valid = let (top, services) = and_parts (has_valid_top plan) (list_all (is_valid_service least) plan.services) valid in record { least = least; top = top; services = services }

ranges : (plan : PlanFields) → is_plan plan ≡ true → IsInRange plan
unfolding is_plan_of_settings is_plan_of_pid
ranges plan valid = elim (or_cases (is_plan_of_settings plan) (is_plan_of_pid plan) valid) [
  | inl settings ↦ in_range 32 plan (and_parts (is_in_range 32 plan) _ settings).0
  | inr pid ↦ in_range 0 plan (and_parts (is_in_range 0 plan) _ pid).0
]

count_by : (bb : Bool) (n : ℕ) → is_between 1 (most_services bb) n ≡ true → (0 < n) × (n ≤ 64)
count_by true n e = (leb-true 1 n (and_parts (nat_le 1 n) (nat_le n 16) e).0, omega (arith, leb-true n 16 (and_parts (nat_le 1 n) (nat_le n 16) e).1))
count_by false n e = (leb-true 1 n (and_parts (nat_le 1 n) (nat_le n 64) e).0, leb-true n 64 (and_parts (nat_le 1 n) (nat_le n 64) e).1)

pub services_count : (plan : PlanFields) → is_plan plan ≡ true → (0 < length plan.services) × (length plan.services ≤ 64)
unfolding has_valid_top
services_count plan valid =
    count_by (is_baseband plan) (length plan.services) (and_parts (is_between 1 (most_services (is_baseband plan)) (length plan.services)) _
    (and_parts (is_valid_int plan.table) _ (and_parts (is_valid_frame_size plan.frame_bytes) _
    (and_parts (is_between 100 1000000 plan.cycle) _ (and_parts (is_between 1 1000000 plan.packet_rate) _ (ranges plan valid).top).1).1).1).1).0

-- The names.

pub services_named : (plan : PlanFields) → is_plan plan ≡ true → (k : ℕ) (service : ServiceFields) → slice_get plan.services k ≡ Some service → is_service_name service.name ≡ true
services_named plan valid k service there =
    let is_valid : ServiceFields → Bool = is_valid_service (ranges plan valid).least in
    let own : is_valid service ≡ true =
    ap is_valid (sym (get_or_from_slice_get plan.services k service service there))
    ∙ and_at (list_all is_valid) is_valid refl (λ x xs. refl) plan.services k service (slice_get_within plan.services k service there) (ranges plan valid).services in
    (and_parts (is_service_name service.name) _ (and_parts (has_valid_values (ranges plan valid).least service) (list_all is_valid_rule service.rules && list_all is_valid_rule service.urgent) own).0).0

-- Its changes.

right_of_settings : (plan : PlanFields) → is_whole_of_settings plan ≡ true → has_wrong_change plan ≡ false
unfolding is_whole_of_settings
right_of_settings plan whole =
    let changes = (and_parts (eqb plan.version 0) _ whole).1 in
    not_false (has_wrong_change plan) (and_parts (not (has_wrong_change plan)) _ (and_parts (has_valid_changes plan) _ changes).1).0

differ : (plan : PlanFields) → is_consistent plan ≡ true → has_same_pid plan ≡ false
unfolding is_consistent
differ plan all =
    let names = (and_parts (not (has_wrong_carrier plan)) _ all).1 in
    not_false (has_same_pid plan) (and_parts (not (has_same_pid plan)) _ (and_parts (not (has_same_name plan)) _ names).1).0

right_of_pid : (plan : PlanFields) → is_whole_of_pid plan ≡ true → has_wrong_change plan ≡ false
unfolding is_whole_of_pid is_plan_of_pid
right_of_pid plan whole =
    let parts = and_parts (eqb plan.version 0) _ whole in
    let rest = and_parts (eqb (length plan.changes) 0) (is_plan_of_pid plan) parts.1 in
    right_alone plan (eqb-true plan.version 0 parts.0) (nil_from_length plan.changes (eqb-true (length plan.changes) 0 rest.0)) (differ plan (and_parts (is_consistent plan) _ (and_parts (is_in_range 0 plan) _ rest.1).1).0)

pub changes_right : (plan : PlanFields) → is_whole_plan plan ≡ true → has_wrong_change plan ≡ false
changes_right plan whole = elim (or_cases (is_whole_of_settings plan) (is_whole_of_pid plan) whole) [
  | inl settings ↦ right_of_settings plan settings
  | inr pid ↦ right_of_pid plan pid
]
