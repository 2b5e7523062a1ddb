-- Whole plans: each version is a plan, and no PID stands twice in all versions.
use Rattle.std.proofs.Common.{◌≡◌, ◌⊎◌, inl, inr, ℕ, ◌<◌, ◌≤◌, Bool, true, false, not, ◌&&◌, ◌||◌, eqb, leb, List, [], ◌∷◌, length, flat_map, refl, sym, ap, ◌∙◌, arith, Option, Some}
use Rattle.std.specs.Prelude.{is_some}
use Rattle.std.specs.List.{list_all, list_any, range_with_len}
use Rattle.std.proofs.lemmas.Bool.{and_parts, eqb-true, eq-eqb}
use Rattle.std.proofs.lemmas.List.{length-map}
use Rattle.plan_spec.specs.Plan.{ServiceFields, ChangeFields, PlanFields, pid_of, table_pids}
use Rattle.plan_spec.specs.Changes.{services_in, plan_in, pid_in, has_pid, pids_in, all_pids, rises_from, moves_wrongly, has_wrong_change}
use Rattle.plan_spec.specs.Valid.{is_plan, is_plan_of_settings, is_plan_of_pid}
use Rattle.plan_spec.specs.Wholes.{is_valid_change, has_valid_changes, is_whole_of_settings, is_whole_of_pid, is_whole_plan}
use Rattle.plan_law.proofs.Lists.{neither, not_false}
use Rattle.plan_law.proofs.Pids.{is_in, twice, pid_is_in}
use Rattle.plan_law.proofs.Kept.{length-services_in}
use Rattle.plan_law.proofs.Alone.{right_alone}
use Rattle.plan_law.proofs.Versions.{each_version}
use Rattle.stream_spec.specs.Services.{kind_at, IsPidOf}
use Rattle.stream_law.proofs.Plans.{checks, sendable}
use Rattle.stream_law.proofs.Lists.{contained_is_in, twice_parts, in_lists, one_not_twice, lists_apart}
use Rattle.stream_law.proofs.Kept.{pid_of_version}
use Rattle.stream_law.proofs.PidsIn.{of_a_version}

-- What is asked of changes.

either : (a b : Bool) → (a || b) ≡ true → (a ≡ true) ⊎ (b ≡ true)
either true b is = inl refl
either false b is = inr is

pub no_item : {X : Type 0} (xs : List X) → length xs ≤ 0 → xs ≡ []
no_item [] none = refl
no_item (x ∷ xs) none = absurd (omega (arith, none))

record HasRightChanges (plan : PlanFields) : Type 0 where
  few : length plan.changes ≤ 31
  right : has_wrong_change plan ≡ false

of_settings : (plan : PlanFields) → is_whole_of_settings plan ≡ true → HasRightChanges plan
unfolding is_whole_of_settings has_valid_changes
of_settings plan whole =
    let changes = (and_parts (eqb plan.version 0) _ whole).1 in
    let valid = (and_parts (leb (length plan.changes) 31 && (list_all is_valid_change plan.changes && (eqb (length plan.changes) 0 || is_some plan.table))) _ changes).0 in
    let right = (and_parts (leb (length plan.changes) 31 && (list_all is_valid_change plan.changes && (eqb (length plan.changes) 0 || is_some plan.table))) _ changes).1 in
    record {
      few = no_more (length plan.changes) (and_parts (leb (length plan.changes) 31) _ valid).0;
      right = not_false (has_wrong_change plan) (and_parts (not (has_wrong_change plan)) _ right).0;
    }
  where
    no_more : (n : ℕ) → leb n 31 ≡ true → n ≤ 31
    no_more n e = grind (arith, e)

of_pid : (plan : PlanFields) → is_whole_of_pid plan ≡ true → HasRightChanges plan
unfolding is_whole_of_pid
of_pid plan whole =
    let parts = and_parts (eqb plan.version 0) (eqb (length plan.changes) 0 && is_plan_of_pid plan) whole in
    let rest = and_parts (eqb (length plan.changes) 0) (is_plan_of_pid plan) parts.1 in
    let none : plan.changes ≡ [] = no_item plan.changes (omega (arith, eqb-true (length plan.changes) 0 rest.0)) in
    let accepted : is_plan plan ≡ true = or_second (is_plan_of_settings plan) (is_plan_of_pid plan) rest.1 in
    record {
      few = omega (arith, ap (λ (l : List ChangeFields). length l) none);
      right = right_alone plan (eqb-true plan.version 0 parts.0) none (checks plan accepted).0;
    }
  where
    or_second : (a b : Bool) → b ≡ true → (a || b) ≡ true
    or_second true b is = refl
    or_second false b is = is

module _ (plan : PlanFields) (whole : is_whole_plan plan ≡ true) where
  has_right_changes : HasRightChanges plan
  has_right_changes = by_kind (either (is_whole_of_settings plan) (is_whole_of_pid plan) whole)
    where
      by_kind : (is_whole_of_settings plan ≡ true) ⊎ (is_whole_of_pid plan ≡ true) → HasRightChanges plan
      by_kind (inl settings) = of_settings plan settings
      by_kind (inr pid) = of_pid plan pid

  pub few_changes : length plan.changes ≤ 31
  few_changes = has_right_changes.few

  pub version_accepted : (version : ℕ) → version ≤ length plan.changes → is_plan (plan_in plan version) ≡ true
  version_accepted version within = each_version plan version whole (omega (arith, within))

  none_twice : twice (all_pids plan) ≡ false
  none_twice =
      (neither (list_any (moves_wrongly plan) plan.changes) (twice (all_pids plan))
      (neither (not (rises_from 2 plan.changes)) (list_any (moves_wrongly plan) plan.changes || twice (all_pids plan)) has_right_changes.right).1).1

  -- The PIDs of a service are of none other, and not of the INT.

  abbrev all : List ℕ
  all = flat_map (pids_in plan) (range_with_len 0 (length plan.services))

  services_not_twice : twice all ≡ false
  services_not_twice = (twice_parts (table_pids plan.table) all none_twice).0

  pub table_apart : (k pid other : ℕ) → k < length plan.services → is_in pid (pids_in plan k) ≡ true → table_pids plan.table ≡ other ∷ [] → eqb other pid ≡ false
  table_apart k pid other known own is = by_test (eqb other pid) refl
    where
      of_table : is_in other (table_pids plan.table) ≡ true
      of_table = ap (λ (l : List ℕ). is_in other l) is ∙ ap (λ (b : Bool). b || false) (eq-eqb other other refl)

      by_test : (same : Bool) → eqb other pid ≡ same → same ≡ false
      by_test false e = refl
      by_test true e =
          let there : is_in other (pids_in plan k) ≡ true = ap (λ (n : ℕ). is_in n (pids_in plan k)) (eqb-true other pid e) ∙ own in
          let behind : is_in other all ≡ true = in_lists (pids_in plan) other k 0 (length plan.services) k (omega arith) known there in
          let absent : is_in other all ≡ false = (twice_parts (table_pids plan.table) all none_twice).1 other of_table in
          absurd (cc)

  pub services_apart : (j k a b : ℕ) → eqb j k ≡ false → j < length plan.services → k < length plan.services
      → is_in a (pids_in plan j) ≡ true → is_in b (pids_in plan k) ≡ true → eqb a b ≡ false
  services_apart j k a b apart known known2 own own2 = by_test (eqb a b) refl
    where
      by_test : (same : Bool) → eqb a b ≡ same → same ≡ false
      by_test false e = refl
      by_test true e =
          let there : is_in a (pids_in plan k) ≡ true = ap (λ (n : ℕ). is_in n (pids_in plan k)) (eqb-true a b e) ∙ own2 in
          absurd (lists_apart (pids_in plan) a (length plan.services) j k apart known known2 services_not_twice own there)

  pub pids_not_twice : (k : ℕ) → k < length plan.services → twice (pids_in plan k) ≡ false
  pids_not_twice k known = one_not_twice (pids_in plan) k 0 (length plan.services) k (omega arith) known services_not_twice

  -- Service k in a version, where it has this PID in one.
  module _ (k pid : ℕ) (own : IsPidOf plan k pid) (version : ℕ) (within : version ≤ length plan.changes) where
    its_pid : is_in pid (pids_in plan k) ≡ true
    its_pid = contained_is_in pid (pids_in plan k) own.own

    pub pid_most : pid ≤ 8190
    pid_most = by_version (of_a_version plan k pid its_pid)
      where
        by_version : (v : ℕ) × (v ≤ length plan.changes) × (pid_in plan v k ≡ Some pid) → pid ≤ 8190
        by_version (v, there, is) =
            (sendable (plan_in plan v) (version_accepted v there)).service_most k pid
            (omega (arith, own.service, length-services_in plan v, length-map (services_in plan v) (λ (service : ServiceFields). service.kind)))
            (sym (pid_of_version plan v k) ∙ is)

    pub known_in : k < length (plan_in plan version).services
    known_in = omega (arith, own.service, length-services_in plan version)

    pub table_has_other : (other : ℕ) → table_pids (plan_in plan version).table ≡ other ∷ [] → eqb other pid ≡ false
    table_has_other other is = table_apart k pid other own.service its_pid is

    -- no other service has the PID, and where service k has another in the version, none has
    pub others_have_other : has_pid (pid_in plan version k) pid ≡ false → (j other : ℕ) → j < length (plan_in plan version).services
        → pid_of (kind_at (plan_in plan version) j) ≡ Some other → eqb other pid ≡ false
    others_have_other not_own j other known is = by_service (eqb j k) refl
      where
        in_version : pid_in plan version j ≡ Some other
        in_version = pid_of_version plan version j ∙ is

        own_other : j ≡ k → eqb other pid ≡ false
        own_other same = sym (ap (λ (i : ℕ). has_pid (pid_in plan version i) pid) (sym same) ∙ ap (λ (o : Option ℕ). has_pid o pid) in_version) ∙ not_own

        by_service : (same : Bool) → eqb j k ≡ same → eqb other pid ≡ false
        by_service true e = own_other (eqb-true j k e)
        by_service false e =
            services_apart j k other pid e (omega (arith, known, length-services_in plan version)) own.service
            (pid_is_in plan version j other (omega (arith, within)) in_version) its_pid
