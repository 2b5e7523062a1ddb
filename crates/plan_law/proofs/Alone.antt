-- A plan that nothing changes has one version, itself.
use Rattle.std.proofs.Common.{◌≡◌, ℕ, ◌+◌, Bool, true, false, not, ◌&&◌, ◌||◌, List, [], ◌∷◌, ◌++◌, length, map, fold, get_or, Option, Some, None, max, refl, ap, ap₂, sym, ◌∙◌, arith, eqb, cond}
use Rattle.std.specs.Prelude.{flat_map, is_some, count_by, nat_le}
use Rattle.std.specs.List.{list_all, list_any, range_with_len, filter_map, cons_option}
use Rattle.std.proofs.lemmas.Bool.{and_parts, and_from}
use Rattle.plan_spec.specs.Plan.{ChangeFields, PlanFields, pid_of, service_pids, table_pids, isis}
use Rattle.plan_spec.specs.Checks.{has_wrong_carrier, has_same_name, has_same_pid, has_wrong_count}
use Rattle.plan_spec.specs.Signalling.{table_packets}
use Rattle.plan_spec.specs.Changes.{no_service, services_in, plan_in, versions, pid_in, pids_in, with_pid_behind, version_at, records_from, records_of_version, all_pids, rises_from, moves_wrongly, has_wrong_change}
use Rattle.plan_spec.specs.Valid.{is_consistent, is_plan_of_settings, is_plan_of_pid, is_plan}
use Rattle.plan_spec.specs.Wholes.{has_wrong_rules, most_table_packets, is_valid_change, has_valid_changes, is_whole_of_settings, is_whole_of_pid, is_whole_plan}
use Rattle.plan_law.proofs.Lists.{neither, not_false, not_true}
use Rattle.plan_law.proofs.Pids.{twice, pids_by_place}

-- the plan with this version and these changes
abbrev with : PlanFields → ℕ → List ChangeFields → PlanFields
with plan version changes = record plan { version = version; changes = changes }

module _ (plan : PlanFields) (first : plan.version ≡ 0) (none : plan.changes ≡ []) where
  pub versions_alone : versions plan ≡ 0 ∷ []
  versions_alone = ap (λ (l : List ChangeFields). range_with_len 0 (length l + 1)) none

  pub plan_alone : plan_in plan 0 ≡ plan
  plan_alone = ap₂ (λ (v : ℕ) (l : List ChangeFields). with plan v l) (sym first) (sym none)

  version_is : (number : ℕ) → version_at plan number ≡ 0
  version_is number = ap (λ (l : List ChangeFields). count_by (λ (change : ChangeFields). nat_le change.at number) l) none

  records_alone_from : {R : Type 0} (number : ℕ) (records : List R) → records_from plan 0 number records ≡ records
  records_alone_from number [] = refl
  records_alone_from {R} number (r ∷ records) =
      ap (λ (n : ℕ). cond (eqb n 0) (r ∷ []) [] ++ records_from plan 0 (number + 1) records) (version_is number)
      ∙ ap (λ (l : List R). r ∷ l) (records_alone_from (number + 1) records)

  pub records_alone : {R : Type 0} (records : List R) → records_of_version plan 0 records ≡ records
  records_alone records = records_alone_from 1 records

  -- the checks over all versions are those of the plan
  or_none : (b : Bool) → (b || false) ≡ b
  or_none true = refl
  or_none false = refl

  pub rules_alone : has_wrong_rules plan ≡ has_wrong_count plan.services
  rules_alone =
      ap (list_any (λ version. has_wrong_count (services_in plan version))) versions_alone
      ∙ or_none (has_wrong_count (services_in plan 0))
      ∙ ap (λ (p : PlanFields). has_wrong_count p.services) plan_alone

  most_of_one : (n : ℕ) → max 0 n ≡ n
  most_of_one n = omega arith

  pub packets_alone : most_table_packets plan ≡ table_packets plan
  unfolding most_table_packets
  packets_alone =
      ap (λ (l : List ℕ). fold max 0 (map (λ version. table_packets (plan_in plan version)) l)) versions_alone
      ∙ most_of_one (table_packets (plan_in plan 0))
      ∙ ap table_packets plan_alone

  -- its PIDs are those of the services
  pids_alone : (k : ℕ) → pids_in plan k ≡ with_pid_behind [] (pid_of (get_or plan.services k no_service).kind)
  unfolding pids_in pid_in
  pids_alone k = ap (λ (l : List ℕ). fold with_pid_behind [] (map (λ version. pid_in plan version k) l)) versions_alone

  lists_of_one : (one : ℕ → Option ℕ) (numbers : List ℕ) → flat_map (λ k. with_pid_behind [] (one k)) numbers ≡ filter_map one numbers
  lists_of_one one [] = refl
  lists_of_one one (k ∷ numbers) = by_first (one k) (lists_of_one one numbers)
    where
      by_first : (o : Option ℕ) → flat_map (λ n. with_pid_behind [] (one n)) numbers ≡ filter_map one numbers
          → with_pid_behind [] o ++ flat_map (λ n. with_pid_behind [] (one n)) numbers ≡ cons_option o (filter_map one numbers)
      by_first None same = same
      by_first (Some pid) same = ap (λ (l : List ℕ). pid ∷ l) same

  lists_same : (f g : ℕ → List ℕ) → ((k : ℕ) → f k ≡ g k) → (numbers : List ℕ) → flat_map f numbers ≡ flat_map g numbers
  lists_same f g same [] = refl
  lists_same f g same (k ∷ numbers) = ap₂ (λ (a b : List ℕ). a ++ b) (same k) (lists_same f g same numbers)

  all_pids_alone : all_pids plan ≡ table_pids plan.table ++ service_pids plan
  all_pids_alone =
      ap (λ (l : List ℕ). table_pids plan.table ++ l)
      (lists_same (pids_in plan) (λ k. with_pid_behind [] (pid_of (get_or plan.services k no_service).kind)) pids_alone (range_with_len 0 (length plan.services))
      ∙ lists_of_one (λ k. pid_of (get_or plan.services k no_service).kind) (range_with_len 0 (length plan.services))
      ∙ sym (pids_by_place plan.services))

  -- no change is wrong where no PID stands twice
  pub right_alone : has_same_pid plan ≡ false → has_wrong_change plan ≡ false
  right_alone differ =
      ap₂ (λ (l : List ChangeFields) (pids : List ℕ). not (rises_from 2 l) || (list_any (moves_wrongly plan) l || twice pids)) none all_pids_alone
      ∙ (neither (twice (table_pids plan.table ++ service_pids plan)) (twice (isis plan)) differ).0

  same_pid_false : is_consistent plan ≡ true → has_same_pid plan ≡ false
  unfolding is_consistent
  same_pid_false all =
      let names = (and_parts (not (has_wrong_carrier plan)) _ all).1 in
      let pids = (and_parts (not (has_same_name plan)) _ names).1 in
      not_false (has_same_pid plan) (and_parts (not (has_same_pid plan)) _ pids).0

  consistent_of_settings : is_plan_of_settings plan ≡ true → is_consistent plan ≡ true
  unfolding is_plan_of_settings
  consistent_of_settings all = (and_parts (is_consistent plan) _ (and_parts _ _ all).1).0

  valid_alone : has_valid_changes plan ≡ true
  unfolding has_valid_changes
  valid_alone = ap (λ (l : List ChangeFields). nat_le (length l) 31 && (list_all is_valid_change l && (eqb (length l) 0 || is_some plan.table))) none

  pub whole_of_settings : is_plan_of_settings plan ≡ true → is_whole_of_settings plan ≡ true
  unfolding is_whole_of_settings
  whole_of_settings all =
      and_from (eqb plan.version 0) _ (ap (λ (v : ℕ). eqb v 0) first)
      (and_from (has_valid_changes plan) _ valid_alone
      (and_from (not (has_wrong_change plan)) _ (not_true (has_wrong_change plan) (right_alone (same_pid_false (consistent_of_settings all))))
      (ap (list_all (λ version. is_plan_of_settings (plan_in plan version))) versions_alone
      ∙ and_from (is_plan_of_settings (plan_in plan 0)) true (ap is_plan_of_settings plan_alone ∙ all) refl)))

  pub whole_of_pid : is_plan_of_pid plan ≡ true → is_whole_of_pid plan ≡ true
  unfolding is_whole_of_pid
  whole_of_pid all =
      and_from (eqb plan.version 0) _ (ap (λ (v : ℕ). eqb v 0) first)
      (and_from (eqb (length plan.changes) 0) (is_plan_of_pid plan) (ap (λ (l : List ChangeFields). eqb (length l) 0) none) all)

  pub whole_alone : is_plan plan ≡ true → is_whole_plan plan ≡ true
  whole_alone is = by_kind (is_plan_of_settings plan) refl (is_plan_of_pid plan) refl is
    where
      by_kind : (a : Bool) → is_plan_of_settings plan ≡ a → (b : Bool) → is_plan_of_pid plan ≡ b → (a || b) ≡ true → is_whole_plan plan ≡ true
      by_kind true a_is b b_is any = ap (λ (t : Bool). t || is_whole_of_pid plan) (whole_of_settings a_is)
      by_kind false a_is true b_is any = or_second (is_whole_of_settings plan) (whole_of_pid b_is)
        where
          or_second : (a : Bool) {b : Bool} → b ≡ true → (a || b) ≡ true
          or_second true is = refl
          or_second false is = is
      by_kind false a_is false b_is any = absurd (cc)
