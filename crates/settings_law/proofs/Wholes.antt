-- The checks over the whole plan of accepted settings.
use Rattle.std.proofs.Common.{◌≡◌, ◌⊎◌, inl, inr, ℕ, ◌+◌, ◌<◌, ◌≤◌, Bool, true, false, not, ◌||◌, List, [], ◌∷◌, ◌++◌, length, map, Option, Some, None, is_some, option_map, codes, eqb, le-leb, refl, ap, sym, ◌∙◌, subst, arith}
use Rattle.std.specs.Prelude.{All}
use Rattle.std.specs.List.{list_all, list_any}
use Rattle.std.specs.Prelude.{nat_le}
use Rattle.std.proofs.lemmas.Bool.{eq-eqb}
use Rattle.std.proofs.lemmas.Slice.Zip.{AllZip-long}
use Rattle.toml.specs.Data.{Members}
use Rattle.std.proofs.lemmas.List.{length-map}
use Rattle.addr_rules.specs.declared.rules.Rule.{Rule}
use Rattle.plan_spec.specs.Plan.{KindFields, ServiceFields, ServiceRules, ChangeFields, PlanFields, services_with, with_rules, rule_lists, all_rule_lists, table_pids, service_pids, isis}
use Rattle.plan_spec.specs.Checks.{has_wrong_carrier, has_same_name, has_same_pid, has_no_rule, has_too_many_rules, has_wrong_count, needs_stamps, has_wrong_window, has_short_gap, has_long_cycle}
use Rattle.settings_spec.specs.Keys.{wrong_change, wrong_rules, wrong_window, tables_at, table_at}
use Rattle.settings_spec.specs.Settings.{int_of, changes_at, plan_of, rule_texts}
use Rattle.plan_spec.specs.Signalling.{table_packets}
use Rattle.settings_spec.specs.Changes.{ChangeValues, change_values, with_changes}
use Rattle.settings_spec.specs.Refusal.{IsSpelledChange, AreSpelled, IsPlan, Fails, whole_checks, NoneFails, IsAccepted}
use Rattle.plan_spec.specs.Changes.{services_in, plan_in, all_pids, rises_from, moves_wrongly, has_wrong_change}
use Rattle.plan_spec.specs.Valid.{has_valid_top, is_in_range, is_consistent, is_plan_of_settings}
use Rattle.plan_spec.specs.Wholes.{has_wrong_rules, most_table_packets, is_valid_change, has_valid_changes, is_whole_of_settings}
use Rattle.plan_spec.specs.Bytes.{IsMac, IsOfBytes}
use Rattle.plan_law.proofs.Lists.{none_at, all_from}
use Rattle.plan_law.proofs.Kept.{kept, length-services_in, isis_kept, carrier_kept, name_kept, stamps_kept, window_kept, gap_kept, cycle_kept}
use Rattle.plan_law.proofs.Pids.{twice, none_twice_in}
use Rattle.plan_law.proofs.Windows.{windows_right, most_packets}
use Rattle.plan_law.proofs.Versions.{versions_of_settings, first_of_settings}
use Rattle.settings_law.proofs.Services.{both_true, unicasts_are}
use Rattle.settings_law.proofs.Bare.{wrong_with}
use Rattle.settings_law.proofs.Moved.{AreGood, all_valid, all_written, services_good, changes_good, changes_valid, length-changes_by}
use Rattle.settings_law.proofs.Tops.{PartsHold, parts_hold, services_few, top_holds, count_if_any, int_is_there, top_again}

-- Rules change neither kinds nor names.

kinds_with : (services : List ServiceFields) (lists : List (ServiceRules Rule)) → map (λ (s : ServiceFields). s.kind) (services_with services lists) ≡ map (λ (s : ServiceFields). s.kind) services
kinds_with [] lists = refl
kinds_with (s ∷ services) [] = refl
kinds_with (s ∷ services) (rules ∷ lists) = ap (λ (rest : List KindFields). s.kind ∷ rest) (kinds_with services lists)

names_with : (services : List ServiceFields) (lists : List (ServiceRules Rule)) → map (λ (s : ServiceFields). s.name) (services_with services lists) ≡ map (λ (s : ServiceFields). s.name) services
names_with [] lists = refl
names_with (s ∷ services) [] = refl
names_with (s ∷ services) (rules ∷ lists) = ap (λ (rest : List (List ℕ)). s.name ∷ rest) (names_with services lists)

carrier_with : (plan : PlanFields) (lists : List (ServiceRules Rule)) → has_wrong_carrier (with_rules plan lists) ≡ has_wrong_carrier plan
carrier_with plan lists = rw (kinds_with plan.services lists)

pid_with : (plan : PlanFields) (lists : List (ServiceRules Rule)) → has_same_pid (with_rules plan lists) ≡ has_same_pid plan
pid_with plan lists = rw (kinds_with plan.services lists)

stamps_with : (plan : PlanFields) (lists : List (ServiceRules Rule)) → needs_stamps (with_rules plan lists) ≡ needs_stamps plan
stamps_with plan lists = rw (kinds_with plan.services lists)

gap_with : (plan : PlanFields) (lists : List (ServiceRules Rule)) → has_short_gap (with_rules plan lists) ≡ has_short_gap plan
gap_with plan lists = rw (kinds_with plan.services lists)

cycle_with : (plan : PlanFields) (lists : List (ServiceRules Rule)) → has_long_cycle (with_rules plan lists) ≡ has_long_cycle plan
cycle_with plan lists = rw (kinds_with plan.services lists)

name_with : (plan : PlanFields) (lists : List (ServiceRules Rule)) → has_same_name (with_rules plan lists) ≡ has_same_name plan
name_with plan lists = rw (names_with plan.services lists)

-- The checks.

not_true : (b : Bool) → ¬ (b ≡ true) → b ≡ false
not_true true no_truth = absurd (no_truth refl)
not_true false no_truth = refl

neither : (a b : Bool) → (a || b) ≡ false → (a ≡ false) × (b ≡ false)
neither true b none = absurd (cc)
neither false b none = (refl, none)

module _ (top : Members) (lists : List (ServiceRules Rule)) (changes : List (ChangeValues Rule)) (spelled : AreSpelled top lists changes) where
  -- the plan of the settings, before its changes and with them
  abbrev pub base : PlanFields
  base = with_rules (plan_of top) lists

  abbrev pub plan : PlanFields
  plan = with_changes base changes

  is_plan : IsPlan top plan
  is_plan = record { rules = lists; changes = changes; spelled = spelled; values = refl }

  -- its services are good, and so are those of each version
  base_good : PartsHold top → AreGood base.services
  unfolding plan_of rule_texts
  base_good parts = services_good 0 (tables_at (codes "service") top) lists (omega (arith, services_few top parts)) parts.services spelled.of_services

  version_good : PartsHold top → (version : ℕ) → AreGood (services_in plan version)
  unfolding changes_at
  version_good parts version = changes_good base.services (base_good parts) (tables_at (codes "change") top) parts.changes changes spelled.of_changes version

  -- The checks.

  no_wrong_change : ¬ Fails top wrong_change → has_wrong_change plan ≡ false
  no_wrong_change right = wrong_with top lists changes spelled.of_changes ∙ not_true (has_wrong_change (plan_of top)) right

  none_twice : ¬ Fails top wrong_change → twice (all_pids plan) ≡ false
  none_twice right =
      let changes_right = (neither (not (rises_from 2 plan.changes)) _ (no_wrong_change right)).1 in
      (neither (list_any (moves_wrongly plan) plan.changes) (twice (all_pids plan)) changes_right).1

  rules_right : ¬ Fails top wrong_rules → has_wrong_rules plan ≡ false
  rules_right right = not_true (has_wrong_rules plan) (λ wrong. right (inr (plan, is_plan, wrong)))

  windows_hold : ¬ Fails top wrong_window → has_wrong_window (most_table_packets plan) plan ≡ false
  windows_hold right = not_true (has_wrong_window (most_table_packets plan) plan) (λ wrong. right (plan, is_plan, wrong))

  -- in each version
  module _ (none : NoneFails (Fails top) whole_checks) (version : ℕ) (within : version < length plan.changes + 1) where
    counts : (has_no_rule (rule_lists (plan_in plan version)) ≡ false) × (has_too_many_rules (all_rule_lists (plan_in plan version)) ≡ false)
    counts =
        neither (has_no_rule (rule_lists (plan_in plan version))) (has_too_many_rules (all_rule_lists (plan_in plan version)))
        (ap (λ v. has_wrong_count (services_in plan v)) (zero_is version)
        ∙ none_at (λ v. has_wrong_count (services_in plan v)) 0 (length plan.changes + 1) version (rules_right none.1.1.1.1.0) within)
      where
        zero_is : (n : ℕ) → n ≡ 0 + n
        zero_is n = omega arith

    pids_differ : has_same_pid (plan_in plan version) ≡ false
    pids_differ =
        let own = neither (twice (table_pids plan.table ++ service_pids plan)) (twice (isis plan)) (pid_with (plan_of top) lists ∙ not_true (has_same_pid (plan_of top)) none.1.1.0) in
        both_false (twice (table_pids plan.table ++ service_pids (plan_in plan version))) (twice (isis (plan_in plan version)))
        (none_twice_in plan version within (none_twice none.1.1.1.0)) (ap (λ (l : List ℕ). twice l) (isis_kept plan version) ∙ own.1)
      where
        both_false : (a b : Bool) → a ≡ false → b ≡ false → (a || b) ≡ false
        both_false true b no_a no_b = absurd (cc)
        both_false false b no_a no_b = no_b

    consistent : is_consistent (plan_in plan version) ≡ true
    unfolding is_consistent
    consistent =
        rw (
          carrier_kept plan version ∙ carrier_with (plan_of top) lists ∙ not_true (has_wrong_carrier (plan_of top)) none.0,
          name_kept plan version ∙ name_with (plan_of top) lists ∙ not_true (has_same_name (plan_of top)) none.1.0,
          pids_differ,
          counts.1,
          stamps_kept plan version ∙ stamps_with (plan_of top) lists ∙ not_true (needs_stamps (plan_of top)) none.1.1.1.1.1.0,
          window_kept plan version (table_packets (plan_in plan version))
              ∙ windows_right plan (table_packets (plan_in plan version)) (most_table_packets plan) (most_packets plan version within) (windows_hold none.1.1.1.1.1.1.0),
          gap_kept plan version ∙ gap_with (plan_of top) lists ∙ not_true (has_short_gap (plan_of top)) none.1.1.1.1.1.1.1.0,
          cycle_kept plan version ∙ cycle_with (plan_of top) lists ∙ not_true (has_long_cycle (plan_of top)) none.1.1.1.1.1.1.1.1.0,
        )
        refl

    version_is_plan : PartsHold top → version ≤ 31 → is_plan_of_settings (plan_in plan version) ≡ true
    unfolding is_plan_of_settings is_in_range
    version_is_plan parts few =
        rw (
          top_again base (services_in plan version) version [] (top_holds top lists parts) (length-services_in plan version) (le-leb version 31 few),
          all_valid (services_in plan version) (version_good parts version),
          consistent,
          counts.0,
        )
        refl

  -- The whole.

  changes_few : PartsHold top → length plan.changes ≤ 31
  unfolding changes_at
  changes_few parts =
      omega (
        arith,
        length-changes_by base.services changes,
        AllZip-long IsSpelledChange (changes_at top) changes spelled.of_changes,
        length-map (tables_at (codes "change") top) change_values,
        count_if_any 31 (codes "change") top parts.list,
      )

  changes_hold : PartsHold top → has_valid_changes plan ≡ true
  unfolding has_valid_changes plan_of changes_at
  changes_hold parts =
      both_true (nat_le (length plan.changes) 31) _ (le-leb (length plan.changes) 31 (changes_few parts))
      (both_true (list_all is_valid_change plan.changes) _ (changes_valid base.services (tables_at (codes "change") top) parts.changes changes spelled.of_changes)
      (signalled (int_is_there top parts)))
    where
      signalled : (length (tables_at (codes "change") top) ≡ 0) ⊎ (is_some (table_at (codes "int") top) ≡ true) → (eqb (length plan.changes) 0 || is_some plan.table) ≡ true
      signalled (inl none) =
          ap (λ (b : Bool). b || is_some plan.table)
          (eq-eqb (length plan.changes) 0 (omega (
            arith,
            none,
            length-changes_by base.services changes,
            AllZip-long IsSpelledChange (changes_at top) changes spelled.of_changes,
            length-map (tables_at (codes "change") top) change_values,
          )))
      signalled (inr there) = or_second (eqb (length plan.changes) 0) (some_int (table_at (codes "int") top) there)
        where
          some_int : (o : Option Members) → is_some o ≡ true → is_some (option_map int_of o) ≡ true
          some_int None is = absurd (cc)
          some_int (Some m) is = refl

          or_second : (a : Bool) {b : Bool} → b ≡ true → (a || b) ≡ true
          or_second true is = refl
          or_second false is = is

  pub is_whole : PartsHold top → NoneFails (Fails top) whole_checks → is_whole_of_settings plan ≡ true
  unfolding is_whole_of_settings plan_of
  is_whole parts none =
      both_true (eqb plan.version 0) _ refl
      (both_true (has_valid_changes plan) _ (changes_hold parts)
      (both_true (not (has_wrong_change plan)) _ (ap not (no_wrong_change none.1.1.1.0))
      (all_from (λ version. is_plan_of_settings (plan_in plan version)) 0 (length plan.changes + 1)
      (λ i within. version_is_plan none (0 + i) (omega (arith, within)) parts (omega (arith, within, changes_few parts))))))

  -- of bytes, in each version
  pub version_of_bytes : PartsHold top → (version : ℕ) → IsOfBytes (plan_in plan version)
  unfolding plan_of
  version_of_bytes parts version = record {
    rules = all_written (services_in plan version) (version_good parts version);
    unicast = subst (All IsMac) (sym (kept (λ (service : ServiceFields). service.unicast) (record { same = λ service moved. refl }) plan version))
        (unicasts_are 0 (tables_at (codes "service") top) lists parts.services);
  }

-- Accepted settings.

-- what changes a plan later is not asked of it by itself
same_by_itself : (p : PlanFields) (version : ℕ) (changes : List ChangeFields)
    → is_plan_of_settings (record p { version = version; changes = [] }) ≡ is_plan_of_settings (record p { version = version; changes = changes })
unfolding has_valid_top is_in_range is_consistent is_plan_of_settings table_packets
same_by_itself p version changes = refl

pub accepted_is_whole : (bytes : List ℕ) (p : PlanFields) → IsAccepted bytes p → is_whole_of_settings p ≡ true
accepted_is_whole bytes p accepted =
    ap is_whole_of_settings accepted.gives.values
    ∙ is_whole accepted.top accepted.gives.rules accepted.gives.changes accepted.gives.spelled (parts_hold accepted.top accepted.tables) accepted.whole

pub accepted_is_plan : (bytes : List ℕ) (p : PlanFields) → IsAccepted bytes p → is_plan_of_settings p ≡ true
accepted_is_plan bytes p accepted =
    let whole : is_whole_of_settings p ≡ true = accepted_is_whole bytes p accepted in
    ap (λ (v : ℕ). is_plan_of_settings (record p { version = v })) (first_of_settings p whole)
    ∙ sym (same_by_itself p 0 p.changes)
    ∙ versions_of_settings p 0 whole (omega arith)

pub accepted_versions_of_bytes : (bytes : List ℕ) (p : PlanFields) → IsAccepted bytes p → (version : ℕ) → IsOfBytes (plan_in p version)
accepted_versions_of_bytes bytes p accepted version =
    subst (λ (q : PlanFields). IsOfBytes (plan_in q version)) (sym accepted.gives.values)
    (version_of_bytes accepted.top accepted.gives.rules accepted.gives.changes accepted.gives.spelled (parts_hold accepted.top accepted.tables) version)

pub accepted_of_bytes : (bytes : List ℕ) (p : PlanFields) → IsAccepted bytes p → IsOfBytes p
accepted_of_bytes bytes p accepted = let first : IsOfBytes (plan_in p 0) = accepted_versions_of_bytes bytes p accepted 0 in record { rules = first.rules; unicast = first.unicast }
