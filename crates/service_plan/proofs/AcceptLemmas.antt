-- What the checks of a plan that was read say of its settings.
use Rattle.std.proofs.Common.{◌≡◌, inl, inr, ℕ, Bool, true, false, not, ◌||◌, ◌&&◌, List, [], ◌∷◌, map, Option, Some, None, MatchOption, codes, if◌then◌else◌, refl, sym, ap, ap₂, ◌∙◌}
use Rattle.toml.specs.Data.{Members}
use Rattle.addr_rules.specs.declared.rules.Rule.{Rule}
use Rattle.plan_spec.specs.Plan.{KindFields, ServiceFields, ServiceRules, PlanFields, services_with, with_rules}
use Rattle.plan_spec.specs.Checks.{has_wrong_carrier, has_same_name, has_same_pid, needs_stamps, has_wrong_window, has_short_gap, has_long_cycle}
use Rattle.plan_spec.specs.Changes.{has_wrong_change}
use Rattle.plan_spec.specs.Valid.{is_plan}
use Rattle.plan_spec.specs.Wholes.{has_wrong_rules, most_table_packets, is_whole_of_settings, is_whole_of_pid, is_whole_plan}
use Rattle.settings_spec.specs.Keys.{SettingsFault, no_document, missing, wrong_type, out_of_range, unknown_key, wrong_carrier, same_name, same_pid, wrong_change, wrong_rules, no_stamps, wrong_window, short_gap, long_cycle, key_fault, keys_fault, unknown_fault, first_of, table_at, tables_at}
use Rattle.settings_spec.specs.Changes.{ChangeValues, with_changes}
use Rattle.settings_spec.specs.Settings.{top_names, value_keys, int_key, service_key, change_key, int_fault, services_fault, changes_fault, tables_fault, plan_of}
use Rattle.settings_spec.specs.Refusal.{HasNoRule, IsPlan, Fails, whole_checks, IsFirst, NoneFails, IsRefusedTable, IsDocument, IsNoDocument, IsAccepted, IsRefused}
use Rattle.settings_spec.proofs.OneAnswer.{acceptance_is_no_refusal}
use Rattle.settings_law.proofs.Tops.{parts_hold}
use Rattle.settings_law.proofs.Bare.{wrong_alike}
use Rattle.settings_law.proofs.Wholes.{is_whole}
use Rattle.plan_law.proofs.Versions.{whole_is_plan}
use Rattle.service_plan.specs.Drafts.{rules_seen}
use Rattle.service_plan.specs.Plans.{parts_fault, draft_seen, IsDraftOf}
use Rattle.service_plan.specs.Order.{first_failing, fails_of, whole_fault}
use Rattle.service_plan.specs.Keys.{fault_seen, Faults, OnFault}
use Rattle.service_plan.specs.Accepted.{IsAcceptedTable}
use Rattle.service_plan.proofs.KeyLemmas.{keys_append}
use Rattle.service_plan.specs.declared.settings_draft.Draft.{Draft}
use Rattle.service_plan.specs.declared.fault.PlanError.{PlanError}
use Rattle.service_plan.specs.declared.fault.PlanError.TheVariants as error

-- the tables, part by part
parts_are : (u v i s rest : Option SettingsFault) → first_of (first_of u (first_of v (first_of i (first_of s None)))) rest ≡ first_of u (first_of v (first_of i (first_of s rest)))
parts_are (Some f) v i s rest = refl
parts_are None (Some f) i s rest = refl
parts_are None None (Some f) s rest = refl
parts_are None None None (Some f) rest = refl
parts_are None None None None rest = refl

pub tables_parts : (top : Members) → tables_fault top ≡ parts_fault top
unfolding tables_fault
tables_parts top =
    let unknown : Option SettingsFault = unknown_fault (top_names top) top in
    let rest : Option SettingsFault =
    first_of (int_fault (table_at (codes "int") top)) (first_of (services_fault (tables_at (codes "service") top)) (first_of (key_fault change_key top) (changes_fault (tables_at (codes "change") top)))) in
    ap (λ (k : Option SettingsFault). first_of (first_of unknown k) rest) (keys_append value_keys (int_key top ∷ service_key top ∷ []) top)
    ∙ parts_are unknown (keys_fault value_keys top) (key_fault (int_key top) top) (key_fault (service_key top) top) rest

-- a test tells whether a check fails
abbrev pub Tells : Bool → Type 0 → Type 0
Tells b F = (b ≡ true → F) × (b ≡ false → ¬ F)

tells_same : (b c : Bool) → b ≡ c → Tells b (c ≡ true)
tells_same b c same = (λ on. sym same ∙ on, λ off h. different (sym off ∙ same ∙ h))
  where
    different : ¬ (false ≡ true)
    different e = cc

tells_none : Tells false ⊥
tells_none = (λ never. absurd (let h = never in cc), λ off h. h)

-- where tests tell of all checks, the first that is met is the first that fails
first_fails : (test : SettingsFault → Bool) (fails : SettingsFault → Type 0) → ((check : SettingsFault) → Tells (test check) (fails check)) → (checks : List SettingsFault) (f : SettingsFault)
    → first_failing test checks ≡ Some f → IsFirst fails checks f
first_fails test fails tells [] f e = absurd (let h = e in cc)
first_fails test fails tells (check ∷ checks) f e = by_test (test check) (tells check) (first_fails test fails tells checks f) e
  where
    by_test : (b : Bool) → Tells b (fails check) → (first_failing test checks ≡ Some f → IsFirst fails checks f)
        → (if b then Some check else first_failing test checks) ≡ Some f → IsFirst fails (check ∷ checks) f
    by_test true t later met = inl (t.0 refl, let h = met in cc)
    by_test false t later met = inr (t.1 refl, later met)

none_fails : (test : SettingsFault → Bool) (fails : SettingsFault → Type 0) → ((check : SettingsFault) → Tells (test check) (fails check)) → (checks : List SettingsFault)
    → first_failing test checks ≡ None → NoneFails fails checks
none_fails test fails tells [] e = tt
none_fails test fails tells (check ∷ checks) e = by_test (test check) (tells check) (none_fails test fails tells checks) e
  where
    by_test : (b : Bool) → Tells b (fails check) → (first_failing test checks ≡ None → NoneFails fails checks)
        → (if b then Some check else first_failing test checks) ≡ None → NoneFails fails (check ∷ checks)
    by_test true t later met = absurd (let h = met in cc)
    by_test false t later met = (t.1 refl, later met)

-- the checks that do not look at rules
kinds_with : (services : List ServiceFields) (lists : List (ServiceRules Rule)) → map (λ (s : ServiceFields). s.kind) (services_with services lists) ≡ map (λ (s : ServiceFields). s.kind) services
kinds_with [] lists = refl
kinds_with (s ∷ services) [] = refl
kinds_with (s ∷ services) (rules ∷ lists) = ap (λ (rest : List KindFields). s.kind ∷ rest) (kinds_with services lists)

names_with : (services : List ServiceFields) (lists : List (ServiceRules Rule)) → map (λ (s : ServiceFields). s.name) (services_with services lists) ≡ map (λ (s : ServiceFields). s.name) services
names_with [] lists = refl
names_with (s ∷ services) [] = refl
names_with (s ∷ services) (rules ∷ lists) = ap (λ (rest : List (List ℕ)). s.name ∷ rest) (names_with services lists)

carrier_with : (plan : PlanFields) (lists : List (ServiceRules Rule)) → has_wrong_carrier (with_rules plan lists) ≡ has_wrong_carrier plan
carrier_with plan lists = rw (kinds_with plan.services lists)

pid_with : (plan : PlanFields) (lists : List (ServiceRules Rule)) → has_same_pid (with_rules plan lists) ≡ has_same_pid plan
pid_with plan lists = rw (kinds_with plan.services lists)

stamps_with : (plan : PlanFields) (lists : List (ServiceRules Rule)) → needs_stamps (with_rules plan lists) ≡ needs_stamps plan
stamps_with plan lists = rw (kinds_with plan.services lists)

gap_with : (plan : PlanFields) (lists : List (ServiceRules Rule)) → has_short_gap (with_rules plan lists) ≡ has_short_gap plan
gap_with plan lists = rw (kinds_with plan.services lists)

delta_with : (plan : PlanFields) (lists : List (ServiceRules Rule)) → has_long_cycle (with_rules plan lists) ≡ has_long_cycle plan
delta_with plan lists = rw (kinds_with plan.services lists)

name_with : (plan : PlanFields) (lists : List (ServiceRules Rule)) → has_same_name (with_rules plan lists) ≡ has_same_name plan
name_with plan lists = rw (names_with plan.services lists)

module _ (top : Members) (draft : Draft) (is : IsDraftOf top draft) where
  -- The draft is the plan of the table, where its rules are spelled, and no other is.

  gives : draft.spelled ≡ true → IsPlan top (draft_seen draft)
  gives spelled = record { rules = rules_seen draft.services; changes = is.changes; spelled = is.spelled spelled; values = is.seen }

  one_plan : (plan : PlanFields) → IsPlan top plan → (draft.spelled ≡ true) × (plan ≡ draft_seen draft)
  one_plan plan of_top =
      let only = is.only of_top.rules of_top.changes of_top.spelled in (
        only.0,
        of_top.values
            ∙ ap₂ (λ (r : List (ServiceRules Rule)) (c : List (ChangeValues Rule)). with_changes (with_rules (plan_of top) r) c) only.1.0 only.1.1
            ∙ sym is.seen,
      )

  -- Each test tells of its check.

  rules_tell : Tells (not draft.spelled || has_wrong_rules (draft_seen draft)) (Fails top wrong_rules)
  rules_tell = by_spelled draft.spelled refl
    where
      unspelled : draft.spelled ≡ false → HasNoRule top
      unspelled off rules changes are = let h = sym off ∙ (is.only rules changes are).0 in cc

      right : draft.spelled ≡ true → has_wrong_rules (draft_seen draft) ≡ false → ¬ Fails top wrong_rules
      right spelled off (inl none) = none (rules_seen draft.services) is.changes (is.spelled spelled)
      right spelled off (inr wrong) =
          let same : wrong.0 ≡ draft_seen draft = (one_plan wrong.0 wrong.1).1 in
          let h = sym off ∙ rw same at wrong.2 in cc

      by_spelled : (b : Bool) → draft.spelled ≡ b → Tells (not b || has_wrong_rules (draft_seen draft)) (Fails top wrong_rules)
      by_spelled false off = (λ on. inl (unspelled off), λ never. absurd (let h = never in cc))
      by_spelled true spelled = (λ on. inr (draft_seen draft, gives spelled, on), λ off. right spelled off)

  window_tells : Tells (draft.spelled && has_wrong_window (most_table_packets (draft_seen draft)) (draft_seen draft)) (Fails top wrong_window)
  window_tells = by_spelled draft.spelled refl
    where
      unspelled : draft.spelled ≡ false → ¬ Fails top wrong_window
      unspelled off fails = let h = sym off ∙ (one_plan fails.0 fails.1).0 in cc

      right : has_wrong_window (most_table_packets (draft_seen draft)) (draft_seen draft) ≡ false → ¬ Fails top wrong_window
      right off fails =
          let same : fails.0 ≡ draft_seen draft = (one_plan fails.0 fails.1).1 in
          let h = sym off ∙ rw same at fails.2 in cc

      by_spelled : (b : Bool) → draft.spelled ≡ b → Tells (b && has_wrong_window (most_table_packets (draft_seen draft)) (draft_seen draft)) (Fails top wrong_window)
      by_spelled false off = (λ never. absurd (let h = never in cc), λ no. unspelled off)
      by_spelled true spelled = (λ on. (draft_seen draft, gives spelled, on), λ off. right off)

  tells : (check : SettingsFault) → Tells (fails_of draft.spelled (draft_seen draft) check) (Fails top check)
  tells wrong_carrier = tells_same _ _ (ap has_wrong_carrier is.seen ∙ carrier_with (plan_of top) (rules_seen draft.services))
  tells same_name = tells_same _ _ (ap has_same_name is.seen ∙ name_with (plan_of top) (rules_seen draft.services))
  tells same_pid = tells_same _ _ (ap has_same_pid is.seen ∙ pid_with (plan_of top) (rules_seen draft.services))
  tells wrong_change = tells_same _ _ (ap has_wrong_change is.seen ∙ wrong_alike top (rules_seen draft.services) is.changes is.same)
  tells wrong_rules = rules_tell
  tells no_stamps = tells_same _ _ (ap needs_stamps is.seen ∙ stamps_with (plan_of top) (rules_seen draft.services))
  tells wrong_window = window_tells
  tells short_gap = tells_same _ _ (ap has_short_gap is.seen ∙ gap_with (plan_of top) (rules_seen draft.services))
  tells long_cycle = tells_same _ _ (ap has_long_cycle is.seen ∙ delta_with (plan_of top) (rules_seen draft.services))
  tells no_document = tells_none
  tells (missing key) = tells_none
  tells (wrong_type key) = tells_none
  tells (out_of_range key) = tells_none
  tells unknown_key = tells_none

  -- The draft is refused for the first check that fails, or passes all.

  refused_whole : (f : SettingsFault) → whole_fault draft.spelled (draft_seen draft) ≡ Some f → IsFirst (Fails top) whole_checks f
  unfolding whole_fault
  refused_whole f met = first_fails (fails_of draft.spelled (draft_seen draft)) (Fails top) tells whole_checks f met

  passed_whole : whole_fault draft.spelled (draft_seen draft) ≡ None → NoneFails (Fails top) whole_checks
  unfolding whole_fault
  passed_whole met = none_fails (fails_of draft.spelled (draft_seen draft)) (Fails top) tells whole_checks met

  pub accepted_table : parts_fault top ≡ None → whole_fault draft.spelled (draft_seen draft) ≡ None → IsAcceptedTable top (draft_seen draft)
  accepted_table tables met =
      let whole : NoneFails (Fails top) whole_checks = passed_whole met in
      record { tables = tables_parts top ∙ tables; whole = whole; gives = gives (by_spelled draft.spelled refl whole.1.1.1.1.0) }
    where
      by_spelled : (b : Bool) → draft.spelled ≡ b → ¬ Fails top wrong_rules → draft.spelled ≡ true
      by_spelled true spelled right = spelled
      by_spelled false off right = absurd (right (inl (λ rules changes are. let h = sym off ∙ (is.only rules changes are).0 in cc)))

-- such a plan passes all checks in each of its versions
pub accepted_is_whole : (top : Members) (plan : PlanFields) → IsAcceptedTable top plan → is_whole_plan plan ≡ true
accepted_is_whole top plan accepted =
    ap (λ (b : Bool). b || is_whole_of_pid plan)
    (ap is_whole_of_settings accepted.gives.values
    ∙ is_whole top accepted.gives.rules accepted.gives.changes accepted.gives.spelled (parts_hold top accepted.tables) accepted.whole)

pub accepted_is_plan : (top : Members) (plan : PlanFields) → IsAcceptedTable top plan → is_plan plan ≡ true
accepted_is_plan top plan accepted = whole_is_plan plan (accepted_is_whole top plan accepted)

-- what is wrong with the tables, or with the whole
refused_by : (o : Option SettingsFault) (fails : SettingsFault → Type 0) (f : SettingsFault) → o ≡ Some f → MatchOption o (IsFirst fails whole_checks f) (λ first. f ≡ first)
refused_by None fails f e = absurd (let h = e in cc)
refused_by (Some g) fails f e = let h = e in cc

refused_later : (o : Option SettingsFault) (fails : SettingsFault → Type 0) (f : SettingsFault) → o ≡ None → IsFirst fails whole_checks f → MatchOption o (IsFirst fails whole_checks f) (λ first. f ≡ first)
refused_later None fails f e first = first
refused_later (Some g) fails f e first = absurd (let h = e in cc)

pub refused_tables : (top : Members) (e : PlanError) → Faults e (parts_fault top) → OnFault e (IsRefusedTable top)
refused_tables top (error.Fault f) wrong = refused_by (tables_fault top) (Fails top) (fault_seen f) (tables_parts top ∙ wrong)
refused_tables top error.OutOfMemory wrong = tt

refused_table : (top : Members) (draft : Draft) (f : SettingsFault) → IsDraftOf top draft → parts_fault top ≡ None → whole_fault draft.spelled (draft_seen draft) ≡ Some f → IsRefusedTable top f
refused_table top draft f is tables met = refused_later (tables_fault top) (Fails top) f (tables_parts top ∙ tables) (refused_whole top draft is f met)

pub refused_wholes : (top : Members) (draft : Draft) (e : PlanError) → IsDraftOf top draft → parts_fault top ≡ None → Faults e (whole_fault draft.spelled (draft_seen draft)) → OnFault e (IsRefusedTable top)
refused_wholes top draft (error.Fault f) is tables wrong = refused_table top draft (fault_seen f) is tables wrong
refused_wholes top draft error.OutOfMemory is tables wrong = tt

-- the settings
pub refused_text : (bytes : List ℕ) (e : PlanError) → OnFault e (λ f. (f ≡ no_document) × IsNoDocument bytes) → OnFault e (IsRefused bytes)
refused_text bytes (error.Fault f) wrong = inl (wrong.1, wrong.0)
refused_text bytes error.OutOfMemory wrong = tt

pub refused_settings : (bytes : List ℕ) (top : Members) (e : PlanError) → IsDocument bytes top → OnFault e (IsRefusedTable top) → OnFault e (IsRefused bytes)
refused_settings bytes top (error.Fault f) is wrong = inr (top, is, wrong)
refused_settings bytes top error.OutOfMemory is wrong = tt

pub accepted_settings : (bytes : List ℕ) (top : Members) (plan : PlanFields) → IsDocument bytes top → IsAcceptedTable top plan → IsAccepted bytes plan
accepted_settings bytes top plan is accepted = record { top = top; document = is; tables = accepted.tables; whole = accepted.whole; gives = accepted.gives }

-- accepted settings can only be out of memory
pub only_memory : (bytes : List ℕ) (plan : PlanFields) (e : PlanError) → OnFault e (IsRefused bytes) → IsAccepted bytes plan → e ≡ error.OutOfMemory
only_memory bytes plan (error.Fault f) refused accepted = absurd (acceptance_is_no_refusal bytes plan (fault_seen f) accepted refused)
only_memory bytes plan error.OutOfMemory refused accepted = refl
