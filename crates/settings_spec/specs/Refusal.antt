-- Which settings are refused, by the first check that fails, and which plan the others give. Profile: all of it.
use Rattle.std.specs.Prelude.{◌≡◌, ◌⊎◌, ℕ, true, List, [], ◌∷◌, Option, Some, None, MatchOption, IsUtf8}
use Rattle.std.specs.List.{AllZip}
use Rattle.toml.specs.Data.{Members}
use Rattle.toml.specs.Parse.{parse_document}
use Rattle.addr_rules.specs.Texts.{IsRuleText}
use Rattle.addr_rules.specs.declared.rules.Rule.{Rule}
use Rattle.plan_spec.specs.Plan.{ServiceRules, PlanFields, with_rules}
use Rattle.plan_spec.specs.Checks.{has_wrong_carrier, has_same_name, has_same_pid, needs_stamps, has_wrong_window, has_short_gap, has_long_cycle}
use Rattle.plan_spec.specs.Changes.{has_wrong_change}
use Rattle.plan_spec.specs.Wholes.{has_wrong_rules, most_table_packets}
use Rattle.settings_spec.specs.Keys.{SettingsFault, no_document, missing, wrong_type, out_of_range, same_pid, same_name, wrong_rules, wrong_window, short_gap, long_cycle, no_stamps, wrong_carrier, unknown_key, wrong_change}
use Rattle.settings_spec.specs.Changes.{MovedValues, ChangeValues, with_changes}
use Rattle.settings_spec.specs.Settings.{tables_fault, changes_at, plan_of, rule_texts}

-- the bytes are a document in UTF-8 (TOML 1.1)
pub record IsDocument (bytes : List ℕ) (top : Members) : Type 0 where
  pub text : IsUtf8 bytes
  pub read : parse_document bytes ≡ Some top

-- the bytes are no document
abbrev pub IsNoDocument : List ℕ → Type 0
IsNoDocument bytes = IsUtf8 bytes → parse_document bytes ≡ None

-- texts are these rules, one for one
abbrev pub AreRules : List (List ℕ) → List Rule → Type 0
AreRules [] [] = Unit {0}
AreRules [] (rule ∷ rules) = ⊥
AreRules (text ∷ texts) [] = ⊥
AreRules (text ∷ texts) (rule ∷ rules) = IsRuleText text rule × AreRules texts rules

-- the texts of a service are its rules, and of each service
pub record AreServiceRules (texts : ServiceRules (List ℕ)) (own : ServiceRules Rule) : Type 0 where
  pub rules : AreRules texts.rules own.rules
  pub urgent : AreRules texts.urgent own.urgent

abbrev pub AreRuleLists : List (ServiceRules (List ℕ)) → List (ServiceRules Rule) → Type 0
AreRuleLists [] [] = Unit {0}
AreRuleLists [] (own ∷ lists) = ⊥
AreRuleLists (texts ∷ services) [] = ⊥
AreRuleLists (texts ∷ services) (own ∷ lists) = AreServiceRules texts own × AreRuleLists services lists

-- the same of a moved service, where its rules change
abbrev pub AreNewRules : Option (List (List ℕ)) → Option (List Rule) → Type 0
AreNewRules None None = Unit {0}
AreNewRules None (Some rules) = ⊥
AreNewRules (Some texts) None = ⊥
AreNewRules (Some texts) (Some rules) = AreRules texts rules

-- a moved service and a change, with rules in place of texts
pub record IsSpelledMoved (texts : MovedValues (List ℕ)) (moved : MovedValues Rule) : Type 0 where
  pub name : moved.name ≡ texts.name
  pub pid : moved.pid ≡ texts.pid
  pub rules : AreNewRules texts.rules moved.rules

pub record IsSpelledChange (texts : ChangeValues (List ℕ)) (change : ChangeValues Rule) : Type 0 where
  pub at : change.at ≡ texts.at
  pub moved : AllZip IsSpelledMoved texts.moved change.moved

-- the texts of a table are the rules of these services and changes
pub record AreSpelled (top : Members) (rules : List (ServiceRules Rule)) (changes : List (ChangeValues Rule)) : Type 0 where
  pub of_services : AreRuleLists (rule_texts top) rules
  pub of_changes : AllZip IsSpelledChange (changes_at top) changes

-- the table gives the plan: its values or their defaults, and the rules of its texts
pub record IsPlan (top : Members) (plan : PlanFields) : Type 0 where
  pub rules : List (ServiceRules Rule)
  pub changes : List (ChangeValues Rule)
  pub spelled : AreSpelled top rules changes
  pub values : plan ≡ with_changes (with_rules (plan_of top) rules) changes

-- one of the texts is no rule
abbrev pub HasNoRule : Members → Type 0
HasNoRule top = (rules : List (ServiceRules Rule)) (changes : List (ChangeValues Rule)) → ¬ AreSpelled top rules changes

-- The checks over the whole, each by its fault: which of them fail, and their order.

-- the check over the whole that has this fault fails
abbrev pub Fails : Members → SettingsFault → Type 0
Fails top wrong_carrier = has_wrong_carrier (plan_of top) ≡ true
Fails top same_name = has_same_name (plan_of top) ≡ true
Fails top same_pid = has_same_pid (plan_of top) ≡ true
Fails top wrong_change = has_wrong_change (plan_of top) ≡ true
Fails top wrong_rules = HasNoRule top ⊎ ((plan : PlanFields) × IsPlan top plan × (has_wrong_rules plan ≡ true))
Fails top no_stamps = needs_stamps (plan_of top) ≡ true
Fails top wrong_window = (plan : PlanFields) × IsPlan top plan × (has_wrong_window (most_table_packets plan) plan ≡ true)
Fails top short_gap = has_short_gap (plan_of top) ≡ true
Fails top long_cycle = has_long_cycle (plan_of top) ≡ true
Fails top no_document = ⊥
Fails top (missing key) = ⊥
Fails top (wrong_type key) = ⊥
Fails top (out_of_range key) = ⊥
Fails top unknown_key = ⊥

-- the checks over the whole by their faults, in their order
abbrev pub whole_checks : List SettingsFault
whole_checks = wrong_carrier ∷ same_name ∷ same_pid ∷ wrong_change ∷ wrong_rules ∷ no_stamps ∷ wrong_window ∷ short_gap ∷ long_cycle ∷ []

-- the fault is the first of the list that fails
abbrev pub IsFirst : (SettingsFault → Type 0) → List SettingsFault → SettingsFault → Type 0
IsFirst fails [] fault = ⊥
IsFirst fails (check ∷ checks) fault = (fails check × (fault ≡ check)) ⊎ ((¬ fails check) × IsFirst fails checks fault)

-- none of the list fails
abbrev pub NoneFails : (SettingsFault → Type 0) → List SettingsFault → Type 0
NoneFails fails [] = Unit {0}
NoneFails fails (check ∷ checks) = (¬ fails check) × NoneFails fails checks

-- the table is refused for this fault: the first of its tables, or else of the whole
abbrev pub IsRefusedTable : Members → SettingsFault → Type 0
IsRefusedTable top fault = MatchOption (tables_fault top) (IsFirst (Fails top) whole_checks fault) (λ first. fault ≡ first)

-- the settings are refused for this fault
abbrev pub IsRefused : List ℕ → SettingsFault → Type 0
IsRefused bytes fault = (IsNoDocument bytes × (fault ≡ no_document)) ⊎ ((top : Members) × IsDocument bytes top × IsRefusedTable top fault)

-- the settings are accepted, and give this plan
pub record IsAccepted (bytes : List ℕ) (plan : PlanFields) : Type 0 where
  pub top : Members
  pub document : IsDocument bytes top
  pub tables : tables_fault top ≡ None
  pub whole : NoneFails (Fails top) whole_checks
  pub gives : IsPlan top plan
