-- Services that were read, and the settings that they are from.
use Rattle.std.specs.Prelude.{◌≡◌, ℕ, Bool, true, List, length, map}
use Rattle.std.specs.List.{list_all}
use Rattle.toml.specs.Data.{Members}
use Rattle.addr_rules.specs.declared.rules.Rule.{Rule}
use Rattle.plan_spec.specs.Plan.{ServiceRules, own_rules, services_with}
use Rattle.settings_spec.specs.Settings.{services_of, service_texts}
use Rattle.settings_spec.specs.Refusal.{AreRuleLists}
use Rattle.plan_spec.specs.Valid.{has_valid_values}
use Rattle.plan.specs.Parts.{service_seen, services_seen}
use Rattle.plan.specs.declared.service.Service.{Service}
use Rattle.service_plan.specs.declared.services.ServicesDraft.{ServicesDraft}

-- the rules of services
abbrev pub rules_seen : List Service → List (ServiceRules Rule)
rules_seen services = map (λ (service : Service). own_rules (service_seen service)) services

abbrev pub texts_of_rules : List Members → List (ServiceRules (List ℕ))
texts_of_rules tables = map service_texts tables

-- these are their rules, where each text is one
pub record HaveRulesOf (texts : List (ServiceRules (List ℕ))) (rules : List (ServiceRules Rule)) (spelled : Bool) : Type 0 where
  pub all : spelled ≡ true → AreRuleLists texts rules
  pub only : (others : List (ServiceRules Rule)) → AreRuleLists texts others → (spelled ≡ true) × (others ≡ rules)

-- the services of the tables
pub record AreServicesOf (tables : List Members) (draft : ServicesDraft) : Type 0 where
  pub seen : services_seen draft.services ≡ services_with (services_of 0 tables) (rules_seen draft.services)
  pub rules : HaveRulesOf (texts_of_rules tables) (rules_seen draft.services) draft.spelled
  pub valid : list_all (has_valid_values 32) (services_seen draft.services) ≡ true
  pub count : length draft.services ≡ length tables
