-- A service that was read, and the settings that it is from.
use Rattle.std.specs.Prelude.{◌≡◌, ℕ, Bool, true, List, [], ◌∷◌, ◌++◌, Option, Some, None, option_map, codes, if◌then◌else◌}
use Rattle.toml.specs.Data.{Data, Members}
use Rattle.addr_rules.specs.Macs.{broadcast_mac}
use Rattle.addr_rules.specs.declared.rules.Rule.{Rule}
use Rattle.plan_spec.specs.Plan.{ServiceFields, ServiceRules, own_rules}
use Rattle.plan_spec.specs.Checks.{is_between}
use Rattle.settings_spec.specs.Keys.{KeyRule, number_or, address_or}
use Rattle.settings_spec.specs.Settings.{name_key, kind_key, pid_key, frame_keys, window_keys, rules_key, last_keys, window_of, service_of, service_texts}
use Rattle.settings_spec.specs.Refusal.{AreRules, AreServiceRules}
use Rattle.plan_spec.specs.Valid.{is_valid_window, has_valid_values}
use Rattle.plan.specs.Parts.{window_seen, kind_seen, urgent_seen, service_seen}
use Rattle.settings_keys.specs.Lists.{texts_of}
use Rattle.plan.specs.declared.service.Kind.{Kind}
use Rattle.service_plan.specs.declared.service_draft.ServiceDraft.{ServiceDraft}

-- these are the rules of the texts, where each text is a rule
pub record Spells (texts : List (List ℕ)) (rules : List Rule) (spelled : Bool) : Type 0 where
  pub all : spelled ≡ true → AreRules texts rules
  pub only : (others : List Rule) → AreRules texts others → (spelled ≡ true) × (others ≡ rules)

-- the same of a service's rules, the urgent ones among them
pub record SpellsService (texts : ServiceRules (List ℕ)) (own : ServiceRules Rule) (spelled : Bool) : Type 0 where
  pub all : spelled ≡ true → AreServiceRules texts own
  pub only : (others : ServiceRules Rule) → AreServiceRules texts others → (spelled ≡ true) × (others ≡ own)

-- the rules of a service that was read
abbrev pub rules_read : ServiceDraft → ServiceRules Rule
rules_read draft = own_rules (service_seen draft.service)

-- of this name, kind and filter, and the last values of its table; its urgent rules are those of the kind
pub record IsEnded (table : Members) (place : ℕ) (name : List ℕ) (kind : Kind) (items : List Data) (filter : List (List ℕ)) (draft : ServiceDraft) : Type 0 where
  pub seen : service_seen draft.service ≡ record {
    name = name;
    kind = kind_seen kind;
    rules = draft.service.rules;
    urgent = urgent_seen kind;
    filter = filter;
    unicast = address_or broadcast_mac (codes "unicast") table;
    service_id = number_or 1 (codes "service_id") table;
    component_tag = number_or place (codes "component_tag") table;
  }
  pub rules : Spells (texts_of items) draft.service.rules draft.spelled
  pub id_in_range : is_between 0 65535 draft.service.service_id ≡ true
  pub tag_in_range : is_between 0 255 draft.service.component_tag ≡ true

-- the keys of the window, which sliced frames alone have
abbrev pub window_keys_of : Bool → List KeyRule
window_keys_of sliced = if sliced then window_keys else []

-- the keys of a service with frames, in order
abbrev pub mode_keys : Bool → List KeyRule
mode_keys sliced = name_key ∷ kind_key ∷ pid_key ∷ (frame_keys ++ window_keys_of sliced ++ rules_key ∷ last_keys)

-- the window of a table, where its frames are sliced; its numbers are in their ranges
abbrev pub IsWindowOf : Members → Bool → Option (ℕ × ℕ) → Type 0
IsWindowOf table sliced window =
    (option_map window_seen window ≡ (if sliced then Some (window_of table) else None)) × (is_valid_window (option_map window_seen window) ≡ true)

-- the service of a table
abbrev pub ruled : ServiceFields → ServiceRules Rule → ServiceFields
ruled service own = record service { rules = own.rules; urgent = own.urgent }

pub record IsServiceOf (table : Members) (place : ℕ) (draft : ServiceDraft) : Type 0 where
  pub seen : service_seen draft.service ≡ ruled (service_of place table) (rules_read draft)
  pub rules : SpellsService (service_texts table) (rules_read draft) draft.spelled
  pub valid : has_valid_values 32 (service_seen draft.service) ≡ true
