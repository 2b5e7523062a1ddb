-- A plan that was read, and the settings that it is from.
use Rattle.std.specs.Prelude.{◌≡◌, ◌≤◌, true, List, length, map, codes, Option}
use Rattle.toml.specs.Data.{Members}
use Rattle.addr_rules.specs.declared.rules.Rule.{Rule}
use Rattle.plan_spec.specs.Plan.{ServiceRules, PlanFields, with_rules}
use Rattle.settings_spec.specs.Keys.{SettingsFault, key_fault, unknown_fault, keys_fault, first_of, table_at, tables_at}
use Rattle.settings_spec.specs.Changes.{ChangeValues, without_rules, with_changes}
use Rattle.settings_spec.specs.Settings.{top_names, value_keys, int_key, service_key, change_key, int_fault, services_fault, changes_fault, changes_at, plan_of}
use Rattle.settings_spec.specs.Refusal.{AreSpelled}
use Rattle.plan.specs.Parts.{plan_seen}
use Rattle.service_plan.specs.Drafts.{rules_seen}
use Rattle.service_plan.specs.declared.settings_draft.Draft.{Draft}

-- what is wrong with the tables, table by table
abbrev pub parts_fault : Members → Option SettingsFault
parts_fault top =
    first_of (unknown_fault (top_names top) top)
    (first_of (keys_fault value_keys top) (first_of (key_fault (int_key top) top) (first_of (key_fault (service_key top) top)
    (first_of (int_fault (table_at (codes "int") top)) (first_of (services_fault (tables_at (codes "service") top))
    (first_of (key_fault change_key top) (changes_fault (tables_at (codes "change") top))))))))

abbrev pub draft_seen : Draft → PlanFields
draft_seen draft = plan_seen draft.recording draft.packet_rate draft.cycle draft.frame_bytes draft.table draft.services draft.changes

-- the plan of the tables, with rules as far as these are spelled
pub record IsDraftOf (top : Members) (draft : Draft) : Type 0 where
  pub changes : List (ChangeValues Rule)
  pub seen : draft_seen draft ≡ with_changes (with_rules (plan_of top) (rules_seen draft.services)) changes
  pub same : map without_rules changes ≡ map without_rules (changes_at top)
  pub spelled : draft.spelled ≡ true → AreSpelled top (rules_seen draft.services) changes
  pub only : (lists : List (ServiceRules Rule)) (others : List (ChangeValues Rule)) → AreSpelled top lists others
      → (draft.spelled ≡ true) × ((lists ≡ rules_seen draft.services) × (others ≡ changes))
  pub rate : 1 ≤ draft.packet_rate
  pub count : length draft.services ≤ 64
