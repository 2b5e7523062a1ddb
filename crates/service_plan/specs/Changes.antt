-- Changes that were read, and the settings that they are from.
use Rattle.std.specs.Prelude.{◌≡◌, ℕ, Bool, true, List, map, Option}
use Rattle.std.specs.Option.{unwrap_or}
use Rattle.std.specs.List.{AllZip}
use Rattle.toml.specs.Data.{Members}
use Rattle.addr_rules.specs.declared.rules.Rule.{Rule}
use Rattle.plan_spec.specs.Plan.{ServiceFields}
use Rattle.settings_spec.specs.Changes.{MovedValues, ChangeValues, moved_values, change_values, moved_without_rules, without_rules, moved_by, change_by, changes_by}
use Rattle.settings_spec.specs.Refusal.{AreNewRules, IsSpelledMoved, IsSpelledChange}
use Rattle.plan.specs.Parts.{moved_seen, change_seen, changes_seen}
use Rattle.service_plan.specs.declared.changes.MovedDraft.{MovedDraft}
use Rattle.service_plan.specs.declared.changes.MovesDraft.{MovesDraft}
use Rattle.service_plan.specs.declared.changes.ChangeDraft.{ChangeDraft}
use Rattle.service_plan.specs.declared.changes.ChangesDraft.{ChangesDraft}

-- the value is what the text spells, and it spells no other, where the answer says that it spells one
pub record IsRead {T V : Type 0} (Spells : T → V → Type 0) (text : T) (value : V) (spelled : Bool) : Type 0 where
  pub all : spelled ≡ true → Spells text value
  pub only : (other : V) → Spells text other → (spelled ≡ true) × (other ≡ value)

-- the rules that a service has from now on: those of the texts where there are any, otherwise the old ones
pub record AreNew (texts : Option (List (List ℕ))) (old rules : List Rule) (spelled : Bool) : Type 0 where
  pub given : Option (List Rule)
  pub are : rules ≡ unwrap_or given old
  pub read : IsRead AreNewRules texts given spelled

-- a moved service of a table, after the services that it is moved from
pub record IsMoveOf (services : List ServiceFields) (table : Members) (draft : MovedDraft) : Type 0 where
  pub value : MovedValues Rule
  pub seen : moved_seen draft.moved ≡ moved_by services value
  pub same : moved_without_rules value ≡ moved_without_rules (moved_values table)
  pub read : IsRead IsSpelledMoved (moved_values table) value draft.spelled

-- those of tables
pub record AreMovesOf (services : List ServiceFields) (tables : List Members) (draft : MovesDraft) : Type 0 where
  pub values : List (MovedValues Rule)
  pub seen : map moved_seen draft.moved ≡ map (moved_by services) values
  pub same : map moved_without_rules values ≡ map moved_without_rules (map moved_values tables)
  pub read : IsRead (AllZip IsSpelledMoved) (map moved_values tables) values draft.spelled

-- a change of a table
pub record IsChangeOf (services : List ServiceFields) (table : Members) (draft : ChangeDraft) : Type 0 where
  pub value : ChangeValues Rule
  pub seen : change_seen draft.change ≡ change_by services value
  pub same : without_rules value ≡ without_rules (change_values table)
  pub read : IsRead IsSpelledChange (change_values table) value draft.spelled

-- the changes of tables
pub record AreChangesOf (services : List ServiceFields) (tables : List Members) (draft : ChangesDraft) : Type 0 where
  pub values : List (ChangeValues Rule)
  pub seen : changes_seen draft.changes ≡ changes_by services values
  pub same : map without_rules values ≡ map without_rules (map change_values tables)
  pub read : IsRead (AllZip IsSpelledChange) (map change_values tables) values draft.spelled
