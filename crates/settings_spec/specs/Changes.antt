-- What changes a plan, as settings say it: services by their names, and nothing of what stays. Profile: all of it.
use Rattle.std.specs.Prelude.{ℕ, List, [], ◌∷◌, map, slice_index_or, bytes_eq, codes, Option, Some, None}
use Rattle.std.specs.List.{position_or_len}
use Rattle.std.specs.Option.{unwrap_or}
use Rattle.toml.specs.Data.{Members}
use Rattle.addr_rules.specs.declared.rules.Rule.{Rule}
use Rattle.plan_spec.specs.Plan.{ServiceFields, MovedFields, ChangeFields, PlanFields, pid_of}
use Rattle.plan_spec.specs.Changes.{no_service, with_change}
use Rattle.settings_spec.specs.Keys.{text_or, number_or, number_at, texts_if_any, tables_at}

-- a moved service: its name, its PID and its rules where these are given, as texts or as rules
pub record MovedValues (R : Type 0) : Type 0 where
  pub name : List ℕ
  pub pid : Option ℕ
  pub rules : Option (List R)

-- a change with services by their names, and nothing of what stays
pub record ChangeValues (R : Type 0) : Type 0 where
  pub at : ℕ
  pub moved : List (MovedValues R)

-- what stands at the keys of the tables
abbrev pub moved_values : Members → MovedValues (List ℕ)
moved_values moved = record { name = text_or [] (codes "name") moved; pid = number_at (codes "pid") moved; rules = texts_if_any (codes "rules") moved }

abbrev pub change_values : Members → ChangeValues (List ℕ)
change_values change = record { at = number_or 0 (codes "at") change; moved = map moved_values (tables_at (codes "service") change) }

-- the same without rules
abbrev pub moved_without_rules : {R : Type 0} → MovedValues R → MovedValues Rule
moved_without_rules moved = record { name = moved.name; pid = moved.pid; rules = None }

abbrev pub without_rules : {R : Type 0} → ChangeValues R → ChangeValues Rule
without_rules change = record { at = change.at; moved = map moved_without_rules change.moved }

-- the place of the first service of this name; where none has it, their number, which is no place
abbrev pub place_of_name : List ServiceFields → List ℕ → ℕ
place_of_name services name = position_or_len (λ (service : ServiceFields). bytes_eq service.name name) services

-- what is not given is as it was before
abbrev pub moved_from : ServiceFields → ℕ → MovedValues Rule → MovedFields
moved_from service place moved = record {
  service = place;
  pid = unwrap_or moved.pid (unwrap_or (pid_of service.kind) 0);
  rules = unwrap_or moved.rules service.rules;
}

abbrev pub moved_by : List ServiceFields → MovedValues Rule → MovedFields
moved_by services moved =
    moved_from (slice_index_or services (place_of_name services moved.name) no_service) (place_of_name services moved.name) moved

abbrev pub change_by : List ServiceFields → ChangeValues Rule → ChangeFields
change_by services change = record { at = change.at; moved = map (moved_by services) change.moved }

-- the changes of a plan with these services, each of them from what those before it made
abbrev pub changes_by : List ServiceFields → List (ChangeValues Rule) → List ChangeFields
changes_by services [] = []
changes_by services (change ∷ changes) = change_by services change ∷ changes_by (with_change services (change_by services change)) changes

-- a plan with these changes
abbrev pub with_changes : PlanFields → List (ChangeValues Rule) → PlanFields
with_changes plan changes = record plan { changes = changes_by plan.services changes }
