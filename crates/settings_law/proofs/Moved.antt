-- Services after the changes of accepted settings have values in their ranges, and rules that can be written.
use Rattle.std.proofs.Common.{◌≡◌, ◌⊎◌, inl, inr, ℕ, zero, suc, ◌+◌, ◌<◌, ◌≤◌, Bool, true, false, ◌&&◌, List, [], ◌∷◌, length, map, fold, take, set, get_or, Option, Some, None, codes, refl, ap, sym, ◌∙◌, arith}
use Rattle.std.specs.Prelude.{All}
use Rattle.std.specs.List.{list_all, AllZip}
use Rattle.std.specs.Option.{unwrap_or, option_and_then}
use Rattle.std.proofs.lemmas.Bool.{and_parts}
use Rattle.std.proofs.lemmas.List.{length-map}
use Rattle.std.proofs.lemmas.Slice.Zip.{AllZip-long}
use Rattle.toml.specs.Data.{Data, Members, get_member}
use Rattle.addr_rules.specs.declared.rules.Rule.{Rule}
use Rattle.int_spec.specs.Table.{IsRule}
use Rattle.plan_spec.specs.Plan.{KindFields, ule, mpe, fec, gse, ServiceFields, ServiceRules, MovedFields, pid_of, services_with}
use Rattle.plan_spec.specs.Checks.{is_between, is_service_name, is_gse}
use Rattle.plan_spec.specs.Changes.{with_pid, moved_to, no_service, with_moved, with_change}
use Rattle.plan_spec.specs.Valid.{is_valid_kind, is_valid_rule, has_valid_values, is_valid_service}
use Rattle.plan_spec.specs.Wholes.{is_valid_change}
use Rattle.plan_law.proofs.Kept.{gse_stays, by_moved}
use Rattle.settings_spec.specs.Keys.{wrong_type, out_of_range, range, has_type, in_range, as_natural, holds, optional, required, value_fault, key_fault, table_fault, texts_at, number_at, tables_at}
use Rattle.settings_spec.specs.Changes.{MovedValues, ChangeValues, moved_values, change_values, place_of_name, moved_by, change_by, changes_by}
use Rattle.settings_spec.specs.Settings.{change_keys, moved_keys, moved_fault, change_fault, changes_fault, services_fault, services_of, urgent_texts, service_texts}
use Rattle.settings_spec.specs.Refusal.{AreRuleLists, AreNewRules, IsSpelledMoved, IsSpelledChange}
use Rattle.settings_law.proofs.Keys.{first_none, key_of_table, passed, number_between}
use Rattle.settings_law.proofs.Services.{both_true, values_hold, rules_hold, rules_are}
use Rattle.settings_law.proofs.Tops.{count_holds}

-- a service whose values and rules are such
pub record IsGood (service : ServiceFields) : Type 0 where
  pub values : has_valid_values 32 service ≡ true
  pub rules : list_all is_valid_rule service.rules ≡ true
  pub urgent : list_all is_valid_rule service.urgent ≡ true
  pub written : All IsRule service.rules

abbrev pub AreGood : List ServiceFields → Type 0
AreGood [] = Unit {0}
AreGood (service ∷ services) = IsGood service × AreGood services

-- as checks and laws ask it
pub all_valid : (services : List ServiceFields) → AreGood services → list_all (is_valid_service 32) services ≡ true
all_valid [] good = refl
all_valid (service ∷ services) good =
    both_true (is_valid_service 32 service) (list_all (is_valid_service 32) services)
    (both_true (has_valid_values 32 service) (list_all is_valid_rule service.rules && list_all is_valid_rule service.urgent) good.0.values
    (both_true (list_all is_valid_rule service.rules) (list_all is_valid_rule service.urgent) good.0.rules good.0.urgent))
    (all_valid services good.1)

pub all_written : (services : List ServiceFields) → AreGood services → All (All IsRule) (map (λ (service : ServiceFields). service.rules) services)
all_written [] good k d less = absurd (omega (arith, less))
all_written (service ∷ services) good zero d less = good.0.written
all_written (service ∷ services) good (suc k) d less = all_written services good.1 k d (omega (arith, less))

-- those of the tables are
pub services_good : (place : ℕ) (ms : List Members) (lists : List (ServiceRules Rule)) → place + length ms ≤ 256 → services_fault ms ≡ None
    → AreRuleLists (map service_texts ms) lists → AreGood (services_with (services_of place ms) lists)
services_good place [] lists few none are = tt
services_good place (m ∷ ms) [] few none are = absurd are
services_good place (m ∷ ms) (own ∷ lists) few none are =
    let parts = first_none _ (services_fault ms) none in (
      record {
        values = values_hold place m (omega (arith, few)) parts.0;
        rules = rules_hold (texts_at (codes "rules") m) own.rules are.0.rules;
        urgent = rules_hold (urgent_texts m) own.urgent are.0.urgent;
        written = rules_are (texts_at (codes "rules") m) own.rules are.0.rules;
      },
      services_good (place + 1) ms lists (omega (arith, few)) parts.1 are.1,
    )

-- One of them.

good_at : (services : List ServiceFields) (k : ℕ) → AreGood services → k < length services → IsGood (get_or services k no_service)
good_at [] k good less = absurd (omega (arith, less))
good_at (service ∷ services) zero good less = good.0
good_at (service ∷ services) (suc k) good less = good_at services k good.1 (omega (arith, less))

rules_at : (services : List ServiceFields) (k : ℕ) → AreGood services → list_all is_valid_rule (get_or services k no_service).rules ≡ true
rules_at [] k good = refl
rules_at (service ∷ services) zero good = good.0.rules
rules_at (service ∷ services) (suc k) good = rules_at services k good.1

written_at : (services : List ServiceFields) (k : ℕ) → AreGood services → All IsRule (get_or services k no_service).rules
written_at [] k good = λ n d less. absurd (omega (arith, less))
written_at (service ∷ services) zero good = good.0.written
written_at (service ∷ services) (suc k) good = written_at services k good.1

good_set : (services : List ServiceFields) (k : ℕ) (new : ServiceFields) → AreGood services → (k < length services → IsGood new) → AreGood (set services k new)
good_set [] k new good one = tt
good_set (service ∷ services) zero new good one = (one (omega arith), good.1)
good_set (service ∷ services) (suc k) new good one = (good.0, good_set services k new good.1 (λ less. one (omega (arith, less))))

-- A move of one.

-- a PID that a kind may have: any where it has none
abbrev Fits : KindFields → ℕ → Type 0
Fits kind pid = (is_gse kind ≡ true) ⊎ (is_between 32 8190 pid ≡ true)

kind_again : (kind : KindFields) (pid : ℕ) → is_valid_kind 32 kind ≡ true → Fits kind pid → is_valid_kind 32 (with_pid kind pid) ≡ true
kind_again (ule old address packing) pid valid (inl never) = absurd (cc)
kind_again (ule old address packing) pid valid (inr within) = within
kind_again (mpe old) pid valid (inl never) = absurd (cc)
kind_again (mpe old) pid valid (inr within) = within
kind_again (fec old rows parity window) pid valid (inl never) = absurd (cc)
kind_again (fec old rows parity window) pid valid (inr within) = both_true (is_between 32 8190 pid) _ within (and_parts (is_between 32 8190 old) _ valid).1
kind_again (gse isi address) pid valid fits = valid

own_fits : (kind : KindFields) → is_valid_kind 32 kind ≡ true → Fits kind (unwrap_or (pid_of kind) 0)
own_fits (ule pid address packing) valid = inr valid
own_fits (mpe pid) valid = inr valid
own_fits (fec pid rows parity window) valid = inr (and_parts (is_between 32 8190 pid) _ valid).0
own_fits (gse isi address) valid = inl refl

kind_of_values : (service : ServiceFields) → has_valid_values 32 service ≡ true → is_valid_kind 32 service.kind ≡ true
kind_of_values service valid = (and_parts (is_valid_kind 32 service.kind) _ (and_parts (is_service_name service.name) _ valid).1).0

values_again : (service : ServiceFields) (moved : MovedFields) → has_valid_values 32 service ≡ true → Fits service.kind moved.pid → has_valid_values 32 (moved_to service moved) ≡ true
values_again service moved valid fits =
    let named = and_parts (is_service_name service.name) _ valid in
    let kinds = and_parts (is_valid_kind 32 service.kind) _ named.1 in
    both_true (is_service_name service.name) _ named.0 (both_true (is_valid_kind 32 (with_pid service.kind moved.pid)) _ (kind_again service.kind moved.pid kinds.0 fits) kinds.1)

-- a move that leaves services good, of those that a change begins with
record IsGoodMove (services : List ServiceFields) (moved : MovedFields) : Type 0 where
  fits : moved.service < length services → Fits (get_or services moved.service no_service).kind moved.pid
  rules : list_all is_valid_rule moved.rules ≡ true
  written : All IsRule moved.rules

abbrev AreGoodMoves : List ServiceFields → List MovedFields → Type 0
AreGoodMoves services [] = Unit {0}
AreGoodMoves services (moved ∷ moves) = IsGoodMove services moved × AreGoodMoves services moves

abbrev gse_part : ServiceFields → Bool
gse_part service = is_gse service.kind

gse_at : (services : List ServiceFields) (k : ℕ) → get_or (map gse_part services) k false ≡ gse_part (get_or services k no_service)
gse_at [] k = refl
gse_at (service ∷ services) zero = refl
gse_at (service ∷ services) (suc k) = gse_at services k

-- the kinds of some services are those of others, but for PIDs
fits_still : (services others : List ServiceFields) (k pid : ℕ) → map gse_part services ≡ map gse_part others
    → Fits (get_or others k no_service).kind pid → Fits (get_or services k no_service).kind pid
fits_still services others k pid same (inl none) =
    inl (sym (gse_at services k) ∙ ap (λ (l : List Bool). get_or l k false) same ∙ gse_at others k ∙ none)
fits_still services others k pid same (inr within) = inr within

moves_good : (start services : List ServiceFields) → map gse_part services ≡ map gse_part start → AreGood services
    → (moves : List MovedFields) → AreGoodMoves start moves → AreGood (fold with_moved services moves)
moves_good start services same good [] right = good
moves_good start services same good (moved ∷ moves) right =
    moves_good start (with_moved services moved) (by_moved gse_part gse_stays services moved ∙ same)
    (good_set services moved.service (moved_to (get_or services moved.service no_service) moved) good
    (λ less.
    let before : IsGood (get_or services moved.service no_service) = good_at services moved.service good less in
    record {
      values = values_again (get_or services moved.service no_service) moved before.values
          (fits_still services start moved.service moved.pid same (right.0.fits (lengths less)));
      rules = right.0.rules;
      urgent = before.urgent;
      written = right.0.written;
    }))
    moves right.1
  where
    lengths : moved.service < length services → moved.service < length start
    lengths less =
        omega (arith, less, length-map services gse_part, length-map start gse_part, ap (λ (l : List Bool). length l) same)

-- The moves of a text.

pid_if_any : (m : Members) → key_fault (optional (codes "pid") (range 32 8190)) m ≡ None → (pid : ℕ) → number_at (codes "pid") m ≡ Some pid → is_between 32 8190 pid ≡ true
unfolding key_fault number_at
pid_if_any m none pid is = by_value (get_member (codes "pid") m) none is
  where
    by_value : (o : Option Data) → value_fault (optional (codes "pid") (range 32 8190)) o ≡ None → option_and_then as_natural o ≡ Some pid → is_between 32 8190 pid ≡ true
    by_value None right some = absurd (cc)
    by_value (Some d) right some =
        let tests = passed (has_type (range 32 8190) d) (in_range (range 32 8190) d) (wrong_type (codes "pid")) (out_of_range (codes "pid")) right in
        sym (ap (holds (is_between 32 8190)) some) ∙ tests.1

new_rules_hold : (texts : Option (List (List ℕ))) (rules : Option (List Rule)) (old : List Rule) → AreNewRules texts rules → list_all is_valid_rule old ≡ true
    → list_all is_valid_rule (unwrap_or rules old) ≡ true
new_rules_hold None None old are valid = valid
new_rules_hold None (Some rules) old are valid = absurd are
new_rules_hold (Some texts) None old are valid = absurd are
new_rules_hold (Some texts) (Some rules) old are valid = rules_hold texts rules are

new_rules_are : (texts : Option (List (List ℕ))) (rules : Option (List Rule)) (old : List Rule) → AreNewRules texts rules → All IsRule old → All IsRule (unwrap_or rules old)
new_rules_are None None old are valid = valid
new_rules_are None (Some rules) old are valid = absurd are
new_rules_are (Some texts) None old are valid = absurd are
new_rules_are (Some texts) (Some rules) old are valid = rules_are texts rules are

move_by_good : (services : List ServiceFields) → AreGood services → (m : Members) → table_fault moved_keys m ≡ None → (moved : MovedValues Rule)
    → IsSpelledMoved (moved_values m) moved → IsGoodMove services (moved_by services moved)
move_by_good services good m none moved are = record {
  fits = λ less. by_pid moved.pid refl (kind_of_values (get_or services place no_service) (good_at services place good less).values);
  rules = new_rules_hold (moved_values m).rules moved.rules (get_or services place no_service).rules are.rules (rules_at services place good);
  written = new_rules_are (moved_values m).rules moved.rules (get_or services place no_service).rules are.rules (written_at services place good);
}
  where
    place : ℕ
    place = place_of_name services moved.name

    right : key_fault (optional (codes "pid") (range 32 8190)) m ≡ None
    right = key_of_table moved_keys (optional (codes "pid") (range 32 8190)) m none (inr (inl refl))

    by_pid : (o : Option ℕ) → moved.pid ≡ o → is_valid_kind 32 (get_or services place no_service).kind ≡ true
        → Fits (get_or services place no_service).kind (unwrap_or o (unwrap_or (pid_of (get_or services place no_service).kind) 0))
    by_pid None is valid = own_fits (get_or services place no_service).kind valid
    by_pid (Some pid) is valid = inr (pid_if_any m right pid (sym are.pid ∙ is))

moves_by_good : (services : List ServiceFields) → AreGood services → (ms : List Members) → moved_fault ms ≡ None → (moves : List (MovedValues Rule))
    → AllZip IsSpelledMoved (map moved_values ms) moves → AreGoodMoves services (map (moved_by services) moves)
moves_by_good services good [] none [] are = tt
moves_by_good services good [] none (moved ∷ moves) are = absurd are
moves_by_good services good (m ∷ ms) none [] are = absurd are
moves_by_good services good (m ∷ ms) none (moved ∷ moves) are =
    let parts = first_none (table_fault moved_keys m) (moved_fault ms) none in
    (move_by_good services good m parts.0 moved are.0, moves_by_good services good ms parts.1 moves are.1)

-- nothing is wrong with a change of the text
change_parts : (m : Members) → change_fault m ≡ None → (table_fault change_keys m ≡ None) × (moved_fault (tables_at (codes "service") m) ≡ None)
unfolding change_fault
change_parts m none = first_none (table_fault change_keys m) (moved_fault (tables_at (codes "service") m)) none

change_good : (services : List ServiceFields) → AreGood services → (m : Members) → change_fault m ≡ None → (change : ChangeValues Rule)
    → IsSpelledChange (change_values m) change → AreGood (with_change services (change_by services change))
change_good services good m none change are =
    moves_good services services refl good (map (moved_by services) change.moved)
    (moves_by_good services good (tables_at (codes "service") m) (change_parts m none).1 change.moved are.moved)

-- the services of each version
pub changes_good : (services : List ServiceFields) → AreGood services → (ms : List Members) → changes_fault ms ≡ None → (changes : List (ChangeValues Rule))
    → AllZip IsSpelledChange (map change_values ms) changes → (version : ℕ) → AreGood (fold with_change services (take version (changes_by services changes)))
changes_good services good ms none changes are zero = good
changes_good services good [] none [] are (suc version) = good
changes_good services good [] none (change ∷ changes) are (suc version) = absurd are
changes_good services good (m ∷ ms) none [] are (suc version) = absurd are
changes_good services good (m ∷ ms) none (change ∷ changes) are (suc version) =
    let parts = first_none (change_fault m) (changes_fault ms) none in
    changes_good (with_change services (change_by services change)) (change_good services good m parts.0 change are.0) ms parts.1 changes are.1 version

-- The ranges of changes.

change_valid : (services : List ServiceFields) (m : Members) → change_fault m ≡ None → (change : ChangeValues Rule) → IsSpelledChange (change_values m) change
    → is_valid_change (change_by services change) ≡ true
change_valid services m none change are =
    let keys = (change_parts m none).0 in
    let count : length (map (moved_by services) change.moved) ≡ length (tables_at (codes "service") m) =
    length-map change.moved (moved_by services)
    ∙ AllZip-long IsSpelledMoved (change_values m).moved change.moved are.moved
    ∙ length-map (tables_at (codes "service") m) moved_values in
    both_true (is_between 2 4194304 change.at) (is_between 1 64 (length (map (moved_by services) change.moved)))
    (ap (is_between 2 4194304) are.at
    ∙ number_between 2 4194304 0 (codes "at") true m (key_of_table change_keys (required (codes "at") (range 2 4194304)) m keys (inl refl)) (λ never. absurd (cc)))
    (ap (is_between 1 64) count ∙ count_holds 64 (codes "service") m (key_of_table change_keys _ m keys (inr (inl refl))))

pub changes_valid : (services : List ServiceFields) (ms : List Members) → changes_fault ms ≡ None → (changes : List (ChangeValues Rule))
    → AllZip IsSpelledChange (map change_values ms) changes → list_all is_valid_change (changes_by services changes) ≡ true
changes_valid services [] none [] are = refl
changes_valid services [] none (change ∷ changes) are = absurd are
changes_valid services (m ∷ ms) none [] are = absurd are
changes_valid services (m ∷ ms) none (change ∷ changes) are =
    let parts = first_none (change_fault m) (changes_fault ms) none in
    both_true (is_valid_change (change_by services change)) (list_all is_valid_change (changes_by (with_change services (change_by services change)) changes))
    (change_valid services m parts.0 change are.0) (changes_valid (with_change services (change_by services change)) ms parts.1 changes are.1)

pub length-changes_by : (services : List ServiceFields) (changes : List (ChangeValues Rule)) → length (changes_by services changes) ≡ length changes
length-changes_by services [] = refl
length-changes_by services (change ∷ changes) = ap suc (length-changes_by (with_change services (change_by services change)) changes)
