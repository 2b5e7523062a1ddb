-- The changes of a table: one service after another, and one change after another.
use Rattle.std.proofs.Common.{◌≡◌, inl, inr, ℕ, ◌+◌, ◌<◌, ◌≤◌, Bool, true, false, not, cond, bytes_eq, arith, ◌&&◌, List, [], ◌∷◌, ◌++◌, length, map, fold, take, get_or, Option, Some, None, codes, refl, ap, ap₂, sym, ◌∙◌, append_assoc, subst}
use Rattle.std.specs.Option.{unwrap_or}
use Rattle.std.specs.List.{AllZip, position_or_len}
use Rattle.std.proofs.lemmas.Bool.{cases_Bool}
use Rattle.std.proofs.lemmas.Bool.Decides.{nat_tests}
use Rattle.std.specs.Prelude.{slice_get, nat_lt}
use Rattle.std.proofs.lemmas.Option.{get_or_from_slice_get}
use Rattle.std.proofs.lemmas.List.{append-nil, take_more, get_or-map}
use Rattle.std.proofs.lemmas.List.Sums.{fold-append}
use Rattle.toml.specs.Data.{Members}
use Rattle.addr_rules.specs.declared.rules.Rule.{Rule}
use Rattle.plan_spec.specs.Plan.{ServiceFields, MovedFields, ChangeFields, pid_of}
use Rattle.plan_spec.specs.Changes.{no_service, with_change}
use Rattle.settings_spec.specs.Keys.{text_or, number_at, number_or, texts_if_any, tables_at, table_fault, first_of, SettingsFault}
use Rattle.settings_spec.specs.Changes.{MovedValues, ChangeValues, moved_values, change_values, moved_without_rules, without_rules, place_of_name, moved_by, changes_by}
use Rattle.settings_spec.specs.Settings.{moved_keys, moved_fault, change_keys, change_fault, changes_fault}
use Rattle.settings_spec.specs.Refusal.{AreRules, AreNewRules, IsSpelledMoved, IsSpelledChange}
use Rattle.plan_law.proofs.Kept.{by_moves, name_stays}
use Rattle.plan.specs.Parts.{service_seen, services_seen, moved_seen, change_seen, changes_seen}
use Rattle.plan.specs.declared.service.Service.{Service}
use Rattle.plan.specs.Moves.{services_after}
use Rattle.service_plan.specs.Keys.{Faults}
use Rattle.service_plan.specs.declared.fault.PlanError.{PlanError}
use Rattle.plan.specs.declared.change.Moved.{Moved}
use Rattle.plan.specs.declared.change.Change.{Change}
use Rattle.service_plan.specs.Changes.{IsRead, AreNew, IsMoveOf, AreMovesOf, IsChangeOf, AreChangesOf}
use Rattle.service_plan.specs.declared.changes.MovedDraft.{MovedDraft}
use Rattle.service_plan.specs.declared.changes.MovesDraft.{MovesDraft}
use Rattle.service_plan.specs.declared.changes.ChangeDraft.{ChangeDraft}
use Rattle.service_plan.specs.declared.changes.ChangesDraft.{ChangesDraft}
use Rattle.service_plan.proofs.ReadLemmas.{SoFar, none_yet, one_more, all_read, all_same}

-- The service of a name. No change gives a service another.

by_names : (services : List ServiceFields) (name : List ℕ) → place_of_name services name ≡ position_or_len (λ n. bytes_eq n name) (map (λ (s : ServiceFields). s.name) services)
by_names [] name = refl
by_names (s ∷ services) name = ap (λ (n : ℕ). cond (not (bytes_eq s.name name)) (1 + n) 0) (by_names services name)

names_after : (services : List ServiceFields) (changes : List Change) → map (λ (s : ServiceFields). s.name) (fold with_change services (changes_seen changes)) ≡ map (λ (s : ServiceFields). s.name) services
names_after services [] = refl
names_after services (change ∷ changes) =
    names_after (with_change services (change_seen change)) changes ∙ by_moves (λ (s : ServiceFields). s.name) name_stays services (map moved_seen change.moved)

pub place_after : (services : List Service) (changes : List Change) (name : List ℕ) → place_of_name (services_seen services) name ≡ place_of_name (services_after services changes) name
place_after services changes name =
    by_names (services_seen services) name
    ∙ ap (λ (l : List (List ℕ)). position_or_len (λ n. bytes_eq n name) l) (sym (names_after (services_seen services) changes))
    ∙ sym (by_names (services_after services changes) name)

pub name_at : (services : List Service) (i : ℕ) (service : Service) (name : List ℕ) (b : Bool) → i < length services → service ≡ get_or services i service → b ≡ bytes_eq service.name name
    → bytes_eq (get_or (services_seen services) i no_service).name name ≡ b
name_at services i service name b within is same =
    ap (λ (s : ServiceFields). bytes_eq s.name name) (get_or-map service_seen services i service no_service within ∙ ap service_seen (sym is)) ∙ sym same

below_test : (a b : ℕ) → nat_lt a b ≡ true → a < b
below_test a b is = grind (arith, nat_tests)

not_below : (a b : ℕ) → nat_lt a b ≡ false → b ≤ a
not_below a b is = grind (arith, nat_tests)

pub is_within : (a b : ℕ) → true ≡ nat_lt a b → a < b
is_within a b is = below_test a b (sym is)

pub is_past : (a b : ℕ) → false ≡ nat_lt a b → b ≤ a
is_past a b is = not_below a b (sym is)

-- none so far, and not this one
pub none_more : (test : ℕ → Bool) (i : ℕ) → ((k : ℕ) → k < i → test k ≡ false) → test i ≡ false → (k : ℕ) → k < i + 1 → test k ≡ false
none_more test i before here k within = elim (cases_Bool (nat_lt k i)) [
  | inl less ↦ before k (below_test k i less)
  | inr more ↦ ap test (last k i within (not_below k i more)) ∙ here
]
  where
    last : (a b : ℕ) → a < b + 1 → b ≤ a → a ≡ b
    last a b low high = omega (arith, low, high)

-- The rules of a moved service.

given_rules : (texts : List (List ℕ)) (rules : List Rule) (spelled : Bool) → (spelled ≡ true → AreRules texts rules)
    → ((others : List Rule) → AreRules texts others → (spelled ≡ true) × (others ≡ rules)) → IsRead AreNewRules (Some texts) (Some rules) spelled
given_rules texts rules spelled all only = record { all = all; only = by_other }
  where
    by_other : (other : Option (List Rule)) → AreNewRules (Some texts) other → (spelled ≡ true) × (other ≡ Some rules)
    by_other None are = absurd are
    by_other (Some others) are = let found = only others are in (found.0, ap Some found.1)

no_rules_given : IsRead AreNewRules None None true
no_rules_given = record { all = λ yes. tt; only = by_other }
  where
    by_other : (other : Option (List Rule)) → AreNewRules None other → (true ≡ true) × (other ≡ None)
    by_other None are = (refl, refl)
    by_other (Some others) are = absurd are

pub new_are : (texts : List (List ℕ)) (old rules : List Rule) (spelled : Bool) → (spelled ≡ true → AreRules texts rules)
    → ((others : List Rule) → AreRules texts others → (spelled ≡ true) × (others ≡ rules)) → AreNew (Some texts) old rules spelled
new_are texts old rules spelled all only = record { given = Some rules; are = refl; read = given_rules texts rules spelled all only }

pub old_are : (old rules : List Rule) → rules ≡ old → AreNew None old rules true
old_are old rules same = record { given = None; are = same; read = no_rules_given }

-- A moved service.

abbrev value_with : {R : Type 0} → List ℕ → Option ℕ → Option (List R) → MovedValues R
value_with name pid rules = record { name = name; pid = pid; rules = rules }

spelled_move : (name : List ℕ) (pid : Option ℕ) (texts : Option (List (List ℕ))) (given : Option (List Rule)) (spelled : Bool) → IsRead AreNewRules texts given spelled
    → IsRead IsSpelledMoved (value_with name pid texts) (value_with name pid given) spelled
spelled_move name pid texts given spelled read = record {
  all = λ yes. record { name = refl; pid = refl; rules = read.all yes };
  only = λ other are.
      let found = read.only other.rules are.rules in
      (found.0, ap (λ n. value_with n other.pid other.rules) are.name ∙ ap (λ q. value_with name q other.rules) are.pid ∙ ap (value_with name pid) found.1);
}

abbrev moved_with : ℕ → ℕ → List Rule → MovedFields
moved_with service pid rules = record { service = service; pid = pid; rules = rules }

-- as it is made of its name, PID and rules, and of the service before
abbrev new_pid_of : ServiceFields → Option ℕ → ℕ
new_pid_of service pid = unwrap_or pid (unwrap_or (pid_of service.kind) 0)

abbrev at_place : List ServiceFields → ℕ → ServiceFields
at_place services k = get_or services k no_service

pub move_is : (services : List ServiceFields) (m : Members) (draft : MovedDraft) (place : ℕ) → place ≡ place_of_name services (text_or [] (codes "name") m)
    → AreNew (texts_if_any (codes "rules") m) (at_place services place).rules draft.moved.rules draft.spelled → draft.moved.service ≡ place
    → draft.moved.pid ≡ new_pid_of (at_place services place) (number_at (codes "pid") m) → IsMoveOf services m draft
move_is services m draft place at new service_is pid_is =
    let pid : Option ℕ = number_at (codes "pid") m in
    record {
      value = value_with (text_or [] (codes "name") m) pid new.given;
      seen =
          ap (λ k. moved_with k draft.moved.pid draft.moved.rules) service_is
          ∙ ap (λ q. moved_with place q draft.moved.rules) pid_is
          ∙ ap (moved_with place (new_pid_of (at_place services place) pid)) new.are
          ∙ ap (λ k. moved_with k (new_pid_of (at_place services k) pid) (unwrap_or new.given (at_place services k).rules)) at;
      same = refl;
      read = spelled_move (text_or [] (codes "name") m) pid (texts_if_any (codes "rules") m) new.given draft.spelled new.read;
    }

-- Those of a change.

pub record MovesSoFar (services : List ServiceFields) (all rest : List Members) (list : List Moved) (spelled : Bool) : Type 0 where
  pub values : List (MovedValues Rule)
  pub fault : moved_fault all ≡ moved_fault rest
  pub seen : map moved_seen list ≡ map (moved_by services) values
  pub far : SoFar IsSpelledMoved moved_without_rules moved_without_rules (map moved_values all) (map moved_values rest) values spelled

pub no_moves_yet : (services : List ServiceFields) (all : List Members) → MovesSoFar services all all [] true
no_moves_yet services all = record {
  values = [];
  fault = refl;
  seen = refl;
  far = none_yet IsSpelledMoved moved_without_rules moved_without_rules (map moved_values all);
}

mapped_more : {X Y : Type 0} (f : X → Y) (xs : List X) (x : X) → map f (xs ++ x ∷ []) ≡ map f xs ++ f x ∷ []
mapped_more f [] x = refl
mapped_more {X} {Y} f (y ∷ xs) x = ap (λ (l : List Y). f y ∷ l) (mapped_more f xs x)

pub one_move_more : (services : List ServiceFields) (m : Members) (all rest : List Members) (list : List Moved) (spelled : Bool) (draft : MovedDraft)
    → MovesSoFar services all (m ∷ rest) list spelled → table_fault moved_keys m ≡ None → IsMoveOf services m draft
    → MovesSoFar services all rest (list ++ draft.moved ∷ []) (spelled && draft.spelled)
one_move_more services m all rest list spelled draft so none is = record {
  values = so.values ++ is.value ∷ [];
  fault = so.fault ∙ ap (λ (o : Option SettingsFault). first_of o (moved_fault rest)) none;
  seen =
      mapped_more moved_seen list draft.moved
      ∙ ap₂ (λ (l : List MovedFields) (x : MovedFields). l ++ x ∷ []) so.seen is.seen
      ∙ sym (mapped_more (moved_by services) so.values is.value);
  far = one_more IsSpelledMoved moved_without_rules moved_without_rules (moved_values m) (map moved_values all) (map moved_values rest) so.values is.value spelled draft.spelled so.far is.read is.same;
}

pub wrong_move : (services : List ServiceFields) (m : Members) (all rest : List Members) (list : List Moved) (spelled : Bool) → MovesSoFar services all (m ∷ rest) list spelled
    → moved_fault all ≡ first_of (table_fault moved_keys m) (moved_fault rest)
wrong_move services m all rest list spelled so = so.fault

pub all_moves : (services : List ServiceFields) (all : List Members) (draft : MovesDraft) → MovesSoFar services all [] draft.moved draft.spelled → AreMovesOf services all draft
all_moves services all draft so = record {
  values = so.values;
  seen = so.seen;
  same = all_same IsSpelledMoved moved_without_rules moved_without_rules (map moved_values all) so.values draft.spelled so.far;
  read = all_read IsSpelledMoved moved_without_rules moved_without_rules (map moved_values all) so.values draft.spelled so.far;
}

-- A change.

abbrev change_with : {R : Type 0} → ℕ → List (MovedValues R) → ChangeValues R
change_with at moved = record { at = at; moved = moved }

abbrev fields_with : ℕ → List MovedFields → ChangeFields
fields_with at moved = record { at = at; moved = moved }

spelled_change : (at : ℕ) (texts : List (MovedValues (List ℕ))) (values : List (MovedValues Rule)) (spelled : Bool) → IsRead (AllZip IsSpelledMoved) texts values spelled
    → IsRead IsSpelledChange (change_with at texts) (change_with at values) spelled
spelled_change at texts values spelled read = record {
  all = λ yes. record { at = refl; moved = read.all yes };
  only = λ other are.
      let found = read.only other.moved are.moved in
      (found.0, ap (λ n. change_with n other.moved) are.at ∙ ap (change_with at) found.1);
}

pub change_is : (services : List ServiceFields) (m : Members) (draft : ChangeDraft) → draft.change.at ≡ number_or 0 (codes "at") m
    → AreMovesOf services (tables_at (codes "service") m) (record { moved = draft.change.moved; spelled = draft.spelled }) → IsChangeOf services m draft
change_is services m draft at moves = record {
  value = change_with (number_or 0 (codes "at") m) moves.values;
  seen = ap₂ fields_with at moves.seen;
  same = ap (change_with (number_or 0 (codes "at") m)) moves.same;
  read = spelled_change (number_or 0 (codes "at") m) (map moved_values (tables_at (codes "service") m)) moves.values draft.spelled moves.read;
}

pub change_fault_is : (m : Members) → table_fault change_keys m ≡ None → change_fault m ≡ moved_fault (tables_at (codes "service") m)
unfolding change_fault
change_fault_is m none = ap (λ (o : Option SettingsFault). first_of o (moved_fault (tables_at (codes "service") m))) none

pub change_fault_here : (m : Members) (f : SettingsFault) → table_fault change_keys m ≡ Some f → change_fault m ≡ Some f
unfolding change_fault
change_fault_here m f some = ap (λ (o : Option SettingsFault). first_of o (moved_fault (tables_at (codes "service") m))) some

pub change_error : (e : PlanError) (m : Members) → table_fault change_keys m ≡ None → Faults e (moved_fault (tables_at (codes "service") m)) → Faults e (change_fault m)
change_error e m none wrong = subst (λ (o : Option SettingsFault). Faults e o) (sym (change_fault_is m none)) wrong

-- All changes.

pub record ChangesSoFar (services : List ServiceFields) (all rest : List Members) (list : List Change) (spelled : Bool) : Type 0 where
  pub values : List (ChangeValues Rule)
  pub fault : changes_fault all ≡ changes_fault rest
  pub seen : (later : List (ChangeValues Rule)) → changes_by services (values ++ later) ≡ changes_seen list ++ changes_by (fold with_change services (changes_seen list)) later
  pub far : SoFar IsSpelledChange without_rules without_rules (map change_values all) (map change_values rest) values spelled

pub no_changes_yet : (services : List ServiceFields) (all : List Members) → ChangesSoFar services all all [] true
no_changes_yet services all = record {
  values = [];
  fault = refl;
  seen = λ later. refl;
  far = none_yet IsSpelledChange without_rules without_rules (map change_values all);
}

pub one_change_more : (services : List ServiceFields) (m : Members) (all rest : List Members) (list : List Change) (spelled : Bool) (draft : ChangeDraft)
    → ChangesSoFar services all (m ∷ rest) list spelled → change_fault m ≡ None → IsChangeOf (fold with_change services (changes_seen list)) m draft
    → ChangesSoFar services all rest (list ++ draft.change ∷ []) (spelled && draft.spelled)
one_change_more services m all rest list spelled draft so none is = record {
  values = so.values ++ is.value ∷ [];
  fault = so.fault ∙ ap (λ (o : Option SettingsFault). first_of o (changes_fault rest)) none;
  seen = λ later.
      ap (changes_by services) (append_assoc so.values (is.value ∷ []) later)
      ∙ so.seen (is.value ∷ later)
      ∙ ap (λ (c : ChangeFields). changes_seen list ++ c ∷ changes_by (with_change after c) later) (sym is.seen)
      ∙ sym (append_assoc (changes_seen list) (change_seen draft.change ∷ []) (changes_by (with_change after (change_seen draft.change)) later))
      ∙ ap (λ (s : List ServiceFields). (changes_seen list ++ change_seen draft.change ∷ []) ++ changes_by s later) (sym (fold-append with_change services (changes_seen list) (change_seen draft.change ∷ [])))
      ∙ ap (λ (l : List ChangeFields). l ++ changes_by (fold with_change services l) later) (sym (mapped_more change_seen list draft.change));
  far = one_more IsSpelledChange without_rules without_rules (change_values m) (map change_values all) (map change_values rest) so.values is.value spelled draft.spelled so.far is.read is.same;
}
  where
    after : List ServiceFields
    after = fold with_change services (changes_seen list)

pub wrong_change_of : (services : List ServiceFields) (m : Members) (all rest : List Members) (list : List Change) (spelled : Bool) → ChangesSoFar services all (m ∷ rest) list spelled
    → changes_fault all ≡ first_of (change_fault m) (changes_fault rest)
wrong_change_of services m all rest list spelled so = so.fault

pub all_changes : (services : List ServiceFields) (all : List Members) (draft : ChangesDraft) → ChangesSoFar services all [] draft.changes draft.spelled → AreChangesOf services all draft
all_changes services all draft so = record {
  values = so.values;
  seen = sym (append-nil (changes_seen draft.changes)) ∙ sym (so.seen []) ∙ ap (changes_by services) (append-nil so.values);
  same = all_same IsSpelledChange without_rules without_rules (map change_values all) so.values draft.spelled so.far;
  read = all_read IsSpelledChange without_rules without_rules (map change_values all) so.values draft.spelled so.far;
}

-- The rules of a list, one more.

pub rules_taken : (rules : List Rule) (copy : List Rule) (i : ℕ) (rule : Rule) → i < length rules → slice_get rules i ≡ Some rule → copy ≡ take i rules → copy ++ rule ∷ [] ≡ take (i + 1) rules
rules_taken rules copy i rule within found same =
    ap (λ l. l ++ rule ∷ []) same ∙ ap (λ r. take i rules ++ r ∷ []) (sym (get_or_from_slice_get rules i rule rule found)) ∙ sym (take_more rules i rule within)
