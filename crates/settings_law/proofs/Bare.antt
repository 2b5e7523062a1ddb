-- What the check of changes asks is not their rules: the plan of a table fails it exactly where that plan without rules does.
use Rattle.std.proofs.Common.{◌≡◌, ℕ, zero, suc, ◌+◌, Bool, not, cond, ◌&&◌, ◌||◌, List, [], ◌∷◌, ◌++◌, length, map, fold, take, set, get_or, Option, None, codes, bytes_eq, refl, ap, ap₂, sym, ◌∙◌}
use Rattle.std.specs.Prelude.{flat_map, nat_le, ◌==◌}
use Rattle.std.specs.List.{list_any, range_with_len, take-map, AllZip}
use Rattle.std.proofs.lemmas.List.{length-map, map-set}
use Rattle.toml.specs.Data.{Members}
use Rattle.addr_rules.specs.declared.rules.Rule.{Rule}
use Rattle.plan_spec.specs.Plan.{ServiceFields, MovedFields, ChangeFields, PlanFields, pid_of, table_pids, ServiceRules, services_with, with_rules}
use Rattle.plan_spec.specs.Checks.{has_pair}
use Rattle.plan_spec.specs.Changes.{moved_to, no_service, with_moved, with_change, services_in, pid_in, pids_in, with_pid_behind, all_pids, rises_from, moves_wrongly, has_wrong_change}
use Rattle.settings_spec.specs.Keys.{tables_at}
use Rattle.settings_spec.specs.Changes.{MovedValues, ChangeValues, moved_without_rules, without_rules, place_of_name, moved_from, moved_by, change_by, changes_by, with_changes}
use Rattle.settings_spec.specs.Settings.{service_of, services_of, changes_at, plan_of}
use Rattle.settings_spec.specs.Refusal.{IsSpelledMoved, IsSpelledChange}

-- Services, moves, changes and plans without rules.

abbrev pub bare : ServiceFields → ServiceFields
bare service = record service { rules = []; urgent = [] }

abbrev pub bare_move : MovedFields → MovedFields
bare_move moved = record moved { rules = [] }

abbrev pub bare_change : ChangeFields → ChangeFields
bare_change change = record change { moved = map bare_move change.moved }

abbrev pub bare_plan : PlanFields → PlanFields
bare_plan plan = record plan { services = map bare plan.services; changes = map bare_change plan.changes }

-- What they make of services.

get_bare : (services : List ServiceFields) (k : ℕ) → get_or (map bare services) k no_service ≡ bare (get_or services k no_service)
get_bare [] k = refl
get_bare (s ∷ services) zero = refl
get_bare (s ∷ services) (suc k) = get_bare services k

move_bare : (services : List ServiceFields) (moved : MovedFields) → with_moved (map bare services) (bare_move moved) ≡ map bare (with_moved services moved)
move_bare services moved =
    ap (λ (s : ServiceFields). set (map bare services) moved.service (moved_to s (bare_move moved))) (get_bare services moved.service)
    ∙ sym (map-set bare services moved.service (moved_to (get_or services moved.service no_service) moved))

moves_bare : (services : List ServiceFields) (moves : List MovedFields) → fold with_moved (map bare services) (map bare_move moves) ≡ map bare (fold with_moved services moves)
moves_bare services [] = refl
moves_bare services (moved ∷ moves) =
    ap (λ (l : List ServiceFields). fold with_moved l (map bare_move moves)) (move_bare services moved) ∙ moves_bare (with_moved services moved) moves

change_bare : (services : List ServiceFields) (change : ChangeFields) → with_change (map bare services) (bare_change change) ≡ map bare (with_change services change)
change_bare services change = moves_bare services change.moved

changes_bare : (services : List ServiceFields) (changes : List ChangeFields)
    → fold with_change (map bare services) (map bare_change changes) ≡ map bare (fold with_change services changes)
changes_bare services [] = refl
changes_bare services (change ∷ changes) =
    ap (λ (l : List ServiceFields). fold with_change l (map bare_change changes)) (change_bare services change) ∙ changes_bare (with_change services change) changes

services_bare : (plan : PlanFields) (version : ℕ) → services_in (bare_plan plan) version ≡ map bare (services_in plan version)
services_bare plan version =
    ap (λ (l : List ChangeFields). fold with_change (map bare plan.services) l) (take-map bare_change version plan.changes)
    ∙ changes_bare plan.services (take version plan.changes)

-- PIDs.

pid_bare : (plan : PlanFields) (version k : ℕ) → pid_in (bare_plan plan) version k ≡ pid_in plan version k
unfolding pid_in
pid_bare plan version k =
    ap (λ (l : List ServiceFields). pid_of (get_or l k no_service).kind) (services_bare plan version)
    ∙ ap (λ (s : ServiceFields). pid_of s.kind) (get_bare (services_in plan version) k)

map_same : (f g : ℕ → Option ℕ) → ((n : ℕ) → f n ≡ g n) → (numbers : List ℕ) → map f numbers ≡ map g numbers
map_same f g same [] = refl
map_same f g same (n ∷ numbers) = ap₂ (λ (o : Option ℕ) (l : List (Option ℕ)). o ∷ l) (same n) (map_same f g same numbers)

pids_bare : (plan : PlanFields) (k : ℕ) → pids_in (bare_plan plan) k ≡ pids_in plan k
unfolding pids_in
pids_bare plan k =
    ap (λ (n : ℕ). fold with_pid_behind [] (map (λ version. pid_in (bare_plan plan) version k) (range_with_len 0 (n + 1)))) (length-map plan.changes bare_change)
    ∙ ap (λ (l : List (Option ℕ)). fold with_pid_behind [] l)
    (map_same (λ version. pid_in (bare_plan plan) version k) (λ version. pid_in plan version k) (λ version. pid_bare plan version k) (range_with_len 0 (length plan.changes + 1)))

lists_same : (f g : ℕ → List ℕ) → ((k : ℕ) → f k ≡ g k) → (numbers : List ℕ) → flat_map f numbers ≡ flat_map g numbers
lists_same f g same [] = refl
lists_same f g same (k ∷ numbers) = ap₂ (λ (a b : List ℕ). a ++ b) (same k) (lists_same f g same numbers)

all_bare : (plan : PlanFields) → all_pids (bare_plan plan) ≡ all_pids plan
all_bare plan =
    ap (λ (n : ℕ). table_pids plan.table ++ flat_map (pids_in (bare_plan plan)) (range_with_len 0 n)) (length-map plan.services bare)
    ∙ ap (λ (l : List ℕ). table_pids plan.table ++ l) (lists_same (pids_in (bare_plan plan)) (pids_in plan) (pids_bare plan) (range_with_len 0 (length plan.services)))

-- The check of changes.

rises_bare : (least : ℕ) (changes : List ChangeFields) → rises_from least (map bare_change changes) ≡ rises_from least changes
rises_bare least [] = refl
rises_bare least (change ∷ changes) = ap (λ (b : Bool). nat_le least change.at && b) (rises_bare (change.at + 1) changes)

moved_bare : (moves : List MovedFields) → map (λ (moved : MovedFields). moved.service) (map bare_move moves) ≡ map (λ (moved : MovedFields). moved.service) moves
moved_bare [] = refl
moved_bare (moved ∷ moves) = ap (λ (l : List ℕ). moved.service ∷ l) (moved_bare moves)

wrongly_bare : (plan : PlanFields) (change : ChangeFields) → moves_wrongly (bare_plan plan) (bare_change change) ≡ moves_wrongly plan change
wrongly_bare plan change =
    ap₂ (λ (l : List ℕ) (n : ℕ). has_pair (λ a b. a == b) l || list_any (λ k. nat_le n k) l) (moved_bare change.moved) (length-map plan.services bare)

any_bare : (plan : PlanFields) (changes : List ChangeFields) → list_any (moves_wrongly (bare_plan plan)) (map bare_change changes) ≡ list_any (moves_wrongly plan) changes
any_bare plan [] = refl
any_bare plan (change ∷ changes) = ap₂ (λ (a b : Bool). a || b) (wrongly_bare plan change) (any_bare plan changes)

wrong_bare : (plan : PlanFields) → has_wrong_change (bare_plan plan) ≡ has_wrong_change plan
wrong_bare plan =
    ap₂ (λ (a b : Bool). not a || b) (rises_bare 2 plan.changes)
    (ap₂ (λ (b : Bool) (l : List ℕ). b || has_pair (λ x y. x == y) l) (any_bare plan plan.changes) (all_bare plan))

-- The changes of a table.

place_bare : (services : List ServiceFields) (name : List ℕ) → place_of_name (map bare services) name ≡ place_of_name services name
place_bare [] name = refl
place_bare (s ∷ services) name = ap (λ (n : ℕ). cond (not (bytes_eq s.name name)) (1 + n) 0) (place_bare services name)

moved_by_bare : (services : List ServiceFields) (moved : MovedValues Rule) → moved_by (map bare services) (moved_without_rules moved) ≡ bare_move (moved_by services moved)
moved_by_bare services moved =
    ap (λ (place : ℕ). moved_from (get_or (map bare services) place no_service) place (moved_without_rules moved)) (place_bare services moved.name)
    ∙ ap (λ (s : ServiceFields). moved_from s (place_of_name services moved.name) (moved_without_rules moved)) (get_bare services (place_of_name services moved.name))

all_moved_bare : (services : List ServiceFields) (moves : List (MovedValues Rule))
    → map (moved_by (map bare services)) (map moved_without_rules moves) ≡ map bare_move (map (moved_by services) moves)
all_moved_bare services [] = refl
all_moved_bare services (moved ∷ moves) = ap₂ (λ (m : MovedFields) (l : List MovedFields). m ∷ l) (moved_by_bare services moved) (all_moved_bare services moves)

abbrev change_with : ℕ → List MovedFields → ChangeFields
change_with at moved = record { at = at; moved = moved }

change_by_bare : (services : List ServiceFields) (change : ChangeValues Rule) → change_by (map bare services) (without_rules change) ≡ bare_change (change_by services change)
change_by_bare services change = ap (λ (l : List MovedFields). change_with change.at l) (all_moved_bare services change.moved)

changes_by_bare : (services : List ServiceFields) (changes : List (ChangeValues Rule))
    → changes_by (map bare services) (map without_rules changes) ≡ map bare_change (changes_by services changes)
changes_by_bare services [] = refl
changes_by_bare services (change ∷ changes) =
    ap (λ (c : ChangeFields). c ∷ changes_by (with_change (map bare services) c) (map without_rules changes)) (change_by_bare services change)
    ∙ ap (λ (l : List ServiceFields). bare_change (change_by services change) ∷ changes_by l (map without_rules changes)) (change_bare services (change_by services change))
    ∙ ap (λ (l : List ChangeFields). bare_change (change_by services change) ∷ l) (changes_by_bare (with_change services (change_by services change)) changes)

-- spelled or not, they are the same without rules
abbrev values_with : List ℕ → Option ℕ → MovedValues Rule
values_with name pid = record { name = name; pid = pid; rules = None }

abbrev change_values_with : ℕ → List (MovedValues Rule) → ChangeValues Rule
change_values_with at moved = record { at = at; moved = moved }

same_moves : (texts : List (MovedValues (List ℕ))) (moves : List (MovedValues Rule)) → AllZip IsSpelledMoved texts moves
    → map moved_without_rules moves ≡ map moved_without_rules texts
same_moves [] [] are = refl
same_moves [] (moved ∷ moves) are = absurd are
same_moves (text ∷ texts) [] are = absurd are
same_moves (text ∷ texts) (moved ∷ moves) are =
    ap₂ (λ (m : MovedValues Rule) (l : List (MovedValues Rule)). m ∷ l) (ap₂ values_with are.0.name are.0.pid) (same_moves texts moves are.1)

same_changes : (texts : List (ChangeValues (List ℕ))) (changes : List (ChangeValues Rule)) → AllZip IsSpelledChange texts changes
    → map without_rules changes ≡ map without_rules texts
same_changes [] [] are = refl
same_changes [] (change ∷ changes) are = absurd are
same_changes (text ∷ texts) [] are = absurd are
same_changes (text ∷ texts) (change ∷ changes) are =
    ap₂ (λ (c : ChangeValues Rule) (l : List (ChangeValues Rule)). c ∷ l)
    (ap₂ change_values_with are.0.at (same_moves text.moved change.moved are.0.moved)) (same_changes texts changes are.1)

-- The plan of a table.

with_rules_bare : (services : List ServiceFields) (lists : List (ServiceRules Rule)) → map bare (services_with services lists) ≡ map bare services
with_rules_bare [] lists = refl
with_rules_bare (s ∷ services) [] = refl
with_rules_bare (s ∷ services) (rules ∷ lists) = ap (λ (l : List ServiceFields). bare s ∷ l) (with_rules_bare services lists)

of_table_bare : (place : ℕ) (ms : List Members) → map bare (services_of place ms) ≡ services_of place ms
of_table_bare place [] = refl
of_table_bare place (m ∷ ms) = ap (λ (l : List ServiceFields). service_of place m ∷ l) (of_table_bare (place + 1) ms)

plan_bare : (top : Members) (lists : List (ServiceRules Rule)) (changes : List (ChangeValues Rule)) → map without_rules changes ≡ map without_rules (changes_at top)
    → bare_plan (with_changes (with_rules (plan_of top) lists) changes) ≡ plan_of top
unfolding plan_of
plan_bare top lists changes alike =
    let services : List ServiceFields = services_of 0 (tables_at (codes "service") top) in
    let same : map bare (services_with services lists) ≡ services = with_rules_bare services lists ∙ of_table_bare 0 (tables_at (codes "service") top) in
    ap₂ (λ (s : List ServiceFields) (c : List ChangeFields). record (plan_of top) { services = s; changes = c }) same
    (sym (changes_by_bare (services_with services lists) changes)
    ∙ ap₂ (λ (s : List ServiceFields) (c : List (ChangeValues Rule)). changes_by s c) same alike)

-- it has a wrong change exactly where it has one without rules, whether the texts spell them or not
pub wrong_alike : (top : Members) (lists : List (ServiceRules Rule)) (changes : List (ChangeValues Rule)) → map without_rules changes ≡ map without_rules (changes_at top)
    → has_wrong_change (with_changes (with_rules (plan_of top) lists) changes) ≡ has_wrong_change (plan_of top)
wrong_alike top lists changes alike =
    sym (wrong_bare (with_changes (with_rules (plan_of top) lists) changes)) ∙ ap has_wrong_change (plan_bare top lists changes alike)

pub wrong_with : (top : Members) (lists : List (ServiceRules Rule)) (changes : List (ChangeValues Rule)) → AllZip IsSpelledChange (changes_at top) changes
    → has_wrong_change (with_changes (with_rules (plan_of top) lists) changes) ≡ has_wrong_change (plan_of top)
wrong_with top lists changes are = wrong_alike top lists changes (same_changes (changes_at top) changes are)
