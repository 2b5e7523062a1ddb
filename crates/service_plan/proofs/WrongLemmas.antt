-- The check of changes: numbers of a list, and PIDs one after another.
use Rattle.std.proofs.Common.{◌≡◌, ℕ, suc, ◌+◌, ◌-◌, ◌<◌, ◌≤◌, Bool, true, false, not, ◌||◌, ◌==◌, List, [], ◌∷◌, ◌++◌, length, map, fold, drop, take, get_or, Option, Some, None, if◌then◌else◌, refl, ap, ap₂, sym, ◌∙◌, arith}
use Rattle.std.specs.Prelude.{nat_le, slice_get}
use Rattle.std.specs.List.{list_any, range_with_len}
use Rattle.std.proofs.lemmas.List.{drop_more, drop_all, length-map}
use Rattle.plan_spec.specs.Plan.{ServiceFields, ChangeFields, PlanFields, pid_of}
use Rattle.plan_spec.specs.Checks.{has_pair, has_wrong_count}
use Rattle.plan_spec.specs.Wholes.{has_wrong_rules}
use Rattle.plan_spec.specs.Changes.{no_service, with_change, services_in, pid_in, pids_in, with_last, with_pid_behind, all_pids, rises_from, moves_wrongly, has_wrong_change}
use Rattle.plan.specs.Parts.{services_seen, moved_seen, change_seen, changes_seen}
use Rattle.plan.specs.declared.change.Moved.{Moved}
use Rattle.plan.specs.declared.change.Change.{Change}
use Rattle.plan.specs.declared.service.Service.{Service}
use Rattle.plan.specs.Moves.{services_after, pid_after}
use Rattle.service_plan.specs.Moves.{pids_seen, ends_so}
use Rattle.plan.proofs.VersionLemmas.{services_of_version}

-- Numbers that stand twice.

pub pair_more : (xs : List ℕ) (i x : ℕ) (b : Bool) → i < length xs → x ≡ get_or xs i 0 → b ≡ list_any (λ y. x == y) (drop (i + 1) xs)
    → has_pair (λ a c. a == c) (drop i xs) ≡ (b || has_pair (λ a c. a == c) (drop (i + 1) xs))
pair_more xs i x b within is any =
    ap (λ (l : List ℕ). has_pair (λ a c. a == c) l) (drop_more xs i 0 within ∙ ap (λ (y : ℕ). y ∷ drop (i + 1) xs) (sym is))
    ∙ ap (λ (t : Bool). t || has_pair (λ a c. a == c) (drop (i + 1) xs)) (sym any)

-- Moved services.

moved_services : (moves : List Moved) → map (λ m. m.service) (map moved_seen moves) ≡ map (λ (m : Moved). m.service) moves
moved_services [] = refl
moved_services (moved ∷ moves) = ap (λ (l : List ℕ). moved.service ∷ l) (moved_services moves)

pub wrongly_more : (plan : PlanFields) (count : ℕ) (changes : List Change) (i : ℕ) (change : Change) (b : Bool) → count ≡ length plan.services → i < length changes → change ≡ get_or changes i change
    → b ≡ (has_pair (λ x y. x == y) (map (λ (m : Moved). m.service) change.moved) || list_any (λ k. nat_le count k) (map (λ (m : Moved). m.service) change.moved))
    → list_any (moves_wrongly plan) (changes_seen (drop i changes)) ≡ (b || list_any (moves_wrongly plan) (changes_seen (drop (i + 1) changes)))
wrongly_more plan count changes i change b few within is test =
    ap (λ (l : List Change). list_any (moves_wrongly plan) (changes_seen l)) (drop_more changes i change within ∙ ap (λ (c : Change). c ∷ drop (i + 1) changes) (sym is))
    ∙ ap (λ (t : Bool). t || list_any (moves_wrongly plan) (changes_seen (drop (i + 1) changes))) (here ∙ sym test)
  where
    here : moves_wrongly plan (change_seen change)
        ≡ (has_pair (λ x y. x == y) (map (λ (m : Moved). m.service) change.moved) || list_any (λ k. nat_le count k) (map (λ (m : Moved). m.service) change.moved))
    here =
        ap₂ (λ (l : List ℕ) (n : ℕ). has_pair (λ x y. x == y) l || list_any (λ k. nat_le n k) l) (moved_services change.moved) (sym few)

pub wrongly_end : (plan : PlanFields) (changes : List Change) (i : ℕ) → length changes ≤ i → list_any (moves_wrongly plan) (changes_seen (drop i changes)) ≡ false
wrongly_end plan changes i past = ap (λ (l : List Change). list_any (moves_wrongly plan) (changes_seen l)) (drop_all i changes past)

-- PIDs one after another.

pub last_is : (pids : List ℕ) (pid : ℕ) (b : Bool) → b ≡ ends_so pids pid → with_last pids pid ≡ (if b then pids else pids ++ pid ∷ [])
last_is pids pid b is = by_list pids ∙ ap (λ (t : Bool). if t then pids else pids ++ pid ∷ []) (sym is)
  where
    pushed : (x : ℕ) (l : List ℕ) (t : Bool) → x ∷ (if t then l else l ++ pid ∷ []) ≡ (if t then x ∷ l else x ∷ (l ++ pid ∷ []))
    pushed x l true = refl
    pushed x l false = refl

    by_list : (l : List ℕ) → with_last l pid ≡ (if ends_so l pid then l else l ++ pid ∷ [])
    by_list [] = refl
    by_list (last ∷ []) = refl
    by_list (first ∷ next ∷ others) =
        ap (λ (l : List ℕ). first ∷ l) (by_list (next ∷ others)) ∙ pushed first (next ∷ others) (ends_so (next ∷ others) pid)

next : (x : ℕ) (l : List ℕ) (n k : ℕ) → n ≡ suc k → slice_get (x ∷ l) n ≡ slice_get l k
next x l n k is = ap (slice_get (x ∷ l)) is

last_place : (x y : ℕ) (l : List ℕ) → length (x ∷ y ∷ l) - 1 ≡ suc (length (y ∷ l) - 1)
last_place x y l = omega arith

last_item : (x y : ℕ) (l : List ℕ) → slice_get (x ∷ y ∷ l) (length (x ∷ y ∷ l) - 1) ≡ slice_get (y ∷ l) (length (y ∷ l) - 1)
last_item x y l = next x (y ∷ l) (length (x ∷ y ∷ l) - 1) (length (y ∷ l) - 1) (last_place x y l)

pub ends_at : (pids : List ℕ) (pid last : ℕ) → slice_get pids (length pids - 1) ≡ Some last → ends_so pids pid ≡ (last == pid)
ends_at [] pid last found = absurd (let h = found in cc)
ends_at (x ∷ []) pid last found =
    let here : Some x ≡ Some last = found in
    let same : x ≡ last = cc in
    ap (λ (y : ℕ). y == pid) same
ends_at (x ∷ y ∷ ys) pid last found = ends_at (y ∷ ys) pid last (sym (last_item x y ys) ∙ found)

pub ends_nowhere : (pids : List ℕ) (pid : ℕ) → slice_get pids (length pids - 1) ≡ None → ends_so pids pid ≡ false
ends_nowhere [] pid none = refl
ends_nowhere (x ∷ []) pid none = absurd (let h = none in cc)
ends_nowhere (x ∷ y ∷ ys) pid none = ends_nowhere (y ∷ ys) pid (sym (last_item x y ys) ∙ none)

-- The PIDs of a plan.

map_same : (f g : ℕ → Option ℕ) → ((n : ℕ) → f n ≡ g n) → (numbers : List ℕ) → map f numbers ≡ map g numbers
map_same f g same [] = refl
map_same f g same (n ∷ numbers) = ap₂ (λ (o : Option ℕ) (l : List (Option ℕ)). o ∷ l) (same n) (map_same f g same numbers)

any_same : (p q : ℕ → Bool) → ((n : ℕ) → p n ≡ q n) → (numbers : List ℕ) → list_any p numbers ≡ list_any q numbers
any_same p q same [] = refl
any_same p q same (n ∷ numbers) = ap₂ (λ (a b : Bool). a || b) (same n) (any_same p q same numbers)

module _ (plan : PlanFields) (services : List Service) (changes : List Change) (of_services : plan.services ≡ services_seen services) (of_changes : plan.changes ≡ changes_seen changes) where
  pub services_in_version : (version : ℕ) → services_in plan version ≡ fold with_change (services_seen services) (changes_seen (take version changes))
  services_in_version version =
      ap₂ (λ (s : List ServiceFields) (c : List ChangeFields). fold with_change s (take version c)) of_services of_changes
      ∙ services_of_version services changes version

  pid_is : (version k : ℕ) → pid_in plan version k ≡ pid_after services (take version changes) k
  unfolding pid_in
  pid_is version k = ap (λ (s : List ServiceFields). pid_of (get_or s k no_service).kind) (services_in_version version)

  pub count_is : length plan.changes ≡ length changes
  count_is = ap (λ (c : List ChangeFields). length c) of_changes ∙ length-map changes change_seen

  pub pids_are : (k : ℕ) → pids_in plan k ≡ pids_seen services changes k
  unfolding pids_in
  pids_are k =
      ap (λ (n : ℕ). fold with_pid_behind [] (map (λ version. pid_in plan version k) (range_with_len 0 (n + 1)))) count_is
      ∙ ap (λ (l : List (Option ℕ)). fold with_pid_behind [] l)
      (map_same (λ version. pid_in plan version k) (λ version. pid_after services (take version changes) k) (λ version. pid_is version k) (range_with_len 0 (length changes + 1)))

  -- its rules
  pub rules_are : has_wrong_rules plan ≡ list_any (λ version. has_wrong_count (services_after services (take version changes))) (range_with_len 0 (length changes + 1))
  rules_are =
      ap (λ (n : ℕ). list_any (λ version. has_wrong_count (services_in plan version)) (range_with_len 0 (n + 1))) count_is
      ∙ any_same (λ version. has_wrong_count (services_in plan version)) (λ version. has_wrong_count (services_after services (take version changes)))
      (λ version. ap has_wrong_count (services_in_version version)) (range_with_len 0 (length changes + 1))

-- the whole check
abbrev wrong_by : PlanFields → Bool → Bool → Bool → Bool
wrong_by plan rising moving twice = not rising || (moving || twice)

pub order_wrong : (plan : PlanFields) → false ≡ rises_from 2 plan.changes → true ≡ has_wrong_change plan
order_wrong plan r =
    ap (λ (b : Bool). wrong_by plan b (list_any (moves_wrongly plan) plan.changes) (has_pair (λ a c. a == c) (all_pids plan))) r

pub moves_wrong : (plan : PlanFields) → true ≡ rises_from 2 plan.changes → true ≡ list_any (moves_wrongly plan) plan.changes → true ≡ has_wrong_change plan
moves_wrong plan r m = ap₂ (λ (b d : Bool). wrong_by plan b d (has_pair (λ a c. a == c) (all_pids plan))) r m

pub pids_wrong : (plan : PlanFields) (twice : Bool) → true ≡ rises_from 2 plan.changes → false ≡ list_any (moves_wrongly plan) plan.changes
    → twice ≡ has_pair (λ a c. a == c) (all_pids plan) → twice ≡ has_wrong_change plan
pids_wrong plan twice r m t = t ∙ ap₂ (λ (b d : Bool). wrong_by plan b d (has_pair (λ a c. a == c) (all_pids plan))) r m
