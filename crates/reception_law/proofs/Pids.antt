-- The PIDs of a service, each of which it has once: those before that of a version, this one, and those after it.
use Rattle.std.proofs.Common.{◌≡◌, ◌⊎◌, inl, inr, ℕ, zero, suc, ◌+◌, ◌<◌, ◌≤◌, Bool, true, false, not, ◌||◌, cond, eqb, Option, None, Some, List, [], ◌∷◌, ◌++◌, length, map, flat_map, fold, refl, sym, ap, ◌∙◌, arith, append_assoc}
use Rattle.std.specs.List.{list_any, range_with_len}
use Rattle.std.proofs.lemmas.Bool.{or_parts, eqb-true, cases_lt}
use Rattle.std.proofs.lemmas.List.{length_push, length-map, get_or_past}
use Rattle.std.proofs.lemmas.List.FromFn.{length-range_with_len}
use Rattle.plan_spec.specs.Plan.{ServiceFields, IntFields, PlanFields, pid_of, table_pids}
use Rattle.plan_spec.specs.Changes.{no_service, services_in, pid_in, has_pid, with_last, with_pid_behind, pids_in, all_pids, rises_from, moves_wrongly, has_wrong_change}
use Rattle.plan_law.proofs.Kept.{length-services_in}
use Rattle.plan_law.proofs.Pids.{is_in, twice, pid_is_in}
use Rattle.reception_law.proofs.Lists.{self_is_in, other_way, in_both, twice_parts, in_lists, one_not_twice, lists_apart}

-- A PID behind others.

-- they end with it, or it comes behind them
with_last_is : (pids : List ℕ) (pid : ℕ) → ((front : List ℕ) × (pids ≡ front ++ pid ∷ []) × (with_last pids pid ≡ pids)) ⊎ (with_last pids pid ≡ pids ++ pid ∷ [])
with_last_is [] pid = inr refl
with_last_is (last ∷ []) pid = by_test (eqb last pid) refl
  where
    by_test : (same : Bool) → eqb last pid ≡ same
        → ((front : List ℕ) × (last ∷ [] ≡ front ++ pid ∷ []) × (cond same (last ∷ []) (last ∷ pid ∷ []) ≡ last ∷ []))
        ⊎ (cond same (last ∷ []) (last ∷ pid ∷ []) ≡ last ∷ pid ∷ [])
    by_test true e = inl ([], ap (λ (n : ℕ). n ∷ []) (eqb-true last pid e), refl)
    by_test false e = inr refl
with_last_is (first ∷ next ∷ others) pid = by_rest (with_last_is (next ∷ others) pid)
  where
    by_rest : ((front : List ℕ) × (next ∷ others ≡ front ++ pid ∷ []) × (with_last (next ∷ others) pid ≡ next ∷ others)) ⊎ (with_last (next ∷ others) pid ≡ (next ∷ others) ++ pid ∷ [])
        → ((front : List ℕ) × (first ∷ next ∷ others ≡ front ++ pid ∷ []) × (first ∷ with_last (next ∷ others) pid ≡ first ∷ next ∷ others))
        ⊎ (first ∷ with_last (next ∷ others) pid ≡ (first ∷ next ∷ others) ++ pid ∷ [])
    by_rest (inl (front, whole, same)) = inl (first ∷ front, ap (λ (l : List ℕ). first ∷ l) whole, ap (λ (l : List ℕ). first ∷ l) same)
    by_rest (inr more) = inr (ap (λ (l : List ℕ). first ∷ l) more)

-- so it is the last
last_part : (pids : List ℕ) (pid : ℕ) → (front : List ℕ) × (with_last pids pid ≡ front ++ pid ∷ [])
last_part pids pid = by_last (with_last_is pids pid)
  where
    by_last : ((front : List ℕ) × (pids ≡ front ++ pid ∷ []) × (with_last pids pid ≡ pids)) ⊎ (with_last pids pid ≡ pids ++ pid ∷ []) → (front : List ℕ) × (with_last pids pid ≡ front ++ pid ∷ [])
    by_last (inl (front, whole, same)) = (front, same ∙ whole)
    by_last (inr more) = (pids, more)

last_is_in : (pids : List ℕ) (pid : ℕ) → is_in pid (with_last pids pid) ≡ true
last_is_in pids pid =
    let last = last_part pids pid in
    ap (λ (l : List ℕ). is_in pid l) last.1 ∙ in_both pid last.0 (pid ∷ []) (inr (self_is_in pid []))

-- and those before it stay
stays_in : (x : ℕ) (pids : List ℕ) (o : Option ℕ) → is_in x pids ≡ true → is_in x (with_pid_behind pids o) ≡ true
stays_in x pids None there = there
stays_in x pids (Some pid) there = by_last (with_last_is pids pid)
  where
    by_last : ((front : List ℕ) × (pids ≡ front ++ pid ∷ []) × (with_last pids pid ≡ pids)) ⊎ (with_last pids pid ≡ pids ++ pid ∷ []) → is_in x (with_last pids pid) ≡ true
    by_last (inl (front, whole, same)) = ap (λ (l : List ℕ). is_in x l) same ∙ there
    by_last (inr more) = ap (λ (l : List ℕ). is_in x l) more ∙ in_both x pids (pid ∷ []) (inl there)

all_stay : (x : ℕ) (pids : List ℕ) (os : List (Option ℕ)) → is_in x pids ≡ true → is_in x (fold with_pid_behind pids os) ≡ true
all_stay x pids [] there = there
all_stay x pids (o ∷ os) there = all_stay x (with_pid_behind pids o) os (stays_in x pids o there)

-- at most one more
length-with_pid_behind : (pids : List ℕ) (o : Option ℕ) → length (with_pid_behind pids o) ≤ length pids + 1
length-with_pid_behind pids None = omega arith
length-with_pid_behind pids (Some pid) = by_last (with_last_is pids pid)
  where
    by_last : ((front : List ℕ) × (pids ≡ front ++ pid ∷ []) × (with_last pids pid ≡ pids)) ⊎ (with_last pids pid ≡ pids ++ pid ∷ []) → length (with_last pids pid) ≤ length pids + 1
    by_last (inl (front, whole, same)) = omega (arith, ap (λ (l : List ℕ). length l) same)
    by_last (inr more) = omega (arith, ap (λ (l : List ℕ). length l) more, length_push pids pid)

few_behind : (pids : List ℕ) (os : List (Option ℕ)) → length (fold with_pid_behind pids os) ≤ length pids + length os
few_behind pids [] = omega arith
few_behind pids (o ∷ os) = omega (arith, few_behind (with_pid_behind pids o) os, length-with_pid_behind pids o)

pub few : (plan : PlanFields) (k : ℕ) → length (pids_in plan k) ≤ length plan.changes + 1
unfolding pids_in
few plan k =
    let all : List (Option ℕ) = map (λ version. pid_in plan version k) (range_with_len 0 (length plan.changes + 1)) in
    omega (
      arith,
      few_behind [] all,
      length-map (range_with_len 0 (length plan.changes + 1)) (λ version. pid_in plan version k),
      length-range_with_len 0 (length plan.changes + 1),
    )

-- those in front of others don't matter to what comes behind them
last_behind : (front : List ℕ) (x : ℕ) (xs : List ℕ) (pid : ℕ) → with_last (front ++ x ∷ xs) pid ≡ front ++ with_last (x ∷ xs) pid
last_behind [] x xs pid = refl
last_behind (y ∷ []) x xs pid = refl
last_behind (y ∷ z ∷ front) x xs pid = ap (λ (l : List ℕ). y ∷ l) (last_behind (z ∷ front) x xs pid)

pid_behind : (front : List ℕ) (x : ℕ) (xs : List ℕ) (o : Option ℕ) → with_pid_behind (front ++ x ∷ xs) o ≡ front ++ with_pid_behind (x ∷ xs) o
pid_behind front x xs None = refl
pid_behind front x xs (Some pid) = last_behind front x xs pid

head_stays : (x : ℕ) (xs : List ℕ) (o : Option ℕ) → (more : List ℕ) × (with_pid_behind (x ∷ xs) o ≡ x ∷ more)
head_stays x xs None = (xs, refl)
head_stays x xs (Some pid) = by_last (with_last_is (x ∷ xs) pid)
  where
    by_last : ((front : List ℕ) × (x ∷ xs ≡ front ++ pid ∷ []) × (with_last (x ∷ xs) pid ≡ x ∷ xs)) ⊎ (with_last (x ∷ xs) pid ≡ (x ∷ xs) ++ pid ∷ []) → (more : List ℕ) × (with_last (x ∷ xs) pid ≡ x ∷ more)
    by_last (inl (front, whole, same)) = (xs, same)
    by_last (inr more) = (xs ++ pid ∷ [], more)

heads_stay : (x : ℕ) (xs : List ℕ) (os : List (Option ℕ)) → (more : List ℕ) × (fold with_pid_behind (x ∷ xs) os ≡ x ∷ more)
heads_stay x xs [] = (xs, refl)
heads_stay x xs (o ∷ os) =
    let one = head_stays x xs o in
    let rest = heads_stay x one.0 os in
    (rest.0, ap (λ (l : List ℕ). fold with_pid_behind l os) one.1 ∙ rest.1)

pids_behind : (front : List ℕ) (x : ℕ) (xs : List ℕ) (os : List (Option ℕ)) → fold with_pid_behind (front ++ x ∷ xs) os ≡ front ++ fold with_pid_behind (x ∷ xs) os
pids_behind front x xs [] = refl
pids_behind front x xs (o ∷ os) =
    let one = head_stays x xs o in
    ap (λ (l : List ℕ). fold with_pid_behind l os) (pid_behind front x xs o ∙ ap (λ (l : List ℕ). front ++ l) one.1)
    ∙ pids_behind front x one.0 os
    ∙ ap (λ (l : List ℕ). front ++ fold with_pid_behind l os) (sym one.1)

-- The PIDs of numbers, divided at one of the numbers: those of the numbers up to it stand up to its PID, those of later ones from it on.

start_is : (s : ℕ) → s + 0 ≡ s
start_is s = omega arith

shifted : (s j : ℕ) → s + 1 + j ≡ s + suc j
shifted s j = omega arith

module _ (pid_at : ℕ → Option ℕ) where
  abbrev pids_of : List ℕ → ℕ → ℕ → List ℕ
  pids_of pids start n = fold with_pid_behind pids (map pid_at (range_with_len start n))

  record IsParted (pids : List ℕ) (start n i pid : ℕ) (before behind : List ℕ) : Type 0 where
    whole : pids_of pids start n ≡ before ++ pid ∷ behind
    held : (x : ℕ) → is_in x pids ≡ true → is_in x (before ++ pid ∷ []) ≡ true
    up_to : (j x : ℕ) → j ≤ i → pid_at (start + j) ≡ Some x → is_in x (before ++ pid ∷ []) ≡ true
    from : (j x : ℕ) → i < j → j < n → pid_at (start + j) ≡ Some x → is_in x (pid ∷ behind) ≡ true

  each_there : (pids : List ℕ) (start n j x : ℕ) → j < n → pid_at (start + j) ≡ Some x → is_in x (pids_of pids start n) ≡ true
  each_there pids start zero j x within is = absurd (omega (arith, within))
  each_there pids start (suc n) zero x within is =
      let here : pid_at start ≡ Some x = ap pid_at (sym (start_is start)) ∙ is in
      all_stay x (with_pid_behind pids (pid_at start)) (map pid_at (range_with_len (start + 1) n))
      (ap (λ (o : Option ℕ). is_in x (with_pid_behind pids o)) here ∙ last_is_in pids x)
  each_there pids start (suc n) (suc j) x within is =
      each_there (with_pid_behind pids (pid_at start)) (start + 1) n j x (omega (arith, within)) (ap pid_at (shifted start j) ∙ is)

  parted : (pids : List ℕ) (start n i pid : ℕ) → i < n → pid_at (start + i) ≡ Some pid → (before : List ℕ) × (behind : List ℕ) × IsParted pids start n i pid before behind
  parted pids start zero i pid within is = absurd (omega (arith, within))
  parted pids start (suc n) zero pid within is =
      let last = last_part pids pid in
      let rest = heads_stay pid [] (map pid_at (range_with_len (start + 1) n)) in
      (last.0, rest.0, record { whole = whole last rest; held = held last; up_to = up_to last; from = from rest })
    where
      here : pid_at start ≡ Some pid
      here = ap pid_at (sym (start_is start)) ∙ is

      behind : with_pid_behind pids (pid_at start) ≡ with_last pids pid
      behind = ap (with_pid_behind pids) here

      whole : (last : (front : List ℕ) × (with_last pids pid ≡ front ++ pid ∷ [])) (rest : (more : List ℕ) × (pids_of (pid ∷ []) (start + 1) n ≡ pid ∷ more))
          → pids_of pids start (suc n) ≡ last.0 ++ pid ∷ rest.0
      whole last rest =
          ap (λ (l : List ℕ). pids_of l (start + 1) n) (behind ∙ last.1)
          ∙ pids_behind last.0 pid [] (map pid_at (range_with_len (start + 1) n))
          ∙ ap (λ (l : List ℕ). last.0 ++ l) rest.1

      held : (last : (front : List ℕ) × (with_last pids pid ≡ front ++ pid ∷ [])) (x : ℕ) → is_in x pids ≡ true → is_in x (last.0 ++ pid ∷ []) ≡ true
      held last x there = sym (ap (λ (l : List ℕ). is_in x l) last.1) ∙ stays_in x pids (Some pid) there

      up_to : (last : (front : List ℕ) × (with_last pids pid ≡ front ++ pid ∷ [])) (j x : ℕ) → j ≤ 0 → pid_at (start + j) ≡ Some x → is_in x (last.0 ++ pid ∷ []) ≡ true
      up_to last j x least there =
          let first : start ≡ start + j = omega (arith, least) in
          let same : x ≡ pid = cc (there, ap pid_at first, here) in
          in_both x last.0 (pid ∷ []) (inr (ap (λ (p : ℕ). is_in x (p ∷ [])) (sym same) ∙ self_is_in x []))

      from : (rest : (more : List ℕ) × (pids_of (pid ∷ []) (start + 1) n ≡ pid ∷ more)) (j x : ℕ) → 0 < j → j < suc n → pid_at (start + j) ≡ Some x → is_in x (pid ∷ rest.0) ≡ true
      from rest zero x above below there = absurd (omega (arith, above))
      from rest (suc j) x above below there =
          sym (ap (λ (l : List ℕ). is_in x l) rest.1) ∙ each_there (pid ∷ []) (start + 1) n j x (omega (arith, below)) (ap pid_at (shifted start j) ∙ there)
  parted pids start (suc n) (suc i) pid within is =
      later (parted (with_pid_behind pids (pid_at start)) (start + 1) n i pid (omega (arith, within)) (ap pid_at (shifted start i) ∙ is))
    where
      later : (before : List ℕ) × (behind : List ℕ) × IsParted (with_pid_behind pids (pid_at start)) (start + 1) n i pid before behind
          → (before : List ℕ) × (behind : List ℕ) × IsParted pids start (suc n) (suc i) pid before behind
      later (before, behind, it) = (
        before,
        behind,
        record {
          whole = it.whole;
          held = λ x there. it.held x (stays_in x pids (pid_at start) there);
          up_to = up_to;
          from = from;
        },
      )
        where
          up_to : (j x : ℕ) → j ≤ suc i → pid_at (start + j) ≡ Some x → is_in x (before ++ pid ∷ []) ≡ true
          up_to zero x order there =
              it.held x (ap (λ (o : Option ℕ). is_in x (with_pid_behind pids o)) (ap pid_at (sym (start_is start)) ∙ there) ∙ last_is_in pids x)
          up_to (suc j) x order there = it.up_to j x (omega (arith, order)) (ap pid_at (shifted start j) ∙ there)

          from : (j x : ℕ) → suc i < j → j < suc n → pid_at (start + j) ≡ Some x → is_in x (pid ∷ behind) ≡ true
          from zero x above below there = absurd (omega (arith, above))
          from (suc j) x above below there = it.from j x (omega (arith, above)) (omega (arith, below)) (ap pid_at (shifted start j) ∙ there)

-- No PID twice.

none_twice : (plan : PlanFields) → has_wrong_change plan ≡ false → twice (all_pids plan) ≡ false
none_twice plan right =
    (or_parts (list_any (moves_wrongly plan) plan.changes) (twice (all_pids plan))
    (or_parts (not (rises_from 2 plan.changes)) (list_any (moves_wrongly plan) plan.changes || twice (all_pids plan)) right).1).1

services_not_twice : (plan : PlanFields) → has_wrong_change plan ≡ false → twice (flat_map (pids_in plan) (range_with_len 0 (length plan.services))) ≡ false
services_not_twice plan right = (twice_parts (table_pids plan.table) (flat_map (pids_in plan) (range_with_len 0 (length plan.services))) (none_twice plan right)).0

-- what is no service has one PID
no_pid : (plan : PlanFields) (version k : ℕ) → length plan.services ≤ k → pid_in plan version k ≡ Some 0
unfolding pid_in
no_pid plan version k past = ap (λ (s : ServiceFields). pid_of s.kind) (get_or_past (services_in plan version) k no_service (omega (arith, past, length-services_in plan version)))

one_stays : (pid_at : ℕ → Option ℕ) → ((version : ℕ) → pid_at version ≡ Some 0) → (start n : ℕ) → pids_of pid_at (0 ∷ []) start n ≡ 0 ∷ []
one_stays pid_at each start zero = refl
one_stays pid_at each start (suc n) = ap (λ (o : Option ℕ). pids_of pid_at (with_pid_behind (0 ∷ []) o) (start + 1) n) (each start) ∙ one_stays pid_at each (start + 1) n

one_alone : (pid_at : ℕ → Option ℕ) → ((version : ℕ) → pid_at version ≡ Some 0) → (start n : ℕ) → twice (pids_of pid_at [] start n) ≡ false
one_alone pid_at each start zero = refl
one_alone pid_at each start (suc n) =
    ap twice (ap (λ (o : Option ℕ). pids_of pid_at (with_pid_behind [] o) (start + 1) n) (each start) ∙ one_stays pid_at each (start + 1) n)

no_service_once : (plan : PlanFields) (k : ℕ) → length plan.services ≤ k → twice (pids_in plan k) ≡ false
unfolding pids_in
no_service_once plan k past = one_alone (λ version. pid_in plan version k) (λ version. no_pid plan version k past) 0 (length plan.changes + 1)

pub once : (plan : PlanFields) (k : ℕ) → has_wrong_change plan ≡ false → twice (pids_in plan k) ≡ false
once plan k right = by_place (cases_lt k (length plan.services))
  where
    by_place : (k < length plan.services) ⊎ (length plan.services ≤ k) → twice (pids_in plan k) ≡ false
    by_place (inl known) = one_not_twice (pids_in plan) k 0 (length plan.services) k (omega arith) known (services_not_twice plan right)
    by_place (inr past) = no_service_once plan k past

-- two services have no PID in common
pub services_apart : (plan : PlanFields) → has_wrong_change plan ≡ false → (version j k a b : ℕ) → version ≤ length plan.changes → (j ≡ k → ⊥)
    → j < length plan.services → k < length plan.services → pid_in plan version j ≡ Some a → pid_in plan version k ≡ Some b → eqb a b ≡ false
services_apart plan right version j k a b within apart known known2 own own2 = by_test (eqb a b) refl
  where
    there : is_in a (pids_in plan j) ≡ true
    there = pid_is_in plan version j a (omega (arith, within)) own

    there2 : is_in b (pids_in plan k) ≡ true
    there2 = pid_is_in plan version k b (omega (arith, within)) own2

    by_test : (same : Bool) → eqb a b ≡ same → same ≡ false
    by_test false e = refl
    by_test true e =
        absurd (lists_apart (pids_in plan) a (length plan.services) j k apart known known2 (services_not_twice plan right) there
        (ap (λ (n : ℕ). is_in n (pids_in plan k)) (eqb-true a b e) ∙ there2))

-- and none has the INT's
pub table_apart : (plan : PlanFields) (int : IntFields) → has_wrong_change plan ≡ false → (version k pid : ℕ) → version ≤ length plan.changes → k < length plan.services
    → plan.table ≡ Some int → pid_in plan version k ≡ Some pid → eqb int.pid pid ≡ false
table_apart plan int right version k pid within known is own = by_test (eqb int.pid pid) refl
  where
    of_table : is_in int.pid (table_pids plan.table) ≡ true
    of_table = ap (λ (table : Option IntFields). is_in int.pid (table_pids table)) is ∙ self_is_in int.pid []

    absent : is_in int.pid (flat_map (pids_in plan) (range_with_len 0 (length plan.services))) ≡ false
    absent = (twice_parts (table_pids plan.table) (flat_map (pids_in plan) (range_with_len 0 (length plan.services))) (none_twice plan right)).1 int.pid of_table

    there : is_in pid (flat_map (pids_in plan) (range_with_len 0 (length plan.services))) ≡ true
    there = in_lists (pids_in plan) pid k 0 (length plan.services) k (omega arith) known (pid_is_in plan version k pid (omega (arith, within)) own)

    by_test : (same : Bool) → eqb int.pid pid ≡ same → same ≡ false
    by_test false e = refl
    by_test true e =
        let never : true ≡ false =
        sym there ∙ ap (λ (n : ℕ). is_in n (flat_map (pids_in plan) (range_with_len 0 (length plan.services)))) (sym (eqb-true int.pid pid e)) ∙ absent in
        absurd (cc (never))

-- The PIDs of a service, divided at a version.
pub record AreParted (plan : PlanFields) (k pid version : ℕ) : Type 0 where
  pub before : List ℕ
  pub behind : List ℕ
  pub whole : pids_in plan k ≡ before ++ pid ∷ behind
  -- those before are others
  pub others : (x : ℕ) → is_in x before ≡ true → eqb pid x ≡ false
  -- those behind, and all that come later and are not this one, have not come up to the version
  pub later : (x : ℕ) → is_in x behind ≡ true → (earlier : ℕ) → earlier ≤ version → has_pid (pid_in plan earlier k) x ≡ false
  pub comes : (x after : ℕ) → version < after → after ≤ length plan.changes → pid_in plan after k ≡ Some x → eqb x pid ≡ false → is_in x behind ≡ true

whole_is : (plan : PlanFields) (k pid version : ℕ) (before behind : List ℕ) → IsParted (λ v. pid_in plan v k) [] 0 (length plan.changes + 1) version pid before behind
    → pids_in plan k ≡ before ++ pid ∷ behind
unfolding pids_in
whole_is plan k pid version before behind it = it.whole

zero_is : (n : ℕ) → 0 + n ≡ n
zero_is n = omega arith

pub are_parted : (plan : PlanFields) (k pid version : ℕ) → has_wrong_change plan ≡ false → version ≤ length plan.changes → pid_in plan version k ≡ Some pid → AreParted plan k pid version
are_parted plan k pid version right within is =
    by_parts (parted (λ v. pid_in plan v k) [] 0 (length plan.changes + 1) version pid (omega (arith, within)) (in_version version ∙ is))
  where
    in_version : (v : ℕ) → pid_in plan (0 + v) k ≡ pid_in plan v k
    in_version v = ap (λ n. pid_in plan n k) (zero_is v)

    by_parts : (before : List ℕ) × (behind : List ℕ) × IsParted (λ v. pid_in plan v k) [] 0 (length plan.changes + 1) version pid before behind → AreParted plan k pid version
    by_parts (before, behind, it) = record { before = before; behind = behind; whole = whole; others = others; later = later; comes = comes }
      where
        whole : pids_in plan k ≡ before ++ pid ∷ behind
        whole = whole_is plan k pid version before behind it

        apart : twice (before ++ pid ∷ behind) ≡ false
        apart = sym (ap twice whole) ∙ once plan k right

        others : (x : ℕ) → is_in x before ≡ true → eqb pid x ≡ false
        others x there =
            other_way x pid (or_parts (eqb x pid) (is_in x behind) ((twice_parts before (pid ∷ behind) apart).1 x there)).0

        joined : twice ((before ++ pid ∷ []) ++ behind) ≡ false
        joined = ap twice (append_assoc before (pid ∷ []) behind) ∙ apart

        later : (x : ℕ) → is_in x behind ≡ true → (earlier : ℕ) → earlier ≤ version → has_pid (pid_in plan earlier k) x ≡ false
        later x there earlier order = by_pid (pid_in plan earlier k) refl
          where
            by_own : (own : ℕ) → pid_in plan earlier k ≡ Some own → (b : Bool) → eqb own x ≡ b → b ≡ false
            by_own own has false e = refl
            by_own own has true e =
                let absent : is_in own behind ≡ false = (twice_parts (before ++ pid ∷ []) behind joined).1 own (it.up_to earlier own order (in_version earlier ∙ has)) in
                let never : true ≡ false = sym there ∙ ap (λ (n : ℕ). is_in n behind) (sym (eqb-true own x e)) ∙ absent in
                absurd (cc (never))

            by_pid : (o : Option ℕ) → pid_in plan earlier k ≡ o → has_pid o x ≡ false
            by_pid None has = refl
            by_pid (Some own) has = by_own own has (eqb own x) refl

        comes : (x after : ℕ) → version < after → after ≤ length plan.changes → pid_in plan after k ≡ Some x → eqb x pid ≡ false → is_in x behind ≡ true
        comes x after above most has differs =
            sym (ap (λ (b : Bool). b || is_in x behind) differs) ∙ it.from after x above (omega (arith, most)) (in_version after ∙ has)
