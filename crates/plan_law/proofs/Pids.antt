-- The PIDs of services in all versions: where none stands twice, none does in one version.
use Rattle.std.proofs.Common.{◌≡◌, ◌⊎◌, ℕ, zero, suc, ◌+◌, ◌<◌, Bool, true, false, ◌||◌, List, [], ◌∷◌, ◌++◌, length, map, fold, get_or, Option, Some, None, refl, ap, sym, ◌∙◌, arith, eqb, cond, inl, inr}
use Rattle.std.specs.Prelude.{flat_map}
use Rattle.std.specs.List.{list_any, range_with_len, filter_map, cons_option}
use Rattle.std.proofs.lemmas.Bool.{cases_Bool, eqb-true, eq-eqb}
use Rattle.plan_spec.specs.Plan.{ServiceFields, PlanFields, pid_of, service_pids, table_pids}
use Rattle.plan_spec.specs.Checks.{has_pair}
use Rattle.plan_spec.specs.Changes.{no_service, services_in, plan_in, pid_in, pids_in, with_last, with_pid_behind, all_pids}
use Rattle.plan_law.proofs.Lists.{neither}
use Rattle.plan_law.proofs.Kept.{length-services_in}

-- a number is one of a list
abbrev pub is_in : ℕ → List ℕ → Bool
is_in x xs = list_any (λ y. eqb x y) xs

self : (x : ℕ) → eqb x x ≡ true
self x = eq-eqb x x refl

or_right : (a b : Bool) → b ≡ true → (a || b) ≡ true
or_right true b is = refl
or_right false b is = is

or_left : (a b : Bool) → a ≡ true → (a || b) ≡ true
or_left true b is = refl
or_left false b is = absurd (cc)

-- The PIDs that a service has, one after another.

-- a PID that comes behind is there
last_is_in : (pids : List ℕ) (pid : ℕ) → is_in pid (with_last pids pid) ≡ true
last_is_in [] pid = or_left (eqb pid pid) false (self pid)
last_is_in (last ∷ []) pid = elim (cases_Bool (eqb last pid)) [
  | inl same ↦
      let is : last ≡ pid = eqb-true last pid same in
      ap (λ (b : Bool). is_in pid (cond b (last ∷ []) (last ∷ pid ∷ []))) same ∙ or_left (eqb pid last) false (rw is (self pid))
  | inr other ↦
      ap (λ (b : Bool). is_in pid (cond b (last ∷ []) (last ∷ pid ∷ []))) other
      ∙ or_right (eqb pid last) (is_in pid (pid ∷ [])) (or_left (eqb pid pid) false (self pid))
]
last_is_in (first ∷ next ∷ others) pid = or_right (eqb pid first) (is_in pid (with_last (next ∷ others) pid)) (last_is_in (next ∷ others) pid)

-- and those before it stay
stays_in : (x : ℕ) (pids : List ℕ) (pid : ℕ) → is_in x pids ≡ true → is_in x (with_last pids pid) ≡ true
stays_in x [] pid there = absurd (cc)
stays_in x (last ∷ []) pid there = elim (cases_Bool (eqb last pid)) [
  | inl same ↦ ap (λ (b : Bool). is_in x (cond b (last ∷ []) (last ∷ pid ∷ []))) same ∙ there
  | inr other ↦ ap (λ (b : Bool). is_in x (cond b (last ∷ []) (last ∷ pid ∷ []))) other ∙ first_part (eqb x last) (is_in x (pid ∷ [])) there
]
  where
    first_part : (a b : Bool) → (a || false) ≡ true → (a || b) ≡ true
    first_part true b is = refl
    first_part false b is = absurd (cc)
stays_in x (first ∷ next ∷ others) pid there = by_first (λ later. stays_in x (next ∷ others) pid later) (eqb x first) refl
  where
    by_first : (is_in x (next ∷ others) ≡ true → is_in x (with_last (next ∷ others) pid) ≡ true) → (b : Bool) → eqb x first ≡ b
        → is_in x (with_last (first ∷ next ∷ others) pid) ≡ true
    by_first more true is = or_left (eqb x first) (is_in x (with_last (next ∷ others) pid)) is
    by_first more false is =
        or_right (eqb x first) (is_in x (with_last (next ∷ others) pid)) (more (sym (ap (λ (b : Bool). b || is_in x (next ∷ others)) is) ∙ there))

behind_stays : (x : ℕ) (pids : List ℕ) (o : Option ℕ) → is_in x pids ≡ true → is_in x (with_pid_behind pids o) ≡ true
behind_stays x pids None there = there
behind_stays x pids (Some pid) there = stays_in x pids pid there

all_stay : (x : ℕ) (pids : List ℕ) (os : List (Option ℕ)) → is_in x pids ≡ true → is_in x (fold with_pid_behind pids os) ≡ true
all_stay x pids [] there = there
all_stay x pids (o ∷ os) there = all_stay x (with_pid_behind pids o) os (behind_stays x pids o there)

-- that of each of some numbers is there
each_there : (pid_at : ℕ → Option ℕ) (pids : List ℕ) (start n i x : ℕ) → i < n → pid_at (start + i) ≡ Some x
    → is_in x (fold with_pid_behind pids (map pid_at (range_with_len start n))) ≡ true
each_there pid_at pids start zero i x within is = absurd (omega arith)
each_there pid_at pids start (suc n) zero x within is =
    let here : pid_at start ≡ Some x = ap pid_at (start_is start) ∙ is in
    all_stay x (with_pid_behind pids (pid_at start)) (map pid_at (range_with_len (start + 1) n))
    (ap (λ (o : Option ℕ). is_in x (with_pid_behind pids o)) here ∙ last_is_in pids x)
  where
    start_is : (s : ℕ) → s ≡ s + 0
    start_is s = omega arith
each_there pid_at pids start (suc n) (suc i) x within is =
    each_there pid_at (with_pid_behind pids (pid_at start)) (start + 1) n i x (omega arith) (ap pid_at (shifted start i) ∙ is)
  where
    shifted : (s j : ℕ) → s + 1 + j ≡ s + suc j
    shifted s j = omega arith

-- the PID of a service in a version is one of its PIDs
pub pid_is_in : (plan : PlanFields) (version k x : ℕ) → version < length plan.changes + 1 → pid_in plan version k ≡ Some x → is_in x (pids_in plan k) ≡ true
unfolding pids_in
pid_is_in plan version k x within is =
    each_there (λ v. pid_in plan v k) [] 0 (length plan.changes + 1) version x within (ap (λ v. pid_in plan v k) (zero_is version) ∙ is)
  where
    zero_is : (s : ℕ) → 0 + s ≡ s
    zero_is s = omega arith

-- One of each of several lists, none of whose numbers stands twice.

not_in_parts : (x : ℕ) (first second : List ℕ) → is_in x (first ++ second) ≡ false → (is_in x first ≡ false) × (is_in x second ≡ false)
not_in_parts x [] second none = (refl, none)
not_in_parts x (y ∷ first) second none =
    let parts = neither (eqb x y) (is_in x (first ++ second)) none in
    let rest = not_in_parts x first second parts.1 in
    (both_false (eqb x y) (is_in x first) parts.0 rest.0, rest.1)
  where
    both_false : (a b : Bool) → a ≡ false → b ≡ false → (a || b) ≡ false
    both_false true b no_a no_b = absurd (cc)
    both_false false b no_a no_b = no_b

abbrev pub twice : List ℕ → Bool
twice xs = has_pair (λ a b. eqb a b) xs

-- of lists one behind the other none has a number twice, and none of the first stands in the second
twice_parts : (first second : List ℕ) → twice (first ++ second) ≡ false → (twice second ≡ false) × ((x : ℕ) → is_in x first ≡ true → is_in x second ≡ false)
twice_parts [] second none = (none, λ x there. absurd (cc))
twice_parts (y ∷ first) second none =
    let parts = neither (is_in y (first ++ second)) (twice (first ++ second)) none in
    let rest = twice_parts first second parts.1 in
    (rest.0, λ x there. by_head x (cases_Bool (eqb x y)) there parts.0 rest.1)
  where
    by_head : (x : ℕ) → (eqb x y ≡ true) ⊎ (eqb x y ≡ false) → is_in x (y ∷ first) ≡ true → is_in y (first ++ second) ≡ false
        → ((z : ℕ) → is_in z first ≡ true → is_in z second ≡ false) → is_in x second ≡ false
    by_head x (inl same) there none_of_y others = ap (λ (n : ℕ). is_in n second) (eqb-true x y same) ∙ (not_in_parts y first second none_of_y).1
    by_head x (inr other) there none_of_y others = others x (sym (ap (λ (b : Bool). b || is_in x first) other) ∙ there)

-- of each number from a start on, one of its list or none
pub record AreOf (one : ℕ → Option ℕ) (list : ℕ → List ℕ) (start n : ℕ) : Type 0 where
  pub each : (i x : ℕ) → i < n → one (start + i) ≡ Some x → is_in x (list (start + i)) ≡ true

some_in : (x : ℕ) (o : Option ℕ) (list ones others : List ℕ) → ((y : ℕ) → o ≡ Some y → is_in y list ≡ true) → is_in x list ≡ false → is_in x ones ≡ false
    → is_in x (cons_option o ones) ≡ false
some_in x None list ones others of_list none none_else = none_else
some_in x (Some y) list ones others of_list none none_else = by_y (eqb x y) refl
  where
    by_y : (b : Bool) → eqb x y ≡ b → is_in x (y ∷ ones) ≡ false
    by_y true same = absurd (cc (of_list y refl, ap (λ (n : ℕ). is_in n list) (eqb-true x y same), none))
    by_y false other = ap (λ (b : Bool). b || is_in x ones) other ∙ none_else

none_of_ones : (one : ℕ → Option ℕ) (list : ℕ → List ℕ) (start n x : ℕ) → AreOf one list start n → is_in x (flat_map list (range_with_len start n)) ≡ false
    → is_in x (filter_map one (range_with_len start n)) ≡ false
none_of_ones one list start zero x are none = refl
none_of_ones one list start (suc n) x are none =
    let parts = not_in_parts x (list start) (flat_map list (range_with_len (start + 1) n)) none in
    some_in x (one start) (list start) (filter_map one (range_with_len (start + 1) n)) [] (λ y is. first_of y is) parts.0
    (none_of_ones one list (start + 1) n x (record { each = λ i z within is. later i z within is }) parts.1)
  where
    start_is : (s : ℕ) → s + 0 ≡ s
    start_is s = omega arith

    shifted : (s j : ℕ) → s + 1 + j ≡ s + suc j
    shifted s j = omega arith

    first_of : (y : ℕ) → one start ≡ Some y → is_in y (list start) ≡ true
    first_of y is = sym (ap (λ (s : ℕ). is_in y (list s)) (start_is start)) ∙ are.each 0 y (omega arith) (ap one (start_is start) ∙ is)

    later : (i z : ℕ) → i < n → one (start + 1 + i) ≡ Some z → is_in z (list (start + 1 + i)) ≡ true
    later i z within is =
        ap (λ (s : ℕ). is_in z (list s)) (shifted start i) ∙ are.each (suc i) z (omega (arith, within)) (sym (ap one (shifted start i)) ∙ is)

-- then no number stands twice among those
pub ones_not_twice : (one : ℕ → Option ℕ) (list : ℕ → List ℕ) (start n : ℕ) → AreOf one list start n → twice (flat_map list (range_with_len start n)) ≡ false
    → twice (filter_map one (range_with_len start n)) ≡ false
ones_not_twice one list start zero are none = refl
ones_not_twice one list start (suc n) are none = by_one (λ later apart. ones_not_twice one list (start + 1) n later apart) (one start) refl
  where
    start_is : (s : ℕ) → s + 0 ≡ s
    start_is s = omega arith

    shifted : (s j : ℕ) → s + 1 + j ≡ s + suc j
    shifted s j = omega arith

    parts : (twice (flat_map list (range_with_len (start + 1) n)) ≡ false)
        × ((x : ℕ) → is_in x (list start) ≡ true → is_in x (flat_map list (range_with_len (start + 1) n)) ≡ false)
    parts = twice_parts (list start) (flat_map list (range_with_len (start + 1) n)) none

    later : AreOf one list (start + 1) n
    later = record {
      each = λ i z within is.
          ap (λ (s : ℕ). is_in z (list s)) (shifted start i) ∙ are.each (suc i) z (omega (arith, within)) (sym (ap one (shifted start i)) ∙ is);
    }

    both_false : (a b : Bool) → a ≡ false → b ≡ false → (a || b) ≡ false
    both_false true b no_a no_b = absurd (cc)
    both_false false b no_a no_b = no_b

    by_one : (AreOf one list (start + 1) n → twice (flat_map list (range_with_len (start + 1) n)) ≡ false → twice (filter_map one (range_with_len (start + 1) n)) ≡ false)
        → (o : Option ℕ) → one start ≡ o → twice (cons_option o (filter_map one (range_with_len (start + 1) n))) ≡ false
    by_one more None is = more later parts.0
    by_one more (Some x) is =
        let there : is_in x (list start) ≡ true =
        sym (ap (λ (s : ℕ). is_in x (list s)) (start_is start)) ∙ are.each 0 x (omega arith) (ap one (start_is start) ∙ is) in
        both_false (is_in x (filter_map one (range_with_len (start + 1) n))) (twice (filter_map one (range_with_len (start + 1) n)))
        (none_of_ones one list (start + 1) n x later (parts.1 x there)) (more later parts.0)

-- The PIDs of all services in a version.

range_shifted : (h : ℕ → Option ℕ) (start n : ℕ) → filter_map h (range_with_len (start + 1) n) ≡ filter_map (λ k. h (suc k)) (range_with_len start n)
range_shifted h start zero = refl
range_shifted h start (suc n) =
    ap (λ (s : ℕ). cons_option (h s) (filter_map h (range_with_len (start + 1 + 1) n))) (next start)
    ∙ ap (λ (l : List ℕ). cons_option (h (suc start)) l) (range_shifted h (start + 1) n)
  where
    next : (s : ℕ) → s + 1 ≡ suc s
    next s = omega arith

pub pids_by_place : (services : List ServiceFields)
    → filter_map pid_of (map (λ (s : ServiceFields). s.kind) services) ≡ filter_map (λ k. pid_of (get_or services k no_service).kind) (range_with_len 0 (length services))
pids_by_place [] = refl
pids_by_place (s ∷ services) =
    ap (λ (l : List ℕ). cons_option (pid_of s.kind) l)
    (pids_by_place services ∙ sym (range_shifted (λ k. pid_of (get_or (s ∷ services) k no_service).kind) 0 (length services)))

version_pids : (plan : PlanFields) (version : ℕ) → service_pids (plan_in plan version) ≡ filter_map (λ k. pid_in plan version k) (range_with_len 0 (length plan.services))
unfolding pid_in
version_pids plan version =
    pids_by_place (services_in plan version)
    ∙ ap (λ (n : ℕ). filter_map (λ k. pid_of (get_or (services_in plan version) k no_service).kind) (range_with_len 0 n)) (length-services_in plan version)

are_of : (plan : PlanFields) (version : ℕ) → version < length plan.changes + 1 → AreOf (λ k. pid_in plan version k) (pids_in plan) 0 (length plan.services)
are_of plan version within = record { each = λ i x there is. pid_is_in plan version (0 + i) x within is }

-- where none stands twice in all versions, none does in one, the INT's among them
pub none_twice_in : (plan : PlanFields) (version : ℕ) → version < length plan.changes + 1 → twice (all_pids plan) ≡ false
    → twice (table_pids plan.table ++ service_pids (plan_in plan version)) ≡ false
none_twice_in plan version within none =
    ap (λ (l : List ℕ). twice (table_pids plan.table ++ l)) (version_pids plan version)
    ∙ by_front (table_pids plan.table) (flat_map (pids_in plan) (range_with_len 0 (length plan.services))) none
    (λ x absent. none_of_ones (λ k. pid_in plan version k) (pids_in plan) 0 (length plan.services) x (are_of plan version within) absent)
    (λ apart. ones_not_twice (λ k. pid_in plan version k) (pids_in plan) 0 (length plan.services) (are_of plan version within) apart)
  where
    ones : List ℕ
    ones = filter_map (λ k. pid_in plan version k) (range_with_len 0 (length plan.services))

    both_false : (a b : Bool) → a ≡ false → b ≡ false → (a || b) ≡ false
    both_false true b no_a no_b = absurd (cc)
    both_false false b no_a no_b = no_b

    absent_behind : (x : ℕ) (front all : List ℕ) → ((y : ℕ) → is_in y all ≡ false → is_in y ones ≡ false) → is_in x (front ++ all) ≡ false → is_in x (front ++ ones) ≡ false
    absent_behind x [] all fewer none' = fewer x none'
    absent_behind x (y ∷ front) all fewer none' =
        let parts = neither (eqb x y) (is_in x (front ++ all)) none' in
        both_false (eqb x y) (is_in x (front ++ ones)) parts.0 (absent_behind x front all fewer parts.1)

    by_front : (front all : List ℕ) → twice (front ++ all) ≡ false → ((x : ℕ) → is_in x all ≡ false → is_in x ones ≡ false) → (twice all ≡ false → twice ones ≡ false)
        → twice (front ++ ones) ≡ false
    by_front [] all apart fewer goes = goes apart
    by_front (x ∷ front) all apart fewer goes =
        let parts = neither (is_in x (front ++ all)) (twice (front ++ all)) apart in
        both_false (is_in x (front ++ ones)) (twice (front ++ ones)) (absent_behind x front all fewer parts.0) (by_front front all parts.1 fewer goes)
