-- Services against each other.
use Rattle.std.proofs.Common.{◌≡◌, sum_by, option_map, not, if◌then◌else◌, ℕ, ◌+◌, ◌<◌, ◌≤◌, Bool, true, false, ◌||◌, ◌&&◌, ◌==◌, nat_le, ◌++◌, List, [], ◌∷◌, length, map, get_or, drop, Option, Some, None, nat_lt, is_some, refl, ap, ap₂, sym, ◌∙◌, arith}
use Rattle.std.specs.List.{list_any, list_all, filter_map, cons_option}
use Rattle.std.proofs.lemmas.List.{drop_more, drop_all, length-append}
use Rattle.std.proofs.lemmas.Bool.Decides.{nat_tests}
use Rattle.plan_spec.specs.Plan.{KindFields, ServiceFields, IntFields, PlanFields, SlicedFields, sliced_of, pid_of, isi_of, table_pids}
use Rattle.plan_spec.specs.Checks.{has_pair, is_wrong_window, overlaps, is_gse, is_plain, has_no_rule, has_too_many_rules}
use Rattle.plan_spec.specs.Changes.{no_service}
use Rattle.plan_law.proofs.Lists.{neither}
use Rattle.plan_law.proofs.Rules.{rules_within}
use Rattle.settings_spec.specs.Keys.{holds}
use Rattle.plan.specs.Parts.{kind_seen, int_seen, services_seen}
use Rattle.service_plan.specs.Wholes.{has_slices, ids_seen, int_shares, is_small_gap}
use Rattle.plan.specs.declared.service.Service.{Service}
use Rattle.plan.specs.declared.plan.IntPlan.{IntPlan}
use Rattle.ts_spec.specs.Recording.{RecordingForm}
use Rattle.addr_rules.specs.declared.rules.Rule.{Rule}
use Rattle.std.proofs.lemmas.List.Sums.{sum_by-cons}

abbrev pub kinds_seen : List Service → List KindFields
kinds_seen services = map (λ (s : ServiceFields). s.kind) (services_seen services)

-- a test of what is found among the services
any_option : {X : Type 0} (p : X → Bool) (o : Option X) (xs : List X) → list_any p (cons_option o xs) ≡ (holds p o || list_any p xs)
any_option p None xs = refl
any_option p (Some x) xs = refl

pub any_found : {X : Type 0} (p : X → Bool) (f : Service → Option X) (services : List Service) → list_any p (filter_map f services) ≡ list_any (λ s. holds p (f s)) services
any_found p f [] = refl
any_found p f (s ∷ services) = any_option p (f s) (filter_map f services) ∙ rw (any_found p f services)

-- pairs of what is found from a place on
pair_option : {X : Type 0} (related : X → X → Bool) (o : Option X) (x : X) (xs : List X) → o ≡ Some x → has_pair related (cons_option o xs) ≡ (list_any (related x) xs || has_pair related xs)
pair_option related o x xs is = rw is

pub pairs_more : {X : Type 0} (related : X → X → Bool) (f : Service → Option X) (services : List Service) (i : ℕ) (v : Service) (x : X) (b : Bool) → i < length services → v ≡ get_or services i v
    → f v ≡ Some x → b ≡ list_any (λ s. holds (related x) (f s)) (drop (i + 1) services)
    → has_pair related (filter_map f (drop i services)) ≡ (b || has_pair related (filter_map f (drop (i + 1) services)))
pairs_more related f services i v x b within is found any =
    rw (drop_more services i v within, ← is) (pair_option related (f v) x (filter_map f (drop (i + 1) services)) found ∙ rw (any_found (related x) f (drop (i + 1) services), ← any))

pub pairs_same : {X : Type 0} (related : X → X → Bool) (f : Service → Option X) (services : List Service) (i : ℕ) (v : Service) → i < length services → v ≡ get_or services i v
    → f v ≡ None → has_pair related (filter_map f (drop i services)) ≡ has_pair related (filter_map f (drop (i + 1) services))
pairs_same related f services i v within is none = rw (drop_more services i v within, ← is, none)

pub pairs_end : {X : Type 0} (related : X → X → Bool) (f : Service → Option X) (services : List Service) (i : ℕ) → length services ≤ i → has_pair related (filter_map f (drop i services)) ≡ false
pairs_end related f services i past = rw (drop_all i services past)

-- the names and kinds of services, as definitions and as the code see them
pub names_found : (services : List Service) → map (λ (s : ServiceFields). s.name) (services_seen services) ≡ filter_map (λ s. Some s.name) services
names_found [] = refl
names_found (s ∷ services) = ap (λ rest. s.name ∷ rest) (names_found services)

pub kinds_found : {X : Type 0} (f : KindFields → Option X) (services : List Service) → filter_map f (kinds_seen services) ≡ filter_map (λ s. f (kind_seen s.kind)) services
kinds_found f [] = refl
kinds_found f (s ∷ services) = ap (λ rest. cons_option (f (kind_seen s.kind)) rest) (kinds_found f services)

pub any_kind : (p : KindFields → Bool) (services : List Service) → list_any p (kinds_seen services) ≡ list_any (λ s. p (kind_seen s.kind)) services
any_kind p [] = refl
any_kind p (s ∷ services) = rw (any_kind p services)

pub all_kinds : (p : KindFields → Bool) (services : List Service) → list_all p (kinds_seen services) ≡ list_all (λ s. p (kind_seen s.kind)) services
all_kinds p [] = refl
all_kinds p (s ∷ services) = rw (all_kinds p services)

-- some service is sliced
some_option : (o : Option SlicedFields) (xs : List SlicedFields) → nat_lt 0 (length (cons_option o xs)) ≡ (is_some o || nat_lt 0 (length xs))
some_option None xs = refl
some_option (Some x) xs = grind (arith, nat_tests)

pub sliced_found : (services : List Service) → nat_lt 0 (length (filter_map (λ s. sliced_of (kind_seen s.kind)) services)) ≡ list_any (λ s. has_slices (kind_seen s.kind)) services
sliced_found [] = refl
sliced_found (s ∷ services) = some_option (sliced_of (kind_seen s.kind)) _ ∙ rw (sliced_found services)

-- PIDs with the INT's
pid_pairs : (table : Option IntFields) (pids : List ℕ) → has_pair (λ a b. a == b) (table_pids table ++ pids) ≡ (int_shares table pids || has_pair (λ a b. a == b) pids)
pid_pairs None pids = refl
pid_pairs (Some int) pids = refl

or_assoc : (a b c : Bool) → (a || (b || c)) ≡ ((a || b) || c)
or_assoc true b c = refl
or_assoc false b c = refl

pub pid_checked : (table : Option IntFields) (services : List Service) (int pids isis : Bool) → int ≡ int_shares table (ids_seen false services)
    → pids ≡ has_pair (λ a b. a == b) (ids_seen false services) → isis ≡ has_pair (λ a b. a == b) (ids_seen true services)
    → (int || (pids || isis)) ≡ (has_pair (λ a b. a == b) (table_pids table ++ filter_map pid_of (kinds_seen services)) || has_pair (λ a b. a == b) (filter_map isi_of (kinds_seen services)))
pid_checked table services int pids isis i p q =
    rw (kinds_found pid_of services, kinds_found isi_of services, pid_pairs table (ids_seen false services), ← i, ← p, ← q) (or_assoc int pids isis)

-- the checks of windows
pub window_checked : (t : ℕ) (plan : PlanFields) (services : List Service) (wrong overlap : Bool)
    → wrong ≡ list_any (λ (s : Service). holds (is_wrong_window t plan) (sliced_of (kind_seen s.kind))) services
    → overlap ≡ has_pair overlaps (filter_map (λ (s : Service). sliced_of (kind_seen s.kind)) services)
    → (nat_le plan.cycle t || (wrong || overlap)) ≡ (nat_le plan.cycle t || (list_any (is_wrong_window t plan) (filter_map sliced_of (kinds_seen services)) || has_pair overlaps (filter_map sliced_of (kinds_seen services))))
window_checked t plan services wrong overlap w o =
    rw (kinds_found sliced_of services, any_found (is_wrong_window t plan) (λ (s : Service). sliced_of (kind_seen s.kind)) services, ← w, ← o) refl

pub gap_checked : (plan : PlanFields) (services : List Service) (r : Bool) → r ≡ list_any (λ (s : Service). holds (is_small_gap plan) (sliced_of (kind_seen s.kind))) services
    → r ≡ list_any (is_small_gap plan) (filter_map sliced_of (kinds_seen services))
gap_checked plan services r all = rw (kinds_found sliced_of services, any_found (is_small_gap plan) (λ (s : Service). sliced_of (kind_seen s.kind)) services) all

pub sliced_and : (services : List Service) (some other test : Bool) → some ≡ list_any (λ (s : Service). has_slices (kind_seen s.kind)) services → other ≡ test
    → (some && other) ≡ (nat_lt 0 (length (filter_map sliced_of (kinds_seen services))) && test)
sliced_and services some other test s t = rw (kinds_found sliced_of services, sliced_found services, ← s, ← t) refl

-- the carrier
some_mapped : {X Y : Type 0} (f : X → Y) (o : Option X) → is_some (option_map f o) ≡ is_some o
some_mapped f None = refl
some_mapped f (Some x) = refl

pub frames_checked : (frame : Option ℕ) (table : Option IntPlan) (form : RecordingForm) (services : List Service) (gse there plain : Bool) → true ≡ is_some frame
    → gse ≡ list_all (λ (s : Service). is_gse (kind_seen s.kind)) services → there ≡ is_some table → plain ≡ is_plain form
    → (not gse || (there || not plain)) ≡ (if is_some frame then (not (list_all is_gse (kinds_seen services)) || (is_some (option_map int_seen table) || not (is_plain form))) else list_any is_gse (kinds_seen services))
frames_checked frame table form services gse there plain bb g t p =
    rw (← bb, all_kinds is_gse services, some_mapped int_seen table, ← g, ← t, ← p) refl

pub packets_checked : (frame : Option ℕ) (table : Option IntPlan) (form : RecordingForm) (services : List Service) (r : Bool) → false ≡ is_some frame
    → r ≡ list_any (λ (s : Service). is_gse (kind_seen s.kind)) services
    → r ≡ (if is_some frame then (not (list_all is_gse (kinds_seen services)) || (is_some (option_map int_seen table) || not (is_plain form))) else list_any is_gse (kinds_seen services))
packets_checked frame table form services r ts any = rw (← ts, any_kind is_gse services) any

-- The rules of services, one after another.

abbrev pub rules_of : List ServiceFields → List (List Rule)
rules_of services = map (λ (s : ServiceFields). s.rules) services

-- the urgent ones among them
abbrev pub all_rules_of : List ServiceFields → List (List Rule)
all_rules_of services = map (λ (s : ServiceFields). s.rules ++ s.urgent) services

-- so many with those of services that were counted before
abbrev pub passes_most : ℕ → List ServiceFields → Bool
passes_most total services = nat_lt 128 (total + sum_by length (all_rules_of services))

or_second : (a b : Bool) → b ≡ true → (a || b) ≡ true
or_second true b is = refl
or_second false b is = is

more_is_above : (total count rest : ℕ) → nat_lt 128 (total + count) ≡ true → nat_lt 128 (total + (count + rest)) ≡ true
more_is_above total count rest above = grind (arith, nat_tests)

-- those of one service more
own_count : (service : ServiceFields) (count urgent : ℕ) → count ≡ length service.rules → urgent ≡ length service.urgent → count + urgent ≡ length (service.rules ++ service.urgent)
own_count service count urgent is also = omega (arith, is, also, length-append service.rules service.urgent)

sum_is : (service : ServiceFields) (services : List ServiceFields) → sum_by length (all_rules_of (service ∷ services)) ≡ length (service.rules ++ service.urgent) + sum_by length (all_rules_of services)
sum_is service services = sum_by-cons length (service.rules ++ service.urgent) (all_rules_of services)

-- where a count is wrong all are, otherwise the others decide
pub count_wrong : (services : List ServiceFields) (k total count urgent : ℕ) → k < length services → count ≡ length (get_or services k no_service).rules
    → urgent ≡ length (get_or services k no_service).urgent
    → true ≡ ((count == 0) || nat_lt 128 (total + (count + urgent))) → true ≡ (has_no_rule (rules_of (drop k services)) || passes_most total (drop k services))
count_wrong services k total count urgent within is also wrong = rw (drop_more services k no_service within) (by_count ((count == 0)) refl wrong)
  where
    rest : List ServiceFields
    rest = drop (k + 1) services

    here : ServiceFields
    here = get_or services k no_service

    by_count : (b : Bool) → (count == 0) ≡ b → true ≡ (b || nat_lt 128 (total + (count + urgent)))
        → true ≡ (has_no_rule (rules_of (here ∷ rest)) || passes_most total (here ∷ rest))
    by_count true none h = sym (ap (λ (t : Bool). (t || has_no_rule (rules_of rest)) || passes_most total (here ∷ rest)) (ap (λ (n : ℕ). n == 0) (sym is) ∙ none))
    by_count false some h =
        sym (or_second (has_no_rule (rules_of (here ∷ rest))) (passes_most total (here ∷ rest))
        (ap (λ (n : ℕ). nat_lt 128 (total + n)) (sum_is here rest ∙ ap (λ (n : ℕ). n + sum_by length (all_rules_of rest)) (sym (own_count here count urgent is also)))
        ∙ more_is_above total (count + urgent) (sum_by length (all_rules_of rest)) (sym h)))

pub count_right : (services : List ServiceFields) (k total count urgent : ℕ) → k < length services → count ≡ length (get_or services k no_service).rules
    → urgent ≡ length (get_or services k no_service).urgent
    → false ≡ ((count == 0) || nat_lt 128 (total + (count + urgent)))
    → (has_no_rule (rules_of (drop k services)) || passes_most total (drop k services))
    ≡ (has_no_rule (rules_of (drop (k + 1) services)) || passes_most (total + (count + urgent)) (drop (k + 1) services))
count_right services k total count urgent within is also right =
    ap (λ (l : List ServiceFields). has_no_rule (rules_of l) || passes_most total l) (drop_more services k no_service within)
    ∙ ap₂ (λ (t : Bool) (n : ℕ). (t || has_no_rule (rules_of rest)) || nat_lt 128 n) (ap (λ (n : ℕ). n == 0) (sym is) ∙ (neither (count == 0) (nat_lt 128 (total + (count + urgent))) (sym right)).0)
    (ap (λ (n : ℕ). total + n) (sum_is here rest ∙ ap (λ (n : ℕ). n + sum_by length (all_rules_of rest)) (sym (own_count here count urgent is also)))
    ∙ regrouped total (count + urgent) (sum_by length (all_rules_of rest)))
  where
    rest : List ServiceFields
    rest = drop (k + 1) services

    here : ServiceFields
    here = get_or services k no_service

    regrouped : (a b c : ℕ) → a + (b + c) ≡ (a + b) + c
    regrouped a b c = omega arith

pub count_above : (total count urgent : ℕ) → false ≡ ((count == 0) || nat_lt 128 (total + (count + urgent))) → total + (count + urgent) ≤ 128
count_above total count urgent right = let h = (neither (count == 0) (nat_lt 128 (total + (count + urgent))) (sym right)).1 in grind (arith, nat_tests)

pub count_end : (services : List ServiceFields) (k total : ℕ) → length services ≤ k → total ≤ 128
    → (has_no_rule (rules_of (drop k services)) || passes_most total (drop k services)) ≡ false
count_end services k total past few =
    ap (λ (l : List ServiceFields). has_no_rule (rules_of l) || passes_most total l) (drop_all k services past) ∙ none_above total few
  where
    none_above : (n : ℕ) → n ≤ 128 → nat_lt 128 (n + 0) ≡ false
    none_above n less = grind (arith, nat_tests)

pub few_rules : (services : List ServiceFields) → has_too_many_rules (all_rules_of services) ≡ false → sum_by length (rules_of services) ≤ 128
few_rules services few = let within = rules_within services in grind (arith, nat_tests)

pub right_rules : (spelled wrong : Bool) → false ≡ (not spelled || wrong) → wrong ≡ false
right_rules spelled wrong right = (neither (not spelled) wrong (sym right)).1
