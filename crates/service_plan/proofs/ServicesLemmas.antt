-- The services so far, as a list of tables is read.
use Rattle.std.proofs.Common.{◌≡◌, ℕ, ◌+◌, ◌<◌, ◌≤◌, ◌&&◌, Bool, true, List, [], ◌∷◌, ◌++◌, length, get_or, drop, Option, Some, None, refl, ap, sym, ◌∙◌, arith, append_assoc}
use Rattle.std.specs.List.{list_all}
use Rattle.std.specs.List.{cons_option}
use Rattle.std.proofs.lemmas.List.{drop_more, drop_all, append-nil, length-append, length-map}
use Rattle.std.proofs.lemmas.Bool.{and_parts}
use Rattle.toml.specs.Data.{Data, Members, as_table}
use Rattle.toml.specs.View.{view}
use Rattle.toml.specs.declared.value.Value.{Value}
use Rattle.addr_rules.specs.declared.rules.Rule.{Rule}
use Rattle.plan_spec.specs.Plan.{ServiceFields, ServiceRules, own_rules, services_with}
use Rattle.settings_spec.specs.Keys.{first_of}
use Rattle.settings_spec.specs.Settings.{service_fault, services_fault, service_of, services_of, service_texts}
use Rattle.settings_spec.specs.Refusal.{AreServiceRules, AreRuleLists}
use Rattle.plan_spec.specs.Valid.{has_valid_values}
use Rattle.plan.specs.Parts.{service_seen, services_seen}
use Rattle.settings_keys.specs.Lists.{views, tables_of}
use Rattle.service_plan.specs.Services.{IsServiceOf, SpellsService, rules_read, ruled}
use Rattle.service_plan.specs.Drafts.{rules_seen, texts_of_rules, AreServicesOf}
use Rattle.plan.specs.declared.service.Service.{Service}
use Rattle.service_plan.specs.declared.service_draft.ServiceDraft.{ServiceDraft}
use Rattle.service_plan.specs.declared.services.ServicesDraft.{ServicesDraft}

-- what was read of all tables, the rest of them still to come
pub record ServicesSoFar (all rest : List Members) (list : List Service) (spelled : Bool) : Type 0 where
  pub fault : services_fault all ≡ services_fault rest
  pub seen : (later : List (ServiceRules Rule)) → services_with (services_of 0 all) (rules_seen list ++ later) ≡ services_seen list ++ services_with (services_of (length list) rest) later
  pub forth : spelled ≡ true → (later : List (ServiceRules Rule)) → AreRuleLists (texts_of_rules rest) later → AreRuleLists (texts_of_rules all) (rules_seen list ++ later)
  pub back : (whole : List (ServiceRules Rule)) → AreRuleLists (texts_of_rules all) whole → (spelled ≡ true) × ((later : List (ServiceRules Rule)) × (whole ≡ rules_seen list ++ later) × AreRuleLists (texts_of_rules rest) later)
  pub valid : list_all (has_valid_values 32) (services_seen list) ≡ true
  pub count : length list + length rest ≡ length all

pub no_services_yet : (all : List Members) → ServicesSoFar all all [] true
no_services_yet all = record {
  fault = refl;
  seen = λ later. refl;
  forth = λ yes later are. are;
  back = λ whole are. (refl, (whole, refl, are));
  valid = refl;
  count = omega arith;
}

-- lists with one service more
seen_more : (list : List Service) (service : Service) → services_seen (list ++ service ∷ []) ≡ services_seen list ++ service_seen service ∷ []
seen_more [] service = refl
seen_more (x ∷ list) service = ap (λ rest. service_seen x ∷ rest) (seen_more list service)

rules_more : (list : List Service) (service : Service) (later : List (ServiceRules Rule)) → rules_seen (list ++ service ∷ []) ++ later ≡ rules_seen list ++ own_rules (service_seen service) ∷ later
rules_more [] service later = refl
rules_more (x ∷ list) service later = ap (λ rest. own_rules (service_seen x) ∷ rest) (rules_more list service later)

valid_more : (xs : List ServiceFields) (x : ServiceFields) → list_all (has_valid_values 32) xs ≡ true → has_valid_values 32 x ≡ true → list_all (has_valid_values 32) (xs ++ x ∷ []) ≡ true
valid_more [] x all here = rw here
valid_more (y ∷ xs) x all here = let (first, others) = and_parts (has_valid_values 32 y) (list_all (has_valid_values 32) xs) all in rw (first, valid_more xs x others here)

both_true : (a b : Bool) → a ≡ true → b ≡ true → (a && b) ≡ true
both_true a b x y = rw (x, y)

-- the rules of one service more
split_lists : (texts : ServiceRules (List ℕ)) (rest : List (ServiceRules (List ℕ))) (rules : ServiceRules Rule) (spelled : Bool) (before whole later : List (ServiceRules Rule))
    → ((others : ServiceRules Rule) → AreServiceRules texts others → (spelled ≡ true) × (others ≡ rules))
    → whole ≡ before ++ later → AreRuleLists (texts ∷ rest) later
    → (spelled ≡ true) × ((more : List (ServiceRules Rule)) × (whole ≡ before ++ rules ∷ more) × AreRuleLists rest more)
split_lists texts rest rules spelled before whole [] only same are = absurd are
split_lists texts rest rules spelled before whole (first ∷ later) only same are =
    let found = only first are.0 in
    (found.0, (later, same ∙ ap (λ x. before ++ x ∷ later) found.1, are.1))

back_more : (m : Members) (all rest : List Members) (list : List Service) (spelled : Bool) (draft : ServiceDraft) → ServicesSoFar all (m ∷ rest) list spelled
    → SpellsService (service_texts m) (rules_read draft) draft.spelled → (whole : List (ServiceRules Rule)) → AreRuleLists (texts_of_rules all) whole
    → ((spelled && draft.spelled) ≡ true) × ((later : List (ServiceRules Rule)) × (whole ≡ rules_seen (list ++ draft.service ∷ []) ++ later) × AreRuleLists (texts_of_rules rest) later)
back_more m all rest list spelled draft far rules whole are =
    let before = far.back whole are in
    let split = split_lists (service_texts m) (texts_of_rules rest) (rules_read draft) draft.spelled (rules_seen list) whole before.1.0 rules.only before.1.1 before.1.2 in
    (both_true spelled draft.spelled before.0 split.0, (split.1.0, split.1.1 ∙ sym (rules_more list draft.service split.1.0), split.1.2))

forth_more : (m : Members) (all rest : List Members) (list : List Service) (spelled : Bool) (draft : ServiceDraft) → ServicesSoFar all (m ∷ rest) list spelled
    → SpellsService (service_texts m) (rules_read draft) draft.spelled → (spelled && draft.spelled) ≡ true → (later : List (ServiceRules Rule)) → AreRuleLists (texts_of_rules rest) later
    → AreRuleLists (texts_of_rules all) (rules_seen (list ++ draft.service ∷ []) ++ later)
forth_more m all rest list spelled draft far rules spells later are =
    let (before, here) = and_parts spelled draft.spelled spells in
    rw (rules_more list draft.service later) (far.forth before (rules_read draft ∷ later) (rules.all here, are))

seen_one_more : (m : Members) (all rest : List Members) (list : List Service) (spelled : Bool) (service : Service) → ServicesSoFar all (m ∷ rest) list spelled
    → service_seen service ≡ ruled (service_of (length list) m) (own_rules (service_seen service)) → (later : List (ServiceRules Rule))
    → services_with (services_of 0 all) (rules_seen (list ++ service ∷ []) ++ later) ≡ services_seen (list ++ service ∷ []) ++ services_with (services_of (length (list ++ service ∷ [])) rest) later
seen_one_more m all rest list spelled service far is later =
    let count : length (list ++ service ∷ []) ≡ length list + 1 = length-append list (service ∷ []) in
    rw (rules_more list service later, seen_more list service, count, append_assoc (services_seen list) (service_seen service ∷ []) (services_with (services_of (length list + 1) rest) later), is)
    (far.seen (own_rules (service_seen service) ∷ later))

pub one_service_more : (m : Members) (all rest : List Members) (list : List Service) (spelled : Bool) (draft : ServiceDraft) → ServicesSoFar all (m ∷ rest) list spelled
    → service_fault m ≡ None → IsServiceOf m (length list) draft → ServicesSoFar all rest (list ++ draft.service ∷ []) (spelled && draft.spelled)
one_service_more m all rest list spelled draft far none is = record {
  fault = far.fault ∙ rw none;
  seen = seen_one_more m all rest list spelled draft.service far is.seen;
  forth = forth_more m all rest list spelled draft far is.rules;
  back = back_more m all rest list spelled draft far is.rules;
  valid = rw (seen_more list draft.service) (valid_more (services_seen list) (service_seen draft.service) far.valid is.valid);
  count = omega (arith, far.count, length-append list (draft.service ∷ []));
}

-- where a service is wrong, all are
pub wrong_service : (m : Members) (all rest : List Members) (list : List Service) (spelled : Bool) → ServicesSoFar all (m ∷ rest) list spelled
    → services_fault all ≡ first_of (service_fault m) (services_fault rest)
wrong_service m all rest list spelled far = far.fault

-- where no table is left, the services are those of all tables
last_lists : (before whole later : List (ServiceRules Rule)) → whole ≡ before ++ later → AreRuleLists [] later → whole ≡ before
last_lists before whole [] same are = same ∙ append-nil before
last_lists before whole (first ∷ later) same are = absurd are

pub all_services : (all : List Members) (draft : ServicesDraft) → ServicesSoFar all [] draft.services draft.spelled → AreServicesOf all draft
all_services all draft far =
    let ended : rules_seen draft.services ++ [] ≡ rules_seen draft.services = append-nil (rules_seen draft.services) in
    let seen : services_with (services_of 0 all) (rules_seen draft.services) ≡ services_seen draft.services ++ [] = rw ended at (far.seen []) in
    record {
      seen = sym (seen ∙ append-nil (services_seen draft.services));
      rules = record {
        all = λ spells. rw ended at (far.forth spells [] tt);
        only = λ whole are. let found = far.back whole are in (found.0, last_lists (rules_seen draft.services) whole found.1.0 found.1.1 found.1.2);
      };
      valid = far.valid;
      count = omega (arith, far.count);
    }

pub no_fault_of_all : (all : List Members) (list : List Service) (spelled : Bool) → ServicesSoFar all [] list spelled → services_fault all ≡ None
no_fault_of_all all list spelled far = far.fault

-- the tables of one item more
pub tables_more : (s : List Value) (i : ℕ) (v : Value) (m : Members) → i < length s → v ≡ get_or s i v → Some m ≡ as_table (view v)
    → tables_of (views (drop i s)) ≡ m ∷ tables_of (views (drop (i + 1) s))
tables_more s i v m within is table_is = rw (drop_more s i v within, ← is, ← table_is)

pub tables_same : (s : List Value) (i : ℕ) (v : Value) → i < length s → v ≡ get_or s i v → None ≡ as_table (view v)
    → tables_of (views (drop i s)) ≡ tables_of (views (drop (i + 1) s))
tables_same s i v within is none = rw (drop_more s i v within, ← is, ← none)

pub tables_end : (s : List Value) (i : ℕ) → length s ≤ i → tables_of (views (drop i s)) ≡ []
tables_end s i past = rw (drop_all i s past)

more_within : (o : Option Members) (ms : List Members) (n : ℕ) → length ms ≤ n → length (cons_option o ms) ≤ n + 1
more_within None ms n within = omega arith
more_within (Some m) ms n within = omega arith

tables_within : (ds : List Data) → length (tables_of ds) ≤ length ds
tables_within [] = omega arith
tables_within (d ∷ ds) = let more = more_within (as_table d) (tables_of ds) (length ds) (tables_within ds) in omega arith

-- there are no more tables than items
pub tables_fit : (s : List Value) → length s ≤ 64 → length (tables_of (views s)) ≤ 64
tables_fit s few = omega (arith, tables_within (views s), length-map s view)
