-- The top table of accepted settings has values in their ranges.
use Rattle.std.specs.Prelude.{nat_le}
use Rattle.std.proofs.Common.{◌≡◌, ◌⊎◌, inl, inr, ℕ, suc, ◌+◌, ◌≤◌, Bool, true, false, cond, ◌&&◌, leb, List, [], ◌∷◌, length, Option, Some, None, is_some, option_map, codes, refl, ap, sym, ◌∙◌, arith}
use Rattle.std.specs.List.{list_all, filter_map, cons_option}
use Rattle.std.specs.Option.{unwrap_or, option_and_then}
use Rattle.std.proofs.lemmas.Bool.{and_parts, leb-true}
use Rattle.toml.specs.Data.{Data, Members, get_member, as_table}
use Rattle.addr_rules.specs.declared.rules.Rule.{Rule}
use Rattle.plan_spec.specs.Plan.{ServiceFields, ChangeFields, PlanFields, is_baseband, ServiceRules, services_with, with_rules}
use Rattle.plan_spec.specs.Checks.{is_between}
use Rattle.settings_spec.specs.Keys.{wrong_type, out_of_range, range, one_table, tables, as_list, is_table, has_type, in_range, holds, optional, required, key_fault, value_fault, unknown_fault, keys_fault, items_at, number_or, tables_at, table_at}
use Rattle.settings_spec.specs.Settings.{says_baseband, int_key, service_key, change_key, top_keys, top_names, top_fault, int_keys, int_fault, services_fault, changes_fault, tables_fault, int_of, services_of, plan_of}
use Rattle.plan_spec.specs.Valid.{is_valid_int, is_valid_frame_size, most_services, has_valid_top}
use Rattle.settings_law.proofs.Keys.{first_none, key_of_keys, key_of_table, passed, number_between}
use Rattle.settings_law.proofs.Services.{both_true}

-- The services.

-- as many tables as items, where each is a table
all_tables : (items : List Data) → list_all is_table items ≡ true → length (filter_map as_table items) ≡ length items
all_tables [] all = refl
all_tables (item ∷ items) all = by_item (as_table item) (and_parts (is_table item) (list_all is_table items) all).0 (all_tables items (and_parts (is_table item) (list_all is_table items) all).1)
  where
    by_item : (o : Option Members) → is_some o ≡ true → length (filter_map as_table items) ≡ length items → length (cons_option o (filter_map as_table items)) ≡ suc (length items)
    by_item None is rest = absurd (cc)
    by_item (Some m) is rest = ap suc rest

-- their number
pub count_holds : (most : ℕ) (key : List ℕ) (m : Members) → key_fault (record { name = key; is_required = true; values = tables most }) m ≡ None
    → is_between 1 most (length (tables_at key m)) ≡ true
unfolding key_fault items_at
count_holds most key m none = by_value (get_member key m) none
  where
    by_list : (o : Option (List Data)) → holds (list_all is_table) o ≡ true → holds (λ items. is_between 1 most (length items)) o ≡ true
        → is_between 1 most (length (filter_map as_table (unwrap_or o []))) ≡ true
    by_list None typed ranged = absurd (cc)
    by_list (Some items) typed ranged = ap (is_between 1 most) (all_tables items typed) ∙ ranged

    by_value : (o : Option Data) → value_fault (record { name = key; is_required = true; values = tables most }) o ≡ None
        → is_between 1 most (length (filter_map as_table (unwrap_or (option_and_then as_list o) []))) ≡ true
    by_value None is = absurd (cc)
    by_value (Some d) is =
        let tests = passed (has_type (tables most) d) (in_range (tables most) d) (wrong_type key) (out_of_range key) is in
        by_list (as_list d) tests.0 tests.1

pub length-services_of : (place : ℕ) (ms : List Members) → length (services_of place ms) ≡ length ms
length-services_of place [] = refl
length-services_of place (m ∷ ms) = ap suc (length-services_of (place + 1) ms)

length-services_with : (services : List ServiceFields) (lists : List (ServiceRules Rule)) → length (services_with services lists) ≡ length services
length-services_with [] lists = refl
length-services_with (service ∷ services) [] = refl
length-services_with (service ∷ services) (rules ∷ lists) = ap suc (length-services_with services lists)

-- The INT.

int_key_holds : (most : ℕ) (key : List ℕ) (m : Members) → key_fault (required key (range 0 most)) m ≡ None → is_between 0 most (number_or 0 key m) ≡ true
int_key_holds most key m none = number_between 0 most 0 key true m none (λ never. absurd (cc))

int_holds : (o : Option Members) → int_fault o ≡ None → is_valid_int (option_map int_of o) ≡ true
unfolding int_fault
int_holds None none = refl
int_holds (Some m) none =
    both_true (is_between 32 8190 (number_or 0 (codes "pid") m)) _
    (number_between 32 8190 0 (codes "pid") true m (key_of_table int_keys (required (codes "pid") (range 32 8190)) m none (inl refl)) (λ never. absurd (cc)))
    (both_true (is_between 0 16777215 (number_or 0 (codes "platform_id") m)) _
    (int_key_holds 16777215 (codes "platform_id") m (key_of_table int_keys (required (codes "platform_id") (range 0 16777215)) m none (inr (inl refl))))
    (both_true (is_between 0 65535 (number_or 0 (codes "network_id") m)) _
    (int_key_holds 65535 (codes "network_id") m (key_of_table int_keys (required (codes "network_id") (range 0 65535)) m none (inr (inr (inl refl)))))
    (both_true (is_between 0 65535 (number_or 0 (codes "original_network_id") m)) (is_between 0 65535 (number_or 0 (codes "transport_stream_id") m))
    (int_key_holds 65535 (codes "original_network_id") m (key_of_table int_keys (required (codes "original_network_id") (range 0 65535)) m none (inr (inr (inr (inl refl))))))
    (int_key_holds 65535 (codes "transport_stream_id") m (key_of_table int_keys (required (codes "transport_stream_id") (range 0 65535)) m none (inr (inr (inr (inr (inl refl))))))))))

-- The top table.

-- nothing is wrong with the parts
pub record PartsHold (top : Members) : Type 0 where
  pub table : keys_fault (top_keys top) top ≡ None
  pub int : int_fault (table_at (codes "int") top) ≡ None
  pub services : services_fault (tables_at (codes "service") top) ≡ None
  pub list : key_fault change_key top ≡ None
  pub changes : changes_fault (tables_at (codes "change") top) ≡ None

pub parts_hold : (top : Members) → tables_fault top ≡ None → PartsHold top
unfolding tables_fault
parts_hold top none =
    let first = first_none (top_fault top) _ none in
    let keys = first_none (unknown_fault (top_names top) top) (keys_fault (top_keys top) top) first.0 in
    let second = first_none (int_fault (table_at (codes "int") top)) _ first.1 in
    let third = first_none (services_fault (tables_at (codes "service") top)) _ second.1 in
    let fourth = first_none (key_fault change_key top) (changes_fault (tables_at (codes "change") top)) third.1 in
    record { table = keys.1; int = second.0; services = third.0; list = fourth.0; changes = fourth.1 }

-- the number of services is in its range, by the carrier
service_count : (top : Members) → PartsHold top → is_between 1 (cond (says_baseband top) 16 64) (length (tables_at (codes "service") top)) ≡ true
service_count top parts =
    count_holds (cond (says_baseband top) 16 64) (codes "service") top (key_of_keys (top_keys top) (service_key top) top parts.table (inr (inr (inr (inr (inr (inr (inl refl))))))))

pub services_few : (top : Members) → PartsHold top → length (tables_at (codes "service") top) ≤ 64
services_few top parts = by_carrier (says_baseband top) (service_count top parts)
  where
    by_carrier : (b : Bool) → is_between 1 (cond b 16 64) (length (tables_at (codes "service") top)) ≡ true → length (tables_at (codes "service") top) ≤ 64
    by_carrier true is = omega (arith, leb-true (length (tables_at (codes "service") top)) 16 (and_parts (leb 1 (length (tables_at (codes "service") top))) _ is).1)
    by_carrier false is = leb-true (length (tables_at (codes "service") top)) 64 (and_parts (leb 1 (length (tables_at (codes "service") top))) _ is).1

-- all values
pub top_holds : (top : Members) (lists : List (ServiceRules Rule)) → PartsHold top → has_valid_top (with_rules (plan_of top) lists) ≡ true
unfolding has_valid_top plan_of
top_holds top lists parts =
    both_true (is_between 1 1000000 (number_or 10000 (codes "packet_rate") top)) _
    (number_between 1 1000000 10000 (codes "packet_rate") false top
    (key_of_keys (top_keys top) (optional (codes "packet_rate") (range 1 1000000)) top parts.table (inr (inr (inl refl)))) (λ never. refl))
    (both_true (is_between 100 1000000 (number_or 20000 (codes "cycle") top)) _
    (number_between 100 1000000 20000 (codes "cycle") false top
    (key_of_keys (top_keys top) (optional (codes "cycle") (range 100 1000000)) top parts.table (inr (inr (inr (inl refl))))) (λ never. refl))
    (by_carrier (says_baseband top) count))
  where
    frame : ℕ
    frame = number_or 2000 (codes "frame_bytes") top

    frame_is : is_between 300 7274 frame ≡ true
    frame_is =
        number_between 300 7274 2000 (codes "frame_bytes") false top
        (key_of_keys (top_keys top) (optional (codes "frame_bytes") (range 300 7274)) top parts.table (inr (inr (inr (inr (inl refl)))))) (λ never. refl)

    services : List ServiceFields
    services = services_with (services_of 0 (tables_at (codes "service") top)) lists

    count : is_between 1 (cond (says_baseband top) 16 64) (length services) ≡ true
    count =
        ap (is_between 1 (cond (says_baseband top) 16 64))
        (length-services_with (services_of 0 (tables_at (codes "service") top)) lists ∙ length-services_of 0 (tables_at (codes "service") top))
        ∙ service_count top parts

    by_carrier : (b : Bool) → is_between 1 (cond b 16 64) (length services) ≡ true
        → (is_valid_frame_size (cond b (Some frame) None)
        && (is_valid_int (option_map int_of (table_at (codes "int") top)) && (is_between 1 (most_services (is_some (cond b (Some frame) None))) (length services) && true))) ≡ true
    by_carrier true is =
        both_true (is_between 300 7274 frame) _ frame_is
        (both_true (is_valid_int (option_map int_of (table_at (codes "int") top))) (is_between 1 16 (length services) && true) (int_holds (table_at (codes "int") top) parts.int)
        (both_true (is_between 1 16 (length services)) true is refl))
    by_carrier false is =
        both_true (is_valid_int (option_map int_of (table_at (codes "int") top))) (is_between 1 64 (length services) && true) (int_holds (table_at (codes "int") top) parts.int)
        (both_true (is_between 1 64 (length services)) true is refl)

-- Changes.

-- a list that may be left out has so many tables at most
pub count_if_any : (most : ℕ) (key : List ℕ) (m : Members) → key_fault (optional key (tables most)) m ≡ None → length (tables_at key m) ≤ most
unfolding key_fault items_at
count_if_any most key m none = by_value (get_member key m) none
  where
    by_list : (o : Option (List Data)) → holds (list_all is_table) o ≡ true → holds (λ items. is_between 1 most (length items)) o ≡ true
        → length (filter_map as_table (unwrap_or o [])) ≤ most
    by_list None typed ranged = absurd (cc)
    by_list (Some items) typed ranged =
        omega (arith, all_tables items typed, leb-true (length items) most (and_parts (leb 1 (length items)) (leb (length items) most) ranged).1)

    by_value : (o : Option Data) → value_fault (optional key (tables most)) o ≡ None → length (filter_map as_table (unwrap_or (option_and_then as_list o) [])) ≤ most
    by_value None is = omega arith
    by_value (Some d) is =
        let tests = passed (has_type (tables most) d) (in_range (tables most) d) (wrong_type key) (out_of_range key) is in
        by_list (as_list d) tests.0 tests.1

-- where there is a change there is an INT
pub int_is_there : (top : Members) → PartsHold top → (length (tables_at (codes "change") top) ≡ 0) ⊎ (is_some (table_at (codes "int") top) ≡ true)
unfolding key_fault items_at table_at
int_is_there top parts = by_change (get_member (codes "change") top) refl
  where
    signalled : key_fault (int_key top) top ≡ None
    signalled = key_of_keys (top_keys top) (int_key top) top parts.table (inr (inr (inr (inr (inr (inl refl))))))

    by_int : (o : Option Data) → value_fault (record { name = codes "int"; is_required = true; values = one_table }) o ≡ None → is_some (option_and_then as_table o) ≡ true
    by_int None is = absurd (cc)
    by_int (Some d) is = (passed (is_table d) true (wrong_type (codes "int")) (out_of_range (codes "int")) is).0

    by_change : (o : Option Data) → get_member (codes "change") top ≡ o
        → (length (filter_map as_table (unwrap_or (option_and_then as_list (get_member (codes "change") top)) [])) ≡ 0)
        ⊎ (is_some (option_and_then as_table (get_member (codes "int") top)) ≡ true)
    by_change None is = inl (ap (λ (o : Option Data). length (filter_map as_table (unwrap_or (option_and_then as_list o) []))) is)
    by_change (Some d) is =
        inr (by_int (get_member (codes "int") top)
        (sym (ap (λ (o : Option Data). value_fault (record { name = codes "int"; is_required = is_some o; values = one_table }) (get_member (codes "int") top)) is) ∙ signalled))

-- the top values hold of the plan with other services, as many, of another version
pub top_again : (plan : PlanFields) (services : List ServiceFields) (version : ℕ) (changes : List ChangeFields) → has_valid_top plan ≡ true
    → length services ≡ length plan.services → nat_le version 31 ≡ true → has_valid_top (record plan { services = services; version = version; changes = changes }) ≡ true
unfolding has_valid_top
top_again plan services version changes valid same few =
    let rate = and_parts (is_between 1 1000000 plan.packet_rate) _ valid in
    let cycle = and_parts (is_between 100 1000000 plan.cycle) _ rate.1 in
    let frame = and_parts (is_valid_frame_size plan.frame_bytes) _ cycle.1 in
    let int = and_parts (is_valid_int plan.table) _ frame.1 in
    let count = and_parts (is_between 1 (most_services (is_baseband plan)) (length plan.services)) (nat_le plan.version 31) int.1 in
    both_true (is_between 1 1000000 plan.packet_rate) _ rate.0
    (both_true (is_between 100 1000000 plan.cycle) _ cycle.0
    (both_true (is_valid_frame_size plan.frame_bytes) _ frame.0
    (both_true (is_valid_int plan.table) _ int.0
    (both_true (is_between 1 (most_services (is_baseband plan)) (length services)) (nat_le version 31)
    (ap (is_between 1 (most_services (is_baseband plan))) same ∙ count.0) few))))
