use Rattle.std.proofs.Common.{refl}
use Rattle.toml.specs.View.{view}
use Rattle.settings_spec.specs.Keys.{is_table, as_list}
use Rattle.settings_keys.proofs.KeyLemmas.{fault_absent, fault_typed, fault_ranged, no_fault_there}
use Rattle.settings_keys.proofs.ListLemmas.{listed_items, listed_type, unlisted_type, items_there, counted, listed_all}
use Rattle.settings_keys.proofs.lists.table_items.Goals as goal

pub returns-in-None-clause-read : goal.returns-in-None-clause-read
returns-in-None-clause-read c = fault_absent _ _ c.in-None.ensures.found refl

pub returns-in-None-table_list-clause-read : goal.returns-in-None-table_list-clause-read
returns-in-None-table_list-clause-read c =
    let d = view c.in-Some.value.now in
    fault_typed _ _ d c.in-Some.ensures.found (unlisted_type is_table (as_list d) c.in-None-table_list.ensures.read)

pub returns-then-is_count-clause-read : goal.returns-then-is_count-clause-read
returns-then-is_count-clause-read c =
    let there = c.in-Some.ensures.found in
    let list = c.in-Some-table_list.ensures.read in
    let d = view c.in-Some.value.now in
    let items = listed_items is_table (as_list d) _ list in
    (no_fault_there _ _ d there (listed_type is_table (as_list d) _ list) (counted _ d _ _ items c.if-is_count.ensures.read), items_there _ _ d _ there items)

pub returns-else-is_count-clause-read : goal.returns-else-is_count-clause-read
returns-else-is_count-clause-read c =
    let list = c.in-Some-table_list.ensures.read in
    let d = view c.in-Some.value.now in
    let items = listed_items is_table (as_list d) _ list in
    fault_ranged _ _ d c.in-Some.ensures.found (listed_type is_table (as_list d) _ list) (counted _ d _ _ items c.if-is_count.ensures.read)

pub returns-then-is_count-clause-all : goal.returns-then-is_count-clause-all
returns-then-is_count-clause-all c = listed_all is_table (as_list (view c.in-Some.value.now)) _ c.in-Some-table_list.ensures.read
