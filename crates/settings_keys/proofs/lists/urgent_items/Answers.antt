use Rattle.std.proofs.Common.{codes, refl, sym}
use Rattle.toml.specs.View.{view}
use Rattle.settings_spec.specs.Keys.{is_text, as_list}
use Rattle.settings_keys.proofs.KeyLemmas.{no_fault_absent, fault_typed, no_fault_there, items_absent}
use Rattle.settings_keys.proofs.ListLemmas.{listed_items, listed_type, unlisted_type, items_there}
use Rattle.settings_keys.proofs.lists.urgent_items.Goals as goal

pub returns-in-None : goal.returns-in-None
returns-in-None c = record { read = (no_fault_absent _ _ c.in-None.ensures.found refl, sym (items_absent (codes "urgent") _ c.in-None.ensures.found)) }

pub returns-in-Some-text_list : goal.returns-in-Some-text_list
returns-in-Some-text_list c =
    let there = c.in-Some.ensures.found in
    let list = c.in-Some-text_list.ensures.read in
    let d = view c.in-Some.value.now in
    record {
      read = (no_fault_there _ _ d there (listed_type is_text (as_list d) _ list) refl, items_there _ _ d _ there (listed_items is_text (as_list d) _ list));
    }

pub returns-in-None-text_list : goal.returns-in-None-text_list
returns-in-None-text_list c =
    let d = view c.in-Some.value.now in
    record { read = fault_typed _ _ d c.in-Some.ensures.found (unlisted_type is_text (as_list d) c.in-None-text_list.ensures.read) }
