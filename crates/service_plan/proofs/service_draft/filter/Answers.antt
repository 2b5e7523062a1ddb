use Rattle.std.proofs.Common.{refl, ap, sym, ◌∙◌}
use Rattle.settings_spec.specs.Keys.{is_text, as_list}
use Rattle.settings_spec.specs.Settings.{filter_key}
use Rattle.settings_keys.specs.Lists.{macs_of}
use Rattle.service_plan.proofs.KeyLemmas.{no_fault_absent, no_fault_there, fault_ranged, items_absent, held}
use Rattle.settings_keys.proofs.ListLemmas.{listed_items, listed_type, items_there}
use Rattle.service_plan.proofs.service_draft.filter.Goals as goal

pub returns-in-Ok-None : goal.returns-in-Ok-None
returns-in-Ok-None c =
    let absent = rw c.in-Ok-None.field-0-is at c.in-Ok-None.ensures.there in
    record { read = (no_fault_absent filter_key _ absent refl, c.new.ensures.written ∙ ap macs_of (sym (items_absent _ _ absent))) }

pub returns-in-Some : goal.returns-in-Some
returns-in-Some c =
    let there = rw c.in-Ok-Some.field-0-is at c.in-Ok-Some.ensures.there in
    let all = rw c.in-Some.is at c.in_ok-list.ensures.read in
    let items = listed_items is_text (as_list there.value) _ there.list in
    record {
      read = (
        no_fault_there filter_key _ there.value there.is (listed_type is_text (as_list there.value) _ there.list) (held _ _ _ _ (sym items) (sym all.0)),
        all.1 ∙ ap macs_of (items_there _ _ there.value _ there.is items),
      );
    }

pub returns-in-None : goal.returns-in-None
returns-in-None c =
    let there = rw c.in-Ok-Some.field-0-is at c.in-Ok-Some.ensures.there in
    let none = rw c.in-None.is at c.in_ok-list.ensures.read in
    let items = listed_items is_text (as_list there.value) _ there.list in
    record {
      read = fault_ranged filter_key _ there.value there.is (listed_type is_text (as_list there.value) _ there.list) (held _ _ _ _ (sym items) (sym none));
    }
