use Rattle.toml.specs.View.{view}
use Rattle.settings_spec.specs.Keys.{is_text, as_list}
use Rattle.settings_keys.proofs.KeyLemmas.{fault_typed}
use Rattle.settings_keys.proofs.ListLemmas.{unlisted_type}
use Rattle.settings_keys.proofs.lists.filter_items.Goals as goal

pub returns-in-Some-text_list-clause-there : goal.returns-in-Some-text_list-clause-there
returns-in-Some-text_list-clause-there c = record { value = view c.in-Some.value.now; is = c.in-Some.ensures.found; list = c.in-Some-text_list.ensures.read }

pub returns-in-None-text_list-clause-fault : goal.returns-in-None-text_list-clause-fault
returns-in-None-text_list-clause-fault c =
    let d = view c.in-Some.value.now in
    fault_typed _ _ d c.in-Some.ensures.found (unlisted_type is_text (as_list d) c.in-None-text_list.ensures.read)
