use Rattle.settings_spec.specs.Keys.{is_text}
use Rattle.settings_keys.proofs.ListLemmas.{all_there, none_there}
use Rattle.settings_keys.proofs.lists.text_list.Goals as goal

pub returns-in-None : goal.returns-in-None
returns-in-None c = record { read = none_there is_text _ c.in-None.ensures }

pub returns-then-are_texts : goal.returns-then-are_texts
returns-then-are_texts c = record { read = all_there is_text c.in-Some.items.now _ _ _ c.in-Some.ensures c.as_slice-items.ensures.value c.if-are_texts.ensures.read }

pub returns-else-are_texts : goal.returns-else-are_texts
returns-else-are_texts c = record { read = all_there is_text c.in-Some.items.now _ _ _ c.in-Some.ensures c.as_slice-items.ensures.value c.if-are_texts.ensures.read }
