use Rattle.settings_spec.specs.Keys.{is_table}
use Rattle.settings_keys.proofs.ListLemmas.{all_there, none_there}
use Rattle.settings_keys.proofs.lists.table_list.Goals as goal

pub returns-in-None : goal.returns-in-None
returns-in-None c = record { read = none_there is_table _ c.in-None.ensures }

pub returns-then-are_tables : goal.returns-then-are_tables
returns-then-are_tables c = record { read = all_there is_table c.in-Some.items.now _ _ _ c.in-Some.ensures c.as_slice-items.ensures.value c.if-are_tables.ensures.read }

pub returns-else-are_tables : goal.returns-else-are_tables
returns-else-are_tables c = record { read = all_there is_table c.in-Some.items.now _ _ _ c.in-Some.ensures c.as_slice-items.ensures.value c.if-are_tables.ensures.read }
