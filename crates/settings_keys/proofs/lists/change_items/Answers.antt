use Rattle.std.proofs.Common.{codes, refl, sym}
use Rattle.settings_spec.specs.Keys.{tables}
use Rattle.settings_keys.proofs.KeyLemmas.{no_fault_absent, fault_of_some, items_absent}
use Rattle.settings_keys.proofs.lists.change_items.Goals as goal

pub returns-in-Some : goal.returns-in-Some
returns-in-Some c = record { read = rw (fault_of_some (codes "change") (tables 31) _ _ c.in-Some.ensures.found) c.table_items.ensures.read }

pub returns-in-None : goal.returns-in-None
returns-in-None c = record { read = (no_fault_absent _ _ c.in-None.ensures.found refl, sym (items_absent (codes "change") _ c.in-None.ensures.found)) }
