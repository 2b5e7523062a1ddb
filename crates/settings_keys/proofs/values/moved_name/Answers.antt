use Rattle.std.proofs.Common.{refl, ap, sym, is_some}
use Rattle.settings_keys.proofs.KeyLemmas.{fault_absent, fault_typed, no_fault_there, text_there}
use Rattle.settings_keys.proofs.values.moved_name.Goals as goal

pub returns-in-None : goal.returns-in-None
returns-in-None c = record { read = fault_absent _ _ c.in-None.ensures.found refl }

pub returns-in-Some-as_str : goal.returns-in-Some-as_str
returns-in-Some-as_str c =
    let there = c.in-Some.ensures.found in
    let is = c.in-Some-as_str.ensures in
    record { read = (no_fault_there _ _ _ there (ap is_some (sym is)) refl, text_there _ _ _ _ _ there is) }

pub returns-in-None-as_str : goal.returns-in-None-as_str
returns-in-None-as_str c = record { read = fault_typed _ _ _ c.in-Some.ensures.found (ap is_some (sym c.in-None-as_str.ensures)) }
