use Rattle.std.proofs.Common.{refl, ap, sym, is_some}
use Rattle.settings_keys.proofs.KeyLemmas.{no_fault_absent, fault_typed, no_fault_there, flag_absent, flag_there}
use Rattle.settings_keys.proofs.values.flag.Goals as goal

pub returns-in-None : goal.returns-in-None
returns-in-None c =
    let absent = c.in-None.ensures.found in
    record { read = (no_fault_absent _ _ absent refl, flag_absent _ _ _ absent) }

pub returns-in-Some-as_bool : goal.returns-in-Some-as_bool
returns-in-Some-as_bool c =
    let there = c.in-Some.ensures.found in
    let is = c.in-Some-as_bool.ensures in
    record { read = (no_fault_there _ _ _ there (ap is_some (sym is)) refl, flag_there _ _ _ _ _ there is) }

pub returns-in-None-as_bool : goal.returns-in-None-as_bool
returns-in-None-as_bool c = record { read = fault_typed _ _ _ c.in-Some.ensures.found (ap is_some (sym c.in-None-as_bool.ensures)) }
