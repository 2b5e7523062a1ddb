use Rattle.std.proofs.Common.{refl, ap, sym, is_some}
use Rattle.settings_keys.proofs.KeyLemmas.{no_fault_absent, fault_typed, fault_ranged, no_fault_there, address_absent, address_there, held}
use Rattle.settings_keys.proofs.values.unicast.Goals as goal

pub returns-in-None : goal.returns-in-None
returns-in-None c =
    let absent = c.in-None.ensures.found in
    record { read = (no_fault_absent _ _ absent refl, address_absent _ _ _ absent) }

pub returns-in-None-as_str : goal.returns-in-None-as_str
returns-in-None-as_str c = record { read = fault_typed _ _ _ c.in-Some.ensures.found (ap is_some (sym c.in-None-as_str.ensures)) }

pub returns-in-Some-parse_mac : goal.returns-in-Some-parse_mac
returns-in-Some-parse_mac c =
    let there = c.in-Some.ensures.found in
    let is = c.in-Some-as_str.ensures in
    let read = c.in-Some-parse_mac.ensures.read in
    record {
      read = (no_fault_there _ _ _ there (ap is_some (sym is)) (held _ _ _ _ is (ap is_some read)), address_there _ _ _ _ _ _ there is read);
    }

pub returns-in-None-parse_mac : goal.returns-in-None-parse_mac
returns-in-None-parse_mac c =
    let is = c.in-Some-as_str.ensures in
    record { read = fault_ranged _ _ _ c.in-Some.ensures.found (ap is_some (sym is)) (held _ _ _ _ is (ap is_some c.in-None-parse_mac.ensures.read)) }
