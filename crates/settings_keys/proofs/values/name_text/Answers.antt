use Rattle.std.proofs.Common.{refl, ap, sym, is_some}
use Rattle.settings_keys.proofs.KeyLemmas.{fault_absent, fault_typed, fault_ranged, no_fault_there, text_there, held}
use Rattle.settings_keys.proofs.values.name_text.Goals as goal

pub returns-in-None-clause-read : goal.returns-in-None-clause-read
returns-in-None-clause-read c = fault_absent _ _ c.in-None.ensures.found refl

pub returns-in-None-as_str-clause-read : goal.returns-in-None-as_str-clause-read
returns-in-None-as_str-clause-read c = fault_typed _ _ _ c.in-Some.ensures.found (ap is_some (sym c.in-None-as_str.ensures))

pub returns-then-is_name-clause-read : goal.returns-then-is_name-clause-read
returns-then-is_name-clause-read c =
    let there = c.in-Some.ensures.found in
    let is = c.in-Some-as_str.ensures in
    (no_fault_there _ _ _ there (ap is_some (sym is)) (held _ _ _ _ is c.if-is_name.ensures.read), text_there _ _ _ _ _ there is)

pub returns-else-is_name-clause-read : goal.returns-else-is_name-clause-read
returns-else-is_name-clause-read c =
    let is = c.in-Some-as_str.ensures in
    fault_ranged _ _ _ c.in-Some.ensures.found (ap is_some (sym is)) (held _ _ _ _ is c.if-is_name.ensures.read)
