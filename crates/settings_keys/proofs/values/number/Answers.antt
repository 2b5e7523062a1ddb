use Rattle.std.proofs.Common.{rules, refl, ap, sym, is_some}
use Rattle.plan_spec.specs.Checks.{is_between}
use Rattle.settings_keys.proofs.KeyLemmas.{no_fault_absent, fault_absent, fault_typed, fault_ranged, no_fault_there, number_absent, number_there, natural_there, natural_within, natural_outside}
use Rattle.std.proofs.Common.{w64, SFits}
use Rattle.std.proofs.lemmas.Int.{to_z-of_z}
use Rattle.settings_keys.proofs.values.number.Goals as goal

pub returns-in-Some-default-clause-read : goal.returns-in-Some-default-clause-read
returns-in-Some-default-clause-read c =
    let absent = c.in-None.ensures.found in
    rw c.in-Some-default.is (no_fault_absent _ _ absent refl, number_absent _ _ _ absent)

pub returns-in-None-default-clause-read : goal.returns-in-None-default-clause-read
returns-in-None-default-clause-read c = rw c.in-None-default.is (fault_absent _ _ c.in-None.ensures.found refl)

pub returns-in-None-as_integer-clause-read : goal.returns-in-None-as_integer-clause-read
returns-in-None-as_integer-clause-read c = fault_typed _ _ _ c.in-Some.ensures.found (ap is_some (sym c.in-None-as_integer.ensures))

pub returns-in-Some-between-clause-read : goal.returns-in-Some-between-clause-read
returns-in-Some-between-clause-read c =
    let there = c.in-Some.ensures.found in
    let is = c.in-Some-as_integer.ensures in
    let fits : SFits w64 c.in-Some-as_integer.number = search rules in
    let range = simp to_z-of_z at c.in-Some-between.ensures.read in (
      no_fault_there _ _ _ there (ap is_some (sym is)) (natural_within (is_between c.args.least c.args.most) _ _ _ is range),
      number_there _ _ _ _ _ there (natural_there (is_between c.args.least c.args.most) _ _ _ is range),
    )

pub returns-in-None-between-clause-read : goal.returns-in-None-between-clause-read
returns-in-None-between-clause-read c =
    let is = c.in-Some-as_integer.ensures in
    let fits : SFits w64 c.in-Some-as_integer.number = search rules in
    let range = simp to_z-of_z at c.in-None-between.ensures.read in
    fault_ranged _ _ _ c.in-Some.ensures.found (ap is_some (sym is)) (natural_outside (is_between c.args.least c.args.most) _ _ is range)
