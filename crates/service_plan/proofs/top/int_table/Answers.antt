use Rattle.std.proofs.Common.{◌≡◌, Bool, Option, Some, None, option_map, is_some, refl, ap, sym, ◌∙◌}
use Rattle.toml.specs.View.{view, table_view}
use Rattle.settings_spec.specs.Settings.{int_key}
use Rattle.service_plan.proofs.KeyLemmas.{fault_absent, no_fault_absent, fault_typed, no_fault_there, table_absent, table_there}
use Rattle.service_plan.proofs.top.int_table.Goals as goal

-- a value that was found stands there, and no other
is_there : {X Y : Type 0} (f : X → Y) (found : Option X) (there : Option Y) (b : Bool) → option_map f found ≡ there → b ≡ is_some found → is_some there ≡ b
is_there f None there b same is = ap is_some (sym same) ∙ sym is
is_there f (Some x) there b same is = ap is_some (sym same) ∙ sym is

pub returns-then-is_some : goal.returns-then-is_some
returns-then-is_some c =
    let change = is_there _ _ _ _ c.find-in-None.ensures.found c.if-is_some.ensures in
    record { read = fault_absent (int_key (table_view c.args.top.now)) _ c.in-None.ensures.found change }

pub returns-in-None : goal.returns-in-None
returns-in-None c =
    let absent = c.in-None.ensures.found in
    let change = is_there _ _ _ _ c.find-in-None.ensures.found c.if-is_some.ensures in
    record { read = (no_fault_absent (int_key (table_view c.args.top.now)) _ absent change, table_absent _ _ absent) }

pub returns-in-Some-as_table : goal.returns-in-Some-as_table
returns-in-Some-as_table c =
    let there = c.in-Some.ensures.found in
    let d = view c.in-Some.value.now in
    let is = c.in-Some-as_table.ensures in
    record { read = (no_fault_there _ _ d there (ap is_some (sym is)) refl, table_there _ _ d _ there is) }

pub returns-in-None-as_table : goal.returns-in-None-as_table
returns-in-None-as_table c = record { read = fault_typed _ _ (view c.in-Some.value.now) c.in-Some.ensures.found (ap is_some (sym c.in-None-as_table.ensures)) }
