use Rattle.std.proofs.Common.{ap, inl, Some, Err}
use Rattle.settings_keys.specs.Keys.{fault_seen}
use Rattle.settings_load.specs.Settings.{Refusal, refused}
use Rattle.plan.specs.PlanView.{plan_fields}
use Rattle.settings_load.proofs.Answers.{gives_a_plan, gives_its_fault, too_long_as, known_as}
use Rattle.settings_load.proofs.load.load_plan.Goals as goal

pub returns-in-Ok-read_plan-clause-fails : goal.returns-in-Ok-read_plan-clause-fails
returns-in-Ok-read_plan-clause-fails g c = λ bytes refusal is refuses.
    gives_a_plan ((g.S.Shelf.told c.load.new.self).file c.args.name.now) c.in-Ok.bytes.items bytes (plan_fields c.in-Ok-read_plan.plan) refusal
    c.in-Ok.ensures.read c.in-Ok.ensures.short (rw (← c.deref.ensures.value) c.in-Ok-read_plan.ensures.read) is refuses

pub returns-in-Err-Fault-clause-fails : goal.returns-in-Err-Fault-clause-fails
returns-in-Err-Fault-clause-fails g c = λ bytes refusal is refuses.
    let refused_for = rw c.in-Err-Fault.field-0-is at c.in-Err-Fault.ensures.refused in
    inl (ap (λ (r : Refusal). Some r) (gives_its_fault ((g.S.Shelf.told c.load.new.self).file c.args.name.now) c.in-Ok.bytes.items bytes (fault_seen c.in-Err-Fault.fault) refusal
    c.in-Ok.ensures.read c.in-Ok.ensures.short (rw (← c.deref.ensures.value) refused_for) is refuses))

pub returns-in-Err-TooLong-clause-refused : goal.returns-in-Err-TooLong-clause-refused
returns-in-Err-TooLong-clause-refused g c = too_long_as ((g.S.Shelf.told c.load.new.self).file c.args.name.now) (c.in-Err-TooLong.ensures.too_long (ap (λ x. Err x) c.in-Err-TooLong.field-0-is))

pub returns-in-Err-Fault-clause-refused : goal.returns-in-Err-Fault-clause-refused
returns-in-Err-Fault-clause-refused g c =
    let refused_for = rw c.in-Err-Fault.field-0-is at c.in-Err-Fault.ensures.refused in
    known_as ((g.S.Shelf.told c.load.new.self).file c.args.name.now) c.in-Ok.bytes.items (refused (fault_seen c.in-Err-Fault.fault)) c.in-Ok.ensures.read
    (c.in-Ok.ensures.short, rw (← c.deref.ensures.value) refused_for)
