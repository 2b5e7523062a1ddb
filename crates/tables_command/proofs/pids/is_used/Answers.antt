use Rattle.std.proofs.Common.{refl, ◌∙◌, sym}
use Rattle.tables_command.proofs.Used.{is_among-used}
use Rattle.tables_command.proofs.pids.is_used.Goals as goal

pub returns-then-has_service : goal.returns-then-has_service
returns-then-has_service c = sym (is_among-used c.args.plan.now c.args.pid ∙ rw (← c.if-has_int.ensures, ← c.items.ensures.read, ← c.if-has_service.ensures) refl)

pub returns : goal.returns
returns c =
    sym (is_among-used c.args.plan.now c.args.pid ∙ rw (← c.if-has_int.ensures, ← c.items.ensures.read, ← c.if-has_service.ensures, ← c.items-2.ensures.read, ← c.has_change.ensures) refl)
