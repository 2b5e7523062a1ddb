use Rattle.std.proofs.Common.{drop}
use Rattle.settings_keys.specs.Lists.{views, tables_of}
use Rattle.plan.specs.Moves.{services_after}
use Rattle.service_plan.proofs.ChangeLemmas.{MovesSoFar}
use Rattle.service_plan.proofs.changes.read_moves.Given as goal

abbrev pub invariant-loop-item : goal.invariant-loop-item
invariant-loop-item l = MovesSoFar (services_after l.services l.before) (tables_of (views l.items)) (tables_of (views (drop l.item-index l.items))) l.moved l.spelled
