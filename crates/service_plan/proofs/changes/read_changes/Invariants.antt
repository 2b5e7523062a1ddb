use Rattle.std.proofs.Common.{drop}
use Rattle.plan.specs.Parts.{services_seen}
use Rattle.settings_keys.specs.Lists.{views, tables_of}
use Rattle.service_plan.proofs.ChangeLemmas.{ChangesSoFar}
use Rattle.service_plan.proofs.changes.read_changes.Given as goal

abbrev pub invariant-loop-item : goal.invariant-loop-item
invariant-loop-item l = ChangesSoFar (services_seen l.services) (tables_of (views l.items)) (tables_of (views (drop l.item-index l.items))) l.changes l.spelled
