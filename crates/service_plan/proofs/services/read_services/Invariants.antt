use Rattle.std.proofs.Common.{drop}
use Rattle.settings_keys.specs.Lists.{views, tables_of}
use Rattle.service_plan.proofs.ServicesLemmas.{ServicesSoFar}
use Rattle.service_plan.proofs.services.read_services.Given as goal

abbrev pub invariant-loop-item : goal.invariant-loop-item
invariant-loop-item l = ServicesSoFar (tables_of (views l.items)) (tables_of (views (drop l.item-index l.items))) l.list l.spelled
