-- The entries of the services so far.
use Rattle.std.proofs.Common.{◌≡◌, map, take}
use Rattle.std.specs.Prelude.{All}
use Rattle.int_spec.specs.Table.{IsRule}
use Rattle.plan_spec.specs.Plan.{ServiceFields}
use Rattle.plan_spec.specs.Changes.{plan_in, services_in}
use Rattle.plan_spec.specs.Signalling.{table_of, entry_of}
use Rattle.plan.specs.Parts.{int_seen}
use Rattle.plan.specs.PlanView.{plan_fields}
use Rattle.ts_mux.proofs.plan_int.table_of.Given as goal

abbrev pub invariant-loop-place : goal.invariant-loop-place
invariant-loop-place l = record {
  entries : l.table ≡ record (table_of (plan_in (plan_fields l.plan) l.version) (int_seen l.int)) { entries = map (entry_of l.plan.packet_rate) (take l.place (services_in (plan_fields l.plan) l.version)) };
  rules : All (All IsRule) (map (λ (service : ServiceFields). service.rules) (take l.place (services_in (plan_fields l.plan) l.version)));
}
