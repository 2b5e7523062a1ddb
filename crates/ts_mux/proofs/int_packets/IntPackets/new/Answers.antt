use Rattle.std.proofs.Common.{◌≡◌, ℕ, ◌+◌, ◌*◌, ◌%◌, List, [], ◌∷◌, length, true, arith, ap, refl, ◌∙◌, Option, None, Some}
use Rattle.std.specs.Option.{option_map}
use Rattle.section_spec.specs.Section.{section_form}
use Rattle.unit_stream.specs.Packing.{packetized}
use Rattle.plan_spec.specs.Plan.{IntFields}
use Rattle.plan_spec.specs.Signalling.{table_packets}
use Rattle.plan.specs.Parts.{int_seen}
use Rattle.plan.specs.PlanView.{plan_fields}
use Rattle.plan.specs.declared.plan.IntPlan.{IntPlan}
use Rattle.ts_mux.proofs.Held.{one_unit}
use Rattle.ts_mux.proofs.Signalled.{platform_below, no_table_at, table_at, part_accepted, table_is}
use Rattle.ts_mux.proofs.int_packets.IntPackets.new.Goals as goal

pub returns-in_default : goal.returns-in_default
returns-in_default c = record {
  at = λ part is counter_is section_is.
      no_table_at part (part_accepted (plan_fields c.args.plan.now) c.args.plan.now.whole part is) (record { packets = None; count = 0 })
      (table_is (plan_fields c.args.plan.now) c.args.plan.now.whole part is ∙ ap (λ (o : Option IntPlan). option_map int_seen o) c.in_default.is) refl;
}

pub new-requires-clause-pid : goal.new-requires-clause-pid
new-requires-clause-pid c = (platform_below (plan_fields c.args.plan.now) (int_seen c.in-Some.int) c.args.plan.now.valid (ap (λ (o : Option IntPlan). option_map int_seen o) c.in-Some.is)).1

pub new-requires-clause-some : goal.new-requires-clause-some
new-requires-clause-some c = c.requires.section (int_seen c.in-Some.int) (ap (λ (o : Option IntPlan). option_map int_seen o) c.in-Some.is)

pub count_packets-requires : goal.count_packets-requires
count_packets-requires c =
    (omega (arith, c.requires.section (int_seen c.in-Some.int) (ap (λ (o : Option IntPlan). option_map int_seen o) c.in-Some.is)), tt)

pub returns : goal.returns
returns c = record {
  at = λ part is counter_is section_is.
      let int : IntFields = int_seen c.in-Some.int in
      let table : part.plan.table ≡ Some int
      = table_is (plan_fields c.args.plan.now) c.args.plan.now.whole part is ∙ ap (λ (o : Option IntPlan). option_map int_seen o) c.in-Some.is in
      let section : List ℕ = c.args.section.now in
      let first : ℕ = (part.table_before + 0 * table_packets part.plan) % 16 in
      let counted : c.count_packets.result ≡ length (packetized section_form true int.pid first (section ∷ []))
      = c.count_packets.ensures.counted section int.pid first (omega arith)
      ∙ ap (λ (units : List (List ℕ)). length (packetized section_form true int.pid first units)) (one_unit section (length section ∷ []) refl) in
      let told = table_at part (part_accepted (plan_fields c.args.plan.now) c.args.plan.now.whole part is) int c.new.result c.count_packets.result c.args.counter section table (section_is int table)
      (counter_is int table) c.new.ensures.written counted in
      record { count = told.0; packets = told.1 };
}
