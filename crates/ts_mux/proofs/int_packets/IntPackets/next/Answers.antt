use Rattle.std.proofs.Common.{◌≡◌, ℕ, ◌+◌, ◌%◌, true, ap, sym, refl, ◌∙◌, arith, subst, Option, Some, None}
use Rattle.plan_spec.specs.Plan.{PlanFields}
use Rattle.plan_spec.specs.Signalling.{table_packets}
use Rattle.plan_spec.specs.Wholes.{is_whole_plan}
use Rattle.section_spec.specs.Section.{section_form}
use Rattle.unit_stream.specs.Packing.{packetized}
use Rattle.stream_spec.specs.Parts.{PartFields}
use Rattle.plan.specs.PlanView.{plan_fields}
use Rattle.ts_mux.specs.SectionPackets.{OnWay}
use Rattle.ts_mux.specs.Slots.{is_early, IsPartOf}
use Rattle.ts_mux.specs.IntPackets.{IsSignalling, IsTableAt}
use Rattle.ts_mux.specs.declared.int_packets.IntPackets.{IntPackets}
use Rattle.stream_law.proofs.Plans.{ranges, at_least}
use Rattle.ts_mux.proofs.Signalled.{IsReady, part_accepted, place_is, early_is, none_is_not, ready_first, ready_behind, ready_some, ready_next}
use Rattle.ts_mux.proofs.int_packets.IntPackets.next.Goals as goal

-- the section is ready in a slot of the INT, begun anew where the slot is the first of its cycle
module _ (plan : PlanFields) (whole : is_whole_plan plan ≡ true) (of_stream : ℕ) (table : IntPackets) (early : is_early plan.cycle table.count of_stream ≡ true)
    (part : PartFields) (slot : ℕ) (is : IsPartOf plan part) (place : of_stream ≡ part.slots_before + slot) (at : IsTableAt part slot table) where
  early_so : is_early part.plan.cycle (table_packets part.plan) slot ≡ true
  early_so = sym (early_is plan whole part is slot of_stream table.count place at.count) ∙ early

  at_way : (way : Option OnWay) → table.packets ≡ way → IsSignalling part part.plan.table slot way
  at_way way e = subst (λ (o : Option OnWay). IsSignalling part part.plan.table slot o) e at.packets

  not_none : table.packets ≡ None → ⊥
  not_none e = none_is_not part (part_accepted plan whole part is) slot (at_way None e) early_so

  begun : (old again : OnWay) → table.packets ≡ Some old → of_stream % plan.cycle ≡ 0
      → again ≡ record old { packets = packetized section_form old.packing old.pid old.counter old.units } → IsReady part slot again
  begun old again e first is_again =
      ready_first part (part_accepted plan whole part is) slot old again (at_way (Some old) e) early_so (sym (place_is plan whole part is slot of_stream place) ∙ first) is_again

  goes : (old : OnWay) → table.packets ≡ Some old → (of_stream % plan.cycle ≡ 0 → ⊥) → IsReady part slot old
  goes old e behind = ready_behind part (part_accepted plan whole part is) slot old (at_way (Some old) e) early_so (λ first. behind (place_is plan whole part is slot of_stream place ∙ first))

pub unreachable-requires : goal.unreachable-requires
unreachable-requires c =
    not_none (plan_fields c.args.plan.now) c.args.plan.now.whole c.args.slot c.args.self.now c.requires.early c.requires.at.0 c.requires.at.1 c.requires.at.2 c.requires.at.3 c.requires.at.4 c.in_default.is

pub nonzero_rem-slot : goal.nonzero_rem-slot
nonzero_rem-slot c = omega (arith, c.from.ensures, at_least 100 1000000 (plan_fields c.args.plan.now).cycle (ranges (plan_fields c.args.plan.now) c.args.plan.now.valid).cycle)

pub next-requires : goal.next-requires
next-requires c =
    let plan : PlanFields = plan_fields c.args.plan.now in
    let part : PartFields = c.requires.at.0 in
    let slot : ℕ = c.requires.at.1 in
    let whole = c.args.plan.now.whole in
    ready_some part (part_accepted plan whole part c.requires.at.2) slot c.again.new.self
    (begun plan whole c.args.slot c.args.self.now c.requires.early part slot c.requires.at.2 c.requires.at.3 c.requires.at.4 c.in-Some.packets c.again.new.self c.in-Some.is
    (ap (λ (n : ℕ). c.args.slot % n) (sym c.from.ensures) ∙ c.if-slot-from-eq0.true) c.again.ensures.written)
    (early_so plan whole c.args.slot c.args.self.now c.requires.early part slot c.requires.at.2 c.requires.at.3 c.requires.at.4)

pub next-requires-else-slot-from-eq0 : goal.next-requires-else-slot-from-eq0
next-requires-else-slot-from-eq0 c =
    let plan : PlanFields = plan_fields c.args.plan.now in
    let part : PartFields = c.requires.at.0 in
    let slot : ℕ = c.requires.at.1 in
    let whole = c.args.plan.now.whole in
    ready_some part (part_accepted plan whole part c.requires.at.2) slot c.in-Some.packets
    (goes plan whole c.args.slot c.args.self.now c.requires.early part slot c.requires.at.2 c.requires.at.3 c.requires.at.4 c.in-Some.packets c.in-Some.is
    (λ e. c.if-slot-from-eq0.false (ap (λ (n : ℕ). c.args.slot % n) c.from.ensures ∙ e)))
    (early_so plan whole c.args.slot c.args.self.now c.requires.early part slot c.requires.at.2 c.requires.at.3 c.requires.at.4)

pub returns-then-slot-from-eq0 : goal.returns-then-slot-from-eq0
returns-then-slot-from-eq0 c = record {
  at = λ part slot is place at.
      let plan : PlanFields = plan_fields c.args.plan.now in
      let whole = c.args.plan.now.whole in
      let ready : IsReady part slot c.again.new.self
      = begun plan whole c.args.slot c.args.self.now c.requires.early part slot is place at c.in-Some.packets c.again.new.self c.in-Some.is
      (ap (λ (n : ℕ). c.args.slot % n) (sym c.from.ensures) ∙ c.if-slot-from-eq0.true) c.again.ensures.written in
      let went = ready_next part (part_accepted plan whole part is) slot c.again.new.self c.next.new.self c.next.ensures.next.0 ready
      (early_so plan whole c.args.slot c.args.self.now c.requires.early part slot is place at) c.next.ensures.next.1
      c.next.ensures.kept.0 c.next.ensures.kept.1 c.next.ensures.kept.2 c.next.ensures.counter in
      (record { count = at.count; packets = went.0 }, c.next.ensures.next.2 ∙ went.1);
  count = refl;
}

pub returns-else-slot-from-eq0 : goal.returns-else-slot-from-eq0
returns-else-slot-from-eq0 c = record {
  at = λ part slot is place at.
      let plan : PlanFields = plan_fields c.args.plan.now in
      let whole = c.args.plan.now.whole in
      let ready : IsReady part slot c.in-Some.packets
      = goes plan whole c.args.slot c.args.self.now c.requires.early part slot is place at c.in-Some.packets c.in-Some.is
      (λ e. c.if-slot-from-eq0.false (ap (λ (n : ℕ). c.args.slot % n) c.from.ensures ∙ e)) in
      let went = ready_next part (part_accepted plan whole part is) slot c.in-Some.packets c.next-else-slot-from-eq0.new.self c.next-else-slot-from-eq0.ensures.next.0 ready
      (early_so plan whole c.args.slot c.args.self.now c.requires.early part slot is place at) c.next-else-slot-from-eq0.ensures.next.1
      c.next-else-slot-from-eq0.ensures.kept.0 c.next-else-slot-from-eq0.ensures.kept.1 c.next-else-slot-from-eq0.ensures.kept.2 c.next-else-slot-from-eq0.ensures.counter in
      (record { count = at.count; packets = went.0 }, c.next-else-slot-from-eq0.ensures.next.2 ∙ went.1);
  count = refl;
}
