use Rattle.std.proofs.Common.{◌≡◌, ℕ, ◌^◌, ◌<◌, true, false, Option, refl, ap₂, List, [], ◌∷◌, ◌++◌, ap, sym, ◌∙◌, subst}
use Rattle.ts_spec.specs.Packet.{PacketFields, fields_of}
use Rattle.ts_spec.specs.Recording.{Record as ReadRecord}
use Rattle.plan_spec.specs.Plan.{PlanFields}
use Rattle.plan_spec.specs.Changes.{plan_in, has_wrong_change}
use Rattle.plan.specs.PlanView.{plan_fields}
use Rattle.reception_spec.specs.Packets.{is_pid_of}
use Rattle.reception_spec.specs.Spans.{version_at_end}
use Rattle.service_reception.specs.Reception.{packet_record}
use Rattle.demux_core.specs.Receiving.{ReceiverState, HasReceived}
use Rattle.demux_core.proofs.Laws.{Laws, laws_of}
use Rattle.outlet_spec.proofs.Pairs.{delivers_nothing}
use Rattle.demux_core.proofs.Numbers.{unreadable_is, unreadable_on_none, without_is, without_on_none, packet_is, unreadable_more, without_more, other_more, records_more, few_records, all_miss, none_given, all_along}
use Rattle.demux_core.proofs.packet_receiver.PacketReceiver.step_record.Goals as goal

abbrev packet_with : Option ℕ → List ℕ → ReadRecord
packet_with moment bytes = record { moment = moment; bytes = bytes }

pub returns-in-WithoutPayload-clause-received : goal.returns-in-WithoutPayload-clause-received
returns-in-WithoutPayload-clause-received g c = λ plan records has.
    let seen : HasReceived false plan records _ = (subst (λ (v : ReceiverState). HasReceived false plan records v) (sym c.self.view_is) has) in
    let laws : Laws plan = laws_of plan (subst (λ (p : PlanFields). has_wrong_change p ≡ false) seen.plan_is c.self.invariant.0.right_changes) in
    record {
      plan_is = seen.plan_is;
      stream = without_more plan laws records (packet_with c.args.moment c.args.bytes.now) c.self.inside.stream seen.stream (subst (λ (v : ReceiverState). v.stream.records < 2 ^ 32) (sym c.self.view_is) c.requires.few)
          c.saturating_add-self-inside.result c.saturating_add-self-inside.ensures (without_is (plan_in plan (version_at_end plan records)) (packet_with c.args.moment c.args.bytes.now) c.in-WithoutPayload.ensures.holds);
      all = all_miss plan laws c.self.inside.services.receivers.items c.self.inside.table records (packet_with c.args.moment c.args.bytes.now) (without_on_none (packet_with c.args.moment c.args.bytes.now) c.in-WithoutPayload.ensures.holds) seen.all;
    }

pub returns-in-WithoutPayload-clause-written : goal.returns-in-WithoutPayload-clause-written
returns-in-WithoutPayload-clause-written g c = λ plan records has.
    let seen : HasReceived false plan records _ = (subst (λ (v : ReceiverState). HasReceived false plan records v) (sym c.self.view_is) has) in
    let laws : Laws plan = laws_of plan (subst (λ (p : PlanFields). has_wrong_change p ≡ false) seen.plan_is c.self.invariant.0.right_changes) in
    delivers_nothing (g.T.Outlet.StandsFor c.args.outlet.now) _
    (none_given plan laws c.self.inside.services.receivers.items c.self.inside.table records (packet_with c.args.moment c.args.bytes.now) (without_on_none (packet_with c.args.moment c.args.bytes.now) c.in-WithoutPayload.ensures.holds) seen.all)

pub returns-in-Unreadable-clause-received : goal.returns-in-Unreadable-clause-received
returns-in-Unreadable-clause-received g c = λ plan records has.
    let seen : HasReceived false plan records _ = (subst (λ (v : ReceiverState). HasReceived false plan records v) (sym c.self.view_is) has) in
    let laws : Laws plan = laws_of plan (subst (λ (p : PlanFields). has_wrong_change p ≡ false) seen.plan_is c.self.invariant.0.right_changes) in
    record {
      plan_is = seen.plan_is;
      stream = unreadable_more plan laws records (packet_with c.args.moment c.args.bytes.now) c.self.inside.stream seen.stream (subst (λ (v : ReceiverState). v.stream.records < 2 ^ 32) (sym c.self.view_is) c.requires.few)
          c.saturating_add-self-inside-in-Unreadable.result c.saturating_add-self-inside-in-Unreadable.ensures (unreadable_is (plan_in plan (version_at_end plan records)) (packet_with c.args.moment c.args.bytes.now) c.in-Unreadable.ensures.holds);
      all = all_miss plan laws c.self.inside.services.receivers.items c.self.inside.table records (packet_with c.args.moment c.args.bytes.now) (unreadable_on_none (packet_with c.args.moment c.args.bytes.now) c.in-Unreadable.ensures.holds) seen.all;
    }

pub returns-in-Unreadable-clause-written : goal.returns-in-Unreadable-clause-written
returns-in-Unreadable-clause-written g c = λ plan records has.
    let seen : HasReceived false plan records _ = (subst (λ (v : ReceiverState). HasReceived false plan records v) (sym c.self.view_is) has) in
    let laws : Laws plan = laws_of plan (subst (λ (p : PlanFields). has_wrong_change p ≡ false) seen.plan_is c.self.invariant.0.right_changes) in
    delivers_nothing (g.T.Outlet.StandsFor c.args.outlet.now) _
    (none_given plan laws c.self.inside.services.receivers.items c.self.inside.table records (packet_with c.args.moment c.args.bytes.now) (unreadable_on_none (packet_with c.args.moment c.args.bytes.now) c.in-Unreadable.ensures.holds) seen.all)

pub returns-in-Ok-true-clause-received : goal.returns-in-Ok-true-clause-received
returns-in-Ok-true-clause-received g c = λ plan records has.
    let seen : HasReceived false plan records _ = (subst (λ (v : ReceiverState). HasReceived false plan records v) (sym c.self.view_is) has) in
    let laws : Laws plan = laws_of plan (subst (λ (p : PlanFields). has_wrong_change p ≡ false) seen.plan_is c.self.invariant.0.right_changes) in
    let r : ReadRecord = packet_with c.args.moment c.args.bytes.now in
    let same : r ≡ packet_record c.in-Packet.moment c.args.bytes.now = ap (λ (m : Option ℕ). packet_with m c.args.bytes.now) c.in-Packet.ensures.holds.0 in
    let few : c.self.inside.stream.records < 2 ^ 32 = (subst (λ (v : ReceiverState). v.stream.records < 2 ^ 32) (sym c.self.view_is) c.requires.few) in
    let before = all_along false plan (plan_fields c.self.inside.plan.now) c.self.inside.services.receivers.items c.self.inside.services.receivers.items c.self.inside.table records records
    (sym seen.plan_is) refl refl seen.all in
    let known : is_pid_of (plan_in plan (version_at_end plan records)) (fields_of c.args.bytes.now).pid ≡ true =
    ap₂ (λ (p : PlanFields) (pid : ℕ). is_pid_of (plan_in p (version_at_end p records)) pid) (sym seen.plan_is) (sym (ap (λ (f : PacketFields). f.pid) c.in-Packet.ensures.holds.1.fields_are)) ∙ sym (c.in-Ok-true.ensures.known records before) ∙ c.in-Ok-true.field-0-test in
    record {
      plan_is = seen.plan_is;
      stream = records_more plan laws records r c.self.inside.stream seen.stream few
          (packet_is (plan_in plan (version_at_end plan records)) r c.in-Packet.moment true c.in-Packet.ensures.holds.0 c.in-Packet.ensures.holds.1.readable known);
      all = all_along false (plan_fields c.self.inside.plan.now) plan c.receive_packet.new.services.receivers.items c.receive_packet.new.services.receivers.items c.receive_packet.new.table
          (records ++ packet_record c.in-Packet.moment c.args.bytes.now ∷ []) (records ++ r ∷ [])
          seen.plan_is refl
          (ap (λ (t : ReadRecord). records ++ t ∷ []) (sym same))
          (c.in-Ok-true.ensures.received records (few_records plan laws records r c.self.inside.stream seen.stream few) before);
    }

pub returns-in-Ok-false-clause-received : goal.returns-in-Ok-false-clause-received
returns-in-Ok-false-clause-received g c = λ plan records has.
    let seen : HasReceived false plan records _ = (subst (λ (v : ReceiverState). HasReceived false plan records v) (sym c.self.view_is) has) in
    let laws : Laws plan = laws_of plan (subst (λ (p : PlanFields). has_wrong_change p ≡ false) seen.plan_is c.self.invariant.0.right_changes) in
    let r : ReadRecord = packet_with c.args.moment c.args.bytes.now in
    let same : r ≡ packet_record c.in-Packet.moment c.args.bytes.now = ap (λ (m : Option ℕ). packet_with m c.args.bytes.now) c.in-Packet.ensures.holds.0 in
    let few : c.self.inside.stream.records < 2 ^ 32 = (subst (λ (v : ReceiverState). v.stream.records < 2 ^ 32) (sym c.self.view_is) c.requires.few) in
    let before = all_along false plan (plan_fields c.self.inside.plan.now) c.self.inside.services.receivers.items c.self.inside.services.receivers.items c.self.inside.table records records
    (sym seen.plan_is) refl refl seen.all in
    let known : is_pid_of (plan_in plan (version_at_end plan records)) (fields_of c.args.bytes.now).pid ≡ false =
    ap₂ (λ (p : PlanFields) (pid : ℕ). is_pid_of (plan_in p (version_at_end p records)) pid) (sym seen.plan_is) (sym (ap (λ (f : PacketFields). f.pid) c.in-Packet.ensures.holds.1.fields_are)) ∙ sym (c.in-Ok-false.ensures.known records before) ∙ c.in-Ok-false.field-0-test in
    record {
      plan_is = seen.plan_is;
      stream = other_more plan laws records r c.self.inside.stream seen.stream few
          c.saturating_add-self-inside-in-Ok-false.result c.saturating_add-self-inside-in-Ok-false.ensures
          (packet_is (plan_in plan (version_at_end plan records)) r c.in-Packet.moment false c.in-Packet.ensures.holds.0 c.in-Packet.ensures.holds.1.readable known);
      all = all_along false (plan_fields c.self.inside.plan.now) plan c.receive_packet.new.services.receivers.items c.receive_packet.new.services.receivers.items c.receive_packet.new.table
          (records ++ packet_record c.in-Packet.moment c.args.bytes.now ∷ []) (records ++ r ∷ [])
          seen.plan_is refl
          (ap (λ (t : ReadRecord). records ++ t ∷ []) (sym same))
          (c.in-Ok-false.ensures.received records (few_records plan laws records r c.self.inside.stream seen.stream few) before);
    }

pub returns-in-Err-clause-received : goal.returns-in-Err-clause-received
returns-in-Err-clause-received g c = λ plan records has.
    let seen : HasReceived false plan records _ = (subst (λ (v : ReceiverState). HasReceived false plan records v) (sym c.self.view_is) has) in
    let laws : Laws plan = laws_of plan (subst (λ (p : PlanFields). has_wrong_change p ≡ false) seen.plan_is c.self.invariant.0.right_changes) in
    let r : ReadRecord = packet_with c.args.moment c.args.bytes.now in
    let same : r ≡ packet_record c.in-Packet.moment c.args.bytes.now = ap (λ (m : Option ℕ). packet_with m c.args.bytes.now) c.in-Packet.ensures.holds.0 in
    let few : c.self.inside.stream.records < 2 ^ 32 = (subst (λ (v : ReceiverState). v.stream.records < 2 ^ 32) (sym c.self.view_is) c.requires.few) in
    let before = all_along false plan (plan_fields c.self.inside.plan.now) c.self.inside.services.receivers.items c.self.inside.services.receivers.items c.self.inside.table records records
    (sym seen.plan_is) refl refl seen.all in
    let known : is_pid_of (plan_in plan (version_at_end plan records)) (fields_of c.args.bytes.now).pid ≡ true =
    ap₂ (λ (p : PlanFields) (pid : ℕ). is_pid_of (plan_in p (version_at_end p records)) pid) (sym seen.plan_is) (sym (ap (λ (f : PacketFields). f.pid) c.in-Packet.ensures.holds.1.fields_are)) ∙ c.in-Err.ensures.of_plan records before in
    record {
      plan_is = seen.plan_is;
      stream = records_more plan laws records r c.self.inside.stream seen.stream few
          (packet_is (plan_in plan (version_at_end plan records)) r c.in-Packet.moment true c.in-Packet.ensures.holds.0 c.in-Packet.ensures.holds.1.readable known);
      all = all_along false (plan_fields c.self.inside.plan.now) plan c.receive_packet.new.services.receivers.items c.receive_packet.new.services.receivers.items c.receive_packet.new.table
          (records ++ packet_record c.in-Packet.moment c.args.bytes.now ∷ []) (records ++ r ∷ [])
          seen.plan_is refl
          (ap (λ (t : ReadRecord). records ++ t ∷ []) (sym same))
          (c.in-Err.ensures.received records (few_records plan laws records r c.self.inside.stream seen.stream few) before);
    }
