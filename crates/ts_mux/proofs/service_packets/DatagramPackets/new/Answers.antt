use Rattle.std.proofs.Common.{ℕ, ◌+◌, ◌%◌, List, length, map, sym, ap, subst, ◌≤◌, ◌^◌}
use Rattle.ts_spec.specs.Packet.{PacketFields}
use Rattle.unit_stream.specs.Packers.{AreRising, packets_left}
use Rattle.plan_spec.specs.Plan.{KindFields}
use Rattle.plan.specs.Parts.{kind_seen}
use Rattle.stream_spec.specs.Units.{unit_of}
use Rattle.ts_mux.specs.Units.{unit_bytes}
use Rattle.ts_mux.proofs.Held.{rising_held}
use Rattle.ts_mux.proofs.Reading.{sending_first, packets_first, few_first}
use Rattle.ts_mux.proofs.service_packets.DatagramPackets.new.Goals as goal

pub invariant_of-result : goal.invariant_of-result
invariant_of-result g c =
    let kind : KindFields = kind_seen c.args.service.now.kind in
    let unicast : List ℕ = c.args.service.now.unicast in
    let datagrams : List (List ℕ) = c.args.datagrams.now in
    sending_first g.F.UnitForm.START kind unicast datagrams c.args.ends.now c.new.result c.with_counter.result c.requires.single c.requires.datagrams c.requires.few c.new.ensures.first.0 c.new.ensures.first.1
    c.requires.ends.places
    (subst (AreRising g.F.UnitForm.START 0) (sym c.requires.ends.places) (rising_held g.F.UnitForm.START 0 (map (unit_of kind unicast) datagrams) c.requires.least))
    c.with_counter.ensures.on_way

pub returns-clause-written : goal.returns-clause-written
returns-clause-written g c =
    packets_first g.F.UnitForm.form (kind_seen c.args.service.now.kind) c.args.service.now.unicast c.args.datagrams.now c.args.ends.now c.with_counter.result c.args.packing c.args.pid c.args.counter
    c.requires.ends.places c.with_counter.ensures.begins

pub returns-clause-behind : goal.returns-clause-behind
returns-clause-behind g c =
    let bytes : List ℕ = unit_bytes (kind_seen c.args.service.now.kind) c.args.service.now.unicast c.args.datagrams.now in
    ap (λ (n : ℕ). (n + length (packets_left g.F.UnitForm.form c.with_counter.result bytes c.args.ends.now)) % 16) c.with_counter.ensures.kept.2

pub returns-clause-most : goal.returns-clause-most
returns-clause-most g c =
    let kind : KindFields = kind_seen c.args.service.now.kind in
    let unicast : List ℕ = c.args.service.now.unicast in
    let datagrams : List (List ℕ) = c.args.datagrams.now in
    subst (λ (packets : List PacketFields). length packets ≤ 2 ^ 48)
    (sym (packets_first g.F.UnitForm.form kind unicast datagrams c.args.ends.now c.with_counter.result c.args.packing c.args.pid c.args.counter c.requires.ends.places c.with_counter.ensures.begins))
    (few_first g.F.UnitForm.form kind unicast datagrams c.args.packing c.args.pid c.args.counter c.requires.ends.most c.requires.few)
