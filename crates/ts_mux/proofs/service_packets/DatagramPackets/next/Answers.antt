use Rattle.std.proofs.Common.{◌≡◌, ◌≤◌, ◌<◌, ◌+◌, ◌-◌, ℕ, List, [], ◌++◌, length, drop, true, false, refl, sym, ap, subst, arith, append_assoc, length-drop, ◌∙◌}
use Rattle.std.proofs.lemmas.List.{length-append, length-take-le}
use borrow.Rule.Slice.PartMut.{mid_of}
use Rattle.ts_spec.specs.Packet.{PacketFields}
use Rattle.unit_stream.specs.Packers.{PackerState, Writes, WritesAround, between, end_of, packets_left, with_bytes}
use Rattle.plan.specs.Parts.{kind_seen}
use Rattle.ts_mux.specs.Coming.{Coming}
use Rattle.ts_mux.specs.Units.{unit_bytes}
use Rattle.ts_mux.specs.Reading.{bytes_left}
use Rattle.ts_mux.proofs.Reading.{carried_are, has_left, last_end, put_is}
use Rattle.ts_mux.proofs.service_packets.DatagramPackets.next.Goals as goal

none_left : (packets old : List PacketFields) → packets ≡ old → 0 < length old → packets ≡ [] → ⊥
none_left packets old same some none = omega (arith, ap (λ (ps : List PacketFields). length ps) same, some, ap (λ (ps : List PacketFields). length ps) none)

-- a packet has so many bytes from a place on
length-room : (packet : List ℕ) (from size : ℕ) → from + size ≤ length packet → length (mid_of from (from + size - from) packet) ≡ size
length-room packet from size within = let k : from + size - from ≡ size = omega arith in length-take-le (from + size - from) (drop from packet) (omega (arith, length-drop from packet, within)) ∙ k

pub unreachable-requires : goal.unreachable-requires
unreachable-requires g c =
    let bytes : List ℕ = unit_bytes (kind_seen c.self.inside.service.now.kind) c.self.inside.service.now.unicast c.self.inside.datagrams.now in
    let reach : end_of c.self.inside.ends.now (length c.self.inside.ends.now) ≤ length bytes
    = omega (arith, last_end (kind_seen c.self.inside.service.now.kind) c.self.inside.service.now.unicast c.self.inside.datagrams.now c.self.inside.ends.now c.self.invariant.ends_are) in
    let none : Writes g.F.UnitForm.form c.self.inside.packer c.next_around.new.self bytes c.self.inside.ends.now c.next_around.new.into false
    = subst (WritesAround g.F.UnitForm.form c.self.inside.packer c.next_around.new.self bytes c.self.inside.ends.now c.next_around.new.into) c.in_default.is (c.next_around.ensures.writes bytes reach) in
    none_left (packets_left g.F.UnitForm.form c.self.inside.packer bytes c.self.inside.ends.now) c.args.self.now.packets (ap (λ (it : Coming). it.packets) c.self.view_is) c.requires none.0

pub read-requires-clause-enough : goal.read-requires-clause-enough
read-requires-clause-enough g c =
    let room : length (mid_of c.in-Some.room.from (c.in-Some.room.from + c.in-Some.room.size - c.in-Some.room.from) c.next_around.new.into) ≡ c.in-Some.room.size
    = length-room c.next_around.new.into c.in-Some.room.from c.in-Some.room.size (omega (arith, c.in-Some.ensures.room.0, c.next_around.array_long)) in
    omega (
      arith,
      room,
      has_left g.F.UnitForm.START (kind_seen c.self.inside.service.now.kind) c.self.inside.service.now.unicast c.self.inside.datagrams.now c.self.inside.ends.now c.self.inside.units c.self.inside.packer
          c.self.invariant c.in-Some.room.size
          (omega (
            arith,
            c.in-Some.ensures.room.1,
            c.next_around.ensures.within,
            last_end (kind_seen c.self.inside.service.now.kind) c.self.inside.service.now.unicast c.self.inside.datagrams.now c.self.inside.ends.now c.self.invariant.ends_are,
          )),
    )

pub invariant_of-self : goal.invariant_of-self
invariant_of-self g c =
    let left : List ℕ = bytes_left (kind_seen c.self.inside.service.now.kind) c.self.inside.service.now.unicast c.self.inside.datagrams.now c.read.new.self in
    let new : PackerState = c.next_around.new.self in
    let size : length c.read.new.into ≡ c.in-Some.room.size
    = c.read.auto.into ∙ length-room c.next_around.new.into c.in-Some.room.from c.in-Some.room.size (omega (arith, c.in-Some.ensures.room.0, c.next_around.array_long)) in
    record {
      reading = c.read.ensures.reading;
      ends_are = c.self.invariant.ends_are;
      rising = c.self.invariant.rising;
      way = c.next_around.ensures.on_way;
      before = c.self.invariant.before ++ c.read.new.into;
      before_is = omega (arith, length-append c.self.invariant.before c.read.new.into, c.self.invariant.before_is, size, c.in-Some.ensures.room.1);
      bytes_are =
          c.self.invariant.bytes_are
          ∙ ap (λ (t : List ℕ). c.self.invariant.before ++ t) c.read.ensures.read
          ∙ sym (append_assoc c.self.invariant.before c.read.new.into left);
    }

pub returns : goal.returns
returns g c =
    let bytes : List ℕ = unit_bytes (kind_seen c.self.inside.service.now.kind) c.self.inside.service.now.unicast c.self.inside.datagrams.now in
    let left : List ℕ = bytes_left (kind_seen c.self.inside.service.now.kind) c.self.inside.service.now.unicast c.self.inside.datagrams.now c.read.new.self in
    let old : PackerState = c.self.inside.packer in
    let new : PackerState = c.next_around.new.self in
    let packet : List ℕ = c.next_around.new.into in
    let piece : List ℕ = c.read.new.into in
    let from : ℕ = c.in-Some.room.from in
    let reach : end_of c.self.inside.ends.now (length c.self.inside.ends.now) ≤ length bytes
    = omega (arith, last_end (kind_seen c.self.inside.service.now.kind) c.self.inside.service.now.unicast c.self.inside.datagrams.now c.self.inside.ends.now c.self.invariant.ends_are) in
    let wrote : Writes g.F.UnitForm.form old new bytes c.self.inside.ends.now (with_bytes from (between bytes old.at new.at) packet) true
    = c.in-Some.ensures.writes bytes reach in
    let size : length piece ≡ c.in-Some.room.size
    = c.read.auto.into ∙ length-room packet from c.in-Some.room.size (omega (arith, c.in-Some.ensures.room.0, c.next_around.array_long)) in
    let carried : between bytes old.at new.at ≡ piece
    = carried_are bytes c.self.invariant.before piece left old.at new.at c.self.invariant.before_is (omega (arith, size, c.in-Some.ensures.room.1))
    (c.self.invariant.bytes_are ∙ ap (λ (t : List ℕ). c.self.invariant.before ++ t) c.read.ensures.read) in
    record {
      next = (
        wrote.0,
        sym (ap (λ (it : Coming). it.packets) c.self.view_is) ∙ wrote.1,
        put_is packet piece from (from + c.in-Some.room.size) c.in-Some.room.size refl size ∙ ap (λ (t : List ℕ). with_bytes from t packet) (sym carried) ∙ wrote.2,
      );
      behind = omega (
        arith,
        ap (λ (it : Coming). it.behind) c.self.view_is,
        ap (λ (ps : List PacketFields). length ps) wrote.1,
        c.in-Some.ensures.counter,
      );
    }
