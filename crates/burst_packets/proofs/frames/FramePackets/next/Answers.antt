use Rattle.std.proofs.Common.{◌≡◌, ◌≤◌, ◌<◌, ◌+◌, ◌-◌, ℕ, List, [], ◌∷◌, ◌++◌, length, drop, replicate, true, false, refl, sym, ap, subst, arith, length-drop, ◌∙◌}
use Rattle.std.proofs.lemmas.List.{length-append, length-take-le}
use borrow.Rule.Slice.PartMut.{mid_of}
use Rattle.ts_spec.specs.Packet.{PacketFields}
use Rattle.section_spec.specs.Section.{section_form}
use Rattle.unit_stream.specs.Packers.{AreEnds, PackerState, Writes, WritesAround, between, packets_left, with_bytes}
use Rattle.burst_packets.specs.declared.bursts.Shape.{Shape}
use Rattle.burst_packets.specs.Frames.{Frames, bytes_left, packets_of_bytes}
use Rattle.burst_packets.proofs.Carried.{behind_bytes, front_bytes, put_is, same_packets}
use Rattle.burst_packets.proofs.FramesSent.{reach}
use Rattle.burst_packets.proofs.frames.FramePackets.next.Goals as goal

none_left : (packets old : List PacketFields) → packets ≡ old → 0 < length old → packets ≡ [] → ⊥
none_left packets old same some none = omega (arith, ap (λ (ps : List PacketFields). length ps) same, some, ap (λ (ps : List PacketFields). length ps) none)

-- a packet has so many bytes from a place on
length-room : (packet : List ℕ) (from size : ℕ) → from + size ≤ length packet → length (mid_of from (from + size - from) packet) ≡ size
length-room packet from size within = let k : from + size - from ≡ size = omega arith in length-take-le (from + size - from) (drop from packet) (omega (arith, length-drop from packet, within)) ∙ k

pub unreachable-requires : goal.unreachable-requires
unreachable-requires c =
    let all : List ℕ = replicate c.self.inside.packer.at 0 ++ bytes_left c.self.inside.datagrams.now c.self.inside.bytes in
    let none : Writes section_form c.self.inside.packer c.next_around.new.self all c.self.inside.ends.now c.next_around.new.into false
    = subst (WritesAround section_form c.self.inside.packer c.next_around.new.self all c.self.inside.ends.now c.next_around.new.into) c.in_default.is
    (c.next_around.ensures.writes all (reach c.self.inside.bytes c.self.inside.datagrams.now c.self.inside.ends.now c.self.inside.packer c.self.invariant)) in
    none_left (packets_left section_form c.self.inside.packer all c.self.inside.ends.now) c.args.self.now.packets (ap (λ (it : Frames). it.packets) c.self.view_is) c.requires.some none.0

pub read-requires-clause-enough : goal.read-requires-clause-enough
read-requires-clause-enough c =
    omega (
      arith,
      length-room c.next_around.new.into c.in-Some.room.from c.in-Some.room.size (omega (arith, c.in-Some.ensures.room.0, c.next_around.array_long)),
      c.in-Some.ensures.room.1,
      c.next_around.ensures.within,
      c.self.invariant.ends_are.within,
    )

pub invariant_of-self : goal.invariant_of-self
invariant_of-self c =
    let size : length c.read.new.into ≡ c.in-Some.room.size
    = c.read.auto.into ∙ length-room c.next_around.new.into c.in-Some.room.from c.in-Some.room.size (omega (arith, c.in-Some.ensures.room.0, c.next_around.array_long)) in
    let all : c.self.inside.packer.at + length (bytes_left c.self.inside.datagrams.now c.self.inside.bytes) ≡ c.next_around.new.self.at + length (bytes_left c.self.inside.datagrams.now c.read.new.self)
    = omega (
      arith,
      ap (λ (l : List ℕ). length l) c.read.ensures.read,
      length-append c.read.new.into (bytes_left c.self.inside.datagrams.now c.read.new.self),
      size,
      c.in-Some.ensures.room.1,
    ) in
    record {
      reading = c.read.ensures.reading;
      ends_are = subst (λ (n : ℕ). AreEnds 1 n c.self.inside.ends.now) all c.self.invariant.ends_are;
      way = c.next_around.ensures.on_way;
    }

pub returns : goal.returns
returns c =
    let datagrams : List (List ℕ) = c.self.inside.datagrams.now in
    let ends : List ℕ = c.self.inside.ends.now in
    let old : PackerState = c.self.inside.packer in
    let new : PackerState = c.next_around.new.self in
    let packet : List ℕ = c.next_around.new.into in
    let piece : List ℕ = c.read.new.into in
    let from : ℕ = c.in-Some.room.from in
    let left : List ℕ = bytes_left datagrams c.read.new.self in
    let all : List ℕ = replicate old.at 0 ++ bytes_left datagrams c.self.inside.bytes in
    let size : length piece ≡ c.in-Some.room.size
    = c.read.auto.into ∙ length-room packet from c.in-Some.room.size (omega (arith, c.in-Some.ensures.room.0, c.next_around.array_long)) in
    let on : new.at ≡ old.at + length piece = omega (arith, size, c.in-Some.ensures.room.1) in
    let parts : all ≡ replicate old.at 0 ++ (piece ++ left) = ap (λ (t : List ℕ). replicate old.at 0 ++ t) c.read.ensures.read in
    let wrote : Writes section_form old new all ends (with_bytes from (between all old.at new.at) packet) true
    = c.in-Some.ensures.writes all (reach c.self.inside.bytes datagrams ends old c.self.invariant) in
    let carried : between all old.at new.at ≡ piece = ap (λ (t : List ℕ). between t old.at new.at) parts ∙ front_bytes piece left old.at new.at on in
    let later : packets_left section_form new all ends ≡ packets_of_bytes new left ends
    = same_packets all (replicate new.at 0 ++ left) new.at (ap (drop new.at) parts ∙ behind_bytes piece left old.at new.at on) section_form 1 new ends refl c.self.invariant.ends_are.rising
    c.next_around.ensures.on_way in
    record {
      next = (
        wrote.0,
        sym (ap (λ (it : Frames). it.packets) c.self.view_is) ∙ wrote.1 ∙ ap (λ (ps : List PacketFields). wrote.0 ∷ ps) later,
        put_is packet piece from (from + c.in-Some.room.size) c.in-Some.room.size refl size ∙ ap (λ (t : List ℕ). with_bytes from t packet) (sym carried) ∙ wrote.2,
      );
      behind = omega (
        arith,
        ap (λ (it : Frames). it.behind) c.self.view_is,
        ap (λ (ps : List PacketFields). length ps) wrote.1,
        ap (λ (ps : List PacketFields). length ps) later,
        c.in-Some.ensures.counter,
      );
      kept = (
        ap (λ (s : Shape). s.rows) c.read.ensures.shape ∙ ap (λ (it : Frames). it.rows) c.self.view_is,
        ap (λ (s : Shape). s.columns) c.read.ensures.shape ∙ ap (λ (it : Frames). it.columns) c.self.view_is,
      );
    }
