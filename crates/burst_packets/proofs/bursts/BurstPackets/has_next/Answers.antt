use Rattle.std.proofs.Common.{◌≡◌, ℕ, ◌≤◌, List, length, ltb, sym, ap, subst, ◌∙◌, arith}
use Rattle.ts_spec.specs.Packet.{PacketFields}
use Rattle.section_spec.specs.Section.{section_form}
use Rattle.unit_stream.specs.Packers.{end_of, packets_left}
use Rattle.unit_stream.proofs.Numbers.{ltb_true}
use Rattle.burst_packets.specs.Bursts.{Bursts, all_packets}
use Rattle.burst_packets.proofs.Sent.{none_after, some_after}
use Rattle.burst_packets.proofs.bursts.BurstPackets.has_next.Goals as goal

pub returns-then-self : goal.returns-then-self
returns-then-self c =
    let left : length (all_packets c.self.inside.burst c.self.inside.unicast c.self.inside.timing c.self.inside.datagrams.now c.self.inside.opened c.self.inside.packer)
    ≡ length c.args.self.now.packets
    = ap (λ (b : Bursts). length b.packets) c.self.view_is in
    record {
      read = ltb_true c.self.inside.opened (length c.self.inside.ends.now) c.if-self.true
          ∙ sym (ltb_true 0 (length c.args.self.now.packets)
          (omega (
            arith,
            left,
            some_after c.self.inside.burst c.self.inside.unicast c.self.inside.timing c.self.inside.datagrams.now c.self.inside.ends.now c.self.inside.opened c.self.inside.packer
                c.self.invariant.0 c.if-self.true,
          )));
    }

pub returns-else-self : goal.returns-else-self
returns-else-self c = record {
  read = c.has_next.ensures.next c.self.inside.burst.bytes
      (subst (λ (ends : List ℕ). end_of ends (length ends) ≤ length c.self.inside.burst.bytes) (sym c.unit_ends.ensures) c.self.invariant.0.units.within)
      ∙ ap (λ (ps : List PacketFields). ltb 0 (length ps))
      (ap (packets_left section_form c.self.inside.packer c.self.inside.burst.bytes) c.unit_ends.ensures
      ∙ sym (none_after c.self.inside.burst c.self.inside.unicast c.self.inside.timing c.self.inside.datagrams.now c.self.inside.ends.now c.self.inside.opened c.self.inside.packer
      c.self.invariant.0 c.if-self.false))
      ∙ ap (λ (b : Bursts). ltb 0 (length b.packets)) c.self.view_is;
}
