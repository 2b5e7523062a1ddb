use Rattle.std.proofs.Common.{List, length, ap, arith}
use Rattle.ts_spec.specs.Packet.{PacketFields}
use Rattle.burst_packets.specs.Frames.{Frames}
use Rattle.burst_packets.proofs.frames.FramePackets.counter.Goals as goal

pub returns-clause-read : goal.returns-clause-read
returns-clause-read c =
    omega (
      arith,
      ap (λ (it : Frames). it.behind) c.self.view_is,
      ap (λ (it : Frames). length it.packets) c.self.view_is,
      ap (λ (ps : List PacketFields). length ps) c.requires,
      c.counter.ensures.read,
      c.counter.ensures.below,
    )
