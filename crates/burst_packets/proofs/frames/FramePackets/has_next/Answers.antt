use Rattle.std.proofs.Common.{ℕ, List, ◌++◌, ◌∙◌, length, ltb, replicate, ap}
use Rattle.burst_packets.specs.Frames.{Frames, bytes_left}
use Rattle.burst_packets.proofs.FramesSent.{reach}
use Rattle.burst_packets.proofs.frames.FramePackets.has_next.Goals as goal

pub returns : goal.returns
returns c =
    let all : List ℕ = replicate c.self.inside.packer.at 0 ++ bytes_left c.self.inside.datagrams.now c.self.inside.bytes in
    record {
      read = c.has_next.ensures.next all (reach c.self.inside.bytes c.self.inside.datagrams.now c.self.inside.ends.now c.self.inside.packer c.self.invariant)
          ∙ ap (λ (it : Frames). ltb 0 (length it.packets)) c.self.view_is;
    }
