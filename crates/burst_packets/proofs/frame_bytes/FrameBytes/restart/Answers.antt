use Rattle.std.proofs.Common.{ℕ, List, ◌%◌, length, ap}
use Rattle.burst_packets.proofs.FramesLeft.{begins_left}
use Rattle.burst_packets.proofs.frame_bytes.FrameBytes.restart.Goals as goal

pub returns-clause-left : goal.returns-clause-left
returns-clause-left c =
    begins_left c.args.shape c.args.self.now.frame.bytes (length c.bytes.result.now) (c.args.first % c.from.result) c.args.first c.args.datagrams.now
    (ap (λ (l : List ℕ). length l) c.bytes.ensures.read) (ap (λ (n : ℕ). c.args.first % n) c.from.ensures)
