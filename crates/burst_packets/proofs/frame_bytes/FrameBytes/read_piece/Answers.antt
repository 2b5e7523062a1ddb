use Rattle.std.proofs.Common.{ℕ, List, take, drop, ap, sym, ◌∙◌}
use Rattle.wire_spec.specs.Lists.{joined}
use Rattle.burst_packets.specs.Frames.{units_in}
use Rattle.burst_packets.proofs.Carried.{piece_out}
use Rattle.burst_packets.proofs.frame_bytes.FrameBytes.read_piece.Goals as goal

pub returns-clause-read : goal.returns-clause-read
returns-clause-read c =
    sym c.go_on.ensures.left
    ∙ piece_out c.go_on.new.self.frame.bytes (joined (units_in c.go_on.new.self.shape c.go_on.new.self.number (drop c.go_on.new.self.from c.args.datagrams.now)))
    c.copy_piece-count.new.into c.go_on.new.self.out c.copy_piece-count.result
    (c.copy_piece-count.ensures.read ∙ ap (λ (t : List ℕ). take c.copy_piece-count.result (drop c.go_on.new.self.out t)) c.bytes.ensures.read)
