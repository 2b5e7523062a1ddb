use Rattle.burst_packets.proofs.FramesSent.{begins_first, way_first}
use Rattle.burst_packets.proofs.frames.FramePackets.restart.Goals as goal

pub invariant_of-self : goal.invariant_of-self
invariant_of-self c =
    way_first c.restart.new.self c.args.shape c.args.datagrams.now c.args.ends.now c.args.first c.args.pid c.args.counter c.with_counter-self-inside.result
    c.restart.ensures.reading c.restart.ensures.left c.restart.ensures.shape c.requires.ends c.requires.few
    c.with_counter-self-inside.ensures.begins c.with_counter-self-inside.ensures.on_way c.with_counter-self-inside.ensures.kept

pub returns : goal.returns
returns c = record {
  begun = begins_first c.restart.new.self c.args.shape c.args.datagrams.now c.args.ends.now c.args.first c.args.pid c.args.counter c.with_counter-self-inside.result
      c.restart.ensures.reading c.restart.ensures.left c.restart.ensures.shape c.requires.ends c.requires.few
      c.with_counter-self-inside.ensures.begins c.with_counter-self-inside.ensures.on_way c.with_counter-self-inside.ensures.kept;
}
