use Rattle.burst_packets.proofs.FramesSent.{begins_first, way_first}
use Rattle.burst_packets.proofs.frames.FramePackets.new.Goals as goal

pub invariant_of-result : goal.invariant_of-result
invariant_of-result c =
    way_first c.in_ok-bytes.bytes c.args.shape c.args.datagrams.now c.args.ends.now c.args.first c.args.pid c.args.counter c.with_counter.result
    c.in_ok-bytes.ensures.reading c.in_ok-bytes.ensures.left c.in_ok-bytes.ensures.shape c.requires.ends c.requires.few
    c.with_counter.ensures.begins c.with_counter.ensures.on_way c.with_counter.ensures.kept

pub returns : goal.returns
returns c = record {
  begun = begins_first c.in_ok-bytes.bytes c.args.shape c.args.datagrams.now c.args.ends.now c.args.first c.args.pid c.args.counter c.with_counter.result
      c.in_ok-bytes.ensures.reading c.in_ok-bytes.ensures.left c.in_ok-bytes.ensures.shape c.requires.ends c.requires.few
      c.with_counter.ensures.begins c.with_counter.ensures.on_way c.with_counter.ensures.kept;
}
