use Rattle.std.proofs.Common.{[]}
use Rattle.burst_packets.proofs.Sent.{way_begins, begins}
use Rattle.burst_packets.proofs.bursts.BurstPackets.new.Goals as goal

pub invariant_of-result : goal.invariant_of-result
invariant_of-result c = (
  way_begins c.in_ok-burst.burst c.args.shape c.args.timing c.args.datagrams.now c.args.ends.now c.args.pid c.args.counter c.with_counter.result
      c.in_ok-burst.ensures.rows c.in_ok-burst.ensures.columns c.requires.rows c.requires.columns.0 c.requires.columns.1 c.requires.sliceable c.requires.datagrams c.requires.ends
      c.requires.few c.requires.counter (c.with_counter.ensures.begins c.in_ok-burst.burst.bytes []) (c.with_counter.ensures.on_way []) c.with_counter.ensures.kept,
  c.in_ok-deltas.ensures.len,
)

pub returns : goal.returns
returns c = record {
  begun = begins c.in_ok-burst.burst c.args.shape c.args.timing c.args.datagrams.now c.args.ends.now c.args.pid c.args.counter c.with_counter.result
      c.in_ok-burst.ensures.rows c.in_ok-burst.ensures.columns c.requires.rows c.requires.columns.0 c.requires.columns.1 c.requires.sliceable c.requires.datagrams c.requires.ends
      c.requires.few c.requires.counter (c.with_counter.ensures.begins c.in_ok-burst.burst.bytes []) (c.with_counter.ensures.on_way []) c.with_counter.ensures.kept;
}
