use Rattle.std.proofs.Common.{◌≡◌, ◌++◌, length, take, drop, ap, ◌∙◌, arith}
use Rattle.std.proofs.lemmas.List.{take_at}
use Rattle.unit_stream.specs.States.{state_in}
use Rattle.unit_stream.proofs.joiner.Joiner.feed.Goals as goal

pub returns-clause-fed : goal.returns-clause-fed
returns-clause-fed g c = λ packets next stands linked fields time.
    let same : take c.self.inside.buffer.len (c.feed_packet-self-inside.new.buffer ++ drop (length c.feed_packet-self-inside.new.buffer) c.self.inside.buffer.items) ≡ c.feed_packet-self-inside.new.buffer =
    take_at c.feed_packet-self-inside.new.buffer (drop (length c.feed_packet-self-inside.new.buffer) c.self.inside.buffer.items) c.self.inside.buffer.len (omega arith) in
    rw same (
    c.feed_packet-self-inside.ensures.fed packets next (ap (state_in c.self.inside.state) c.deref_mut.ensures.value ∙ c.self.view_is ∙ stands) linked fields time)
