use Rattle.bridge_command.proofs.Held.{held_ends}
use Rattle.bridge_command.proofs.sndus.Sndus.write.Goals as goal

pub new-packets-requires-clause-ends : goal.new-packets-requires-clause-ends
new-packets-requires-clause-ends g c = rw (c.deref.ensures.value, c.deref-2.ensures.value) (held_ends c.args.self.now c.requires.held.0 c.requires.held.1)
