use Rattle.std.proofs.Common.{ap, length, ◌++◌, ◌∷◌, [], ◌∙◌}
use Rattle.ip_datagram.proofs.Held.{held_ends, held_pieces}
use Rattle.ip_datagram.proofs.list.DatagramList.push.Goals as goal

pub invariant_of-self-in-Ok : goal.invariant_of-self-in-Ok
invariant_of-self-in-Ok c =
    held_ends c.self.inside.bytes.items c.args.datagram.now c.self.inside.ends.items c.extend_from_slice.new.self.items c.push.new.self.items (length c.as_slice.result.now)
    c.in_ok-extend_from_slice.ensures.items (ap length c.as_slice.ensures.value) c.in-Ok.ensures.items c.self.invariant

pub returns-in-Ok-clause-written : goal.returns-in-Ok-clause-written
returns-in-Ok-clause-written c =
    held_pieces c.self.inside.bytes.items c.args.datagram.now c.self.inside.ends.items c.extend_from_slice.new.self.items c.push.new.self.items (length c.as_slice.result.now)
    c.in_ok-extend_from_slice.ensures.items (ap length c.as_slice.ensures.value) c.in-Ok.ensures.items c.self.invariant
    ∙ ap (λ list. list ++ c.args.datagram.now ∷ []) c.self.view_is
