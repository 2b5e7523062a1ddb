use Rattle.std.proofs.Common.{◌*◌, length, take, drop, ◌++◌, arith}
use Rattle.gse_reassembly.proofs.Parts.{refilled}
use Rattle.gse_reassembly.proofs.Steps.{start_now}
use Rattle.gse_reassembly.proofs.slots.Slots.start.Goals as goal

pub returns-clause-opens : goal.returns-clause-opens
returns-clause-opens g c = λ other.
    start_now c.args.self.now c.self.inside.slots.items c.self.inside.buffer.items
    (take c.self.inside.buffer.len (c.put.new.into ++ drop (length c.put.new.into) c.self.inside.buffer.items)) c.args.pdu.now c.args.id c.from-at.result c.self.inside.frame_number
    c.args.total c.args.protocol c.args.written c.args.label c.self.view_is c.from-at.ensures
    (refilled c.self.inside.buffer.items c.deref_mut.result.now c.put.new.into c.args.pdu.now (drop (length c.put.new.into) c.self.inside.buffer.items) c.self.inside.buffer.len
    (c.from-at.result * 65540) (omega arith) (omega arith) c.put.ensures.put c.deref_mut.ensures.value)
    (omega arith) (omega arith) c.self.invariant.2 (omega arith) (omega arith) (omega arith) other
