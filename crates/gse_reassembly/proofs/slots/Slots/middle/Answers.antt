use Rattle.std.proofs.Common.{◌+◌, ◌*◌, length, take, drop, ◌++◌, Some, arith}
use Rattle.gse_reassembly.proofs.Parts.{refilled}
use Rattle.gse_reassembly.proofs.Steps.{middle_now, held_is, held_fits}
use Rattle.gse_reassembly.proofs.slots.Slots.middle.Goals as goal

pub returns-clause-opens : goal.returns-clause-opens
returns-clause-opens g c = λ other.
    let is = held_is c.self.inside.slots.items c.from-at.result c.index.result.now (Some c.in-Some.open) (omega arith) c.index.ensures c.in-Some.is in
    let fits = held_fits c.self.inside.slots.items c.from-at.result c.in-Some.open c.self.invariant.2 is in
    middle_now c.args.self.now c.self.inside.slots.items c.self.inside.buffer.items
    (take c.self.inside.buffer.len (c.put.new.into ++ drop (length c.put.new.into) c.self.inside.buffer.items)) c.args.pdu.now c.args.id c.from-at.result c.self.inside.frame_number
    c.in-Some.open c.self.view_is c.from-at.ensures
    (refilled c.self.inside.buffer.items c.deref_mut.result.now c.put.new.into c.args.pdu.now (drop (length c.put.new.into) c.self.inside.buffer.items) c.self.inside.buffer.len
    (c.from-at.result * 65540 + c.in-Some.open.fill) (omega arith) (omega (arith, fits.0, fits.1)) c.put.ensures.put c.deref_mut.ensures.value)
    (omega arith) (omega arith) c.self.invariant.2 (omega arith) is (omega arith) other
