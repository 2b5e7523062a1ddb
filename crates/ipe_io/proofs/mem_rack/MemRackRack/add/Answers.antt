use Rattle.std.proofs.Common.{◌<◌, length, ap, arith, ◌∙◌}
use Rattle.ipe_io.proofs.MemFiles.{one_added, same_room}
use Rattle.ipe_io.proofs.mem_rack.MemRackRack.add.Goals as goal

pub returns-clause-written : goal.returns-clause-written
returns-clause-written c =
    let unused : c.self.inside.used < length c.self.inside.files.items = omega (arith, c.if-self-len.false, c.len.ensures) in
    one_added c.self.inside.files.items c.args.self.now.files c.self.inside.used c.args.name.now _ c.begin.new.self (ap (λ s. s.files) c.self.view_is) unused
    c.begin.ensures.file c.in_ok-name.ensures.ok

pub invariant_of-self-2 : goal.invariant_of-self-2
invariant_of-self-2 c =
    let unused : c.self.inside.used < length c.self.inside.files.items = omega (arith, c.if-self-len.false, c.len.ensures) in
    same_room c.self.inside.files.items _ c.self.inside.used c.self.inside.room c.begin.new.self (omega (arith, unused)) c.self.invariant.1 c.self.invariant.2
    (c.begin.ensures.room ∙ ap (λ s. s.room) c.index_mut.ensures.value ∙ c.self.invariant.2 c.self.inside.used c.index_mut.result.now unused)
