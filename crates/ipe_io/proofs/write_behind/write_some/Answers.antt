use Rattle.ipe_io.proofs.Behind.{took_none}
use Rattle.ipe_io.proofs.write_behind.write_some.Goals as goal

pub returns-in-Ok-eq0-clause-written : goal.returns-in-Ok-eq0-clause-written
returns-in-Ok-eq0-clause-written g c =
    took_none _ _ _ c.write.result c.in-Ok-eq0.field-0 c.args.piece.now c.in-Ok-eq0.is c.in-Ok-eq0.field-0-test c.loop.invariant c.write.ensures.bytes
