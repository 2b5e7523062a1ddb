-- The datagram is put after the head.
use Rattle.std.proofs.Common.{◌+◌, length, refl, sym}
use Rattle.ule_unit.specs.Writable.{sndu_head}
use Rattle.byte_slices.proofs.Puts.{put_behind}
use Rattle.ule_unit.proofs.sndu.write_front.Goals as goal

pub returns-clause-written : goal.returns-clause-written
returns-clause-written c =
    put_behind (sndu_head c.args.npa c.args.ether_type (length c.args.datagram.now)) c.args.datagram.now c.args.into.now c.write_head-start.new.into c.put.new.into c.write_head-start.result
    (c.write_head-start.result + length c.args.datagram.now) (sym c.write_head-start.ensures.size) refl c.write_head-start.ensures.written c.put.ensures.put
