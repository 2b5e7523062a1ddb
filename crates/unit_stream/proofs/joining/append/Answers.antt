use Rattle.std.proofs.Common.{◌+◌, ◌-◌}
use Rattle.unit_stream.proofs.Buffers.{append_is}
use Rattle.unit_stream.proofs.joining.append.Goals as goal

pub returns-clause-bytes : goal.returns-clause-bytes
returns-clause-bytes c =
    append_is c.args.buffer.now c.args.piece.now c.copy_from_slice.new.self c.args.size c.min-count.result
    (c.args.size + c.min-count.result - c.args.size) c.requires c.min-count.ensures (c.copy_from_slice.ensures.after)
