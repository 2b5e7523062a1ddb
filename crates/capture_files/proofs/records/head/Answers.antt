use Rattle.std.proofs.Common.{length, ◌∙◌}
use Rattle.capture_files.proofs.Texts.{head_low}
use Rattle.capture_files.proofs.records.head.Goals as goal

pub returns : goal.returns
returns c = record { written = c.record_head.ensures.written ∙ head_low (length c.args.datagram.now) }
