use Rattle.std.proofs.Common.{ap, ◌∙◌, arith}
use Rattle.std.specs.Int.{w16, to_be_bytes}
use Rattle.wire_spec.specs.Crc.{crc32_remainder}
use Rattle.gse_packet.proofs.CheckSums.{four_pieces, two_bytes, all_bytes}
use Rattle.gse_packet.proofs.sums.over_pieces.Goals as goal

pub returns : goal.returns
returns c = record {
  sum =
      four_pieces 4294967295 c.crc32-length.result c.crc32_step-fields.result c.crc32_step-head.result c.crc32_step.result
      (to_be_bytes w16 c.args.total) (to_be_bytes w16 c.args.protocol) c.args.label.now c.args.bytes.now
      (omega arith) (two_bytes c.args.total) (two_bytes c.args.protocol) (all_bytes c.args.label.now c.type_inv.label) (all_bytes c.args.bytes.now c.type_inv.bytes)
      (c.crc32-length.ensures ∙ ap (crc32_remainder 4294967295) c.to_be_bytes.ensures)
      (c.crc32_step-fields.ensures ∙ ap (crc32_remainder c.crc32-length.result) c.to_be_bytes-2.ensures)
      c.crc32_step-head.ensures c.crc32_step.ensures
      c.crc32-length.type_inv c.crc32_step-fields.type_inv;
}
