use Rattle.std.proofs.Common.{refl}
use Rattle.wire_spec.specs.BitPolynomials.{bits, divided, remainder}
use Rattle.wire_spec.specs.Crc.{crc_remainder}
use Rattle.gse_spec.specs.Frame.{frame_refusal, frame_fields}
use Rattle.gse_spec.specs.Packet.{reading_at_front, readings_of}
use Rattle.bb_reception_spec.proofs.each_frame_is_counted_once.Goals as goal

pub returns : goal.returns
unfolding bits divided remainder crc_remainder frame_refusal frame_fields reading_at_front readings_of
returns c = record { numbers = refl; pairs = refl }
