use Rattle.std.proofs.Common.{refl}
use Rattle.ts_spec.specs.Packet.{is_packet, fields_of}
use Rattle.reception_spec.specs.Spans.{version_at_place}
use Rattle.reception_spec.proofs.each_record_is_counted_once.Goals as goal

pub returns : goal.returns
unfolding is_packet fields_of version_at_place
returns c = record { numbers = refl }
