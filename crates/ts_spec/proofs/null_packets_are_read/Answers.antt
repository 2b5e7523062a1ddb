use Rattle.std.proofs.Common.{refl}
use Rattle.ts_spec.specs.Packet.{is_packet}
use Rattle.ts_spec.proofs.null_packets_are_read.Goals as goal

pub returns : goal.returns
unfolding is_packet
returns c = record { null = refl; nothing = refl }
