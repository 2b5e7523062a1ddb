-- The pieces of a bridge have one size, and are those of their bytes.
use Rattle.std.proofs.Common.{◌≡◌, ℕ, suc, ◌<◌, true, List, [], ◌∷◌, length, map, sym, arith, append-nil}
use Rattle.wire_spec.specs.Lists.{joined, IsCut}
use Rattle.ts_spec.specs.Packet.{PacketFields}
use Rattle.ts_spec.specs.Packetized.{packet_at}
use Rattle.ts_spec.specs.Sndu.{sndu_form}
use Rattle.unit_stream.specs.Packers.{written}
use Rattle.stream_law.proofs.Packets.{IsOn, packetized_on}
use Rattle.gse_spec.specs.Sending.{packets_for}
use Rattle.gse_spec.specs.Classes.{is_urgent_pdu, ids_for}
use Rattle.gse_law.proofs.Each.{Each, each_at}
use Rattle.gse_law.proofs.PackedFrames.{packed_fits}
use Rattle.gse_law.proofs.Sizes.{frames_sized}
use Rattle.bridge_spec.specs.Frames.{BridgeCarrier, on_pid, on_isi, size_of_piece}
use Rattle.bridge_spec.specs.Sending.{sndu_with_frame, pdu_with_frame, packets_with, bridged_pieces}
use Rattle.bridge_law.specs.Rooms.{HaveRoom}
use Rattle.bridge_law.proofs.Pdus.{pdus_sendable}

packets_sized : (pid : ℕ) (packets : List PacketFields) → ((n : ℕ) → n < length packets → IsOn pid (packet_at packets n)) → Each (λ (piece : List ℕ). length piece ≡ 188) (map written packets)
packets_sized pid [] on = tt
packets_sized pid (packet ∷ packets) on =
    (let size : length packet.payload ≡ 184 = (on 0 (omega arith)).size in omega (arith, size), packets_sized pid packets (λ n less. on (suc n) (omega (arith, less))))

pub bridged_cut : (carrier : BridgeCarrier) (frames : List (List ℕ)) → HaveRoom carrier frames
    → IsCut (size_of_piece carrier) (joined (bridged_pieces carrier frames)) (bridged_pieces carrier frames) []
bridged_cut (on_pid pid) frames rooms = record {
  whole = sym (append-nil (joined (bridged_pieces (on_pid pid) frames)));
  each = each_at (λ (piece : List ℕ). length piece ≡ 188) (bridged_pieces (on_pid pid) frames)
      (packets_sized pid (packets_with pid frames) (λ n less. packetized_on sndu_form true pid 0 (map sndu_with_frame frames) (omega arith) n less));
  short = omega arith;
}
bridged_cut (on_isi isi) frames rooms = record {
  whole = sym (append-nil (joined (bridged_pieces (on_isi isi) frames)));
  each = frames_sized 2000 isi (packets_for [] 2000 (map pdu_with_frame frames)) (omega arith)
      (packed_fits (is_urgent_pdu []) (ids_for []) 1990 (map pdu_with_frame frames) (pdus_sendable isi frames rooms));
  short = omega arith;
}
