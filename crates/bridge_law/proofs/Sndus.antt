-- Ethernet frames in SNDUs: each is read back, and the packets that are written are those of the PID.
use Rattle.std.proofs.Common.{◌≡◌, ℕ, zero, suc, ◌<◌, ◌≤◌, Bool, true, cond, ◌&&◌, eqb, List, [], ◌∷◌, ◌++◌, length, map, flat_map, option_to_list, refl, ap, ap₂, sym, ◌∙◌, subst, arith, eq-eqb, Option, Some, None}
use Rattle.std.specs.Prelude.{filter, ◌↔◌}
use Rattle.std.proofs.lemmas.Bool.{le-leb}
use Rattle.std.proofs.lemmas.List.Folds.{flat_map-map}
use Rattle.ts_spec.specs.Form.{IsLawful, IsUnit}
use Rattle.ts_spec.specs.Packet.{PacketFields, fields_of, is_packet, packet_bytes}
use Rattle.ts_spec.specs.Packetized.{packet_at, unit_at, Packetizes}
use Rattle.ts_spec.specs.Recording.{plain, plain_record, records_of}
use Rattle.ts_spec.specs.Received.{is_of}
use Rattle.ts_spec.specs.Reassembly.{PlacedUnit, accepted_units}
use Rattle.ts_spec.specs.Sndu.{SnduFields, sndu_form, sndu_fields, sndu_bytes, is_sndu}
use Rattle.ts_spec.specs.Chain.{chain_end, frame_at}
use Rattle.channel_spec.specs.Carried.{packets_sent}
use Rattle.unit_stream.specs.Packers.{written}
use Rattle.ts_packet.specs.Fields.{written_fields}
use Rattle.ule_unit.specs.Writable.{IsWritable}
use Rattle.stream_law.proofs.Packets.{IsOn, packetized_on}
use Rattle.stream_law.proofs.Records.{CarryPackets, read_of, sent_is_read}
use Rattle.bridge_spec.specs.Frames.{on_pid, frame_of_sndu, received_ethernet_frames}
use Rattle.bridge_spec.specs.Sending.{has_room, sndu_with_frame, packets_with, bridged_pieces}
use Rattle.bridge_spec.specs.Carried.{CarriesOnPid}
use Rattle.bridge_law.specs.Rooms.{HaveRoom}
use Rattle.bridge_law.proofs.Rooms.{bounds}

writable : (pid : ℕ) (frame : List ℕ) → has_room (on_pid pid) frame ≡ true → IsWritable None 1 frame
writable pid frame room = record { address = tt; sixteen_bits = omega arith; size = (bounds 14 32757 (length frame) room).1 }

-- Each SNDU carries its frame.
module _ (read : (npa : Option (List ℕ)) (first_type : ℕ) (pdu : List ℕ) → IsWritable npa first_type pdu
    → sndu_fields (sndu_bytes npa first_type pdu) ≡ record { npa = npa; first_type = first_type; bytes = pdu }) where
  one_carried : (pid : ℕ) (frame : List ℕ) → has_room (on_pid pid) frame ≡ true → frame_of_sndu (sndu_with_frame frame) ≡ frame ∷ []
  one_carried pid frame room =
      ap (λ (f : SnduFields). option_to_list (frame_at (chain_end f.first_type f.bytes))) (read None 1 frame (writable pid frame room))
      ∙ ap (λ (b : Bool). option_to_list (cond {A = Option (List ℕ)} b (Some frame) None)) (le-leb 14 (length frame) (bounds 14 32757 (length frame) room).0)

  pub sndus_carry : (pid : ℕ) (frames : List (List ℕ)) → HaveRoom (on_pid pid) frames → flat_map frame_of_sndu (map sndu_with_frame frames) ≡ frames
  sndus_carry pid [] rooms = refl
  sndus_carry pid (frame ∷ frames) rooms =
      ap₂ (λ (x y : List (List ℕ)). x ++ y) (one_carried pid frame rooms.0) (sndus_carry pid frames rooms.1)

-- and is a unit
module _ (written_is : (npa : Option (List ℕ)) (first_type : ℕ) (pdu : List ℕ) → IsWritable npa first_type pdu → is_sndu (sndu_bytes npa first_type pdu) ≡ true)
    (units : (unit : List ℕ) → (is_sndu unit ≡ true) ↔ IsUnit sndu_form unit) where
  pub each_unit : (pid : ℕ) (frames : List (List ℕ)) → HaveRoom (on_pid pid) frames → (n : ℕ) → n < length (map sndu_with_frame frames) → IsUnit sndu_form (unit_at (map sndu_with_frame frames) n)
  each_unit pid [] rooms n less = absurd (omega (arith, less))
  each_unit pid (frame ∷ frames) rooms zero less = (units (sndu_with_frame frame)).0 (written_is None 1 frame (writable pid frame rooms.0))
  each_unit pid (frame ∷ frames) rooms (suc n) less = each_unit pid frames rooms.1 n (omega (arith, less))

-- Packets as they are written are read.
module _ (readable : (pid : ℕ) (starts : Bool) (counter : ℕ) (payload : List ℕ) → counter ≤ 15 → pid ≤ 8191 → length payload ≡ 184 → is_packet (packet_bytes pid starts counter payload) ≡ true)
    (fields : (pid : ℕ) (starts : Bool) (counter : ℕ) (payload : List ℕ) → counter ≤ 15 → pid ≤ 8191 → fields_of (packet_bytes pid starts counter payload) ≡ written_fields pid starts counter payload)
    (pid : ℕ) (small : pid ≤ 8191) where
  reads_back : (packet : PacketFields) → IsOn pid packet → fields_of (written packet) ≡ packet
  reads_back packet on =
      fields packet.pid packet.starts packet.counter packet.payload on.counter (omega (arith, small, on.pid_is))
      ∙ ap (λ (b : Bool). record { pid = packet.pid; starts = packet.starts; counter = packet.counter; broken = b; payload = packet.payload }) (sym on.broken)

  is_of_pid : (packet : PacketFields) → IsOn pid packet → is_of pid (written packet) ≡ true
  is_of_pid packet on =
      ap₂ (λ (b : Bool) (p : PacketFields). b && eqb p.pid pid)
      (readable packet.pid packet.starts packet.counter packet.payload on.counter (omega (arith, small, on.pid_is)) on.size) (reads_back packet on)
      ∙ eq-eqb packet.pid pid on.pid_is

  all_read : (packets : List PacketFields) → ((n : ℕ) → n < length packets → IsOn pid (packet_at packets n)) → read_of pid (map written packets) ≡ packets
  all_read [] on = refl
  all_read (packet ∷ packets) on =
      let first : IsOn pid packet = on 0 (omega arith) in
      ap (λ (b : Bool). map fields_of (cond b (written packet ∷ filter (is_of pid) (map written packets)) (filter (is_of pid) (map written packets)))) (is_of_pid packet first)
      ∙ ap₂ (λ (p : PacketFields) (ps : List PacketFields). p ∷ ps) (reads_back packet first) (all_read packets (λ n less. on (suc n) (omega (arith, less))))

  plain_carry : (pieces : List (List ℕ)) → CarryPackets (map plain_record pieces) pieces
  plain_carry [] = tt
  plain_carry (piece ∷ pieces) = ((0, refl), refl, plain_carry pieces)

  pub packets_are_sent : (frames : List (List ℕ)) → packets_sent pid (records_of plain (bridged_pieces (on_pid pid) frames)) ≡ packets_with pid frames
  packets_are_sent frames =
      sent_is_read pid (records_of plain (bridged_pieces (on_pid pid) frames)) (bridged_pieces (on_pid pid) frames) (plain_carry (bridged_pieces (on_pid pid) frames))
      ∙ all_read (packets_with pid frames) (λ n less. packetized_on sndu_form true pid 0 (map sndu_with_frame frames) (omega arith) n less)

pub on_pid_carried : (pid : ℕ) (frames : List (List ℕ)) (begin : ℕ → ℕ) → IsLawful sndu_form
    → Packetizes sndu_form (map sndu_with_frame frames) (packets_with pid frames) begin
    → packets_sent pid (records_of plain (bridged_pieces (on_pid pid) frames)) ≡ packets_with pid frames
    → flat_map frame_of_sndu (map sndu_with_frame frames) ≡ frames
    → CarriesOnPid pid (records_of plain (bridged_pieces (on_pid pid) frames)) frames
on_pid_carried pid frames begin lawful packetizes sent carry = record {
  units = map sndu_with_frame frames;
  begin = begin;
  is_carried = record {
    lawful = lawful;
    packetized = subst (λ (ps : List PacketFields). Packetizes sndu_form (map sndu_with_frame frames) ps begin) (sym sent) packetizes;
  };
  items_are = sym carry;
}

-- Where the units of such a stream are those that were sent, a receiver of all of it has the frames back.
pub frames_come_back : (pid : ℕ) (frames : List (List ℕ))
    → map (λ (accepted : PlacedUnit). accepted.unit) (accepted_units sndu_form pid (records_of plain (bridged_pieces (on_pid pid) frames))) ≡ map sndu_with_frame frames
    → flat_map frame_of_sndu (map sndu_with_frame frames) ≡ frames
    → received_ethernet_frames (on_pid pid) (bridged_pieces (on_pid pid) frames) ≡ frames
frames_come_back pid frames units carry =
    sym (flat_map-map frame_of_sndu (λ (accepted : PlacedUnit). accepted.unit) (accepted_units sndu_form pid (records_of plain (bridged_pieces (on_pid pid) frames))))
    ∙ ap (flat_map frame_of_sndu) units
    ∙ carry
