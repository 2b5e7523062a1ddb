-- What a bridge makes of Ethernet frames. Profile: an SNDU without address, packed; a PDU for all receivers; and nothing of a frame
-- that has fewer bytes than an Ethernet header, or more than a unit can hold beside an address.
use Rattle.std.specs.Prelude.{ℕ, Bool, true, ◌&&◌, List, [], length, map, filter, count_by, nat_lt, nat_le, None}
use Rattle.addr_rules.specs.declared.filter.Label.TheVariants.{Broadcast}
use Rattle.ts_spec.specs.Packet.{PacketFields}
use Rattle.ts_spec.specs.Sndu.{sndu_form, sndu_bytes}
use Rattle.unit_stream.specs.Packing.{packetized}
use Rattle.unit_stream.specs.Packers.{written}
use Rattle.gse_spec.specs.Reassembly.{Pdu}
use Rattle.gse_spec.specs.Sending.{frames_for}
use Rattle.bridge_spec.specs.Frames.{BridgeCarrier, on_pid, on_isi}

-- Type of a bridged frame (RFC 4326 section 5.2)
abbrev pub bridged_type : ℕ
bridged_type = 1

-- the bytes of an Ethernet header, and of the longest Ethernet frame that is carried
abbrev pub least_frame : ℕ
least_frame = 14

abbrev pub longest_frame : BridgeCarrier → ℕ
longest_frame (on_pid pid) = 32757
longest_frame (on_isi isi) = 65527

-- the Ethernet frame is shorter than its header
abbrev pub is_too_short : List ℕ → Bool
is_too_short frame = nat_lt (length frame) least_frame

-- the Ethernet frame is longer than the longest that is carried
abbrev pub is_too_long : BridgeCarrier → List ℕ → Bool
is_too_long carrier frame = nat_lt (longest_frame carrier) (length frame)

-- an Ethernet frame has 14 bytes or more, and no more than a unit holds
abbrev pub has_room : BridgeCarrier → List ℕ → Bool
has_room carrier frame = nat_le least_frame (length frame) && nat_le (length frame) (longest_frame carrier)

-- of captured Ethernet frames those that are carried, in order, and how many are not
abbrev pub frames_to_carry : BridgeCarrier → List (List ℕ) → List (List ℕ)
frames_to_carry carrier captured = filter (has_room carrier) captured

abbrev pub too_short_count : List (List ℕ) → ℕ
too_short_count captured = count_by is_too_short captured

abbrev pub too_long_count : BridgeCarrier → List (List ℕ) → ℕ
too_long_count carrier captured = count_by (is_too_long carrier) captured

-- an Ethernet frame in an SNDU without address
abbrev pub sndu_with_frame : List ℕ → List ℕ
sndu_with_frame frame = sndu_bytes None bridged_type frame

-- an Ethernet frame as a PDU for all receivers
abbrev pub pdu_with_frame : List ℕ → Pdu
pdu_with_frame frame = record { protocol = bridged_type; label = Broadcast; bytes = frame }

-- the packets of a PID that carry Ethernet frames: their one packetization, from counter 0
abbrev pub packets_with : ℕ → List (List ℕ) → List PacketFields
packets_with pid frames = packetized sndu_form true pid 0 (map sndu_with_frame frames)

-- what a bridge writes of Ethernet frames, in pieces; they are in one class
abbrev pub bridged_pieces : BridgeCarrier → List (List ℕ) → List (List ℕ)
bridged_pieces (on_pid pid) frames = map written (packets_with pid frames)
bridged_pieces (on_isi isi) frames = frames_for [] isi 2000 (map pdu_with_frame frames)
