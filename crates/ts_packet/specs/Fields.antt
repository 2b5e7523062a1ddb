-- A packet of the code as fields, and why bytes are no packet.
use Rattle.std.specs.Prelude.{ℕ, Bool, false, List, if◌then◌else◌, Option, Some, None}
use Rattle.ts_spec.specs.Packet.{PacketFields, lacks_sync, is_marked, has_bad_adaptation, lacks_payload, is_scrambled}
use Rattle.ts_packet.specs.declared.packet.Packet.{Packet}
use Rattle.ts_packet.specs.declared.packet.PacketFault.{PacketFault}
use Rattle.ts_packet.specs.declared.packet.PacketFault.TheVariants.{NoSync, Marked, Adaptation, NoPayload, Scrambled}

-- the fields of a packet
abbrev pub fields_in : Packet → PacketFields
fields_in packet = record {
  pid = packet.pid;
  starts = packet.starts;
  counter = packet.counter;
  broken = packet.broken;
  payload = packet.payload.now;
}

-- the first test that 188 bytes fail: NoSync, Marked, Adaptation, NoPayload, Scrambled (ISO/IEC 13818-1 clause 2.4.3.2)
abbrev pub refusal : List ℕ → Option PacketFault
refusal b =
    if lacks_sync b then Some NoSync else
    if is_marked b then Some Marked else
    if has_bad_adaptation b then Some Adaptation else
    if lacks_payload b then Some NoPayload else
    if is_scrambled b then Some Scrambled else
    None

-- the fields of a packet that is written without an adaptation field (ISO/IEC 13818-1 clause 2.4.3.2)
abbrev pub written_fields : ℕ → Bool → ℕ → List ℕ → PacketFields
written_fields pid starts counter payload = record { pid = pid; starts = starts; counter = counter; broken = false; payload = payload }
