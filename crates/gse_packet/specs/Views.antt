-- A packet of the code as one of the definitions, and a reader as the readings that are still to come.
use Rattle.std.specs.Prelude.{◌≡◌, ℕ, ◌+◌, ◌≤◌, List, [], ◌∷◌, length, Option, Some, None, Result, Ok, Err}
use Rattle.gse_spec.specs.Packet.{GsePacket, complete_packet, start_packet, middle_packet, end_packet, Reading, packet, cut, reuse_first, short, gse_length}
use Rattle.gse_packet.specs.declared.packet.Gse.{Gse}
use Rattle.gse_packet.specs.declared.packet.Gse.TheVariants as gse
use Rattle.gse_packet.specs.declared.packet.GseFault.{GseFault}
use Rattle.gse_packet.specs.declared.packet.GseFault.TheVariants as fault

abbrev pub packet_in : Gse → GsePacket
packet_in (gse.Complete protocol label pdu) = complete_packet protocol label pdu.now
packet_in (gse.Start id total protocol label written pdu) = start_packet id total protocol label written pdu.now
packet_in (gse.Middle id pdu) = middle_packet id pdu.now
packet_in (gse.End id pdu crc) = end_packet id pdu.now crc

abbrev pub refusal_in : GseFault → Reading
refusal_in fault.Cut = cut
refusal_in fault.ReuseFirst = reuse_first
refusal_in fault.Short = short

abbrev pub reading_in : Result Gse GseFault → Reading
reading_in (Ok p) = packet (packet_in p)
reading_in (Err f) = refusal_in f

-- where reading goes on, the bytes hold the packet
abbrev pub HoldsPacket : Result Gse GseFault → List ℕ → Type 0
HoldsPacket (Ok p) b = (2 ≤ length b) × (2 + gse_length b ≤ length b)
HoldsPacket (Err fault.Cut) b = Unit {0}
HoldsPacket (Err fault.ReuseFirst) b = (2 ≤ length b) × (2 + gse_length b ≤ length b)
HoldsPacket (Err fault.Short) b = Unit {0}

-- an answer gives the next of the readings to come
abbrev pub Gives : List Reading → Result (Option Gse) GseFault → List Reading → Type 0
Gives old (Ok None) new = (old ≡ []) × (new ≡ [])
Gives old (Ok (Some p)) new = old ≡ packet (packet_in p) ∷ new
Gives old (Err f) new = old ≡ refusal_in f ∷ new
