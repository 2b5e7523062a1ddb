-- What a record holds, as the receiver sorts it.
use Rattle.std.specs.Prelude.{◌≡◌, ◌≤◌, ℕ, true, List, Some}
use Rattle.ts_spec.specs.Packet.{fields_of, is_packet}
use Rattle.ts_spec.specs.Recording.{Record}
use Rattle.reception_spec.specs.Packets.{is_unreadable, lacks_content}
use Rattle.ts_packet.specs.Fields.{fields_in}
use Rattle.ts_packet.specs.declared.packet.Packet.{Packet}
use Rattle.demux_core.specs.declared.content.Content.{Content}
use Rattle.demux_core.specs.declared.content.Content.TheVariants as content

-- these bytes are a packet of these fields
pub record IsRead (packet : Packet) (bytes : List ℕ) : Type 0 where
  pub readable : is_packet bytes ≡ true
  pub fields_are : fields_in packet ≡ fields_of bytes

abbrev pub Holds : Record → Content → Type 0
Holds r content.Unreadable = is_unreadable r ≡ true
Holds r content.WithoutPayload = lacks_content r ≡ true
Holds r (content.Packet packet moment) = (r.moment ≡ Some moment) × IsRead packet r.bytes

-- the packet's PID has 13 bits
abbrev pub IsInRange : Content → Type 0
IsInRange content.Unreadable = Unit {0}
IsInRange content.WithoutPayload = Unit {0}
IsInRange (content.Packet packet moment) = packet.pid ≤ 8191
