-- A small m2ts recording of a ULE stream, and what a channel left of it: records dropped, repeated and damaged.
use Rattle.std.specs.Prelude.{◌≡◌, ℕ, ◌+◌, ◌*◌, List, [], ◌∷◌, ◌++◌, replicate}
use Rattle.ts_spec.specs.Packet.{null_packet}
use Rattle.ts_spec.specs.Packetized.{unit_at, Packetizes}
use Rattle.ts_spec.specs.Recording.{Record, m2ts, records_of}
use Rattle.ts_spec.specs.Sndu.{sndu_form}
use Rattle.channel_spec.specs.Channel.{Channel}
use Rattle.channel_spec.specs.Stamps.{KeepsStamps}
use Rattle.channel_spec.specs.Carried.{packets_sent, NoUndetectedError, ArrivedIntact}
use Rattle.channel_spec.specs.Delivered.{delivered_by_ule}

-- an IPv4 header without payload, with this Identification
abbrev pub small_datagram : ℕ → List ℕ
small_datagram id =
    0x45 ∷ 0 ∷ 0 ∷ 20 ∷ 0 ∷ id ∷ 0 ∷ 0 ∷ 0x40 ∷ 0x11 ∷ 0 ∷ 0 ∷ 10 ∷ 0 ∷ 0 ∷ 1 ∷ 239 ∷ 1 ∷ 2 ∷ 3 ∷ []

-- its SNDU without NPA address, of 28 bytes
abbrev pub small_sndu : ℕ → List ℕ → List ℕ
small_sndu id crc = 0x80 ∷ 24 ∷ 0x08 ∷ 0 ∷ small_datagram id ++ crc

-- four of them with their CRC-32
abbrev pub small_units : List (List ℕ)
small_units =
    small_sndu 1 (0xB9 ∷ 0xA1 ∷ 0x09 ∷ 0x38 ∷ [])
    ∷ small_sndu 2 (0xDA ∷ 0x70 ∷ 0x37 ∷ 0x19 ∷ [])
    ∷ small_sndu 3 (0x07 ∷ 0x7F ∷ 0xD6 ∷ 0x6B ∷ [])
    ∷ small_sndu 4 (0x1D ∷ 0xD2 ∷ 0x4B ∷ 0x5B ∷ [])
    ∷ []

-- a unit fills its packet, so unit n begins after n units of 28 bytes
abbrev pub small_begin : ℕ → ℕ
small_begin n = 28 * n

-- a packet of PID 256 that such an SNDU fills after an adaptation field of stuffing
abbrev pub small_packet : ℕ → List ℕ → List ℕ
small_packet counter unit = 0x47 ∷ 0x41 ∷ 0 ∷ (0x30 + counter) ∷ 154 ∷ 0 ∷ replicate 153 0xFF ++ 0 ∷ unit

-- a null packet stands among them; stamps begin anew after the first record
abbrev pub small_sent : List Record
small_sent = records_of m2ts (
    (0x3F ∷ 0xFF ∷ 0xFF ∷ 0xF0 ∷ small_packet 5 (unit_at small_units 0))
    ∷ (0 ∷ 0 ∷ 0 ∷ 4 ∷ small_packet 6 (unit_at small_units 1))
    ∷ (0 ∷ 0 ∷ 0 ∷ 8 ∷ null_packet)
    ∷ (0 ∷ 0 ∷ 0 ∷ 12 ∷ small_packet 7 (unit_at small_units 2))
    ∷ (0 ∷ 0 ∷ 0 ∷ 16 ∷ small_packet 8 (unit_at small_units 3))
    ∷ [])

-- a packet of another PID, which a multiplexer on the way adds
abbrev pub small_other : List ℕ
small_other = 0x47 ∷ 0x43 ∷ 0 ∷ 0x10 ∷ replicate 184 0

-- the first record is dropped, the second repeated after the null packet with a stamp of its own, then one of others inserted,
-- and the fourth damaged: its Identification is 9
abbrev pub small_recorded : List Record
small_recorded = records_of m2ts (
    (0 ∷ 0 ∷ 0 ∷ 4 ∷ small_packet 6 (unit_at small_units 1))
    ∷ (0 ∷ 0 ∷ 0 ∷ 8 ∷ null_packet)
    ∷ (0 ∷ 0 ∷ 0 ∷ 10 ∷ small_packet 6 (unit_at small_units 1))
    ∷ (0 ∷ 0 ∷ 0 ∷ 11 ∷ small_other)
    ∷ (0 ∷ 0 ∷ 0 ∷ 12 ∷ small_packet 7 (small_sndu 9 (0x07 ∷ 0x7F ∷ 0xD6 ∷ 0x6B ∷ [])))
    ∷ (0 ∷ 0 ∷ 0 ∷ 16 ∷ small_packet 8 (unit_at small_units 3))
    ∷ [])

-- all premises of the laws hold together where something is lost; the second and the fourth unit arrived intact
pub record SmallLoss : Type 0 where
  pub channel : Channel (256 ∷ []) small_sent small_recorded
  pub stamps : KeepsStamps m2ts channel
  pub packetized : Packetizes sndu_form small_units (packets_sent 256 small_sent) small_begin
  pub no_error : NoUndetectedError channel small_recorded sndu_form 256 small_units small_begin
  pub second : ArrivedIntact channel small_recorded 256 small_units small_begin 1
  pub fourth : ArrivedIntact channel small_recorded 256 small_units small_begin 3
  pub delivered : delivered_by_ule 256 small_recorded ≡ small_datagram 2 ∷ small_datagram 4 ∷ []
