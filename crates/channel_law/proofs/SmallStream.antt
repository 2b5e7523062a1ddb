-- A small stream: four packets that carry four SNDUs.
use Rattle.std.proofs.Common.{◌≡◌, inl, ℕ, zero, suc, ◌+◌, ◌*◌, ◌<◌, true, false, List, [], ◌∷◌, length, take, drop, refl, arith}
use Rattle.wire_spec.specs.BitPolynomials.{bits, divided, remainder}
use Rattle.wire_spec.specs.Crc.{crc_remainder}
use Rattle.ts_spec.specs.Form.{IsUnit}
use Rattle.ts_spec.specs.Packet.{PacketFields, fields_of, is_packet, continues, pointer}
use Rattle.ts_spec.specs.Packetized.{packet_at, unit_at, joined_payloads, edge, IsIn, Packetizes}
use Rattle.ts_spec.specs.Reassembly.{PlacedUnit, accepted_units}
use Rattle.ts_spec.specs.Sndu.{sndu_form}
use Rattle.channel_spec.specs.Carried.{packets_sent}
use Rattle.channel_spec.specs.Delivered.{delivered_by_ule}
use Rattle.channel_law.specs.Examples.{small_datagram, small_units, small_begin, small_sent, small_recorded}

-- The packets that were sent.

-- the fields of such a packet
abbrev small_fields : ℕ → List ℕ → PacketFields
small_fields counter unit = record { pid = 256; starts = true; counter = counter; broken = false; payload = 0 ∷ unit }

-- those of the four
abbrev pub small_packets : List PacketFields
small_packets =
    small_fields 5 (unit_at small_units 0) ∷ small_fields 6 (unit_at small_units 1) ∷ small_fields 7 (unit_at small_units 2) ∷ small_fields 8 (unit_at small_units 3) ∷ []

-- they are the readable packets of the PID
pub packets_are : packets_sent 256 small_sent ≡ small_packets
unfolding is_packet fields_of
packets_are = refl

-- the second and the fourth unit are accepted
abbrev pub small_accepted : List PlacedUnit
small_accepted =
    record { place = 0; start = 1; moment = 4; unit = unit_at small_units 1 } ∷ record { place = 5; start = 1; moment = 16; unit = unit_at small_units 3 } ∷ []

pub accepted_are : accepted_units sndu_form 256 small_recorded ≡ small_accepted
unfolding is_packet fields_of bits divided remainder crc_remainder
accepted_are = refl

-- their datagrams are delivered
pub delivered_are : delivered_by_ule 256 small_recorded ≡ small_datagram 2 ∷ small_datagram 4 ∷ []
unfolding is_packet fields_of bits divided remainder crc_remainder
delivered_are = refl

-- They carry the units.

-- each of four cases
pub four : (P : ℕ → Type 0) → P 0 → P 1 → P 2 → P 3 → (n : ℕ) → n < 4 → P n
four P a b c d zero known = a
four P a b c d (suc zero) known = b
four P a b c d (suc (suc zero)) known = c
four P a b c d (suc (suc (suc zero))) known = d
four P a b c d (suc (suc (suc (suc n)))) known = absurd (omega arith)

-- each packet has 28 bytes of units
pub edges : (n : ℕ) → n < 5 → edge small_packets n ≡ 28 * n
unfolding edge
edges zero known = refl
edges (suc n) known = four (λ m. edge small_packets (suc m) ≡ 28 * suc m) refl refl refl refl n (omega arith)

-- each unit is one
pub each : (n : ℕ) → n < 4 → IsUnit sndu_form (unit_at small_units n)
unfolding bits divided remainder crc_remainder
each =
    four (λ n. IsUnit sndu_form (unit_at small_units n)) (record { size = refl; checked = refl }) (record { size = refl; checked = refl })
    (record { size = refl; checked = refl }) (record { size = refl; checked = refl })

-- counters go on
continuous : (m : ℕ) → m + 1 < 4 → continues (packet_at small_packets m) (packet_at small_packets (m + 1)) ≡ true
continuous zero known = refl
continuous (suc zero) known = refl
continuous (suc (suc zero)) known = refl
continuous (suc (suc (suc m))) known = absurd (omega arith)

-- each unit has 28 bytes
pub sizes : (n : ℕ) → n < 4 → length (unit_at small_units n) ≡ 28
sizes = four (λ n. length (unit_at small_units n) ≡ 28) refl refl refl refl

-- the pointers count no bytes
pointers : (m : ℕ) → m < 4 → pointer (packet_at small_packets m) ≡ 0
pointers = four (λ m. pointer (packet_at small_packets m) ≡ 0) refl refl refl refl

-- a unit starts in each
pub starts : (m : ℕ) → m < 4 → (packet_at small_packets m).starts ≡ true
starts = four (λ m. (packet_at small_packets m).starts ≡ true) refl refl refl refl

-- unit n begins in packet n alone
begins_in : (m n : ℕ) → IsIn small_packets m (small_begin n) → m ≡ n
begins_in m n here = omega (arith, edges m (omega (arith, here.within)), edges (m + 1) (omega (arith, here.within)), here.from, here.below)

-- so they carry the units
pub packetized : Packetizes sndu_form small_units small_packets small_begin
packetized = record {
  each = each;
  continuous = continuous;
  from_zero = refl;
  bytes = four (λ n. take (length (unit_at small_units n)) (drop (small_begin n) (joined_payloads small_packets)) ≡ unit_at small_units n) refl refl refl refl;
  next = λ n known. inl (omega (arith, sizes n known));
  to_end = refl;
  starts = λ m n known here. starts m here.within;
  pointed = λ m within is. (
    m,
    record {
      unit = within;
      starts = record { within = within; from = omega (arith, edges m (omega arith)); below = omega (arith, edges (m + 1) (omega arith)) };
      first = λ k known here. omega (arith, begins_in m k here);
    },
    omega (arith, edges m (omega arith), pointers m within),
  );
  enough = λ m n known here. omega (arith, begins_in m n here, edges (m + 1) (omega (arith, here.within)));
}
