-- What is left of a small stream: the units that arrived intact are accepted, and no error goes undetected.
use Rattle.std.proofs.Common.{◌≡◌, inl, inr, ℕ, ◌+◌, ◌<◌, true, Some, List, [], ◌∷◌, map, refl, ap, sym, ◌∙◌, subst, arith}
use Rattle.std.specs.Prelude.{slice_index, is_some}
use Rattle.ts_spec.specs.Packet.{PacketFields, fields_of, is_packet}
use Rattle.ts_spec.specs.Packetized.{unit_at, Packetizes}
use Rattle.ts_spec.specs.Received.{record_at, Arrival, arrival_at, arrivals, received_packets}
use Rattle.ts_spec.specs.Reassembly.{PlacedUnit, accepted_units}
use Rattle.ts_spec.specs.Sndu.{sndu_form}
use Rattle.channel_spec.specs.Carried.{packets_sent, IsStartOf, HoldsPart, IsSentUnit, IsKept, ArrivedIntact, NoUndetectedError}
use Rattle.channel_law.specs.Examples.{small_units, small_begin, small_sent, small_recorded, SmallLoss}
use Rattle.channel_law.proofs.Member.{Member, member_contains, member_map}
use Rattle.channel_law.proofs.SmallStream.{small_packets, packets_are, small_accepted, accepted_are, delivered_are, four, edges, sizes, packetized}
use Rattle.channel_law.proofs.SmallChannel.{small_place, channel, stamps}

-- No error goes undetected.

-- the packet of number m stands at this place
arrival_places : (m : ℕ) → m < 4 → (arrival_at (arrivals 256 small_sent) m).place ≡ slice_index (0 ∷ 1 ∷ 3 ∷ 4 ∷ []) m
unfolding is_packet fields_of
arrival_places = four (λ m. (arrival_at (arrivals 256 small_sent) m).place ≡ slice_index (0 ∷ 1 ∷ 3 ∷ 4 ∷ []) m) refl refl refl refl

-- unit n starts in packet n, after its pointer
start_of : (n : ℕ) → n < 4 → IsStartOf small_units (packets_sent 256 small_sent) small_begin n n 1
start_of n known =
    subst (λ (packets : List PacketFields). IsStartOf small_units packets small_begin n n 1) (sym packets_are)
    (record {
      unit = known;
      packet = record { within = known; from = omega (arith, edges n (omega arith)); below = omega (arith, edges (n + 1) (omega arith)) };
      start_is = omega (arith, edges n (omega arith));
    })

-- a unit that starts there is a sent one
sent_unit : (n : ℕ) (a : PlacedUnit) → n < 4 → 1 ≡ a.start → small_place a.place ≡ Some (slice_index (0 ∷ 1 ∷ 3 ∷ 4 ∷ []) n) → unit_at small_units n ≡ a.unit
    → IsSentUnit channel 256 small_units small_begin n a
sent_unit n a known start place bytes = record {
  packet = n;
  start = subst (λ (t : ℕ). IsStartOf small_units (packets_sent 256 small_sent) small_begin n n t) start (start_of n known);
  record_is = place ∙ ap (λ (t : ℕ). Some t) (sym (arrival_places n known));
  bytes = bytes;
}

-- each accepted unit is a sent one
no_error : NoUndetectedError channel small_recorded sndu_form 256 small_units small_begin
no_error = record {
  each = λ a contained. by_unit a
      (subst (λ (accepted : List PlacedUnit). Member accepted a) accepted_are (member_contains (accepted_units sndu_form 256 small_recorded) a contained));
}
  where
    by_unit : (a : PlacedUnit) → Member small_accepted a → (n : ℕ) × IsSentUnit channel 256 small_units small_begin n a
    by_unit a (inl second) =
        (1, sent_unit 1 a (omega arith) (ap (λ (x : PlacedUnit). x.start) second) (ap (λ (x : PlacedUnit). small_place x.place) (sym second)) (ap (λ (x : PlacedUnit). x.unit) second))
    by_unit a (inr (inl fourth)) =
        (3, sent_unit 3 a (omega arith) (ap (λ (x : PlacedUnit). x.start) fourth) (ap (λ (x : PlacedUnit). small_place x.place) (sym fourth)) (ap (λ (x : PlacedUnit). x.unit) fourth))
    by_unit a (inr (inr never)) = absurd never

-- Units that arrived intact.

-- a packet's place, and the byte with its counter
abbrev place_and_counter : Arrival → ℕ × ℕ
place_and_counter a = (a.place, slice_index a.bytes 3)

-- three packets are received
abbrev small_received : List (ℕ × ℕ)
small_received = (0, 0x36) ∷ (4, 0x37) ∷ (5, 0x38) ∷ []

-- by these two
received_are : map place_and_counter (received_packets 256 small_recorded) ≡ small_received
unfolding is_packet fields_of
received_are = refl

-- only packet n holds a part of unit n
only_packet : (n m : ℕ) → n < 4 → HoldsPart small_units (packets_sent 256 small_sent) small_begin n m → m ≡ n
only_packet n m known part = by_part (subst (λ (packets : List PacketFields). HoldsPart small_units packets small_begin n m) packets_are part)
  where
    by_part : HoldsPart small_units small_packets small_begin n m → m ≡ n
    by_part it = omega (arith, edges m (omega (arith, it.within)), edges (m + 1) (omega (arith, it.within)), it.begun, it.not_over, sizes n known)

-- a unit in one packet arrived intact where that is kept and received
intact_at : (n j : ℕ) → n < 4 → IsKept channel small_recorded 256 n j
    → ((before : Arrival) → Member (received_packets 256 small_recorded) before → before.place < j → before.bytes ≡ (record_at small_recorded j).bytes → ⊥)
    → ArrivedIntact channel small_recorded 256 small_units small_begin n
intact_at n j known kept differs = record {
  at = λ m. j;
  kept = λ m part. subst (λ (t : ℕ). IsKept channel small_recorded 256 t j) (sym (only_packet n m known part)) kept;
  differs = λ m before here last same. differs before (member_contains (received_packets 256 small_recorded) before last.received) last.before same;
  alone = λ m k between part_m part_k received above below. absurd (omega (arith, above, below));
}

-- the bytes of the packet of number m are those of the record at its place
arrival_bytes : (m : ℕ) → m < 4 → (arrival_at (arrivals 256 small_sent) m).bytes ≡ (record_at small_sent (slice_index (0 ∷ 1 ∷ 3 ∷ 4 ∷ []) m)).bytes
unfolding is_packet fields_of
arrival_bytes =
    four (λ m. (arrival_at (arrivals 256 small_sent) m).bytes ≡ (record_at small_sent (slice_index (0 ∷ 1 ∷ 3 ∷ 4 ∷ []) m)).bytes) refl refl refl refl

-- the packet was kept at a place
kept_at : (m j : ℕ) → m < 4 → j < 6 → small_place j ≡ Some (slice_index (0 ∷ 1 ∷ 3 ∷ 4 ∷ []) m)
    → (record_at small_recorded j).bytes ≡ (record_at small_sent (slice_index (0 ∷ 1 ∷ 3 ∷ 4 ∷ []) m)).bytes → is_some (record_at small_recorded j).moment ≡ true
    → IsKept channel small_recorded 256 m j
kept_at m j known within place bytes moment = record {
  within = within;
  place = place ∙ ap (λ (t : ℕ). Some t) (sym (arrival_places m known));
  same = bytes ∙ sym (arrival_bytes m known);
  has_moment = moment;
}

-- nothing is received before the second
second : ArrivedIntact channel small_recorded 256 small_units small_begin 1
second =
    intact_at 1 0 (omega arith) (kept_at 1 0 (omega arith) (omega arith) refl refl refl)
    (λ before there less same. absurd (omega (arith, less)))

-- the packet received last before the fourth has another counter
fourth : ArrivedIntact channel small_recorded 256 small_units small_begin 3
fourth =
    intact_at 3 5 (omega arith) (kept_at 3 5 (omega arith) (omega arith) refl refl refl)
    (λ before there less same.
    by_place before less (ap (λ (bytes : List ℕ). slice_index bytes 3) same)
    (subst (λ (t : List (ℕ × ℕ)). Member t (place_and_counter before)) received_are (member_map place_and_counter (received_packets 256 small_recorded) before there)))
  where
    by_place : (before : Arrival) → before.place < 5 → slice_index before.bytes 3 ≡ 0x38
        → Member small_received (place_and_counter before) → ⊥
    by_place before less same (inl one) = omega (arith, same, ap (λ (t : ℕ × ℕ). t.1) one)
    by_place before less same (inr (inl two)) = omega (arith, same, ap (λ (t : ℕ × ℕ). t.1) two)
    by_place before less same (inr (inr (inl three))) = omega (arith, less, ap (λ (t : ℕ × ℕ). t.0) three)
    by_place before less same (inr (inr (inr never))) = absurd never

-- all of it together
pub small_loss : SmallLoss
small_loss = record {
  channel = channel;
  stamps = stamps;
  packetized = subst (λ (packets : List PacketFields). Packetizes sndu_form small_units packets small_begin) (sym packets_are) packetized;
  no_error = no_error;
  second = second;
  fourth = fourth;
  delivered = delivered_are;
}
