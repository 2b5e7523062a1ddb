-- What arrives of a small stream where an error goes undetected.
use Rattle.std.proofs.Common.{◌≡◌, ◌⊎◌, inl, inr, ℕ, ◌+◌, ◌*◌, ◌^◌, ◌<◌, true, Option, None, Some, List, [], ◌∷◌, ◌++◌, take, drop, length, map, flat_map, refl, ap, sym, ◌∙◌, subst, arith}
use Rattle.std.specs.Prelude.{slice_index, slice_index_or, is_some, Contains}
use Rattle.wire_spec.specs.BitPolynomials.{bits, divided, remainder}
use Rattle.wire_spec.specs.Crc.{crc_remainder}
use Rattle.ts_spec.specs.Packet.{PacketFields, fields_of, is_packet}
use Rattle.ts_spec.specs.Packetized.{unit_at, joined_payloads, Packetizes}
use Rattle.ts_spec.specs.Recording.{Record, m2ts}
use Rattle.ts_spec.specs.Received.{record_at, Arrival, arrival_at, arrivals, received_packets}
use Rattle.ts_spec.specs.Reassembly.{PlacedUnit, accepted_units}
use Rattle.ts_spec.specs.Sndu.{sndu_form}
use Rattle.channel_spec.specs.Channel.{Channel}
use Rattle.channel_spec.specs.Carried.{packets_sent, IsStartOf, HoldsPart, IsSentUnit, IsKept, ArrivedIntact, NoUndetectedError}
use Rattle.channel_law.specs.Examples.{small_datagram, small_units, small_begin, small_sent}
use Rattle.channel_law.proofs.Member.{Member, contains_member, member_contains, member_map}
use Rattle.channel_law.proofs.SmallStream.{small_packets, packets_are, four, edges, sizes, packetized}
use Rattle.plan_spec.specs.Changes.{pid_in, pids_in}
use Rattle.stream_spec.specs.Services.{IsPidOf}
use Rattle.reception_spec.specs.Spans.{span_of}
use Rattle.reception_spec.specs.Delivered.{told_by, service_on, delivered_of, delivered_on}
use Rattle.loss_law.specs.Loss.{CarriesFor}
use Rattle.loss_law.specs.Spans.{IsRecordedFor}
use Rattle.loss_law.proofs.ServiceSpans.{span_whole}
use Rattle.intact_law.specs.Intact.{AreIntact, CarriesUnitsFor, own_on}
use Rattle.intact_law.specs.Examples.{m2ts_plan, altered_sndu, altered_recording, SmallErrors}

-- The service has one PID, and one span.

pids_are : pids_in m2ts_plan 0 ≡ 256 ∷ []
unfolding pids_in pid_in
pids_are = refl

pid_is : pid_in m2ts_plan 0 0 ≡ Some 256
unfolding pid_in
pid_is = refl

span_is_all : span_of m2ts_plan 0 256 altered_recording ≡ altered_recording
span_is_all = span_whole m2ts_plan 0 256 altered_recording refl pid_is

one_pid : (pid : ℕ) → IsPidOf m2ts_plan 0 pid → 256 ≡ pid
one_pid pid own = by_member (member_contains (256 ∷ []) pid (subst (λ (pids : List ℕ). Contains pids pid) pids_are own.own))
  where
    by_member : Member (256 ∷ []) pid → 256 ≡ pid
    by_member (inl same) = same
    by_member (inr never) = absurd never

carries : CarriesUnitsFor m2ts_plan 0 small_sent (λ pid. small_units) (λ pid. small_begin)
carries pid own =
    subst (λ (p : ℕ). Packetizes sndu_form small_units (packets_sent p small_sent) small_begin) (one_pid pid own)
    (subst (λ (packets : List PacketFields). Packetizes sndu_form small_units packets small_begin) (sym packets_are) packetized)

-- The channel: the second record is dropped, the fourth replaced, the others are kept.

abbrev altered_place : ℕ → Option ℕ
altered_place j = slice_index_or (Some 0 ∷ Some 2 ∷ Some 3 ∷ Some 4 ∷ []) j None

abbrev number_of : ℕ → ℕ
number_of j = slice_index (0 ∷ 2 ∷ 3 ∷ 4 ∷ []) j

place_is : (j : ℕ) → j < 4 → altered_place j ≡ Some (number_of j)
place_is = four (λ j. altered_place j ≡ Some (number_of j)) refl refl refl refl

one_number : (j n : ℕ) → j < 4 → altered_place j ≡ Some n → number_of j ≡ n
one_number j n known place = same (number_of j) n (sym (place_is j known) ∙ place)
  where
    same : (a b : ℕ) → Some a ≡ Some b → a ≡ b
    same a b equal = cc

none_inserted : (j : ℕ) → j < 4 → altered_place j ≡ None → ⊥
none_inserted j known none = let none_is : Some (number_of j) ≡ None = sym (place_is j known) ∙ none in absurd (cc (none_is))

numbers_below : (j : ℕ) → j < 4 → number_of j < 5
numbers_below = four (λ j. number_of j < 5) (omega arith) (omega arith) (omega arith) (omega arith)

-- numbers rise, by one or two
steps : (j : ℕ) → j < 4 → ((j ≡ 0) × (number_of j ≡ 0)) ⊎ ((0 < j) × (number_of j ≡ j + 1))
steps = four (λ j. ((j ≡ 0) × (number_of j ≡ 0)) ⊎ ((0 < j) × (number_of j ≡ j + 1))) (inl (refl, refl)) (inr (omega arith, refl)) (inr (omega arith, refl)) (inr (omega arith, refl))

numbers_rise : (j k : ℕ) → j < k → k < 4 → number_of j < number_of k
numbers_rise j k less known = by_steps (steps j (omega (arith, less, known))) (steps k known)
  where
    by_steps : ((j ≡ 0) × (number_of j ≡ 0)) ⊎ ((0 < j) × (number_of j ≡ j + 1)) → ((k ≡ 0) × (number_of k ≡ 0)) ⊎ ((0 < k) × (number_of k ≡ k + 1)) → number_of j < number_of k
    by_steps (inl a) (inl b) = absurd (omega (arith, less, b.0))
    by_steps (inl a) (inr b) = omega (arith, a.1, b.0, b.1)
    by_steps (inr a) (inl b) = absurd (omega (arith, less, b.0))
    by_steps (inr a) (inr b) = omega (arith, less, a.1, b.1)

abbrev altering : Channel (pids_in m2ts_plan 0) small_sent altered_recording
altering = record {
  place = altered_place;
  first = λ j. j;
  within = λ j n within place. omega (arith, numbers_below j within, one_number j n within place);
  in_order = λ j k m n less within same also place_j place_k.
      omega (arith, numbers_rise j k less within, one_number j m (omega (arith, less, within)) place_j, one_number k n within place_k);
  behind = λ j within. omega arith;
  no_copy = λ j within. refl;
  same_place = λ j within. refl;
  kept = λ j n within less place. absurd (omega (arith, less));
  same = λ j within. refl;
  alone = λ pid copy other read there_copy there less below. absurd (omega (arith, less, below));
  foreign = λ j within none. absurd (none_inserted j within none);
}

-- Units that arrived intact.

arrival_places : (m : ℕ) → m < 4 → (arrival_at (arrivals 256 small_sent) m).place ≡ slice_index (0 ∷ 1 ∷ 3 ∷ 4 ∷ []) m
unfolding is_packet fields_of
arrival_places = four (λ m. (arrival_at (arrivals 256 small_sent) m).place ≡ slice_index (0 ∷ 1 ∷ 3 ∷ 4 ∷ []) m) refl refl refl refl

arrival_bytes : (m : ℕ) → m < 4 → (arrival_at (arrivals 256 small_sent) m).bytes ≡ (record_at small_sent (slice_index (0 ∷ 1 ∷ 3 ∷ 4 ∷ []) m)).bytes
unfolding is_packet fields_of
arrival_bytes =
    four (λ m. (arrival_at (arrivals 256 small_sent) m).bytes ≡ (record_at small_sent (slice_index (0 ∷ 1 ∷ 3 ∷ 4 ∷ []) m)).bytes) refl refl refl refl

-- only packet n holds a part of unit n
only_packet : (n m : ℕ) → n < 4 → HoldsPart small_units (packets_sent 256 small_sent) small_begin n m → m ≡ n
only_packet n m known part = by_part (subst (λ (packets : List PacketFields). HoldsPart small_units packets small_begin n m) packets_are part)
  where
    by_part : HoldsPart small_units small_packets small_begin n m → m ≡ n
    by_part it = omega (arith, edges m (omega (arith, it.within)), edges (m + 1) (omega (arith, it.within)), it.begun, it.not_over, sizes n known)

-- a packet's place, and the byte with its counter
abbrev place_and_counter : Arrival → ℕ × ℕ
place_and_counter a = (a.place, slice_index a.bytes 3)

abbrev altered_received : List (ℕ × ℕ)
altered_received = (0, 0x35) ∷ (2, 0x37) ∷ (3, 0x38) ∷ []

received_are : map place_and_counter (received_packets 256 altered_recording) ≡ altered_received
unfolding is_packet fields_of
received_are = refl

-- a unit in one packet arrived intact where that is kept and received
intact_at : (n j : ℕ) → n < 4 → IsKept altering altered_recording 256 n j
    → ((before : Arrival) → Member (received_packets 256 altered_recording) before → before.place < j → before.bytes ≡ (record_at altered_recording j).bytes → ⊥)
    → ArrivedIntact altering altered_recording 256 small_units small_begin n
intact_at n j known kept differs = record {
  at = λ m. j;
  kept = λ m part. subst (λ (t : ℕ). IsKept altering altered_recording 256 t j) (sym (only_packet n m known part)) kept;
  differs = λ m before here last same. differs before (member_contains (received_packets 256 altered_recording) before last.received) last.before same;
  alone = λ m k between part_m part_k received above below. absurd (omega (arith, above, below));
}

kept_at : (m j : ℕ) → m < 4 → j < 4 → altered_place j ≡ Some (slice_index (0 ∷ 1 ∷ 3 ∷ 4 ∷ []) m)
    → (record_at altered_recording j).bytes ≡ (record_at small_sent (slice_index (0 ∷ 1 ∷ 3 ∷ 4 ∷ []) m)).bytes → is_some (record_at altered_recording j).moment ≡ true
    → IsKept altering altered_recording 256 m j
kept_at m j known within place bytes moment = record {
  within = within;
  place = place ∙ ap (λ (t : ℕ). Some t) (sym (arrival_places m known));
  same = bytes ∙ sym (arrival_bytes m known);
  has_moment = moment;
}

-- nothing is received before the first
first : ArrivedIntact altering altered_recording 256 small_units small_begin 0
first =
    intact_at 0 0 (omega arith) (kept_at 0 0 (omega arith) (omega arith) refl refl refl)
    (λ before there less same. absurd (omega (arith, less)))

-- the packets received before the fourth have other counters
fourth : ArrivedIntact altering altered_recording 256 small_units small_begin 3
fourth =
    intact_at 3 3 (omega arith) (kept_at 3 3 (omega arith) (omega arith) refl refl refl)
    (λ before there less same.
    by_place before less (ap (λ (bytes : List ℕ). slice_index bytes 3) same)
    (subst (λ (t : List (ℕ × ℕ)). Member t (place_and_counter before)) received_are (member_map place_and_counter (received_packets 256 altered_recording) before there)))
  where
    by_place : (before : Arrival) → before.place < 3 → slice_index before.bytes 3 ≡ 0x38
        → Member altered_received (place_and_counter before) → ⊥
    by_place before less same (inl one) = omega (arith, same, ap (λ (t : ℕ × ℕ). t.1) one)
    by_place before less same (inr (inl two)) = omega (arith, same, ap (λ (t : ℕ × ℕ). t.1) two)
    by_place before less same (inr (inr (inl three))) = omega (arith, less, ap (λ (t : ℕ × ℕ). t.0) three)
    by_place before less same (inr (inr (inr never))) = absurd never

abbrev IsIntact : ℕ → Type 0
IsIntact n = (n < 4) × ArrivedIntact altering altered_recording 256 small_units small_begin n

are_intact : AreIntact altering altered_recording 256 small_units small_begin (0 ∷ 3 ∷ [])
are_intact = record {
  rising = (omega arith, (omega arith, tt));
  each = λ n there. by_member n (member_contains (0 ∷ 3 ∷ []) n there);
}
  where
    by_member : (n : ℕ) → Member (0 ∷ 3 ∷ []) n → IsIntact n
    by_member n (inl same) = subst (λ (t : ℕ). IsIntact t) same (omega arith, first)
    by_member n (inr (inl same)) = subst (λ (t : ℕ). IsIntact t) same (omega arith, fourth)
    by_member n (inr (inr never)) = absurd never

on_its_pid : (pid : ℕ) → IsPidOf m2ts_plan 0 pid → AreIntact altering (span_of m2ts_plan 0 pid altered_recording) pid small_units small_begin (0 ∷ 3 ∷ [])
on_its_pid pid own =
    subst (λ (p : ℕ). AreIntact altering (span_of m2ts_plan 0 p altered_recording) p small_units small_begin (0 ∷ 3 ∷ [])) (one_pid pid own)
    (subst (λ (span : List Record). AreIntact altering span 256 small_units small_begin (0 ∷ 3 ∷ [])) (sym span_is_all) are_intact)

-- What is delivered.

own_are : flat_map (λ pid. own_on m2ts_plan 0 pid small_units (0 ∷ 3 ∷ [])) (256 ∷ []) ≡ small_datagram 1 ∷ small_datagram 4 ∷ []
own_are = refl

-- by the service from all records
told : told_by true m2ts (service_on m2ts_plan 0 256) altered_recording ≡ small_datagram 1 ∷ small_datagram 9 ∷ small_datagram 4 ∷ []
unfolding is_packet fields_of bits divided remainder crc_remainder
told = refl

delivered_are : delivered_of m2ts_plan 0 altered_recording ≡ small_datagram 1 ∷ small_datagram 9 ∷ small_datagram 4 ∷ []
delivered_are =
    ap (flat_map (delivered_on m2ts_plan 0 altered_recording)) pids_are
    ∙ ap (λ (span : List Record). told_by true m2ts (service_on m2ts_plan 0 256) span ++ []) span_is_all
    ∙ ap (λ (datagrams : List (List ℕ)). datagrams ++ []) told

-- The altered unit was not sent, whatever the units are.

abbrev altered_accepted : List PlacedUnit
altered_accepted =
    record { place = 0; start = 1; moment = 0x3FFFFFF0; unit = unit_at small_units 0 } ∷ record { place = 2; start = 1; moment = 2 ^ 30 + 12; unit = altered_sndu }
    ∷ record { place = 3; start = 1; moment = 2 ^ 30 + 16; unit = unit_at small_units 3 } ∷ []

accepted_are : accepted_units sndu_form 256 altered_recording ≡ altered_accepted
unfolding is_packet fields_of bits divided remainder crc_remainder
accepted_are = refl

abbrev altered_unit : PlacedUnit
altered_unit = record { place = 2; start = 1; moment = 2 ^ 30 + 12; unit = altered_sndu }

accepted : Contains (accepted_units sndu_form 256 altered_recording) altered_unit
accepted = subst (λ (xs : List PlacedUnit). Contains xs altered_unit) (sym accepted_are) (contains_member altered_accepted altered_unit (inr (inl refl)))

-- the Identification of what fills a packet
identification : (m : ℕ) → m < 4 → slice_index (take 28 (drop (28 * m) (joined_payloads small_packets))) 9 ≡ m + 1
identification = four (λ m. slice_index (take 28 (drop (28 * m) (joined_payloads small_packets))) 9 ≡ m + 1) refl refl refl refl

not_sent : (units : List (List ℕ)) (begin : ℕ → ℕ) → Packetizes sndu_form units small_packets begin
    → (n m : ℕ) → IsStartOf units small_packets begin n m 1 → unit_at units n ≡ altered_sndu → ⊥
not_sent units begin packetizes n m start is =
    let place : begin n ≡ 28 * m = omega (arith, edges m (omega (arith, (start.packet).within)), start.start_is) in
    let bytes : take 28 (drop (28 * m) (joined_payloads small_packets)) ≡ altered_sndu =
    subst (λ (p : ℕ). take 28 (drop p (joined_payloads small_packets)) ≡ altered_sndu) place
    (subst (λ (u : List ℕ). take (length u) (drop (begin n) (joined_payloads small_packets)) ≡ u) is (packetizes.bytes n start.unit)) in
    omega (arith, (start.packet).within, identification m (start.packet).within, ap (λ (b : List ℕ). slice_index b 9) bytes)

own_pid : IsPidOf m2ts_plan 0 256
own_pid = record { service = omega arith; own = subst (λ (pids : List ℕ). Contains pids 256) (sym pids_are) (contains_member (256 ∷ []) 256 (inl refl)) }

silent : (datagrams : ℕ → List (List ℕ)) (carries : CarriesFor m2ts_plan 0 small_sent datagrams)
    → IsRecordedFor m2ts_plan 0 small_sent datagrams carries altered_recording → ⊥
silent datagrams carried recorded = by_number (detected.each altered_unit accepted)
  where
    detected : NoUndetectedError recorded.channel altered_recording sndu_form 256 (carried.units 256) (carried.begin 256)
    detected =
        subst (λ (span : List Record). NoUndetectedError recorded.channel span sndu_form 256 (carried.units 256) (carried.begin 256)) span_is_all
        (recorded.detected 256 own_pid)

    by_number : (n : ℕ) × IsSentUnit recorded.channel 256 (carried.units 256) (carried.begin 256) n altered_unit → ⊥
    by_number sent =
        let is = sent.1 in
        not_sent (carried.units 256) (carried.begin 256)
        (subst (λ (packets : List PacketFields). Packetizes sndu_form (carried.units 256) packets (carried.begin 256)) packets_are (carried.packetized 256 own_pid))
        sent.0 is.packet
        (subst (λ (packets : List PacketFields). IsStartOf (carried.units 256) packets (carried.begin 256) sent.0 is.packet 1) packets_are is.start)
        is.bytes

pub small_errors : SmallErrors
small_errors = record {
  carries = carries;
  channel = altering;
  intact = on_its_pid;
  own = subst (λ (pids : List ℕ). flat_map (λ pid. own_on m2ts_plan 0 pid small_units (0 ∷ 3 ∷ [])) pids ≡ small_datagram 1 ∷ small_datagram 4 ∷ []) (sym pids_are) own_are;
  delivered = delivered_are;
  silent = silent;
}
