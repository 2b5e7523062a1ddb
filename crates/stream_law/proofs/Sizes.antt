-- The size of each record.
use Rattle.std.proofs.Common.{◌≡◌, ℕ, zero, suc, ◌+◌, ◌*◌, ◌/◌, ◌%◌, ◌<◌, Bool, true, false, cond, ltb, List, [], ◌∷◌, length, map, refl, ap, arith, Option, Some, None}
use Rattle.std.specs.Prelude.{slice_index, slice_index_or, flat_map, All}
use Rattle.std.specs.List.{range_with_len}
use Rattle.std.specs.Option.{unwrap_or, option_or}
use Rattle.std.proofs.lemmas.List.{length-append}
use Rattle.std.proofs.lemmas.List.Elements.{All-nil, All-cons, All-append}
use Rattle.ts_spec.specs.Packet.{PacketFields}
use Rattle.ts_spec.specs.Packetized.{packet_at}
use Rattle.ts_spec.specs.Recording.{RecordingForm, plain, stamped, m2ts, stamp_size, record_size}
use Rattle.section_spec.specs.Section.{section_form}
use Rattle.int_spec.specs.Table.{table_bytes}
use Rattle.plan_spec.specs.Plan.{IntFields, kinds}
use Rattle.plan_spec.specs.Signalling.{table_of, table_packets}
use Rattle.stream_spec.specs.Slots.{Slot, of_table, of_service, empty, Turns, next_service, turns_at, slot_of_service}
use Rattle.slice_spec.specs.Windows.{owner_of}
use Rattle.stream_spec.specs.Windows.{windows_of, out_before, of_owner}
use Rattle.stream_spec.specs.Parts.{PartFields, written, int_packets, packet_in, stamp_bytes, service_packets, turn_counts, sizes_in, kept_in, slot_in, record_of_slot}
use Rattle.stream_law.proofs.Carrying.{carried}
use Rattle.stream_law.proofs.Packets.{packetized_on}
use Rattle.stream_law.proofs.Sent.{place_on}
use Rattle.stream_law.proofs.TableOnPid.{length-int_packets, none_without}

length-written : (packet : PacketFields) → length packet.payload ≡ 184 → length (written packet) ≡ 188
length-written packet size = four (length packet.payload) size
  where
    four : (n : ℕ) → n ≡ 184 → suc (suc (suc (suc n))) ≡ 188
    four n e = omega (arith, e)

length-stamp_bytes : (form : RecordingForm) (rate s : ℕ) → length (stamp_bytes form rate s) ≡ stamp_size form
length-stamp_bytes plain rate s = refl
length-stamp_bytes stamped rate s = refl
length-stamp_bytes m2ts rate s = refl

module _ (part : PartFields) where
  abbrev services : List (List PacketFields)
  services = service_packets part

  table_size : (table : Option IntFields) → part.plan.table ≡ table → (cycle n : ℕ) → n < table_packets part.plan → length (written (packet_at (int_packets part table cycle) n)) ≡ 188
  table_size None is cycle n less = absurd (omega (arith, less, none_without part.plan is))
  table_size (Some int) is cycle n less =
      length-written (packet_at (int_packets part (Some int) cycle) n)
      (packetized_on section_form true int.pid ((part.table_before + cycle * table_packets part.plan) % 16) (table_bytes (table_of part.plan int) ∷ []) (omega arith) n (omega (arith, length-int_packets part int cycle is, less))).size

  -- the packet of each slot
  length-packet : (s : ℕ) → length (packet_in part (s / part.plan.cycle) (slot_in part s)) ≡ 188
  length-packet s =
      by_slot (slot_in part s) (carried part s)
      (by_place (ltb (s % part.plan.cycle) (table_packets part.plan)) refl (owner_of (windows_of part.plan) (s % part.plan.cycle)))
    where
      turns : Turns
      turns = turns_at (kept_in part) (turn_counts (kinds part.plan) services) s

      no_table : (turn : Option ℕ) (n : ℕ) → slot_of_service turns turn ≡ of_table n → ⊥
      no_table None n e = absurd (cc)
      no_table (Some j) n e = absurd (cc)

      no_burst : (more : Bool) (j m n : ℕ) → unwrap_or (cond more (Some (of_service j m)) None) (slot_of_service turns (next_service (turn_counts (kinds part.plan) services) turns)) ≡ of_table n → ⊥
      no_burst true j m n e = absurd (cc)
      no_burst false j m n e = no_table (next_service (turn_counts (kinds part.plan) services) turns) n e

      table_number : Slot → ℕ
      table_number (of_table n) = n
      table_number (of_service j n) = 0
      table_number empty = 0

      by_place : (early : Bool) → ltb (s % part.plan.cycle) (table_packets part.plan) ≡ early → (owner : Option (ℕ × ℕ))
          → (n : ℕ) → unwrap_or (option_or (cond early (Some (of_table (s % part.plan.cycle))) None) (of_owner (sizes_in part) (s / part.plan.cycle) owner))
          (slot_of_service turns (next_service (turn_counts (kinds part.plan) services) turns)) ≡ of_table n → n < table_packets part.plan
      by_place true e owner n is = let same : s % part.plan.cycle ≡ n = ap table_number is in omega (arith, same, below e)
        where
          below : ltb (s % part.plan.cycle) (table_packets part.plan) ≡ true → s % part.plan.cycle < table_packets part.plan
          below e2 = grind (arith, e2)
      by_place false e None n is = absurd (no_table (next_service (turn_counts (kinds part.plan) services) turns) n is)
      by_place false e (Some owner) n is =
          absurd (no_burst (ltb owner.1 (slice_index (sizes_in part owner.0) (s / part.plan.cycle))) owner.0 (out_before (sizes_in part owner.0) (s / part.plan.cycle) + owner.1) n is)

      by_slot : (it : Slot) → ((j n : ℕ) → it ≡ of_service j n → (j < length part.plan.services) × (n < length (slice_index_or services j [])))
          → ((n : ℕ) → it ≡ of_table n → n < table_packets part.plan) → length (packet_in part (s / part.plan.cycle) it) ≡ 188
      by_slot (of_table n) within early = table_size part.plan.table refl (s / part.plan.cycle) n (early n refl)
      by_slot (of_service j n) within early =
          length-written (packet_at (slice_index_or services j []) n) (place_on part.packets_before part.schedules part.datagrams part.plan.services 0 j n (within j n refl).1).2.size
      by_slot empty within early = refl

  length-record : (s : ℕ) → length (record_of_slot part s) ≡ record_size part.plan.recording
  length-record s =
      omega (
        arith,
        length-append (stamp_bytes part.plan.recording part.plan.packet_rate (part.slots_before + s)) (packet_in part (s / part.plan.cycle) (slot_in part s)),
        length-stamp_bytes part.plan.recording part.plan.packet_rate (part.slots_before + s),
        length-packet s,
      )

  pub all_sizes : (slots : List ℕ) → All (λ bytes. length bytes ≡ record_size part.plan.recording) (map (record_of_slot part) slots)
  all_sizes [] = All-nil (λ (bytes : List ℕ). length bytes ≡ record_size part.plan.recording)
  all_sizes (s ∷ slots) =
      All-cons (λ (bytes : List ℕ). length bytes ≡ record_size part.plan.recording) (record_of_slot part s) (map (record_of_slot part) slots) (length-record s) (all_sizes slots)

-- the records of several parts
pub sizes_of_parts : (size : ℕ) (pieces : ℕ → List (List ℕ)) (a n : ℕ) → ((v : ℕ) → v < a + n → All (λ (bytes : List ℕ). length bytes ≡ size) (pieces v))
    → All (λ (bytes : List ℕ). length bytes ≡ size) (flat_map pieces (range_with_len a n))
sizes_of_parts size pieces a zero each = All-nil (λ (bytes : List ℕ). length bytes ≡ size)
sizes_of_parts size pieces a (suc n) each =
    All-append (λ (bytes : List ℕ). length bytes ≡ size) (pieces a) (flat_map pieces (range_with_len (a + 1) n)) (each a (omega arith))
    (sizes_of_parts size pieces (a + 1) n (λ v less. each v (omega (arith, less))))
