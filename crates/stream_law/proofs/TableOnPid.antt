-- What one part of a stream gives on the PID of the INT.
use Rattle.std.proofs.Common.{◌≡◌, ℕ, zero, suc, ◌+◌, ◌-◌, ◌*◌, ◌/◌, ◌%◌, ◌<◌, ◌≤◌, Bool, true, false, cond, eqb, ltb, List, [], ◌∷◌, ◌++◌, length, map, replicate, refl, sym, ap, ap₂, ◌∙◌, arith, Option, Some, None}
use Rattle.std.specs.Prelude.{slice_index, slice_index_or, flat_map}
use Rattle.std.specs.List.{range_with_len}
use Rattle.std.specs.Option.{unwrap_or, option_or}
use Rattle.std.proofs.lemmas.List.{length-map}
use Rattle.std.proofs.lemmas.Nat.{mod-mul-add}
use Rattle.std.proofs.Math.Nat.{add-mul}
use Rattle.std.proofs.lemmas.List.FromFn.{fill_by_all}
use Rattle.ts_spec.specs.Packet.{PacketFields, fields_of, is_packet, packet_bytes, null_packet}
use Rattle.ts_spec.specs.Packetized.{no_packet, packet_at}
use Rattle.ts_packet.specs.Fields.{written_fields}
use Rattle.section_spec.specs.Section.{section_form}
use Rattle.int_spec.specs.Table.{table_bytes}
use Rattle.plan_spec.specs.Plan.{mpe, ServiceFields, IntFields, PlanFields, pid_of, table_pids, service_pids, kinds}
use Rattle.plan_spec.specs.Signalling.{table_of, table_packets, packets_of_table, section_packets}
use Rattle.stream_spec.specs.Services.{kind_at}
use Rattle.slice_spec.specs.Windows.{owner_of}
use Rattle.stream_spec.specs.Slots.{Slot, of_table, of_service, empty, is_of_service, Turns, next_service, turns_at, slot_of_service, IsSlotCount}
use Rattle.stream_spec.specs.Windows.{windows_of, out_before, of_owner}
use Rattle.stream_spec.specs.Parts.{PartFields, written, int_packets, service_packets, turn_counts, sizes_in, kept_in, packet_in, slot_in}
use Rattle.stream_law.specs.Words.{begun_cycles}
use Rattle.stream_law.proofs.Carrying.{carried}
use Rattle.stream_law.proofs.Packets.{IsOn, packetized_on}
use Rattle.stream_law.proofs.Records.{read_of}
use Rattle.stream_law.proofs.Pids.{same_pid, none_meets}
use Rattle.stream_law.proofs.Sent.{read_first, place_on, read_own, read_other, read_null}
use Rattle.stream_law.proofs.OnPid.{IsSendable, table_meets_none, slot_packet}
use Rattle.stream_law.proofs.TableSizes.{length-packetized}
use Rattle.stream_law.proofs.Cycles.{given, items, of_slots}

-- a plan with an INT has as many slots for it as its section takes packets
table_packets_is : (plan : PlanFields) (int : IntFields) → plan.table ≡ Some int → table_packets plan ≡ section_packets (table_bytes (table_of plan int))
unfolding table_packets
table_packets_is plan int is = ap (packets_of_table plan) is

-- and one without has none
pub none_without : (plan : PlanFields) → plan.table ≡ None → table_packets plan ≡ 0
unfolding table_packets
none_without plan is = ap (packets_of_table plan) is

-- a section is not empty
some_bytes : (plan : PlanFields) (int : IntFields) → 1 ≤ length (table_bytes (table_of plan int))
some_bytes plan int = omega arith

pub length-int_packets : (part : PartFields) (int : IntFields) (cycle : ℕ) → part.plan.table ≡ Some int → length (int_packets part (Some int) cycle) ≡ table_packets part.plan
length-int_packets part int cycle is =
    length-packetized int.pid ((part.table_before + cycle * table_packets part.plan) % 16) (table_bytes (table_of part.plan int)) (some_bytes part.plan int) ∙ sym (table_packets_is part.plan int is)

pub some_packets : (plan : PlanFields) (int : IntFields) → plan.table ≡ Some int → 1 ≤ table_packets plan
some_packets plan int is = one (length (table_bytes (table_of plan int))) (table_packets_is plan int is)
  where
    one : (n : ℕ) → table_packets plan ≡ (1 + n + 183) / 184 → 1 ≤ table_packets plan
    one n e = omega (arith, e)

module _ (readable : (pid : ℕ) (starts : Bool) (counter : ℕ) (payload : List ℕ) → counter ≤ 15 → pid ≤ 8191 → length payload ≡ 184 → is_packet (packet_bytes pid starts counter payload) ≡ true)
    (fields : (pid : ℕ) (starts : Bool) (counter : ℕ) (payload : List ℕ) → counter ≤ 15 → pid ≤ 8191 → fields_of (packet_bytes pid starts counter payload) ≡ written_fields pid starts counter payload)
    (null_fields : fields_of null_packet ≡ written_fields 0x1FFF false 0 (replicate 184 0xFF))
    (part : PartFields) (sendable : IsSendable part.plan) (int : IntFields) (table_is : part.plan.table ≡ Some int) where
  abbrev services : List (List PacketFields)
  services = service_packets part

  abbrev slot : ℕ → Slot
  slot s = slot_in part s

  abbrev bytes : ℕ → List ℕ
  bytes s = packet_in part (s / part.plan.cycle) (slot s)

  abbrev packet : ℕ → ℕ → PacketFields
  packet c n = packet_at (int_packets part (Some int) c) n

  abbrev gives : ℕ → List PacketFields
  gives s = given part.plan.cycle (table_packets part.plan) sendable.leaves packet s

  pid_most : int.pid ≤ 8190
  pid_most = sendable.table_most int.pid (ap table_pids table_is)

  -- a slot of a service
  of_service_read : (s j n : ℕ) → n < length (slice_index_or services j []) → read_of int.pid (packet_in part (s / part.plan.cycle) (of_service j n) ∷ []) ≡ []
  of_service_read s j n less =
      let on : (other : ℕ) × (pid_of (kind_at part.plan j) ≡ Some other) × IsOn other (packet_at (slice_index_or services j []) n) × (j < length part.plan.services)
      = place_on part.packets_before part.schedules part.datagrams part.plan.services 0 j n less in
      let within : j < length (kinds part.plan) = omega (arith, on.3, length-map part.plan.services (λ (service : ServiceFields). service.kind)) in
      let differs : eqb int.pid on.0 ≡ false
      = none_meets (same_pid int.pid) (mpe 0) (kinds part.plan) (table_meets_none part.plan.table (service_pids part.plan) sendable.differ int.pid (ap table_pids table_is)) j on.0 within on.1 in
      let below : on.0 ≤ 8190 = sendable.service_most j on.0 within on.1 in
      read_other readable fields null_fields int.pid on.0 (packet_at (slice_index_or services j []) n) (omega (arith, below)) (swapped int.pid on.0 differs) on.2
    where
      swapped : (a b : ℕ) → eqb a b ≡ false → eqb b a ≡ false
      swapped a b e = grind (arith, e)

  slot_read : (s : ℕ) → read_of int.pid (bytes s ∷ []) ≡ gives s
  slot_read s =
      by_place (ltb (s % part.plan.cycle) (table_packets part.plan)) refl (owner_of (windows_of part.plan) (s % part.plan.cycle)) refl
    where
      turns : Turns
      turns = turns_at (kept_in part) (turn_counts (kinds part.plan) services) s

      next : Option ℕ
      next = next_service (turn_counts (kinds part.plan) services) turns

      own : s % part.plan.cycle < table_packets part.plan → read_of int.pid (packet_in part (s / part.plan.cycle) (of_table (s % part.plan.cycle)) ∷ []) ≡ packet (s / part.plan.cycle) (s % part.plan.cycle) ∷ []
      own less =
          ap (λ (t : Option IntFields). read_of int.pid (written (packet_at (int_packets part t (s / part.plan.cycle)) (s % part.plan.cycle)) ∷ [])) table_is
          ∙ read_own readable fields null_fields int.pid (packet (s / part.plan.cycle) (s % part.plan.cycle)) (omega (arith, pid_most))
          (packetized_on section_form true int.pid ((part.table_before + s / part.plan.cycle * table_packets part.plan) % 16) (table_bytes (table_of part.plan int) ∷ []) (omega arith) (s % part.plan.cycle)
          (omega (arith, length-int_packets part int (s / part.plan.cycle) table_is, less)))

      other : (it : Slot) → ((j n : ℕ) → it ≡ of_service j n → n < length (slice_index_or services j [])) → ((n : ℕ) → it ≡ of_table n → ⊥)
          → read_of int.pid (packet_in part (s / part.plan.cycle) it ∷ []) ≡ []
      other (of_table n) within none = absurd (none n refl)
      other (of_service j n) within none = of_service_read s j n (within j n refl)
      other empty within none = read_null readable fields null_fields int.pid pid_most

      no_table : (turn : Option ℕ) (n : ℕ) → slot_of_service turns turn ≡ of_table n → ⊥
      no_table None n e = absurd (cc)
      no_table (Some j) n e = absurd (cc)

      not_later : (owner : Option (ℕ × ℕ)) (n : ℕ)
          → unwrap_or (of_owner (sizes_in part) (s / part.plan.cycle) owner) (slot_of_service turns next) ≡ of_table n → ⊥
      not_later None n e = no_table next n e
      not_later (Some owner) n e =
          by_more (ltb owner.1 (slice_index (sizes_in part owner.0) (s / part.plan.cycle))) (out_before (sizes_in part owner.0) (s / part.plan.cycle) + owner.1) e
        where
          by_more : (more : Bool) (m : ℕ) → unwrap_or (cond more (Some (of_service owner.0 m)) None) (slot_of_service turns next) ≡ of_table n → ⊥
          by_more true m e2 = absurd (cc)
          by_more false m e2 = no_table next n e2

      by_place : (early : Bool) → ltb (s % part.plan.cycle) (table_packets part.plan) ≡ early → (owner : Option (ℕ × ℕ)) → owner_of (windows_of part.plan) (s % part.plan.cycle) ≡ owner
          → read_of int.pid (packet_in part (s / part.plan.cycle)
          (unwrap_or (option_or (cond early (Some (of_table (s % part.plan.cycle))) None) (of_owner (sizes_in part) (s / part.plan.cycle) owner)) (slot_of_service turns next)) ∷ [])
          ≡ cond early (packet (s / part.plan.cycle) (s % part.plan.cycle) ∷ []) []
      by_place true e owner e2 = own (grind (arith, e))
      by_place false e owner e2 = other (unwrap_or (of_owner (sizes_in part) (s / part.plan.cycle) owner) (slot_of_service turns next)) in_turn (not_later owner)
        where
          in_turn : (j n : ℕ) → unwrap_or (of_owner (sizes_in part) (s / part.plan.cycle) owner) (slot_of_service turns next) ≡ of_service j n → n < length (slice_index_or services j [])
          in_turn j n is =
              let here : slot s ≡ of_service j n
              = ap₂ (λ (b : Bool) (o : Option (ℕ × ℕ)). unwrap_or (option_or (cond b (Some (of_table (s % part.plan.cycle))) None) (of_owner (sizes_in part) (s / part.plan.cycle) o)) (slot_of_service turns next)) e e2 ∙ is in
              (carried part s j n here).1

  read_all : (slots : List ℕ) → read_of int.pid (map bytes slots) ≡ flat_map gives slots
  read_all [] = refl
  read_all (s ∷ slots) = read_first int.pid 0 [] (bytes s) (map bytes slots) ∙ ap₂ (λ (a b : List PacketFields). a ++ b) (slot_read s) (read_all slots)

  same_items : (cycles : List ℕ) → flat_map (items part.plan.cycle (table_packets part.plan) sendable.leaves packet) cycles ≡ flat_map (int_packets part (Some int)) cycles
  same_items [] = refl
  same_items (c ∷ cycles) =
      let here : int_packets part (Some int) c ≡ map (packet c) (range_with_len 0 (table_packets part.plan))
      = fill_by_all (packet c) (int_packets part (Some int) c) (table_packets part.plan) no_packet (length-int_packets part int c table_is) (λ i less. refl) in
      ap₂ (λ (a b : List PacketFields). a ++ b) (sym here) (same_items cycles)

  -- the last slot is no slot of the INT
  pub ends_behind : (slots : ℕ) → IsSlotCount slot slots → (s : ℕ) → slots ≡ s + 1 → table_packets part.plan ≤ s % part.plan.cycle
  ends_behind slots count s e = by_place (ltb (s % part.plan.cycle) (table_packets part.plan)) refl (count.last s e)
    where
      turns : Turns
      turns = turns_at (kept_in part) (turn_counts (kinds part.plan) services) s

      later : Slot
      later = slot_of_service turns (next_service (turn_counts (kinds part.plan) services) turns)

      by_place : (early : Bool) → ltb (s % part.plan.cycle) (table_packets part.plan) ≡ early
          → is_of_service (unwrap_or (option_or (cond early (Some (of_table (s % part.plan.cycle))) None)
          (of_owner (sizes_in part) (s / part.plan.cycle) (owner_of (windows_of part.plan) (s % part.plan.cycle)))) later) ≡ true
          → table_packets part.plan ≤ s % part.plan.cycle
      by_place true is e2 = absurd (cc)
      by_place false is e2 = grind (arith, is)

  -- nor is that of whole cycles
  pub ends_cycle : (cycles s : ℕ) → cycles * part.plan.cycle ≡ s + 1 → table_packets part.plan ≤ s % part.plan.cycle
  ends_cycle zero s e = absurd (omega (arith, e))
  ends_cycle (suc cycles) s e =
      let one : suc cycles ≡ cycles + 1 = omega arith in
      let parts : suc cycles * part.plan.cycle ≡ cycles * part.plan.cycle + part.plan.cycle = ap (λ (n : ℕ). n * part.plan.cycle) one ∙ omega (arith, add-mul cycles 1 part.plan.cycle) in
      let last : s ≡ cycles * part.plan.cycle + (part.plan.cycle - 1) = omega (arith, e, parts, sendable.leaves) in
      omega (arith, ap (λ (n : ℕ). n % part.plan.cycle) last ∙ mod-mul-add cycles part.plan.cycle (part.plan.cycle - 1) (omega (arith, sendable.leaves)), sendable.leaves)

  pub table_sent_in : (slots : ℕ) → ((s : ℕ) → slots ≡ s + 1 → table_packets part.plan ≤ s % part.plan.cycle)
      → read_of int.pid (map (slot_packet part) (range_with_len 0 slots)) ≡ flat_map (int_packets part (Some int)) (range_with_len 0 (begun_cycles part.plan.cycle slots))
  table_sent_in slots last =
      read_all (range_with_len 0 slots)
      ∙ of_slots part.plan.cycle (table_packets part.plan) sendable.leaves packet slots last
      ∙ same_items (range_with_len 0 (begun_cycles part.plan.cycle slots))
