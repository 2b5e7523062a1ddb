-- What one part of a stream gives on the PID of a service, and on others.
use Rattle.std.proofs.Common.{◌≡◌, ℕ, zero, suc, ◌+◌, ◌-◌, ◌/◌, ◌<◌, ◌≤◌, Bool, true, false, cond, eqb, get_or, List, [], ◌∷◌, ◌++◌, length, map, replicate, refl, sym, ap, ap₂, subst, ◌∙◌, arith, Option, Some, None}
use Rattle.std.specs.Prelude.{slice_index, slice_index_or}
use Rattle.std.specs.List.{cons_option, filter_map, range_with_len, list_any}
use Rattle.std.specs.Option.{unwrap_or}
use Rattle.std.proofs.lemmas.List.{length-map, map-append, append-nil}
use Rattle.std.proofs.lemmas.List.Elements.{filter_map-append}
use Rattle.std.proofs.lemmas.List.FromFn.{fill_by_all}
use Rattle.ts_spec.specs.Packet.{PacketFields, fields_of, is_packet, packet_bytes, null_packet}
use Rattle.ts_spec.specs.Packetized.{no_packet, packet_at}
use Rattle.ts_packet.specs.Fields.{written_fields}
use Rattle.plan_spec.specs.Plan.{mpe, ServiceFields, IntFields, PlanFields, pid_of, table_pids, service_pids, kinds, SlicedFields, sliced_of}
use Rattle.plan_spec.specs.Checks.{has_pair}
use Rattle.plan_spec.specs.Signalling.{table_packets}
use Rattle.plan_spec.specs.Valid.{is_plan}
use Rattle.stream_spec.specs.Services.{kind_at}
use Rattle.stream_spec.specs.Slots.{Slot, of_table, of_service, empty, is_of_service, IsSlotCount}
use Rattle.stream_spec.specs.Parts.{PartFields, service_packets, sizes_in, packet_in, slot_in}
use Rattle.stream_law.specs.Words.{number_of}
use Rattle.stream_law.proofs.Ranges.{range_append}
use Rattle.stream_law.proofs.Carrying.{carried}
use Rattle.stream_law.proofs.AllOut.{service_out}
use Rattle.stream_law.proofs.Packets.{IsOn}
use Rattle.stream_law.proofs.Records.{read_of}
use Rattle.stream_law.proofs.Pids.{same_pid, neither, none_meets, services_differ}
use Rattle.stream_law.proofs.Sent.{numbered_packets, slots_read, read_first, place_on, read_own, read_other, read_null, read_table}

-- what accepted settings say of the PIDs and of the slots
pub record IsSendable (plan : PlanFields) : Type 0 where
  pub differ : has_pair same_pid (table_pids plan.table ++ service_pids plan) ≡ false
  pub table_most : (pid : ℕ) → table_pids plan.table ≡ pid ∷ [] → pid ≤ 8190
  pub service_most : (k pid : ℕ) → k < length (kinds plan) → pid_of (kind_at plan k) ≡ Some pid → pid ≤ 8190
  pub leaves : table_packets plan < plan.cycle

-- the PIDs of the services differ from each other, and from the INT's
behind_table : (table : Option IntFields) (pids : List ℕ) → has_pair same_pid (table_pids table ++ pids) ≡ false → has_pair same_pid pids ≡ false
behind_table None pids e = e
behind_table (Some int) pids e = (neither (list_any (same_pid int.pid) pids) (has_pair same_pid pids) e).1

pub table_meets_none : (table : Option IntFields) (pids : List ℕ) → has_pair same_pid (table_pids table ++ pids) ≡ false
    → (other : ℕ) → table_pids table ≡ other ∷ [] → list_any (same_pid other) pids ≡ false
table_meets_none None pids e other is = absurd (cc)
table_meets_none (Some int) pids e other is =
    let same : int.pid ≡ other = ap (λ (l : List ℕ). get_or l 0 0) is in
    ap (λ (p : ℕ). list_any (same_pid p) pids) (sym same) ∙ (neither (list_any (same_pid int.pid) pids) (has_pair same_pid pids) e).0

-- the packet in a slot of the part
abbrev pub slot_packet : PartFields → ℕ → List ℕ
slot_packet part s = packet_in part (s / part.plan.cycle) (slot_in part s)

module _ (readable : (pid : ℕ) (starts : Bool) (counter : ℕ) (payload : List ℕ) → counter ≤ 15 → pid ≤ 8191 → length payload ≡ 184 → is_packet (packet_bytes pid starts counter payload) ≡ true)
    (fields : (pid : ℕ) (starts : Bool) (counter : ℕ) (payload : List ℕ) → counter ≤ 15 → pid ≤ 8191 → fields_of (packet_bytes pid starts counter payload) ≡ written_fields pid starts counter payload)
    (null_fields : fields_of null_packet ≡ written_fields 0x1FFF false 0 (replicate 184 0xFF))
    (part : PartFields) (sendable : IsSendable part.plan) where
  abbrev services : List (List PacketFields)
  services = service_packets part

  abbrev slot : ℕ → Slot
  slot s = slot_in part s

  within_kinds : (j : ℕ) → j < length part.plan.services → j < length (kinds part.plan)
  within_kinds j less = omega (arith, less, length-map part.plan.services (λ (service : ServiceFields). service.kind))

  -- what a slot carries of a service
  in_slot : (s j n : ℕ) → slot s ≡ of_service j n → n < length (slice_index_or services j [])
  in_slot s j n is = (carried part s j n is).1

  -- A PID that neither the INT nor a service has in this part.
  module _ (pid : ℕ) (most : pid ≤ 8190) (no_table : (other : ℕ) → table_pids part.plan.table ≡ other ∷ [] → eqb other pid ≡ false)
      (no_service : (j other : ℕ) → j < length part.plan.services → pid_of (kind_at part.plan j) ≡ Some other → eqb other pid ≡ false) where
    pub nothing_read : (s : ℕ) → read_of pid (slot_packet part s ∷ []) ≡ []
    nothing_read s = by_slot (slot s) (λ j n is. in_slot s j n is)
      where
        by_slot : (it : Slot) → ((j n : ℕ) → it ≡ of_service j n → n < length (slice_index_or services j [])) → read_of pid (packet_in part (s / part.plan.cycle) it ∷ []) ≡ []
        by_slot (of_table n) within =
            read_table readable fields null_fields pid part part.plan.table (s / part.plan.cycle) n (λ other is. (omega (arith, sendable.table_most other is), no_table other is))
        by_slot (of_service j n) within =
            let on : (other : ℕ) × (pid_of (kind_at part.plan j) ≡ Some other) × IsOn other (packet_at (slice_index_or services j []) n) × (j < length part.plan.services)
            = place_on part.packets_before part.schedules part.datagrams part.plan.services 0 j n (within j n refl) in
            let below : on.0 ≤ 8190 = sendable.service_most j on.0 (within_kinds j on.3) on.1 in
            read_other readable fields null_fields pid on.0 (packet_at (slice_index_or services j []) n) (omega (arith, below)) (no_service j on.0 on.3 on.1) on.2
        by_slot empty within = read_null readable fields null_fields pid most

    pub nothing_sent : (slots : List ℕ) → read_of pid (map (slot_packet part) slots) ≡ []
    nothing_sent [] = refl
    nothing_sent (s ∷ slots) =
        read_first pid 0 [] (slot_packet part s) (map (slot_packet part) slots) ∙ ap₂ (λ (a b : List PacketFields). a ++ b) (nothing_read s) (nothing_sent slots)

  -- The PID of a service.
  module _ (k pid : ℕ) (known : k < length part.plan.services) (pid_is : pid_of (kind_at part.plan k) ≡ Some pid) where
    abbrev packets : List PacketFields
    packets = slice_index_or services k []

    most : pid ≤ 8190
    most = sendable.service_most k pid (within_kinds k known) pid_is

    -- what one slot gives
    pub slot_read : (s : ℕ) → read_of pid (slot_packet part s ∷ []) ≡ numbered_packets pid k packets (slot s ∷ [])
    slot_read s = by_slot (slot s) (λ j n is. in_slot s j n is)
      where
        of_own : (j n : ℕ) → j ≡ k → n < length (slice_index_or services j []) → read_of pid (packet_in part (s / part.plan.cycle) (of_service j n) ∷ []) ≡ packet_at packets n ∷ []
        of_own j n same less =
            let on : (other : ℕ) × (pid_of (kind_at part.plan j) ≡ Some other) × IsOn other (packet_at (slice_index_or services j []) n) × (j < length part.plan.services)
            = place_on part.packets_before part.schedules part.datagrams part.plan.services 0 j n less in
            let known_pid : Some on.0 ≡ Some pid = sym on.1 ∙ ap (λ (i : ℕ). pid_of (kind_at part.plan i)) same ∙ pid_is in
            let its_pid : on.0 ≡ pid = ap (λ (o : Option ℕ). unwrap_or o 0) known_pid in
            read_own readable fields null_fields pid (packet_at (slice_index_or services j []) n) (omega (arith, most)) (subst (λ (p : ℕ). IsOn p (packet_at (slice_index_or services j []) n)) its_pid on.2)
            ∙ ap (λ (i : ℕ). packet_at (slice_index_or services i []) n ∷ []) same

        of_other : (j n : ℕ) → eqb j k ≡ false → n < length (slice_index_or services j []) → read_of pid (packet_in part (s / part.plan.cycle) (of_service j n) ∷ []) ≡ []
        of_other j n apart less =
            let on : (other : ℕ) × (pid_of (kind_at part.plan j) ≡ Some other) × IsOn other (packet_at (slice_index_or services j []) n) × (j < length part.plan.services)
            = place_on part.packets_before part.schedules part.datagrams part.plan.services 0 j n less in
            let differs : eqb on.0 pid ≡ false
            = services_differ (mpe 0) (kinds part.plan) (behind_table part.plan.table (service_pids part.plan) sendable.differ) j k on.0 pid apart
            (within_kinds j on.3) (within_kinds k known) on.1 pid_is in
            let below : on.0 ≤ 8190 = sendable.service_most j on.0 (within_kinds j on.3) on.1 in
            read_other readable fields null_fields pid on.0 (packet_at (slice_index_or services j []) n) (omega (arith, below)) differs on.2

        by_service : (j n : ℕ) → n < length (slice_index_or services j []) → (same : Bool) → eqb j k ≡ same
            → read_of pid (packet_in part (s / part.plan.cycle) (of_service j n) ∷ [])
            ≡ map (packet_at packets) (cons_option (cond same (Some n) None) [])
        by_service j n less true e = of_own j n (grind (arith, e)) less
        by_service j n less false e = of_other j n e less

        by_slot : (it : Slot) → ((j n : ℕ) → it ≡ of_service j n → n < length (slice_index_or services j []))
            → read_of pid (packet_in part (s / part.plan.cycle) it ∷ []) ≡ numbered_packets pid k packets (it ∷ [])
        by_slot (of_table n) within =
            read_table readable fields null_fields pid part part.plan.table (s / part.plan.cycle) n (λ other is. (
              omega (arith, sendable.table_most other is),
              none_meets (same_pid other) (mpe 0) (kinds part.plan) (table_meets_none part.plan.table (service_pids part.plan) sendable.differ other is) k pid (within_kinds k known) pid_is,
            ))
        by_slot (of_service j n) within = by_service j n (within j n refl) (eqb j k) refl
        by_slot empty within = read_null readable fields null_fields pid most

    all_packets : map (packet_at packets) (range_with_len 0 (length packets)) ≡ packets
    all_packets = sym (fill_by_all (packet_at packets) packets (length packets) no_packet refl (λ i less. refl))

    -- the numbers of its packets in some slots
    abbrev numbers : List ℕ → List ℕ
    numbers over = filter_map (number_of k) (map slot over)

    -- all packets are out before the last of them, and in the slots after it none is
    pub all_numbers : is_plan part.plan ≡ true
        → ((fields : SlicedFields) → sliced_of (kind_at part.plan k) ≡ Some fields → (c : ℕ) → slice_index (sizes_in part k) c ≤ fields.length)
        → (least slots : ℕ) → IsSlotCount slot least → least ≤ slots
        → filter_map (number_of k) (map (slot_in part) (range_with_len 0 slots)) ≡ range_with_len 0 (length (slice_index_or (service_packets part) k []))
    all_numbers accepted fits least slots count le = out_all
      where
        out_first : numbers (range_with_len 0 least) ≡ range_with_len 0 (length packets)
        out_first = service_out part accepted k known fits least count

        no_number : (it : Slot) → is_of_service it ≡ false → number_of k it ≡ None
        no_number (of_table n) is = refl
        no_number (of_service j n) is = absurd (cc)
        no_number empty is = refl

        none_behind : (m a : ℕ) → least ≤ a → numbers (range_with_len a m) ≡ []
        none_behind zero a from = refl
        none_behind (suc m) a from = ap₂ (λ (o : Option ℕ) (l : List ℕ). cons_option o l) (no_number (slot a) (count.over a from)) (none_behind m (a + 1) (omega (arith, from)))

        out_all : numbers (range_with_len 0 slots) ≡ range_with_len 0 (length packets)
        out_all =
            let whole : slots ≡ least + (slots - least) = omega (arith, le) in
            ap (λ (n : ℕ). numbers (range_with_len 0 n)) whole
            ∙ ap numbers (range_append 0 least (slots - least) least (omega arith))
            ∙ ap (filter_map (number_of k)) (map-append slot (range_with_len 0 least) (range_with_len least (slots - least)))
            ∙ filter_map-append (number_of k) (map slot (range_with_len 0 least)) (map slot (range_with_len least (slots - least)))
            ∙ ap₂ (λ (a b : List ℕ). a ++ b) out_first (none_behind (slots - least) least (omega arith))
            ∙ append-nil (range_with_len 0 (length packets))

    pub packets_sent_in : is_plan part.plan ≡ true
        → ((fields : SlicedFields) → sliced_of (kind_at part.plan k) ≡ Some fields → (c : ℕ) → slice_index (sizes_in part k) c ≤ fields.length)
        → (least slots : ℕ) → IsSlotCount slot least → least ≤ slots → read_of pid (map (slot_packet part) (range_with_len 0 slots)) ≡ packets
    packets_sent_in accepted fits least slots count le =
        slots_read pid k packets (slot_packet part) slot slot_read (range_with_len 0 slots)
        ∙ ap (map (packet_at packets)) (all_numbers accepted fits least slots count le)
        ∙ all_packets
