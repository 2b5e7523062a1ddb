-- The end of a transmission: when no packets are left, and that slots before it are of it.
use Rattle.std.proofs.Common.{◌≡◌, ◌⊎◌, inl, inr, ℕ, zero, suc, ◌+◌, ◌-◌, ◌*◌, ◌/◌, ◌%◌, ◌<◌, ◌≤◌, min, Bool, true, false, cond, eqb, List, [], ◌∷◌, ◌++◌, length, map, take, drop, refl, sym, ap, ◌∙◌, arith, append_assoc, append-nil, length-drop, replicate, subst, Option, Some, None}
use Rattle.std.specs.Prelude.{slice_index, slice_index_or, is_some, filter_map, sum}
use Rattle.std.specs.List.{range_with_len}
use Rattle.std.specs.Io.KnownBytes.{Appends}
use Rattle.std.proofs.KnownBytes.{Appends-nil, Appends-trans}
use Rattle.std.proofs.lemmas.Bool.{cases_lt}
use Rattle.std.proofs.lemmas.List.{length-append, length-map, map-append, take_at, take-append-drop, get_or_past}
use Rattle.std.proofs.lemmas.List.Elements.{filter_map-append}
use Rattle.std.proofs.lemmas.List.FromFn.{map-range_with_len_more}
use Rattle.std.proofs.lemmas.List.Sums.{sum_by-cons}
use Rattle.wire_spec.specs.Lists.{joined}
use Rattle.ts_spec.specs.Packet.{PacketFields}
use Rattle.plan_spec.specs.Plan.{PlanFields, kinds, SlicedFields, sliced_of}
use Rattle.plan_spec.specs.Signalling.{table_packets}
use Rattle.plan_spec.specs.Valid.{is_plan}
use Rattle.stream_spec.specs.Services.{kind_at}
use Rattle.stream_spec.specs.Slots.{Slot, of_table, of_service, empty, is_of_service, Turns, turns_at, IsSlotCount}
use Rattle.stream_spec.specs.Windows.{windows_of, out_before}
use Rattle.stream_spec.specs.Parts.{PartFields, service_packets, turn_counts, sizes_in, kept_in, slot_in, record_of_slot, records_of_slots}
use Rattle.stream_law.specs.Words.{number_of, AreOutIn}
use Rattle.stream_law.proofs.Ranges.{range_append}
use Rattle.stream_law.proofs.Ends.{ends_from}
use Rattle.stream_law.proofs.Carrying.{same_length, length-packets_from, length-turns, count_of, cycles_of, leaves_slots, keeps_none_from, IsOfBurst, kept_of_burst}
use Rattle.stream_law.proofs.KindPackets.{no_bursts as no_sizes_of}
use Rattle.stream_law.proofs.Turns.{KeepsNoneOf, out_of}
use Rattle.stream_law.proofs.AllOut.{in_window, all_are}
use Rattle.stream_law.proofs.FirstOut.{out_there}
use Rattle.slice_law.proofs.Checks.{shorter}
use Rattle.slice_law.proofs.Turned.{out_more, out_is as windowed_out}
use Rattle.ts_mux.specs.Services.{Serving, Bursts, no_bursts, bursts_of, packet_total, burst_total, left_in, turn_of, left_of, rotation, AreAt, all_bursts, Begins}
use Rattle.ts_mux.specs.Slots.{turns_in, bursts_where, bursts_there, ServicesAt, StandBefore, IsOver, AddsRecord, AreHanded}
use Rattle.ts_mux.proofs.Turned.{found_has, total_at}
use Rattle.ts_mux.proofs.Rotation.{rotation_at, length-rotation}
use Rattle.ts_mux.proofs.Bursting.{same_bursts, first_shape}
use Rattle.ts_mux.specs.declared.int_packets.IntPackets.{IntPackets}
use Rattle.ts_mux.proofs.Stepped.{left_at, length-left_of, within_here}

-- Nothing is left.

pub no_turn : (serving : Serving) → serving.first ≤ length serving.turns → packet_total serving.turns ≡ 0 → turn_of serving ≡ None
no_turn serving le none = by_turn (turn_of serving) refl
  where
    by_turn : (turn : Option ℕ) → turn_of serving ≡ turn → turn_of serving ≡ None
    by_turn None e = e
    by_turn (Some k) e = absurd (omega (arith, none, total_at serving.turns k, (found_has serving.turns serving.first le k e).1))

total_none : (lists : List (List PacketFields)) → ((k : ℕ) → length (slice_index_or lists k []) ≡ 0) → packet_total lists ≡ 0
total_none [] none = refl
total_none (list ∷ lists) none = omega (arith, none 0, total_none lists (λ k. none (suc k)))

bursts_none : (bursts : List Bursts) → ((k : ℕ) → length (bursts_of bursts k).packets ≡ 0) → burst_total bursts ≡ 0
bursts_none [] none = refl
bursts_none (b ∷ bursts) none = omega (arith, none 0, bursts_none bursts (λ k. none (suc k)))

pub bursts_most : (bursts : List Bursts) (k : ℕ) → length (bursts_of bursts k).packets ≤ burst_total bursts
bursts_most [] k = omega arith
bursts_most (b ∷ bursts) zero = omega arith
bursts_most (b ∷ bursts) (suc k) = omega (arith, bursts_most bursts k)

-- at the start
pub nothing_sent : (services : List (List PacketFields)) (n : ℕ) → left_of services (replicate n 0) ≡ services
nothing_sent [] n = refl
nothing_sent (packets ∷ services) zero = refl
nothing_sent (packets ∷ services) (suc n) = ap (λ (t : List (List PacketFields)). packets ∷ t) (nothing_sent services n)

-- Records.

pub joined-append : (a b : List (List ℕ)) → joined (a ++ b) ≡ joined a ++ joined b
joined-append [] b = refl
joined-append (x ∷ a) b = ap (λ (t : List ℕ). x ++ t) (joined-append a b) ∙ sym (append_assoc x (joined a) (joined b))

module _ (part : PartFields) where
  abbrev bytes_to : ℕ → List ℕ
  bytes_to n = joined (records_of_slots part n)

  pub one_record_more : (slot : ℕ) → bytes_to (slot + 1) ≡ bytes_to slot ++ record_of_slot part slot
  one_record_more slot =
      ap joined (map-range_with_len_more (record_of_slot part) 0 slot slot (omega arith))
      ∙ joined-append (map (record_of_slot part) (range_with_len 0 slot)) (record_of_slot part slot ∷ [])
      ∙ ap (λ (t : List ℕ). bytes_to slot ++ t) (append-nil (record_of_slot part slot))

  pub more_records : (d slot : ℕ) → (rest : List ℕ) × (bytes_to (slot + d) ≡ bytes_to slot ++ rest)
  more_records zero slot = let same : slot + 0 ≡ slot = omega arith in ([], ap bytes_to same ∙ sym (append-nil (bytes_to slot)))
  more_records (suc d) slot =
      let before : (rest : List ℕ) × (bytes_to (slot + d) ≡ bytes_to slot ++ rest) = more_records d slot in
      let next : slot + suc d ≡ slot + d + 1 = omega arith in (
        before.0 ++ record_of_slot part (slot + d),
        ap bytes_to next ∙ one_record_more (slot + d) ∙ ap (λ (t : List ℕ). t ++ record_of_slot part (slot + d)) before.1
            ∙ append_assoc (bytes_to slot) before.0 (record_of_slot part (slot + d)),
      )

-- The end of a part.

out_most : (sizes : List ℕ) (c : ℕ) → out_before sizes c ≤ sum sizes
out_most [] zero = omega arith
out_most [] (suc c) = omega arith
out_most (x ∷ xs) zero = omega arith
out_most (x ∷ xs) (suc c) = omega (arith, sum_by-cons (λ (n : ℕ). n) x (take c xs), sum_by-cons (λ (n : ℕ). n) x xs, out_most xs c)

length-range : (a n : ℕ) → length (range_with_len a n) ≡ n
length-range a zero = refl
length-range a (suc n) = ap suc (length-range (a + 1) n)

module _ (part : PartFields) (accepted : is_plan part.plan ≡ true)
    (fits : (k : ℕ) (fields : SlicedFields) → sliced_of (kind_at part.plan k) ≡ Some fields → (c : ℕ) → slice_index (sizes_in part k) c ≤ fields.length) where
  abbrev carried : ℕ → Slot
  carried s = slot_in part s

  abbrev packets : ℕ → List PacketFields
  packets k = slice_index_or (service_packets part) k []

  abbrev turns : ℕ → Turns
  turns s = turns_in part s

  abbrev out : ℕ → ℕ → List ℕ
  out k s = filter_map (number_of k) (map (slot_in part) (range_with_len 0 s))

  pub slots_end : (slots : ℕ) × IsSlotCount carried slots
  slots_end =
      ends_from (kept_in part) (turn_counts (kinds part.plan) (service_packets part)) (leaves_slots part (shorter part.plan accepted)) (cycles_of part * part.plan.cycle)
      (keeps_none_from part (shorter part.plan accepted))

  grown : (k a s : ℕ) → a ≤ s → length (out k a) ≤ length (out k s)
  grown k a s le =
      let all : s ≡ a + (s - a) = omega (arith, le) in
      let both : out k (a + (s - a)) ≡ out k a ++ filter_map (number_of k) (map (slot_in part) (range_with_len a (s - a)))
      = ap (λ (l : List ℕ). filter_map (number_of k) (map (slot_in part) l)) (range_append 0 a (s - a) a (omega arith))
      ∙ ap (filter_map (number_of k)) (map-append (slot_in part) (range_with_len 0 a) (range_with_len a (s - a)))
      ∙ filter_map-append (number_of k) (map (slot_in part) (range_with_len 0 a)) (map (slot_in part) (range_with_len a (s - a))) in
      omega (
        arith,
        ap (λ (n : ℕ). length (out k n)) all,
        ap (λ (l : List ℕ). length l) both,
        length-append (out k a) (filter_map (number_of k) (map (slot_in part) (range_with_len a (s - a)))),
      )

  module _ (s : ℕ) (serving : Serving) (at : ServicesAt part s serving) where
    sized : length (turns s).sent ≡ length (rotation part)
    sized = omega (arith, (within_here part accepted fits s).size, length-map (rotation part) (λ (ps : List PacketFields). length ps))

    -- what a service has left in rotation
    turn_left : (k : ℕ) → length (slice_index_or serving.turns k []) ≡ length (slice_index_or (rotation part) k []) - slice_index (turns s).sent k
    turn_left k =
        ap (λ (ps : List (List PacketFields)). length (slice_index_or ps k [])) at.turns.packets ∙ ap (λ (ps : List PacketFields). length ps) (left_at (rotation part) (turns s).sent k sized)
        ∙ length-drop (slice_index (turns s).sent k) (slice_index_or (rotation part) k [])

    rotation_is : (k : ℕ) (o : Option SlicedFields) → sliced_of (kind_at part.plan k) ≡ o → slice_index_or (rotation part) k [] ≡ cond (is_some o) [] (packets k)
    rotation_is k o e = rotation_at (kinds part.plan) (service_packets part) k (same_length part) ∙ ap (λ (it : Option SlicedFields). cond (is_some it) [] (packets k)) e

    -- and in bursts
    burst_left : (k : ℕ) (o : Option SlicedFields) → sliced_of (kind_at part.plan k) ≡ o → bursts_of serving.bursts k ≡ bursts_where part s k o
    burst_left k o e = at.bursts k ∙ ap (bursts_where part s k) e

    -- how many packets of it are out
    abbrev out_count : ℕ → Option SlicedFields → ℕ
    out_count k None = slice_index (turns s).sent k
    out_count k (Some fields) = out_before (sizes_in part k) (s / part.plan.cycle) + min (slice_index (sizes_in part k) (s / part.plan.cycle)) (s % part.plan.cycle - fields.start)

    left_count : (k : ℕ) (o : Option SlicedFields) → sliced_of (kind_at part.plan k) ≡ o
        → length (slice_index_or serving.turns k []) + length (bursts_of serving.bursts k).packets ≡ length (packets k) - out_count k o
    left_count k None e =
        omega (
          arith,
          turn_left k,
          ap (λ (ps : List PacketFields). length ps) (rotation_is k None e),
          ap (λ (b : Bursts). length b.packets) (burst_left k None e),
        )
    left_count k (Some fields) e =
        omega (
          arith,
          turn_left k,
          ap (λ (ps : List PacketFields). length ps) (rotation_is k (Some fields) e),
          ap (λ (b : Bursts). length b.packets) (burst_left k (Some fields) e),
          length-drop (out_before (sizes_in part k) (s / part.plan.cycle) + min (slice_index (sizes_in part k) (s / part.plan.cycle)) (s % part.plan.cycle - fields.start)) (packets k),
        )

    out_not_more : (k : ℕ) → k < length part.plan.services → (o : Option SlicedFields) → sliced_of (kind_at part.plan k) ≡ o → out_count k o ≤ length (packets k)
    out_not_more k known None e =
        omega (
          arith,
          (within_here part accepted fits s).most k (omega (arith, known, length-rotation part, length-map (rotation part) (λ (ps : List PacketFields). length ps))),
          count_of (rotation part) k,
          ap (λ (ps : List PacketFields). length ps) (rotation_is k None e),
        )
    out_not_more k known (Some fields) e =
        omega (
          arith,
          out_more (sizes_in part k) (s / part.plan.cycle),
          out_most (sizes_in part k) (suc (s / part.plan.cycle)),
          all_are part accepted k known fields e (fits k fields e),
        )

    out_so : (k : ℕ) → k < length part.plan.services → (o : Option SlicedFields) → sliced_of (kind_at part.plan k) ≡ o → out k s ≡ range_with_len 0 (out_count k o)
    out_so k known None e = out_of (kept_in part) (turn_counts (kinds part.plan) (service_packets part)) k not_kept below s
      where
        not_kept : KeepsNoneOf k (kept_in part)
        not_kept s2 (of_table n) e2 = refl
        not_kept s2 empty e2 = refl
        not_kept s2 (of_service j n) e2 = by_same (eqb j k) refl (kept_of_burst part s2 j n e2)
          where
            by_same : (same : Bool) → eqb j k ≡ same → IsOfBurst part s2 j n → cond same (Some n) None ≡ None
            by_same false is it = refl
            by_same true is it =
                let one : j ≡ k = grind (arith, is) in
                let empty_is : sizes_in part j ≡ [] = ap (sizes_in part) one ∙ no_sizes_of (kind_at part.plan k) (part.datagrams k) e in
                absurd (omega (arith, it.below, ap (λ (l : List ℕ). slice_index l (s2 / part.plan.cycle)) empty_is))

        below : k < length (turn_counts (kinds part.plan) (service_packets part))
        below = omega (arith, known, length-turns (kinds part.plan) (service_packets part) (same_length part), length-packets_from part.packets_before part.schedules part.datagrams 0 part.plan.services)
    out_so k known (Some fields) e =
        windowed_out part.plan.cycle (table_packets part.plan) (windows_of part.plan) (sizes_in part) (turn_counts (kinds part.plan) (service_packets part)) k fields.start fields.length
        (in_window part accepted k known fields e (fits k fields e)) s

    -- where nothing is left all packets are out
    out_all : left_in serving ≡ 0 → AreOutIn part s
    out_all none k known =
        let o : Option SlicedFields = sliced_of (kind_at part.plan k) in
        out_so k known o refl
        ∙ ap (range_with_len 0) (all_of (out_count k o) (length (packets k)) (length (slice_index_or serving.turns k [])) (length (bursts_of serving.bursts k).packets) (left_count k o refl) (out_not_more k known o refl)
        (omega (arith, none, total_at serving.turns k)) (omega (arith, none, bursts_most serving.bursts k)))
      where
        all_of : (c n t b : ℕ) → t + b ≡ n - c → c ≤ n → t ≤ 0 → b ≤ 0 → c ≡ n
        all_of c n t b e le less less2 = omega (arith, e, le, less, less2)

    -- and the other way round
    none_left : ((k : ℕ) → k < length part.plan.services → length (packets k) ≤ length (out k s)) → left_in serving ≡ 0
    none_left all =
        let each : (k : ℕ) → (length (slice_index_or serving.turns k []) ≡ 0) × (length (bursts_of serving.bursts k).packets ≡ 0) = each_of in
        omega (arith, total_none serving.turns (λ k. (each k).0), bursts_none serving.bursts (λ k. (each k).1))
      where
        nothing : (t b n c l : ℕ) → t + b ≡ n - c → n ≤ l → l ≡ c → (t ≡ 0) × (b ≡ 0)
        nothing t b n c l e le e2 = (omega (arith, e, le, e2), omega (arith, e, le, e2))

        each_of : (k : ℕ) → (length (slice_index_or serving.turns k []) ≡ 0) × (length (bursts_of serving.bursts k).packets ≡ 0)
        each_of k = by_place (cases_lt k (length part.plan.services))
          where
            by_place : (k < length part.plan.services) ⊎ (length part.plan.services ≤ k) → (length (slice_index_or serving.turns k []) ≡ 0) × (length (bursts_of serving.bursts k).packets ≡ 0)
            by_place (inl known) =
                let o : Option SlicedFields = sliced_of (kind_at part.plan k) in
                nothing (length (slice_index_or serving.turns k [])) (length (bursts_of serving.bursts k).packets) (length (packets k)) (out_count k o) (length (out k s)) (left_count k o refl) (all k known)
                (ap (λ (l : List ℕ). length l) (out_so k known o refl) ∙ length-range 0 (out_count k o))
            by_place (inr past) = (
              ap (λ (ps : List PacketFields). length ps) (get_or_past serving.turns k [] (omega (arith, past, ap (λ (ps : List (List PacketFields)). length ps) at.turns.packets, length-left_of (rotation part) (turns s).sent, length-rotation part))),
              ap (λ (b : Bursts). length b.packets) (get_or_past serving.bursts k no_bursts (omega (arith, past, at.count))),
            )

    -- so the part is over exactly there
    pub ends_where : left_in serving ≡ 0 → (slots : ℕ) → IsSlotCount carried slots → slots ≤ s
    ends_where none slots count = by_order (cases_lt s slots)
      where
        by_order : (s < slots) ⊎ (slots ≤ s) → slots ≤ s
        by_order (inr le) = le
        by_order (inl less) = absurd ((out_there part accepted fits slots count).first s less (out_all none))

    pub left_none : (slots : ℕ) → IsSlotCount carried slots → slots ≤ s → left_in serving ≡ 0
    left_none slots count le =
        none_left (λ k known.
        omega (
          arith,
          grown k slots s le,
          ap (λ (l : List ℕ). length l) ((out_there part accepted fits slots count).out k known),
          length-range 0 (length (packets k)),
        ))

    pub goes_on : 0 < left_in serving → (slots : ℕ) → IsSlotCount carried slots → s < slots
    goes_on some slots count = by_order (cases_lt s slots)
      where
        by_order : (s < slots) ⊎ (slots ≤ s) → s < slots
        by_order (inl less) = less
        by_order (inr le) = absurd (omega (arith, some, left_none slots count le))

    -- after the end no service has its turn
    pub over_left : (from : ℕ) → from ≤ s → IsOver part from → left_in serving ≡ 0
    over_left from le over = left_none slots_end.0 slots_end.1 (omega (arith, le, before))
      where
        before : slots_end.0 ≤ from
        before = by_order (cases_lt from slots_end.0)
          where
            both : (b : Bool) → b ≡ true → b ≡ false → ⊥
            both b e e2 = cc

            by_order : (from < slots_end.0) ⊎ (slots_end.0 ≤ from) → slots_end.0 ≤ from
            by_order (inr it) = it
            by_order (inl less) =
                let place : slots_end.0 ≡ (slots_end.0 - 1) + 1 = omega (arith, less) in
                absurd (both (is_of_service (slot_in part (slots_end.0 - 1))) (slots_end.1.last (slots_end.0 - 1) place) (over (slots_end.0 - 1) (omega (arith, less))))

    pub idle : left_in serving ≡ 0 → turn_of serving ≡ None
    idle none =
        no_turn serving
        (omega (
          arith,
          at.turns.first,
          (within_here part accepted fits s).first,
          length-map (rotation part) (λ (ps : List PacketFields). length ps),
          ap (λ (ps : List (List PacketFields)). length ps) at.turns.packets,
          length-left_of (rotation part) (turns s).sent,
        )) (omega (arith, none))

-- before the first slot
pub at_start : (part : PartFields) (serving : Serving) → serving.turns ≡ rotation part → serving.first ≡ 0 → AreAt (rotation part) (turns_in part 0) serving
unfolding turns_at
at_start part serving turns first = record { packets = turns ∙ sym (nothing_sent (rotation part) (length (turn_counts (kinds part.plan) (service_packets part)))); first = first }

bursts_start : (part : PartFields) → 0 < part.plan.cycle → (k : ℕ) → all_bursts part k ≡ bursts_there part 0 k
bursts_start part some k = by_sliced (sliced_of (kind_at part.plan k)) refl
  where
    by_sliced : (o : Option SlicedFields) → sliced_of (kind_at part.plan k) ≡ o → all_bursts part k ≡ bursts_there part 0 k
    by_sliced None e =
        same_bursts _ _ _ _ _ _ (ap (λ (o : Option SlicedFields). cond (is_some o) (slice_index_or (service_packets part) k []) []) e) refl (no_sizes_of (kind_at part.plan k) (part.datagrams k) e)
        ∙ sym (ap (bursts_where part 0 k) e)
    by_sliced (Some fields) e =
        same_bursts _ _ _ _ _ _ (ap (λ (o : Option SlicedFields). cond (is_some o) (slice_index_or (service_packets part) k []) []) e) refl refl
        ∙ sym (first_shape part.plan.cycle fields.start (sizes_in part k) (slice_index_or (service_packets part) k []) some)
        ∙ sym (ap (bursts_where part 0 k) e)

pub services_start : (part : PartFields) → 0 < part.plan.cycle → (serving : Serving) → Begins part serving → ServicesAt part 0 serving
services_start part some serving begins = record {
  turns = at_start part serving begins.turns begins.first;
  bursts = λ k. begins.bursts k ∙ bursts_start part some k;
  count = begins.count;
  shapes = begins.shapes;
  windows = begins.windows;
}

-- Records that are handed on in pieces.

pub none_handed : (part : PartFields) (old : Option (List ℕ)) (before : List ℕ) → AreHanded part 0 old old before before
none_handed part old before = record { front = []; appended = Appends-nil old; bytes_are = append-nil before }

-- a record was added to those that are held back, and then a front of these was appended
module _ (plan : PlanFields) (part : PartFields) (slot of_stream : ℕ) (serving : Serving) (table : IntPackets) (old mid new : Option (List ℕ)) (before held back : List ℕ)
    (adds : AddsRecord plan part slot of_stream serving table held back) (handed : AreHanded part slot old mid before held) where
  pub added_bytes : before ++ joined (records_of_slots part (slot + 1)) ≡ handed.front ++ back
  added_bytes =
      ap (λ (t : List ℕ). before ++ t) (one_record_more part slot)
      ∙ sym (append_assoc before (joined (records_of_slots part slot)) (record_of_slot part slot))
      ∙ ap (λ (t : List ℕ). t ++ record_of_slot part slot) handed.bytes_are
      ∙ append_assoc handed.front held (record_of_slot part slot)
      ∙ ap (λ (t : List ℕ). handed.front ++ t) (sym adds.bytes_are)

  pub one_handed : (after : List ℕ) → (front : List ℕ) × Appends mid new front × (back ≡ front ++ after) → AreHanded part (slot + 1) old new before after
  one_handed after piece = record {
    front = handed.front ++ piece.0;
    appended = Appends-trans old mid new handed.front piece.0 handed.appended piece.1;
    bytes_are = added_bytes ∙ ap (λ (t : List ℕ). handed.front ++ t) piece.2 ∙ sym (append_assoc handed.front piece.0 after);
  }

-- a prefix of what was held back was appended: a prefix of all records
pub part_handed : (part : PartFields) (slots slot : ℕ) (old mid new : Option (List ℕ)) (before front back : List ℕ) → slot ≤ slots
    → before ++ joined (records_of_slots part slot) ≡ front ++ back → Appends old mid front
    → (n : ℕ) × Appends mid new (take n back) → (m : ℕ) × Appends old new (take m (before ++ joined (records_of_slots part slots)))
part_handed part slots slot old mid new before front back le bytes_are appended some = (
  length piece,
  subst (Appends old new) (sym (ap (take (length piece)) whole ∙ take_at piece (drop some.0 back ++ behind.0) (length piece) refl)) (Appends-trans old mid new front (take some.0 back) appended some.1),
)
  where
    piece : List ℕ
    piece = front ++ take some.0 back

    behind : (rest : List ℕ) × (joined (records_of_slots part (slot + (slots - slot))) ≡ joined (records_of_slots part slot) ++ rest)
    behind = more_records part (slots - slot) slot

    whole : before ++ joined (records_of_slots part slots) ≡ piece ++ (drop some.0 back ++ behind.0)
    whole =
        let place : slots ≡ slot + (slots - slot) = omega (arith, le) in
        ap (λ (n : ℕ). before ++ joined (records_of_slots part n)) place ∙ ap (λ (t : List ℕ). before ++ t) behind.1
        ∙ sym (append_assoc before (joined (records_of_slots part slot)) behind.0) ∙ ap (λ (t : List ℕ). t ++ behind.0) bytes_are
        ∙ ap (λ (t : List ℕ). (front ++ t) ++ behind.0) (sym (take-append-drop some.0 back))
        ∙ ap (λ (t : List ℕ). t ++ behind.0) (sym (append_assoc front (take some.0 back) (drop some.0 back)))
        ∙ append_assoc piece (drop some.0 back) behind.0

-- the slots of a part up to the last packet of its services are on their way
pub record IsUnderWay (plan : PlanFields) (part : PartFields) (place of_stream : ℕ) (old new : Option (List ℕ)) (before back : List ℕ) (serving : Serving) (signals : IntPackets) : Type 0 where
  pub stand : StandBefore plan part place of_stream serving signals
  pub within : (slots : ℕ) → IsSlotCount (slot_in part) slots → place ≤ slots
  pub handed : AreHanded part place old new before back

-- before the first
pub under_way_first : (plan : PlanFields) (part : PartFields) (place of_stream : ℕ) (old : Option (List ℕ)) (before : List ℕ) (serving : Serving) (signals : IntPackets) → place ≡ 0
    → StandBefore plan part 0 of_stream serving signals → IsUnderWay plan part place of_stream old old before before serving signals
under_way_first plan part place of_stream old before serving signals first stand =
    subst (λ (n : ℕ). IsUnderWay plan part n of_stream old old before before serving signals) (sym first) (record {
      stand = stand;
      within = λ slots count. omega arith;
      handed = none_handed part old before;
    })

-- one slot more
pub under_way_next : (plan : PlanFields) (part : PartFields) (place after of_stream : ℕ) (old mid new : Option (List ℕ)) (before held back rest : List ℕ) (serving next : Serving) (signals later : IntPackets)
    → after ≡ place + 1 → IsUnderWay plan part place of_stream old mid before held serving signals → AddsRecord plan part place of_stream next later held back
    → (front : List ℕ) × Appends mid new front × (back ≡ front ++ rest) → ((slots : ℕ) → IsSlotCount (slot_in part) slots → place < slots)
    → IsUnderWay plan part after (of_stream + 1) old new before rest next later
under_way_next plan part place after of_stream old mid new before held back rest serving next signals later is way adds piece goes =
    subst (λ (n : ℕ). IsUnderWay plan part n (of_stream + 1) old new before rest next later) (sym is) (record {
      stand = adds.after;
      within = λ slots count. omega (arith, goes slots count);
      handed = one_handed plan part place of_stream next later old mid new before held back adds way.handed rest piece;
    })

-- after the last
pub under_way_last : (part : PartFields) (place slots : ℕ) → IsSlotCount (slot_in part) slots → place ≤ slots → slots ≤ place → IsSlotCount (slot_in part) place
under_way_last part place slots count le ge = let same : slots ≡ place = omega (arith, le, ge) in subst (IsSlotCount (slot_in part)) same count
