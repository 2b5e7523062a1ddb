-- The bursts of what is listed fit their windows, and a part has few slots.
use Rattle.std.proofs.Common.{◌≡◌, ℕ, ◌*◌, ◌^◌, ◌<◌, ◌≤◌, true, false, List, [], ◌∷◌, length, get_or, refl, sym, ap, ◌∙◌, arith, subst, Some, None}
use Rattle.std.specs.Prelude.{slice_get, slice_index}
use Rattle.std.proofs.lemmas.List.{length-map}
use Rattle.std.proofs.lemmas.Nat.{mul-le}
use Rattle.ts_spec.specs.Packet.{PacketFields}
use Rattle.plan_spec.specs.Plan.{KindFields, ule, mpe, fec, gse, ServiceFields, PlanFields, kinds, SlicedFields, sliced_of}
use Rattle.plan_spec.specs.Changes.{plan_in}
use Rattle.plan_spec.specs.Signalling.{table_packets}
use Rattle.plan_spec.specs.Valid.{is_plan}
use Rattle.plan_spec.specs.Wholes.{is_whole_plan}
use Rattle.plan_law.proofs.Kept.{length-services_in}
use Rattle.stream_spec.specs.Services.{kind_at}
use Rattle.stream_spec.specs.Slots.{IsSlotCount}
use Rattle.stream_spec.specs.Units.{burst_size, datagrams_by_burst, burst_sizes}
use Rattle.stream_spec.specs.Parts.{PartFields, service_packets, packet_counts, turn_counts, sizes_in, kept_in, slot_in}
use Rattle.stream_law.specs.Words.{is_single}
use Rattle.stream_law.proofs.Framed.{AreShort}
use Rattle.stream_law.proofs.Fitting.{alone_fits, sizes_fit}
use Rattle.stream_law.proofs.Kept.{sliced_kept}
use Rattle.stream_law.proofs.Wholes.{version_accepted}
use Rattle.stream_law.proofs.Ends.{total}
use Rattle.stream_law.proofs.Ranges.{sum_most}
use Rattle.stream_law.proofs.Counted.{slots_most}
use Rattle.stream_law.proofs.Plans.{ranges, at_least, at_most, few_services}
use Rattle.stream_law.proofs.Carrying.{cycles_of, leaves_slots, free_after, keeps_none_from}
use Rattle.slice_law.proofs.Checks.{shorter}
use Rattle.ts_mux.specs.Services.{AreTaken, Takes, packet_total, rotation, Serving, Begins}
use Rattle.ts_mux.specs.Sending.{AreDatagrams}
use Rattle.ts_mux.specs.Slots.{IsFew}
use Rattle.ts_mux.proofs.Items.{map_at}
use Rattle.ts_mux.proofs.Moved.{some_item}
use Rattle.ts_mux.proofs.Numbers.{item_is, frames_most}
use Rattle.ts_mux.proofs.Windowed.{known_there}
use Rattle.ts_mux.proofs.Framing.{are_sendable, short_all}
use Rattle.ts_mux.proofs.Rotation.{counts_are}
use Rattle.ts_mux.proofs.Parted.{Fits}

-- Bursts.

is_framed : (kind : KindFields) (fields : SlicedFields) → sliced_of kind ≡ Some fields → is_single kind ≡ false
is_framed (ule pid address packing) fields e = absurd (cc)
is_framed (mpe pid) fields e = absurd (cc)
is_framed (fec pid rows parity window) fields e = refl
is_framed (gse isi address) fields e = absurd (cc)

module _ (plan : PlanFields) (accepted : is_plan plan ≡ true) (k : ℕ) (fields : SlicedFields) (is : sliced_of (kind_at plan k) ≡ Some fields) where
  kind_fits : (kind : KindFields) → sliced_of kind ≡ Some fields → (ds : List (List ℕ)) → AreShort ds → (c : ℕ) → slice_index (burst_sizes kind ds) c ≤ fields.length
  kind_fits (ule pid address packing) e ds short c = absurd (cc)
  kind_fits (mpe pid) e ds short c = absurd (cc)
  kind_fits (fec pid rows parity None) e ds short c = absurd (cc)
  kind_fits (fec pid rows parity (Some window)) e ds short c =
      by_fields (record { rows = rows; parity = parity; start = window.start; length = window.length }) e
    where
      by_fields : (own : SlicedFields) → Some own ≡ Some fields → slice_index (burst_sizes (fec 0 own.rows own.parity (Some (record { start = own.start; length = own.length }))) ds) c ≤ fields.length
      by_fields own e2 =
          let same : own ≡ fields = cc in
          subst (λ (f : SlicedFields). slice_index (burst_sizes (fec 0 f.rows f.parity (Some (record { start = f.start; length = f.length }))) ds) c ≤ fields.length) (sym same)
          (sizes_fit fields.rows fields.parity fields.length (alone_fits plan accepted k fields is) ds short c)
  kind_fits (gse isi address) e ds short c = absurd (cc)

pub fits_listed : (plan : PlanFields) → is_whole_plan plan ≡ true → (lists : List (List (List (List ℕ)))) (datagrams : ℕ → ℕ → List (List ℕ)) → AreDatagrams plan datagrams lists
    → ((version : ℕ) → version ≤ length plan.changes → AreTaken plan (get_or lists version [])) → Fits plan datagrams
fits_listed plan whole lists datagrams are taken version within k fields is c =
    kind_fits (plan_in plan version) accepted k fields is (kind_at (plan_in plan version) k) is (datagrams version k) short c
  where
    accepted : is_plan (plan_in plan version) ≡ true
    accepted = version_accepted plan whole version within

    known : k < length plan.services
    known = omega (arith, known_there (plan_in plan version) accepted k fields is, length-services_in plan version)

    service : (s : ServiceFields) × (slice_get plan.services k ≡ Some s)
    service = some_item plan.services k known

    kind_is : kind_at plan k ≡ (service.0).kind
    kind_is = item_is (kinds plan) k (service.0).kind (mpe 0) (map_at (λ (s : ServiceFields). s.kind) plan.services k service.0 service.1)

    takes : Takes service.0 (datagrams version k)
    takes = (taken version within).each k service.0 (datagrams version k) service.1 (are.each version k within known)

    own : sliced_of (service.0).kind ≡ Some fields
    own = ap sliced_of (sym kind_is) ∙ sym (sliced_kept plan version k) ∙ is

    short : AreShort (datagrams version k)
    short = short_all (datagrams version k) (are_sendable (service.0).kind (datagrams version k) takes.on_pid (is_framed (service.0).kind fields own) takes.datagrams_are)

-- Slots.

sizes_few : (kind : KindFields) (ds : List (List ℕ)) → length (burst_sizes kind ds) ≤ length ds
sizes_few (ule pid address packing) ds = omega arith
sizes_few (mpe pid) ds = omega arith
sizes_few (fec pid rows parity None) ds = omega arith
sizes_few (fec pid rows parity (Some window)) ds =
    omega (arith, length-map (datagrams_by_burst rows parity window.length ds) (burst_size rows parity), frames_most (fec pid rows parity (Some window)) ds)
sizes_few (gse isi address) ds = omega arith

totals : (lists : List (List PacketFields)) → total (packet_counts lists) ≡ packet_total lists
totals [] = refl
totals (list ∷ lists) = omega (arith, totals lists)

module _ (part : PartFields) (accepted : is_plan part.plan ≡ true) (serving : Serving) (begins : Begins part serving) (few : packet_total serving.turns ≤ 2 ^ 54)
    (listed_few : (k : ℕ) → k < length part.plan.services → length (part.datagrams k) < 2 ^ 32) (half : table_packets part.plan ≤ 23) where
  abbrev cycle : ℕ
  cycle = part.plan.cycle

  least_cycle : 100 ≤ cycle
  least_cycle = at_least 100 1000000 cycle (ranges part.plan accepted).cycle

  most_cycle : cycle ≤ 1000000
  most_cycle = at_most 100 1000000 cycle (ranges part.plan accepted).cycle

  few_cycles : cycles_of part ≤ 64 * 2 ^ 32
  few_cycles =
      let all : cycles_of part ≤ length part.plan.services * 2 ^ 32
      = sum_most (λ k. length (sizes_in part k)) (2 ^ 32) 0 (length part.plan.services) (λ k less. omega (arith, sizes_few (kind_at part.plan k) (part.datagrams k), listed_few k (omega (arith, less)))) in
      omega (arith, all, few_services part.plan accepted)

  few_turns : total (turn_counts (kinds part.plan) (service_packets part)) ≤ 2 ^ 54
  few_turns =
      omega (arith, few, ap packet_total begins.turns, totals (rotation part), ap total (counts_are part))

  pub slots_few : (slots : ℕ) → IsSlotCount (slot_in part) slots → slots ≤ 320000000000000000
  slots_few slots count =
      let less : table_packets part.plan < cycle = shorter part.plan accepted in
      let many : cycles_of part * cycle ≤ 64 * 2 ^ 32 * 1000000 = mul-le (cycles_of part) cycle (64 * 2 ^ 32) 1000000 few_cycles most_cycle in
      omega (
        arith,
        slots_most cycle (table_packets part.plan) less (kept_in part) (turn_counts (kinds part.plan) (service_packets part)) (cycles_of part) (leaves_slots part less) (keeps_none_from part less)
            (λ c o late from below. free_after part less c o late from below) slots count (omega (arith, half, least_cycle)),
        few_turns,
        most_cycle,
        many,
      )

  pub few_there : (first : ℕ) → first ≤ 31 * 400000000000000000 → IsFew part first
  few_there first le slots count = omega (arith, le, slots_few slots count)
