-- A stream of what a capture gives has a moment in each slot.
use Rattle.std.proofs.Common.{◌≡◌, ◌⊎◌, inl, inr, ℕ, zero, suc, ◌+◌, ◌-◌, ◌*◌, ◌/◌, ◌%◌, ◌<◌, ◌≤◌, Bool, true, false, cond, eqb, get_or, List, [], ◌∷◌, ◌++◌, length, map, drop, refl, ap, subst, ◌∙◌, arith, Option, Some, None}
use Rattle.std.specs.Prelude.{filter, fold, slice_index_or, All, sum_by, is_some}
use Rattle.std.specs.List.{range_with_len}
use Rattle.std.specs.Int.{w32, to_be_bytes}
use Rattle.std.proofs.lemmas.List.{length-append, length-map}
use Rattle.std.proofs.lemmas.Nat.{div-add-mod', le-div, mul-le}
use Rattle.std.proofs.Math.Nat.{add-mul, mul_assoc, div-lt_iff_lt-mul}
use Rattle.ts_spec.specs.Form.{UnitForm}
use Rattle.ts_spec.specs.Packet.{PacketFields}
use Rattle.ts_spec.specs.Recording.{RecordingForm, plain, stamped, m2ts}
use Rattle.ts_spec.specs.Sndu.{sndu_form, address_bytes, sndu_front, sndu_bytes}
use Rattle.section_spec.specs.Section.{section_form}
use Rattle.section_spec.specs.Mpe.{mpe_to_write, mpe_body}
use Rattle.section_codec.proofs.Written.{length-section_bytes}
use Rattle.wire_spec.specs.Crc.{crc32_remainder}
use Rattle.unit_stream.specs.Packing.{filled, may_begin, begin_piece, middle_piece, pieces, byte_count, packetized}
use Rattle.unit_stream.proofs.Written.{length-numbered}
use Rattle.int_spec.specs.Table.{table_bytes, IsRule}
use Rattle.plan_spec.specs.Plan.{KindFields, ule, mpe, fec, gse, ServiceFields, IntFields, PlanFields, kinds, SlicedFields, sliced_of, rule_lists}
use Rattle.plan_spec.specs.Route.{longest_of}
use Rattle.plan_spec.specs.Signalling.{table_of, packets_of_table, table_packets}
use Rattle.plan_spec.specs.Valid.{is_plan}
use Rattle.plan_spec.specs.Changes.{plan_in, records_of_version}
use Rattle.plan_spec.specs.Wholes.{is_whole_plan}
use Rattle.plan_spec.specs.Offered.{datagrams as datagrams_of, service_of_datagram, is_offered_to, offered_in}
use Rattle.stream_spec.specs.Services.{kind_at}
use Rattle.stream_spec.specs.Slots.{IsSlotCount}
use Rattle.fec_frame_spec.specs.Sender.{with_datagram}
use Rattle.slice_spec.specs.Moments.{units_per_second, ten}
use Rattle.stream_spec.specs.Units.{FrameSchedule, mac_for, sndu_of, section_of, datagrams_by_frame, units_of_frames, burst_size, fits_window, datagrams_by_burst, burst_sizes, packets_of_kind}
use Rattle.wire_spec.specs.Datagram.{ether_type_of}
use Rattle.stream_spec.specs.Parts.{PartFields, service_packets, turn_count, turn_counts, sizes_in, kept_in, slot_in}
use Rattle.stream_spec.specs.Stream.{part_of, is_last, whole_cycles, IsPartCount}
use Rattle.plan_spec.specs.Bytes.{IsMac, IsOfBytes, AreOfBytes}
use Rattle.stream_law.specs.Words.{IsByteDatagram, IsWithinLimits, HasMoment, HaveMoments, records_before}
use Rattle.stream_law.proofs.Datagrams.{mac_for_is}
use Rattle.stream_law.proofs.Ends.{total}
use Rattle.stream_law.proofs.Ranges.{sum_next, sum_most}
use Rattle.stream_law.proofs.Sent.{packets_at}
use Rattle.stream_law.proofs.Units.{IsTaken, AreTaken}
use Rattle.stream_law.proofs.Framed.{AreShort, framed_size}
use Rattle.stream_law.proofs.KindRanges.{HasFrames, kind_has_frames, rows_within}
use Rattle.stream_law.proofs.Versions.{limits_of_version, taken_in_version}
use Rattle.stream_law.proofs.Wholes.{few_changes, version_accepted}
use Rattle.stream_law.proofs.KindPackets.{no_bursts}
use Rattle.stream_law.proofs.Carrying.{length-packets_from, same_length, cycles_of, leaves_slots, free_after, keeps_none_from}
use Rattle.slice_law.proofs.Checks.{rate_above, sliceable}
use Rattle.stream_law.proofs.Plans.{at_most, at_least, ranges, sendable, few_services, few_rules}
use Rattle.stream_law.proofs.TableSizes.{table_size}
use Rattle.stream_law.proofs.Counted.{slots_most}

-- no more packets than bytes
pieces_most : (most start : ℕ) (packing : Bool) (rest : List ℕ) (units : List (List ℕ)) → length (pieces most start packing rest units) ≤ most
pieces_most zero start packing rest units = omega arith
pieces_most (suc most) start packing rest units =
    by_begin (may_begin start packing rest units) (eqb (length rest) 0)
    (pieces_most most start packing (filled start packing (183 - length rest) units).rest (filled start packing (183 - length rest) units).units)
    (pieces_most most start packing (drop 184 rest) units)
  where
    by_begin : (begins none : Bool)
        → length (pieces most start packing (filled start packing (183 - length rest) units).rest (filled start packing (183 - length rest) units).units) ≤ most
        → length (pieces most start packing (drop 184 rest) units) ≤ most
        → length (cond begins (begin_piece rest (filled start packing (183 - length rest) units) (pieces most start packing))
        (cond none [] (middle_piece rest ∷ pieces most start packing (drop 184 rest) units))) ≤ suc most
    by_begin true none le le2 = omega (arith, le)
    by_begin false true le le2 = omega arith
    by_begin false false le le2 = omega (arith, le2)

packets_most : (form : UnitForm) (packing : Bool) (pid counter : ℕ) (units : List (List ℕ)) → length (packetized form packing pid counter units) ≤ byte_count units
packets_most form packing pid counter units =
    omega (arith, length-numbered pid counter (pieces (byte_count units) form.start packing [] units), pieces_most (byte_count units) form.start packing [] units)

-- Units by themselves have at most 16 bytes more than their datagrams.

sndu_size : (npa : Option (List ℕ)) (first_type : ℕ) (datagram : List ℕ) → length (address_bytes npa) ≤ 6 → length (sndu_bytes npa first_type datagram) ≤ length datagram + 16
sndu_size npa first_type datagram le =
    let whole : length (sndu_bytes npa first_type datagram) ≡ length (sndu_front npa first_type datagram) + length (to_be_bytes w32 (crc32_remainder 0xFFFF_FFFF (sndu_front npa first_type datagram)))
    = length-append (sndu_front npa first_type datagram) (to_be_bytes w32 (crc32_remainder 0xFFFF_FFFF (sndu_front npa first_type datagram))) in
    let four : length (to_be_bytes w32 (crc32_remainder 0xFFFF_FFFF (sndu_front npa first_type datagram))) ≡ 4 = refl in
    let front : length (sndu_front npa first_type datagram) ≡ 4 + length (address_bytes npa ++ datagram) = front_size (length (address_bytes npa ++ datagram)) in
    omega (arith, whole, four, front, length-append (address_bytes npa) datagram, le)
  where
    front_size : (n : ℕ) → suc (suc (suc (suc n))) ≡ 4 + n
    front_size n = omega arith

module _ (unicast : List ℕ) (is_mac : IsMac unicast) where
  of_sndu : (kind : KindFields) (address : Bool) (datagram : List ℕ) → IsTaken kind datagram → length (sndu_of address unicast datagram) ≤ length datagram + 16
  of_sndu kind address datagram taken = sndu_size (cond address (Some (mac_for unicast datagram)) None) (ether_type_of datagram) datagram (by_address address)
    where
      by_address : (a : Bool) → length (address_bytes (cond a (Some (mac_for unicast datagram)) None)) ≤ 6
      by_address true = omega (arith, (mac_for_is unicast datagram taken.bytes is_mac).size)
      by_address false = omega arith

  of_section : (kind : KindFields) (datagram : List ℕ) → IsTaken kind datagram → length (section_of unicast datagram) ≤ length datagram + 16
  of_section kind datagram taken =
      omega (arith, length-section_bytes 0x3E 0xB0 (mpe_body (mpe_to_write (mac_for unicast datagram) None datagram)), nine (length datagram))
    where
      nine : (n : ℕ) → suc (suc (suc (suc (suc (suc (suc (suc (suc n)))))))) ≡ n + 9
      nine n = omega arith

  units_size : (kind : KindFields) (unit : List ℕ → List ℕ) → ((datagram : List ℕ) → IsTaken kind datagram → length (unit datagram) ≤ length datagram + 16)
      → (datagrams : List (List ℕ)) → AreTaken kind datagrams → byte_count (map unit datagrams) ≤ byte_count datagrams + 16 * length datagrams
  units_size kind unit each [] taken = omega arith
  units_size kind unit each (datagram ∷ datagrams) taken = omega (arith, each datagram taken.0, units_size kind unit each datagrams taken.1)

  short_of : (kind : KindFields) → longest_of kind ≤ 4080 → (datagrams : List (List ℕ)) → AreTaken kind datagrams → AreShort datagrams
  short_of kind le [] taken = tt
  short_of kind le (datagram ∷ datagrams) taken = (omega (arith, le, taken.0.size), short_of kind le datagrams taken.1)

  kind_most : (kind : KindFields) → HasFrames kind → sliced_of kind ≡ None → (counter : ℕ) (schedule : FrameSchedule) (datagrams : List (List ℕ)) → AreTaken kind datagrams
      → length (packets_of_kind kind unicast counter schedule datagrams) ≤ 3 * byte_count datagrams + 16 * length datagrams + 89632
  kind_most (ule pid address packing) has none counter schedule datagrams taken =
      omega (
        arith,
        packets_most sndu_form packing pid counter (map (sndu_of address unicast) datagrams),
        units_size (ule pid address packing) (sndu_of address unicast) (of_sndu (ule pid address packing) address) datagrams taken,
      )
  kind_most (mpe pid) has none counter schedule datagrams taken =
      omega (arith, packets_most section_form true pid counter (map (section_of unicast) datagrams), units_size (mpe pid) (section_of unicast) (of_section (mpe pid)) datagrams taken)
  kind_most (fec pid rows parity None) has none counter schedule datagrams taken =
      omega (
        arith,
        packets_most section_form true pid counter (units_of_frames rows parity unicast schedule.first (datagrams_by_frame rows datagrams)),
        framed_size rows parity unicast (rows_within rows has.0).0 (rows_within rows has.0).1 has.2 schedule.first datagrams
            (short_of (fec pid rows parity None) (omega arith) datagrams taken),
      )
  kind_most (fec pid rows parity (Some window)) has none counter schedule datagrams taken = absurd (cc (none))
  kind_most (gse isi address) has none counter schedule datagrams taken = omega arith

-- some of the datagrams are not more than all
filtered_most : (test : List ℕ → Bool) (datagrams : List (List ℕ)) → (byte_count (filter test datagrams) ≤ byte_count datagrams) × (length (filter test datagrams) ≤ length datagrams)
filtered_most test [] = (omega arith, omega arith)
filtered_most test (datagram ∷ datagrams) = by_test (test datagram) (filtered_most test datagrams)
  where
    by_test : (is : Bool) → (byte_count (filter test datagrams) ≤ byte_count datagrams) × (length (filter test datagrams) ≤ length datagrams)
        → (byte_count (cond is (datagram ∷ filter test datagrams) (filter test datagrams)) ≤ byte_count (datagram ∷ datagrams))
        × (length (cond is (datagram ∷ filter test datagrams) (filter test datagrams)) ≤ length (datagram ∷ datagrams))
    by_test true le = (omega (arith, le.0), omega (arith, le.1))
    by_test false le = (omega (arith, le.0), omega (arith, le.1))

-- the packets of all services that go out in rotation, where each has at most so many
total_most : (all : List KindFields) (lists : List (List PacketFields)) (most : ℕ) → length all ≡ length lists
    → ((k : ℕ) → k < length lists → turn_count (is_some (sliced_of (get_or all k (mpe 0)))) (slice_index_or lists k []) ≤ most)
    → total (turn_counts all lists) ≤ length lists * most
total_most [] [] most same each = omega arith
total_most [] (list ∷ lists) most same each = absurd (omega (arith, same))
total_most (kind ∷ all) [] most same each = omega arith
total_most (kind ∷ all) (list ∷ lists) most same each =
    sums (turn_count (is_some (sliced_of kind)) list) (total (turn_counts all lists)) (length lists * most) (each 0 (omega arith))
    (total_most all lists most (omega (arith, same)) (λ k less. each (suc k) (omega (arith, less))))
    (one_more (length lists))
  where
    one_more : (n : ℕ) → suc n * most ≡ n * most + most
    one_more n = let one : suc n ≡ n + 1 = omega arith in ap (λ (k : ℕ). k * most) one ∙ omega (arith, add-mul n 1 most)

    sums : (a b c : ℕ) → a ≤ most → b ≤ c → suc (length lists) * most ≡ c + most → a + b ≤ suc (length lists) * most
    sums a b c le le2 e = omega (arith, le, le2, e)

-- The bursts of a service are not more than its datagrams.

frames_with : (fits : List (List ℕ) → Bool) (frames : List (List (List ℕ))) (d : List ℕ) → length (with_datagram fits frames d) ≤ length frames + 1
frames_with fits [] d = omega arith
frames_with fits (last ∷ []) d = by_fit (fits (last ++ d ∷ []))
  where
    by_fit : (is : Bool) → length (cond is ((last ++ d ∷ []) ∷ []) (last ∷ (d ∷ []) ∷ [])) ≤ length (last ∷ []) + 1
    by_fit true = omega arith
    by_fit false = omega arith
frames_with fits (frame ∷ next ∷ others) d = omega (arith, frames_with fits (next ∷ others) d)

frames_in : (fits : List (List ℕ) → Bool) (ds : List (List ℕ)) (frames : List (List (List ℕ))) → length (fold (with_datagram fits) frames ds) ≤ length frames + length ds
frames_in fits [] frames = omega arith
frames_in fits (d ∷ ds) frames = omega (arith, frames_in fits ds (with_datagram fits frames d), frames_with fits frames d)

bursts_most : (kind : KindFields) (ds : List (List ℕ)) → length (burst_sizes kind ds) ≤ length ds
bursts_most (ule pid address packing) ds = omega arith
bursts_most (mpe pid) ds = omega arith
bursts_most (fec pid rows parity None) ds = omega arith
bursts_most (fec pid rows parity (Some window)) ds =
    omega (
      arith,
      length-map (datagrams_by_burst rows parity window.length ds) (burst_size rows parity),
      frames_in (fits_window rows parity window.length) ds [],
    )
bursts_most (gse isi address) ds = omega arith

-- some numbers are all 0, or one of them is not
none_or_some : (f : ℕ → ℕ) (n : ℕ) → (sum_by f (range_with_len 0 n) ≡ 0) ⊎ ((k : ℕ) × (1 ≤ f k))
none_or_some f zero = inl refl
none_or_some f (suc n) = by_last (f n) refl (none_or_some f n)
  where
    one : suc n ≡ n + 1
    one = omega arith

    by_last : (m : ℕ) → f n ≡ m → (sum_by f (range_with_len 0 n) ≡ 0) ⊎ ((k : ℕ) × (1 ≤ f k)) → (sum_by f (range_with_len 0 (suc n)) ≡ 0) ⊎ ((k : ℕ) × (1 ≤ f k))
    by_last (suc m) e before = inr (n, omega (arith, e))
    by_last zero e (inr some) = inr some
    by_last zero e (inl none) = inl (omega (arith, ap (λ (k : ℕ). sum_by f (range_with_len 0 k)) one, sum_next f n, e, none))

-- The INT takes at most 21 packets.
unfolding_table : (plan : PlanFields) → table_packets plan ≡ packets_of_table plan plan.table
unfolding table_packets
unfolding_table plan = refl

few_packets : (plan : PlanFields) → length plan.services ≤ 64 → sum_by length (rule_lists plan) ≤ 128 → All (All IsRule) (rule_lists plan) → table_packets plan ≤ 21
few_packets plan services rules all = omega (arith, unfolding_table plan, of_table plan.table)
  where
    of_table : (table : Option IntFields) → packets_of_table plan table ≤ 21
    of_table None = omega arith
    of_table (Some int) = few (length (table_bytes (table_of plan int))) (table_size plan int services rules all)
      where
        few : (n : ℕ) → n ≤ 3730 → (1 + n + 183) / 184 ≤ 21
        few n le = omega (arith, le)

-- One part: each service has no more datagrams than a capture.
module _ (part : PartFields) (accepted : is_plan part.plan ≡ true) (of_bytes : IsOfBytes part.plan) (taken : (k : ℕ) → AreTaken (kind_at part.plan k) (part.datagrams k))
    (few : (k : ℕ) → 3 * byte_count (part.datagrams k) + 16 * length (part.datagrams k) + 89632 ≤ 872504864) (least : ℕ) (count : IsSlotCount (slot_in part) least) where
  -- of each service in rotation
  service_most : (k : ℕ) → k < length (service_packets part)
      → turn_count (is_some (sliced_of (kind_at part.plan k))) (slice_index_or (service_packets part) k []) ≤ 872504864
  service_most k less = by_kind (sliced_of (kind_at part.plan k)) refl
    where
      unicast : List ℕ
      unicast = get_or (map (λ (service : ServiceFields). service.unicast) part.plan.services) k []

      known : k < length part.plan.services
      known = omega (arith, less, length-packets_from part.packets_before part.schedules part.datagrams 0 part.plan.services)

      by_kind : (of : Option SlicedFields) → sliced_of (kind_at part.plan k) ≡ of → turn_count (is_some of) (slice_index_or (service_packets part) k []) ≤ 872504864
      by_kind (Some fields) e = omega arith
      by_kind None e =
          let is : slice_index_or (service_packets part) k [] ≡ packets_of_kind (kind_at part.plan k) unicast (part.packets_before k % 16) (part.schedules k) (part.datagrams k)
          = packets_at part.packets_before part.schedules part.datagrams part.plan.services 0 k k (omega arith) known in
          let most : length (packets_of_kind (kind_at part.plan k) unicast (part.packets_before k % 16) (part.schedules k) (part.datagrams k))
          ≤ 3 * byte_count (part.datagrams k) + 16 * length (part.datagrams k) + 89632
          = kind_most unicast
          (of_bytes.unicast k [] (omega (arith, known, length-map part.plan.services (λ (service : ServiceFields). service.unicast))))
          (kind_at part.plan k) (kind_has_frames part.plan accepted k) e (part.packets_before k % 16) (part.schedules k) (part.datagrams k) (taken k) in
          omega (arith, ap (λ (l : List PacketFields). length l) is, most, few k)

  pub least_below : least ≤ 111681622592 + cycles_of part * part.plan.cycle
  least_below =
      let services : length (service_packets part) ≤ 64 = omega (arith, length-packets_from part.packets_before part.schedules part.datagrams 0 part.plan.services, few_services part.plan accepted) in
      let all : total (turn_counts (kinds part.plan) (service_packets part)) ≤ length (service_packets part) * 872504864
      = total_most (kinds part.plan) (service_packets part) 872504864 (same_length part) service_most in
      let table : table_packets part.plan ≤ 21 = few_packets part.plan (few_services part.plan accepted) (few_rules part.plan accepted) of_bytes.rules in
      let long : 100 ≤ part.plan.cycle = at_least 100 1000000 part.plan.cycle (ranges part.plan accepted).cycle in
      let short : part.plan.cycle ≤ 1000000 = at_most 100 1000000 part.plan.cycle (ranges part.plan accepted).cycle in
      let leaves : table_packets part.plan < part.plan.cycle = (sendable part.plan accepted).leaves in
      omega (
        arith,
        services,
        all,
        short,
        slots_most part.plan.cycle (table_packets part.plan) leaves (kept_in part) (turn_counts (kinds part.plan) (service_packets part)) (cycles_of part)
            (leaves_slots part leaves) (keeps_none_from part leaves) (free_after part leaves) least count (omega (arith, table, long)),
      )

  -- the bursts of all services are few, and where there are any a cycle is short
  cycles_few : ((k : ℕ) → length (part.datagrams k) ≤ 4194304) → cycles_of part ≤ 268435456
  cycles_few count_most =
      let each : cycles_of part ≤ length part.plan.services * 4194304
      = sum_most (λ k. length (sizes_in part k)) 4194304 0 (length part.plan.services) (λ k less. omega (arith, bursts_most (kind_at part.plan k) (part.datagrams k), count_most k)) in
      omega (arith, each, few_services part.plan accepted)

  pub bursts_in_time : ((k : ℕ) → length (part.datagrams k) ≤ 4194304) → part.plan.recording ≡ stamped
      → cycles_of part * part.plan.cycle * 1000000 ≤ 10995116009324544 * part.plan.packet_rate
  bursts_in_time count_most form = by_some (none_or_some (λ k. length (sizes_in part k)) (length part.plan.services))
    where
      by_short : part.plan.cycle * 1000000 ≤ 40959999 * part.plan.packet_rate → cycles_of part * part.plan.cycle * 1000000 ≤ 10995116009324544 * part.plan.packet_rate
      by_short short =
          let all : cycles_of part * (part.plan.cycle * 1000000) ≤ 268435456 * (40959999 * part.plan.packet_rate)
          = mul-le (cycles_of part) (part.plan.cycle * 1000000) 268435456 (40959999 * part.plan.packet_rate) (cycles_few count_most) short in
          omega (arith, all, mul_assoc (cycles_of part) part.plan.cycle 1000000)

      by_kind : (k : ℕ) → 1 ≤ length (sizes_in part k) → (of : Option SlicedFields) → sliced_of (kind_at part.plan k) ≡ of → part.plan.cycle * 1000000 ≤ 40959999 * part.plan.packet_rate
      by_kind k some None e = absurd (omega (arith, some, ap (λ (l : List ℕ). length l) (no_bursts (kind_at part.plan k) (part.datagrams k) e)))
      by_kind k some (Some fields) e =
          subst (λ (f : RecordingForm). part.plan.cycle * units_per_second f ≤ (4096 * ten f - 1) * part.plan.packet_rate) form
          (sliceable part.plan accepted k fields e).cycle_below

      by_some : (sum_by (λ k. length (sizes_in part k)) (range_with_len 0 (length part.plan.services)) ≡ 0) ⊎ ((k : ℕ) × (1 ≤ length (sizes_in part k)))
          → cycles_of part * part.plan.cycle * 1000000 ≤ 10995116009324544 * part.plan.packet_rate
      by_some (inl none) =
          let nothing : cycles_of part * part.plan.cycle * 1000000 ≡ 0 * part.plan.cycle * 1000000 = ap (λ (n : ℕ). n * part.plan.cycle * 1000000) none in
          let zero_of : 0 * part.plan.cycle * 1000000 ≡ 0 = omega arith in
          omega (arith, nothing, zero_of)
      by_some (inr some) = by_short (by_kind some.0 some.1 (sliced_of (kind_at part.plan some.0)) refl)

-- All parts, at most 32.
module _ (plan : PlanFields) (whole : is_whole_plan plan ≡ true) (of_bytes : AreOfBytes plan) (gives : List (Option (List ℕ))) (are : All IsByteDatagram (datagrams_of gives))
    (limits : IsWithinLimits (datagrams_of gives)) (slots : ℕ → ℕ) (each : (version : ℕ) → version ≤ length plan.changes → IsPartCount plan (offered_in plan gives) slots version) where
  some_offered : (version k : ℕ) → (3 * byte_count (offered_in plan gives version k) + 16 * length (offered_in plan gives version k) + 89632 ≤ 872504864)
      × (length (offered_in plan gives version k) ≤ 4194304)
  some_offered version k =
      let some : (byte_count (offered_in plan gives version k) ≤ byte_count (datagrams_of (records_of_version plan version gives)))
      × (length (offered_in plan gives version k) ≤ length (datagrams_of (records_of_version plan version gives)))
      = filtered_most (λ datagram. is_offered_to (plan_in plan version) (service_of_datagram (plan_in plan version) datagram) k datagram) (datagrams_of (records_of_version plan version gives)) in
      let within : IsWithinLimits (datagrams_of (records_of_version plan version gives)) = limits_of_version plan version gives limits in
      (omega (arith, some.0, some.1, within.count, within.size), omega (arith, some.1, within.count))

  -- so many slots in a second of which each part has this many
  abbrev most : ℕ
  most = 122677738601324544 * plan.packet_rate / 1000000

  slots_below : plan.recording ≡ stamped → (version : ℕ) → version ≤ length plan.changes → slots version ≤ most
  slots_below form version within = by_count (each version within)
    where
      accepted : is_plan (plan_in plan version) ≡ true
      accepted = version_accepted plan whole version within

      short : plan.cycle ≤ 1000000
      short = at_most 100 1000000 plan.cycle (ranges (plan_in plan version) accepted).cycle

      by_count : IsPartCount plan (offered_in plan gives) slots version → slots version ≤ most
      by_count it = le-div (slots version) (122677738601324544 * plan.packet_rate) 1000000 (omega arith) in_time_all
        where
          part : PartFields
          part = part_of plan (offered_in plan gives) slots version

          below : it.least ≤ 111681622592 + cycles_of part * plan.cycle
          below =
              least_below part accepted (of_bytes version within) (λ k. taken_in_version plan version gives k are) (λ k. (some_offered version k).0) it.least it.count

          cycles_below : whole_cycles plan.cycle it.least ≤ it.least + plan.cycle
          cycles_below = omega (arith, div-add-mod' (it.least + plan.cycle - 1) plan.cycle)

          by_last : (last : Bool) → slots version ≡ cond last it.least (whole_cycles plan.cycle it.least) → slots version ≤ 111682622592 + cycles_of part * plan.cycle
          by_last true e = omega (arith, e, below)
          by_last false e = omega (arith, e, below, cycles_below, short)

          bursts : cycles_of part * plan.cycle * 1000000 ≤ 10995116009324544 * plan.packet_rate
          bursts = bursts_in_time part accepted (of_bytes version within) (λ k. taken_in_version plan version gives k are) (λ k. (some_offered version k).0) it.least it.count
              (λ k. (some_offered version k).1) form

          in_time_all : slots version * 1000000 ≤ 122677738601324544 * plan.packet_rate
          in_time_all = omega (arith, by_last (is_last plan (offered_in plan gives) version) it.slots_are, bursts, rate_above (plan_in plan version) accepted)

  pub in_time : HaveMoments plan slots
  in_time version s within less = by_form plan.recording refl
    where
      by_form : (form : RecordingForm) → plan.recording ≡ form → HasMoment form plan.packet_rate (records_before slots version + s)
      by_form plain is = tt
      by_form m2ts is = tt
      by_form stamped is =
          let before : records_before slots version ≤ version * most = sum_most slots most 0 version (λ v below. slots_below is v (omega (arith, below, within))) in
          let few : version * most ≤ 31 * most = mul-le version most 31 most (omega (arith, within, few_changes plan whole)) (omega arith) in
          let rate : 0 < plan.packet_rate = rate_above (plan_in plan version) (version_accepted plan whole version within) in
          let whole_parts : most * 1000000 ≤ 122677738601324544 * plan.packet_rate = omega (arith, div-add-mod' (122677738601324544 * plan.packet_rate) 1000000) in
          (div-lt_iff_lt-mul rate).1 (omega (arith, before, few, slots_below is version within, less, whole_parts, rate))
