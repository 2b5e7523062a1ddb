-- The packets of a sliced service arrive at the moments of the slots of its bursts.
use Rattle.std.proofs.Common.{◌≡◌, ℕ, ◌+◌, ◌*◌, ◌≤◌, Bool, true, false, ◌&&◌, cond, List, [], ◌∷◌, ◌++◌, length, map, replicate, refl, sym, ap, ap₂, subst, ◌∙◌, arith, Some}
use Rattle.std.specs.Prelude.{flat_map, sum_by, slice_index, slice_index_or}
use Rattle.std.specs.List.{range_with_len}
use Rattle.std.proofs.lemmas.List.{map-append}
use Rattle.ts_spec.specs.Packet.{PacketFields, fields_of, is_packet, packet_bytes, null_packet}
use Rattle.ts_spec.specs.Recording.{records_of}
use Rattle.ts_spec.specs.Received.{Arrival, arrivals}
use Rattle.ts_packet.specs.Fields.{written_fields}
use Rattle.slice_spec.specs.Moments.{moment_of}
use Rattle.slice_law.proofs.Checks.{rate_above, checks, some_sliced}
use Rattle.plan_spec.specs.Plan.{WindowFields, KindFields, fec, PlanFields, kinds, SlicedFields, sliced_of}
use Rattle.plan_spec.specs.Checks.{is_plain, is_sliced}
use Rattle.plan_spec.specs.Changes.{plan_in, pid_in, has_pid, versions}
use Rattle.plan_spec.specs.Valid.{is_plan}
use Rattle.plan_spec.specs.Wholes.{is_whole_plan}
use Rattle.stream_spec.specs.Units.{FrameSchedule, burst_size, datagrams_by_burst, burst_moment, burst_sizes}
use Rattle.stream_spec.specs.Services.{kind_at, IsPidOf}
use Rattle.stream_spec.specs.Parts.{service_packets, sizes_in}
use Rattle.stream_spec.specs.Stream.{schedule_of, earlier, IsPartCount}
use Rattle.stream_law.specs.Words.{HaveMoments, FitsWindow, records_before}
use Rattle.stream_law.proofs.Ranges.{flat_map_same}
use Rattle.stream_law.proofs.Kept.{pid_of_version, sizes_kept, sliced_kept}
use Rattle.stream_law.proofs.Wholes.{version_accepted, known_in}
use Rattle.stream_law.proofs.Plans.{sendable}
use Rattle.stream_law.proofs.Parts.{part, pieces, packets, has_its_pid, least_within, read_in_part}
use Rattle.stream_law.proofs.BurstValues.{all_packet_moments}
use Rattle.stream_law.proofs.BurstSlots.{all_slots, slot_moments, moments_count, part_moments}
use Rattle.stream_law.proofs.Arrived.{arrive_at}

-- the moments of packets are those of their slots
module _ (rows columns : ℕ) (schedule : FrameSchedule) (window : WindowFields) where
  abbrev at_slot : ℕ → ℕ
  at_slot t = moment_of schedule.form schedule.rate (schedule.slots_before + t)

  in_burst : (c : ℕ) (ns : List ℕ) → map (burst_moment schedule window c) ns ≡ map at_slot (map (λ n. c * schedule.cycle + window.start + n) ns)
  in_burst c [] = refl
  in_burst c (n ∷ ns) =
      let same : c * schedule.cycle + (schedule.slots_before + window.start) + n ≡ schedule.slots_before + (c * schedule.cycle + window.start + n) = omega arith in
      ap₂ (λ (m : ℕ) (l : List ℕ). m ∷ l) (ap (λ (s : ℕ). moment_of schedule.form schedule.rate s) same) (in_burst c ns)

  moments_are : (c : ℕ) (frames : List (List (List ℕ))) → all_packet_moments rows columns schedule window c frames
      ≡ map at_slot (all_slots schedule.cycle window.start c (map (burst_size rows columns) frames))
  moments_are c [] = refl
  moments_are c (frame ∷ frames) =
      ap₂ (λ (a b : List ℕ). a ++ b) (in_burst c (range_with_len 0 (burst_size rows columns frame))) (moments_are (c + 1) frames)
      ∙ sym (map-append at_slot (map (λ n. c * schedule.cycle + window.start + n) (range_with_len 0 (burst_size rows columns frame)))
      (all_slots schedule.cycle window.start (c + 1) (map (burst_size rows columns) frames)))

no_items : (xs : List ℕ) → length xs ≡ 0 → xs ≡ []
no_items [] none = refl
no_items (x ∷ xs) none = absurd (omega (arith, none))

module _ (plan : PlanFields) (datagrams : ℕ → ℕ → List (List ℕ)) (slots : ℕ → ℕ)
    (readable : (pid : ℕ) (starts : Bool) (counter : ℕ) (payload : List ℕ) → counter ≤ 15 → pid ≤ 8191 → length payload ≡ 184 → is_packet (packet_bytes pid starts counter payload) ≡ true)
    (fields : (pid : ℕ) (starts : Bool) (counter : ℕ) (payload : List ℕ) → counter ≤ 15 → pid ≤ 8191 → fields_of (packet_bytes pid starts counter payload) ≡ written_fields pid starts counter payload)
    (null_fields : fields_of null_packet ≡ written_fields 0x1FFF false 0 (replicate 184 0xFF))
    (whole : is_whole_plan plan ≡ true) (each : (version : ℕ) → version ≤ length plan.changes → IsPartCount plan datagrams slots version) (timed : HaveMoments plan slots)
    (k pid own rows columns : ℕ) (window : WindowFields) (its : IsPidOf plan k pid) (is : kind_at plan k ≡ fec own rows columns (Some window)) (fits : FitsWindow plan datagrams k) where
  abbrev its_fields : SlicedFields
  its_fields = record { rows = rows; parity = columns; start = window.start; length = window.length }

  sliced_is : sliced_of (kind_at plan k) ≡ Some (record { rows = rows; parity = columns; start = window.start; length = window.length })
  sliced_is = ap sliced_of is

  abbrev schedule : ℕ → FrameSchedule
  schedule v = schedule_of plan datagrams (sum_by slots (earlier v)) k v

  accepted : (v : ℕ) → v ≤ length plan.changes → is_plan (plan_in plan v) ≡ true
  accepted v within = version_accepted plan whole v within

  has_stamps : is_plain plan.recording ≡ false
  has_stamps =
      by_tests (is_sliced (plan_in plan 0)) (some_sliced (kinds (plan_in plan 0)) k its_fields (sliced_kept plan 0 k ∙ sliced_is)) (is_plain plan.recording)
      (checks (plan_in plan 0) (accepted 0 (omega arith))).0
    where
      by_tests : (a : Bool) → a ≡ true → (b : Bool) → (a && b) ≡ false → b ≡ false
      by_tests true e b e2 = e2
      by_tests false e b e2 = absurd (cc)

  sizes_are : (v : ℕ) → sizes_in (part plan datagrams slots v) k ≡ map (burst_size rows columns) (datagrams_by_burst rows columns window.length (datagrams v k))
  sizes_are v = sizes_kept plan v k (datagrams v k) ∙ ap (λ (kind : KindFields). burst_sizes kind (datagrams v k)) is

  version_moments : (v : ℕ) → v ≤ length plan.changes
      → slot_moments (λ t. moment_of plan.recording plan.packet_rate (records_before slots v + t)) pid 0 (packets plan datagrams slots v)
      ≡ cond (has_pid (pid_in plan v k) pid) (all_packet_moments rows columns (schedule v) window 0 (datagrams_by_burst rows columns window.length (datagrams v k))) []
  version_moments v within = by_pid (has_pid (pid_in plan v k) pid) refl
    where
      moment : ℕ → ℕ
      moment t = moment_of plan.recording plan.packet_rate (records_before slots v + t)

      by_pid : (o : Bool) → has_pid (pid_in plan v k) pid ≡ o
          → slot_moments (λ t. moment_of plan.recording plan.packet_rate (records_before slots v + t)) pid 0 (packets plan datagrams slots v)
          ≡ cond o (all_packet_moments rows columns (schedule v) window 0 (datagrams_by_burst rows columns window.length (datagrams v k))) []
      by_pid true e =
          part_moments readable fields null_fields (part plan datagrams slots v) (sendable (plan_in plan v) (accepted v within)) (accepted v within) k pid
          (known_in plan whole k pid its v within) (sym (pid_of_version plan v k) ∙ has_its_pid (pid_in plan v k) pid e) its_fields (sliced_kept plan v k ∙ sliced_is)
          (λ c. subst (λ (l : List ℕ). slice_index l c ≤ window.length) (sym (sizes_kept plan v k (datagrams v k))) (fits v c its_fields within sliced_is))
          (λ t. moment_of plan.recording plan.packet_rate (records_before slots v + t)) (each v within).least (slots v) (each v within).count
          (least_within plan datagrams slots readable fields null_fields whole each v within)
          ∙ ap (λ (l : List ℕ). map (λ t. moment_of plan.recording plan.packet_rate (records_before slots v + t)) (all_slots plan.cycle window.start 0 l)) (sizes_are v)
          ∙ sym (moments_are rows columns (schedule v) window 0 (datagrams_by_burst rows columns window.length (datagrams v k)))
      by_pid false e =
          no_items (slot_moments (λ t. moment_of plan.recording plan.packet_rate (records_before slots v + t)) pid 0 (packets plan datagrams slots v))
          (moments_count (λ t. moment_of plan.recording plan.packet_rate (records_before slots v + t)) pid 0 (packets plan datagrams slots v)
          ∙ ap (λ (l : List PacketFields). length l)
          (read_in_part plan datagrams slots readable fields null_fields whole each k pid its fits v within
          ∙ ap (λ (b : Bool). cond b (slice_index_or (service_packets (part plan datagrams slots v)) k []) []) e))

  pub packets_arrive : map (λ (a : Arrival). a.moment) (arrivals pid (records_of plan.recording (flat_map (pieces plan datagrams slots) (versions plan))))
      ≡ flat_map (λ v. cond (has_pid (pid_in plan v k) pid)
      (all_packet_moments rows columns (schedule_of plan datagrams (sum_by slots (earlier v)) k v) window 0 (datagrams_by_burst rows columns window.length (datagrams v k))) []) (versions plan)
  packets_arrive =
      arrive_at plan datagrams slots timed (rate_above (plan_in plan 0) (accepted 0 (omega arith))) has_stamps pid
      ∙ flat_map_same (λ v. slot_moments (λ t. moment_of plan.recording plan.packet_rate (records_before slots v + t)) pid 0 (packets plan datagrams slots v))
      (λ v. cond (has_pid (pid_in plan v k) pid)
      (all_packet_moments rows columns (schedule_of plan datagrams (sum_by slots (earlier v)) k v) window 0 (datagrams_by_burst rows columns window.length (datagrams v k))) [])
      0 (length plan.changes + 1) (λ v less. version_moments v (omega (arith, less)))
