-- A sliced service on one PID: its units begin in packets with known moments, and carry its datagrams in frames that are timed.
use Rattle.std.proofs.Common.{◌≡◌, ◌⊎◌, inl, inr, ℕ, zero, suc, ◌+◌, ◌-◌, ◌*◌, ◌/◌, ◌%◌, ◌^◌, ◌<◌, ◌≤◌, Bool, true, false, not, ◌&&◌, ◌||◌, cond, eqb, ltb, get_or, List, [], ◌∷◌, ◌++◌, length, map, refl, sym, ap, ap₂, subst, ◌∙◌, arith, Option, Some}
use Rattle.std.specs.Prelude.{flat_map, sum_by, slice_index, Contains}
use Rattle.std.specs.List.{range_with_len, list_any}
use Rattle.std.proofs.lemmas.Bool.{cases_lt, or_left, or_right}
use Rattle.std.specs.Option.{unwrap_or}
use Rattle.std.proofs.lemmas.List.{length-map, length-append, map-append, get_or-map}
use Rattle.std.proofs.lemmas.Grind.{flat_map-append}
use Rattle.std.proofs.lemmas.List.Folds.{flat_map-map}
use Rattle.std.proofs.lemmas.List.FromFn.{length-map-range_with_len, get_or-map-range_with_len}
use Rattle.std.proofs.lemmas.Nat.{div-mul-add}
use Rattle.std.proofs.Math.Nat.{add-mul, mul-le-mul_right}
use Rattle.ts_spec.specs.Form.{IsLawful}
use Rattle.section_spec.specs.Section.{section_form}
use Rattle.section_spec.specs.Mpe.{IsRows}
use Rattle.slice_spec.specs.Moments.{ten}
use Rattle.slice_spec.specs.Sections.{SectionTime, sliced}
use Rattle.slice_spec.specs.Frames.{IsTimed}
use Rattle.slice_spec.specs.Bursts.{Slicing, Burst, delta_to_next, times_of as times_of_bursts, AreInWindows, IsSliceable}
use Rattle.slice_law.specs.Cycles.{bursts_from}
use Rattle.slice_law.proofs.Timed.{announced_below}
use Rattle.slice_law.proofs.Rows.{in_a_row}
use Rattle.slice_law.proofs.Checks.{sliceable}
use Rattle.slice_law.proofs.InPlans.{there}
use Rattle.fec_frame_spec.specs.Sections.{FrameSection, data_section, parity_section, TimedSection, times_of}
use Rattle.fec_frame_spec.specs.Frame.{FrameFields, AreSentFrames}
use Rattle.fec_frame_spec.specs.Sender.{frame_of, section_of_datagram, section_of_column, section_unit}
use Rattle.fec_frame_spec.specs.Carried.{CarriesInFrames, sections_of_units}
use Rattle.fec_sent_law.proofs.Carried.{all_timed}
use Rattle.plan_spec.specs.Plan.{WindowFields, KindFields, fec, PlanFields, kinds, pid_of, SlicedFields, sliced_of}
use Rattle.plan_spec.specs.Changes.{plan_in, pid_in, pids_in, has_pid, versions}
use Rattle.plan_spec.specs.Valid.{is_plan}
use Rattle.plan_spec.specs.Wholes.{is_whole_plan}
use Rattle.stream_spec.specs.Units.{FrameSchedule, mac_for, units_with_delta, sized_units, burst_size, packet_of_section, datagrams_by_burst, delta_after, units_by_burst, packetized_apart, frame_count, burst_sizes}
use Rattle.stream_spec.specs.Slots.{Slot, of_service, is_of_service, Turns, next_service, turns_at, slot_of_service}
use Rattle.stream_spec.specs.Windows.{out_before}
use Rattle.stream_spec.specs.Services.{kind_at, datagrams_on}
use Rattle.stream_spec.specs.Parts.{PartFields, service_packets, turn_counts, sizes_in, kept_in, slot_in}
use Rattle.stream_spec.specs.Stream.{frame_count_in, has_frames, has_frames_after, schedule_of, earlier, part_of, has_datagrams, is_last, whole_cycles, IsPartCount}
use Rattle.channel_law.proofs.Member.{Member}
use Rattle.stream_law.specs.Words.{FitsWindow, begun_cycles}
use Rattle.stream_law.specs.Times.{times_over, TimesOfService}
use Rattle.stream_law.proofs.Ranges.{sum_next, sum_rises}
use Rattle.stream_law.proofs.Lasts.{any_at}
use Rattle.stream_law.proofs.Kept.{kind_of_version, frame_count_kept, sizes_kept, sliced_kept}
use Rattle.stream_law.proofs.Wholes.{version_accepted}
use Rattle.stream_law.proofs.Plans.{sendable}
use Rattle.stream_law.proofs.Parts.{cycles_hold}
use Rattle.stream_law.proofs.Frames.{AreFramed, IsFrameOf, AreFrames, frames_both, are_bursts, all_in_bursts}
use Rattle.stream_law.proofs.Valued.{IsValued}
use Rattle.stream_law.proofs.BurstValues.{AreUnits, all_packet_moments, all_section_moments, place_below, AllUnits, bursts_valued}
use Rattle.stream_law.proofs.BurstTimes.{Agree, agree_front, agree_rest, timed_count, sections_by_burst, units_are_sections, length-all, places_of, length-bursts, delta_is, part_times}
use Rattle.stream_law.proofs.SlicedFrames.{AllRead, frames_read, AreOfFrames, of_both}
use Rattle.stream_law.proofs.Announced.{AllBefore, AllFrom, timed_with, bursts_on, times_on, all_times, all_in_windows, cycle_at}
use Rattle.stream_law.proofs.AllPids.{items_have_all}
use Rattle.stream_law.proofs.TimesOver.{same_on_pids, times_all, timed_over, last_over}

module _ (plan : PlanFields) (whole : is_whole_plan plan ≡ true) (datagrams : ℕ → ℕ → List (List ℕ)) (slots : ℕ → ℕ)
    (each : (version : ℕ) → version ≤ length plan.changes → IsPartCount plan datagrams slots version) (k : ℕ) (known : k < length plan.services)
    (own rows columns : ℕ) (window : WindowFields) (is : kind_at plan k ≡ fec own rows columns (Some window)) (pid : ℕ) (fits : FitsWindow plan datagrams k)
    (is_rows : IsRows rows) (framed : (version : ℕ) → AreFramed (datagrams version k)) (lawful : IsLawful section_form) (mac : List ℕ)
    (units_of_frame : (delta : ℕ → ℕ) (frame : List (List ℕ)) → IsFrameOf rows frame → ((i : ℕ) → delta i < 2 ^ 12) → AreUnits (units_with_delta rows columns mac delta frame)) where
  abbrev fields : SlicedFields
  fields = record { rows = rows; parity = columns; start = window.start; length = window.length }

  is_sliced : sliced_of (kind_at plan k) ≡ Some (record { rows = rows; parity = columns; start = window.start; length = window.length })
  is_sliced = ap sliced_of is

  abbrev schedule : ℕ → FrameSchedule
  schedule v = schedule_of plan datagrams (sum_by slots (earlier v)) k v

  abbrev frames : ℕ → List (List (List ℕ))
  frames v = datagrams_by_burst rows columns window.length (datagrams v k)

  abbrev on_it : ℕ → Bool
  on_it v = has_pid (pid_in plan v k) pid

  abbrev part : ℕ → PartFields
  part v = part_of plan datagrams slots v

  frames_are : (v : ℕ) → AreFrames rows (frames v)
  frames_are v = are_bursts rows columns window.length is_rows (datagrams v k) (framed v)

  accepted : (v : ℕ) → v ≤ length plan.changes → is_plan (plan_in plan v) ≡ true
  accepted v within = version_accepted plan whole v within

  abbrev its_slicing : Slicing
  its_slicing = record { form = plan.recording; rate = plan.packet_rate; cycle = plan.cycle; start = window.start; length = window.length }

  is_sliceable : IsSliceable its_slicing
  is_sliceable = sliceable (plan_in plan 0) (accepted 0 (omega arith)) k fields (sliced_kept plan 0 k ∙ is_sliced)

  some_cycle : 1 ≤ plan.cycle
  some_cycle = omega (arith, (sendable (plan_in plan 0) (accepted 0 (omega arith))).leaves)

  -- The cycles before a part that has frames.

  abbrev cycles_in : ℕ → ℕ
  cycles_in u = slots u / plan.cycle

  abbrev cycles_before : ℕ → ℕ
  cycles_before v = sum_by (λ u. slots u / plan.cycle) (earlier v)

  some_datagrams : (ds : List (List ℕ)) → 1 ≤ length (datagrams_by_burst rows columns window.length ds) → ltb 0 (length ds) ≡ true
  some_datagrams [] some = absurd (omega (arith, some))
  some_datagrams (d ∷ ds) some = above (length ds)
    where
      above : (n : ℕ) → ltb 0 (suc n) ≡ true
      above n = grind arith

  not_last : (u v : ℕ) → u < v → v ≤ length plan.changes → 1 ≤ length (frames v) → is_last plan datagrams u ≡ false
  not_last u v before within some =
      ap not (any_at (has_datagrams plan datagrams) (u + 1) (length plan.changes - u) (v - (u + 1)) v (omega (arith, before)) (omega (arith, before, within)) has)
    where
      has : has_datagrams plan datagrams v ≡ true
      has = any_at (λ j. ltb 0 (length (datagrams v j))) 0 (length plan.services) k k (omega arith) known (some_datagrams (datagrams v k) some)

  whole_slots : (u v : ℕ) → u < v → v ≤ length plan.changes → 1 ≤ length (frames v) → slots u ≡ cycles_in u * plan.cycle
  whole_slots u v before within some = by_count (each u (omega (arith, before, within)))
    where
      by_count : IsPartCount plan datagrams slots u → slots u ≡ cycles_in u * plan.cycle
      by_count it =
          let are : slots u ≡ begun_cycles plan.cycle it.least * plan.cycle
          = it.slots_are ∙ ap (λ (b : Bool). cond b it.least (whole_cycles plan.cycle it.least)) (not_last u v before within some) in
          let none : begun_cycles plan.cycle it.least * plan.cycle ≡ begun_cycles plan.cycle it.least * plan.cycle + 0 = omega arith in
          let count : cycles_in u ≡ begun_cycles plan.cycle it.least
          = ap (λ (n : ℕ). n / plan.cycle) (are ∙ none) ∙ div-mul-add (begun_cycles plan.cycle it.least) plan.cycle 0 (omega (arith, some_cycle)) in
          are ∙ ap (λ (n : ℕ). n * plan.cycle) (sym count)

  sums_are : (n : ℕ) → ((u : ℕ) → u < n → slots u ≡ cycles_in u * plan.cycle) → sum_by slots (range_with_len 0 n) ≡ cycles_before n * plan.cycle
  sums_are zero all = omega arith
  sums_are (suc n) all =
      let one : suc n ≡ n + 1 = omega arith in
      omega (
        arith,
        ap (λ (m : ℕ). sum_by slots (range_with_len 0 m)) one,
        ap (λ (m : ℕ). cycles_before m * plan.cycle) one,
        sum_next slots n,
        ap (λ (m : ℕ). m * plan.cycle) (sum_next (λ u. slots u / plan.cycle) n),
        add-mul (cycles_before n) (cycles_in n) plan.cycle,
        all n (omega arith),
        sums_are n (λ u less. all u (omega (arith, less))),
      )

  before_is : (v : ℕ) → v ≤ length plan.changes → 1 ≤ length (frames v) → sum_by slots (earlier v) ≡ cycles_before v * plan.cycle
  before_is v within some = sums_are v (λ u less. whole_slots u v less within some)

  -- delta_t has twelve bits
  delta_most : (v : ℕ) → v ≤ length plan.changes → 1 ≤ length (frames v) → (c n : ℕ) → delta_after (schedule v) window c n < 2 ^ 12
  delta_most v within some c n =
      same_below (delta_after (schedule v) window c n) (delta_to_next its_slicing (cycles_before v + c) n)
      (delta_is rows columns mac (schedule v) window (cycles_before v) (before_is v within some) c n) (announced_below its_slicing is_sliceable (cycles_before v + c) n)
    where
      same_below : (a b : ℕ) → a ≡ b → b < 4096 → a < 2 ^ 12
      same_below a b e less = omega (arith, e, less)

  pub below_is : (v : ℕ) → v ≤ length plan.changes → 1 ≤ length (frames v) → (last : Bool) (c : ℕ) (frame : List (List ℕ)) (i : ℕ)
      → cond last 0 (delta_after (schedule v) window c (packet_of_section rows columns frame i)) < 2 ^ 12
  below_is v within some true c frame i = omega arith
  below_is v within some false c frame i = delta_most v within some c (packet_of_section rows columns frame i)

  -- The units of a part, with the moments of the packets in which they begin.

  all_units : (v p : ℕ) → v ≤ length plan.changes → AllUnits lawful rows columns mac (schedule v) window p (frames v)
  all_units v p within = of_frames (frames v) (frames_are v) (λ some last c frame i. below_is v within some last c frame i)
    where
      of_frames : (fs : List (List (List ℕ))) → AreFrames rows fs
          → (1 ≤ length fs → (last : Bool) (c : ℕ) (frame : List (List ℕ)) (i : ℕ) → cond last 0 (delta_after (schedule v) window c (packet_of_section rows columns frame i)) < 2 ^ 12)
          → AllUnits lawful rows columns mac (schedule v) window p fs
      of_frames [] are below = tt
      of_frames (f ∷ fs) are below = (
        λ last c. units_of_frame (λ i. cond last 0 (delta_after (schedule v) window c (packet_of_section rows columns f i))) f are.0 (below (omega arith) last c f),
        of_frames fs are.1 (λ some. below (omega arith)),
      )

  pub valued_in : (v p before : ℕ) → v ≤ length plan.changes
      → IsValued section_form (flat_map (λ (burst : List (List ℕ)). burst) (units_by_burst rows columns mac (schedule v) window 0 (frames v)))
      (packetized_apart p (before % 16) (units_by_burst rows columns mac (schedule v) window 0 (frames v)))
      (all_packet_moments rows columns (schedule v) window 0 (frames v)) (all_section_moments rows columns (schedule v) window 0 (frames v))
  valued_in v p before within = bursts_valued lawful rows columns mac (schedule v) window p (frames v) (all_units v p within) before 0

  -- Places of sections.

  frame_at : (fs : List (List (List ℕ))) (i : ℕ) → AreFrames rows fs → i < length fs → IsFrameOf rows (get_or fs i [])
  frame_at [] i are less = absurd (omega (arith, less))
  frame_at (f ∷ fs) zero are less = are.0
  frame_at (f ∷ fs) (suc i) are less = frame_at fs i are.1 (omega (arith, less))

  place_less : (frame : List (List ℕ)) → IsFrameOf rows frame → (j : ℕ) → j < length (sized_units rows columns frame) → packet_of_section rows columns frame j < burst_size rows columns frame
  place_less frame it j less = place_below lawful rows columns mac 0 0 (λ i. 0) frame (units_of_frame (λ i. 0) frame it (λ i. omega arith)) j less

  some_sections : (frame : List (List ℕ)) → IsFrameOf rows frame → 1 ≤ length (sized_units rows columns frame)
  some_sections frame it =
      let whole : length (sized_units rows columns frame) ≡ length (first ++ rest) = length-map (first ++ rest) section_unit in
      let count : length first ≡ length frame
      = length-map-range_with_len (λ i. data_section (section_of_datagram (frame_of rows columns frame) (mac_for []) (λ j. 0) i)) 0 (length frame) in
      omega (arith, whole, count, length-append first rest, it.some)
    where
      first : List FrameSection
      first = map (λ i. data_section (section_of_datagram (frame_of rows columns frame) (mac_for []) (λ j. 0) i)) (range_with_len 0 (length frame))

      rest : List FrameSection
      rest = map (λ i. parity_section (section_of_column rows (frame_of rows columns frame) (λ j. 0) i)) (range_with_len 0 columns)

  some_packets : (fs : List (List (List ℕ))) → AreFrames rows fs → (c : ℕ) → c < length fs → 1 ≤ slice_index (map (burst_size rows columns) fs) c
  some_packets [] are c less = absurd (omega (arith, less))
  some_packets (f ∷ fs) are zero less = omega (arith, place_less f are.0 0 (omega (arith, some_sections f are.0)))
  some_packets (f ∷ fs) are (suc c) less = some_packets fs are.1 c (omega (arith, less))

  -- Each part has as many cycles as frames, where another follows.

  sizes_are : (v : ℕ) → sizes_in (part v) k ≡ map (burst_size rows columns) (frames v)
  sizes_are v = sizes_kept plan v k (datagrams v k) ∙ ap (λ (kind : KindFields). burst_sizes kind (datagrams v k)) is

  fits_in : (v c : ℕ) → v ≤ length plan.changes → slice_index (sizes_in (part v) k) c ≤ window.length
  fits_in v c within = subst (λ (l : List ℕ). slice_index l c ≤ window.length) (sym (sizes_kept plan v k (datagrams v k))) (fits v c fields within is_sliced)

  first_of_burst : (v c : ℕ) → v ≤ length plan.changes → c < length (frames v) → is_of_service (slot_in (part v) (c * plan.cycle + window.start + 0)) ≡ true
  first_of_burst v c within less =
      ap (λ (o : Option Slot). is_of_service (unwrap_or o (slot_of_service turns (next_service counts turns)))) kept
    where
      counts : List ℕ
      counts = turn_counts (kinds (plan_in plan v)) (service_packets (part v))

      turns : Turns
      turns = turns_at (kept_in (part v)) counts (c * plan.cycle + window.start + 0)

      kept : kept_in (part v) (c * plan.cycle + window.start + 0) ≡ Some (of_service k (out_before (sizes_in (part v) k) c + 0))
      kept =
          there (plan_in plan v) (accepted v within) k fields (sliced_kept plan v k ∙ is_sliced) (sizes_in (part v)) (λ c2. fits_in v c2 within) c 0
          (omega (arith, some_packets (frames v) (frames_are v) c less, ap (λ (l : List ℕ). slice_index l c) (sizes_are v)))

  cycles_enough : (u v : ℕ) → u < v → v ≤ length plan.changes → 1 ≤ length (frames v) → length (frames u) ≤ cycles_in u
  cycles_enough u v before within some = by_number (length (frames u)) refl
    where
      by_number : (n : ℕ) → length (frames u) ≡ n → length (frames u) ≤ cycles_in u
      by_number zero e = omega (arith, e)
      by_number (suc c) e = by_count (each u (omega (arith, before, within)))
        where
          by_count : IsPartCount plan datagrams slots u → length (frames u) ≤ cycles_in u
          by_count it = by_order (cases_lt c (cycles_in u))
            where
              slot : ℕ
              slot = c * plan.cycle + window.start + 0

              later : c * plan.cycle + window.start + 0 < it.least
              later = by_place (cases_lt (c * plan.cycle + window.start + 0) it.least)
                where
                  by_place : (c * plan.cycle + window.start + 0 < it.least) ⊎ (it.least ≤ c * plan.cycle + window.start + 0) → c * plan.cycle + window.start + 0 < it.least
                  by_place (inl less) = less
                  by_place (inr le) =
                      let none : is_of_service (slot_in (part u) (c * plan.cycle + window.start + 0)) ≡ false = it.count.over (c * plan.cycle + window.start + 0) le in
                      let yes : is_of_service (slot_in (part u) (c * plan.cycle + window.start + 0)) ≡ true = first_of_burst u c (omega (arith, before, within)) (omega (arith, e)) in
                      absurd (cc)

              whole_is : slots u ≡ whole_cycles plan.cycle it.least
              whole_is = it.slots_are ∙ ap (λ (b : Bool). cond b it.least (whole_cycles plan.cycle it.least)) (not_last u v before within some)

              by_order : (c < cycles_in u) ⊎ (cycles_in u ≤ c) → length (frames u) ≤ cycles_in u
              by_order (inl less) = omega (arith, e, less)
              by_order (inr le) =
                  absurd (omega (
                    arith,
                    later,
                    whole_is,
                    cycles_hold plan.cycle it.least some_cycle,
                    whole_slots u v before within some,
                    mul-le-mul_right plan.cycle le,
                  ))

  rises : (u v : ℕ) → u < v → v ≤ length plan.changes → 1 ≤ length (frames v) → cycles_before u + length (frames u) ≤ cycles_before v
  rises u v before within some =
      omega (
        arith,
        cycles_enough u v before within some,
        sum_next (λ w. slots w / plan.cycle) u,
        sum_rises (λ w. slots w / plan.cycle) (u + 1) v (omega (arith, before)),
      )

  -- The bursts of the parts.

  abbrev goes : ℕ → Bool
  goes v = has_frames_after plan datagrams k v

  abbrev bursts : ℕ → List Burst
  bursts v = bursts_from (cycles_before v + 0) (map (places_of rows columns mac (schedule v) window) (frames v))

  count_of : (v : ℕ) → length (bursts v) ≡ length (frames v)
  count_of v = length-bursts rows columns mac (schedule v) window (cycles_before v + 0) (frames v)

  in_windows : (v : ℕ) → v ≤ length plan.changes → AreInWindows its_slicing (bursts v)
  in_windows v within = in_a_row its_slicing (cycles_before v + 0) (map (places_of rows columns mac (schedule v) window) (frames v)) (λ places place one two. place_in places place one two)
    where
      place_in : (places : List ℕ) (place : ℕ) → Contains (map (places_of rows columns mac (schedule v) window) (frames v)) places → Contains places place → place < window.length
      place_in places place (i, less, e) (j, less2, e2) =
          omega (arith, place_is, place_less frame (frame_at (frames v) i (frames_are v) known_i) j known_j, fits v i fields within is_sliced, size_is)
        where
          known_i : i < length (frames v)
          known_i = omega (arith, less, length-map (frames v) (places_of rows columns mac (schedule v) window))

          frame : List (List ℕ)
          frame = get_or (frames v) i []

          places_are : places ≡ places_of rows columns mac (schedule v) window (get_or (frames v) i [])
          places_are = sym e ∙ get_or-map (places_of rows columns mac (schedule v) window) (frames v) i [] places known_i

          known_j : j < length (sized_units rows columns (get_or (frames v) i []))
          known_j =
              omega (
                arith,
                less2,
                ap (λ (l : List ℕ). length l) places_are,
                length-map-range_with_len (λ n. packet_of_section rows columns (get_or (frames v) i []) n) 0 (length (sized_units rows columns (get_or (frames v) i []))),
              )

          place_is : place ≡ packet_of_section rows columns (get_or (frames v) i []) j
          place_is =
              sym e2 ∙ ap (λ (l : List ℕ). get_or l j place) places_are
              ∙ get_or-map-range_with_len (λ n. packet_of_section rows columns (get_or (frames v) i []) n) 0 (length (sized_units rows columns (get_or (frames v) i []))) j j place known_j (omega arith)

          size_is : slice_index (burst_sizes (kind_at plan k) (datagrams v k)) i ≡ burst_size rows columns (get_or (frames v) i [])
          size_is =
              ap (λ (kind : KindFields). slice_index (burst_sizes kind (datagrams v k)) i) is
              ∙ get_or-map (burst_size rows columns) (frames v) i [] 0 known_i

  counts : (v : ℕ) → frame_count_in plan datagrams k v ≡ length (frames v)
  counts v =
      ap (λ (of : KindFields). frame_count of (datagrams v k)) (sym (kind_of_version plan v k))
      ∙ frame_count_kept plan v k (datagrams v k)
      ∙ ap (λ (of : KindFields). frame_count of (datagrams v k)) is

  some_follow : (m b : ℕ) → 1 ≤ length (flat_map (bursts_on its_slicing on_it goes bursts) (range_with_len b m)) → list_any (has_frames plan datagrams k) (range_with_len b m) ≡ true
  some_follow zero b some = absurd (omega (arith, some))
  some_follow (suc m) b some = by_own (on_it b) refl (λ later. some_follow m (b + 1) later)
    where
      rest : List Burst
      rest = flat_map (bursts_on its_slicing on_it goes bursts) (range_with_len (b + 1) m)

      behind : list_any (has_frames plan datagrams k) (range_with_len (b + 1) m) ≡ true → list_any (has_frames plan datagrams k) (range_with_len b (suc m)) ≡ true
      behind later = or_right (has_frames plan datagrams k b) (list_any (has_frames plan datagrams k) (range_with_len (b + 1) m)) later

      above : (n : ℕ) → 1 ≤ n → ltb 0 n ≡ true
      above n le = grind (arith, le)

      by_own : (o : Bool) → on_it b ≡ o → (1 ≤ length rest → list_any (has_frames plan datagrams k) (range_with_len (b + 1) m) ≡ true)
          → list_any (has_frames plan datagrams k) (range_with_len b (suc m)) ≡ true
      by_own false e later = behind (later (omega (arith, some, ap (λ (o : Bool). length (cond o (bursts b) [] ++ rest)) e)))
      by_own true e later = by_count (length (frames b)) refl
        where
          by_count : (n : ℕ) → length (frames b) ≡ n → list_any (has_frames plan datagrams k) (range_with_len b (suc m)) ≡ true
          by_count zero none =
              behind (later (omega (arith, some, ap (λ (o : Bool). length (cond o (bursts b) [] ++ rest)) e, length-append (bursts b) rest, count_of b, none)))
          by_count (suc n) have =
              or_left (has_frames plan datagrams k b) (list_any (has_frames plan datagrams k) (range_with_len (b + 1) m))
              (above (frame_count_in plan datagrams k b) (omega (arith, counts b, have)))

  abbrev bound : ℕ
  bound = length plan.changes + 1

  all_timed_bursts : (last : Bool)
      × (flat_map (times_on its_slicing on_it goes bursts) (versions plan) ≡ times_of_bursts its_slicing last (flat_map (bursts_on its_slicing on_it goes bursts) (versions plan)))
  all_timed_bursts =
      all_times its_slicing on_it goes bursts (length plan.changes + 1) 0
      (λ v m from e own_pid some.
      let rest : m ≡ length plan.changes - v = omega (arith, e) in
      ap (λ (n : ℕ). list_any (has_frames plan datagrams k) (range_with_len (v + 1) n)) (sym rest) ∙ some_follow m (v + 1) some)

  from_cycle : (v : ℕ) → AllFrom (cycles_before v) (bursts v)
  from_cycle v i b at = omega (arith, (cycle_at (cycles_before v + 0) (map (places_of rows columns mac (schedule v) window) (frames v)) i b at).0)

  before_cycle : (v : ℕ) → AllBefore (cycles_before v + length (frames v)) (bursts v)
  before_cycle v i b at = omega (
    arith,
    (cycle_at (cycles_before v + 0) (map (places_of rows columns mac (schedule v) window) (frames v)) i b at).0,
    (cycle_at (cycles_before v + 0) (map (places_of rows columns mac (schedule v) window) (frames v)) i b at).1,
    length-map (frames v) (places_of rows columns mac (schedule v) window),
  )

  all_windows : AreInWindows its_slicing (flat_map (bursts_on its_slicing on_it goes bursts) (versions plan))
  all_windows =
      all_in_windows its_slicing on_it goes bursts (λ v. cycles_before v) (λ v. length (frames v)) bound
      (λ v less own_pid. in_windows v (omega (arith, less))) from_cycle before_cycle
      (λ u v less within some. rises u v less (omega (arith, within)) (omega (arith, some, count_of v)))
      (length plan.changes + 1) 0 (omega arith)

  -- The bursts of all versions, over all PIDs.

  abbrev pub times_in : ℕ → List (List SectionTime)
  times_in v = times_of_bursts its_slicing (goes v) (bursts v)

  some_later : (m b : ℕ) → list_any (has_frames plan datagrams k) (range_with_len b m) ≡ ltb 0 (length (flat_map bursts (range_with_len b m)))
  some_later zero b = refl
  some_later (suc m) b =
      ap₂ (λ (x y : Bool). x || y) (ap (ltb 0) (counts b ∙ sym (count_of b))) (some_later m (b + 1))
      ∙ either (length (bursts b)) (length (flat_map bursts (range_with_len (b + 1) m)))
      ∙ ap (ltb 0) (sym (length-append (bursts b) (flat_map bursts (range_with_len (b + 1) m))))
    where
      either : (x y : ℕ) → (ltb 0 x || ltb 0 y) ≡ ltb 0 (x + y)
      either x y = by_tests (ltb 0 x) refl (ltb 0 y) refl (ltb 0 (x + y)) refl
        where
          by_tests : (a : Bool) → ltb 0 x ≡ a → (b : Bool) → ltb 0 y ≡ b → (c : Bool) → ltb 0 (x + y) ≡ c → (a || b) ≡ c
          by_tests true e b e2 true e3 = refl
          by_tests true e b e2 false e3 = absurd (grind (arith, e, e3))
          by_tests false e true e2 true e3 = refl
          by_tests false e true e2 false e3 = absurd (grind (arith, e2, e3))
          by_tests false e false e2 true e3 = absurd (grind (arith, e, e2, e3))
          by_tests false e false e2 false e3 = refl

  -- each part tells whether others follow, so that the last of all says that none does
  all_together : flat_map times_in (versions plan) ≡ times_of_bursts its_slicing false (flat_map bursts (versions plan))
  all_together =
      times_all its_slicing goes bursts (length plan.changes + 1) 0
      (λ v m from e.
      let rest : length plan.changes - v ≡ m = omega (arith, e) in
      ap (λ (n : ℕ). list_any (has_frames plan datagrams k) (range_with_len (v + 1) n)) rest ∙ some_later m (v + 1))

  in_all_windows : AreInWindows its_slicing (flat_map bursts (versions plan))
  in_all_windows =
      all_in_windows its_slicing (λ v. true) goes bursts (λ v. cycles_before v) (λ v. length (frames v)) bound
      (λ v less e. in_windows v (omega (arith, less))) from_cycle before_cycle
      (λ u v less within some. rises u v less (omega (arith, within)) (omega (arith, some, count_of v)))
      (length plan.changes + 1) 0 (omega arith)

  pub over_all_pids : (on_pids : ℕ → List (List TimedSection))
      → ((its : ℕ) → Member (pids_in plan k) its → map times_of (on_pids its) ≡ flat_map (λ v. cond (has_pid (pid_in plan v k) its) (times_in v) []) (versions plan))
      → TimesOfService plan.recording true (pids_in plan k) on_pids
  over_all_pids on_pids each_pid = record {
    timed = timed_over its_slicing is_sliceable (flat_map bursts (versions plan)) in_all_windows (times_over (pids_in plan k) on_pids) are;
    last = λ e i x there. last_over its_slicing is_sliceable (flat_map bursts (versions plan)) in_all_windows (times_over (pids_in plan k) on_pids) are i x there;
  }
    where
      are : times_over (pids_in plan k) on_pids ≡ times_of_bursts its_slicing false (flat_map bursts (versions plan))
      are =
          same_on_pids (λ its. map times_of (on_pids its)) (λ its. flat_map (λ v. cond (has_pid (pid_in plan v k) its) (times_in v) []) (versions plan)) (pids_in plan k) each_pid
          ∙ items_have_all plan times_in k own whole known (ap pid_of is)
          ∙ all_together

  -- Their sections.

  abbrev sections_on : ℕ → List (List FrameSection)
  sections_on v = cond (has_pid (pid_in plan v k) pid) (sections_by_burst rows columns mac (schedule v) window 0 (frames v)) []

  abbrev frames_on : ℕ → List (List (List ℕ))
  frames_on v = cond (has_pid (pid_in plan v k) pid) (frames v) []

  abbrev pub units_on : ℕ → List (List ℕ)
  units_on v = cond (has_pid (pid_in plan v k) pid)
      (flat_map (λ (burst : List (List ℕ)). burst) (units_by_burst rows columns mac (schedule_of plan datagrams (sum_by slots (earlier v)) k v) window 0 (datagrams_by_burst rows columns window.length (datagrams v k)))) []

  abbrev pub expected_on : ℕ → List ℕ
  expected_on v = cond (has_pid (pid_in plan v k) pid)
      (all_section_moments rows columns (schedule_of plan datagrams (sum_by slots (earlier v)) k v) window 0 (datagrams_by_burst rows columns window.length (datagrams v k))) []

  units_are : (n a : ℕ) → flat_map units_on (range_with_len a n) ≡ map section_unit (flat_map (λ (f : List FrameSection). f) (flat_map sections_on (range_with_len a n)))
  units_are zero a = refl
  units_are (suc n) a =
      ap₂ (λ (x y : List (List ℕ)). x ++ y) (by_own (on_it a)) (units_are n (a + 1))
      ∙ sym (map-append section_unit (flat_map (λ (f : List FrameSection). f) (sections_on a)) (flat_map (λ (f : List FrameSection). f) (flat_map sections_on (range_with_len (a + 1) n))))
      ∙ ap (map section_unit) (sym (flat_map-append (λ (f : List FrameSection). f) (sections_on a) (flat_map sections_on (range_with_len (a + 1) n))))
    where
      by_own : (o : Bool) → cond o (flat_map (λ (burst : List (List ℕ)). burst) (units_by_burst rows columns mac (schedule a) window 0 (frames a))) []
          ≡ map section_unit (flat_map (λ (f : List FrameSection). f) (cond o (sections_by_burst rows columns mac (schedule a) window 0 (frames a)) []))
      by_own true = units_are_sections rows columns mac (schedule a) window 0 (frames a)
      by_own false = refl

  all_frames : (n a : ℕ) → AreFrames rows (flat_map frames_on (range_with_len a n))
  all_frames zero a = tt
  all_frames (suc n) a = frames_both rows (frames_on a) (flat_map frames_on (range_with_len (a + 1) n)) (by_own (on_it a)) (all_frames n (a + 1))
    where
      by_own : (o : Bool) → AreFrames rows (cond o (frames a) [])
      by_own true = frames_are a
      by_own false = tt

  all_datagrams : (n a : ℕ) → flat_map (λ (frame : List (List ℕ)). frame) (flat_map frames_on (range_with_len a n))
      ≡ flat_map (λ v. cond (has_pid (pid_in plan v k) pid) (datagrams v k) []) (range_with_len a n)
  all_datagrams zero a = refl
  all_datagrams (suc n) a =
      flat_map-append (λ (frame : List (List ℕ)). frame) (frames_on a) (flat_map frames_on (range_with_len (a + 1) n))
      ∙ ap₂ (λ (x y : List (List ℕ)). x ++ y) (by_own (on_it a)) (all_datagrams n (a + 1))
    where
      by_own : (o : Bool) → flat_map (λ (frame : List (List ℕ)). frame) (cond o (frames a) []) ≡ cond o (datagrams a k) []
      by_own true = all_in_bursts rows columns window.length (datagrams a k)
      by_own false = refl

  -- Their times.

  version_times : (moments : ℕ → ℕ) (v n : ℕ) → v ≤ length plan.changes → Agree moments n (all_section_moments rows columns (schedule v) window 0 (frames v))
      → map times_of (all_timed moments n (sections_by_burst rows columns mac (schedule v) window 0 (frames v))) ≡ times_of_bursts its_slicing (goes v) (bursts v)
  version_times moments v n within agree = by_frames (frames v) refl
    where
      by_frames : (fs : List (List (List ℕ))) → frames v ≡ fs
          → map times_of (all_timed moments n (sections_by_burst rows columns mac (schedule v) window 0 (frames v))) ≡ times_of_bursts its_slicing (goes v) (bursts v)
      by_frames [] e =
          ap (λ (fs : List (List (List ℕ))). map times_of (all_timed moments n (sections_by_burst rows columns mac (schedule v) window 0 fs))) e
          ∙ sym (ap (λ (fs : List (List (List ℕ))). times_of_bursts its_slicing (goes v) (bursts_from (cycles_before v + 0) (map (places_of rows columns mac (schedule v) window) fs))) e)
      by_frames (f ∷ fs) e =
          part_times rows columns mac (schedule v) window (cycles_before v)
          (before_is v within (omega (arith, ap (λ (l : List (List (List ℕ))). length l) e))) moments (frames v) n 0 agree

  whole_times : (moments : ℕ → ℕ) (m a n : ℕ) → a + m ≤ length plan.changes + 1 → Agree moments n (flat_map expected_on (range_with_len a m))
      → map times_of (all_timed moments n (flat_map sections_on (range_with_len a m))) ≡ flat_map (times_on its_slicing on_it goes bursts) (range_with_len a m)
  whole_times moments zero a n le agree = refl
  whole_times moments (suc m) a n le agree =
      ap (map times_of) (timed_count moments n (sections_on a) (flat_map sections_on (range_with_len (a + 1) m)))
      ∙ map-append times_of (all_timed moments n (sections_on a))
      (all_timed moments (n + length (flat_map (λ (f : List FrameSection). f) (sections_on a))) (flat_map sections_on (range_with_len (a + 1) m)))
      ∙ ap₂ (λ (x y : List (List SectionTime)). x ++ y) (by_own (on_it a) (agree_front moments n (expected_on a) (flat_map expected_on (range_with_len (a + 1) m)) agree))
      (ap (λ (i : ℕ). map times_of (all_timed moments (n + i) (flat_map sections_on (range_with_len (a + 1) m)))) (count (on_it a))
      ∙ whole_times moments m (a + 1) (n + length (expected_on a)) (omega (arith, le)) (agree_rest moments n (expected_on a) (flat_map expected_on (range_with_len (a + 1) m)) agree))
    where
      by_own : (o : Bool) → Agree moments n (cond o (all_section_moments rows columns (schedule a) window 0 (frames a)) [])
          → map times_of (all_timed moments n (cond o (sections_by_burst rows columns mac (schedule a) window 0 (frames a)) [])) ≡ cond o (times_of_bursts its_slicing (goes a) (bursts a)) []
      by_own true agrees = version_times moments a n (omega (arith, le)) agrees
      by_own false agrees = refl

      count : (o : Bool) → length (flat_map (λ (f : List FrameSection). f) (cond o (sections_by_burst rows columns mac (schedule a) window 0 (frames a)) []))
          ≡ length (cond o (all_section_moments rows columns (schedule a) window 0 (frames a)) [])
      count true = length-all rows columns mac (schedule a) window 0 (frames a)
      count false = refl

  -- The sections are those of the frames.

  of_version : (v : ℕ) → v ≤ length plan.changes → AreOfFrames rows columns mac (frames v) (sections_by_burst rows columns mac (schedule v) window 0 (frames v))
  of_version v within = of_frames (frames v) 0 (λ some last c frame i. below_is v within some last c frame i)
    where
      of_frames : (fs : List (List (List ℕ))) (c : ℕ)
          → (1 ≤ length fs → (last : Bool) (c2 : ℕ) (frame : List (List ℕ)) (i : ℕ) → cond last 0 (delta_after (schedule v) window c2 (packet_of_section rows columns frame i)) < 2 ^ 12)
          → AreOfFrames rows columns mac fs (sections_by_burst rows columns mac (schedule v) window c fs)
      of_frames [] c below = tt
      of_frames (f ∷ fs) c below = (
        record {
          delta = λ i. cond (not (goes v) && eqb (length fs) 0) 0 (delta_after (schedule v) window c (packet_of_section rows columns f i));
          below = below (omega arith) (not (goes v) && eqb (length fs) 0) c f;
          are = refl;
        },
        of_frames fs (c + 1) (λ some. below (omega arith)),
      )

  all_of : (n a : ℕ) → a + n ≤ length plan.changes + 1 → AreOfFrames rows columns mac (flat_map frames_on (range_with_len a n)) (flat_map sections_on (range_with_len a n))
  all_of zero a le = tt
  all_of (suc n) a le =
      of_both rows columns mac (frames_on a) (flat_map frames_on (range_with_len (a + 1) n)) (sections_on a) (flat_map sections_on (range_with_len (a + 1) n))
      (by_own (on_it a)) (all_of n (a + 1) (omega (arith, le)))
    where
      by_own : (o : Bool) → AreOfFrames rows columns mac (cond o (frames a) []) (cond o (sections_by_burst rows columns mac (schedule a) window 0 (frames a)) [])
      by_own true = of_version a (omega (arith, le))
      by_own false = tt

  -- the frames that are sent on the PID
  abbrev pub frames_sent : (ℕ → ℕ) → List (List TimedSection)
  frames_sent moments = all_timed moments 0 (flat_map sections_on (versions plan))

  pub times_sent : (moments : ℕ → ℕ) → Agree moments 0 (flat_map expected_on (versions plan))
      → map times_of (frames_sent moments) ≡ flat_map (λ v. cond (has_pid (pid_in plan v k) pid) (times_in v) []) (versions plan)
  times_sent moments agree = whole_times moments (length plan.changes + 1) 0 0 (omega arith) agree

  -- with the laws of frames
  module _ (reads : (fs : List (List (List ℕ))) (sections : List (List FrameSection)) → AreFrames rows fs → AreOfFrames rows columns mac fs sections
      → AllRead rows (flat_map (λ (f : List FrameSection). f) sections))
      (are_sent : (moments : ℕ → ℕ) (n : ℕ) (fs : List (List (List ℕ))) (sections : List (List FrameSection)) → AreFrames rows fs → AreOfFrames rows columns mac fs sections
      → AreSentFrames rows (map (frame_of rows columns) fs) (all_timed moments n sections)) where
    abbrev all_in : List (List (List ℕ))
    all_in = flat_map frames_on (versions plan)

    abbrev all_sections : List (List FrameSection)
    all_sections = flat_map sections_on (versions plan)

    within : 0 + (length plan.changes + 1) ≤ length plan.changes + 1
    within = omega arith

    pub in_frames : (moments : ℕ → ℕ) → Agree moments 0 (flat_map expected_on (versions plan))
        → (c : CarriesInFrames (sliced (ten plan.recording)) rows 0 (flat_map units_on (versions plan)) moments (datagrams_on plan datagrams k pid))
        × (frames_sent moments ≡ c.sections)
    in_frames moments agree = (
      record {
        frames = map (frame_of rows columns) all_in;
        sections = all_timed moments 0 all_sections;
        are = record {
          sent = are_sent moments 0 all_in all_sections (all_frames (length plan.changes + 1) 0) (all_of (length plan.changes + 1) 0 within);
          timed = subst (IsTimed (ten plan.recording)) (sym (whole_times moments (length plan.changes + 1) 0 0 within agree ∙ all_timed_bursts.1))
              (timed_with its_slicing is_sliceable all_timed_bursts.0 (flat_map (bursts_on its_slicing on_it goes bursts) (versions plan)) all_windows);
          read = ap (λ (us : List (List ℕ)). sections_of_units rows us moments) (units_are (length plan.changes + 1) 0)
              ∙ frames_read rows moments all_sections (reads all_in all_sections (all_frames (length plan.changes + 1) 0) (all_of (length plan.changes + 1) 0 within));
        };
        datagrams_are = sym (flat_map-map (λ (frame : FrameFields). frame.datagrams) (frame_of rows columns) all_in ∙ all_datagrams (length plan.changes + 1) 0);
      },
      refl,
    )
