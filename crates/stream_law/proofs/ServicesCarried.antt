-- A stream carries on each PID of a service the datagrams of the versions that give it this PID.
use Rattle.std.proofs.Common.{◌≡◌, ◌⊎◌, inl, inr, ℕ, zero, suc, ◌+◌, ◌/◌, ◌%◌, ◌^◌, ◌<◌, ◌≤◌, Bool, true, false, cond, get_or, List, [], ◌∷◌, ◌++◌, length, map, refl, sym, ap, ap₂, subst, ◌∙◌, arith, Option, Some, None}
use Rattle.std.specs.Prelude.{flat_map, sum_by, slice_index_or, is_some}
use Rattle.std.specs.List.{list_all, range_with_len}
use Rattle.std.proofs.lemmas.Bool.{and_parts, cases_lt}
use Rattle.std.proofs.lemmas.List.{length-map, map-append, get_or-map}
use Rattle.std.proofs.lemmas.Grind.{flat_map-append}
use Rattle.ts_spec.specs.Form.{UnitForm, IsLawful}
use Rattle.ts_spec.specs.Packet.{PacketFields}
use Rattle.ts_spec.specs.Recording.{Record}
use Rattle.ts_spec.specs.Packetized.{IsIn, Packetizes}
use Rattle.ts_spec.specs.Received.{Arrival, no_arrival, arrival_at, arrivals, packet_of}
use Rattle.channel_spec.specs.Carried.{packets_sent}
use Rattle.section_spec.specs.Mpe.{IsRows}
use Rattle.section_spec.specs.Section.{section_form}
use Rattle.slice_spec.specs.Moments.{ten}
use Rattle.slice_spec.specs.Sections.{SectionTime, indexed, sliced}
use Rattle.slice_spec.specs.Bursts.{Burst, times_of as times_of_bursts}
use Rattle.slice_law.specs.Cycles.{bursts_from}
use Rattle.channel_law.proofs.Member.{Member, contains_member}
use Rattle.fec_frame_spec.specs.Sections.{FrameSection, TimedSection, times_of}
use Rattle.fec_frame_spec.specs.Frame.{AreSentFrames}
use Rattle.fec_frame_spec.specs.Sender.{frame_of}
use Rattle.fec_sent_law.proofs.Carried.{all_timed}
use Rattle.fec_frame_spec.specs.Carried.{CarriesInFrames}
use Rattle.plan_spec.specs.Plan.{WindowFields, KindFields, ule, mpe, fec, gse, ServiceFields, PlanFields, kinds, pid_of, sliced_of}
use Rattle.plan_spec.specs.Changes.{with_pid, plan_in, pid_in, pids_in, has_pid, versions}
use Rattle.plan_spec.specs.Route.{longest_of}
use Rattle.plan_spec.specs.Wholes.{is_whole_plan}
use Rattle.plan_law.proofs.Kept.{length-services_in}
use Rattle.stream_spec.specs.Units.{FrameSchedule, unit_of, units_with_delta, datagrams_by_frame, units_of_frames, datagrams_by_burst, units_by_burst, packetized_apart, frame_count, units_of_kind, packets_of_kind}
use Rattle.stream_spec.specs.Services.{kind_at, form_of_kind, carried_by_unit, IsPidOf, datagrams_on, AreCarried, Carries}
use Rattle.stream_spec.specs.Parts.{PartFields, service_packets}
use Rattle.stream_spec.specs.Stream.{frame_count_in, frame_count_before, has_frames_after, schedule_of, packet_count, shares_pid, packet_count_on, earlier, part_of, IsPartCount}
use Rattle.plan_spec.specs.Bytes.{IsMac, AreOfBytes}
use Rattle.stream_law.specs.Words.{packets_on, FitsWindow, is_single}
use Rattle.stream_law.specs.Times.{TimesOfService, frames_carried, AreTimedOverPids}
use Rattle.stream_law.proofs.Ranges.{flat_map_same, sum_same, sum_next}
use Rattle.stream_law.proofs.Packets.{GoOn, none_go_on}
use Rattle.stream_law.proofs.KindPackets.{kind_go_on, length-packets_of_kind}
use Rattle.stream_law.proofs.Sent.{packets_at}
use Rattle.stream_law.proofs.Units.{AreTaken, taken_framed}
use Rattle.stream_law.proofs.Joined.{none_carried, joined}
use Rattle.stream_law.proofs.Kept.{kind_of_version, unicast_of_version, part_kept, form_kept, carried_kept, single_kept, units_kept, frame_count_kept, sliced_kept, frames_kept, unicast_kept}
use Rattle.stream_law.proofs.Parts.{has_its_pid}
use Rattle.stream_law.proofs.Wholes.{version_accepted, pids_not_twice}
use Rattle.stream_law.proofs.KindRanges.{HasFrames, kind_has_frames}
use Rattle.stream_law.proofs.Frames.{AreFramed, IsFrameOf, AreFrames}
use Rattle.stream_law.proofs.FramesCarried.{frames_on, units_in, framed_on, frames_are, units_are_numbered}
use Rattle.stream_law.proofs.Numbered.{items_before}
use Rattle.stream_law.proofs.AllPids.{has_pid_in, items_have_all}
use Rattle.stream_law.proofs.TimesOver.{AreNumbered, numbers_in, indexed_over}
use Rattle.stream_law.proofs.NumberedFrames.{sections_by_number, numbered_are}
use Rattle.stream_law.proofs.Begun.{packet_of_place, packet_is}
use Rattle.stream_law.proofs.Valued.{IsAt, IsValued, none_valued, all_valued}
use Rattle.stream_law.proofs.BurstValues.{AreUnits, all_packet_moments, all_section_moments}
use Rattle.stream_law.proofs.BurstTimes.{Agree, places_of}
use Rattle.stream_law.proofs.SlicedFrames.{AllRead, AreOfFrames}
use Rattle.stream_law.proofs.Sliced.{valued_in, frames_sent, times_sent, over_all_pids, in_frames as in_frames_of}

-- each kind of the list has a PID
kind_is : (ks : List KindFields) (k : ℕ) → list_all (λ kind. is_some (pid_of kind)) ks ≡ true → k < length ks → is_some (pid_of (get_or ks k (mpe 0))) ≡ true
kind_is [] k all less = absurd (omega (arith, less))
kind_is (kind ∷ ks) zero all less = (and_parts (is_some (pid_of kind)) (list_all (λ of. is_some (pid_of of)) ks) all).0
kind_is (kind ∷ ks) (suc k) all less = kind_is ks k (and_parts (is_some (pid_of kind)) (list_all (λ of. is_some (pid_of of)) ks) all).1 (omega (arith, less))

-- datagrams of this kind go out in frames
abbrev in_frames : KindFields → Bool
in_frames (ule old address packing) = false
in_frames (mpe old) = false
in_frames (fec old rows parity window) = true
in_frames (gse isi address) = false

frames_stay : (of : KindFields) (new : ℕ) → in_frames (with_pid of new) ≡ in_frames of
frames_stay (ule old address packing) new = refl
frames_stay (mpe old) new = refl
frames_stay (fec old rows parity window) new = refl
frames_stay (gse isi address) new = refl

short : (of : KindFields) → in_frames of ≡ true → longest_of of ≤ 4080
short (ule old address packing) e = absurd (cc)
short (mpe old) e = absurd (cc)
short (fec old rows parity window) e = omega arith
short (gse isi address) e = absurd (cc)

-- what each gives of the items of several lists
flat_twice : {X Y : Type 0} (f : X → List Y) (lists : ℕ → List X) (a n : ℕ) → flat_map f (flat_map lists (range_with_len a n)) ≡ flat_map (λ v. flat_map f (lists v)) (range_with_len a n)
flat_twice f lists a zero = refl
flat_twice {X} {Y} f lists a (suc n) =
    flat_map-append f (lists a) (flat_map lists (range_with_len (a + 1) n))
    ∙ ap (λ (l : List Y). flat_map f (lists a) ++ l) (flat_twice f lists (a + 1) n)

flat_same : {X Y : Type 0} (f g : X → List Y) (xs : List X) → ((x : X) → f x ≡ g x) → flat_map f xs ≡ flat_map g xs
flat_same f g [] each = refl
flat_same {X} {Y} f g (x ∷ xs) each = ap₂ (λ (a b : List Y). a ++ b) (each x) (flat_same f g xs each)

map_same : {X Y : Type 0} (f g : X → Y) (xs : List X) → ((x : X) → f x ≡ g x) → map f xs ≡ map g xs
map_same f g [] each = refl
map_same {X} {Y} f g (x ∷ xs) each = ap₂ (λ (y : Y) (l : List Y). y ∷ l) (each x) (map_same f g xs each)

map_flat : {X Y : Type 0} (f : X → Y) (lists : ℕ → List X) (a n : ℕ) → map f (flat_map lists (range_with_len a n)) ≡ flat_map (λ v. map f (lists v)) (range_with_len a n)
map_flat f lists a zero = refl
map_flat {X} {Y} f lists a (suc n) =
    map-append f (lists a) (flat_map lists (range_with_len (a + 1) n))
    ∙ ap (λ (l : List Y). map f (lists a) ++ l) (map_flat f lists (a + 1) n)

module _ (plan : PlanFields) (datagrams : ℕ → ℕ → List (List ℕ)) (slots : ℕ → ℕ) where
  abbrev kind : ℕ → ℕ → KindFields
  kind k version = kind_at (plan_in plan version) k

  abbrev unicast : ℕ → ℕ → List ℕ
  unicast k version = get_or (map (λ (service : ServiceFields). service.unicast) (plan_in plan version).services) k []

  abbrev part : ℕ → PartFields
  part version = part_of plan datagrams slots version

  abbrev schedule : ℕ → ℕ → FrameSchedule
  schedule k version = schedule_of plan datagrams (sum_by slots (earlier version)) k version

  -- the units on a PID in a version
  abbrev units_on : ℕ → ℕ → ℕ → List (List ℕ)
  units_on k pid version =
      cond (has_pid (pid_in plan version k) pid) (units_of_kind (kind k version) (unicast k version) (schedule k version) (datagrams version k)) []

  abbrev on : ℕ → ℕ → ℕ → List PacketFields
  on k pid version = packets_on plan datagrams slots k pid version

  -- The times of frames on a PID, by kind: of those of each version with it the numbers, or with time slicing the times of its bursts.

  abbrev bursts_in : ℕ → ℕ → ℕ → WindowFields → ℕ → List Burst
  bursts_in k rows columns window v =
      bursts_from (sum_by (λ u. slots u / plan.cycle) (earlier v) + 0)
      (map (places_of rows columns (get_or (map (λ (service : ServiceFields). service.unicast) plan.services) k []) (schedule k v) window)
      (datagrams_by_burst rows columns window.length (datagrams v k)))

  abbrev times_in : ℕ → ℕ → ℕ → WindowFields → ℕ → List (List SectionTime)
  times_in k rows columns window v =
      times_of_bursts (record { form = plan.recording; rate = plan.packet_rate; cycle = plan.cycle; start = window.start; length = window.length })
      (has_frames_after plan datagrams k v) (bursts_in k rows columns window v)

  abbrev count_in : ℕ → ℕ → ℕ → ℕ
  count_in k rows v = length (datagrams_by_frame rows (datagrams v k))

  abbrev HaveTimes : KindFields → ℕ → ℕ → List (List SectionTime) → Type 0
  HaveTimes (ule own address packing) k pid times = Unit {0}
  HaveTimes (mpe own) k pid times = Unit {0}
  HaveTimes (fec own rows columns None) k pid times =
      AreNumbered (flat_map (λ v. cond (has_pid (pid_in plan v k) pid) (numbers_in (count_in k rows) v) []) (versions plan)) times
  HaveTimes (fec own rows columns (Some window)) k pid times =
      times ≡ flat_map (λ v. cond (has_pid (pid_in plan v k) pid) (times_in k rows columns window v) []) (versions plan)
  HaveTimes (gse isi address) k pid times = Unit {0}

  -- the units of a PID carry its datagrams, and these frames, which have their times
  record CarriesWith (of : KindFields) (k pid first : ℕ) (moments : ℕ → ℕ) (frames : List (List TimedSection)) : Type 0 where
    carried : AreCarried plan.recording of first (flat_map (units_on k pid) (versions plan)) moments (datagrams_on plan datagrams k pid)
    frames_are : frames ≡ frames_carried of plan.recording first (flat_map (units_on k pid) (versions plan)) moments (datagrams_on plan datagrams k pid) carried
    times : HaveTimes of k pid (map times_of frames)

  -- so many packets are on the PID before a version
  abbrev out_before : ℕ → ℕ → ℕ → ℕ
  out_before k pid version = sum_by (λ v. length (packets_on plan datagrams slots k pid v)) (earlier version)

  -- they are units of the kind of the service, whatever its PID is
  abbrev own_units : ℕ → FrameSchedule → List (List ℕ) → List (List ℕ)
  own_units k it offered = units_of_kind (kind_at plan k) (get_or (map (λ (service : ServiceFields). service.unicast) plan.services) k []) it offered

  same_units : (k version : ℕ) (it : FrameSchedule) (offered : List (List ℕ)) → units_of_kind (kind k version) (unicast k version) it offered ≡ own_units k it offered
  same_units k version it offered =
      units_kept plan version k (unicast k version) it offered
      ∙ ap (λ (mac : List ℕ). units_of_kind (kind_at plan k) mac it offered) (unicast_kept plan version k)

  units_in_version : (k pid version : ℕ)
      → units_on k pid version ≡ cond (has_pid (pid_in plan version k) pid) (own_units k (schedule k version) (datagrams version k)) []
  units_in_version k pid version =
      ap (λ (l : List (List ℕ)). cond (has_pid (pid_in plan version k) pid) l []) (same_units k version (schedule k version) (datagrams version k))

  -- the units on a PID are those of its datagrams, one for each, where each has its own
  abbrev own_unit : ℕ → List ℕ → List ℕ
  own_unit k datagram = unit_of (kind_at plan k) (get_or (map (λ (service : ServiceFields). service.unicast) plan.services) k []) datagram

  one_of_each : (of : KindFields) (mac : List ℕ) (it : FrameSchedule) (offered : List (List ℕ)) → is_single of ≡ true → units_of_kind of mac it offered ≡ map (unit_of of mac) offered
  one_of_each (ule own address packing) mac it offered single = refl
  one_of_each (mpe own) mac it offered single = refl
  one_of_each (fec own rows parity window) mac it offered single = absurd (cc)
  one_of_each (gse isi address) mac it offered single = absurd (cc)

  single_in : (k pid version : ℕ) → is_single (kind_at plan k) ≡ true
      → units_on k pid version ≡ map (own_unit k) (cond (has_pid (pid_in plan version k) pid) (datagrams version k) [])
  single_in k pid version single = units_in_version k pid version ∙ by_pid (has_pid (pid_in plan version k) pid)
    where
      by_pid : (own : Bool) → cond own (own_units k (schedule k version) (datagrams version k)) []
          ≡ map (λ datagram. unit_of (kind_at plan k) (get_or (map (λ (service : ServiceFields). service.unicast) plan.services) k []) datagram) (cond own (datagrams version k) [])
      by_pid true =
          one_of_each (kind_at plan k) (get_or (map (λ (service : ServiceFields). service.unicast) plan.services) k []) (schedule k version) (datagrams version k) single
      by_pid false = refl

  units_are : (k pid : ℕ) → is_single (kind_at plan k) ≡ true → flat_map (units_on k pid) (versions plan) ≡ map (own_unit k) (datagrams_on plan datagrams k pid)
  units_are k pid single =
      flat_map_same (units_on k pid) (λ version. map (own_unit k) (cond (has_pid (pid_in plan version k) pid) (datagrams version k) [])) 0 (length plan.changes + 1)
      (λ version less. single_in k pid version single)
      ∙ sym (map_flat (own_unit k) (λ version. cond (has_pid (pid_in plan version k) pid) (datagrams version k) []) 0 (length plan.changes + 1))

  module _ (k : ℕ) (known : k < length plan.services) (pid : ℕ) where
    its_packets : (version : ℕ) → slice_index_or (service_packets (part version)) k []
        ≡ packets_of_kind (kind k version) (unicast k version) ((part version).packets_before k % 16) (schedule k version) (datagrams version k)
    its_packets version =
        packets_at (part version).packets_before (part version).schedules (datagrams version) (plan_in plan version).services 0 k k (omega arith)
        (omega (arith, known, length-services_in plan version))

    -- Their counters go on from version to version.

    count_same : (version : ℕ) → packet_count plan datagrams k version ≡ length (slice_index_or (service_packets (part version)) k [])
    count_same version =
        sym (ap (λ (ps : List PacketFields). length ps) (its_packets version)
        ∙ length-packets_of_kind (kind k version) (unicast k version) ((part version).packets_before k % 16) 0 (schedule k version) (schedule_of plan datagrams 0 k version)
        (datagrams version k) refl
        ∙ ap₂ (λ (of : KindFields) (mac : List ℕ). length (packets_of_kind of mac 0 (schedule_of plan datagrams 0 k version) (datagrams version k)))
        (kind_of_version plan version k) (unicast_of_version plan version k))

    counts_on : (version other : ℕ) → pid_in plan version k ≡ Some pid → packet_count_on plan datagrams k version other ≡ length (on k pid other)
    counts_on version other is =
        ap (λ (o : Option ℕ). cond (shares_pid o (pid_in plan other k)) (packet_count plan datagrams k other) 0) is
        ∙ by_pid (has_pid (pid_in plan other k) pid)
      where
        by_pid : (own : Bool) → cond own (packet_count plan datagrams k other) 0 ≡ length (cond own (slice_index_or (service_packets (part other)) k []) [])
        by_pid true = count_same other
        by_pid false = refl

    go_on : (version : ℕ) → GoOn (out_before k pid version) (on k pid version)
    go_on version = by_pid (has_pid (pid_in plan version k) pid) refl
      where
        by_pid : (own : Bool) → has_pid (pid_in plan version k) pid ≡ own → GoOn (out_before k pid version) (cond own (slice_index_or (service_packets (part version)) k []) [])
        by_pid true e =
            let before : (part version).packets_before k ≡ out_before k pid version
            = sum_same (packet_count_on plan datagrams k version) (λ v. length (on k pid v)) 0 version (λ v less. counts_on version v (has_its_pid (pid_in plan version k) pid e)) in
            subst (λ (ps : List PacketFields). GoOn (out_before k pid version) ps) (sym (its_packets version))
            (subst (λ (b : ℕ). GoOn b (packets_of_kind (kind k version) (unicast k version) ((part version).packets_before k % 16) (schedule k version) (datagrams version k))) before
            (kind_go_on (kind k version) (unicast k version) ((part version).packets_before k) (schedule k version) (datagrams version k)))
        by_pid false e = none_go_on (out_before k pid version)

    -- with the laws of units
    module _ (lawful : (of : KindFields) → IsLawful (form_of_kind of))
        (packetized : (mac : List ℕ) → IsMac mac → (of : KindFields) → HasFrames of → (counter : ℕ) (it : FrameSchedule) (offered : List (List ℕ))
        → is_some (pid_of of) ≡ true → sliced_of of ≡ None → AreTaken of offered
        → (begin : ℕ → ℕ) × Packetizes (form_of_kind of) (units_of_kind of mac it offered) (packets_of_kind of mac counter it offered) begin)
        (carry : (mac : List ℕ) → IsMac mac → (of : KindFields) (it : FrameSchedule) (offered : List (List ℕ)) → is_single of ≡ true → AreTaken of offered
        → offered ≡ flat_map (carried_by_unit of) (units_of_kind of mac it offered))
        (frames_carry : (mac : List ℕ) → IsMac mac → (rows columns first : ℕ) (frames : List (List (List ℕ))) (moments : ℕ → ℕ) → IsRows rows → 1 ≤ columns → columns ≤ 64
        → AreFrames rows frames
        → (c : CarriesInFrames indexed rows first (units_of_frames rows columns mac first frames) moments (flat_map (λ (frame : List (List ℕ)). frame) frames))
        × (all_timed moments 0 (sections_by_number rows columns mac first frames) ≡ c.sections))
        (whole : is_whole_plan plan ≡ true)
        (of_bytes : AreOfBytes plan) (built : list_all (λ kind. is_some (pid_of kind)) (kinds plan) ≡ true) (taken : (version j : ℕ) → AreTaken (kind_at (plan_in plan version) j) (datagrams version j)) where
      its_mac : (version : ℕ) → version ≤ length plan.changes → IsMac (unicast k version)
      its_mac version within =
          (of_bytes version within).unicast k []
          (omega (arith, known, length-services_in plan version, length-map (plan_in plan version).services (λ (service : ServiceFields). service.unicast)))

      own_pid : is_some (pid_of (kind_at plan k)) ≡ true
      own_pid = kind_is (kinds plan) k built (omega (arith, known, length-map plan.services (λ (service : ServiceFields). service.kind)))

      has_own_pid : (version : ℕ) → is_some (pid_of (kind k version)) ≡ true
      has_own_pid version = part_kept (λ of. is_some (pid_of of)) stays plan version k ∙ own_pid
        where
          stays : (of : KindFields) (new : ℕ) → is_some (pid_of (with_pid of new)) ≡ is_some (pid_of of)
          stays (ule old address packing) new = refl
          stays (mpe old) new = refl
          stays (fec old rows parity window) new = refl
          stays (gse isi address) new = refl

      framed_in : in_frames (kind_at plan k) ≡ true → (version : ℕ) → AreFramed (datagrams version k)
      framed_in it version = taken_framed (kind k version) (short (kind k version) (part_kept in_frames frames_stay plan version k ∙ it)) (datagrams version k) (taken version k)

      abbrev units : ℕ → List (List ℕ)
      units version = units_of_kind (kind k version) (unicast k version) (schedule k version) (datagrams version k)

      packetized_in : sliced_of (kind_at plan k) ≡ None → (version : ℕ) → version ≤ length plan.changes → (begin : ℕ → ℕ) × Packetizes (form_of_kind (kind_at plan k)) (units_on k pid version) (on k pid version) begin
      packetized_in none version within = by_pid (has_pid (pid_in plan version k) pid)
        where
          by_pid : (own : Bool) → (begin : ℕ → ℕ) × Packetizes (form_of_kind (kind_at plan k)) (cond own (units version) []) (cond own (slice_index_or (service_packets (part version)) k []) []) begin
          by_pid true =
              subst (λ (ps : List PacketFields). (begin : ℕ → ℕ) × Packetizes (form_of_kind (kind_at plan k)) (units version) ps begin) (sym (its_packets version))
              (subst (λ (form : UnitForm). (begin : ℕ → ℕ) × Packetizes form (units version)
              (packets_of_kind (kind k version) (unicast k version) ((part version).packets_before k % 16) (schedule k version) (datagrams version k)) begin)
              (form_kept plan version k)
              (packetized (unicast k version) (its_mac version within) (kind k version)
              (kind_has_frames (plan_in plan version) (version_accepted plan whole version within) k) ((part version).packets_before k % 16)
              (schedule k version) (datagrams version k) (has_own_pid version) (sliced_kept plan version k ∙ none) (taken version k)))
          by_pid false = ((λ n. 0), none_carried (form_of_kind (kind_at plan k)))

      pub all_packetized : sliced_of (kind_at plan k) ≡ None → (begin : ℕ → ℕ) × Packetizes (form_of_kind (kind_at plan k)) (flat_map (units_on k pid) (versions plan)) (flat_map (on k pid) (versions plan)) begin
      all_packetized none =
          joined (on k pid) (out_before k pid) (length plan.changes + 1) (λ version less. go_on version) (λ version less. sum_next (λ v. length (on k pid v)) version)
          (form_of_kind (kind_at plan k)) (lawful (kind_at plan k)) (units_on k pid) (λ version less. packetized_in none version (omega (arith, less))) (length plan.changes + 1) 0 (omega arith)

      -- Datagrams that have units of their own.
      module _ (single : is_single (kind_at plan k) ≡ true) where
        carried_in : (version : ℕ) → version ≤ length plan.changes
            → cond (has_pid (pid_in plan version k) pid) (datagrams version k) [] ≡ flat_map (carried_by_unit (kind_at plan k)) (units_on k pid version)
        carried_in version within = by_pid (has_pid (pid_in plan version k) pid)
          where
            by_pid : (own : Bool) → cond own (datagrams version k) [] ≡ flat_map (carried_by_unit (kind_at plan k)) (cond own (units version) [])
            by_pid true =
                carry (unicast k version) (its_mac version within) (kind k version) (schedule k version) (datagrams version k)
                (single_kept plan version k ∙ single) (taken version k)
                ∙ flat_same (carried_by_unit (kind k version)) (carried_by_unit (kind_at plan k)) (units version) (λ unit. carried_kept plan version k unit)
            by_pid false = refl

        single_carried : datagrams_on plan datagrams k pid ≡ flat_map (carried_by_unit (kind_at plan k)) (flat_map (units_on k pid) (versions plan))
        single_carried =
            flat_map_same (λ version. cond (has_pid (pid_in plan version k) pid) (datagrams version k) []) (λ version. flat_map (carried_by_unit (kind_at plan k)) (units_on k pid version))
            0 (length plan.changes + 1) (λ version less. carried_in version (omega (arith, less)))
            ∙ sym (flat_twice (carried_by_unit (kind_at plan k)) (units_on k pid) 0 (length plan.changes + 1))

      -- Datagrams in frames.
      module _ (own rows parity : ℕ) (is : kind_at plan k ≡ fec own rows parity None) where
        abbrev mac : List ℕ
        mac = get_or (map (λ (service : ServiceFields). service.unicast) plan.services) k []

        abbrev pid_at : ℕ → Option ℕ
        pid_at version = pid_in plan version k

        all_have : (version : ℕ) → (it : ℕ) × (pid_in plan version k ≡ Some it)
        all_have = has_pid_in plan k own (ap pid_of is)

        abbrev lists : ℕ → List (List ℕ)
        lists version = datagrams version k

        own_mac : IsMac (get_or (map (λ (service : ServiceFields). service.unicast) plan.services) k [])
        own_mac = subst IsMac (unicast_kept plan 0 k) (its_mac 0 (omega arith))

        has : HasFrames (fec own rows parity None)
        has = subst HasFrames (kind_of_first ∙ is) (kind_has_frames (plan_in plan 0) (version_accepted plan whole 0 (omega arith)) k)
          where
            kind_of_first : kind_at (plan_in plan 0) k ≡ kind_at plan k
            kind_of_first = refl

        framed : (version : ℕ) → AreFramed (datagrams version k)
        framed version = framed_in (ap in_frames is) version

        counts : (version : ℕ) → frame_count_in plan datagrams k version ≡ length (datagrams_by_frame rows (datagrams version k))
        counts version =
            ap (λ (of : KindFields). frame_count of (datagrams version k)) (sym (kind_of_version plan version k))
            ∙ frame_count_kept plan version k (datagrams version k)
            ∙ ap (λ (of : KindFields). frame_count of (datagrams version k)) is

        numbers : (version : ℕ) → frame_count_before plan datagrams k version ≡ items_before pid_at all_have (λ v. datagrams_by_frame rows (datagrams v k)) version
        numbers version =
            sum_same (frame_count_in plan datagrams k) (λ v. length (datagrams_by_frame rows (datagrams v k))) 0 version (λ v less. counts v)

        in_version : (version : ℕ) → units_on k pid version ≡ units_in pid_at all_have lists rows parity mac pid version
        in_version version =
            units_in_version k pid version
            ∙ ap (λ (of : KindFields). cond (has_pid (pid_in plan version k) pid) (units_of_kind of mac (schedule k version) (datagrams version k)) []) is
            ∙ ap (λ (n : ℕ). cond (has_pid (pid_in plan version k) pid) (units_of_frames rows parity mac n (datagrams_by_frame rows (datagrams version k))) []) (numbers version)

        -- the frames on the PID, and their sections, where the first has this number
        abbrev frames_here : List (List (List ℕ))
        frames_here = frames_on pid_at all_have lists rows parity mac pid (length plan.changes + 1)

        abbrev sent_here : ℕ → (ℕ → ℕ) → List (List TimedSection)
        sent_here first moments = all_timed moments 0 (sections_by_number rows parity mac first frames_here)

        abbrev CarriesHere : ℕ → (ℕ → ℕ) → List (List ℕ) → List (List ℕ) → Type 0
        CarriesHere first moments us ds = (c : CarriesInFrames indexed rows first us moments ds) × (sent_here first moments ≡ c.sections)

        abbrev UnitsAre : ℕ → Type 0
        UnitsAre first = flat_map (units_in pid_at all_have lists rows parity mac pid) (versions plan) ≡ units_of_frames rows parity mac first frames_here

        abbrev NumbersAre : ℕ → Type 0
        NumbersAre first = flat_map (λ v. cond (has_pid (pid_in plan v k) pid) (numbers_in (count_in k rows) v) []) (versions plan) ≡ range_with_len first (length frames_here)

        framed_here : (first : ℕ) → UnitsAre first → NumbersAre first → (moments : ℕ → ℕ) → CarriesWith (fec own rows parity None) k pid first moments (sent_here first moments)
        framed_here first units_are numbers_are moments = record {
          carried = there.0;
          frames_are = there.1;
          times = subst (λ (ns : List ℕ). AreNumbered ns (map times_of (sent_here first moments))) (sym numbers_are) (numbered_are rows parity mac moments first 0 frames_here);
        }
          where
            there : CarriesHere first moments (flat_map (units_on k pid) (versions plan)) (datagrams_on plan datagrams k pid)
            there =
                subst (λ (us : List (List ℕ)). CarriesHere first moments us (datagrams_on plan datagrams k pid))
                (sym (flat_map_same (units_on k pid) (units_in pid_at all_have lists rows parity mac pid) 0 (length plan.changes + 1) (λ version less. in_version version) ∙ units_are))
                (subst (λ (ds : List (List ℕ)). CarriesHere first moments (units_of_frames rows parity mac first frames_here) ds)
                (framed_on pid_at all_have lists rows parity mac pid (length plan.changes + 1))
                (frames_carry mac own_mac rows parity first frames_here moments has.0 has.1 has.2
                (frames_are pid_at all_have lists rows parity mac pid has.0 framed (length plan.changes + 1))))

        framed_carried : (first : ℕ) × (frames : (ℕ → ℕ) → List (List TimedSection)) × ((moments : ℕ → ℕ) → CarriesWith (fec own rows parity None) k pid first moments (frames moments))
        unfolding pids_in
        framed_carried = of_first (units_are_numbered pid_at all_have lists rows parity mac pid (length plan.changes + 1) (pids_not_twice plan whole k known))
          where
            of_first : (first : ℕ) × UnitsAre first × NumbersAre first
                → (first : ℕ) × (frames : (ℕ → ℕ) → List (List TimedSection)) × ((moments : ℕ → ℕ) → CarriesWith (fec own rows parity None) k pid first moments (frames moments))
            of_first (first, units_are, numbers_are) = (first, sent_here first, framed_here first units_are numbers_are)

      -- Of each kind but that with time slicing.
      carried_as : (of : KindFields) → kind_at plan k ≡ of → sliced_of of ≡ None
          → (first : ℕ) × (frames : (ℕ → ℕ) → List (List TimedSection)) × ((moments : ℕ → ℕ) → CarriesWith of k pid first moments (frames moments))
      carried_as (ule own address packing) is none = (
        0,
        λ moments. [],
        λ moments. record {
          carried = subst (λ (of : KindFields). datagrams_on plan datagrams k pid ≡ flat_map (carried_by_unit of) (flat_map (units_on k pid) (versions plan))) is
              (single_carried (ap is_single is));
          frames_are = refl;
          times = tt;
        },
      )
      carried_as (mpe own) is none = (
        0,
        λ moments. [],
        λ moments. record {
          carried = subst (λ (of : KindFields). datagrams_on plan datagrams k pid ≡ flat_map (carried_by_unit of) (flat_map (units_on k pid) (versions plan))) is
              (single_carried (ap is_single is));
          frames_are = refl;
          times = tt;
        },
      )
      carried_as (fec own rows parity None) is none = framed_carried own rows parity is
      carried_as (fec own rows parity (Some window)) is none = absurd (cc (none))
      carried_as (gse isi address) is none = absurd (cc (is, own_pid))

      all_carried : sliced_of (kind_at plan k) ≡ None
          → (first : ℕ) × (frames : (ℕ → ℕ) → List (List TimedSection)) × ((moments : ℕ → ℕ) → CarriesWith (kind_at plan k) k pid first moments (frames moments))
      all_carried none = carried_as (kind_at plan k) refl none

      -- With time slicing.
      module _ (each : (version : ℕ) → version ≤ length plan.changes → IsPartCount plan datagrams slots version) (fits : FitsWindow plan datagrams k)
          (fec_units : (mac : List ℕ) → IsMac mac → (rows columns : ℕ) → IsRows rows → 1 ≤ columns → columns ≤ 64 → (delta : ℕ → ℕ) (frame : List (List ℕ)) → IsFrameOf rows frame
          → ((i : ℕ) → delta i < 2 ^ 12) → AreUnits (units_with_delta rows columns mac delta frame))
          (reads : (mac : List ℕ) → IsMac mac → (rows columns : ℕ) → IsRows rows → 1 ≤ columns → columns ≤ 64 → (fs : List (List (List ℕ))) (sections : List (List FrameSection))
          → AreFrames rows fs → AreOfFrames rows columns mac fs sections → AllRead rows (flat_map (λ (f : List FrameSection). f) sections))
          (are_sent : (mac : List ℕ) → IsMac mac → (rows columns : ℕ) → IsRows rows → 1 ≤ columns → columns ≤ 64 → (moments : ℕ → ℕ) (n : ℕ) (fs : List (List (List ℕ)))
          (sections : List (List FrameSection)) → AreFrames rows fs → AreOfFrames rows columns mac fs sections
          → AreSentFrames rows (map (frame_of rows columns) fs) (all_timed moments n sections))
          (section_lawful : IsLawful section_form) (own rows columns : ℕ) (window : WindowFields) (is : kind_at plan k ≡ fec own rows columns (Some window)) where
        abbrev its_mac_here : List ℕ
        its_mac_here = get_or (map (λ (service : ServiceFields). service.unicast) plan.services) k []

        mac_is : IsMac (get_or (map (λ (service : ServiceFields). service.unicast) plan.services) k [])
        mac_is = subst IsMac (unicast_kept plan 0 k) (its_mac 0 (omega arith))

        ranges : HasFrames (fec own rows columns (Some window))
        ranges = subst HasFrames (kind_of_first ∙ is) (kind_has_frames (plan_in plan 0) (version_accepted plan whole 0 (omega arith)) k)
          where
            kind_of_first : kind_at (plan_in plan 0) k ≡ kind_at plan k
            kind_of_first = refl

        in_time : (version : ℕ) → AreFramed (datagrams version k)
        in_time version = framed_in (ap in_frames is) version

        burst_units : (delta : ℕ → ℕ) (frame : List (List ℕ)) → IsFrameOf rows frame → ((i : ℕ) → delta i < 2 ^ 12) → AreUnits (units_with_delta rows columns its_mac_here delta frame)
        burst_units delta frame it below = fec_units its_mac_here mac_is rows columns ranges.0 ranges.1 ranges.2 delta frame it below

        abbrev sliced_units : ℕ → List (List ℕ)
        sliced_units version =
            flat_map (λ (burst : List (List ℕ)). burst) (units_by_burst rows columns its_mac_here (schedule k version) window 0 (datagrams_by_burst rows columns window.length (datagrams version k)))

        abbrev pub values_on : ℕ → List ℕ
        values_on version = cond (has_pid (pid_in plan version k) pid)
            (all_packet_moments rows columns (schedule_of plan datagrams (sum_by slots (earlier version)) k version) window 0 (datagrams_by_burst rows columns window.length (datagrams version k))) []

        abbrev expected_in : ℕ → List ℕ
        expected_in version = cond (has_pid (pid_in plan version k) pid)
            (all_section_moments rows columns (schedule_of plan datagrams (sum_by slots (earlier version)) k version) window 0 (datagrams_by_burst rows columns window.length (datagrams version k))) []

        units_same : (version : ℕ) → units_of_kind (kind k version) (unicast k version) (schedule k version) (datagrams version k) ≡ sliced_units version
        units_same version =
            same_units k version (schedule k version) (datagrams version k)
            ∙ ap (λ (of : KindFields). units_of_kind of its_mac_here (schedule k version) (datagrams version k)) is

        packets_same : (version : ℕ) → slice_index_or (service_packets (part version)) k []
            ≡ packetized_apart (frames_kept plan version k own rows columns (Some window) is).0 ((part version).packets_before k % 16)
            (units_by_burst rows columns its_mac_here (schedule k version) window 0 (datagrams_by_burst rows columns window.length (datagrams version k)))
        packets_same version =
            its_packets version
            ∙ ap (λ (of : KindFields). packets_of_kind of (unicast k version) ((part version).packets_before k % 16) (schedule k version) (datagrams version k))
            (frames_kept plan version k own rows columns (Some window) is).1
            ∙ ap (λ (mac : List ℕ). packetized_apart (frames_kept plan version k own rows columns (Some window) is).0 ((part version).packets_before k % 16)
            (units_by_burst rows columns mac (schedule k version) window 0 (datagrams_by_burst rows columns window.length (datagrams version k)))) (unicast_kept plan version k)

        valued_version : (version : ℕ) → version ≤ length plan.changes → IsValued section_form (units_on k pid version) (on k pid version) (values_on version) (expected_in version)
        valued_version version within = by_pid (has_pid (pid_in plan version k) pid)
          where
            by_pid : (o : Bool) → IsValued section_form (cond o (units version) []) (cond o (slice_index_or (service_packets (part version)) k []) [])
                (cond o (all_packet_moments rows columns (schedule k version) window 0 (datagrams_by_burst rows columns window.length (datagrams version k))) [])
                (cond o (all_section_moments rows columns (schedule k version) window 0 (datagrams_by_burst rows columns window.length (datagrams version k))) [])
            by_pid true =
                subst (λ (us : List (List ℕ)). IsValued section_form us (slice_index_or (service_packets (part version)) k [])
                (all_packet_moments rows columns (schedule k version) window 0 (datagrams_by_burst rows columns window.length (datagrams version k)))
                (all_section_moments rows columns (schedule k version) window 0 (datagrams_by_burst rows columns window.length (datagrams version k)))) (sym (units_same version))
                (subst (λ (ps : List PacketFields). IsValued section_form (sliced_units version) ps
                (all_packet_moments rows columns (schedule k version) window 0 (datagrams_by_burst rows columns window.length (datagrams version k)))
                (all_section_moments rows columns (schedule k version) window 0 (datagrams_by_burst rows columns window.length (datagrams version k)))) (sym (packets_same version))
                (valued_in plan whole datagrams slots each k known own rows columns window is pid fits ranges.0 in_time section_lawful its_mac_here burst_units version
                (frames_kept plan version k own rows columns (Some window) is).0 ((part version).packets_before k) within))
            by_pid false = none_valued section_form

        pub sliced_valued : IsValued section_form (flat_map (units_on k pid) (versions plan)) (flat_map (on k pid) (versions plan)) (flat_map values_on (versions plan)) (flat_map expected_in (versions plan))
        sliced_valued =
            all_valued (on k pid) (out_before k pid) (length plan.changes + 1) (λ version less. go_on version) (λ version less. sum_next (λ v. length (on k pid v)) version)
            section_form section_lawful (units_on k pid) values_on expected_in (λ version less. valued_version version (omega (arith, less))) (length plan.changes + 1) 0 (omega arith)

        all_same : (version : ℕ) → cond (has_pid (pid_in plan version k) pid) (sliced_units version) [] ≡ units_on k pid version
        all_same version = by_pid (has_pid (pid_in plan version k) pid)
          where
            by_pid : (o : Bool) → cond o (sliced_units version) [] ≡ cond o (units version) []
            by_pid true = sym (units_same version)
            by_pid false = refl

        abbrev sliced_frames : (ℕ → ℕ) → List (List TimedSection)
        sliced_frames moments = frames_sent plan whole datagrams slots each k known own rows columns window is pid fits ranges.0 in_time section_lawful its_mac_here burst_units moments

        sliced_there : (moments : ℕ → ℕ) → Agree moments 0 (flat_map expected_in (versions plan))
            → (c : CarriesInFrames (sliced (ten plan.recording)) rows 0 (flat_map (units_on k pid) (versions plan)) moments (datagrams_on plan datagrams k pid))
            × (sliced_frames moments ≡ c.sections)
        sliced_there moments agree =
            subst (λ (us : List (List ℕ)). (c : CarriesInFrames (sliced (ten plan.recording)) rows 0 us moments (datagrams_on plan datagrams k pid)) × (sliced_frames moments ≡ c.sections))
            (flat_map_same (λ version. cond (has_pid (pid_in plan version k) pid) (sliced_units version) []) (units_on k pid) 0 (length plan.changes + 1) (λ version less. all_same version))
            (in_frames_of plan whole datagrams slots each k known own rows columns window is pid fits ranges.0 in_time section_lawful its_mac_here burst_units
            (reads its_mac_here mac_is rows columns ranges.0 ranges.1 ranges.2) (are_sent its_mac_here mac_is rows columns ranges.0 ranges.1 ranges.2) moments agree)

        sliced_carried : (frames : (ℕ → ℕ) → List (List TimedSection))
            × ((moments : ℕ → ℕ) → Agree moments 0 (flat_map expected_in (versions plan)) → CarriesWith (fec own rows columns (Some window)) k pid 0 moments (frames moments))
        sliced_carried = (
          sliced_frames,
          λ moments agree. record {
            carried = (sliced_there moments agree).0;
            frames_are = (sliced_there moments agree).1;
            times = times_sent plan whole datagrams slots each k known own rows columns window is pid fits ranges.0 in_time section_lawful its_mac_here burst_units moments agree;
          },
        )

        sliced_over_pids : (frames : ℕ → List (List TimedSection))
            → ((its : ℕ) → Member (pids_in plan k) its → HaveTimes (fec own rows columns (Some window)) k its (map times_of (frames its)))
            → TimesOfService plan.recording true (pids_in plan k) frames
        sliced_over_pids frames each_pid =
            over_all_pids plan whole datagrams slots each k known own rows columns window is pid fits ranges.0 in_time section_lawful its_mac_here burst_units frames each_pid

  module _ (lawful : (of : KindFields) → IsLawful (form_of_kind of))
      (packetized : (mac : List ℕ) → IsMac mac → (of : KindFields) → HasFrames of → (counter : ℕ) (it : FrameSchedule) (offered : List (List ℕ))
      → is_some (pid_of of) ≡ true → sliced_of of ≡ None → AreTaken of offered
      → (begin : ℕ → ℕ) × Packetizes (form_of_kind of) (units_of_kind of mac it offered) (packets_of_kind of mac counter it offered) begin)
      (carry : (mac : List ℕ) → IsMac mac → (of : KindFields) (it : FrameSchedule) (offered : List (List ℕ)) → is_single of ≡ true → AreTaken of offered
      → offered ≡ flat_map (carried_by_unit of) (units_of_kind of mac it offered))
      (frames_carry : (mac : List ℕ) → IsMac mac → (rows columns first : ℕ) (frames : List (List (List ℕ))) (moments : ℕ → ℕ) → IsRows rows → 1 ≤ columns → columns ≤ 64
      → AreFrames rows frames
      → (c : CarriesInFrames indexed rows first (units_of_frames rows columns mac first frames) moments (flat_map (λ (frame : List (List ℕ)). frame) frames))
      × (all_timed moments 0 (sections_by_number rows columns mac first frames) ≡ c.sections))
      (whole : is_whole_plan plan ≡ true)
      (of_bytes : AreOfBytes plan) (built : list_all (λ kind. is_some (pid_of kind)) (kinds plan) ≡ true) (taken : (version j : ℕ) → AreTaken (kind_at (plan_in plan version) j) (datagrams version j))
      (each : (version : ℕ) → version ≤ length plan.changes → IsPartCount plan datagrams slots version) (fit : (k : ℕ) → FitsWindow plan datagrams k)
      (fec_units : (mac : List ℕ) → IsMac mac → (rows columns : ℕ) → IsRows rows → 1 ≤ columns → columns ≤ 64 → (delta : ℕ → ℕ) (frame : List (List ℕ)) → IsFrameOf rows frame
      → ((i : ℕ) → delta i < 2 ^ 12) → AreUnits (units_with_delta rows columns mac delta frame))
      (reads : (mac : List ℕ) → IsMac mac → (rows columns : ℕ) → IsRows rows → 1 ≤ columns → columns ≤ 64 → (fs : List (List (List ℕ))) (sections : List (List FrameSection))
      → AreFrames rows fs → AreOfFrames rows columns mac fs sections → AllRead rows (flat_map (λ (f : List FrameSection). f) sections))
      (are_sent : (mac : List ℕ) → IsMac mac → (rows columns : ℕ) → IsRows rows → 1 ≤ columns → columns ≤ 64 → (moments : ℕ → ℕ) (n : ℕ) (fs : List (List (List ℕ)))
      (sections : List (List FrameSection)) → AreFrames rows fs → AreOfFrames rows columns mac fs sections
      → AreSentFrames rows (map (frame_of rows columns) fs) (all_timed moments n sections))
      (section_lawful : IsLawful section_form)
      (sent : List Record) (are : (k pid : ℕ) → IsPidOf plan k pid → packets_sent pid sent ≡ flat_map (packets_on plan datagrams slots k pid) (versions plan))
      (arrive : (k pid own rows columns : ℕ) (window : WindowFields) → IsPidOf plan k pid → kind_at plan k ≡ fec own rows columns (Some window)
      → map (λ (a : Arrival). a.moment) (arrivals pid sent)
      ≡ flat_map (λ v. cond (has_pid (pid_in plan v k) pid)
      (all_packet_moments rows columns (schedule_of plan datagrams (sum_by slots (earlier v)) k v) window 0 (datagrams_by_burst rows columns window.length (datagrams v k))) []) (versions plan)) where
    -- where the units begin, the number of the first frame, the frames, and that the units carry the datagrams and these; of a number that is no service's they don't matter
    record IsFound (k pid : ℕ) : Type 0 where
      begin : ℕ → ℕ
      first : ℕ
      frames : (ℕ → ℕ) → List (List TimedSection)
      packetizes : IsPidOf plan k pid → Packetizes (form_of_kind (kind_at plan k)) (flat_map (units_on k pid) (versions plan)) (packets_sent pid sent) begin
      carries : IsPidOf plan k pid → (moments : ℕ → ℕ)
          → ((n m : ℕ) → n < length (flat_map (units_on k pid) (versions plan)) → IsIn (packets_sent pid sent) m (begin n) → moments n ≡ (arrival_at (arrivals pid sent) m).moment)
          → CarriesWith (kind_at plan k) k pid first moments (frames moments)

    module _ (k pid : ℕ) (known : k < length plan.services) where
      unsliced_found : sliced_of (kind_at plan k) ≡ None → IsFound k pid
      unsliced_found none = by_parts (all_packetized k known pid lawful packetized carry frames_carry whole of_bytes built taken none)
          (all_carried k known pid lawful packetized carry frames_carry whole of_bytes built taken none)
        where
          by_parts : (begin : ℕ → ℕ) × Packetizes (form_of_kind (kind_at plan k)) (flat_map (units_on k pid) (versions plan)) (flat_map (on k pid) (versions plan)) begin
              → (first : ℕ) × (frames : (ℕ → ℕ) → List (List TimedSection)) × ((moments : ℕ → ℕ) → CarriesWith (kind_at plan k) k pid first moments (frames moments))
              → IsFound k pid
          by_parts (begin, it) (first, frames, it_carries) = record {
            begin = begin;
            first = first;
            frames = frames;
            packetizes = λ own. subst (λ (ps : List PacketFields). Packetizes (form_of_kind (kind_at plan k)) (flat_map (units_on k pid) (versions plan)) ps begin) (sym (are k pid own)) it;
            carries = λ own moments begun. it_carries moments;
          }

      sliced_found : (own rows columns : ℕ) (window : WindowFields) → kind_at plan k ≡ fec own rows columns (Some window) → IsFound k pid
      sliced_found own rows columns window is =
          by_valued (sliced_valued k known pid lawful packetized carry frames_carry whole of_bytes built taken each (fit k) fec_units reads are_sent section_lawful own rows columns window is)
          (sliced_carried k known pid lawful packetized carry frames_carry whole of_bytes built taken each (fit k) fec_units reads are_sent section_lawful own rows columns window is)
        where
          values : ℕ → List ℕ
          values v = cond (has_pid (pid_in plan v k) pid)
              (all_packet_moments rows columns (schedule_of plan datagrams (sum_by slots (earlier v)) k v) window 0 (datagrams_by_burst rows columns window.length (datagrams v k))) []

          expected : ℕ → List ℕ
          expected v = cond (has_pid (pid_in plan v k) pid)
              (all_section_moments rows columns (schedule_of plan datagrams (sum_by slots (earlier v)) k v) window 0 (datagrams_by_burst rows columns window.length (datagrams v k))) []

          by_valued : IsValued section_form (flat_map (units_on k pid) (versions plan)) (flat_map (on k pid) (versions plan)) (flat_map values (versions plan)) (flat_map expected (versions plan))
              → (frames : (ℕ → ℕ) → List (List TimedSection))
              × ((moments : ℕ → ℕ) → Agree moments 0 (flat_map expected (versions plan)) → CarriesWith (fec own rows columns (Some window)) k pid 0 moments (frames moments))
              → IsFound k pid
          by_valued it (frames, it_carries) = record {
            begin = it.begin;
            first = 0;
            frames = frames;
            packetizes = λ its. subst (λ (of : KindFields). Packetizes (form_of_kind of) (flat_map (units_on k pid) (versions plan)) (packets_sent pid sent) it.begin) (sym is)
                (subst (λ (ps : List PacketFields). Packetizes section_form (flat_map (units_on k pid) (versions plan)) ps it.begin) (sym (are k pid its)) it.packetizes);
            carries = λ its moments begun. subst (λ (of : KindFields). CarriesWith of k pid 0 moments (frames moments)) (sym is) (it_carries moments (agree its moments begun));
          }
            where
              agree : IsPidOf plan k pid → (moments : ℕ → ℕ)
                  → ((n m : ℕ) → n < length (flat_map (units_on k pid) (versions plan)) → IsIn (packets_sent pid sent) m (it.begin n) → moments n ≡ (arrival_at (arrivals pid sent) m).moment)
                  → Agree moments 0 (flat_map expected (versions plan))
              agree its moments begun i less =
                  let known_i : i < length (flat_map (units_on k pid) (versions plan)) = omega (arith, less, it.expected_size) in
                  let at : IsAt (flat_map (on k pid) (versions plan)) (flat_map values (versions plan)) (flat_map expected (versions plan)) (it.begin i) i = it.at i known_i in
                  let here : IsIn (packets_sent pid sent) at.packet (it.begin i) = subst (λ (ps : List PacketFields). IsIn ps at.packet (it.begin i)) (sym (are k pid its)) at.here in
                  let zero_first : 0 + i ≡ i = omega arith in
                  ap moments zero_first
                  ∙ begun i at.packet known_i here
                  ∙ sym (get_or-map (λ (a : Arrival). a.moment) (arrivals pid sent) at.packet no_arrival 0 (omega (arith, here.within, length-map (arrivals pid sent) packet_of)))
                  ∙ ap (λ (l : List ℕ). get_or l at.packet 0) (arrive k pid own rows columns window its is)
                  ∙ at.value

      of_kind : (of : KindFields) → kind_at plan k ≡ of → IsFound k pid
      of_kind (ule own address packing) e = unsliced_found (ap sliced_of e)
      of_kind (mpe own) e = unsliced_found (ap sliced_of e)
      of_kind (fec own rows parity None) e = unsliced_found (ap sliced_of e)
      of_kind (fec own rows parity (Some window)) e = sliced_found own rows parity window e
      of_kind (gse isi address) e = unsliced_found (ap sliced_of e)

    found : (k pid : ℕ) → IsFound k pid
    found k pid = by_place (cases_lt k (length plan.services))
      where
        by_place : (k < length plan.services) ⊎ (length plan.services ≤ k) → IsFound k pid
        by_place (inl known) = of_kind k pid known (kind_at plan k) refl
        by_place (inr more) = record {
          begin = λ n. 0;
          first = 0;
          frames = λ moments. [];
          packetizes = λ own. absurd (omega (arith, own.service, more));
          carries = λ own moments begun. absurd (omega (arith, own.service, more));
        }

    -- the moment of the packet in which a unit begins
    abbrev moments_of : ℕ → ℕ → ℕ → ℕ
    moments_of k pid n = (arrival_at (arrivals pid sent) (packet_of_place (packets_sent pid sent) ((found k pid).begin n))).moment

    begin_there : (k pid n m : ℕ) → IsIn (packets_sent pid sent) m ((found k pid).begin n) → (arrival_at (arrivals pid sent) m).moment ≡ moments_of k pid n
    begin_there k pid n m here = sym (ap (λ (i : ℕ). (arrival_at (arrivals pid sent) i).moment) (packet_is (packets_sent pid sent) m ((found k pid).begin n) here))

    its_carries : (k pid : ℕ) → IsPidOf plan k pid → CarriesWith (kind_at plan k) k pid (found k pid).first (λ n. moments_of k pid n) ((found k pid).frames (λ n. moments_of k pid n))
    its_carries k pid own = (found k pid).carries own (λ n. moments_of k pid n) (λ n m less here. sym (begin_there k pid n m here))

    carries : Carries plan sent (datagrams_on plan datagrams)
    carries = record {
      on_pids = λ k known. kind_is (kinds plan) k built (omega (arith, known, length-map plan.services (λ (service : ServiceFields). service.kind)));
      units = λ k pid. flat_map (units_on k pid) (versions plan);
      begin = λ k pid. (found k pid).begin;
      moments = λ k pid n. moments_of k pid n;
      before = λ k pid. (found k pid).first;
      packetized = λ k pid own. (found k pid).packetizes own;
      begun = λ k pid n m own less here. begin_there k pid n m here;
      carried = λ k pid own. (its_carries k pid own).carried;
    }

    -- The frames of a service over all its PIDs.

    abbrev frames_of : ℕ → ℕ → List (List TimedSection)
    frames_of k pid = (found k pid).frames (λ n. moments_of k pid n)

    module _ (k own rows columns : ℕ) (known : k < length plan.services) where
      times_there : (window : Option WindowFields) → kind_at plan k ≡ fec own rows columns window → (pid : ℕ) → Member (pids_in plan k) pid
          → HaveTimes (fec own rows columns window) k pid (map times_of (frames_of k pid))
      times_there window is pid there =
          subst (λ (of : KindFields). HaveTimes of k pid (map times_of (frames_of k pid))) is
          (its_carries k pid (record { service = known; own = contains_member (pids_in plan k) pid there })).times

      over_pids : (window : Option WindowFields) → kind_at plan k ≡ fec own rows columns window → TimesOfService plan.recording (is_some window) (pids_in plan k) (frames_of k)
      over_pids None is = record {
        timed = indexed_over (count_in k rows) (length plan.changes + 1) (pids_in plan k)
            (λ pid. flat_map (λ v. cond (has_pid (pid_in plan v k) pid) (numbers_in (count_in k rows) v) []) (versions plan)) (λ pid. map times_of (frames_of k pid))
            (items_have_all plan (numbers_in (count_in k rows)) k own whole known (ap pid_of is)) (times_there None is);
        last = λ e. absurd (cc (e));
      }
      over_pids (Some window) is =
          sliced_over_pids k known own lawful packetized carry frames_carry whole of_bytes built taken each (fit k) fec_units reads are_sent section_lawful own rows columns window is
          (frames_of k) (times_there (Some window) is)

    timed_over_pids : AreTimedOverPids plan sent (datagrams_on plan datagrams) carries
    unfolding carries
    timed_over_pids = record {
      frames = frames_of;
      frames_are = λ k pid own. (its_carries k pid own).frames_are;
      times = λ k own rows columns window known is. over_pids k own rows columns known window is;
    }

    -- one unit for each datagram, where each has its own; and frames are timed over all PIDs of a service
    pub carries_one_each : (it : Carries plan sent (datagrams_on plan datagrams))
        × ((k pid : ℕ) → is_single (kind_at plan k) ≡ true → it.units k pid
        ≡ map (unit_of (kind_at plan k) (get_or (map (λ (service : ServiceFields). service.unicast) plan.services) k [])) (datagrams_on plan datagrams k pid))
        × AreTimedOverPids plan sent (datagrams_on plan datagrams) it
    unfolding carries
    carries_one_each = (carries, units_are, timed_over_pids)
