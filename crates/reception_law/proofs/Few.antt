-- How many events there are at most: 189 a packet, so that counters of 64 bits hold those of 2^32 records on 32 PIDs.
use Rattle.std.proofs.Common.{◌≡◌, ◌⊎◌, inl, inr, ℕ, zero, suc, ◌+◌, ◌*◌, ◌^◌, ◌≤◌, Bool, true, false, cond, ◌&&◌, ◌||◌, get_or, nat_lt, nat_le, List, [], ◌∷◌, ◌++◌, length, drop, map, flat_map, fold, option_to_list, refl, ap, sym, subst, arith, length-append, length-drop, Option, None, Some}
use Rattle.std.specs.Prelude.{count_by, sum_by, is_some, is_none}
use Rattle.std.specs.List.{list_any, range_with_len}
use Rattle.std.proofs.lemmas.List.FromFn.{length-range_with_len}
use Rattle.std.proofs.lemmas.List.{length-map}
use Rattle.std.proofs.lemmas.List.Sums.{count_by-le-length, sum_by-cons}
use Rattle.ts_spec.specs.Form.{UnitForm, Span, more, stuffing, whole, bad}
use Rattle.ts_spec.specs.Packet.{PacketFields, fields_of, is_packet, payload_start, pointer, pointer_fits}
use Rattle.ts_spec.specs.Recording.{RecordingForm, Record}
use Rattle.ts_spec.specs.Received.{Arrival, packet_of, is_of, arrival_of, arrivals_from, arrivals, repeats, received_after, received_packets}
use Rattle.ts_spec.specs.Reassembly.{Outcome, candidate, bad_length, delimit, no_outcome, outcome_of, bytes_from, starts_behind, starts_within, unit_starts}
use Rattle.ts_spec.specs.Events.{Event, unit_event, bad_check_event, delimit_event, bad_length_event, event_by, event_at, misfit_events, packet_events, events_of}
use Rattle.ts_spec.specs.Packet.{continues}
use Rattle.ts_spec.specs.Reassembly.{PlacedUnit, accepted_units}
use Rattle.section_spec.specs.Section.{section_form}
use Rattle.section_spec.specs.Mpe.{MpeFields}
use Rattle.wire_spec.specs.Datagram.{front_length}
use Rattle.slice_spec.specs.Sections.{Timing}
use Rattle.fec_frame_spec.specs.Sections.{FrameSection, TimedSection, ends_frame, data_of, sections_of, frame_sections_in, timed_section, sections_of_unit, frame_sections}
use Rattle.fec_frame_spec.specs.Groups.{timing_in, is_cut, frames_from, received_frames, closed_frames}
use Rattle.fec_frame_spec.specs.Known.{known_byte}
use Rattle.fec_frame_spec.specs.Corrected.{corrected_row, corrected_byte, lacks_data, mended_rows, left_rows}
use Rattle.fec_frame_spec.specs.Starts.{known_run, is_first_start, tells_end, starts_below, front_datagram, datagram_from}
use Rattle.fec_frame_spec.specs.Delivered.{frame_datagrams, datagrams_of_frames}
use Rattle.fec_frame_law.proofs.Units.{one_section}
use Rattle.reassembly_law.specs.UnderWay.{unit_of_event}
use Rattle.plan_spec.specs.Plan.{KindFields, ule, mpe, fec, gse, ServiceFields, PlanFields, pid_of}
use Rattle.plan_spec.specs.Changes.{no_service, pids_in}
use Rattle.stream_spec.specs.Services.{carried_by_unit, form_of_kind}
use Rattle.reception_spec.specs.Units.{wants_unit, is_unread, is_filtered, delivered_by_unit}
use Rattle.reception_spec.specs.Numbers.{gaps_behind, gaps_in, is_unit, is_bad_check, is_delimit, is_bad_length, PidNumbers, no_numbers, UnitNumbers, numbers_if_on, units_on, units_of}
use Rattle.reception_spec.specs.Spans.{span_from, span_of}
use Rattle.reception_spec.specs.Frames.{frames_received, told_frames, rows_of, FrameNumbers, no_frames, sum_of_frames}
use Rattle.reception_spec.specs.Delivered.{service_on, takes_no_more}
use Rattle.reception_spec.specs.Sums.{sum_of_numbers, numbers_on, numbers_of, unit_numbers_of, frame_numbers_on, frame_numbers_of, told_frame_numbers}
use Rattle.reception_law.specs.Sums.{no_units, sum_of_units, unit_numbers_on, other_pids, numbers_before, unit_numbers_before, frame_numbers_before, AreAtMost, UnitsAreAtMost, FramesAreAtMost}
use Rattle.reception_law.proofs.Fronts.{units_in, units_are}
use Rattle.reception_law.proofs.OtherPid.{pid_or_none, rows_stay}
use Rattle.reception_law.proofs.Lists.{but}
use Rattle.reception_law.proofs.Pids.{few}
use Rattle.reception_law.proofs.Sums.{first_and_rest, numbers_sum, units_sum, frames_sum, units_by_pids}

module _ (form : UnitForm) where
  few_starts : (most place : ℕ) (bytes : List ℕ) → length (starts_within form most place bytes) ≤ most
  few_starts zero place bytes = omega arith
  few_starts (suc most) place bytes = by_room (nat_lt (length bytes) form.start) (λ place2 bytes2. few_starts most place2 bytes2)
    where
      Later : Type 0
      Later = (place2 : ℕ) (bytes2 : List ℕ) → length (starts_within form most place2 bytes2) ≤ most

      by_fit : (n : ℕ) (b : Bool) → Later → length (place ∷ (cond {A = List ℕ} b (starts_within form most (place + n) (drop n bytes)) [])) ≤ suc most
      by_fit n true later = omega (arith, later (place + n) (drop n bytes))
      by_fit n false later = omega arith

      by_span : (span : Span) → Later → length (starts_behind place bytes (length bytes) span (starts_within form most)) ≤ suc most
      by_span more later = omega arith
      by_span stuffing later = omega arith
      by_span bad later = omega arith
      by_span (whole n) later = by_fit n (nat_le n (length bytes)) later

      by_room : (b : Bool) → Later → length (cond {A = List ℕ} b [] (starts_behind place bytes (length bytes) (form.span bytes) (starts_within form most))) ≤ suc most
      by_room true later = omega arith
      by_room false later = by_span (form.span bytes) later

  few_by_outcome : (moment : ℕ) (told : Outcome) → length (event_by form moment told) ≤ 1
  few_by_outcome moment (candidate unit) = omega arith
  few_by_outcome moment bad_length = omega arith
  few_by_outcome moment delimit = omega arith
  few_by_outcome moment no_outcome = omega arith

  few_of_starts : (arrival : Arrival) (behind : List Arrival) (starts : List ℕ) → length (flat_map (event_at form arrival behind) starts) ≤ length starts
  few_of_starts arrival behind [] = omega arith
  few_of_starts arrival behind (start ∷ starts) =
      omega (
        arith,
        few_by_outcome arrival.moment (outcome_of form (bytes_from start (packet_of arrival) behind)),
        few_of_starts arrival behind starts,
        length-append (event_at form arrival behind start) (flat_map (event_at form arrival behind) starts),
      )

  few_unit_starts : (packet : PacketFields) → length (unit_starts form packet) ≤ length packet.payload
  few_unit_starts packet = by_test (packet.starts && pointer_fits packet)
    where
      by_test : (b : Bool) → length (cond {A = List ℕ} b (starts_within form (length packet.payload) (1 + pointer packet) (drop (1 + pointer packet) packet.payload)) []) ≤ length packet.payload
      by_test true = few_starts (length packet.payload) (1 + pointer packet) (drop (1 + pointer packet) packet.payload)
      by_test false = omega arith

  few_misfits : (b : Bool) → length (cond {A = List Event} b (delimit_event ∷ []) []) ≤ 1
  few_misfits true = omega arith
  few_misfits false = omega arith

  few_of_packet : (arrival : Arrival) (behind : List Arrival) → length (packet_events form arrival behind) ≤ 1 + length (packet_of arrival).payload
  few_of_packet arrival behind =
      let started : List Event = flat_map (event_at form arrival behind) (unit_starts form (packet_of arrival)) in
      let misfit : length (misfit_events (packet_of arrival)) ≤ 1 = few_misfits _ in
      omega (arith, misfit, few_of_starts arrival behind (unit_starts form (packet_of arrival)), few_unit_starts (packet_of arrival), length-append (misfit_events (packet_of arrival)) started)

  -- packets have 188 bytes
  abbrev AllShort : List Arrival → Type 0
  AllShort [] = Unit {0}
  AllShort (arrival ∷ behind) = (length (packet_of arrival).payload ≤ 188) × AllShort behind

  few_events : (packets : List Arrival) → AllShort packets → length (events_of form packets) ≤ 189 * length packets
  few_events [] short = omega arith
  few_events (arrival ∷ behind) short =
      omega (arith, few_of_packet arrival behind, few_events behind short.1, short.0, length-append (packet_events form arrival behind) (events_of form behind))

  short_packet : (pid : ℕ) (bytes : List ℕ) → is_of pid bytes ≡ true → length (fields_of bytes).payload ≤ 188
  unfolding is_packet fields_of
  short_packet pid bytes of_pid =
      let size : length bytes ≡ 188 = grind (arith, of_pid) in
      omega (arith, length-drop (payload_start bytes) bytes, size)

  short_arrival : (pid place : ℕ) (moment : Option ℕ) (bytes : List ℕ) → AllShort (arrival_of pid place moment bytes)
  short_arrival pid place None bytes = tt
  short_arrival pid place (Some m) bytes = by_test (is_of pid bytes) refl
    where
      by_test : (b : Bool) → is_of pid bytes ≡ b → AllShort (cond {A = List Arrival} b (record { place = place; moment = m; bytes = bytes } ∷ []) [])
      by_test true e = (short_packet pid bytes e, tt)
      by_test false e = tt

  short_append : (xs ys : List Arrival) → AllShort xs → AllShort ys → AllShort (xs ++ ys)
  short_append [] ys one two = two
  short_append (x ∷ xs) ys one two = (one.0, short_append xs ys one.1 two)

  short_arrivals : (pid place : ℕ) (records : List Record) → AllShort (arrivals_from pid place records)
  short_arrivals pid place [] = tt
  short_arrivals pid place (r ∷ records) = short_append (arrival_of pid place r.moment r.bytes) (arrivals_from pid (place + 1) records) (short_arrival pid place r.moment r.bytes) (short_arrivals pid (place + 1) records)

  short_received : (before : Option (List ℕ)) (packets : List Arrival) → AllShort packets → AllShort (received_after before packets)
  short_received before [] short = tt
  short_received before (arrival ∷ behind) short = by_test (repeats before arrival.bytes) (short_received (Some arrival.bytes) behind short.1)
    where
      by_test : (b : Bool) → AllShort (received_after (Some arrival.bytes) behind) → AllShort (cond {A = List Arrival} b [] (arrival ∷ []) ++ received_after (Some arrival.bytes) behind)
      by_test true rest = rest
      by_test false rest = (short.0, rest)

-- received packets are packets that arrived
pub few_received : (before : Option (List ℕ)) (packets : List Arrival) → length (received_after before packets) ≤ length packets
few_received before [] = omega arith
few_received before (arrival ∷ behind) = by_test (repeats before arrival.bytes) (few_received (Some arrival.bytes) behind)
  where
    by_test : (b : Bool) → length (received_after (Some arrival.bytes) behind) ≤ length behind → length (cond {A = List Arrival} b [] (arrival ∷ []) ++ received_after (Some arrival.bytes) behind) ≤ suc (length behind)
    by_test true later = omega (arith, later)
    by_test false later = omega (arith, later)

few_by_record : (pid place : ℕ) (moment : Option ℕ) (bytes : List ℕ) → length (arrival_of pid place moment bytes) ≤ 1
few_by_record pid place None bytes = omega arith
few_by_record pid place (Some m) bytes = by_test (is_of pid bytes)
  where
    by_test : (b : Bool) → length (cond {A = List Arrival} b (record { place = place; moment = m; bytes = bytes } ∷ []) []) ≤ 1
    by_test true = omega arith
    by_test false = omega arith

few_from : (pid place : ℕ) (records : List Record) → length (arrivals_from pid place records) ≤ length records
few_from pid place [] = omega arith
few_from pid place (r ∷ records) =
    omega (arith, few_by_record pid place r.moment r.bytes, few_from pid (place + 1) records, length-append (arrival_of pid place r.moment r.bytes) (arrivals_from pid (place + 1) records))

pub few_arrivals : (pid : ℕ) (records : List Record) → length (arrivals pid records) ≤ length records
few_arrivals pid records = few_from pid 0 records

-- the events of a PID
pub few_in_all : (form : UnitForm) (pid : ℕ) (records : List Record) → length (events_of form (received_packets pid records)) ≤ 189 * length records
few_in_all form pid records =
    omega (
      arith,
      few_events form (received_packets pid records) (short_received form None (arrivals pid records) (short_arrivals form pid 0 records)),
      few_received None (arrivals pid records),
      few_arrivals pid records,
    )

-- The numbers of one PID.

few_gaps_behind : (before : PacketFields) (packets : List Arrival) → gaps_behind before packets ≤ length packets
few_gaps_behind before [] = omega arith
few_gaps_behind before (arrival ∷ packets) = by_test (continues before (packet_of arrival)) (few_gaps_behind (packet_of arrival) packets)
  where
    by_test : (b : Bool) → gaps_behind (packet_of arrival) packets ≤ length packets → cond b 0 1 + gaps_behind (packet_of arrival) packets ≤ suc (length packets)
    by_test true later = omega (arith, later)
    by_test false later = omega (arith, later)

few_gaps : (packets : List Arrival) → gaps_in packets ≤ length packets
few_gaps [] = omega arith
few_gaps (arrival ∷ packets) = omega (arith, few_gaps_behind (packet_of arrival) packets)

few_on : (form : UnitForm) (on : Option ℕ) (pid : ℕ) → (on ≡ Some pid) ⊎ (on ≡ None) → (records : List Record) → AreAtMost (189 * length records) (numbers_if_on form on records)
few_on form on pid (inl is) records = subst (λ (o : Option ℕ). AreAtMost (189 * length records) (numbers_if_on form o records)) (sym is) few_of_pid
  where
    received : length (received_packets pid records) ≤ length records
    received = omega (arith, few_received None (arrivals pid records), few_arrivals pid records)

    counted : (p : Event → Bool) → count_by p (events_of form (received_packets pid records)) ≤ 189 * length records
    counted p = omega (arith, count_by-le-length p (events_of form (received_packets pid records)), few_in_all form pid records)

    few_of_pid : AreAtMost (189 * length records) (numbers_if_on form (Some pid) records)
    few_of_pid = record {
      heard = omega (arith, received);
      repeats = omega (arith, few_arrivals pid records);
      gaps = omega (arith, few_gaps (received_packets pid records), received);
      units = counted is_unit;
      bad_check = counted is_bad_check;
      delimited = counted is_delimit;
      bad_length = counted is_bad_length;
    }
few_on form on pid (inr is) records = subst (λ (o : Option ℕ). AreAtMost (189 * length records) (numbers_if_on form o records)) (sym is) none_of_none
  where
    none_of_none : AreAtMost (189 * length records) no_numbers
    none_of_none = record {
      heard = omega arith;
      repeats = omega arith;
      gaps = omega arith;
      units = omega arith;
      bad_check = omega arith;
      delimited = omega arith;
      bad_length = omega arith;
    }

from_size : (plan : PlanFields) (all : List Record) (k pid place : ℕ) (records : List Record) → length (span_from plan all k pid place records) ≡ length records
from_size plan all k pid place [] = refl
from_size plan all k pid place (r ∷ records) = ap suc (from_size plan all k pid (place + 1) records)

pub few_numbers : (plan : PlanFields) (k pid : ℕ) (records : List Record) → AreAtMost (189 * length records) (numbers_on plan k records pid)
few_numbers plan k pid records =
    subst (λ (n : ℕ). AreAtMost (189 * n) (numbers_on plan k records pid)) (from_size plan records k pid 0 records)
    (few_on (form_of_kind (service_on plan k pid).kind) (pid_of (service_on plan k pid).kind) pid (pid_or_none _ pid) (span_of plan k pid records))

-- The numbers of its units.

few_by_event : (event : Event) → length (unit_of_event event) ≤ 1
few_by_event (unit_event moment unit) = omega arith
few_by_event bad_check_event = omega arith
few_by_event delimit_event = omega arith
few_by_event bad_length_event = omega arith

few_by_events : (events : List Event) → length (flat_map unit_of_event events) ≤ length events
few_by_events [] = omega arith
few_by_events (event ∷ events) = omega (arith, few_by_event event, few_by_events events, length-append (unit_of_event event) (flat_map unit_of_event events))

few_units_in : (events : List Event) → length (units_in events) ≤ length events
few_units_in events = omega (arith, few_by_events events, length-map (flat_map unit_of_event events) (λ (timed : ℕ × List ℕ). timed.1))

few_units : (form : UnitForm) (on : Option ℕ) (pid : ℕ) → (on ≡ Some pid) ⊎ (on ≡ None) → (records : List Record) → length (units_on form on records) ≤ 189 * length records
few_units form on pid (inl is) records =
    omega (
      arith,
      ap (λ (o : Option ℕ). length (units_on form o records)) is,
      ap (λ (t : List (List ℕ)). length t) (units_are form pid records),
      few_units_in (events_of form (received_packets pid records)),
      few_in_all form pid records,
    )
few_units form on pid (inr is) records = omega (arith, ap (λ (o : Option ℕ). length (units_on form o records)) is)

few_of_option : {X : Type 0} (o : Option X) → length (option_to_list o) ≤ 1
few_of_option None = omega arith
few_of_option (Some x) = omega arith

few_carried : (kind : KindFields) (unit : List ℕ) → length (carried_by_unit kind unit) ≤ 1
few_carried (ule pid address packing) unit = few_of_option _
few_carried (mpe pid) unit = few_of_option _
few_carried (fec pid rows parity window) unit = omega arith
few_carried (gse isi address) unit = omega arith

few_delivered_by : (it : ServiceFields) (unit : List ℕ) → length (delivered_by_unit it unit) ≤ 1
few_delivered_by it unit = by_test (wants_unit it unit)
  where
    by_test : (b : Bool) → length (cond {A = List (List ℕ)} b (carried_by_unit it.kind unit) []) ≤ 1
    by_test true = few_carried it.kind unit
    by_test false = omega arith

few_delivered : (it : ServiceFields) (units : List (List ℕ)) → length (flat_map (delivered_by_unit it) units) ≤ length units
few_delivered it [] = omega arith
few_delivered it (unit ∷ units) =
    omega (arith, few_delivered_by it unit, few_delivered it units, length-append (delivered_by_unit it unit) (flat_map (delivered_by_unit it) units))

pub few_unit_numbers : (plan : PlanFields) (k pid : ℕ) (records : List Record) → UnitsAreAtMost (189 * length records) (unit_numbers_on plan k records pid)
few_unit_numbers plan k pid records = record {
  unread = omega (arith, count_by-le-length (is_unread it) units, few);
  filtered = omega (arith, count_by-le-length (is_filtered it) units, few);
  datagrams = omega (arith, few_delivered it units, few);
}
  where
    it : ServiceFields
    it = service_on plan k pid

    units : List (List ℕ)
    units = units_of (service_on plan k pid) (span_of plan k pid records)

    few : length (units_of (service_on plan k pid) (span_of plan k pid records)) ≤ 189 * length records
    few =
        omega (
          arith,
          few_units (form_of_kind (service_on plan k pid).kind) (pid_of (service_on plan k pid).kind) pid (pid_or_none _ pid) (span_of plan k pid records),
          from_size plan records k pid 0 records,
        )

-- The numbers of its frames.

few_from_group : (timing : Timing) (rows : ℕ) (group sections : List TimedSection) → length (frames_from timing rows group sections) ≤ suc (length sections)
few_from_group timing rows group [] = omega arith
few_from_group timing rows group (x ∷ sections) =
    by_cut (is_cut timing rows group x) (few_from_group timing rows (x ∷ []) sections) (few_from_group timing rows (group ++ x ∷ []) sections)
  where
    by_cut : (b : Bool) → length (frames_from timing rows (x ∷ []) sections) ≤ suc (length sections) → length (frames_from timing rows (group ++ x ∷ []) sections) ≤ suc (length sections)
        → length (cond {A = List (List TimedSection)} b (group ∷ frames_from timing rows (x ∷ []) sections) (frames_from timing rows (group ++ x ∷ []) sections)) ≤ suc (suc (length sections))
    by_cut true next same = omega (arith, next)
    by_cut false next same = omega (arith, same)

few_of_sections : (timing : Timing) (rows : ℕ) (sections : List TimedSection) → length (received_frames timing rows sections) ≤ length sections
few_of_sections timing rows [] = omega arith
few_of_sections timing rows (x ∷ sections) = few_from_group timing rows (x ∷ []) sections

few_closed : (ended : Bool) (frames : List (List TimedSection)) → length (closed_frames ended frames) ≤ length frames
few_closed ended [] = omega arith
few_closed ended (group ∷ []) = by_test (ended || list_any ends_frame (sections_of group))
  where
    by_test : (b : Bool) → length (cond {A = List (List TimedSection)} b (group ∷ []) []) ≤ 1
    by_test true = omega arith
    by_test false = omega arith
few_closed ended (group ∷ next ∷ others) = omega (arith, few_closed ended (next ∷ others))

few_of_unit : (rows : ℕ) (accepted : PlacedUnit) → length (sections_of_unit rows accepted) ≤ 1
few_of_unit rows accepted = by_one (frame_sections_in rows accepted.unit) (one_section rows accepted.unit)
  where
    by_one : (xs : List FrameSection) → (xs ≡ []) ⊎ ((s : FrameSection) × (xs ≡ s ∷ [])) → length (map (timed_section accepted.moment) xs) ≤ 1
    by_one xs (inl none) = omega (arith, length-map xs (timed_section accepted.moment), ap (λ (l : List FrameSection). length l) none)
    by_one xs (inr one) = omega (arith, length-map xs (timed_section accepted.moment), ap (λ (l : List FrameSection). length l) one.1)

few_of_units : (rows : ℕ) (accepted : List PlacedUnit) → length (flat_map (sections_of_unit rows) accepted) ≤ length accepted
few_of_units rows [] = omega arith
few_of_units rows (x ∷ accepted) =
    omega (arith, few_of_unit rows x, few_of_units rows accepted, length-append (sections_of_unit rows x) (flat_map (sections_of_unit rows) accepted))

few_frame_sections : (rows pid : ℕ) (records : List Record) → length (frame_sections rows pid records) ≤ 189 * length records
few_frame_sections rows pid records =
    omega (
      arith,
      few_of_units rows (accepted_units section_form pid records),
      few_units section_form (Some pid) pid (inl refl) records,
      length-map (accepted_units section_form pid records) (λ (x : PlacedUnit). x.unit),
    )

few_frames : (form : RecordingForm) (kind : KindFields) (records : List Record) → length (frames_received form kind records) ≤ 189 * length records
few_frames form (ule pid address packing) records = omega arith
few_frames form (mpe pid) records = omega arith
few_frames form (fec pid rows parity window) records =
    omega (
      arith,
      few_of_sections (timing_in form (is_some window)) rows (frame_sections rows pid records),
      few_frame_sections rows pid records,
    )
few_frames form (gse isi address) records = omega arith

-- a frame has that many rows, and a datagram at each place at most
few_in_range : (p : ℕ → Bool) (rows : ℕ) → count_by p (range_with_len 0 rows) ≤ rows
few_in_range p rows = omega (arith, count_by-le-length p (range_with_len 0 rows), length-range_with_len 0 rows)

few_places : (rows : ℕ) (bytes : ℕ → Option ℕ) (sections : List MpeFields) (n : ℕ) → length (starts_below rows bytes sections n) ≤ n
unfolding starts_below
few_places rows bytes sections zero = omega arith
few_places rows bytes sections (suc n) =
    by_test (is_first_start sections n || list_any (tells_end rows bytes n) (starts_below rows bytes sections n)) (few_places rows bytes sections n)
  where
    by_test : (b : Bool) → length (starts_below rows bytes sections n) ≤ n → length (starts_below rows bytes sections n ++ cond {A = List ℕ} b (n ∷ []) []) ≤ suc n
    by_test true later = omega (arith, later, length-append (starts_below rows bytes sections n) (n ∷ []))
    by_test false later = omega (arith, later, length-append (starts_below rows bytes sections n) [])

few_at_front : (run : List ℕ) (o : Option ℕ) → length (front_datagram run o) ≤ 1
few_at_front run None = omega arith
few_at_front run (Some n) = omega arith

few_at_places : (rows : ℕ) (bytes : ℕ → Option ℕ) (places : List ℕ) → length (flat_map (datagram_from rows bytes) places) ≤ length places
few_at_places rows bytes [] = omega arith
few_at_places rows bytes (place ∷ places) =
    omega (
      arith,
      few_at_front (known_run rows bytes place) (front_length (known_run rows bytes place)),
      few_at_places rows bytes places,
      length-append (datagram_from rows bytes place) (flat_map (datagram_from rows bytes) places),
    )

few_in_frame : (rows : ℕ) (sections : List FrameSection) → rows ≤ 1024 → length (frame_datagrams rows sections) ≤ 195585
few_in_frame rows sections least =
    omega (
      arith,
      least,
      few_at_places rows (corrected_byte rows (known_byte rows sections)) (starts_below rows (corrected_byte rows (known_byte rows sections)) (data_of sections) (191 * rows + 1)),
      few_places rows (corrected_byte rows (known_byte rows sections)) (data_of sections) (191 * rows + 1),
    )

few_in_frames : (rows : ℕ) → rows ≤ 1024 → (frames : List (List TimedSection)) → length (datagrams_of_frames rows frames) ≤ 195585 * length frames
few_in_frames rows least [] = omega arith
few_in_frames rows least (group ∷ frames) =
    omega (
      arith,
      few_in_frame rows (sections_of group) least,
      few_in_frames rows least frames,
      length-append (frame_datagrams rows (sections_of group)) (datagrams_of_frames rows frames),
    )

few_by : (f : List TimedSection → ℕ) → ((group : List TimedSection) → f group ≤ 195585) → (frames : List (List TimedSection)) → sum_by f frames ≤ 195585 * length frames
few_by f each [] = omega arith
few_by f each (group ∷ frames) = omega (arith, each group, few_by f each frames, sum_by-cons f group frames)

pub few_frame_numbers : (ended : Bool) (plan : PlanFields) (k pid : ℕ) (records : List Record) → rows_of (get_or plan.services k no_service).kind ≤ 1024
    → FramesAreAtMost (36965565 * length records) (frame_numbers_on ended plan k records pid)
few_frame_numbers ended plan k pid records least = record {
  frames = omega (arith, few);
  rows_mended = omega (
    arith,
    few,
    few_by (λ (frame : List TimedSection). mended_rows rows (known_byte rows (sections_of frame)))
        (λ group. omega (arith, few_rows, few_in_range (λ r. lacks_data rows (known_byte rows (sections_of group)) r && is_some (corrected_row rows (known_byte rows (sections_of group)) r)) rows))
        frames,
  );
  rows_left = omega (
    arith,
    few,
    few_by (λ (frame : List TimedSection). left_rows rows (known_byte rows (sections_of frame)))
        (λ group. omega (arith, few_rows, few_in_range (λ r. lacks_data rows (known_byte rows (sections_of group)) r && is_none (corrected_row rows (known_byte rows (sections_of group)) r)) rows))
        frames,
  );
  datagrams = omega (arith, few, few_in_frames rows few_rows frames);
}
  where
    rows : ℕ
    rows = rows_of (service_on plan k pid).kind

    few_rows : rows_of (service_on plan k pid).kind ≤ 1024
    few_rows = omega (arith, least, rows_stay (get_or plan.services k no_service).kind pid)

    frames : List (List TimedSection)
    frames = told_frames ended plan.recording (service_on plan k pid).kind (span_of plan k pid records)

    few : length (told_frames ended plan.recording (service_on plan k pid).kind (span_of plan k pid records)) ≤ 189 * length records
    few =
        omega (
          arith,
          few_closed ended (frames_received plan.recording (service_on plan k pid).kind (span_of plan k pid records)),
          few_frames plan.recording (service_on plan k pid).kind (span_of plan k pid records),
          from_size plan records k pid 0 records,
        )

-- Sums over PIDs.

more_at_most : (some most : ℕ) (a b : PidNumbers) → AreAtMost some a → AreAtMost most b → AreAtMost (some + most) (sum_of_numbers a b)
more_at_most some most a b one two = record {
  heard = omega (arith, one.heard, two.heard);
  repeats = omega (arith, one.repeats, two.repeats);
  gaps = omega (arith, one.gaps, two.gaps);
  units = omega (arith, one.units, two.units);
  bad_check = omega (arith, one.bad_check, two.bad_check);
  delimited = omega (arith, one.delimited, two.delimited);
  bad_length = omega (arith, one.bad_length, two.bad_length);
}

none_at_most : (most : ℕ) → AreAtMost most no_numbers
none_at_most most = record {
  heard = omega arith;
  repeats = omega arith;
  gaps = omega arith;
  units = omega arith;
  bad_check = omega arith;
  delimited = omega arith;
  bad_length = omega arith;
}

below_more : (some most : ℕ) (a : PidNumbers) → some ≤ most → AreAtMost some a → AreAtMost most a
below_more some most a less one = record {
  heard = omega (arith, one.heard, less);
  repeats = omega (arith, one.repeats, less);
  gaps = omega (arith, one.gaps, less);
  units = omega (arith, one.units, less);
  bad_check = omega (arith, one.bad_check, less);
  delimited = omega (arith, one.delimited, less);
  bad_length = omega (arith, one.bad_length, less);
}

units_more_at_most : (some most : ℕ) (a b : UnitNumbers) → UnitsAreAtMost some a → UnitsAreAtMost most b → UnitsAreAtMost (some + most) (sum_of_units a b)
units_more_at_most some most a b one two = record {
  unread = omega (arith, one.unread, two.unread);
  filtered = omega (arith, one.filtered, two.filtered);
  datagrams = omega (arith, one.datagrams, two.datagrams);
}

units_below_more : (some most : ℕ) (a : UnitNumbers) → some ≤ most → UnitsAreAtMost some a → UnitsAreAtMost most a
units_below_more some most a less one = record {
  unread = omega (arith, one.unread, less);
  filtered = omega (arith, one.filtered, less);
  datagrams = omega (arith, one.datagrams, less);
}

-- 189 for each of 2^32 records, on each PID
abbrev most_on : ℕ → ℕ
most_on pids = 811748818944 * pids

sum_at_most : (f : ℕ → PidNumbers) → ((pid : ℕ) → AreAtMost 811748818944 (f pid)) → (pids : List ℕ) → AreAtMost (most_on (length pids)) (fold sum_of_numbers no_numbers (map f pids))
sum_at_most f each [] = none_at_most _
sum_at_most f each (pid ∷ pids) =
    subst (AreAtMost (most_on (length (pid ∷ pids)))) (sym (first_and_rest sum_of_numbers no_numbers numbers_sum (f pid) (map f pids)))
    (below_more (811748818944 + most_on (length pids)) (most_on (suc (length pids))) (sum_of_numbers (f pid) (fold sum_of_numbers no_numbers (map f pids))) (omega arith)
    (more_at_most 811748818944 (most_on (length pids)) (f pid) (fold sum_of_numbers no_numbers (map f pids)) (each pid) (sum_at_most f each pids)))

units_sum_at_most : (f : ℕ → UnitNumbers) → ((pid : ℕ) → UnitsAreAtMost 811748818944 (f pid)) → (pids : List ℕ) → UnitsAreAtMost (most_on (length pids)) (fold sum_of_units no_units (map f pids))
units_sum_at_most f each [] = record { unread = omega arith; filtered = omega arith; datagrams = omega arith }
units_sum_at_most f each (pid ∷ pids) =
    subst (UnitsAreAtMost (most_on (length (pid ∷ pids)))) (sym (first_and_rest sum_of_units no_units units_sum (f pid) (map f pids)))
    (units_below_more (811748818944 + most_on (length pids)) (most_on (suc (length pids))) (sum_of_units (f pid) (fold sum_of_units no_units (map f pids))) (omega arith)
    (units_more_at_most 811748818944 (most_on (length pids)) (f pid) (fold sum_of_units no_units (map f pids)) (each pid) (units_sum_at_most f each pids)))

frames_more_at_most : (some most : ℕ) (a b : FrameNumbers) → FramesAreAtMost some a → FramesAreAtMost most b → FramesAreAtMost (some + most) (sum_of_frames a b)
frames_more_at_most some most a b one two = record {
  frames = omega (arith, one.frames, two.frames);
  rows_mended = omega (arith, one.rows_mended, two.rows_mended);
  rows_left = omega (arith, one.rows_left, two.rows_left);
  datagrams = omega (arith, one.datagrams, two.datagrams);
}

frames_below_more : (some most : ℕ) (a : FrameNumbers) → some ≤ most → FramesAreAtMost some a → FramesAreAtMost most a
frames_below_more some most a less one = record {
  frames = omega (arith, one.frames, less);
  rows_mended = omega (arith, one.rows_mended, less);
  rows_left = omega (arith, one.rows_left, less);
  datagrams = omega (arith, one.datagrams, less);
}

-- 36,965,565 for each of 2^32 records, on each PID
abbrev most_frames_on : ℕ → ℕ
most_frames_on pids = 158765892753162240 * pids

frames_sum_at_most : (f : ℕ → FrameNumbers) → ((pid : ℕ) → FramesAreAtMost 158765892753162240 (f pid)) → (pids : List ℕ)
    → FramesAreAtMost (most_frames_on (length pids)) (fold sum_of_frames no_frames (map f pids))
frames_sum_at_most f each [] = record { frames = omega arith; rows_mended = omega arith; rows_left = omega arith; datagrams = omega arith }
frames_sum_at_most f each (pid ∷ pids) =
    subst (FramesAreAtMost (most_frames_on (length (pid ∷ pids)))) (sym (first_and_rest sum_of_frames no_frames frames_sum (f pid) (map f pids)))
    (frames_below_more (158765892753162240 + most_frames_on (length pids)) (most_frames_on (suc (length pids))) (sum_of_frames (f pid) (fold sum_of_frames no_frames (map f pids))) (omega arith)
    (frames_more_at_most 158765892753162240 (most_frames_on (length pids)) (f pid) (fold sum_of_frames no_frames (map f pids)) (each pid) (frames_sum_at_most f each pids)))

few_but : (pid : ℕ) (pids : List ℕ) → length (but pid pids) ≤ length pids
few_but pid [] = omega arith
few_but pid (x ∷ pids) = by_test _ (few_but pid pids)
  where
    by_test : (b : Bool) → length (but pid pids) ≤ length pids → length (cond {A = List ℕ} b (x ∷ but pid pids) (but pid pids)) ≤ suc (length pids)
    by_test true later = omega (arith, later)
    by_test false later = omega (arith, later)

module _ (plan : PlanFields) (k : ℕ) (records : List Record) (few_changes : length plan.changes ≤ 31) (few_records : length records ≤ 2 ^ 32) where
  each : (pid : ℕ) → AreAtMost 811748818944 (numbers_on plan k records pid)
  each pid = below_more (189 * length records) 811748818944 (numbers_on plan k records pid) (omega (arith, few_records)) (few_numbers plan k pid records)

  each_unit : (pid : ℕ) → UnitsAreAtMost 811748818944 (unit_numbers_on plan k records pid)
  each_unit pid = units_below_more (189 * length records) 811748818944 (unit_numbers_on plan k records pid) (omega (arith, few_records)) (few_unit_numbers plan k pid records)

  few_pids : (pids : List ℕ) → length pids ≤ length (pids_in plan k) → most_on (length pids) ≤ 2 ^ 45
  few_pids pids less = omega (arith, less, few plan k, few_changes)

  numbers_few : (pids : List ℕ) → length pids ≤ length (pids_in plan k) → AreAtMost (2 ^ 45) (fold sum_of_numbers no_numbers (map (numbers_on plan k records) pids))
  numbers_few pids less =
      below_more (most_on (length pids)) (2 ^ 45) (fold sum_of_numbers no_numbers (map (numbers_on plan k records) pids)) (few_pids pids less) (sum_at_most (numbers_on plan k records) each pids)

  units_few : (pids : List ℕ) → length pids ≤ length (pids_in plan k) → UnitsAreAtMost (2 ^ 45) (fold sum_of_units no_units (map (unit_numbers_on plan k records) pids))
  units_few pids less =
      units_below_more (most_on (length pids)) (2 ^ 45) (fold sum_of_units no_units (map (unit_numbers_on plan k records) pids)) (few_pids pids less)
      (units_sum_at_most (unit_numbers_on plan k records) each_unit pids)

  module _ (least : rows_of (get_or plan.services k no_service).kind ≤ 1024) (ended : ℕ → Bool) where
    each_frames : (pid : ℕ) → FramesAreAtMost 158765892753162240 (frame_numbers_on (ended pid) plan k records pid)
    each_frames pid =
        frames_below_more (36965565 * length records) 158765892753162240 (frame_numbers_on (ended pid) plan k records pid) (omega (arith, few_records))
        (few_frame_numbers (ended pid) plan k pid records least)

    frames_few : (pids : List ℕ) → length pids ≤ length (pids_in plan k)
        → FramesAreAtMost (2 ^ 63) (fold sum_of_frames no_frames (map (λ pid. frame_numbers_on (ended pid) plan k records pid) pids))
    frames_few pids less =
        frames_below_more (most_frames_on (length pids)) (2 ^ 63) (fold sum_of_frames no_frames (map (λ pid. frame_numbers_on (ended pid) plan k records pid) pids))
        (omega (arith, less, few plan k, few_changes))
        (frames_sum_at_most (λ pid. frame_numbers_on (ended pid) plan k records pid) each_frames pids)

pub few_frames_before : (plan : PlanFields) (k pid : ℕ) (records : List Record) → rows_of (get_or plan.services k no_service).kind ≤ 1024
    → length plan.changes ≤ 31 → length records ≤ 2 ^ 32 → FramesAreAtMost (2 ^ 63) (frame_numbers_before plan k pid records)
few_frames_before plan k pid records least few_changes few_records =
    frames_few plan k records few_changes few_records least (λ x. true) (other_pids plan k pid) (few_but pid (pids_in plan k))

pub few_frames_of_all : (plan : PlanFields) (k : ℕ) (records : List Record) → rows_of (get_or plan.services k no_service).kind ≤ 1024
    → length plan.changes ≤ 31 → length records ≤ 2 ^ 32 → FramesAreAtMost (2 ^ 63) (frame_numbers_of plan k records)
few_frames_of_all plan k records least few_changes few_records = frames_few plan k records few_changes few_records least (λ x. true) (pids_in plan k) (omega arith)

pub few_frames_told : (plan : PlanFields) (k : ℕ) (records : List Record) → rows_of (get_or plan.services k no_service).kind ≤ 1024
    → length plan.changes ≤ 31 → length records ≤ 2 ^ 32 → FramesAreAtMost (2 ^ 63) (told_frame_numbers plan k records)
few_frames_told plan k records least few_changes few_records =
    frames_few plan k records few_changes few_records least (λ x. takes_no_more plan records k x) (pids_in plan k) (omega arith)

pub few_before : (plan : PlanFields) (k pid : ℕ) (records : List Record) → length plan.changes ≤ 31 → length records ≤ 2 ^ 32 → AreAtMost (2 ^ 45) (numbers_before plan k pid records)
few_before plan k pid records few_changes few_records = numbers_few plan k records few_changes few_records (other_pids plan k pid) (few_but pid (pids_in plan k))

pub few_units_before : (plan : PlanFields) (k pid : ℕ) (records : List Record) → length plan.changes ≤ 31 → length records ≤ 2 ^ 32 → UnitsAreAtMost (2 ^ 45) (unit_numbers_before plan k pid records)
few_units_before plan k pid records few_changes few_records = units_few plan k records few_changes few_records (other_pids plan k pid) (few_but pid (pids_in plan k))

pub few_of_all : (plan : PlanFields) (k : ℕ) (records : List Record) → length plan.changes ≤ 31 → length records ≤ 2 ^ 32 → AreAtMost (2 ^ 45) (numbers_of plan k records)
few_of_all plan k records few_changes few_records = numbers_few plan k records few_changes few_records (pids_in plan k) (omega arith)

pub few_units_of_all : (plan : PlanFields) (k : ℕ) (records : List Record) → length plan.changes ≤ 31 → length records ≤ 2 ^ 32 → UnitsAreAtMost (2 ^ 45) (unit_numbers_of plan k records)
few_units_of_all plan k records few_changes few_records =
    subst (UnitsAreAtMost (2 ^ 45)) (sym (units_by_pids plan k records)) (units_few plan k records few_changes few_records (pids_in plan k) (omega arith))
