-- Without time slicing the moments of its packets tell a service nothing: what it receives is as if all stood at moment 0.
use Rattle.std.proofs.Common.{◌≡◌, ℕ, ◌+◌, ◌-◌, Bool, true, false, not, ◌||◌, eqb, cond, Option, Some, None, List, [], ◌∷◌, ◌++◌, drop, length, map, flat_map, refl, ap, ap₂, sym, ◌∙◌}
use Rattle.std.specs.Prelude.{count_by, sum_by, fold, is_some, option_map}
use Rattle.std.specs.List.{list_any}
use Rattle.std.proofs.lemmas.List.{map-append, length-map}
use Rattle.std.proofs.lemmas.List.Folds.{flat_map-map}
use Rattle.ts_spec.specs.Form.{UnitForm}
use Rattle.ts_spec.specs.Packet.{PacketFields, continues}
use Rattle.ts_spec.specs.Recording.{RecordingForm, Record}
use Rattle.ts_spec.specs.Received.{is_of, Arrival, packet_of, arrival_of, arrivals_from, arrivals, repeats, received_after, received_packets}
use Rattle.ts_spec.specs.Reassembly.{Given, given_by, given_behind, ended_by, with_payload, bytes_from, Outcome, candidate, bad_length, delimit, no_outcome, outcome_of, unit_starts, PlacedUnit, accepted_by, accepted_at, accepted_in, accepted_units}
use Rattle.ts_spec.specs.Events.{Event, unit_event, bad_check_event, delimit_event, bad_length_event, event_by, event_at, misfit_events, events_of}
use Rattle.section_spec.specs.Section.{section_form}
use Rattle.slice_spec.specs.Sections.{indexed}
use Rattle.fec_frame_spec.specs.Sections.{FrameSection, real_time_in, ends_frame, TimedSection, sections_of, frame_sections_in, timed_section, sections_of_unit, frame_sections}
use Rattle.fec_frame_spec.specs.Groups.{is_cut_by_table, last_section, is_cut, frames_from, received_frames, closed_frames}
use Rattle.fec_frame_spec.specs.Delivered.{frame_datagrams, datagrams_of_frames}
use Rattle.fec_frame_spec.specs.Known.{known_byte}
use Rattle.fec_frame_spec.specs.Corrected.{mended_rows, left_rows}
use Rattle.plan_spec.specs.Plan.{KindFields, ule, mpe, fec, gse, ServiceFields, pid_of, sliced_of}
use Rattle.stream_spec.specs.Services.{form_of_kind}
use Rattle.reception_spec.specs.Units.{delivered_by_unit}
use Rattle.reception_spec.specs.Numbers.{gaps_behind, gaps_in, is_unit, is_bad_check, is_delimit, is_bad_length, PidNumbers, pid_numbers, numbers_if_on, service_pid_numbers, units_on, units_of}
use Rattle.reception_spec.specs.Frames.{told_frames, rows_of, FrameNumbers, frame_numbers}
use Rattle.reception_spec.specs.Delivered.{told_by}
use Rattle.loss_law.specs.Isolation.{read_of}

-- Packets.

abbrev pub still : Record → Record
still r = read_of false r

abbrev pub stopped : Arrival → Arrival
stopped a = record { place = a.place; moment = 0; bytes = a.bytes }

pub arrivals-still : (pid j : ℕ) (records : List Record) → arrivals_from pid j (map still records) ≡ map stopped (arrivals_from pid j records)
arrivals-still pid j [] = refl
arrivals-still pid j (r ∷ records) = by_moment r.moment (arrivals-still pid (j + 1) records)
  where
    by_test : (time : ℕ) (b : Bool) → arrivals_from pid (j + 1) (map still records) ≡ map stopped (arrivals_from pid (j + 1) records)
        → cond {A = List Arrival} b (record { place = j; moment = 0; bytes = r.bytes } ∷ []) [] ++ arrivals_from pid (j + 1) (map still records)
        ≡ map stopped (cond {A = List Arrival} b (record { place = j; moment = time; bytes = r.bytes } ∷ []) [] ++ arrivals_from pid (j + 1) records)
    by_test time true later = ap (λ (t : List Arrival). record { place = j; moment = 0; bytes = r.bytes } ∷ t) later
    by_test time false later = later

    by_moment : (moment : Option ℕ) → arrivals_from pid (j + 1) (map still records) ≡ map stopped (arrivals_from pid (j + 1) records)
        → arrival_of pid j (option_map (λ (time : ℕ). 0) moment) r.bytes ++ arrivals_from pid (j + 1) (map still records)
        ≡ map stopped (arrival_of pid j moment r.bytes ++ arrivals_from pid (j + 1) records)
    by_moment None later = later
    by_moment (Some time) later = by_test time (is_of pid r.bytes) later

received-stopped : (before : Option (List ℕ)) (xs : List Arrival) → received_after before (map stopped xs) ≡ map stopped (received_after before xs)
received-stopped before [] = refl
received-stopped before (a ∷ xs) = by_test (repeats before a.bytes) (received-stopped (Some a.bytes) xs)
  where
    by_test : (b : Bool) → received_after (Some a.bytes) (map stopped xs) ≡ map stopped (received_after (Some a.bytes) xs)
        → cond b [] (stopped a ∷ []) ++ received_after (Some a.bytes) (map stopped xs) ≡ map stopped (cond b [] (a ∷ []) ++ received_after (Some a.bytes) xs)
    by_test true later = later
    by_test false later = ap (λ (t : List Arrival). stopped a ∷ t) later

received-still : (pid : ℕ) (records : List Record) → received_packets pid (map still records) ≡ map stopped (received_packets pid records)
received-still pid records = ap (received_after None) (arrivals-still pid 0 records) ∙ received-stopped None (arrivals pid records)

gaps-behind : (before : PacketFields) (xs : List Arrival) → gaps_behind before (map stopped xs) ≡ gaps_behind before xs
gaps-behind before [] = refl
gaps-behind before (a ∷ xs) = ap (λ (t : ℕ). cond (continues before (packet_of a)) 0 1 + t) (gaps-behind (packet_of a) xs)

gaps : (xs : List Arrival) → gaps_in (map stopped xs) ≡ gaps_in xs
gaps [] = refl
gaps (a ∷ xs) = gaps-behind (packet_of a) xs

-- Units and events.

given-stopped : (before : PacketFields) (behind : List Arrival) → given_behind before (map stopped behind) ≡ given_behind before behind
given-stopped before [] = refl
given-stopped before (a ∷ behind) =
    ap (λ (g : Given). cond (continues before (packet_of a)) (given_by (packet_of a) g) (ended_by (packet_of a))) (given-stopped (packet_of a) behind)

outcome-stopped : (form : UnitForm) (a : Arrival) (behind : List Arrival) (start : ℕ)
    → outcome_of form (bytes_from start (packet_of a) (map stopped behind)) ≡ outcome_of form (bytes_from start (packet_of a) behind)
outcome-stopped form a behind start = ap (λ (g : Given). outcome_of form (with_payload (drop start (packet_of a).payload) g)) (given-stopped (packet_of a) behind)

abbrev unit_in : PlacedUnit → List ℕ
unit_in x = x.unit

by-stopped : (form : UnitForm) (a : Arrival) (start : ℕ) (told : Outcome) → map unit_in (accepted_by form (stopped a) start told) ≡ map unit_in (accepted_by form a start told)
by-stopped form a start (candidate unit) = by_check (form.check unit)
  where
    by_check : (b : Bool)
        → map unit_in (cond b (record { place = a.place; start = start; moment = 0; unit = unit } ∷ []) [])
        ≡ map unit_in (cond b (record { place = a.place; start = start; moment = a.moment; unit = unit } ∷ []) [])
    by_check true = refl
    by_check false = refl
by-stopped form a start bad_length = refl
by-stopped form a start delimit = refl
by-stopped form a start no_outcome = refl

at-stopped : (form : UnitForm) (a : Arrival) (behind : List Arrival) (start : ℕ)
    → map unit_in (accepted_at form (stopped a) (map stopped behind) start) ≡ map unit_in (accepted_at form a behind start)
at-stopped form a behind start =
    ap (λ (told : Outcome). map unit_in (accepted_by form (stopped a) start told)) (outcome-stopped form a behind start)
    ∙ by-stopped form a start (outcome_of form (bytes_from start (packet_of a) behind))

starts-stopped : (form : UnitForm) (a : Arrival) (behind : List Arrival) (starts : List ℕ)
    → map unit_in (flat_map (accepted_at form (stopped a) (map stopped behind)) starts) ≡ map unit_in (flat_map (accepted_at form a behind) starts)
starts-stopped form a behind [] = refl
starts-stopped form a behind (s ∷ starts) =
    map-append unit_in (accepted_at form (stopped a) (map stopped behind) s) (flat_map (accepted_at form (stopped a) (map stopped behind)) starts)
    ∙ ap₂ (λ (x y : List (List ℕ)). x ++ y) (at-stopped form a behind s) (starts-stopped form a behind starts)
    ∙ sym (map-append unit_in (accepted_at form a behind s) (flat_map (accepted_at form a behind) starts))

units-stopped : (form : UnitForm) (xs : List Arrival) → map unit_in (accepted_in form (map stopped xs)) ≡ map unit_in (accepted_in form xs)
units-stopped form [] = refl
units-stopped form (a ∷ xs) =
    map-append unit_in (flat_map (accepted_at form (stopped a) (map stopped xs)) (unit_starts form (packet_of a))) (accepted_in form (map stopped xs))
    ∙ ap₂ (λ (x y : List (List ℕ)). x ++ y) (starts-stopped form a xs (unit_starts form (packet_of a))) (units-stopped form xs)
    ∙ sym (map-append unit_in (flat_map (accepted_at form a xs) (unit_starts form (packet_of a))) (accepted_in form xs))

pub units_still : (form : UnitForm) (pid : ℕ) (records : List Record) → units_on form (Some pid) (map still records) ≡ units_on form (Some pid) records
units_still form pid records = ap (λ (xs : List Arrival). map unit_in (accepted_in form xs)) (received-still pid records) ∙ units-stopped form (received_packets pid records)

abbrev at_zero : Event → Event
at_zero (unit_event moment unit) = unit_event 0 unit
at_zero bad_check_event = bad_check_event
at_zero delimit_event = delimit_event
at_zero bad_length_event = bad_length_event

event-stopped : (form : UnitForm) (moment : ℕ) (told : Outcome) → map at_zero (event_by form 0 told) ≡ map at_zero (event_by form moment told)
event-stopped form moment (candidate unit) = by_check (form.check unit)
  where
    by_check : (b : Bool) → map at_zero (cond b (unit_event 0 unit) bad_check_event ∷ []) ≡ map at_zero (cond b (unit_event moment unit) bad_check_event ∷ [])
    by_check true = refl
    by_check false = refl
event-stopped form moment bad_length = refl
event-stopped form moment delimit = refl
event-stopped form moment no_outcome = refl

event-starts : (form : UnitForm) (a : Arrival) (behind : List Arrival) (starts : List ℕ)
    → map at_zero (flat_map (event_at form (stopped a) (map stopped behind)) starts) ≡ map at_zero (flat_map (event_at form a behind) starts)
event-starts form a behind [] = refl
event-starts form a behind (s ∷ starts) =
    map-append at_zero (event_at form (stopped a) (map stopped behind) s) (flat_map (event_at form (stopped a) (map stopped behind)) starts)
    ∙ ap₂ (λ (x y : List Event). x ++ y)
    (ap (λ (told : Outcome). map at_zero (event_by form 0 told)) (outcome-stopped form a behind s) ∙ event-stopped form a.moment (outcome_of form (bytes_from s (packet_of a) behind)))
    (event-starts form a behind starts)
    ∙ sym (map-append at_zero (event_at form a behind s) (flat_map (event_at form a behind) starts))

events-stopped : (form : UnitForm) (xs : List Arrival) → map at_zero (events_of form (map stopped xs)) ≡ map at_zero (events_of form xs)
events-stopped form [] = refl
events-stopped form (a ∷ xs) =
    map-append at_zero (misfit_events (packet_of a) ++ flat_map (event_at form (stopped a) (map stopped xs)) (unit_starts form (packet_of a))) (events_of form (map stopped xs))
    ∙ ap₂ (λ (x y : List Event). x ++ y)
    (map-append at_zero (misfit_events (packet_of a)) (flat_map (event_at form (stopped a) (map stopped xs)) (unit_starts form (packet_of a)))
    ∙ ap (λ (t : List Event). map at_zero (misfit_events (packet_of a)) ++ t) (event-starts form a xs (unit_starts form (packet_of a)))
    ∙ sym (map-append at_zero (misfit_events (packet_of a)) (flat_map (event_at form a xs) (unit_starts form (packet_of a)))))
    (events-stopped form xs)
    ∙ sym (map-append at_zero (misfit_events (packet_of a) ++ flat_map (event_at form a xs) (unit_starts form (packet_of a))) (events_of form xs))

-- counts of events go by their kind
count-zero : (p : Event → Bool) → ((e : Event) → p (at_zero e) ≡ p e) → (es : List Event) → count_by p (map at_zero es) ≡ count_by p es
count-zero p same es = counted 0 es
  where
    counted : (n : ℕ) (xs : List Event) → fold (λ (m : ℕ) (e : Event). m + cond (p e) 1 0) n (map at_zero xs) ≡ fold (λ (m : ℕ) (e : Event). m + cond (p e) 1 0) n xs
    counted n [] = refl
    counted n (e ∷ xs) =
        ap (λ (b : Bool). fold (λ (m : ℕ) (f : Event). m + cond (p f) 1 0) (n + cond b 1 0) (map at_zero xs)) (same e) ∙ counted (n + cond (p e) 1 0) xs

unit-zero : (e : Event) → is_unit (at_zero e) ≡ is_unit e
unit-zero (unit_event moment unit) = refl
unit-zero bad_check_event = refl
unit-zero delimit_event = refl
unit-zero bad_length_event = refl

check-zero : (e : Event) → is_bad_check (at_zero e) ≡ is_bad_check e
check-zero (unit_event moment unit) = refl
check-zero bad_check_event = refl
check-zero delimit_event = refl
check-zero bad_length_event = refl

delimit-zero : (e : Event) → is_delimit (at_zero e) ≡ is_delimit e
delimit-zero (unit_event moment unit) = refl
delimit-zero bad_check_event = refl
delimit-zero delimit_event = refl
delimit-zero bad_length_event = refl

length-zero : (e : Event) → is_bad_length (at_zero e) ≡ is_bad_length e
length-zero (unit_event moment unit) = refl
length-zero bad_check_event = refl
length-zero delimit_event = refl
length-zero bad_length_event = refl

counts-still : (p : Event → Bool) → ((e : Event) → p (at_zero e) ≡ p e) → (form : UnitForm) (pid : ℕ) (records : List Record)
    → count_by p (events_of form (received_packets pid (map still records))) ≡ count_by p (events_of form (received_packets pid records))
counts-still p same form pid records =
    ap (λ (xs : List Arrival). count_by p (events_of form xs)) (received-still pid records)
    ∙ sym (count-zero p same (events_of form (map stopped (received_packets pid records))))
    ∙ ap (count_by p) (events-stopped form (received_packets pid records))
    ∙ count-zero p same (events_of form (received_packets pid records))

abbrev numbers_from : (a h g u c d l : ℕ) → PidNumbers
numbers_from a h g u c d l = record { heard = h; repeats = a - h; gaps = g; units = u; bad_check = c; delimited = d; bad_length = l }

pub numbers_still : (form : UnitForm) (pid : ℕ) (records : List Record) → pid_numbers form pid (map still records) ≡ pid_numbers form pid records
numbers_still form pid records = by_parts
    (length (arrivals pid records)) (length (received_packets pid records)) (gaps_in (received_packets pid records))
    (count_by is_unit (events_of form (received_packets pid records))) (count_by is_bad_check (events_of form (received_packets pid records)))
    (count_by is_delimit (events_of form (received_packets pid records))) (count_by is_bad_length (events_of form (received_packets pid records)))
    (ap (λ (xs : List Arrival). length xs) (arrivals-still pid 0 records) ∙ length-map (arrivals pid records) stopped)
    (ap (λ (xs : List Arrival). length xs) (received-still pid records) ∙ length-map (received_packets pid records) stopped)
    (ap gaps_in (received-still pid records) ∙ gaps (received_packets pid records))
    (counts-still is_unit unit-zero form pid records) (counts-still is_bad_check check-zero form pid records)
    (counts-still is_delimit delimit-zero form pid records) (counts-still is_bad_length length-zero form pid records)
  where
    others : List Record
    others = map still records

    by_parts : (a h g u c d l : ℕ) → length (arrivals pid others) ≡ a → length (received_packets pid others) ≡ h → gaps_in (received_packets pid others) ≡ g
        → count_by is_unit (events_of form (received_packets pid others)) ≡ u → count_by is_bad_check (events_of form (received_packets pid others)) ≡ c
        → count_by is_delimit (events_of form (received_packets pid others)) ≡ d → count_by is_bad_length (events_of form (received_packets pid others)) ≡ l
        → pid_numbers form pid others ≡ numbers_from a h g u c d l
    by_parts a h g u c d l is_a is_h is_g is_u is_c is_d is_l =
        ap (λ (t : ℕ). numbers_from t (length (received_packets pid others)) (gaps_in (received_packets pid others)) (count_by is_unit (events_of form (received_packets pid others)))
        (count_by is_bad_check (events_of form (received_packets pid others))) (count_by is_delimit (events_of form (received_packets pid others))) (count_by is_bad_length (events_of form (received_packets pid others)))) is_a
        ∙ ap₂ (λ (x y : ℕ). numbers_from a x y (count_by is_unit (events_of form (received_packets pid others)))
        (count_by is_bad_check (events_of form (received_packets pid others))) (count_by is_delimit (events_of form (received_packets pid others))) (count_by is_bad_length (events_of form (received_packets pid others)))) is_h is_g
        ∙ ap₂ (λ (x y : ℕ). numbers_from a h g x y (count_by is_delimit (events_of form (received_packets pid others))) (count_by is_bad_length (events_of form (received_packets pid others)))) is_u is_c
        ∙ ap₂ (λ (x y : ℕ). numbers_from a h g u c x y) is_d is_l

-- Frames without time slicing, by their sections alone.

bare : (moment : ℕ) (xs : List FrameSection) → sections_of (map (timed_section moment) xs) ≡ xs
bare moment [] = refl
bare moment (x ∷ xs) = ap (λ (t : List FrameSection). x ∷ t) (bare moment xs)

sections_are : (rows : ℕ) (xs : List PlacedUnit) → sections_of (flat_map (sections_of_unit rows) xs) ≡ flat_map (frame_sections_in rows) (map unit_in xs)
sections_are rows [] = refl
sections_are rows (x ∷ xs) =
    map-append (λ (s : TimedSection). s.section) (sections_of_unit rows x) (flat_map (sections_of_unit rows) xs)
    ∙ ap₂ (λ (a b : List FrameSection). a ++ b) (bare x.moment (frame_sections_in rows x.unit)) (sections_are rows xs)

sections_still : (rows pid : ℕ) (records : List Record) → sections_of (frame_sections rows pid (map still records)) ≡ sections_of (frame_sections rows pid records)
sections_still rows pid records =
    sections_are rows (accepted_units section_form pid (map still records))
    ∙ ap (flat_map (frame_sections_in rows)) (units_still section_form pid records)
    ∙ sym (sections_are rows (accepted_units section_form pid records))

abbrev last_of : FrameSection → List FrameSection → FrameSection
last_of s [] = s
last_of s (t ∷ group) = last_of t group

abbrev is_bare_cut : ℕ → List FrameSection → FrameSection → Bool
is_bare_cut rows [] x = false
is_bare_cut rows (s ∷ group) x = not (eqb (real_time_in (last_of s group)).delta (real_time_in x).delta) || is_cut_by_table rows (s ∷ group) x

abbrev bare_from : ℕ → List FrameSection → List FrameSection → List (List FrameSection)
bare_from rows group [] = group ∷ []
bare_from rows group (x ∷ sections) = cond (is_bare_cut rows group x) (group ∷ bare_from rows (x ∷ []) sections) (bare_from rows (group ++ x ∷ []) sections)

abbrev bare_frames : ℕ → List FrameSection → List (List FrameSection)
bare_frames rows [] = []
bare_frames rows (x ∷ sections) = bare_from rows (x ∷ []) sections

abbrev bare_closed : Bool → List (List FrameSection) → List (List FrameSection)
bare_closed ended [] = []
bare_closed ended (group ∷ []) = cond (ended || list_any ends_frame group) (group ∷ []) []
bare_closed ended (group ∷ next ∷ others) = group ∷ bare_closed ended (next ∷ others)

last_is : (s : TimedSection) (group : List TimedSection) → (last_section s group).section ≡ last_of s.section (sections_of group)
last_is s [] = refl
last_is s (t ∷ group) = last_is t group

cut_is : (rows : ℕ) (group : List TimedSection) (x : TimedSection) → is_cut indexed rows group x ≡ is_bare_cut rows (sections_of group) x.section
cut_is rows [] x = refl
cut_is rows (s ∷ group) x =
    ap (λ (last : FrameSection). not (eqb (real_time_in last).delta (real_time_in x.section).delta) || is_cut_by_table rows (sections_of (s ∷ group)) x.section) (last_is s group)

from_is : (rows : ℕ) (group xs : List TimedSection) → map sections_of (frames_from indexed rows group xs) ≡ bare_from rows (sections_of group) (sections_of xs)
from_is rows group [] = refl
from_is rows group (x ∷ xs) =
    by_test (is_cut indexed rows group x) (from_is rows (x ∷ []) xs)
    (from_is rows (group ++ x ∷ []) xs ∙ ap (λ (g : List FrameSection). bare_from rows g (sections_of xs)) (map-append (λ (s : TimedSection). s.section) group (x ∷ [])))
    ∙ ap (λ (b : Bool). cond b (sections_of group ∷ bare_from rows (x.section ∷ []) (sections_of xs)) (bare_from rows (sections_of group ++ x.section ∷ []) (sections_of xs))) (cut_is rows group x)
  where
    by_test : (b : Bool) → map sections_of (frames_from indexed rows (x ∷ []) xs) ≡ bare_from rows (x.section ∷ []) (sections_of xs)
        → map sections_of (frames_from indexed rows (group ++ x ∷ []) xs) ≡ bare_from rows (sections_of group ++ x.section ∷ []) (sections_of xs)
        → map sections_of (cond b (group ∷ frames_from indexed rows (x ∷ []) xs) (frames_from indexed rows (group ++ x ∷ []) xs))
        ≡ cond b (sections_of group ∷ bare_from rows (x.section ∷ []) (sections_of xs)) (bare_from rows (sections_of group ++ x.section ∷ []) (sections_of xs))
    by_test true cut whole = ap (λ (t : List (List FrameSection)). sections_of group ∷ t) cut
    by_test false cut whole = whole

frames_are : (rows : ℕ) (xs : List TimedSection) → map sections_of (received_frames indexed rows xs) ≡ bare_frames rows (sections_of xs)
frames_are rows [] = refl
frames_are rows (x ∷ xs) = from_is rows (x ∷ []) xs

closed_are : (ended : Bool) (frames : List (List TimedSection)) → map sections_of (closed_frames ended frames) ≡ bare_closed ended (map sections_of frames)
closed_are ended [] = refl
closed_are ended (group ∷ []) = by_test (ended || list_any ends_frame (sections_of group))
  where
    by_test : (b : Bool) → map sections_of (cond b (group ∷ []) []) ≡ cond b (sections_of group ∷ []) []
    by_test true = refl
    by_test false = refl
closed_are ended (group ∷ next ∷ others) = ap (λ (t : List (List FrameSection)). sections_of group ∷ t) (closed_are ended (next ∷ others))

-- of a service without time slicing
pub told_frames_still : (ended : Bool) (form : RecordingForm) (kind : KindFields) (records : List Record) → is_some (sliced_of kind) ≡ false
    → map sections_of (told_frames ended form kind (map still records)) ≡ map sections_of (told_frames ended form kind records)
told_frames_still ended form (ule own address packing) records none = refl
told_frames_still ended form (mpe own) records none = refl
told_frames_still ended form (fec own rows parity (Some window)) records none = absurd (cc (none))
told_frames_still ended form (fec own rows parity None) records none =
    closed_are ended (received_frames indexed rows (frame_sections rows own (map still records)))
    ∙ ap (bare_closed ended)
    (frames_are rows (frame_sections rows own (map still records))
    ∙ ap (bare_frames rows) (sections_still rows own records)
    ∙ sym (frames_are rows (frame_sections rows own records)))
    ∙ sym (closed_are ended (received_frames indexed rows (frame_sections rows own records)))
told_frames_still ended form (gse isi address) records none = refl

datagrams_bare : (rows : ℕ) (frames : List (List TimedSection)) → datagrams_of_frames rows frames ≡ flat_map (frame_datagrams rows) (map sections_of frames)
datagrams_bare rows frames = sym (flat_map-map (frame_datagrams rows) sections_of frames)

sum_bare : (f : List FrameSection → ℕ) (frames : List (List TimedSection)) → sum_by (λ (frame : List TimedSection). f (sections_of frame)) frames ≡ sum_by f (map sections_of frames)
sum_bare f frames = summed 0 frames
  where
    summed : (n : ℕ) (xs : List (List TimedSection))
        → fold (λ (m : ℕ) (frame : List TimedSection). m + f (sections_of frame)) n xs ≡ fold (λ (m : ℕ) (sections : List FrameSection). m + f sections) n (map sections_of xs)
    summed n [] = refl
    summed n (x ∷ xs) = summed (n + f (sections_of x)) xs

abbrev numbers_bare : ℕ → List (List FrameSection) → FrameNumbers
numbers_bare rows frames = record {
  frames = length frames;
  rows_mended = sum_by (λ (sections : List FrameSection). mended_rows rows (known_byte rows sections)) frames;
  rows_left = sum_by (λ (sections : List FrameSection). left_rows rows (known_byte rows sections)) frames;
  datagrams = length (flat_map (frame_datagrams rows) frames);
}

abbrev numbers_of_parts : (frames mended left datagrams : ℕ) → FrameNumbers
numbers_of_parts frames mended left datagrams = record { frames = frames; rows_mended = mended; rows_left = left; datagrams = datagrams }

frame_numbers_bare : (rows : ℕ) (frames : List (List TimedSection)) → frame_numbers rows frames ≡ numbers_bare rows (map sections_of frames)
frame_numbers_bare rows frames =
    ap₂ (λ (a d : ℕ). numbers_of_parts a (sum_by (λ (frame : List TimedSection). mended_rows rows (known_byte rows (sections_of frame))) frames)
    (sum_by (λ (frame : List TimedSection). left_rows rows (known_byte rows (sections_of frame))) frames) d)
    (sym (length-map frames sections_of)) (ap (λ (l : List (List ℕ)). length l) (datagrams_bare rows frames))
    ∙ ap₂ (λ (m l : ℕ). numbers_of_parts (length (map sections_of frames)) m l (length (flat_map (frame_datagrams rows) (map sections_of frames))))
    (sum_bare (λ (sections : List FrameSection). mended_rows rows (known_byte rows sections)) frames)
    (sum_bare (λ (sections : List FrameSection). left_rows rows (known_byte rows sections)) frames)

pub frame_numbers_still : (ended : Bool) (form : RecordingForm) (kind : KindFields) (records : List Record) → is_some (sliced_of kind) ≡ false
    → frame_numbers (rows_of kind) (told_frames ended form kind (map still records)) ≡ frame_numbers (rows_of kind) (told_frames ended form kind records)
frame_numbers_still ended form kind records none =
    frame_numbers_bare (rows_of kind) (told_frames ended form kind (map still records))
    ∙ ap (numbers_bare (rows_of kind)) (told_frames_still ended form kind records none)
    ∙ sym (frame_numbers_bare (rows_of kind) (told_frames ended form kind records))

pub service_units_still : (service : ServiceFields) (pid : ℕ) → pid_of service.kind ≡ Some pid → (records : List Record) → units_of service (map still records) ≡ units_of service records
service_units_still service pid on records =
    ap (λ (t : Option ℕ). units_on (form_of_kind service.kind) t (map still records)) on
    ∙ units_still (form_of_kind service.kind) pid records
    ∙ sym (ap (λ (t : Option ℕ). units_on (form_of_kind service.kind) t records) on)

pub service_numbers_still : (service : ServiceFields) (pid : ℕ) → pid_of service.kind ≡ Some pid → (records : List Record)
    → service_pid_numbers service (map still records) ≡ service_pid_numbers service records
service_numbers_still service pid on records =
    ap (λ (t : Option ℕ). numbers_if_on (form_of_kind service.kind) t (map still records)) on
    ∙ numbers_still (form_of_kind service.kind) pid records
    ∙ sym (ap (λ (t : Option ℕ). numbers_if_on (form_of_kind service.kind) t records) on)

pub told_still : (ended : Bool) (form : RecordingForm) (service : ServiceFields) (pid : ℕ) → pid_of service.kind ≡ Some pid → is_some (sliced_of service.kind) ≡ false
    → (records : List Record) → told_by ended form service (map still records) ≡ told_by ended form service records
told_still ended form service pid on none records =
    ap₂ (λ (a b : List (List ℕ)). a ++ b)
    (ap (flat_map (delivered_by_unit service)) (service_units_still service pid on records))
    (datagrams_bare (rows_of service.kind) (told_frames ended form service.kind (map still records))
    ∙ ap (flat_map (frame_datagrams (rows_of service.kind))) (told_frames_still ended form service.kind records none)
    ∙ sym (datagrams_bare (rows_of service.kind) (told_frames ended form service.kind records)))
