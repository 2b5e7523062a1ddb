-- One service and one list of records: what its frames give, and all that it tells.
use Rattle.std.proofs.Common.{◌≡◌, ◌⊎◌, inl, inr, ℕ, Bool, true, false, cond, None, Some, List, [], ◌∷◌, ◌++◌, length, flat_map, drop, refl, ap, ap₂, sym, ◌∙◌, append_assoc}
use Rattle.std.specs.Prelude.{is_some}
use Rattle.std.specs.List.{list_any}
use Rattle.std.proofs.lemmas.List.{append-nil, drop_at}
use Rattle.std.proofs.lemmas.List.Folds.{flat_map-map}
use Rattle.ts_spec.specs.Recording.{RecordingForm, Record}
use Rattle.ts_spec.specs.Received.{Arrival, received_packets}
use Rattle.ts_spec.specs.Reassembly.{PlacedUnit, accepted_in, accepted_units}
use Rattle.ts_spec.specs.Events.{Event, events_of}
use Rattle.section_spec.specs.Section.{section_form}
use Rattle.section_codec.specs.Spans.{section_lawful}
use Rattle.reassembly_law.specs.UnderWay.{unit_of_event}
use Rattle.reassembly_law.proofs.Units.{of_events}
use Rattle.slice_spec.specs.Sections.{Timing}
use Rattle.fec_frame_spec.specs.Sections.{TimedSection, sections_of, ends_frame, timed_sections_in, sections_of_unit, frame_sections}
use Rattle.fec_frame_spec.specs.Groups.{timing_in, received_frames, closed_frames}
use Rattle.fec_frame_spec.specs.Delivered.{frame_datagrams, datagrams_of_frames}
use Rattle.fec_frame_law.proofs.ClosedFrames.{closed_more}
use Rattle.plan_spec.specs.Plan.{KindFields, ule, mpe, fec, gse, pid_of, ServiceFields}
use Rattle.stream_spec.specs.Services.{carried_by_unit}
use Rattle.reception_spec.specs.Units.{wants_unit, delivered_by_unit}
use Rattle.reception_spec.specs.Packets.{is_on}
use Rattle.reception_spec.specs.Numbers.{units_of}
use Rattle.reception_spec.specs.Frames.{frames_received, told_frames, rows_of}
use Rattle.reception_spec.specs.Delivered.{delivered_datagrams, told_by}
use Rattle.reception_law.specs.Words.{added_by, closed_by}
use Rattle.reception_law.proofs.Fronts.{IsPrefix, front_through, front_flat, rest_is, all_events_front, delivered_front, nothing_delivered, same_packets, same_datagrams}

-- The sections of frames.

abbrev timed_in : ℕ → List Event → List TimedSection
timed_in rows events = flat_map (λ (timed : ℕ × List ℕ). timed_sections_in rows timed.0 timed.1) (flat_map unit_of_event events)

-- they are those among the events
pub sections_are : (rows pid : ℕ) (records : List Record) → frame_sections rows pid records ≡ timed_in rows (events_of section_form (received_packets pid records))
sections_are rows pid records =
    sym (ap (flat_map (λ (timed : ℕ × List ℕ). timed_sections_in rows timed.0 timed.1)) (of_events section_form (received_packets pid records))
    ∙ flat_map-map (λ (timed : ℕ × List ℕ). timed_sections_in rows timed.0 timed.1) (λ (x : PlacedUnit). (x.moment, x.unit)) (accepted_units section_form pid records))

-- more records, more sections
sections_front : (rows pid : ℕ) (records : List Record) (r : Record) → IsPrefix (frame_sections rows pid records) (frame_sections rows pid (records ++ r ∷ []))
sections_front rows pid records r =
    let before : List Event = events_of section_form (received_packets pid records) in
    let all : List Event = events_of section_form (received_packets pid (records ++ r ∷ [])) in
    let more = front_flat (λ (timed : ℕ × List ℕ). timed_sections_in rows timed.0 timed.1) (flat_map unit_of_event before) (flat_map unit_of_event all)
    (front_flat unit_of_event before all (all_events_front section_form section_lawful pid records r)) in
    (more.0, sections_are rows pid (records ++ r ∷ []) ∙ more.1 ∙ ap (λ (t : List TimedSection). t ++ more.0) (sym (sections_are rows pid records)))

-- Closed frames.

-- with more sections they stay
closed_front : (timing : Timing) (rows : ℕ) (sections more : List TimedSection)
    → IsPrefix (closed_frames false (received_frames timing rows sections)) (closed_frames false (received_frames timing rows (sections ++ more)))
closed_front timing rows sections [] = (
  [],
  ap (λ (t : List TimedSection). closed_frames false (received_frames timing rows t)) (append-nil sections)
      ∙ sym (append-nil (closed_frames false (received_frames timing rows sections))),
)
closed_front timing rows sections (x ∷ more) =
    let rest = closed_front timing rows (sections ++ x ∷ []) more in
    front_through (closed_frames false (received_frames timing rows sections)) (closed_frames false (received_frames timing rows (sections ++ x ∷ [])))
    (closed_frames false (received_frames timing rows (sections ++ x ∷ more)))
    (closed_more timing rows x sections)
    (rest.0, ap (λ (t : List TimedSection). closed_frames false (received_frames timing rows t)) (sym (append_assoc sections (x ∷ []) more)) ∙ rest.1)

pub frames_front : (form : RecordingForm) (kind : KindFields) (records : List Record) (r : Record)
    → IsPrefix (told_frames false form kind records) (told_frames false form kind (records ++ r ∷ []))
frames_front form (ule pid address packing) records r = ([], refl)
frames_front form (mpe pid) records r = ([], refl)
frames_front form (fec pid rows parity window) records r =
    let more = sections_front rows pid records r in
    let all = closed_front (timing_in form (is_some window)) rows (frame_sections rows pid records) more.0 in
    (all.0, ap (λ (t : List TimedSection). closed_frames false (received_frames (timing_in form (is_some window)) rows t)) more.1 ∙ all.1)
frames_front form (gse isi address) records r = ([], refl)

-- those closed so far are in front of all
pub ended_front : (frames : List (List TimedSection)) → IsPrefix (closed_frames false frames) (closed_frames true frames)
ended_front [] = ([], refl)
ended_front (group ∷ []) = by_end (list_any ends_frame (sections_of group))
  where
    by_end : (b : Bool) → IsPrefix (cond {A = List (List TimedSection)} b (group ∷ []) []) (group ∷ [])
    by_end true = ([], refl)
    by_end false = (group ∷ [], refl)
ended_front (group ∷ next ∷ others) = let rest = ended_front (next ∷ others) in (rest.0, ap (λ (l : List (List TimedSection)). group ∷ l) rest.1)

-- frames of no record, and of one more that is no packet of the PID
pub no_frames_of_nothing : (form : RecordingForm) (kind : KindFields) → frames_received form kind [] ≡ []
no_frames_of_nothing form (ule pid address packing) = refl
no_frames_of_nothing form (mpe pid) = refl
no_frames_of_nothing form (fec pid rows parity window) = refl
no_frames_of_nothing form (gse isi address) = refl

abbrev frames_by : RecordingForm → ℕ → Bool → List Arrival → List (List TimedSection)
frames_by form rows is_sliced came = received_frames (timing_in form is_sliced) rows (flat_map (sections_of_unit rows) (accepted_in section_form came))

pub same_frames : (form : RecordingForm) (kind : KindFields) (pid : ℕ) → (pid_of kind ≡ Some pid) ⊎ (pid_of kind ≡ None)
    → (records others : List Record) → received_packets pid records ≡ received_packets pid others → frames_received form kind records ≡ frames_received form kind others
same_frames form (ule own address packing) pid on records others same = refl
same_frames form (mpe own) pid on records others same = refl
same_frames form (fec own rows parity window) pid (inl on) records others same =
    let is : own ≡ pid = cc (on) in
    ap (frames_by form rows (is_some window))
    (ap (λ (p : ℕ). received_packets p records) is ∙ same ∙ sym (ap (λ (p : ℕ). received_packets p others) is))
same_frames form (fec own rows parity window) pid (inr none) records others same = absurd (cc (none))
same_frames form (gse isi address) pid on records others same = refl

pub no_frames_on : (form : RecordingForm) (kind : KindFields) (pid : ℕ) → (pid_of kind ≡ Some pid) ⊎ (pid_of kind ≡ None)
    → (records : List Record) → received_packets pid records ≡ [] → frames_received form kind records ≡ []
no_frames_on form kind pid on records none = same_frames form kind pid on records [] none ∙ no_frames_of_nothing form kind

-- All that a service tells.

abbrev frames_tell : ServiceFields → List (List TimedSection) → List (List ℕ)
frames_tell service frames = datagrams_of_frames (rows_of service.kind) frames

-- without frames it is what its units give
pub units_tell : (ended : Bool) (form : RecordingForm) (service : ServiceFields) (records : List Record) → frames_received form service.kind records ≡ []
    → told_by ended form service records ≡ delivered_datagrams service records
units_tell ended form service records none =
    ap (λ (f : List (List TimedSection)). delivered_datagrams service records ++ frames_tell service (closed_frames ended f)) none
    ∙ append-nil (delivered_datagrams service records)

-- units of a kind with frames give nothing by themselves
abbrev pub HasNoFrames : KindFields → Type 0
HasNoFrames kind = (form : RecordingForm) (records : List Record) → frames_received form kind records ≡ []

abbrev pub GivesByFrames : KindFields → Type 0
GivesByFrames kind = (unit : List ℕ) → carried_by_unit kind unit ≡ []

pub one_way : (kind : KindFields) → HasNoFrames kind ⊎ GivesByFrames kind
one_way (ule pid address packing) = inl (λ form records. refl)
one_way (mpe pid) = inl (λ form records. refl)
one_way (fec pid rows parity window) = inr (λ unit. refl)
one_way (gse isi address) = inl (λ form records. refl)

none_of_unit : (service : ServiceFields) → GivesByFrames service.kind → (unit : List ℕ) → delivered_by_unit service unit ≡ []
none_of_unit service none unit = by_test (wants_unit service unit)
  where
    by_test : (b : Bool) → cond {A = List (List ℕ)} b (carried_by_unit service.kind unit) [] ≡ []
    by_test true = none unit
    by_test false = refl

none_of_units : (service : ServiceFields) → GivesByFrames service.kind → (units : List (List ℕ)) → flat_map (delivered_by_unit service) units ≡ []
none_of_units service none [] = refl
none_of_units service none (unit ∷ units) = ap₂ (λ (a b : List (List ℕ)). a ++ b) (none_of_unit service none unit) (none_of_units service none units)

pub by_frames : (ended : Bool) (form : RecordingForm) (service : ServiceFields) (records : List Record) → GivesByFrames service.kind
    → told_by ended form service records ≡ frames_tell service (told_frames ended form service.kind records)
by_frames ended form service records none =
    ap (λ (t : List (List ℕ)). t ++ frames_tell service (told_frames ended form service.kind records)) (none_of_units service none (units_of service records))

prefix_same : {X : Type 0} (xs ys us vs : List X) → us ≡ xs → vs ≡ ys → IsPrefix xs ys → IsPrefix us vs
prefix_same {X} xs ys us vs one two is = (is.0, two ∙ is.1 ∙ ap (λ (t : List X). t ++ is.0) (sym one))

-- more records, more told
told_front : (form : RecordingForm) (service : ServiceFields) (records : List Record) (r : Record)
    → IsPrefix (told_by false form service records) (told_by false form service (records ++ r ∷ []))
told_front form service records r = by_way (one_way service.kind)
  where
    by_way : HasNoFrames service.kind ⊎ GivesByFrames service.kind → IsPrefix (told_by false form service records) (told_by false form service (records ++ r ∷ []))
    by_way (inl none) =
        prefix_same (delivered_datagrams service records) (delivered_datagrams service (records ++ r ∷ []))
        (told_by false form service records) (told_by false form service (records ++ r ∷ []))
        (units_tell false form service records (none form records)) (units_tell false form service (records ++ r ∷ []) (none form (records ++ r ∷ [])))
        (delivered_front service records r)
    by_way (inr none) =
        prefix_same (frames_tell service (told_frames false form service.kind records)) (frames_tell service (told_frames false form service.kind (records ++ r ∷ [])))
        (told_by false form service records) (told_by false form service (records ++ r ∷ []))
        (by_frames false form service records none) (by_frames false form service (records ++ r ∷ []) none)
        (front_flat (λ (group : List TimedSection). frame_datagrams (rows_of service.kind) (sections_of group))
        (told_frames false form service.kind records) (told_frames false form service.kind (records ++ r ∷ [])) (frames_front form service.kind records r))

end_front : (form : RecordingForm) (service : ServiceFields) (records : List Record) → IsPrefix (told_by false form service records) (told_by true form service records)
end_front form service records =
    let more = front_flat (λ (group : List TimedSection). frame_datagrams (rows_of service.kind) (sections_of group))
    (told_frames false form service.kind records) (told_frames true form service.kind records) (ended_front (frames_received form service.kind records)) in (
      more.0,
      ap (λ (t : List (List ℕ)). delivered_datagrams service records ++ t) more.1
          ∙ sym (append_assoc (delivered_datagrams service records) (frames_tell service (told_frames false form service.kind records)) more.0),
    )

-- what comes after a front
after_is : (front whole added : List (List ℕ)) → whole ≡ front ++ added → drop (length front) whole ≡ added
after_is front whole added is = ap (drop (length front)) is ∙ drop_at front added (length front) refl

pub told_more : (form : RecordingForm) (service : ServiceFields) (records : List Record) (r : Record)
    → told_by false form service (records ++ r ∷ []) ≡ told_by false form service records ++ added_by form service records r
told_more form service records r =
    rest_is (told_by false form service records) (told_by false form service (records ++ r ∷ [])) (told_front form service records r)

pub added_is : (form : RecordingForm) (service : ServiceFields) (records : List Record) (r : Record) (added : List (List ℕ))
    → told_by false form service (records ++ r ∷ []) ≡ told_by false form service records ++ added → added_by form service records r ≡ added
added_is form service records r added more = after_is (told_by false form service records) (told_by false form service (records ++ r ∷ [])) added more

pub told_end : (form : RecordingForm) (service : ServiceFields) (records : List Record)
    → told_by true form service records ≡ told_by false form service records ++ closed_by form service records
told_end form service records = rest_is (told_by false form service records) (told_by true form service records) (end_front form service records)

pub closed_is : (form : RecordingForm) (service : ServiceFields) (records : List Record) (closed : List (List ℕ))
    → told_by true form service records ≡ told_by false form service records ++ closed → closed_by form service records ≡ closed
closed_is form service records closed more = after_is (told_by false form service records) (told_by true form service records) closed more

pub told_nothing : (ended : Bool) (form : RecordingForm) (service : ServiceFields) → told_by ended form service [] ≡ []
told_nothing ended form service = units_tell ended form service [] (no_frames_of_nothing form service.kind) ∙ nothing_delivered service

pub same_told : (ended : Bool) (form : RecordingForm) (service : ServiceFields) (pid : ℕ) → (pid_of service.kind ≡ Some pid) ⊎ (pid_of service.kind ≡ None)
    → (records : List Record) (r : Record) → is_on pid r ≡ false → told_by ended form service (records ++ r ∷ []) ≡ told_by ended form service records
same_told ended form service pid on records r off =
    ap₂ (λ (a : List (List ℕ)) (f : List (List TimedSection)). a ++ frames_tell service (closed_frames ended f))
    (same_datagrams service pid on records r off)
    (same_frames form service.kind pid on (records ++ r ∷ []) records (same_packets pid records r off))

pub none_added : (form : RecordingForm) (service : ServiceFields) (pid : ℕ) → (pid_of service.kind ≡ Some pid) ⊎ (pid_of service.kind ≡ None) → (records : List Record) (r : Record)
    → is_on pid r ≡ false → added_by form service records r ≡ []
none_added form service pid on records r off =
    added_is form service records r [] (same_told false form service pid on records r off ∙ sym (append-nil (told_by false form service records)))

pub same_closed : (form : RecordingForm) (service : ServiceFields) (pid : ℕ) → (pid_of service.kind ≡ Some pid) ⊎ (pid_of service.kind ≡ None) → (records : List Record) (r : Record)
    → is_on pid r ≡ false → closed_by form service (records ++ r ∷ []) ≡ closed_by form service records
same_closed form service pid on records r off =
    ap₂ (λ (a b : List (List ℕ)). drop (length a) b) (same_told false form service pid on records r off) (same_told true form service pid on records r off)

-- without frames
pub plain_added : (form : RecordingForm) (service : ServiceFields) (records : List Record) (r : Record) → ((some : List Record) → frames_received form service.kind some ≡ [])
    → added_by form service records r ≡ drop (length (delivered_datagrams service records)) (delivered_datagrams service (records ++ r ∷ []))
plain_added form service records r none =
    ap₂ (λ (a b : List (List ℕ)). drop (length a) b)
    (units_tell false form service records (none records)) (units_tell false form service (records ++ r ∷ []) (none (records ++ r ∷ [])))

pub plain_closed : (form : RecordingForm) (service : ServiceFields) (records : List Record) → frames_received form service.kind records ≡ [] → closed_by form service records ≡ []
plain_closed form service records none =
    closed_is form service records []
    (units_tell true form service records none ∙ sym (units_tell false form service records none) ∙ sym (append-nil (told_by false form service records)))
