-- What a reception tells and closes, by the kind of its units.
use Rattle.std.proofs.Common.{◌≡◌, inl, inr, ℕ, ◌≤◌, Bool, true, false, List, [], ◌∷◌, ◌++◌, length, map, flat_map, drop, refl, ap, ap₂, sym, ◌∙◌, subst, arith, Option, Some, None}
use Rattle.std.specs.Prelude.{is_some}
use Rattle.std.specs.List.{count_by}
use Rattle.std.proofs.lemmas.List.{drop_all}
use Rattle.ts_spec.specs.Recording.{RecordingForm, Record}
use Rattle.ts_spec.specs.Received.{Arrival, received_packets}
use Rattle.ts_spec.specs.Reassembly.{PlacedUnit, accepted_in}
use Rattle.section_spec.specs.Section.{section_form}
use Rattle.section_spec.specs.Mpe.{IsRows}
use Rattle.unit_stream.specs.Joining.{Stands}
use Rattle.reassembly_law.specs.Records.{last_bytes}
use Rattle.slice_spec.specs.Sections.{Timing}
use Rattle.fec_frame_spec.specs.Sections.{TimedSection, sections_of, sections_of_unit}
use Rattle.fec_frame_spec.specs.Groups.{timing_in, received_frames, closed_frames}
use Rattle.fec_frame.specs.Stands.{Stands as TableStands}
use Rattle.plan_spec.specs.Plan.{KindFields, ule, mpe, fec, gse, WindowFields, ServiceFields, pid_of}
use Rattle.plan_spec.specs.Changes.{with_pid}
use Rattle.stream_spec.specs.Services.{form_of_kind}
use Rattle.reception_spec.specs.Packets.{is_on}
use Rattle.reception_spec.specs.Numbers.{no_numbers, pid_numbers, numbers_if_on, units_on, units_of, unit_numbers, service_pid_numbers}
use Rattle.reception_spec.specs.Frames.{frames_received, told_frames, rows_of, no_frames, frame_numbers}
use Rattle.reception_spec.specs.Delivered.{delivered_datagrams}
use Rattle.reception_law.specs.Words.{added_by, closed_by}
use Rattle.reception_law.proofs.Frames.{units_tell}
use Rattle.reception_law.proofs.OtherPid.{rows_stay}
use Rattle.service_reception.specs.Services.{IsUle, IsMpe}
use Rattle.service_reception.specs.Reception as one
use Rattle.service_reception.specs.Counting.{service_counts_of}
use Rattle.service_reception.proofs.Fronts.{received_stays}
use Rattle.fec_reception.specs.Frames.{open_sections, last_time, is_unread, closed_in}
use Rattle.fec_reception.specs.Reception.{FecReceptionState, FramesState, IsOver}
use Rattle.fec_reception.specs.Counting.{unread_alone}
use Rattle.fec_reception.specs.Reception as framed
use Rattle.fec_reception.proofs.Fronts.{frames_stay}
use Rattle.fec_reception.proofs.Served.{served_frames, served_rows, served_told, served_units, served_numbers}
use Rattle.demux_core.specs.Services.{counts_in, ReadsFrames, ReadsKind, HasFramesOf, HasTakenFrames, IsReception, IsFresh}
use Rattle.demux_core.specs.declared.service.ByKind.{ByKind}
use Rattle.demux_core.specs.declared.service.ByKind.TheVariants.{Ule, Mpe, Fec}
use Rattle.demux_core.proofs.Counted.{same_counts}

-- Services without frames.

pub plain_ule : (form : RecordingForm) (kind : KindFields) → IsUle kind → (records : List Record) → frames_received form kind records ≡ []
plain_ule form (ule pid address packing) of_kind records = refl
plain_ule form (mpe pid) of_kind records = absurd of_kind
plain_ule form (fec pid rows parity window) of_kind records = absurd of_kind
plain_ule form (gse isi address) of_kind records = absurd of_kind

pub plain_mpe : (form : RecordingForm) (kind : KindFields) → IsMpe kind → (records : List Record) → frames_received form kind records ≡ []
plain_mpe form (ule pid address packing) of_kind records = absurd of_kind
plain_mpe form (mpe pid) of_kind records = refl
plain_mpe form (fec pid rows parity window) of_kind records = absurd of_kind
plain_mpe form (gse isi address) of_kind records = absurd of_kind

pub added_plain : (form : RecordingForm) (it : ServiceFields) (records : List Record) (r : Record) → ((some : List Record) → frames_received form it.kind some ≡ [])
    → added_by form it records r ≡ one.added_by it records r
added_plain form it records r plain =
    ap₂ (λ (a b : List (List ℕ)). drop (length a) b) (units_tell false form it records (plain records)) (units_tell false form it (records ++ r ∷ []) (plain (records ++ r ∷ [])))

pub closed_plain : (form : RecordingForm) (it : ServiceFields) (records : List Record) → ((some : List Record) → frames_received form it.kind some ≡ [])
    → closed_by form it records ≡ []
closed_plain form it records plain =
    ap₂ (λ (a b : List (List ℕ)). drop (length a) b) (units_tell false form it records (plain records)) (units_tell true form it records (plain records))
    ∙ drop_all (length (delivered_datagrams it records)) (delivered_datagrams it records) (omega arith)

-- Services with frames.

-- its rows and its timing, and what its reception has taken
pub record IsFramed (form : RecordingForm) (it : ServiceFields) (pid : ℕ) (state : FecReceptionState) (records : List Record) : Type 0 where
  pub rows : ℕ
  pub parity : ℕ
  pub window : Option WindowFields
  pub kind_is : it.kind ≡ fec pid rows parity window
  pub taken : framed.HasTaken (timing_in form (is_some window)) rows pid state records

pub framed_of : (form : RecordingForm) (it : ServiceFields) (pid : ℕ) (state : FecReceptionState) (records : List Record)
    → ReadsFrames form state.frames it.kind → HasTakenFrames false form it.kind state records → pid_of it.kind ≡ Some pid → IsFramed form it pid state records
framed_of form it pid state records reads taken on = by_kind it.kind refl reads taken on
  where
    by_kind : (kind : KindFields) → it.kind ≡ kind → ReadsFrames form state.frames kind → HasTakenFrames false form kind state records → pid_of kind ≡ Some pid → IsFramed form it pid state records
    by_kind (ule own address packing) is reads2 taken2 on2 = absurd reads2
    by_kind (mpe own) is reads2 taken2 on2 = absurd reads2
    by_kind (fec own rows parity window) is reads2 taken2 on2 =
        let same : own ≡ pid = cc (on2) in
        record {
          rows = rows;
          parity = parity;
          window = window;
          kind_is = is ∙ ap (λ (p : ℕ). fec p rows parity window) same;
          taken = subst (λ (p : ℕ). framed.HasTaken (timing_in form (is_some window)) rows p state records) same taken2;
        }
    by_kind (gse isi address) is reads2 taken2 on2 = absurd reads2

-- its PID, where that is not told
pub own_pid : (form : RecordingForm) (frames : FramesState) (kind : KindFields) → ReadsFrames form frames kind → (pid : ℕ) × (pid_of kind ≡ Some pid)
own_pid form frames (ule pid address packing) reads = absurd reads
own_pid form frames (mpe pid) reads = absurd reads
own_pid form frames (fec pid rows parity window) reads = (pid, refl)
own_pid form frames (gse isi address) reads = absurd reads

module _ (form : RecordingForm) (it : ServiceFields) (pid rows parity : ℕ) (window : Option WindowFields) (kind_is : it.kind ≡ fec pid rows parity window) where
  abbrev timing : Timing
  timing = timing_in form (is_some window)

  pub has_taken : (state : FecReceptionState) (records : List Record) → framed.HasTaken timing rows pid state records → IsReception false form it (Fec state) records
  has_taken state records taken = record {
    reads = subst (λ (kind : KindFields). ReadsFrames form state.frames kind) (sym kind_is) taken.over;
    received = subst (λ (kind : KindFields). HasTakenFrames false form kind state records) (sym kind_is) taken;
  }

  pub has_ended : (state : FecReceptionState) (records : List Record) → framed.HasEnded timing rows pid state records → IsReception true form it (Fec state) records
  has_ended state records ended = record {
    reads = subst (λ (kind : KindFields). ReadsFrames form state.frames kind) (sym kind_is) ended.over;
    received = subst (λ (kind : KindFields). HasTakenFrames true form kind state records) (sym kind_is) ended;
  }

  pub added_framed : (records : List Record) (r : Record) → added_by form it records r ≡ framed.added_by timing rows pid records r
  added_framed records r =
      ap₂ (λ (a b : List (List ℕ)). drop (length a) b)
      (served_told it pid rows parity window kind_is false form records) (served_told it pid rows parity window kind_is false form (records ++ r ∷ []))

  pub closed_framed : (records : List Record) → closed_by form it records ≡ framed.added_by_end timing rows pid records
  closed_framed records =
      ap₂ (λ (a b : List (List ℕ)). drop (length a) b)
      (served_told it pid rows parity window kind_is false form records) (served_told it pid rows parity window kind_is true form records)

-- Receptions of frames that were given nothing.

pub fresh_kind : (form : RecordingForm) (it : ServiceFields) (pid rows parity : ℕ) (window : Option WindowFields) (new : FecReceptionState) → it.kind ≡ fec pid rows parity window
    → framed.HasTaken (timing_in form (is_some window)) rows pid new [] → IsFresh form it (Fec new)
fresh_kind form it pid rows parity window new is taken = record {
  reads = subst (λ (kind : KindFields). ReadsFrames form new.frames kind) (sym is) taken.over;
  received = λ other on. subst (λ (kind : KindFields). HasTakenFrames false form kind new []) (sym is) taken;
}

pub fresh_again : (form : RecordingForm) (it : ServiceFields) (old : FramesState) (new : FecReceptionState) → ReadsFrames form old it.kind
    → ((timing : Timing) (rows pid : ℕ) → IsOver timing rows old → framed.HasTaken timing rows pid new []) → IsFresh form it (Fec new)
fresh_again form it old new reads begun = by_kind it.kind refl reads
  where
    by_kind : (kind : KindFields) → it.kind ≡ kind → ReadsFrames form old kind → IsFresh form it (Fec new)
    by_kind (ule pid address packing) is reads2 = absurd reads2
    by_kind (mpe pid) is reads2 = absurd reads2
    by_kind (fec pid rows parity window) is reads2 = fresh_kind form it pid rows parity window new is (begun (timing_in form (is_some window)) rows pid reads2)
    by_kind (gse isi address) is reads2 = absurd reads2

-- The numbers of a reception are those of the records.

abbrev pub HasNumbers : Bool → RecordingForm → ServiceFields → ByKind → List Record → Type 0
HasNumbers ended form it reception records =
    counts_in reception ≡ service_counts_of (service_pid_numbers it records) (unit_numbers it (units_of it records)) (frame_numbers (rows_of it.kind) (told_frames ended form it.kind records))

-- where there is no frame
none_counted : (ended : Bool) (form : RecordingForm) (it : ServiceFields) (records : List Record) → frames_received form it.kind records ≡ []
    → no_frames ≡ frame_numbers (rows_of it.kind) (told_frames ended form it.kind records)
none_counted ended form it records none = ap (λ (frames : List (List TimedSection)). frame_numbers (rows_of it.kind) (closed_frames ended frames)) (sym none)

module _ (form : RecordingForm) (it : ServiceFields) (pid rows parity : ℕ) (window : Option WindowFields) (kind_is : it.kind ≡ fec pid rows parity window)
    (state : FecReceptionState) (records : List Record) where
  counted_by_frames : (ended : Bool) → state.frames.on_pid ≡ pid_numbers section_form pid records
      → unread_alone state.frames.unread ≡ unit_numbers it (units_of it records)
      → state.frames.of_frames ≡ frame_numbers rows (closed_in ended (timing_in form (is_some window)) rows pid records)
      → HasNumbers ended form it (Fec state) records
  counted_by_frames ended on_pid of_units of_frames = same_counts
      (on_pid ∙ sym (served_numbers it pid rows parity window kind_is records))
      of_units
      (of_frames
      ∙ ap₂ (λ (n : ℕ) (frames : List (List TimedSection)). frame_numbers n frames) (sym (served_rows it pid rows parity window kind_is))
      (sym (served_frames it pid rows parity window kind_is ended form records)))

  with_unread : (n : ℕ) → state.frames.unread ≡ n → unread_alone n ≡ unit_numbers it (units_of it records)
      → unread_alone state.frames.unread ≡ unit_numbers it (units_of it records)
  with_unread n is same = ap unread_alone is ∙ same

  frames_counted_so : (ended : Bool) → HasFramesOf ended (timing_in form (is_some window)) rows pid state records → HasNumbers ended form it (Fec state) records
  frames_counted_so true has =
      counted_by_frames true has.on_pid_are (with_unread _ has.unread_is (sym (served_units it pid rows parity window kind_is records))) has.of_frames_are
  frames_counted_so false has =
      counted_by_frames false has.on_pid_are (with_unread _ has.unread_is (sym (served_units it pid rows parity window kind_is records))) has.of_frames_are

pub numbers_in : (ended : Bool) (form : RecordingForm) (it : ServiceFields) (reception : ByKind) (records : List Record) → IsReception ended form it reception records
    → HasNumbers ended form it reception records
numbers_in ended form it (Ule reception) records has =
    same_counts has.received.on_pid_are has.received.of_units_are (none_counted ended form it records (plain_ule form it.kind has.reads records))
numbers_in ended form it (Mpe reception) records has =
    same_counts has.received.on_pid_are has.received.of_units_are (none_counted ended form it records (plain_mpe form it.kind has.reads records))
numbers_in ended form it (Fec state) records has = by_kind it.kind refl has.received
  where
    by_kind : (kind : KindFields) → it.kind ≡ kind → HasTakenFrames ended form kind state records → HasNumbers ended form it (Fec state) records
    by_kind (ule pid address packing) is taken = absurd taken
    by_kind (mpe pid) is taken = absurd taken
    by_kind (fec pid rows parity window) is taken = frames_counted_so form it pid rows parity window is state records ended taken
    by_kind (gse isi address) is taken = absurd taken

-- A service whose units are read has no more rows than frames can have.
pub few_rows : (form : RecordingForm) (reception : ByKind) (kind : KindFields) → ReadsKind form reception kind → rows_of kind ≤ 1024
few_rows form (Ule reception) (ule pid address packing) reads = omega arith
few_rows form (Ule reception) (mpe pid) reads = absurd reads
few_rows form (Ule reception) (fec pid rows parity window) reads = absurd reads
few_rows form (Ule reception) (gse isi address) reads = absurd reads
few_rows form (Mpe reception) (ule pid address packing) reads = absurd reads
few_rows form (Mpe reception) (mpe pid) reads = omega arith
few_rows form (Mpe reception) (fec pid rows parity window) reads = absurd reads
few_rows form (Mpe reception) (gse isi address) reads = absurd reads
few_rows form (Fec state) (ule pid address packing) reads = absurd reads
few_rows form (Fec state) (mpe pid) reads = absurd reads
few_rows form (Fec state) (fec pid rows parity window) reads = by_rows reads.rows_right
  where
    by_rows : IsRows rows → rows ≤ 1024
    by_rows (inl is) = omega (arith, is)
    by_rows (inr (inl is)) = omega (arith, is)
    by_rows (inr (inr (inl is))) = omega (arith, is)
    by_rows (inr (inr (inr is))) = omega (arith, is)
few_rows form (Fec state) (gse isi address) reads = absurd reads

pub few_rows_on : (form : RecordingForm) (reception : ByKind) (kind : KindFields) (pid : ℕ) → ReadsKind form reception (with_pid kind pid) → rows_of kind ≤ 1024
few_rows_on form reception kind pid reads = omega (arith, few_rows form reception (with_pid kind pid) reads, rows_stay kind pid)

-- The reception of a kind reads its units on each PID.

pub reads_again : (form : RecordingForm) (reception : ByKind) (kind : KindFields) (p q : ℕ) → ReadsKind form reception (with_pid kind p) → ReadsKind form reception (with_pid kind q)
reads_again form (Ule reception) (ule old address packing) p q reads = reads
reads_again form (Ule reception) (mpe old) p q reads = reads
reads_again form (Ule reception) (fec old rows parity window) p q reads = reads
reads_again form (Ule reception) (gse isi address) p q reads = reads
reads_again form (Mpe reception) (ule old address packing) p q reads = reads
reads_again form (Mpe reception) (mpe old) p q reads = reads
reads_again form (Mpe reception) (fec old rows parity window) p q reads = reads
reads_again form (Mpe reception) (gse isi address) p q reads = reads
reads_again form (Fec state) (ule old address packing) p q reads = reads
reads_again form (Fec state) (mpe old) p q reads = reads
reads_again form (Fec state) (fec old rows parity window) p q reads = reads
reads_again form (Fec state) (gse isi address) p q reads = reads

-- A record that is no packet of the PID leaves what was received.
pub reception_stays : (form : RecordingForm) (it : ServiceFields) (pid : ℕ) (reception : ByKind) (records : List Record) (r : Record) → pid_of it.kind ≡ Some pid → is_on pid r ≡ false
    → IsReception false form it reception records → IsReception false form it reception (records ++ r ∷ [])
reception_stays form it pid (Ule reception) records r on off has = record { reads = has.reads; received = received_stays it pid reception records r on off has.received }
reception_stays form it pid (Mpe reception) records r on off has = record { reads = has.reads; received = received_stays it pid reception records r on off has.received }
reception_stays form it pid (Fec state) records r on off has =
    let f = framed_of form it pid state records has.reads has.received on in
    has_taken form it pid f.rows f.parity f.window f.kind_is state (records ++ r ∷ []) (frames_stay _ f.rows pid state records r off f.taken)

-- What received nothing has received records without a packet of the PID.

plain_blank : (it : ServiceFields) (pid : ℕ) (state : one.ReceptionState) (records : List Record) → pid_of it.kind ≡ Some pid → received_packets pid records ≡ []
    → service_pid_numbers it records ≡ no_numbers → units_of it records ≡ [] → one.HasTaken it state [] → one.HasTaken it state records
plain_blank it pid state records on packets numbers units none = record {
  pid = pid;
  pid_is = on;
  last_is = none.last_is ∙ ap (last_bytes None) (sym packets);
  stands = subst (λ (t : List Arrival). Stands (form_of_kind it.kind) state.joiner t) (sym packets) none.stands;
  on_pid_are = none.on_pid_are ∙ ap (λ (p : Option ℕ). numbers_if_on (form_of_kind it.kind) p []) on ∙ sym numbers;
  of_units_are = none.of_units_are ∙ ap (λ (p : Option ℕ). unit_numbers it (units_on (form_of_kind it.kind) p [])) on ∙ ap (unit_numbers it) (sym units);
}

-- the frames of packets
abbrev frames_of : Timing → ℕ → List Arrival → List (List TimedSection)
frames_of timing rows packets = received_frames timing rows (flat_map (sections_of_unit rows) (accepted_in section_form packets))

framed_blank : (timing : Timing) (rows pid : ℕ) (state : FecReceptionState) (records : List Record) → received_packets pid records ≡ []
    → pid_numbers section_form pid records ≡ no_numbers → framed.HasTaken timing rows pid state [] → framed.HasTaken timing rows pid state records
framed_blank timing rows pid state records packets numbers none = record {
  over = none.over;
  last_is = none.last_is ∙ ap (last_bytes None) (sym packets);
  stands = subst (λ (t : List Arrival). Stands section_form state.joiner t) (sym packets) none.stands;
  on_pid_are = none.on_pid_are ∙ sym numbers;
  unread_is = none.unread_is ∙ ap (λ (t : List Arrival). count_by (is_unread rows) (map (λ (a : PlacedUnit). a.unit) (accepted_in section_form t))) (sym packets);
  of_frames_are = none.of_frames_are ∙ ap (λ (t : List Arrival). frame_numbers rows (closed_frames false (frames_of timing rows t))) (sym packets);
  table_stands = subst (λ (t : List Arrival). TableStands state.frames.table (sections_of (open_sections (frames_of timing rows t)))) (sym packets) none.table_stands;
  seen_is = none.seen_is ∙ ap (λ (t : List Arrival). last_time (open_sections (frames_of timing rows t))) (sym packets);
}

pub reception_blank : (form : RecordingForm) (it : ServiceFields) (pid : ℕ) (reception : ByKind) (records : List Record) → pid_of it.kind ≡ Some pid → received_packets pid records ≡ []
    → service_pid_numbers it records ≡ no_numbers → units_of it records ≡ [] → IsFresh form it reception → IsReception false form it reception records
reception_blank form it pid (Ule reception) records on packets numbers units fresh =
    record { reads = fresh.reads; received = plain_blank it pid reception records on packets numbers units (fresh.received pid on) }
reception_blank form it pid (Mpe reception) records on packets numbers units fresh =
    record { reads = fresh.reads; received = plain_blank it pid reception records on packets numbers units (fresh.received pid on) }
reception_blank form it pid (Fec state) records on packets numbers units fresh =
    let f = framed_of form it pid state [] fresh.reads (fresh.received pid on) on in
    has_taken form it pid f.rows f.parity f.window f.kind_is state records
    (framed_blank _ f.rows pid state records packets (sym (served_numbers it pid f.rows f.parity f.window f.kind_is records) ∙ numbers) f.taken)
