-- The numbers of a report add up.
use Rattle.std.proofs.Common.{◌≡◌, ℕ, suc, ◌+◌, ◌*◌, true, All, Option, None, Some, List, [], ◌∷◌, length, map, flat_map, fold, get_or, refl, ap, sym, subst, ◌∙◌, arith, length-append}
use Rattle.std.specs.Prelude.{is_some, sum_by}
use Rattle.std.specs.List.{range_with_len}
use Rattle.std.proofs.lemmas.List.{length-map}
use Rattle.wire_spec.specs.Lists.{joined, IsCut}
use Rattle.ts_spec.specs.Recording.{Record, RecordingForm}
use Rattle.channel_law.proofs.Late.{length-records}
use Rattle.carrier_spec.specs.Stream.{piece_size}
use Rattle.plan_spec.specs.Plan.{KindFields, ule, mpe, fec, gse, PlanFields, isi_of, pid_of}
use Rattle.plan_spec.specs.Changes.{no_service, with_pid, pid_in, pids_in}
use Rattle.plan_spec.specs.Wholes.{is_whole_plan}
use Rattle.plan_law.proofs.Plans.{changes_right}
use Rattle.reception_spec.specs.Frames.{told_frames, rows_of, FrameNumbers, no_frames, sum_of_frames, frame_numbers}
use Rattle.reception_spec.specs.Spans.{span_of}
use Rattle.reception_spec.specs.Delivered.{service_on}
use Rattle.reception_spec.specs.Numbers.{no_numbers, units_of, unit_numbers}
use Rattle.reception_spec.specs.Sums.{sum_of_numbers, numbers_on as numbers_on_pid, frame_numbers_on, frame_numbers_of}
use Rattle.reception_law.proofs.Sums.{frames_sum, first_and_rest}
use Rattle.gse_spec.specs.Reassembly.{pdu_of}
use Rattle.gse_spec.specs.Received.{carried_by_pdu, received_gse_packets, received_pdus}
use Rattle.gse_spec.specs.Numbers.{pdus_of, pdu_numbers}
use Rattle.gse_law.proofs.PduNumbers.{counted_once}
use Rattle.gse_law.proofs.PduEvents.{events_counted}
use Rattle.bb_reception_spec.specs.Numbers.{numbers_on, pdus_on, numbers_of as numbers_in_frames}
use Rattle.bb_stream_law.proofs.PlanChecks.{AreBaseband, of_whole}
use Rattle.recording_spec.specs.Pieces.{by_carrier, records_in}
use Rattle.service_counts.specs.declared.counts.ServiceCounts.{ServiceCounts}
use Rattle.demux_core.specs.Counts.{stream_counts_of, counts_of_service}
use Rattle.bb_demux.specs.Counts.{stream_counts_of as counts_of_frames, counts_of_service as counts_in_frames}
use Rattle.reception_spec.specs.Sums.{stream_numbers}
use Rattle.bb_reception_spec.specs.Numbers.{recording_numbers}
use Rattle.receive_command.specs.Report.{counts_of_pieces, counts_of_service_in}
use Rattle.stream_spec.specs.Services.{kind_at}
use Rattle.stream_law.specs.Words.{is_single}
use Rattle.count_law.specs.Packets.{packets_of_table, frames_of_services}
use Rattle.count_law.specs.Report.{pieces_of_services, pieces_of_table, gives_by_units}
use Rattle.count_law.proofs.Times.{total-sum_by, total_same}
use Rattle.count_law.proofs.Whole.{no_pids, records_counted}
use Rattle.count_law.proofs.Units.{kind_is_at, all_units_counted}
use Rattle.count_law.proofs.InFrames.{frames_counted}

-- All pieces.

abbrev PiecesAddUp : Option ℕ → PlanFields → List (List ℕ) → Type 0
PiecesAddUp carrier plan pieces =
    (by_carrier carrier (stream_counts_of (stream_numbers plan (records_in plan pieces))) (counts_of_frames (recording_numbers plan pieces))).records
    ≡ (by_carrier carrier (stream_counts_of (stream_numbers plan (records_in plan pieces))) (counts_of_frames (recording_numbers plan pieces))).unreadable
    + (by_carrier carrier (stream_counts_of (stream_numbers plan (records_in plan pieces))) (counts_of_frames (recording_numbers plan pieces))).without_payload
    + (by_carrier carrier (stream_counts_of (stream_numbers plan (records_in plan pieces))) (counts_of_frames (recording_numbers plan pieces))).other
    + sum_by (λ k. (by_carrier carrier (counts_of_service true plan k (records_in plan pieces)) (counts_in_frames plan k pieces)).heard
    + (by_carrier carrier (counts_of_service true plan k (records_in plan pieces)) (counts_in_frames plan k pieces)).repeats) (range_with_len 0 (length plan.services))
    + by_carrier carrier (packets_of_table plan.table (records_in plan pieces)) 0

frames_and_none : (plan : PlanFields) (pieces : List (List ℕ))
    → sum_by (λ k. (counts_in_frames plan k pieces).heard + (counts_in_frames plan k pieces).repeats) (range_with_len 0 (length plan.services)) ≡ frames_of_services plan pieces
frames_and_none plan pieces =
    let range : List ℕ = range_with_len 0 (length plan.services) in
    total-sum_by (λ k. (counts_in_frames plan k pieces).heard + (counts_in_frames plan k pieces).repeats) range
    ∙ total_same (λ k. (counts_in_frames plan k pieces).heard + (counts_in_frames plan k pieces).repeats) (λ k. (numbers_in_frames plan k pieces).heard) (λ k. none_more (numbers_in_frames plan k pieces).heard) range
    ∙ sym (total-sum_by (λ k. (numbers_in_frames plan k pieces).heard) range)
  where
    none_more : (n : ℕ) → n + 0 ≡ n
    none_more n = omega arith

pieces_by : (plan : PlanFields) (pieces : List (List ℕ)) → is_whole_plan plan ≡ true → (carrier : Option ℕ) → plan.frame_bytes ≡ carrier → PiecesAddUp carrier plan pieces
pieces_by plan pieces whole None is = records_counted plan (records_in plan pieces) (changes_right plan whole)
pieces_by plan pieces whole (Some size) is =
    let baseband : AreBaseband plan = of_whole plan whole (ap is_some is) in
    let all = frames_counted plan baseband.differ pieces in
    omega (arith, all, frames_and_none plan pieces)

pub pieces_add_up : (plan : PlanFields) (pieces : List (List ℕ)) → is_whole_plan plan ≡ true
    → (counts_of_pieces plan pieces).records
    ≡ (counts_of_pieces plan pieces).unreadable + (counts_of_pieces plan pieces).without_payload + (counts_of_pieces plan pieces).other + pieces_of_services plan pieces + pieces_of_table plan pieces
pieces_add_up plan pieces whole = pieces_by plan pieces whole plan.frame_bytes refl

-- Their bytes.

piece_bytes : (size : ℕ) (pieces : List (List ℕ)) → All (λ piece. length piece ≡ size) pieces → length (joined pieces) ≡ length pieces * size
piece_bytes size [] each = omega arith
piece_bytes size (piece ∷ pieces) each =
    let rest = piece_bytes size pieces (λ k d less. each (suc k) d (omega (arith, less))) in
    let one : length piece ≡ size = each 0 [] (omega arith) in
    let both = length-append piece (joined pieces) in
    omega (arith, rest, one, both)

pieces_by_count : (plan : PlanFields) (pieces : List (List ℕ)) (carrier : Option ℕ)
    → (by_carrier carrier (stream_counts_of (stream_numbers plan (records_in plan pieces))) (counts_of_frames (recording_numbers plan pieces))).records ≡ length pieces
pieces_by_count plan pieces None = length-records plan.recording pieces
pieces_by_count plan pieces (Some size) = refl

pub bytes_add_up : (plan : PlanFields) (bytes : List ℕ) (pieces : List (List ℕ)) (tail : List ℕ) → IsCut (piece_size plan) bytes pieces tail
    → length bytes ≡ (counts_of_pieces plan pieces).records * piece_size plan + length tail
bytes_add_up plan bytes pieces tail cut =
    ap length cut.whole ∙ length-append (joined pieces) tail
    ∙ ap (λ (n : ℕ). n + length tail) (piece_bytes (piece_size plan) pieces cut.each ∙ ap (λ (n : ℕ). n * piece_size plan) (sym (pieces_by_count plan pieces plan.frame_bytes)))

-- The units of a service.

abbrev kind_of : PlanFields → ℕ → KindFields
kind_of plan k = (get_or plan.services k no_service).kind

abbrev UnitsAddUp : ServiceCounts → Type 0
UnitsAddUp counts = counts.units ≡ counts.unread + counts.filtered + counts.datagrams

no_frames_of : (kind : KindFields) (form : RecordingForm) (records : List Record) → is_single kind ≡ true → (frame_numbers (rows_of kind) (told_frames true form kind records)).datagrams ≡ 0
no_frames_of (ule pid address packing) form records is = refl
no_frames_of (mpe pid) form records is = refl
no_frames_of (fec pid rows parity window) form records is = absurd (cc)
no_frames_of (gse isi address) form records is = absurd (cc)

on_another : (kind : KindFields) (pid : ℕ) → is_single kind ≡ true → is_single (with_pid kind pid) ≡ true
on_another (ule old address packing) pid is = refl
on_another (mpe old) pid is = refl
on_another (fec old rows parity window) pid is = absurd (cc)
on_another (gse isi address) pid is = absurd (cc)

no_frames_on : (plan : PlanFields) (k : ℕ) (records : List Record) → is_single (kind_of plan k) ≡ true → (pids : List ℕ)
    → (fold sum_of_frames no_frames (map (frame_numbers_on true plan k records) pids)).datagrams ≡ 0
no_frames_on plan k records is [] = refl
no_frames_on plan k records is (pid ∷ pids) =
    let parts = ap (λ (n : FrameNumbers). n.datagrams) (first_and_rest sum_of_frames no_frames frames_sum (frame_numbers_on true plan k records pid) (map (frame_numbers_on true plan k records) pids)) in
    let one : (frame_numbers_on true plan k records pid).datagrams ≡ 0 =
    no_frames_of (service_on plan k pid).kind plan.recording (span_of plan k pid records) (on_another (kind_of plan k) pid is) in
    omega (arith, parts, one, no_frames_on plan k records is pids)

in_packets : (plan : PlanFields) (k : ℕ) (records : List Record) → is_single (kind_of plan k) ≡ true → UnitsAddUp (counts_of_service true plan k records)
in_packets plan k records is =
    let units = all_units_counted plan k records (sym (ap is_single (kind_is_at plan k)) ∙ is) in
    let none : (frame_numbers_of plan k records).datagrams ≡ 0 = no_frames_on plan k records is (pids_in plan k) in
    omega (arith, units, none)

-- of PDUs
in_frames_on : (filter : List (List ℕ)) (o : Option ℕ) (frames : List (List ℕ))
    → (numbers_on o frames).units ≡ (pdu_numbers carried_by_pdu filter (pdus_on o frames)).unread + (pdu_numbers carried_by_pdu filter (pdus_on o frames)).filtered
    + (pdu_numbers carried_by_pdu filter (pdus_on o frames)).datagrams
in_frames_on filter None frames = refl
in_frames_on filter (Some isi) frames =
    events_counted [] (received_gse_packets isi frames) ∙ sym (length-map (received_pdus isi frames) pdu_of) ∙ sym (counted_once filter (pdus_of isi frames))

in_frames : (plan : PlanFields) (k : ℕ) (frames : List (List ℕ)) → UnitsAddUp (counts_in_frames plan k frames)
in_frames plan k frames = in_frames_on (get_or plan.services k no_service).filter (isi_of (kind_of plan k)) frames

-- a service of PDUs has no packets
abbrev UnitsOver : PlanFields → ℕ → List Record → List ℕ → Type 0
UnitsOver plan k records pids =
    (fold sum_of_numbers no_numbers (map (numbers_on_pid plan k records) pids)).units
    ≡ (unit_numbers (get_or plan.services k no_service) (flat_map (λ pid. units_of (service_on plan k pid) (span_of plan k pid records)) pids)).unread
    + (unit_numbers (get_or plan.services k no_service) (flat_map (λ pid. units_of (service_on plan k pid) (span_of plan k pid records)) pids)).filtered
    + ((unit_numbers (get_or plan.services k no_service) (flat_map (λ pid. units_of (service_on plan k pid) (span_of plan k pid records)) pids)).datagrams
    + (fold sum_of_frames no_frames (map (frame_numbers_on true plan k records) pids)).datagrams)

no_packets : (plan : PlanFields) (k : ℕ) (records : List Record) → pids_in plan k ≡ [] → UnitsAddUp (counts_of_service true plan k records)
no_packets plan k records none = subst (UnitsOver plan k records) (sym none) (let nothing : UnitsOver plan k records [] = refl in nothing)

first_pid : (plan : PlanFields) (k : ℕ) → pid_in plan 0 k ≡ pid_of (kind_of plan k)
unfolding pid_in
first_pid plan k = refl

gives_by : (plan : PlanFields) (k : ℕ) (records : List Record) (kind : KindFields) → kind_of plan k ≡ kind → gives_by_units kind ≡ true → UnitsAddUp (counts_of_service true plan k records)
gives_by plan k records (ule pid address packing) is may = in_packets plan k records (ap is_single is)
gives_by plan k records (mpe pid) is may = in_packets plan k records (ap is_single is)
gives_by plan k records (fec pid rows parity window) is may = absurd (cc)
gives_by plan k records (gse isi address) is may = no_packets plan k records (no_pids plan k (first_pid plan k ∙ ap pid_of is))

units_by : (carrier : Option ℕ) (plan : PlanFields) (pieces : List (List ℕ)) (k : ℕ) → gives_by_units (kind_of plan k) ≡ true
    → UnitsAddUp (by_carrier carrier (counts_of_service true plan k (records_in plan pieces)) (counts_in_frames plan k pieces))
units_by None plan pieces k may = gives_by plan k (records_in plan pieces) (kind_of plan k) refl may
units_by (Some size) plan pieces k may = in_frames plan k pieces

pub units_add_up : (plan : PlanFields) (pieces : List (List ℕ)) (k : ℕ) → gives_by_units (kind_at plan k) ≡ true
    → (counts_of_service_in plan pieces k).units
    ≡ (counts_of_service_in plan pieces k).unread + (counts_of_service_in plan pieces k).filtered + (counts_of_service_in plan pieces k).datagrams
units_add_up plan pieces k may = units_by plan.frame_bytes plan pieces k (ap gives_by_units (kind_is_at plan k) ∙ may)
