-- All that is delivered are IP datagrams.
use Rattle.std.proofs.Common.{◌≡◌, ℕ, ◌+◌, ◌*◌, Bool, true, false, ◌&&◌, cond, eqb, List, [], ◌∷◌, length, map, take, drop, refl, ◌∙◌, Option, Some, None}
use Rattle.std.specs.Prelude.{All, option_to_list, option_map}
use Rattle.std.specs.List.{range_with_len}
use Rattle.std.proofs.lemmas.Bool.{and_parts, cond-true, cond-false}
use Rattle.std.proofs.lemmas.List.Elements.{All-nil, All-cons, All-append, All-drop, All-map}
use Rattle.wire_spec.specs.Datagram.{IsDatagram, total_length, ipv6_length, has_ipv4_front, has_ipv6_front, front_length, datagram_of_type}
use Rattle.ip_datagram.proofs.Fronts.{IsFront-front_length, ipv6_parts, ipv6_is_no_ipv4}
use Rattle.ts_spec.specs.Recording.{RecordingForm, Record}
use Rattle.ts_spec.specs.Chain.{ChainEnd, cut, ended, chain_end, datagram_at}
use Rattle.ts_spec.specs.Sndu.{sndu_fields}
use Rattle.section_spec.specs.Section.{SectionFields, section_fields}
use Rattle.section_spec.specs.Mpe.{MpeFields, has_mpe_head, mpe_with, mpe_of}
use Rattle.fec_frame_spec.specs.Sections.{TimedSection, sections_of, data_of}
use Rattle.fec_frame_spec.specs.Known.{known_byte}
use Rattle.fec_frame_spec.specs.Corrected.{corrected_byte}
use Rattle.fec_frame_spec.specs.Starts.{known_run, front_datagram, datagram_from, starts_below}
use Rattle.fec_frame_spec.specs.Delivered.{frame_datagrams, datagrams_of_frames}
use Rattle.plan_spec.specs.Plan.{KindFields, ule, mpe, fec, gse, ServiceFields, PlanFields, isi_of}
use Rattle.plan_spec.specs.Changes.{pids_in}
use Rattle.stream_spec.specs.Services.{carried_by_unit}
use Rattle.outlet_spec.specs.Pairs.{pairs_of_all}
use Rattle.reception_spec.specs.Units.{wants_unit, delivered_by_unit}
use Rattle.reception_spec.specs.Numbers.{units_of}
use Rattle.reception_spec.specs.Frames.{told_frames, rows_of}
use Rattle.reception_spec.specs.Spans.{span_of}
use Rattle.reception_spec.specs.Delivered.{delivered_datagrams, told_by, service_on, takes_no_more, told_on, told_of, delivered_on, delivered_of, given_by_record, given_by_end, pairs_of_record}
use Rattle.addr_rules.specs.Filter.{is_wanted}
use Rattle.gse_spec.specs.Reassembly.{Pdu, PlacedPdu}
use Rattle.gse_spec.specs.Received.{carried_by_pdu, delivered_by_pdu, received_pdus}
use Rattle.bb_reception_spec.specs.Delivered.{delivered_on as delivered_on_isi, delivered_of as delivered_of_frames, service_at, given_by_frame, pairs_of_frame}
use Rattle.recording_spec.specs.Pieces.{records_in, delivered_pairs}
use Rattle.recording_law.proofs.Pieces.{told_pairs_on, pairs_of_end_on, delivered_pairs_on}
use Rattle.recording_spec.specs.Relayed.{relayed}
use Rattle.recording_law.proofs.Merged.{all_flat}

-- bytes that a header measures
front_is : (b : List ℕ) (n : ℕ) → front_length b ≡ Some n → IsDatagram (take n b)
front_is b n told = (IsFront-front_length b n told).datagram

none : All IsDatagram []
none = All-nil IsDatagram

one : (datagram : List ℕ) → IsDatagram datagram → All IsDatagram (datagram ∷ [])
one datagram is = All-cons IsDatagram datagram [] is none

-- what an EtherType announces
of_type : (ether_type : ℕ) (b : List ℕ) → All IsDatagram (option_to_list (datagram_of_type ether_type b))
of_type ether_type b = by_four (eqb ether_type 0x0800 && has_ipv4_front b) refl
  where
    six_is : has_ipv6_front b ≡ true → IsDatagram (take (ipv6_length b) b)
    six_is six =
        front_is b (ipv6_length b)
        (cond-false (has_ipv4_front b) (Some (total_length b)) (cond (has_ipv6_front b) (Some (ipv6_length b)) None) (ipv6_is_no_ipv4 b (ipv6_parts b six).0)
        ∙ cond-true (has_ipv6_front b) (Some (ipv6_length b)) None six)

    four_is : has_ipv4_front b ≡ true → IsDatagram (take (total_length b) b)
    four_is four = front_is b (total_length b) (cond-true (has_ipv4_front b) (Some (total_length b)) (cond (has_ipv6_front b) (Some (ipv6_length b)) None) four)

    by_six : (s : Bool) → (eqb ether_type 0x86DD && has_ipv6_front b) ≡ s → All IsDatagram (option_to_list (cond s (Some (take (ipv6_length b) b)) None))
    by_six true is = one (take (ipv6_length b) b) (six_is (and_parts (eqb ether_type 0x86DD) (has_ipv6_front b) is).1)
    by_six false is = none

    by_four : (f : Bool) → (eqb ether_type 0x0800 && has_ipv4_front b) ≡ f
        → All IsDatagram (option_to_list (cond f (Some (take (total_length b) b)) (cond (eqb ether_type 0x86DD && has_ipv6_front b) (Some (take (ipv6_length b) b)) None)))
    by_four true is = one (take (total_length b) b) (four_is (and_parts (eqb ether_type 0x0800) (has_ipv4_front b) is).1)
    by_four false is = by_six (eqb ether_type 0x86DD && has_ipv6_front b) refl

at_end : (end : ChainEnd) → All IsDatagram (option_to_list (datagram_at end))
at_end cut = none
at_end (ended last_type behind) = of_type last_type behind

-- a datagram_section
in_body : (body : List ℕ) (o : Option ℕ) → front_length (drop 9 body) ≡ o → All IsDatagram (option_to_list (option_map (λ (m : MpeFields). m.datagram) (mpe_with body o)))
in_body body None told = none
in_body body (Some n) told = one (take n (drop 9 body)) (front_is (drop 9 body) n told)

in_section : (s : SectionFields) → All IsDatagram (option_to_list (option_map (λ (m : MpeFields). m.datagram) (mpe_of s)))
in_section s = by_head (has_mpe_head s)
  where
    by_head : (b : Bool) → All IsDatagram (option_to_list (option_map (λ (m : MpeFields). m.datagram) (cond b (mpe_with s.body (front_length (drop 9 s.body))) None)))
    by_head true = in_body s.body (front_length (drop 9 s.body)) refl
    by_head false = none

-- a unit
in_unit : (kind : KindFields) (unit : List ℕ) → All IsDatagram (carried_by_unit kind unit)
in_unit (ule pid address packing) unit = at_end (chain_end (sndu_fields unit).first_type (sndu_fields unit).bytes)
in_unit (mpe pid) unit = in_section (section_fields unit)
in_unit (fec pid rows parity window) unit = none
in_unit (gse isi address) unit = none

by_unit : (service : ServiceFields) (unit : List ℕ) → All IsDatagram (delivered_by_unit service unit)
by_unit service unit = by_test (wants_unit service unit)
  where
    by_test : (b : Bool) → All IsDatagram (cond b (carried_by_unit service.kind unit) [])
    by_test true = in_unit service.kind unit
    by_test false = none

-- a frame
in_run : (run : List ℕ) (o : Option ℕ) → front_length run ≡ o → All IsDatagram (front_datagram run o)
in_run run None told = none
in_run run (Some n) told = one (take n run) (front_is run n told)

in_frames : (rows : ℕ) (frames : List (List TimedSection)) → All IsDatagram (datagrams_of_frames rows frames)
in_frames rows frames =
    all_flat IsDatagram (λ (group : List TimedSection). frame_datagrams rows (sections_of group)) frames
    (λ group. all_flat IsDatagram (datagram_from rows (corrected_byte rows (known_byte rows (sections_of group))))
    (starts_below rows (corrected_byte rows (known_byte rows (sections_of group))) (data_of (sections_of group)) (191 * rows + 1))
    (λ place. in_run (known_run rows (corrected_byte rows (known_byte rows (sections_of group))) place)
    (front_length (known_run rows (corrected_byte rows (known_byte rows (sections_of group))) place)) refl))

-- a service in a span, so far or at its end
in_span : (is_last : Bool) (form : RecordingForm) (service : ServiceFields) (records : List Record) → All IsDatagram (told_by is_last form service records)
in_span is_last form service records =
    All-append IsDatagram (delivered_datagrams service records) (datagrams_of_frames (rows_of service.kind) (told_frames is_last form service.kind records))
    (all_flat IsDatagram (delivered_by_unit service) (units_of service records) (by_unit service))
    (in_frames (rows_of service.kind) (told_frames is_last form service.kind records))

in_told : (plan : PlanFields) (k : ℕ) (records : List Record) → All IsDatagram (told_of plan k records)
in_told plan k records =
    all_flat IsDatagram (told_on plan k records) (pids_in plan k)
    (λ pid. in_span (takes_no_more plan records k pid) plan.recording (service_on plan k pid) (span_of plan k pid records))

in_delivered : (plan : PlanFields) (k : ℕ) (records : List Record) → All IsDatagram (delivered_of plan k records)
in_delivered plan k records =
    all_flat IsDatagram (delivered_on plan k records) (pids_in plan k) (λ pid. in_span true plan.recording (service_on plan k pid) (span_of plan k pid records))

-- GSE
in_pdu : (filter : List (List ℕ)) (pdu : Pdu) → All IsDatagram (delivered_by_pdu carried_by_pdu filter pdu)
in_pdu filter pdu = by_test (is_wanted filter pdu.label)
  where
    by_test : (b : Bool) → All IsDatagram (cond b (carried_by_pdu pdu) [])
    by_test true = at_end (chain_end pdu.protocol pdu.bytes)
    by_test false = none

on_isi : (o : Option ℕ) (filter frames : List (List ℕ)) → All IsDatagram (delivered_on_isi o filter frames)
on_isi None filter frames = none
on_isi (Some isi) filter frames =
    all_flat IsDatagram (λ (x : PlacedPdu). delivered_by_pdu carried_by_pdu filter x.pdu) (received_pdus isi frames) (λ x. in_pdu filter x.pdu)

in_baseband : (plan : PlanFields) (k : ℕ) (frames : List (List ℕ)) → All IsDatagram (delivered_of_frames plan k frames)
in_baseband plan k frames = on_isi (isi_of (service_at plan k).kind) (service_at plan k).filter frames

-- Pairs.

abbrev pub HoldDatagrams : List (ℕ × List ℕ) → Type 0
HoldDatagrams pairs = All (λ (pair : ℕ × List ℕ). IsDatagram pair.1) pairs

of_service : (k : ℕ) (datagrams : List (List ℕ)) → All IsDatagram datagrams → HoldDatagrams (map (λ datagram. (k, datagram)) datagrams)
of_service k datagrams all = All-map (λ (pair : ℕ × List ℕ). IsDatagram pair.1) (λ (datagram : List ℕ). (k, datagram)) datagrams all

of_all : (plan : PlanFields) (datagrams : ℕ → List (List ℕ)) → ((k : ℕ) → All IsDatagram (datagrams k)) → HoldDatagrams (pairs_of_all (length plan.services) datagrams)
of_all plan datagrams each =
    all_flat (λ (pair : ℕ × List ℕ). IsDatagram pair.1) (λ k. map (λ datagram. (k, datagram)) (datagrams k)) (range_with_len 0 (length plan.services))
    (λ k. of_service k (datagrams k) (each k))

told_hold : (carrier : Option ℕ) (plan : PlanFields) (pieces : List (List ℕ)) → HoldDatagrams (told_pairs_on carrier plan pieces)
told_hold None plan pieces =
    all_flat (λ (pair : ℕ × List ℕ). IsDatagram pair.1) (pairs_of_record plan (records_in plan pieces)) (range_with_len 0 (length (records_in plan pieces)))
    (λ place. of_all plan (λ k. given_by_record plan k (records_in plan pieces) place)
    (λ k. All-drop IsDatagram (length (told_of plan k (take place (records_in plan pieces)))) (told_of plan k (take (place + 1) (records_in plan pieces)))
    (in_told plan k (take (place + 1) (records_in plan pieces)))))
told_hold (Some size) plan frames =
    all_flat (λ (pair : ℕ × List ℕ). IsDatagram pair.1) (pairs_of_frame plan frames) (range_with_len 0 (length frames))
    (λ place. of_all plan (λ k. given_by_frame plan k frames place)
    (λ k. All-drop IsDatagram (length (delivered_of_frames plan k (take place frames))) (delivered_of_frames plan k (take (place + 1) frames))
    (in_baseband plan k (take (place + 1) frames))))

end_hold : (carrier : Option ℕ) (plan : PlanFields) (pieces : List (List ℕ)) → HoldDatagrams (pairs_of_end_on carrier plan pieces)
end_hold None plan pieces =
    of_all plan (λ k. given_by_end plan k (records_in plan pieces))
    (λ k. All-drop IsDatagram (length (told_of plan k (records_in plan pieces))) (delivered_of plan k (records_in plan pieces)) (in_delivered plan k (records_in plan pieces)))
end_hold (Some size) plan frames = All-nil (λ (pair : ℕ × List ℕ). IsDatagram pair.1)

pub all_hold : (carrier : Option ℕ) (plan : PlanFields) (pieces : List (List ℕ)) → HoldDatagrams (delivered_pairs_on carrier plan pieces)
all_hold carrier plan pieces =
    All-append (λ (pair : ℕ × List ℕ). IsDatagram pair.1) (told_pairs_on carrier plan pieces) (pairs_of_end_on carrier plan pieces)
    (told_hold carrier plan pieces) (end_hold carrier plan pieces)

pub relayed_are : (plan : PlanFields) (pieces : List (List ℕ)) → All IsDatagram (relayed plan pieces)
relayed_are plan pieces =
    All-map IsDatagram (λ (pair : ℕ × List ℕ). pair.1) (delivered_pairs plan pieces) (all_hold plan.frame_bytes plan pieces)
