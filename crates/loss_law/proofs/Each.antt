-- A recording for all services is one for each.
use Rattle.std.proofs.Common.{◌≡◌, ℕ, ◌<◌, true, None, Some, List, length, refl, sym, ◌∙◌, subst}
use Rattle.std.specs.Prelude.{Contains}
use Rattle.ts_spec.specs.Form.{UnitForm}
use Rattle.ts_spec.specs.Recording.{Record, RecordingForm, plain, stamped, m2ts, records_of}
use Rattle.ts_spec.specs.Received.{record_at, arrival_at, arrivals}
use Rattle.ts_spec.specs.Packetized.{IsIn}
use Rattle.ts_spec.specs.Reassembly.{PlacedUnit}
use Rattle.section_spec.specs.Section.{section_form}
use Rattle.channel_spec.specs.Channel.{Channel}
use Rattle.channel_spec.specs.Stamps.{KeepsStamps, IsOfPid, KeepsStampsOf}
use Rattle.channel_spec.specs.Spans.{IsSpanOf, HasNoLoneCopies}
use Rattle.channel_spec.specs.Carried.{packets_sent, IsSentUnit, NoUndetectedError, IsAccepted}
use Rattle.slice_spec.specs.Moments.{ten}
use Rattle.fec_frame_law.specs.Kept.{IsAcceptedOf}
use Rattle.plan_spec.specs.Plan.{KindFields, ule, mpe, fec, gse, PlanFields}
use Rattle.plan_spec.specs.Changes.{pids_in, all_pids}
use Rattle.stream_spec.specs.Services.{kind_at, form_of_kind, IsPidOf, AreCarried}
use Rattle.reception_spec.specs.Spans.{span_of}
use Rattle.loss_law.specs.Loss.{CarriesFor}
use Rattle.loss_law.specs.Frames.{HasMomentsFor, IsHeardOften}
use Rattle.loss_law.specs.Isolation.{reads_moments}
use Rattle.loss_law.specs.Spans.{IsSameChannel, IsRecordedFor}
use Rattle.loss_law.proofs.Fewer.{channel_for, own_same}
use Rattle.loss_law.proofs.KeptStamps.{moments_kept}
use Rattle.loss_law.proofs.ServiceSpans.{span_is}

-- What is said of records by their places is said in both of two such channels.

module _ {pids others : List ℕ} {sent recorded : List Record} (channel : Channel pids sent recorded) (other : Channel others sent recorded) (same : IsSameChannel channel other) where
  sent_there : (pid : ℕ) (units : List (List ℕ)) (begin : ℕ → ℕ) (n : ℕ) (a : PlacedUnit) → IsSentUnit channel pid units begin n a → IsSentUnit other pid units begin n a
  sent_there pid units begin n a is = record { packet = is.packet; start = is.start; record_is = same.place a.place ∙ is.record_is; bytes = is.bytes }

  sent_here : (pid : ℕ) (units : List (List ℕ)) (begin : ℕ → ℕ) (n : ℕ) (a : PlacedUnit) → IsSentUnit other pid units begin n a → IsSentUnit channel pid units begin n a
  sent_here pid units begin n a is = record { packet = is.packet; start = is.start; record_is = sym (same.place a.place) ∙ is.record_is; bytes = is.bytes }

  no_error_there : (span : List Record) (form : UnitForm) (pid : ℕ) (units : List (List ℕ)) (begin : ℕ → ℕ) → NoUndetectedError channel span form pid units begin
      → NoUndetectedError other span form pid units begin
  no_error_there span form pid units begin detected = record {
    each = λ accepted contained.
        let found = detected.each accepted contained in
        (found.0, sent_there pid units begin found.0 accepted found.1);
  }

  module _ (span : List Record) (pid : ℕ) (units : List (List ℕ)) (begin : ℕ → ℕ) where
    accepted_there : (n : ℕ) → IsAccepted channel span section_form pid units begin n → IsAccepted other span section_form pid units begin n
    accepted_there n is = record { accepted = is.accepted; contained = is.contained; sent_unit = sent_there pid units begin n is.accepted is.sent_unit }

    accepted_here : (n : ℕ) → IsAccepted other span section_form pid units begin n → IsAccepted channel span section_form pid units begin n
    accepted_here n is = record { accepted = is.accepted; contained = is.contained; sent_unit = sent_here pid units begin n is.accepted is.sent_unit }

    often_there : (kind : KindFields) (form : RecordingForm) (before : ℕ) (moments : ℕ → ℕ) (datagrams : List (List ℕ)) (carried : AreCarried form kind before units moments datagrams)
        → IsHeardOften kind form before units moments datagrams carried (IsAccepted channel span section_form pid units begin)
        → IsHeardOften kind form before units moments datagrams carried (IsAccepted other span section_form pid units begin)
    often_there (ule own address packing) form before moments datagrams carried often = tt
    often_there (mpe own) form before moments datagrams carried often = tt
    often_there (fec own rows parity None) form before moments datagrams carried often = record {
      one = λ i l first low high of_i of_l.
          let found = often.one i l first low high (of_here i of_i) (of_here l of_l) in
          (found.0, found.1, found.2, of_there found.0 found.3);
    }
      where
        of_here : (i : ℕ) → IsAcceptedOf rows units carried.sections (IsAccepted other span section_form pid units begin) i
            → IsAcceptedOf rows units carried.sections (IsAccepted channel span section_form pid units begin) i
        of_here i is = (is.0, accepted_here is.0 is.1, is.2)

        of_there : (i : ℕ) → IsAcceptedOf rows units carried.sections (IsAccepted channel span section_form pid units begin) i
            → IsAcceptedOf rows units carried.sections (IsAccepted other span section_form pid units begin) i
        of_there i is = (is.0, accepted_there is.0 is.1, is.2)
    often_there (fec own rows parity (Some window)) form before moments datagrams carried often = tt
    often_there (gse isi address) form before moments datagrams carried often = tt

  no_lone_there : (span : List Record) (pid : ℕ) → HasNoLoneCopies channel span pid → HasNoLoneCopies other span pid
  no_lone_there span pid none = record {
    each = λ copy there.
        subst (λ (j : ℕ). record_at span j ≡ record_at recorded j) (sym (same.first copy.place)) (none.each copy there);
  }

  own_there : (pid j n : ℕ) → IsOfPid other pid j n → (channel.first j ≡ j) × (channel.place j ≡ Some n)
  own_there pid j n is = (sym (same.first j) ∙ is.no_copy, sym (same.place j) ∙ is.place)

  stamps_there : (form : RecordingForm) (pid : ℕ) → KeepsStamps form channel → KeepsStampsOf form other pid
  stamps_there plain pid stamps = record { each = λ j n is. stamps.no_copy j n is.within (own_there pid j n is).0 (own_there pid j n is).1 }
  stamps_there stamped pid stamps = record { each = λ j n is. stamps.no_copy j n is.within (own_there pid j n is).0 (own_there pid j n is).1 }
  stamps_there m2ts pid stamps = record {
    time = stamps.time;
    each = λ j n is. stamps.no_copy j n is.within (own_there pid j n is).0 (own_there pid j n is).1;
    stamp = stamps.stamp;
    rises = stamps.rises;
    near = stamps.near;
  }

-- where stamps survive, by kind
moments_for : (kind : KindFields) (form : RecordingForm) (before : ℕ) (units : List (List ℕ)) (moments : ℕ → ℕ) (datagrams : List (List ℕ))
    (carried : AreCarried form kind before units moments datagrams) (pids : List ℕ) (sent : List Record) (pieces : List (List ℕ))
    (channel : Channel pids sent (records_of form pieces)) (span : List Record) (pid : ℕ) (begin : ℕ → ℕ)
    → Contains pids pid → IsSpanOf span (records_of form pieces)
    → ((n m : ℕ) → n < length units → IsIn (packets_sent pid sent) m (begin n) → (arrival_at (arrivals pid sent) m).moment ≡ moments n)
    → (reads_moments kind ≡ true → KeepsStampsOf form channel pid × HasNoLoneCopies channel span pid)
    → HasMomentsFor kind form before units moments datagrams carried channel span pid begin
moments_for (ule own address packing) form before units moments datagrams carried pids sent pieces channel span pid begin read is_span begun stamps = tt
moments_for (mpe own) form before units moments datagrams carried pids sent pieces channel span pid begin read is_span begun stamps = tt
moments_for (fec own rows parity None) form before units moments datagrams carried pids sent pieces channel span pid begin read is_span begun stamps = tt
moments_for (fec own rows parity (Some window)) form before units moments datagrams carried pids sent pieces channel span pid begin read is_span begun stamps =
    moments_kept form pids sent pieces channel pid read (stamps refl).0 span is_span (stamps refl).1 units begin moments begun (ten form) rows before carried.frames carried.sections
    carried.are
moments_for (gse isi address) form before units moments datagrams carried pids sent pieces channel span pid begin read is_span begun stamps = tt

module _ (plan : PlanFields) (k : ℕ) (known : k < length plan.services) (sent : List Record) (datagrams : ℕ → List (List ℕ)) (carries : CarriesFor plan k sent datagrams)
    (pieces : List (List ℕ)) (channel : Channel (all_pids plan) sent (records_of plan.recording pieces))
    (detected : (pid : ℕ) → IsPidOf plan k pid
    → NoUndetectedError channel (span_of plan k pid (records_of plan.recording pieces)) (form_of_kind (kind_at plan k)) pid (carries.units pid) (carries.begin pid))
    (often : (pid : ℕ) (own : IsPidOf plan k pid)
    → IsHeardOften (kind_at plan k) plan.recording (carries.before pid) (carries.units pid) (carries.moments pid) (datagrams pid) (carries.carried pid own)
    (IsAccepted channel (span_of plan k pid (records_of plan.recording pieces)) section_form pid (carries.units pid) (carries.begin pid)))
    (stamps : reads_moments (kind_at plan k) ≡ true → KeepsStamps plan.recording channel
    × ((pid : ℕ) → IsPidOf plan k pid → HasNoLoneCopies channel (span_of plan k pid (records_of plan.recording pieces)) pid)) where
  abbrev recorded : List Record
  recorded = records_of plan.recording pieces

  own_channel : Channel (pids_in plan k) sent recorded
  own_channel = channel_for plan sent recorded channel k known

  same : IsSameChannel channel own_channel
  unfolding own_channel
  same = own_same plan sent recorded channel k known

  pub recorded_for : IsRecordedFor plan k sent datagrams carries recorded
  recorded_for = record {
    channel = own_channel;
    detected = λ pid own.
        no_error_there channel own_channel same (span_of plan k pid recorded) (form_of_kind (kind_at plan k)) pid (carries.units pid) (carries.begin pid) (detected pid own);
    often = λ pid own.
        often_there channel own_channel same (span_of plan k pid recorded) pid (carries.units pid) (carries.begin pid) (kind_at plan k) plan.recording (carries.before pid)
        (carries.moments pid) (datagrams pid) (carries.carried pid own) (often pid own);
    moments = λ pid own.
        moments_for (kind_at plan k) plan.recording (carries.before pid) (carries.units pid) (carries.moments pid) (datagrams pid) (carries.carried pid own) (pids_in plan k) sent pieces
        own_channel (span_of plan k pid recorded) pid (carries.begin pid) own.own (span_is plan k pid recorded) (λ n m. carries.begun pid n m own)
        (λ is. (stamps_there channel own_channel same plan.recording pid (stamps is).0, no_lone_there channel own_channel same (span_of plan k pid recorded) pid ((stamps is).1 pid own)));
  }

  pub channel_same : IsSameChannel channel recorded_for.channel
  unfolding recorded_for
  channel_same = same
