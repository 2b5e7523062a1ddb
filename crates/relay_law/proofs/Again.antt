-- A relay's stream is that of a capture, and what arrives of it.
use Rattle.std.proofs.Common.{◌≡◌, inl, inr, ℕ, ◌<◌, ◌≤◌, Bool, true, false, List, [], ◌∷◌, length, map, fold, flat_map, refl, ap, sym, ◌∙◌, subst, arith, Option, Some, None}
use Rattle.std.specs.Prelude.{All, filter}
use Rattle.std.proofs.lemmas.Bool.{cases_Bool}
use Rattle.wire_spec.specs.Bytes.{AreBytes}
use Rattle.wire_spec.specs.Lists.{IsSubsequence}
use Rattle.wire_spec.specs.Datagram.{IsDatagram}
use Rattle.pcap_file.specs.Capture.{capture_text}
use Rattle.pcap_file.specs.Reading.{most_records, most_bytes}
use Rattle.pcap_file.specs.Told.{Tells, bytes_in}
use Rattle.ts_spec.specs.Recording.{Record, record_size}
use Rattle.std.specs.Option.{unwrap_or}
use Rattle.plan_spec.specs.Plan.{KindFields, ule, mpe, fec, gse, PlanFields, is_baseband, pid_of, isi_of}
use Rattle.addr_rules.specs.declared.rules.Rule.{Rule}
use Rattle.gse_spec.specs.Classes.{Class, is_of_class, datagrams_of_class}
use Rattle.gse_law.proofs.ClassOrder.{filter_within}
use Rattle.carrier_spec.specs.Stream.{piece_size}
use Rattle.plan_spec.specs.Changes.{pid_in, pids_in, with_pid_behind, versions, has_wrong_change}
use Rattle.plan_law.proofs.Plans.{changes_right}
use Rattle.reception_law.proofs.OtherPid.{none_stays}
use Rattle.plan_spec.specs.Wholes.{is_whole_plan}
use Rattle.plan_spec.specs.Offered.{Records, offered_in, offered_in_all}
use Rattle.stream_spec.specs.Stream.{IsStream}
use Rattle.stream_spec.specs.Services.{kind_at, datagrams_on, Carries}
use Rattle.bb_stream_spec.specs.Stream.{IsBasebandStream, order_as, order_of}
use Rattle.bb_stream_spec.specs.Carried.{CarriesInBaseband}
use Rattle.stream_law.specs.Captures.{given_by}
use Rattle.loss_law.specs.Loss.{carries_for}
use Rattle.loss_law.specs.Spans.{IsRecordedFor}
use Rattle.loss_law.proofs.Plan.{kind_of_service}
use Rattle.loss_law.proofs.Subsequences.{subsequence_self, subsequence_through}
use Rattle.bb_loss_law.specs.Plans.{IsIsiOf, CarriesInFramesFor, IsRecordedInFramesFor}
use Rattle.reception_spec.specs.Delivered.{delivered_of as delivered_of_records}
use Rattle.bb_reception_spec.specs.Delivered.{service_at, delivered_of as delivered_of_frames, delivered_on as delivered_on_isi}
use Rattle.end_to_end_law.specs.Sent.{IsSent, offered_by, offered_on, sent_records, SendsOneUnitEach}
use Rattle.end_to_end_law.specs.Units.{wants_datagram}
use Rattle.end_to_end_law.specs.Spans.{DeliversOfSpans}
use Rattle.end_to_end_law.proofs.OverSpans.{own_pid}
use Rattle.end_to_end_law.specs.BbSent.{IsSentInFrames, offered_to, wants_in_frames}
use Rattle.end_to_end_law.specs.BbDelivered.{DeliversNumbered}
use Rattle.recording_spec.specs.Pieces.{records_in, delivered_of}
use Rattle.recording_spec.specs.Relayed.{relayed, as_records}
use Rattle.recording_law.specs.Hop.{CarriesInPieces, in_packets, in_frames, IsRecordedInPieces, wanted_in, DeliversWanted}
use Rattle.recording_law.proofs.Twice.{packets_from, frames_from}
use Rattle.relay_law.specs.Relay.{IsRelay, reoffered, reordered, wants_on, wanted_again, KeepsOrder, ArrivesAgain}

-- The capture of what is relayed.

module _
    (are : (plan : PlanFields) (pieces : List (List ℕ)) → All IsDatagram (relayed plan pieces))
    (bytes : (datagrams : List (List ℕ)) → All AreBytes datagrams → AreBytes (capture_text datagrams))
    (tells : (datagrams : List (List ℕ)) → All AreBytes datagrams → All IsDatagram datagrams → length datagrams ≤ most_records → bytes_in datagrams ≤ most_bytes
    → Tells (capture_text datagrams) datagrams None)
    (gives : (datagrams : List (List ℕ)) → All IsDatagram datagrams → given_by (capture_text datagrams) datagrams ≡ as_records datagrams)
    (inner : PlanFields) (pieces : List (List ℕ)) where
  pub gives_relayed : given_by (capture_text (relayed inner pieces)) (relayed inner pieces) ≡ as_records (relayed inner pieces)
  gives_relayed = gives (relayed inner pieces) (are inner pieces)

  pub sent_in_packets : (outer : PlanFields) (stream : List (List ℕ)) → IsRelay inner outer pieces stream → is_baseband outer ≡ false
      → IsSent outer (capture_text (relayed inner pieces)) (relayed inner pieces) stream
  sent_in_packets outer stream relay is = record {
    accepted = relay.accepted;
    of_bytes = relay.of_bytes;
    told_bytes = relay.bytes;
    fault = None;
    tells = tells (relayed inner pieces) relay.bytes (are inner pieces) relay.fits.count relay.fits.size;
    stream = subst (λ (records : Records). IsStream outer (offered_in outer records) stream) (sym gives_relayed) (relay.stream_is.in_records is);
  }

  pub sent_in_frames : (outer : PlanFields) (stream : List (List ℕ)) → IsRelay inner outer pieces stream → is_baseband outer ≡ true
      → IsSentInFrames outer (capture_text (relayed inner pieces)) (relayed inner pieces) stream
  sent_in_frames outer stream relay is = record {
    accepted = relay.accepted;
    of_bytes = relay.of_bytes;
    told_bytes = relay.bytes;
    fault = None;
    tells = tells (relayed inner pieces) relay.bytes (are inner pieces) relay.fits.count relay.fits.size;
    stream = subst (λ (records : Records). IsBasebandStream outer (offered_in outer records) stream) (sym gives_relayed) (relay.stream_is.in_frames is);
  }

-- The order of a service in transport packets is that of the list.

no_order : (size : ℕ) (unicast : List ℕ) (rules : List Rule) (kind : KindFields) (pid : ℕ) (datagrams : List (List ℕ)) → pid_of kind ≡ Some pid
    → order_as size unicast rules kind datagrams ≡ datagrams
no_order size unicast rules (ule own address packing) pid datagrams is = refl
no_order size unicast rules (mpe own) pid datagrams is = refl
no_order size unicast rules (fec own rows parity window) pid datagrams is = refl
no_order size unicast rules (gse isi address) pid datagrams is = absurd (cc)

-- A service without a PID has none in any version.

none_behind : {X : Type 0} (pid_at : X → Option ℕ) (xs : List X) → ((x : X) → pid_at x ≡ None) → fold with_pid_behind [] (map pid_at xs) ≡ []
none_behind pid_at [] none = refl
none_behind pid_at (x ∷ xs) none = ap (λ (o : Option ℕ). fold with_pid_behind (with_pid_behind [] o) (map pid_at xs)) (none x) ∙ none_behind pid_at xs none

first_pid : (plan : PlanFields) (k : ℕ) → pid_in plan 0 k ≡ pid_of (service_at plan k).kind
unfolding pid_in
first_pid plan k = refl

no_pids : (plan : PlanFields) (k : ℕ) → pid_of (service_at plan k).kind ≡ None → pids_in plan k ≡ []
unfolding pids_in
no_pids plan k none = none_behind (λ version. pid_in plan version k) (versions plan) (λ version. none_stays plan 0 version k (first_pid plan k ∙ none))

-- What the stream carries, and what arrives of it.

abbrev Own : (inner outer : PlanFields) (pieces : List (List ℕ)) (wants : Bool) → ℕ → List (List ℕ)
Own inner outer pieces wants j = filter (wants_on wants (service_at outer j)) (reordered inner outer pieces j)

-- a service wants the same by the carrier that the plan has
module _ (inner outer : PlanFields) (pieces : List (List ℕ)) (b : Bool) (is : is_baseband outer ≡ b) (j : ℕ) where
  whole_by : (delivered : List (List ℕ)) → delivered ≡ Own inner outer pieces b j → delivered ≡ wanted_again inner outer pieces j
  whole_by delivered are = are ∙ ap (λ (wants : Bool). Own inner outer pieces wants j) (sym is)

  wanted_by : (delivered : List (List ℕ)) → IsSubsequence delivered (Own inner outer pieces b j) → IsSubsequence delivered (wanted_again inner outer pieces j)
  wanted_by delivered within = subst (λ (wants : Bool). IsSubsequence delivered (Own inner outer pieces wants j)) (sym is) within

module _
    (gives : (plan : PlanFields) (pieces : List (List ℕ)) → given_by (capture_text (relayed plan pieces)) (relayed plan pieces) ≡ as_records (relayed plan pieces))
    (within : (plan : PlanFields) (k : ℕ) → k < length plan.services → (sent carried : List (List ℕ)) (carries : CarriesInPieces plan k sent carried)
    (recorded : List (List ℕ)) → IsRecordedInPieces plan k sent carried carries recorded
    → (all : List (List ℕ)) → IsSubsequence carried all → IsSubsequence (delivered_of plan k recorded) all)
    (offered : (plan : PlanFields) (datagrams : List (List ℕ)) (k : ℕ) → IsSubsequence (offered_in_all plan (as_records datagrams) k) datagrams)
  where
    -- what is offered of the capture is what the relay offers
    reoffered_is : (inner outer : PlanFields) (pieces : List (List ℕ)) (k : ℕ)
        → offered_in_all outer (given_by (capture_text (relayed inner pieces)) (relayed inner pieces)) k ≡ reoffered inner outer pieces k
    reoffered_is inner outer pieces k = ap (λ (records : Records). offered_in_all outer records k) (gives inner pieces)

    -- what is delivered of it is some of what the stream carries
    some_of_carried : (inner outer : PlanFields) (pieces stream again : List (List ℕ)) (j : ℕ) → j < length outer.services
        → (onward : CarriesInPieces outer j stream (reordered inner outer pieces j))
        → IsRecordedInPieces outer j stream (reordered inner outer pieces j) onward again → IsSubsequence (delivered_of outer j again) (reordered inner outer pieces j)
    some_of_carried inner outer pieces stream again j known onward is_recorded =
        within outer j known stream (reordered inner outer pieces j) onward again is_recorded (reordered inner outer pieces j) (subsequence_self (reordered inner outer pieces j))

    some_of_relayed : (inner outer : PlanFields) (pieces stream again : List (List ℕ)) (j : ℕ) → j < length outer.services
        → (onward : CarriesInPieces outer j stream (reordered inner outer pieces j))
        → IsRecordedInPieces outer j stream (reordered inner outer pieces j) onward again → reordered inner outer pieces j ≡ reoffered inner outer pieces j
        → IsSubsequence (delivered_of outer j again) (relayed inner pieces)
    some_of_relayed inner outer pieces stream again j known onward is_recorded same =
        within outer j known stream (reordered inner outer pieces j) onward again is_recorded (relayed inner pieces)
        (subst (λ (xs : List (List ℕ)). IsSubsequence xs (relayed inner pieces)) (sym same) (offered outer (relayed inner pieces) j))

    -- of each class
    some_of_class : (inner outer : PlanFields) (pieces stream again : List (List ℕ)) (j : ℕ) → j < length outer.services
        → (onward : CarriesInPieces outer j stream (reordered inner outer pieces j))
        → IsRecordedInPieces outer j stream (reordered inner outer pieces j) onward again → (class : Class)
        → datagrams_of_class (service_at outer j).urgent class (reordered inner outer pieces j) ≡ datagrams_of_class (service_at outer j).urgent class (reoffered inner outer pieces j)
        → IsSubsequence (datagrams_of_class (service_at outer j).urgent class (delivered_of outer j again)) (datagrams_of_class (service_at outer j).urgent class (relayed inner pieces))
    some_of_class inner outer pieces stream again j known onward is_recorded class same =
        let rules : List Rule = (service_at outer j).urgent in
        let test : List ℕ → Bool = λ datagram. is_of_class rules class datagram in
        subsequence_through (datagrams_of_class rules class (delivered_of outer j again)) (datagrams_of_class rules class (reoffered inner outer pieces j))
        (datagrams_of_class rules class (relayed inner pieces))
        (subst (IsSubsequence (datagrams_of_class rules class (delivered_of outer j again))) same
        (filter_within test (delivered_of outer j again) (reordered inner outer pieces j) (some_of_carried inner outer pieces stream again j known onward is_recorded)))
        (filter_within test (reoffered inner outer pieces j) (relayed inner pieces) (offered outer (relayed inner pieces) j))

    -- in packets
    module _
        (sent_as : (inner outer : PlanFields) (pieces stream : List (List ℕ)) → IsRelay inner outer pieces stream → is_baseband outer ≡ false
        → IsSent outer (capture_text (relayed inner pieces)) (relayed inner pieces) stream)
        (arrives : (plan : PlanFields) (capture : List ℕ) (told records : List (List ℕ)) → IsSent plan capture told records
        → (carries : Carries plan (sent_records plan records) (offered_on plan capture told))
        × SendsOneUnitEach plan (sent_records plan records) (offered_on plan capture told) carries
        × ((k : ℕ) → k < length plan.services → (recorded : List Record)
        (is_recorded : IsRecordedFor plan k (sent_records plan records) (offered_on plan capture told k) (carries_for carries k) recorded)
        → DeliversOfSpans plan k (sent_records plan records) (offered_on plan capture told k) (carries_for carries k) recorded is_recorded
        (offered_in_all plan (given_by capture told) k) (delivered_of_records plan k recorded)))
        (all : (plan : PlanFields) (datagrams : ℕ → ℕ → List (List ℕ)) (k pid : ℕ) → is_whole_plan plan ≡ true → k < length plan.services
        → pid_of (kind_at plan k) ≡ Some pid
        → flat_map (datagrams_on plan datagrams k) (pids_in plan k) ≡ flat_map (λ version. datagrams version k) (versions plan))
        (recorded_is : (plan : PlanFields) (capture : List ℕ) (told records : List (List ℕ)) → IsSent plan capture told records
        → (carries : Carries plan (sent_records plan records) (offered_on plan capture told)) (k : ℕ)
        → IsRecordedFor plan k (sent_records plan records) (offered_on plan capture told k) (carries_for carries k) (sent_records plan records))
        (whole : (plan : PlanFields) (capture : List ℕ) (told records : List (List ℕ)) → IsSent plan capture told records
        → (k : ℕ) → k < length plan.services → delivered_of_records plan k (sent_records plan records)
        ≡ filter (wants_datagram (service_at plan k)) (offered_in_all plan (given_by capture told) k))
      where
        pub arrives_in_packets : (inner outer : PlanFields) (pieces stream : List (List ℕ)) → IsRelay inner outer pieces stream → (j : ℕ) → j < length outer.services
            → is_baseband outer ≡ false → ArrivesAgain inner outer pieces stream j
        arrives_in_packets inner outer pieces stream relay j known is =
            let told : List (List ℕ) = relayed inner pieces in
            let capture : List ℕ = capture_text told in
            let sent : IsSent outer capture told stream = sent_as inner outer pieces stream relay is in
            let found = arrives outer capture told stream sent in
            let its_pid = own_pid (kind_at outer j) (found.0.on_pids j known) in
            let kept : reordered inner outer pieces j ≡ reoffered inner outer pieces j
            = no_order (piece_size outer) (service_at outer j).unicast (service_at outer j).urgent (service_at outer j).kind its_pid.0 (reoffered inner outer pieces j)
            (ap pid_of (kind_of_service outer j known) ∙ its_pid.1) in
            let same : reordered inner outer pieces j ≡ flat_map (offered_on outer capture told j) (pids_in outer j)
            = kept ∙ sym (reoffered_is inner outer pieces j) ∙ sym (all outer (offered_by outer capture told) j its_pid.0 relay.accepted known its_pid.1) in
            let onward : CarriesInPieces outer j stream (reordered inner outer pieces j) = in_packets is (offered_on outer capture told j) (carries_for found.0 j) same in
            record {
              carries = onward;
              itself = recorded_is outer capture told stream sent found.0 j;
              whole =
                  whole_by inner outer pieces false is j (delivered_of outer j stream)
                  (packets_from outer j stream is ∙ whole outer capture told stream sent j known
                  ∙ ap (λ (xs : List (List ℕ)). filter (wants_datagram (service_at outer j)) xs) (reoffered_is inner outer pieces j ∙ sym kept));
              wanted = λ again is_recorded.
                  wanted_by inner outer pieces false is j (delivered_of outer j again)
                  (subst (λ (xs : List (List ℕ)). IsSubsequence xs (Own inner outer pieces false j)) (sym (packets_from outer j again is))
                  (subst (λ (xs : List (List ℕ)). IsSubsequence (delivered_of_records outer j (records_in outer again)) (filter (wants_datagram (service_at outer j)) xs))
                  (reoffered_is inner outer pieces j ∙ sym kept) (found.2 j known (records_in outer again) is_recorded).were_wanted));
              classes = λ onto again is_recorded class.
                  some_of_class inner outer pieces stream again j known onto is_recorded class
                  (ap (λ (xs : List (List ℕ)). datagrams_of_class (service_at outer j).urgent class xs) kept);
              some = λ none onto again is_recorded. some_of_relayed inner outer pieces stream again j known onto is_recorded kept;
            }

    -- in frames
    module _
        (sent_as : (inner outer : PlanFields) (pieces stream : List (List ℕ)) → IsRelay inner outer pieces stream → is_baseband outer ≡ true
        → IsSentInFrames outer (capture_text (relayed inner pieces)) (relayed inner pieces) stream)
        (sends : (plan : PlanFields) (capture : List ℕ) (told frames : List (List ℕ)) → (sent : IsSentInFrames plan capture told frames)
        → CarriesInBaseband plan frames (λ k. order_of plan sent.stream.size k (offered_to plan capture told k)))
        (for_each : (plan : PlanFields) (sent : List (List ℕ)) (datagrams : ℕ → List (List ℕ)) → CarriesInBaseband plan sent datagrams
        → (k : ℕ) → CarriesInFramesFor plan k sent (datagrams k))
        (arrives : (plan : PlanFields) (capture : List ℕ) (told frames : List (List ℕ)) → (sent : IsSentInFrames plan capture told frames)
        → (k isi : ℕ) → IsIsiOf plan k isi → (recorded : List (List ℕ)) (is_recorded : IsRecordedInFramesFor plan k frames recorded)
        → DeliversNumbered is_recorded.channel isi (service_at plan k) (order_of plan sent.stream.size k (offered_in_all plan (given_by capture told) k)) (delivered_of_frames plan k recorded))
        (all : (plan : PlanFields) (capture : List ℕ) (told frames : List (List ℕ)) → IsSentInFrames plan capture told frames
        → (k : ℕ) → offered_to plan capture told k ≡ offered_in_all plan (given_by capture told) k)
        (recorded_is : (plan : PlanFields) (k : ℕ) (sent : List (List ℕ)) → IsRecordedInFramesFor plan k sent sent)
        (whole : (plan : PlanFields) (capture : List ℕ) (told frames : List (List ℕ)) → (sent : IsSentInFrames plan capture told frames)
        → (k : ℕ) → k < length plan.services → delivered_of_frames plan k frames
        ≡ filter (wants_in_frames (service_at plan k)) (order_of plan sent.stream.size k (offered_in_all plan (given_by capture told) k)))
        (keeps : (plan : PlanFields) (capture : List ℕ) (told frames : List (List ℕ)) → (sent : IsSentInFrames plan capture told frames)
        → (k : ℕ) → k < length plan.services → (class : Class)
        → datagrams_of_class (service_at plan k).urgent class (order_of plan sent.stream.size k (offered_in_all plan (given_by capture told) k))
        ≡ datagrams_of_class (service_at plan k).urgent class (offered_in_all plan (given_by capture told) k))
        (one_class : (plan : PlanFields) (size k : ℕ) (datagrams : List (List ℕ)) → (service_at plan k).urgent ≡ [] → order_of plan size k datagrams ≡ datagrams)
      where
        -- the order is that of the stream's frames
        order_is : (inner outer : PlanFields) (pieces stream : List (List ℕ)) (sent : IsSentInFrames outer (capture_text (relayed inner pieces)) (relayed inner pieces) stream) (j : ℕ)
            → order_of outer sent.stream.size j (offered_in_all outer (given_by (capture_text (relayed inner pieces)) (relayed inner pieces)) j) ≡ reordered inner outer pieces j
        order_is inner outer pieces stream sent j =
            ap (λ (o : Option ℕ). order_of outer (unwrap_or o (record_size outer.recording)) j
            (offered_in_all outer (given_by (capture_text (relayed inner pieces)) (relayed inner pieces)) j)) (sym sent.stream.size_is)
            ∙ ap (λ (xs : List (List ℕ)). order_of outer (piece_size outer) j xs) (reoffered_is inner outer pieces j)

        on_isi : (inner outer : PlanFields) (pieces stream again : List (List ℕ)) → IsSentInFrames outer (capture_text (relayed inner pieces)) (relayed inner pieces) stream
            → (j : ℕ) → j < length outer.services → IsRecordedInFramesFor outer j stream again → (o : Option ℕ) → isi_of (service_at outer j).kind ≡ o
            → IsSubsequence (delivered_on_isi o (service_at outer j).filter again) (Own inner outer pieces true j)
        on_isi inner outer pieces stream again sent j known is_recorded None own = tt
        on_isi inner outer pieces stream again sent j known is_recorded (Some isi) own =
            let told : List (List ℕ) = relayed inner pieces in
            let delivers = arrives outer (capture_text told) told stream sent j isi (record { service = known; own = own }) again is_recorded in
            subst (λ (o : Option ℕ). IsSubsequence (delivered_on_isi o (service_at outer j).filter again) (Own inner outer pieces true j)) own
            (subst (λ (xs : List (List ℕ)). IsSubsequence (delivered_of_frames outer j again) (filter (wants_in_frames (service_at outer j)) xs))
            (order_is inner outer pieces stream sent j) delivers.were_wanted)

        pub arrives_in_frames : (inner outer : PlanFields) (pieces stream : List (List ℕ)) → IsRelay inner outer pieces stream → (j : ℕ) → j < length outer.services
            → is_baseband outer ≡ true → ArrivesAgain inner outer pieces stream j
        arrives_in_frames inner outer pieces stream relay j known is =
            let told : List (List ℕ) = relayed inner pieces in
            let capture : List ℕ = capture_text told in
            let sent : IsSentInFrames outer capture told stream = sent_as inner outer pieces stream relay is in
            let same : order_of outer sent.stream.size j (offered_to outer capture told j) ≡ reordered inner outer pieces j
            = ap (λ (xs : List (List ℕ)). order_of outer sent.stream.size j xs) (all outer capture told stream sent j) ∙ order_is inner outer pieces stream sent j in
            let onward : CarriesInPieces outer j stream (reordered inner outer pieces j)
            = in_frames is (subst (λ (xs : List (List ℕ)). CarriesInFramesFor outer j stream xs) same
            (for_each outer stream (λ k. order_of outer sent.stream.size k (offered_to outer capture told k)) (sends outer capture told stream sent) j)) in
            record {
              carries = onward;
              itself = recorded_is outer j stream;
              whole =
                  whole_by inner outer pieces true is j (delivered_of outer j stream)
                  (frames_from outer j stream is ∙ whole outer capture told stream sent j known
                  ∙ ap (λ (xs : List (List ℕ)). filter (wants_in_frames (service_at outer j)) xs) (order_is inner outer pieces stream sent j));
              wanted = λ again is_recorded.
                  wanted_by inner outer pieces true is j (delivered_of outer j again)
                  (subst (λ (xs : List (List ℕ)). IsSubsequence xs (Own inner outer pieces true j)) (sym (frames_from outer j again is))
                  (on_isi inner outer pieces stream again sent j known is_recorded (isi_of (service_at outer j).kind) refl));
              classes = λ onto again is_recorded class.
                  some_of_class inner outer pieces stream again j known onto is_recorded class
                  (ap (λ (xs : List (List ℕ)). datagrams_of_class (service_at outer j).urgent class xs) (sym (order_is inner outer pieces stream sent j))
                  ∙ keeps outer capture told stream sent j known class
                  ∙ ap (λ (xs : List (List ℕ)). datagrams_of_class (service_at outer j).urgent class xs) (reoffered_is inner outer pieces j));
              some = λ none onto again is_recorded.
                  some_of_relayed inner outer pieces stream again j known onto is_recorded (one_class outer (piece_size outer) j (reoffered inner outer pieces j) (none is));
            }

    -- one service alone
    module _
        (delivers : (plan : PlanFields) (k : ℕ) → k < length plan.services → (sent carried : List (List ℕ)) (carries : CarriesInPieces plan k sent carried)
        (recorded : List (List ℕ)) → IsRecordedInPieces plan k sent carried carries recorded
        → DeliversWanted carried (wanted_in plan k sent carried carries) (delivered_of plan k recorded))
        (one : (plan : PlanFields) (pieces : List (List ℕ)) → has_wrong_change plan ≡ false → length plan.services ≡ 1 → delivered_of plan 0 pieces ≡ relayed plan pieces)
        (one_class : (plan : PlanFields) (size k : ℕ) (datagrams : List (List ℕ)) → (service_at plan k).urgent ≡ [] → order_of plan size k datagrams ≡ datagrams)
      where
        pub arrives_by_class : ((inner outer : PlanFields) (pieces stream : List (List ℕ)) → IsRelay inner outer pieces stream → (j : ℕ) → j < length outer.services
            → ArrivesAgain inner outer pieces stream j)
            → (inner outer : PlanFields) (sent carried : List (List ℕ)) (carries : CarriesInPieces inner 0 sent carried) (pieces stream again : List (List ℕ))
            → is_whole_plan inner ≡ true → length inner.services ≡ 1 → IsRecordedInPieces inner 0 sent carried carries pieces
            → IsRelay inner outer pieces stream → (j : ℕ) → j < length outer.services → (onward : CarriesInPieces outer j stream (reordered inner outer pieces j))
            → IsRecordedInPieces outer j stream (reordered inner outer pieces j) onward again → (class : Class)
            → IsSubsequence (datagrams_of_class (service_at outer j).urgent class (delivered_of outer j again))
            (datagrams_of_class (service_at outer j).urgent class (wanted_in inner 0 sent carried carries))
            × IsSubsequence (datagrams_of_class (service_at outer j).urgent class (delivered_of outer j again)) (datagrams_of_class (service_at outer j).urgent class carried)
        arrives_by_class arrives inner outer sent carried carries pieces stream again right single first relay j known onward second class =
            let rules : List Rule = (service_at outer j).urgent in
            let test : List ℕ → Bool = λ datagram. is_of_class rules class datagram in
            let hop = delivers inner 0 (omega (arith, single)) sent carried carries pieces first in
            let wanted : IsSubsequence (datagrams_of_class rules class (delivered_of outer j again)) (datagrams_of_class rules class (wanted_in inner 0 sent carried carries)) =
            subsequence_through (datagrams_of_class rules class (delivered_of outer j again)) (datagrams_of_class rules class (relayed inner pieces))
            (datagrams_of_class rules class (wanted_in inner 0 sent carried carries))
            ((arrives inner outer pieces stream relay j known).classes onward again second class)
            (filter_within test (relayed inner pieces) (wanted_in inner 0 sent carried carries)
            (subst (λ (xs : List (List ℕ)). IsSubsequence xs (wanted_in inner 0 sent carried carries)) (one inner pieces (changes_right inner right) single) hop.were_wanted)) in (
              wanted,
              subsequence_through (datagrams_of_class rules class (delivered_of outer j again)) (datagrams_of_class rules class (wanted_in inner 0 sent carried carries))
                  (datagrams_of_class rules class carried) wanted (filter_within test (wanted_in inner 0 sent carried carries) carried hop.were_sent),
            )

        -- where the order is kept, what is delivered is some of what was relayed
        in_order : (inner outer : PlanFields) (pieces stream again : List (List ℕ)) (j : ℕ) → j < length outer.services
            → (onward : CarriesInPieces outer j stream (reordered inner outer pieces j))
            → IsRecordedInPieces outer j stream (reordered inner outer pieces j) onward again → KeepsOrder outer j
            → IsSubsequence (delivered_of outer j again) (relayed inner pieces)
        in_order inner outer pieces stream again j known (in_frames is carries) second keeps =
            some_of_relayed inner outer pieces stream again j known (in_frames is carries) second (one_class outer (piece_size outer) j (reoffered inner outer pieces j) (keeps is))
        in_order inner outer pieces stream again j known (in_packets is datagrams carries same) second keeps = by_pid (pid_of (service_at outer j).kind) refl
          where
            onward : CarriesInPieces outer j stream (reordered inner outer pieces j)
            onward = in_packets is datagrams carries same

            by_pid : (o : Option ℕ) → pid_of (service_at outer j).kind ≡ o → IsSubsequence (delivered_of outer j again) (relayed inner pieces)
            by_pid (Some pid) own =
                some_of_relayed inner outer pieces stream again j known onward second
                (no_order (piece_size outer) (service_at outer j).unicast (service_at outer j).urgent (service_at outer j).kind pid (reoffered inner outer pieces j) own)
            by_pid None own =
                subsequence_through (delivered_of outer j again) [] (relayed inner pieces)
                (subst (IsSubsequence (delivered_of outer j again)) (same ∙ ap (flat_map datagrams) (no_pids outer j own)) (some_of_carried inner outer pieces stream again j known onward second))
                tt

        pub arrives_alone : (inner outer : PlanFields) (sent carried : List (List ℕ)) (carries : CarriesInPieces inner 0 sent carried) (pieces stream again : List (List ℕ))
            → is_whole_plan inner ≡ true → length inner.services ≡ 1 → IsRecordedInPieces inner 0 sent carried carries pieces
            → (j : ℕ) → j < length outer.services → (onward : CarriesInPieces outer j stream (reordered inner outer pieces j))
            → IsRecordedInPieces outer j stream (reordered inner outer pieces j) onward again → KeepsOrder outer j
            → IsSubsequence (delivered_of outer j again) (wanted_in inner 0 sent carried carries) × IsSubsequence (delivered_of outer j again) carried
        arrives_alone inner outer sent carried carries pieces stream again right single first j known onward second keeps =
            let hop = delivers inner 0 (omega (arith, single)) sent carried carries pieces first in
            let wanted : IsSubsequence (delivered_of outer j again) (wanted_in inner 0 sent carried carries) =
            subsequence_through (delivered_of outer j again) (relayed inner pieces) (wanted_in inner 0 sent carried carries)
            (in_order inner outer pieces stream again j known onward second keeps)
            (subst (λ (xs : List (List ℕ)). IsSubsequence xs (wanted_in inner 0 sent carried carries)) (one inner pieces (changes_right inner right) single) hop.were_wanted) in
            (wanted, subsequence_through (delivered_of outer j again) (wanted_in inner 0 sent carried carries) carried wanted hop.were_sent)

-- on either carrier
pub on_either : (inner outer : PlanFields) (pieces stream : List (List ℕ)) (j : ℕ) → (is_baseband outer ≡ false → ArrivesAgain inner outer pieces stream j)
    → (is_baseband outer ≡ true → ArrivesAgain inner outer pieces stream j) → ArrivesAgain inner outer pieces stream j
on_either inner outer pieces stream j packets frames = elim (cases_Bool (is_baseband outer)) [
  | inl is ↦ frames is
  | inr is ↦ packets is
]
