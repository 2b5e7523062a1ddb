-- Where each unit arrived intact.
use Rattle.std.proofs.Common.{◌≡◌, inl, inr, ℕ, zero, suc, ◌+◌, ◌<◌, List, [], length, flat_map, refl, ap, sym, ◌∙◌, subst, arith}
use Rattle.std.specs.List.{range_with_len}
use Rattle.std.proofs.lemmas.List.Folds.{flat_map-map}
use Rattle.std.proofs.lemmas.List.FromFn.{fill_by_all}
use Rattle.wire_spec.specs.Lists.{IsSubsequence}
use Rattle.ts_spec.specs.Recording.{Record, RecordingForm}
use Rattle.ts_spec.specs.Packetized.{unit_at}
use Rattle.channel_spec.specs.Channel.{Channel}
use Rattle.channel_spec.specs.Carried.{IsRising}
use Rattle.channel_law.proofs.Member.{Member, contains_member, member_contains}
use Rattle.fec_frame_spec.specs.Sections.{TimedSection, sections_of}
use Rattle.fec_frame_law.specs.Recovered.{own_datagrams}
use Rattle.plan_spec.specs.Plan.{KindFields, ule, mpe, fec, gse, ServiceFields, PlanFields}
use Rattle.plan_spec.specs.Changes.{pids_in}
use Rattle.stream_spec.specs.Services.{kind_at, IsPidOf, AreCarried}
use Rattle.reception_spec.specs.Spans.{span_of}
use Rattle.reception_spec.specs.Delivered.{service_on, delivered_on, delivered_of}
use Rattle.loss_law.specs.Loss.{CarriesFor}
use Rattle.loss_law.specs.Spans.{wanted_on_pids}
use Rattle.loss_law.specs.Frames.{own_of_unit, wanted_by}
use Rattle.loss_law.proofs.OwnSections.{own_of_numbers, own_of_frames}
use Rattle.loss_law.proofs.SpansAlike.{flat_same}
use Rattle.loss_law.proofs.Subsequences.{subsequence_each}
use Rattle.intact_law.specs.Intact.{AreIntact, own_by_kind, own_of_all, CarriesUnitsFor, AllUnitsArrivedIntact}
use Rattle.gse_spec.specs.Reassembly.{Pdu, PlacedPdu}
use Rattle.gse_spec.specs.Received.{received_pdus, no_pdu, pdu_at, carried_by_pdu, delivered_by_pdu}
use Rattle.gse_spec.specs.Channel.{FrameChannel}
use Rattle.gse_spec.specs.Carried.{sent_pdu}
use Rattle.bb_reception_spec.specs.Delivered.{service_at, delivered_of as delivered_of_frames}
use Rattle.bb_loss_law.specs.Plans.{IsIsiOf, isis_of, wanted_of, AllArrivedIntact}
use Rattle.intact_law.proofs.ByService.{intact_on}
use Rattle.intact_law.proofs.Pdus.{intact_pdus}

-- all numbers
all_rise : (k c : ℕ) → IsRising k (range_with_len k c)
all_rise k zero = tt
all_rise k (suc c) = (omega arith, all_rise (k + 1) c)

all_below : (a c n : ℕ) → Member (range_with_len a c) n → n < a + c
all_below a zero n there = absurd there
all_below a (suc c) n (inl same) = omega (arith, same)
all_below a (suc c) n (inr there) = omega (arith, all_below (a + 1) c n there)

-- what all units give
all_give : (f : List ℕ → List (List ℕ)) (units : List (List ℕ)) → flat_map (λ n. f (unit_at units n)) (range_with_len 0 (length units)) ≡ flat_map f units
all_give f units =
    sym (flat_map-map f (unit_at units) (range_with_len 0 (length units)))
    ∙ ap (flat_map f) (sym (fill_by_all (unit_at units) units (length units) [] refl (λ n within. refl)))

-- of units that carry datagrams the service wants these
wanted_is : (form : RecordingForm) (kind : KindFields) (service : ServiceFields) (before : ℕ) (units : List (List ℕ)) (moments : ℕ → ℕ) (datagrams : List (List ℕ))
    → AreCarried form kind before units moments datagrams → flat_map (own_by_kind kind service) units ≡ wanted_by kind service units datagrams
wanted_is form (ule own address packing) service before units moments datagrams carried = refl
wanted_is form (mpe own) service before units moments datagrams carried = refl
wanted_is form (fec own rows parity window) service before units moments datagrams carried =
    sym (all_give (own_of_unit rows) units)
    ∙ sym (own_of_numbers rows units moments (range_with_len 0 (length units)))
    ∙ ap (λ (l : List TimedSection). own_datagrams (sections_of l)) (carried.are).read
    ∙ own_of_frames rows carried.frames carried.sections (carried.are).sent
    ∙ sym carried.datagrams_are
wanted_is form (gse isi address) service before units moments datagrams carried = absurd carried

pub all_wanted : (plan : PlanFields) (k : ℕ) → k < length plan.services → (sent : List Record) (datagrams : ℕ → List (List ℕ)) (carries : CarriesFor plan k sent datagrams)
    → own_of_all plan k carries.units ≡ wanted_on_pids plan k carries.units datagrams
all_wanted plan k known sent datagrams carries =
    flat_same (λ pid. flat_map (own_by_kind (kind_at plan k) (service_on plan k pid)) (carries.units pid))
    (λ pid. wanted_by (kind_at plan k) (service_on plan k pid) (carries.units pid) (datagrams pid)) (pids_in plan k)
    (λ pid there.
    let own : IsPidOf plan k pid = record { service = known; own = contains_member (pids_in plan k) pid there } in
    wanted_is plan.recording (kind_at plan k) (service_on plan k pid) (carries.before pid) (carries.units pid) (carries.moments pid) (datagrams pid) (carries.carried pid own))

-- Where each unit did.

module _ (plan : PlanFields) (k : ℕ) (known : k < length plan.services) (sent : List Record) (units : ℕ → List (List ℕ)) (begin : ℕ → ℕ → ℕ)
    (packetized : CarriesUnitsFor plan k sent units begin) (recorded : List Record) (channel : Channel (pids_in plan k) sent recorded)
    (all : AllUnitsArrivedIntact plan k sent units begin recorded channel) where
  abbrev every : ℕ → List ℕ
  every pid = range_with_len 0 (length (units pid))

  every_intact : (pid : ℕ) → IsPidOf plan k pid → AreIntact channel (span_of plan k pid recorded) pid (units pid) (begin pid) (every pid)
  every_intact pid own = record {
    rising = all_rise 0 (length (units pid));
    each = λ n there.
        let below : n < length (units pid) = omega (arith, all_below 0 (length (units pid)) n (member_contains (every pid) n there)) in
        (below, all pid n own below);
  }

  pub all_delivered : IsSubsequence (own_of_all plan k units) (delivered_of plan k recorded)
  all_delivered =
      subsequence_each (λ pid. flat_map (own_by_kind (kind_at plan k) (service_on plan k pid)) (units pid)) (delivered_on plan k recorded) (pids_in plan k)
      (λ pid there.
      let own : IsPidOf plan k pid = record { service = known; own = contains_member (pids_in plan k) pid there } in
      subst (λ (l : List (List ℕ)). IsSubsequence l (delivered_on plan k recorded pid)) (all_give (own_by_kind (kind_at plan k) (service_on plan k pid)) (units pid))
      (intact_on plan k known sent units begin packetized recorded channel pid own (every pid) (every_intact pid own)))

-- Where each PDU did.

module _ (plan : PlanFields) (k isi : ℕ) (own : IsIsiOf plan k isi) (sent recorded : List (List ℕ)) (channel : FrameChannel (isis_of plan k) sent recorded)
    (all : AllArrivedIntact plan k sent recorded channel) where
  abbrev every_pdu : List ℕ
  every_pdu = range_with_len 0 (length (received_pdus isi sent))

  abbrev given : Pdu → List (List ℕ)
  given pdu = delivered_by_pdu carried_by_pdu (service_at plan k).filter pdu

  -- what they give is all that is wanted
  pdus_give : flat_map (λ n. given (sent_pdu isi sent n)) every_pdu ≡ wanted_of plan k isi sent
  pdus_give =
      sym (flat_map-map (λ (x : PlacedPdu). given x.pdu) (pdu_at (received_pdus isi sent)) every_pdu)
      ∙ ap (flat_map (λ (x : PlacedPdu). given x.pdu)) (sym (fill_by_all (pdu_at (received_pdus isi sent)) (received_pdus isi sent) (length (received_pdus isi sent)) no_pdu refl (λ n within. refl)))

  pub all_pdus_delivered : IsSubsequence (wanted_of plan k isi sent) (delivered_of_frames plan k recorded)
  all_pdus_delivered =
      subst (λ (l : List (List ℕ)). IsSubsequence l (delivered_of_frames plan k recorded)) pdus_give
      (intact_pdus plan k sent recorded channel isi own every_pdu
      (record {
        rising = all_rise 0 (length (received_pdus isi sent));
        each = λ n there.
            let below : n < length (received_pdus isi sent) = omega (arith, all_below 0 (length (received_pdus isi sent)) n (member_contains every_pdu n there)) in
            (below, all isi n own below);
      }))
