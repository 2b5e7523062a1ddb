-- There is one stream, and it carries what was offered.
use Rattle.std.proofs.Common.{◌≡◌, ℕ, zero, suc, ◌+◌, ◌≤◌, Bool, true, List, [], ◌∷◌, length, map, Option, Some, None, refl, ap, sym, ◌∙◌, subst, arith}
use Rattle.std.specs.Prelude.{All, AllPairs, Contains, slice_get, slice_index_or, is_some, ◌==◌}
use Rattle.std.proofs.lemmas.Bool.{and_parts, leb-true}
use Rattle.std.proofs.lemmas.Option.{get_or_from_slice_get}
use Rattle.std.proofs.lemmas.List.Elements.{All-filter, filter_passes}
use Rattle.wire_spec.specs.Datagram.{IsDatagram}
use Rattle.wire_spec.specs.Lists.{joined, IsCut}
use Rattle.plan_spec.specs.Plan.{KindFields, ule, mpe, fec, gse, ServiceFields, PlanFields, isi_of, kinds, is_baseband}
use Rattle.plan_spec.specs.Route.{longest_of}
use Rattle.plan_spec.specs.Bytes.{IsMac, IsOfBytes, AreOfBytes}
use Rattle.plan_spec.specs.Changes.{no_service, plan_in, records_of_version}
use Rattle.plan_spec.specs.Wholes.{is_whole_plan}
use Rattle.plan_spec.specs.Offered.{Records, datagrams as datagrams_of, service_of_datagram, fits, is_offered_to, offered, offered_in}
use Rattle.plan_law.proofs.Alone.{plan_alone, records_alone}
use Rattle.plan_law.proofs.Versions.{first_is_zero}
use Rattle.gse_spec.specs.Received.{carried_by_pdu}
use Rattle.gse_spec.specs.Carried.{CarriesPdus}
use Rattle.gse_spec.specs.Sending.{pdu_for, frames_for, GseService, sent_frames}
use Rattle.addr_rules.specs.declared.rules.Rule.{Rule}
use Rattle.gse_law.specs.Classes.{KeepsClasses}
use Rattle.gse_law.specs.Services.{CanBeWritten, HaveOtherIsis}
use Rattle.gse_law.specs.Streams.{frames_of}
use Rattle.gse_law.proofs.ClassOrder.{keeps_classes, frames_carry_in_order, one_class_order}
use Rattle.gse_law.proofs.Rotation.{own_in_rotation, rotation_carries}
use Rattle.gse_law.proofs.Sizes.{sent_cut}
use Rattle.bb_stream_spec.specs.Stream.{sent_as, sent_by, sent_from, order_by_rules, order_as, order_by, order_of, IsBasebandStream}
use Rattle.bb_stream_spec.specs.Carried.{CarriesInBaseband}
use Rattle.bb_stream_law.proofs.PlanChecks.{AreBaseband, of_whole, unchanged, on_isis, has_size}
use Rattle.bb_stream_law.proofs.Services.{AreShort, AllCanSend, can_send_all, all_written, all_apart, found}

-- One stream.

pub there_is : (plan : PlanFields) (datagrams : ℕ → ℕ → List (List ℕ)) → is_whole_plan plan ≡ true → is_baseband plan ≡ true
    → (frames : List (List ℕ)) × IsBasebandStream plan datagrams frames
there_is plan datagrams whole is = by_size plan.frame_bytes refl is
  where
    by_size : (size : Option ℕ) → plan.frame_bytes ≡ size → is_some size ≡ true → (frames : List (List ℕ)) × IsBasebandStream plan datagrams frames
    by_size None e some = absurd (cc)
    by_size (Some size) e some = (
      sent_frames size (sent_from size 0 plan.services (datagrams 0)),
      record { defined = on_isis plan whole is; unchanged = unchanged plan whole is; size = size; size_is = e; frames_are = refl },
    )

pub is_one : (plan : PlanFields) (datagrams : ℕ → ℕ → List (List ℕ)) (a b : List (List ℕ)) → IsBasebandStream plan datagrams a → IsBasebandStream plan datagrams b → a ≡ b
is_one plan datagrams a b one other =
    let same : one.size ≡ other.size = by_some (sym one.size_is ∙ other.size_is) in
    one.frames_are ∙ ap (λ (size : ℕ). sent_frames size (sent_from size 0 plan.services (datagrams 0))) same ∙ sym other.frames_are
  where
    by_some : {x y : ℕ} → Some x ≡ Some y → x ≡ y
    by_some e = cc

-- What is offered.

longest-le : (kind : KindFields) → longest_of kind ≤ 65527
longest-le (ule pid address packing) = omega arith
longest-le (mpe pid) = omega arith
longest-le (fec pid rows parity window) = omega arith
longest-le (gse isi address) = omega arith

within_longest : (plan : PlanFields) (k : ℕ) (service : Option ℕ) (d : List ℕ) → is_offered_to plan service k d ≡ true → length d ≤ 65527
within_longest plan k None d e = absurd (cc)
within_longest plan k (Some s) d e =
    omega (arith, leb-true (length d) (longest_of (slice_index_or (kinds plan) k (mpe 0))) (and_parts (s == k) (fits plan k d) e).1, longest-le (slice_index_or (kinds plan) k (mpe 0)))

pub offered_short : (plan : PlanFields) (gives : Records) (k : ℕ) → AreShort (offered plan gives k)
offered_short plan gives k = λ i d within.
    within_longest plan k (service_of_datagram plan (slice_index_or (offered plan gives k) i d)) (slice_index_or (offered plan gives k) i d)
    (filter_passes (λ datagram. is_offered_to plan (service_of_datagram plan datagram) k datagram) (datagrams_of gives) i d within)

offered_are : (plan : PlanFields) (gives : Records) (k : ℕ) → All IsDatagram (datagrams_of gives) → All IsDatagram (offered plan gives k)
offered_are plan gives k all =
    All-filter (λ datagram. is_offered_to plan (service_of_datagram plan datagram) k datagram) IsDatagram (datagrams_of gives) all

module _ (plan : PlanFields) (whole : is_whole_plan plan ≡ true) (of_bytes : AreOfBytes plan) (gives : Records) (frames : List (List ℕ))
    (stream : IsBasebandStream plan (offered_in plan gives) frames) where
  of_baseband : is_baseband plan ≡ true
  of_baseband = ap is_some stream.size_is

  size_fits : (300 ≤ stream.size) × (stream.size ≤ 7274)
  size_fits = has_size plan stream.size whole stream.size_is

  is_plan : AreBaseband plan
  is_plan = of_whole plan whole of_baseband

  macs : All IsMac (map (λ (service : ServiceFields). service.unicast) plan.services)
  macs = (subst IsOfBytes (plan_alone plan (first_is_zero plan whole) stream.unchanged) (of_bytes 0 (omega arith))).unicast

  abbrev services : List GseService
  services = sent_from stream.size 0 plan.services (offered_in plan gives 0)

  can : AllCanSend 0 plan.services (offered_in plan gives 0)
  can = can_send_all 0 plan.services (offered_in plan gives 0) macs (λ k. offered_short (plan_in plan 0) (records_of_version plan 0 gives) k)

  written : All (CanBeWritten stream.size) services
  written = all_written stream.size 0 plan.services (offered_in plan gives 0) can

  apart : AllPairs HaveOtherIsis services
  apart = all_apart stream.size 0 plan.services (offered_in plan gives 0) is_plan.kinds_are is_plan.differ

  there : (k : ℕ) (service : ServiceFields) → slice_get plan.services k ≡ Some service → Contains services (sent_by stream.size service (offered_in plan gives 0 k))
  there k service is =
      let at = found stream.size 0 k plan.services (offered_in plan gives 0) service is (sent_by stream.size service (offered_in plan gives 0 k)) in
      let place : 0 + k ≡ k = omega arith in
      (k, at.0, at.1 ∙ ap (λ (n : ℕ). sent_by stream.size service (offered_in plan gives 0 n)) place)

  six_of : (k : ℕ) (service : ServiceFields) → slice_get plan.services k ≡ Some service → length service.unicast ≡ 6
  six_of k service is = six_at plan.services macs k service is
    where
      first_is : (x s : ServiceFields) → Some x ≡ Some s → x ≡ s
      first_is x s e = cc

      six_at : (ss : List ServiceFields) → All IsMac (map (λ (s : ServiceFields). s.unicast) ss) → (n : ℕ) (s : ServiceFields) → slice_get ss n ≡ Some s → length s.unicast ≡ 6
      six_at [] all n s e = absurd (cc)
      six_at (x ∷ ss) all zero s e =
          let same : x ≡ s = first_is x s e in
          ap (λ (t : ServiceFields). length t.unicast) (sym same) ∙ (all 0 [] (omega arith)).size
      six_at (x ∷ ss) all (suc n) s e = six_at ss (λ i d within. all (suc i) d (omega (arith, within))) n s e

  -- of a service of this kind
  carried_by_kind : (kind : KindFields) (unicast : List ℕ) (urgent : List Rule) (isi : ℕ) (datagrams : List (List ℕ)) → isi_of kind ≡ Some isi → length unicast ≡ 6
      → AreShort datagrams → All IsDatagram datagrams → Contains services (sent_as stream.size unicast urgent kind datagrams)
      → CarriesPdus carried_by_pdu isi (sent_frames stream.size services) (order_as stream.size unicast urgent kind datagrams)
  carried_by_kind (ule pid address packing) unicast urgent isi datagrams is six short are within = absurd (cc)
  carried_by_kind (mpe pid) unicast urgent isi datagrams is six short are within = absurd (cc)
  carried_by_kind (fec pid rows parity window) unicast urgent isi datagrams is six short are within = absurd (cc)
  carried_by_kind (gse other address) unicast urgent isi datagrams is six short are within =
      let same : other ≡ isi = by_some is in
      subst (λ (n : ℕ). CarriesPdus carried_by_pdu n (sent_frames stream.size services) (order_by_rules urgent stream.size address unicast datagrams)) same
      (rotation_carries stream.size (omega (arith, size_fits.0)) size_fits.1 carried_by_pdu services (sent_as stream.size unicast urgent (gse other address) datagrams) written apart within
      (order_by_rules urgent stream.size address unicast datagrams) (by_rules urgent))
    where
      by_some : Some other ≡ Some isi → other ≡ isi
      by_some e = cc

      by_rules : (rules : List Rule) → CarriesPdus carried_by_pdu other (frames_for rules other stream.size (map (pdu_for address unicast) datagrams)) (order_by_rules rules stream.size address unicast datagrams)
      by_rules [] =
          subst (λ (t : List (List ℕ)). CarriesPdus carried_by_pdu other (frames_for [] other stream.size (map (pdu_for address unicast) datagrams)) t)
          (one_class_order address unicast stream.size size_fits.0 (λ _. six) datagrams short)
          (frames_carry_in_order address unicast [] stream.size size_fits.0 (λ _. six) datagrams short other size_fits.1 are)
      by_rules (rule ∷ rules) = frames_carry_in_order address unicast (rule ∷ rules) stream.size size_fits.0 (λ _. six) datagrams short other size_fits.1 are

  -- what is offered to a service, and its order in the frames
  abbrev offer : ℕ → List (List ℕ)
  offer k = offered_in plan gives 0 k

  order_is : (k : ℕ) (service : ServiceFields) → slice_get plan.services k ≡ Some service → order_of plan stream.size k (offer k) ≡ order_by stream.size service (offer k)
  order_is k service is = ap (λ (s : ServiceFields). order_by stream.size s (offer k)) (get_or_from_slice_get plan.services k service no_service is)

  offered_all : All IsDatagram (datagrams_of gives) → (k : ℕ) → All IsDatagram (offer k)
  offered_all all k =
      offered_are (plan_in plan 0) (records_of_version plan 0 gives) k
      (subst (λ (r : Records). All IsDatagram (datagrams_of r)) (sym (records_alone plan (first_is_zero plan whole) stream.unchanged gives)) all)

  pub carries : All IsDatagram (datagrams_of gives) → CarriesInBaseband plan frames (λ k. order_of plan stream.size k (offered_in plan gives 0 k))
  carries all = record {
    on_isis = stream.defined;
    carried = λ k isi service is isi_is.
        subst (λ (t : List (List ℕ)). CarriesPdus carried_by_pdu isi t (order_of plan stream.size k (offer k))) (sym stream.frames_are)
        (subst (λ (t : List (List ℕ)). CarriesPdus carried_by_pdu isi (sent_frames stream.size services) t) (sym (order_is k service is))
        (carried_by_kind service.kind service.unicast service.urgent isi (offer k) isi_is (six_of k service is)
        (offered_short (plan_in plan 0) (records_of_version plan 0 gives) k) (offered_all all k) (there k service is)));
  }

  pub own : (k isi : ℕ) (address : Bool) (service : ServiceFields) → slice_get plan.services k ≡ Some service → service.kind ≡ gse isi address
      → frames_of isi frames ≡ frames_for service.urgent isi stream.size (map (pdu_for address service.unicast) (offered_in plan gives 0 k))
  own k isi address service is kind_is =
      let sent : GseService = sent_as stream.size service.unicast service.urgent (gse isi address) (offered_in plan gives 0 k) in
      ap (frames_of isi) stream.frames_are
      ∙ own_in_rotation stream.size (omega (arith, size_fits.0)) size_fits.1 services sent written apart
      (subst (λ (kind : KindFields). Contains services (sent_as stream.size service.unicast service.urgent kind (offered_in plan gives 0 k))) kind_is (there k service is))

  -- each class keeps its order
  kept_by_rules : (rules : List Rule) (address : Bool) (unicast : List ℕ) (datagrams : List (List ℕ)) → length unicast ≡ 6 → AreShort datagrams
      → KeepsClasses rules datagrams (order_by_rules rules stream.size address unicast datagrams)
  kept_by_rules [] address unicast datagrams six short = record { classes = λ class. refl }
  kept_by_rules (rule ∷ rules) address unicast datagrams six short = keeps_classes address unicast (rule ∷ rules) stream.size size_fits.0 (λ _. six) datagrams short

  kept_by_kind : (kind : KindFields) (unicast : List ℕ) (urgent : List Rule) (datagrams : List (List ℕ)) → length unicast ≡ 6 → AreShort datagrams
      → KeepsClasses urgent datagrams (order_as stream.size unicast urgent kind datagrams)
  kept_by_kind (ule pid address packing) unicast urgent datagrams six short = record { classes = λ class. refl }
  kept_by_kind (mpe pid) unicast urgent datagrams six short = record { classes = λ class. refl }
  kept_by_kind (fec pid rows parity window) unicast urgent datagrams six short = record { classes = λ class. refl }
  kept_by_kind (gse isi address) unicast urgent datagrams six short = kept_by_rules urgent address unicast datagrams six short

  pub kept : (k : ℕ) (service : ServiceFields) → slice_get plan.services k ≡ Some service
      → KeepsClasses service.urgent (offered_in plan gives 0 k) (order_of plan stream.size k (offered_in plan gives 0 k))
  kept k service is =
      subst (KeepsClasses service.urgent (offer k)) (sym (order_is k service is))
      (kept_by_kind service.kind service.unicast service.urgent (offer k) (six_of k service is) (offered_short (plan_in plan 0) (records_of_version plan 0 gives) k))

  pub is_cut : IsCut stream.size (joined frames) frames []
  is_cut =
      subst (λ (t : List (List ℕ)). IsCut stream.size (joined t) t []) (sym stream.frames_are)
      (sent_cut stream.size services (omega (arith, size_fits.0)) written)
