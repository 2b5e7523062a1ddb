-- Pairs of service and datagram, frame by frame and service by service.
use Rattle.std.proofs.Common.{◌≡◌, ◌⊎◌, inl, inr, ℕ, zero, suc, ◌+◌, ◌<◌, ◌≤◌, Bool, true, false, ◌&&◌, cond, not, eqb, Option, None, Some, List, [], ◌∷◌, ◌++◌, length, map, flat_map, drop, take, refl, ap, ap₂, subst, sym, ◌∙◌, arith, append_assoc}
use Rattle.std.specs.Prelude.{◌≢◌}
use Rattle.std.specs.List.{range_with_len}
use Rattle.std.proofs.lemmas.Bool.{ne_eqb, eq-eqb, eqb-true, cases_eq}
use Rattle.std.proofs.lemmas.List.{append-nil, take-append-le, take_all, drop_at, length_push}
use Rattle.std.proofs.lemmas.List.Concat.{flat_map-append}
use Rattle.plan_spec.specs.Plan.{ServiceFields, PlanFields, isi_of, isis}
use Rattle.plan_spec.specs.Checks.{has_pair}
use Rattle.gse_spec.specs.Frame.{frame_fields}
use Rattle.gse_spec.specs.Packet.{packets_of}
use Rattle.gse_spec.specs.Reassembly.{PlacedPacket, latest_first, PlacedPdu, pdus_after}
use Rattle.gse_spec.specs.Received.{is_frame_of, is_foreign, placed, received_gse_packets, received_pdus, carried_by_pdu, delivered_by_pdu, delivered_by_gse}
use Rattle.gse_spec.specs.Numbers.{received_frame_count}
use Rattle.gse_law.specs.Streams.{packets_of_frame, OneFrameMore}
use Rattle.gse_law.proofs.Steps.{one_frame}
use Rattle.outlet_spec.specs.Pairs.{datagram_of, datagrams_of}
use Rattle.bb_reception_spec.specs.Delivered.{delivered_on, delivered_by_service, service_at, delivered_of, added_by, given_by_frame, pairs_of_frame, delivered_pairs}
use Rattle.bb_reception_law.proofs.Services.{apart, of_one, foreign_off}

-- What one frame more adds to a service.

abbrev given_by : List (List ℕ) → PlacedPdu → List (List ℕ)
given_by filter x = delivered_by_pdu carried_by_pdu filter x.pdu

front_stays : {X : Type 0} (xs ys all : List X) → all ≡ xs ++ ys → all ≡ xs ++ drop (length xs) all
front_stays xs ys all is = is ∙ ap (λ t. xs ++ t) (sym (ap (drop (length xs)) is ∙ drop_at xs ys (length xs) refl))

stays_on : (o : Option ℕ) (filter frames : List (List ℕ)) (b : List ℕ)
    → delivered_on o filter (frames ++ b ∷ []) ≡ delivered_on o filter frames ++ drop (length (delivered_on o filter frames)) (delivered_on o filter (frames ++ b ∷ []))
stays_on None filter frames b = refl
stays_on (Some isi) filter frames b =
    let later : List PlacedPdu = pdus_after (latest_first [] (received_gse_packets isi frames)) (packets_of_frame isi (length frames) (received_frame_count isi frames) b) in
    front_stays (delivered_by_gse carried_by_pdu filter isi frames) (flat_map (given_by filter) later) (delivered_by_gse carried_by_pdu filter isi (frames ++ b ∷ []))
    (ap (flat_map (given_by filter)) (one_frame isi frames b).pdus ∙ flat_map-append (given_by filter) (received_pdus isi frames) later)

pub delivered_stays : (it : ServiceFields) (frames : List (List ℕ)) (b : List ℕ) → delivered_by_service it (frames ++ b ∷ []) ≡ delivered_by_service it frames ++ added_by it frames b
delivered_stays it frames b = stays_on (isi_of it.kind) it.filter frames b

-- nothing, where the service has no ISI, or the frame is none of it
same_received : (isi : ℕ) (frames : List (List ℕ)) (b : List ℕ) → is_frame_of isi b ≡ false → received_pdus isi (frames ++ b ∷ []) ≡ received_pdus isi frames
same_received isi frames b off =
    ap (pdus_after [])
    ((one_frame isi frames b).packets
    ∙ ap (λ (t : List PlacedPacket). received_gse_packets isi frames ++ t)
    (ap (λ (of : Bool). cond of (placed (length frames) (received_frame_count isi frames + 1) 0 (packets_of (frame_fields b).field)) []) off)
    ∙ append-nil (received_gse_packets isi frames))

same_on : (o : Option ℕ) (filter frames : List (List ℕ)) (b : List ℕ) → ((isi : ℕ) → o ≡ Some isi → is_frame_of isi b ≡ false)
    → delivered_on o filter (frames ++ b ∷ []) ≡ delivered_on o filter frames
same_on None filter frames b off = refl
same_on (Some isi) filter frames b off = ap (flat_map (given_by filter)) (same_received isi frames b (off isi refl))

pub nothing_added : (it : ServiceFields) (frames : List (List ℕ)) (b : List ℕ) → ((isi : ℕ) → isi_of it.kind ≡ Some isi → is_frame_of isi b ≡ false) → added_by it frames b ≡ []
nothing_added it frames b off =
    ap (drop (length (delivered_by_service it frames))) (same_on (isi_of it.kind) it.filter frames b off ∙ sym (append-nil (delivered_by_service it frames)))
    ∙ drop_at (delivered_by_service it frames) [] (length (delivered_by_service it frames)) refl

-- The pairs of services from a number on.

abbrev pairs_with : (ℕ → List (List ℕ)) → ℕ → List (ℕ × List ℕ)
pairs_with datagrams k = map (λ datagram. (k, datagram)) (datagrams k)

abbrev pairs_from : (ℕ → List (List ℕ)) → ℕ → ℕ → List (ℕ × List ℕ)
pairs_from datagrams from count = flat_map (pairs_with datagrams) (range_with_len from count)

same_below : {X : Type 0} (f g : ℕ → List X) (from count : ℕ) → ((place : ℕ) → place < from + count → f place ≡ g place)
    → flat_map f (range_with_len from count) ≡ flat_map g (range_with_len from count)
same_below f g from zero same = refl
same_below f g from (suc count) same =
    ap₂ (λ x y. x ++ y) (same from (omega arith)) (same_below f g (from + 1) count (λ place below. same place (omega (arith, below))))

range_push : (from count : ℕ) → range_with_len from (suc count) ≡ range_with_len from count ++ (from + count) ∷ []
range_push from zero = let e : from ≡ from + 0 = omega arith in ap (λ (t : ℕ). t ∷ []) e
range_push from (suc count) =
    let e : from + 1 + count ≡ from + suc count = omega arith in
    ap (λ (t : List ℕ). from ∷ t) (range_push (from + 1) count ∙ ap (λ (t : ℕ). range_with_len (from + 1) count ++ t ∷ []) e)

-- Frame by frame.

-- what a frame gives does not depend on the frames after it
given_front : (plan : PlanFields) (k : ℕ) (frames : List (List ℕ)) (b : List ℕ) (place : ℕ) → place < length frames
    → given_by_frame plan k (frames ++ b ∷ []) place ≡ given_by_frame plan k frames place
given_front plan k frames b place known =
    ap₂ (λ (xs ys : List (List ℕ)). drop (length (delivered_of plan k xs)) (delivered_of plan k ys))
    (take-append-le place frames (b ∷ []) (omega (arith, known))) (take-append-le (place + 1) frames (b ∷ []) (omega (arith, known)))

-- the last frame gives what it adds
given_last : (plan : PlanFields) (k : ℕ) (frames : List (List ℕ)) (b : List ℕ) → given_by_frame plan k (frames ++ b ∷ []) (length frames) ≡ added_by (service_at plan k) frames b
given_last plan k frames b =
    let least : length frames ≤ length frames = omega arith in
    let all : length (frames ++ b ∷ []) ≤ length frames + 1 = omega (arith, length_push frames b) in
    ap₂ (λ (xs ys : List (List ℕ)). drop (length (delivered_of plan k xs)) (delivered_of plan k ys))
    (take-append-le (length frames) frames (b ∷ []) least ∙ take_all (length frames) frames least) (take_all (length frames + 1) (frames ++ b ∷ []) all)

pairs_front : (plan : PlanFields) (frames : List (List ℕ)) (b : List ℕ) (place : ℕ) → place < length frames → pairs_of_frame plan (frames ++ b ∷ []) place ≡ pairs_of_frame plan frames place
pairs_front plan frames b place known =
    same_below (pairs_with (λ k. given_by_frame plan k (frames ++ b ∷ []) place)) (pairs_with (λ k. given_by_frame plan k frames place)) 0 (length plan.services)
    (λ k below. ap (map (λ datagram. (k, datagram))) (given_front plan k frames b place known))

pub pairs_more : (plan : PlanFields) (frames : List (List ℕ)) (b : List ℕ)
    → delivered_pairs plan (frames ++ b ∷ []) ≡ delivered_pairs plan frames ++ pairs_of_frame plan (frames ++ b ∷ []) (length frames)
pairs_more plan frames b =
    let longer : length (frames ++ b ∷ []) ≡ suc (length frames) = omega (arith, length_push frames b) in
    let last : 0 + length frames ≡ length frames = omega arith in
    ap (λ (n : ℕ). flat_map (pairs_of_frame plan (frames ++ b ∷ [])) (range_with_len 0 n)) longer
    ∙ ap (flat_map (pairs_of_frame plan (frames ++ b ∷ []))) (range_push 0 (length frames) ∙ ap (λ (n : ℕ). range_with_len 0 (length frames) ++ n ∷ []) last)
    ∙ flat_map-append (pairs_of_frame plan (frames ++ b ∷ [])) (range_with_len 0 (length frames)) (length frames ∷ [])
    ∙ ap₂ (λ x y. x ++ y)
    (same_below (pairs_of_frame plan (frames ++ b ∷ [])) (pairs_of_frame plan frames) 0 (length frames) (λ place below. pairs_front plan frames b place (omega (arith, below))))
    (append-nil (pairs_of_frame plan (frames ++ b ∷ []) (length frames)))

-- Service by service.

own : (k : ℕ) (datagrams : List (List ℕ)) → datagrams_of k (map (λ datagram. (k, datagram)) datagrams) ≡ datagrams
own k [] = refl
own k (datagram ∷ datagrams) =
    ap (λ (b : Bool). cond b (datagram ∷ []) [] ++ datagrams_of k (map (λ d. (k, d)) datagrams)) (eq-eqb k k refl) ∙ ap (λ (t : List (List ℕ)). datagram ∷ t) (own k datagrams)

foreign : (k j : ℕ) (datagrams : List (List ℕ)) → eqb j k ≡ false → datagrams_of k (map (λ datagram. (j, datagram)) datagrams) ≡ []
foreign k j [] other = refl
foreign k j (datagram ∷ datagrams) other =
    ap (λ (b : Bool). cond b (datagram ∷ []) [] ++ datagrams_of k (map (λ d. (j, d)) datagrams)) other ∙ foreign k j datagrams other

-- a number below or above those of the services
none_outside : (datagrams : ℕ → List (List ℕ)) (k from count : ℕ) → (k < from) ⊎ (from + count ≤ k) → datagrams_of k (pairs_from datagrams from count) ≡ []
none_outside datagrams k from zero outside = refl
none_outside datagrams k from (suc count) outside =
    flat_map-append (datagram_of k) (pairs_with datagrams from) (pairs_from datagrams (from + 1) count)
    ∙ ap₂ (λ x y. x ++ y) (foreign k from (datagrams from) (ne_eqb from k (differs outside))) (none_outside datagrams k (from + 1) count (further outside))
  where
    differs : (k < from) ⊎ (from + suc count ≤ k) → from ≡ k → ⊥
    differs (inl below) same = omega (arith, same, below)
    differs (inr above) same = omega (arith, same, above)

    further : (k < from) ⊎ (from + suc count ≤ k) → (k < from + 1) ⊎ (from + 1 + count ≤ k)
    further (inl below) = inl (omega (arith, below))
    further (inr above) = inr (omega (arith, above))

-- a number of a service
of_service : (datagrams : ℕ → List (List ℕ)) (k from count : ℕ) → from ≤ k → k < from + count → datagrams_of k (pairs_from datagrams from count) ≡ datagrams k
of_service datagrams k from zero least below = absurd (omega (arith, least, below))
of_service datagrams k from (suc count) least below =
    flat_map-append (datagram_of k) (pairs_with datagrams from) (pairs_from datagrams (from + 1) count)
    ∙ by_first (λ further. of_service datagrams k (from + 1) count further (omega (arith, below))) (cases_eq from k)
  where
    Later : Type 0
    Later = from + 1 ≤ k → datagrams_of k (pairs_from datagrams (from + 1) count) ≡ datagrams k

    by_first : Later → (from ≡ k) ⊎ (from ≡ k → ⊥) → datagrams_of k (pairs_with datagrams from) ++ datagrams_of k (pairs_from datagrams (from + 1) count) ≡ datagrams k
    by_first later (inl same) =
        ap₂ (λ x y. x ++ y) (ap (λ (j : ℕ). datagrams_of k (pairs_with datagrams j)) same ∙ own k (datagrams k))
        (none_outside datagrams k (from + 1) count (inl (omega (arith, same))))
        ∙ append-nil (datagrams k)
    by_first later (inr other) = ap₂ (λ x y. x ++ y) (foreign k from (datagrams from) (ne_eqb from k other)) (later (omega (arith, least, other)))

pub part_of_frame : (plan : PlanFields) (frames : List (List ℕ)) (place k : ℕ) → k < length plan.services → datagrams_of k (pairs_of_frame plan frames place) ≡ given_by_frame plan k frames place
part_of_frame plan frames place k known = of_service (λ j. given_by_frame plan j frames place) k 0 (length plan.services) (omega arith) (omega (arith, known))

-- a list from its front
pub push_rec : (P : List (List ℕ) → Type 0) → P [] → ((frames : List (List ℕ)) (b : List ℕ) → P frames → P (frames ++ b ∷ [])) → (frames : List (List ℕ)) → P frames
push_rec P none more frames = from_front [] frames none
  where
    from_front : (front rest : List (List ℕ)) → P front → P (front ++ rest)
    from_front front [] done = subst (λ (t : List (List ℕ)). P t) (sym (append-nil front)) done
    from_front front (b ∷ rest) done = subst (λ (t : List (List ℕ)). P t) (append_assoc front (b ∷ []) rest) (from_front (front ++ b ∷ []) rest (more front b done))

nothing_of : (o : Option ℕ) (filter : List (List ℕ)) → delivered_on o filter [] ≡ []
nothing_of None filter = refl
nothing_of (Some isi) filter = refl

pub part_is : (plan : PlanFields) (frames : List (List ℕ)) (k : ℕ) → k < length plan.services → datagrams_of k (delivered_pairs plan frames) ≡ delivered_of plan k frames
part_is plan frames k known =
    push_rec (λ fs. datagrams_of k (delivered_pairs plan fs) ≡ delivered_of plan k fs) (sym (nothing_of (isi_of (service_at plan k).kind) (service_at plan k).filter)) more frames
  where
    more : (fs : List (List ℕ)) (b : List ℕ) → datagrams_of k (delivered_pairs plan fs) ≡ delivered_of plan k fs
        → datagrams_of k (delivered_pairs plan (fs ++ b ∷ [])) ≡ delivered_of plan k (fs ++ b ∷ [])
    more fs b before =
        ap (datagrams_of k) (pairs_more plan fs b)
        ∙ flat_map-append (datagram_of k) (delivered_pairs plan fs) (pairs_of_frame plan (fs ++ b ∷ []) (length fs))
        ∙ ap₂ (λ x y. x ++ y) before (part_of_frame plan (fs ++ b ∷ []) (length fs) k known ∙ given_last plan k fs b)
        ∙ sym (delivered_stays (service_at plan k) fs b)

pub no_part : (plan : PlanFields) (frames : List (List ℕ)) (k : ℕ) → length plan.services ≤ k → datagrams_of k (delivered_pairs plan frames) ≡ []
no_part plan frames k past = push_rec (λ fs. datagrams_of k (delivered_pairs plan fs) ≡ []) refl more frames
  where
    more : (fs : List (List ℕ)) (b : List ℕ) → datagrams_of k (delivered_pairs plan fs) ≡ [] → datagrams_of k (delivered_pairs plan (fs ++ b ∷ [])) ≡ []
    more fs b before =
        ap (datagrams_of k) (pairs_more plan fs b)
        ∙ flat_map-append (datagram_of k) (delivered_pairs plan fs) (pairs_of_frame plan (fs ++ b ∷ []) (length fs))
        ∙ ap₂ (λ x y. x ++ y) before (none_outside (λ j. given_by_frame plan j (fs ++ b ∷ []) (length fs)) k 0 (length plan.services) (inr (omega (arith, past))))

-- The pairs of one frame.

none_but : (datagrams : ℕ → List (List ℕ)) (k from count : ℕ) → k < from → ((j : ℕ) → j < from + count → j ≢ k → datagrams j ≡ []) → pairs_from datagrams from count ≡ []
none_but datagrams k from zero past none = refl
none_but datagrams k from (suc count) past none =
    ap₂ (λ x y. x ++ y) (ap (map (λ datagram. (from, datagram))) (none from (omega arith) (λ same. omega (arith, same, past))))
    (none_but datagrams k (from + 1) count (omega (arith, past)) (λ j below. none j (omega (arith, below))))

one_alone : (datagrams : ℕ → List (List ℕ)) (k from count : ℕ) → from ≤ k → k < from + count → ((j : ℕ) → j < from + count → j ≢ k → datagrams j ≡ [])
    → pairs_from datagrams from count ≡ pairs_with datagrams k
one_alone datagrams k from zero least below none = absurd (omega (arith, least, below))
one_alone datagrams k from (suc count) least below none =
    by_first (λ further. one_alone datagrams k (from + 1) count further (omega (arith, below)) (λ j less. none j (omega (arith, less)))) (cases_eq from k)
  where
    Later : Type 0
    Later = from + 1 ≤ k → pairs_from datagrams (from + 1) count ≡ pairs_with datagrams k

    by_first : Later → (from ≡ k) ⊎ (from ≡ k → ⊥) → pairs_with datagrams from ++ pairs_from datagrams (from + 1) count ≡ pairs_with datagrams k
    by_first later (inl same) =
        ap₂ (λ x y. x ++ y) (ap (pairs_with datagrams) same) (none_but datagrams k (from + 1) count (omega (arith, same)) (λ j less. none j (omega (arith, less))))
        ∙ append-nil (pairs_with datagrams k)
    by_first later (inr other) = ap₂ (λ x y. x ++ y) (ap (map (λ datagram. (from, datagram))) (none from (omega arith) other)) (later (omega (arith, least, other)))

none_below : (datagrams : ℕ → List (List ℕ)) (from count : ℕ) → ((j : ℕ) → j < from + count → datagrams j ≡ []) → pairs_from datagrams from count ≡ []
none_below datagrams from zero none = refl
none_below datagrams from (suc count) none =
    ap₂ (λ x y. x ++ y) (ap (map (λ datagram. (from, datagram))) (none from (omega arith))) (none_below datagrams (from + 1) count (λ j below. none j (omega (arith, below))))

pub one_given : (plan : PlanFields) (k isi : ℕ) (frames : List (List ℕ)) (b : List ℕ) → has_pair (λ a b. eqb a b) (isis plan) ≡ false → k < length plan.services
    → isi_of (service_at plan k).kind ≡ Some isi → is_frame_of isi b ≡ true
    → pairs_of_frame plan (frames ++ b ∷ []) (length frames) ≡ map (λ (datagram : List ℕ). (k, datagram)) (added_by (service_at plan k) frames b)
one_given plan k isi frames b differ known is on =
    one_alone (λ j. given_by_frame plan j (frames ++ b ∷ []) (length frames)) k 0 (length plan.services) (omega arith) (omega (arith, known))
    (λ j below other. given_last plan j frames b
    ∙ nothing_added (service_at plan j) frames b (λ second is_j. of_one isi second b on (apart plan.services j k second isi differ other (omega (arith, below)) known is_j is)))
    ∙ ap (map (λ (datagram : List ℕ). (k, datagram))) (given_last plan k frames b)

pub none_given : (plan : PlanFields) (frames : List (List ℕ)) (b : List ℕ) → is_foreign (isis plan) b ≡ true → pairs_of_frame plan (frames ++ b ∷ []) (length frames) ≡ []
none_given plan frames b off =
    none_below (λ j. given_by_frame plan j (frames ++ b ∷ []) (length frames)) 0 (length plan.services)
    (λ j below. given_last plan j frames b ∙ nothing_added (service_at plan j) frames b (λ isi is. foreign_off plan j isi b off (omega (arith, below)) is))
