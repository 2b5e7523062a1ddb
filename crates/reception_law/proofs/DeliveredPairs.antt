-- Pairs of service and datagram, record by record and service by service.
use Rattle.std.proofs.Common.{◌≡◌, ◌⊎◌, inl, inr, ℕ, zero, suc, ◌+◌, ◌<◌, ◌≤◌, Bool, true, false, ◌&&◌, cond, eqb, Option, None, Some, List, [], ◌∷◌, ◌++◌, length, map, flat_map, drop, refl, ap, ap₂, subst, sym, ◌∙◌, arith, append_assoc}
use Rattle.std.specs.Prelude.{◌≢◌, is_some}
use Rattle.std.specs.List.{range_with_len}
use Rattle.std.proofs.lemmas.Bool.{ne_eqb, eq-eqb, eqb-true, cases_eq}
use Rattle.std.proofs.lemmas.List.{append-nil, take-append-le, length_push}
use Rattle.std.proofs.lemmas.List.Concat.{flat_map-append}
use Rattle.ts_spec.specs.Packet.{fields_of, is_packet}
use Rattle.ts_spec.specs.Recording.{Record}
use Rattle.plan_spec.specs.Plan.{IntFields, PlanFields}
use Rattle.plan_spec.specs.Changes.{pid_in, has_wrong_change}
use Rattle.reception_spec.specs.Packets.{is_on}
use Rattle.reception_spec.specs.Spans.{version_at_end}
use Rattle.reception_spec.specs.Delivered.{told_of, delivered_of, given_by_record, given_by_end, pairs_of_record, pairs_of_end, told_pairs, delivered_pairs}
use Rattle.outlet_spec.specs.Pairs.{pairs_of_all, datagram_of, datagrams_of}
use Rattle.reception_law.specs.Words.{added_on}
use Rattle.reception_law.specs.InForce.{pid_in_force, closed_by_record_on, closed_by_record, closed_at_end_on, closed_at_end}
use Rattle.reception_law.proofs.VersionInForce.{most, without_table, version_stays}
use Rattle.reception_law.proofs.Lists.{other_way}
use Rattle.reception_law.proofs.Pids.{services_apart, table_apart}
use Rattle.reception_law.proofs.WhatIsTold.{told_none, told_stays, record_gives, given_stays, off_given, given_by_other, nobody_gives, end_on, end_without_pid, all_at_end}

-- the pairs of a service
abbrev pub pairs_with : (ℕ → List (List ℕ)) → ℕ → List (ℕ × List ℕ)
pairs_with datagrams k = map (λ datagram. (k, datagram)) (datagrams k)

-- the services from a number on, so many
abbrev pub pairs_from : (ℕ → List (List ℕ)) → ℕ → ℕ → List (ℕ × List ℕ)
pairs_from datagrams from count = flat_map (pairs_with datagrams) (range_with_len from count)

-- Record by record.

-- what a record gives does not depend on the records after it
given_front : (plan : PlanFields) (k : ℕ) (records : List Record) (r : Record) (place : ℕ) → place < length records
    → given_by_record plan k (records ++ r ∷ []) place ≡ given_by_record plan k records place
given_front plan k records r place known =
    ap₂ (λ (xs ys : List Record). drop (length (told_of plan k xs)) (told_of plan k ys))
    (take-append-le place records (r ∷ []) (omega (arith, known))) (take-append-le (place + 1) records (r ∷ []) (omega (arith, known)))

-- what the same numbers of a range give
same_below : {X : Type 0} (f g : ℕ → List X) (from count : ℕ) → ((place : ℕ) → place < from + count → f place ≡ g place)
    → flat_map f (range_with_len from count) ≡ flat_map g (range_with_len from count)
same_below f g from zero same = refl
same_below f g from (suc count) same =
    ap₂ (λ x y. x ++ y) (same from (omega arith)) (same_below f g (from + 1) count (λ place below. same place (omega (arith, below))))

range_push : (from count : ℕ) → range_with_len from (suc count) ≡ range_with_len from count ++ (from + count) ∷ []
range_push from zero = let e : from ≡ from + 0 = omega arith in ap (λ (t : ℕ). t ∷ []) e
range_push from (suc count) =
    let e : from + 1 + count ≡ from + suc count = omega arith in
    ap (λ (t : List ℕ). from ∷ t) (range_push (from + 1) count ∙ ap (λ (t : ℕ). range_with_len (from + 1) count ++ t ∷ []) e)

pairs_front : (plan : PlanFields) (records : List Record) (r : Record) (place : ℕ) → place < length records → pairs_of_record plan (records ++ r ∷ []) place ≡ pairs_of_record plan records place
pairs_front plan records r place known =
    same_below (pairs_with (λ k. given_by_record plan k (records ++ r ∷ []) place)) (pairs_with (λ k. given_by_record plan k records place)) 0 (length plan.services)
    (λ k below. ap (map (λ datagram. (k, datagram))) (given_front plan k records r place known))

pub pairs_more : (plan : PlanFields) (records : List Record) (r : Record) → told_pairs plan (records ++ r ∷ []) ≡ told_pairs plan records ++ pairs_of_record plan (records ++ r ∷ []) (length records)
pairs_more plan records r =
    let longer : length (records ++ r ∷ []) ≡ suc (length records) = omega (arith, length_push records r) in
    let last : 0 + length records ≡ length records = omega arith in
    ap (λ (n : ℕ). flat_map (pairs_of_record plan (records ++ r ∷ [])) (range_with_len 0 n)) longer
    ∙ ap (flat_map (pairs_of_record plan (records ++ r ∷ []))) (range_push 0 (length records) ∙ ap (λ (n : ℕ). range_with_len 0 (length records) ++ n ∷ []) last)
    ∙ flat_map-append (pairs_of_record plan (records ++ r ∷ [])) (range_with_len 0 (length records)) (length records ∷ [])
    ∙ ap₂ (λ x y. x ++ y)
    (same_below (pairs_of_record plan (records ++ r ∷ [])) (pairs_of_record plan records) 0 (length records) (λ place below. pairs_front plan records r place (omega (arith, below))))
    (append-nil (pairs_of_record plan (records ++ r ∷ []) (length records)))

-- those of the end: of each service what the frame under way gives
closed_is : (plan : PlanFields) (records : List Record) (k : ℕ) → has_wrong_change plan ≡ false → given_by_end plan k records ≡ closed_at_end plan k records
closed_is plan records k right = by_force (pid_in_force plan k records) refl
  where
    by_force : (o : Option ℕ) → pid_in_force plan k records ≡ o → given_by_end plan k records ≡ closed_at_end_on o plan k records
    by_force None none = end_without_pid plan k records none
    by_force (Some pid) on = end_on plan k pid records right on

pub end_closes : (plan : PlanFields) (records : List Record) → has_wrong_change plan ≡ false → pairs_of_end plan records ≡ pairs_of_all (length plan.services) (λ k. closed_at_end plan k records)
end_closes plan records right =
    same_below (pairs_with (λ k. given_by_end plan k records)) (pairs_with (λ k. closed_at_end plan k records)) 0 (length plan.services)
    (λ k below. ap (map (λ datagram. (k, datagram))) (closed_is plan records k right))

-- Service by service.

own : (k : ℕ) (datagrams : List (List ℕ)) → datagrams_of k (map (λ datagram. (k, datagram)) datagrams) ≡ datagrams
own k [] = refl
own k (datagram ∷ datagrams) =
    ap (λ (b : Bool). cond b (datagram ∷ []) [] ++ datagrams_of k (map (λ d. (k, d)) datagrams)) (eq-eqb k k refl) ∙ ap (λ (t : List (List ℕ)). datagram ∷ t) (own k datagrams)

foreign : (k j : ℕ) (datagrams : List (List ℕ)) → eqb j k ≡ false → datagrams_of k (map (λ datagram. (j, datagram)) datagrams) ≡ []
foreign k j [] other = refl
foreign k j (datagram ∷ datagrams) other =
    ap (λ (b : Bool). cond b (datagram ∷ []) [] ++ datagrams_of k (map (λ d. (j, d)) datagrams)) other ∙ foreign k j datagrams other

-- a number below or above those of the services
none_outside : (datagrams : ℕ → List (List ℕ)) (k from count : ℕ) → (k < from) ⊎ (from + count ≤ k) → datagrams_of k (pairs_from datagrams from count) ≡ []
none_outside datagrams k from zero outside = refl
none_outside datagrams k from (suc count) outside =
    flat_map-append (datagram_of k) (pairs_with datagrams from) (pairs_from datagrams (from + 1) count)
    ∙ ap₂ (λ x y. x ++ y) (foreign k from (datagrams from) (ne_eqb from k (differs outside))) (none_outside datagrams k (from + 1) count (further outside))
  where
    differs : (k < from) ⊎ (from + suc count ≤ k) → from ≡ k → ⊥
    differs (inl below) same = omega (arith, same, below)
    differs (inr above) same = omega (arith, same, above)

    further : (k < from) ⊎ (from + suc count ≤ k) → (k < from + 1) ⊎ (from + 1 + count ≤ k)
    further (inl below) = inl (omega (arith, below))
    further (inr above) = inr (omega (arith, above))

-- a number of a service
of_service : (datagrams : ℕ → List (List ℕ)) (k from count : ℕ) → from ≤ k → k < from + count → datagrams_of k (pairs_from datagrams from count) ≡ datagrams k
of_service datagrams k from zero least below = absurd (omega (arith, least, below))
of_service datagrams k from (suc count) least below =
    flat_map-append (datagram_of k) (pairs_with datagrams from) (pairs_from datagrams (from + 1) count)
    ∙ by_first (λ further. of_service datagrams k (from + 1) count further (omega (arith, below))) (cases_eq from k)
  where
    Later : Type 0
    Later = from + 1 ≤ k → datagrams_of k (pairs_from datagrams (from + 1) count) ≡ datagrams k

    by_first : Later → (from ≡ k) ⊎ (from ≡ k → ⊥) → datagrams_of k (pairs_with datagrams from) ++ datagrams_of k (pairs_from datagrams (from + 1) count) ≡ datagrams k
    by_first later (inl same) =
        ap₂ (λ x y. x ++ y) (ap (λ (j : ℕ). datagrams_of k (pairs_with datagrams j)) same ∙ own k (datagrams k))
        (none_outside datagrams k (from + 1) count (inl (omega (arith, same))))
        ∙ append-nil (datagrams k)
    by_first later (inr other) = ap₂ (λ x y. x ++ y) (foreign k from (datagrams from) (ne_eqb from k other)) (later (omega (arith, least, other)))

pub part_of_record : (plan : PlanFields) (records : List Record) (place k : ℕ) → k < length plan.services → datagrams_of k (pairs_of_record plan records place) ≡ given_by_record plan k records place
part_of_record plan records place k known = of_service (λ j. given_by_record plan j records place) k 0 (length plan.services) (omega arith) (omega (arith, known))

no_part_of_record : (plan : PlanFields) (records : List Record) (place k : ℕ) → length plan.services ≤ k → datagrams_of k (pairs_of_record plan records place) ≡ []
no_part_of_record plan records place k past = none_outside (λ j. given_by_record plan j records place) k 0 (length plan.services) (inr (omega (arith, past)))

-- a list from its front
pub push_rec : (P : List Record → Type 0) → P [] → ((records : List Record) (r : Record) → P records → P (records ++ r ∷ [])) → (records : List Record) → P records
push_rec P none more records = from_front [] records none
  where
    from_front : (front rest : List Record) → P front → P (front ++ rest)
    from_front front [] done = subst (λ (t : List Record). P t) (sym (append-nil front)) done
    from_front front (r ∷ rest) done = subst (λ (t : List Record). P t) (append_assoc front (r ∷ []) rest) (from_front (front ++ r ∷ []) rest (more front r done))

pub part_is_told : (plan : PlanFields) (records : List Record) (k : ℕ) → has_wrong_change plan ≡ false → k < length plan.services → datagrams_of k (told_pairs plan records) ≡ told_of plan k records
part_is_told plan records k right known = push_rec (λ rs. datagrams_of k (told_pairs plan rs) ≡ told_of plan k rs) (sym (told_none plan k)) more records
  where
    more : (rs : List Record) (r : Record) → datagrams_of k (told_pairs plan rs) ≡ told_of plan k rs → datagrams_of k (told_pairs plan (rs ++ r ∷ [])) ≡ told_of plan k (rs ++ r ∷ [])
    more rs r before =
        ap (datagrams_of k) (pairs_more plan rs r)
        ∙ flat_map-append (datagram_of k) (told_pairs plan rs) (pairs_of_record plan (rs ++ r ∷ []) (length rs))
        ∙ ap₂ (λ x y. x ++ y) before (part_of_record plan (rs ++ r ∷ []) (length rs) k known)
        ∙ sym (told_stays plan k rs r right)

pub part_of_end : (plan : PlanFields) (records : List Record) (k : ℕ) → k < length plan.services → datagrams_of k (pairs_of_end plan records) ≡ given_by_end plan k records
part_of_end plan records k known = of_service (λ j. given_by_end plan j records) k 0 (length plan.services) (omega arith) (omega (arith, known))

pub part_is : (plan : PlanFields) (records : List Record) (k : ℕ) → has_wrong_change plan ≡ false → k < length plan.services → datagrams_of k (delivered_pairs plan records) ≡ delivered_of plan k records
part_is plan records k right known =
    flat_map-append (datagram_of k) (told_pairs plan records) (pairs_of_end plan records)
    ∙ ap₂ (λ x y. x ++ y) (part_is_told plan records k right known) (part_of_end plan records k known)
    ∙ sym (all_at_end plan k records right)

no_part_told : (plan : PlanFields) (k : ℕ) → length plan.services ≤ k → (records : List Record) → datagrams_of k (told_pairs plan records) ≡ []
no_part_told plan k past records = push_rec (λ rs. datagrams_of k (told_pairs plan rs) ≡ []) refl more records
  where
    more : (rs : List Record) (r : Record) → datagrams_of k (told_pairs plan rs) ≡ [] → datagrams_of k (told_pairs plan (rs ++ r ∷ [])) ≡ []
    more rs r before =
        ap (datagrams_of k) (pairs_more plan rs r)
        ∙ flat_map-append (datagram_of k) (told_pairs plan rs) (pairs_of_record plan (rs ++ r ∷ []) (length rs))
        ∙ ap₂ (λ x y. x ++ y) before (no_part_of_record plan (rs ++ r ∷ []) (length rs) k past)

pub no_part : (plan : PlanFields) (records : List Record) (k : ℕ) → length plan.services ≤ k → datagrams_of k (delivered_pairs plan records) ≡ []
no_part plan records k past =
    flat_map-append (datagram_of k) (told_pairs plan records) (pairs_of_end plan records)
    ∙ ap₂ (λ x y. x ++ y) (no_part_told plan k past records)
    (none_outside (λ j. given_by_end plan j records) k 0 (length plan.services) (inr (omega (arith, past))))

-- The pairs of one service alone.

none_but : (datagrams : ℕ → List (List ℕ)) (k from count : ℕ) → k < from → ((j : ℕ) → j < from + count → j ≢ k → datagrams j ≡ []) → pairs_from datagrams from count ≡ []
none_but datagrams k from zero past none = refl
none_but datagrams k from (suc count) past none =
    ap₂ (λ x y. x ++ y) (ap (map (λ datagram. (from, datagram))) (none from (omega arith) (λ same. omega (arith, same, past))))
    (none_but datagrams k (from + 1) count (omega (arith, past)) (λ j below. none j (omega (arith, below))))

one_alone : (datagrams : ℕ → List (List ℕ)) (k from count : ℕ) → from ≤ k → k < from + count → ((j : ℕ) → j < from + count → j ≢ k → datagrams j ≡ [])
    → pairs_from datagrams from count ≡ pairs_with datagrams k
one_alone datagrams k from zero least below none = absurd (omega (arith, least, below))
one_alone datagrams k from (suc count) least below none =
    by_first (λ further. one_alone datagrams k (from + 1) count further (omega (arith, below)) (λ j less. none j (omega (arith, less)))) (cases_eq from k)
  where
    Later : Type 0
    Later = from + 1 ≤ k → pairs_from datagrams (from + 1) count ≡ pairs_with datagrams k

    by_first : Later → (from ≡ k) ⊎ (from ≡ k → ⊥) → pairs_with datagrams from ++ pairs_from datagrams (from + 1) count ≡ pairs_with datagrams k
    by_first later (inl same) =
        ap₂ (λ x y. x ++ y) (ap (pairs_with datagrams) same) (none_but datagrams k (from + 1) count (omega (arith, same)) (λ j less. none j (omega (arith, less))))
        ∙ append-nil (pairs_with datagrams k)
    by_first later (inr other) = ap₂ (λ x y. x ++ y) (ap (map (λ datagram. (from, datagram))) (none from (omega arith) other)) (later (omega (arith, least, other)))

pub alone : (plan : PlanFields) (k : ℕ) (records : List Record) (place : ℕ) (given : List (List ℕ)) → k < length plan.services → given_by_record plan k records place ≡ given
    → ((other : ℕ) → other < length plan.services → other ≢ k → given_by_record plan other records place ≡ []) → pairs_of_record plan records place ≡ map (λ (datagram : List ℕ). (k, datagram)) given
alone plan k records place given known is none =
    one_alone (λ j. given_by_record plan j records place) k 0 (length plan.services) (omega arith) (omega (arith, known)) (λ j less. none j (omega (arith, less)))
    ∙ ap (map (λ (datagram : List ℕ). (k, datagram))) is

none_below : (datagrams : ℕ → List (List ℕ)) (from count : ℕ) → ((j : ℕ) → j < from + count → datagrams j ≡ []) → pairs_from datagrams from count ≡ []
none_below datagrams from zero none = refl
none_below datagrams from (suc count) none =
    ap₂ (λ x y. x ++ y) (ap (map (λ datagram. (from, datagram))) (none from (omega arith))) (none_below datagrams (from + 1) count (λ j below. none j (omega (arith, below))))

pub none_given : (plan : PlanFields) (records : List Record) (r : Record) → ((k pid : ℕ) → k < length plan.services → pid_in_force plan k records ≡ Some pid → is_on pid r ≡ false)
    → ((k : ℕ) → k < length plan.services → pid_in_force plan k (records ++ r ∷ []) ≡ pid_in_force plan k records)
    → pairs_of_record plan (records ++ r ∷ []) (length records) ≡ []
none_given plan records r off stay =
    none_below (λ j. given_by_record plan j (records ++ r ∷ []) (length records)) 0 (length plan.services)
    (λ j below. given_by_other plan j records r (λ pid on. off j pid (omega (arith, below)) on) (stay j (omega (arith, below))))

-- a packet of a PID is none of another
one_pid : (timed readable : Bool) (pid other of : ℕ) → (timed && (readable && eqb of pid)) ≡ true → eqb other pid ≡ false → (timed && (readable && eqb of other)) ≡ false
one_pid false readable pid other of on differs = refl
one_pid true false pid other of on differs = refl
one_pid true true pid other of on differs = by_test (eqb of other) refl
  where
    by_test : (b : Bool) → eqb of other ≡ b → b ≡ false
    by_test true same =
        let never : true ≡ false = sym (eq-eqb other pid (sym (eqb-true of other same) ∙ eqb-true of pid on)) ∙ differs in
        absurd (cc (never))
    by_test false is = refl

pub off_other : (pid other : ℕ) (r : Record) → is_on pid r ≡ true → eqb other pid ≡ false → is_on other r ≡ false
off_other pid other r on differs = one_pid (is_some r.moment) (is_packet r.bytes) pid other (fields_of r.bytes).pid on differs

-- a packet of a service leaves the version in force
version_same : (plan : PlanFields) (k pid : ℕ) (records : List Record) (r : Record) → has_wrong_change plan ≡ false → k < length plan.services → pid_in_force plan k records ≡ Some pid
    → is_on pid r ≡ true → version_at_end plan (records ++ r ∷ []) ≡ version_at_end plan records
version_same plan k pid records r right known in_force on = by_table plan.table refl
  where
    by_table : (table : Option IntFields) → plan.table ≡ table → version_at_end plan (records ++ r ∷ []) ≡ version_at_end plan records
    by_table None none = without_table plan (records ++ r ∷ []) (length (records ++ r ∷ [])) none ∙ sym (without_table plan records (length records) none)
    by_table (Some int) is =
        version_stays plan int records r is
        (off_other pid int.pid r on (table_apart plan int right (version_at_end plan records) k pid (most plan records (length records)) known is in_force))

pub one_given : (plan : PlanFields) (k pid : ℕ) (records : List Record) (r : Record) → has_wrong_change plan ≡ false → k < length plan.services → pid_in_force plan k records ≡ Some pid
    → is_on pid r ≡ true → pairs_of_record plan (records ++ r ∷ []) (length records) ≡ map (λ (datagram : List ℕ). (k, datagram)) (added_on plan k pid records r)
one_given plan k pid records r right known in_force on =
    alone plan k (records ++ r ∷ []) (length records) (added_on plan k pid records r) known
    (record_gives plan k pid records r right in_force ∙ given_stays plan k pid records r (stays k ∙ in_force))
    (λ other known2 differs. given_by_other plan other records r
    (λ pid2 in_force2. off_other pid pid2 r on
    (services_apart plan right (version_at_end plan records) other k pid2 pid (most plan records (length records)) differs known2 known in_force2 in_force))
    (stays other))
  where
    stays : (j : ℕ) → pid_in_force plan j (records ++ r ∷ []) ≡ pid_in_force plan j records
    stays j = ap (λ (v : ℕ). pid_in plan v j) (version_same plan k pid records r right known in_force on)

-- A packet of the INT.

int_gives : (plan : PlanFields) (int : IntFields) (k : ℕ) (records : List Record) (r : Record) → has_wrong_change plan ≡ false → plan.table ≡ Some int → is_on int.pid r ≡ true
    → k < length plan.services → given_by_record plan k (records ++ r ∷ []) (length records) ≡ closed_by_record plan k records r
int_gives plan int k records r right is on known = by_force (pid_in_force plan k records) refl
  where
    by_force : (o : Option ℕ) → pid_in_force plan k records ≡ o → given_by_record plan k (records ++ r ∷ []) (length records) ≡ closed_by_record_on o plan k records r
    by_force None none = nobody_gives plan k records r none
    by_force (Some pid) in_force =
        record_gives plan k pid records r right in_force
        ∙ off_given plan k pid records r
        (off_other int.pid pid r on
        (other_way int.pid pid (table_apart plan int right (version_at_end plan records) k pid (most plan records (length records)) known is in_force)))

pub int_closes : (plan : PlanFields) (int : IntFields) (records : List Record) (r : Record) → has_wrong_change plan ≡ false → plan.table ≡ Some int → is_on int.pid r ≡ true
    → pairs_of_record plan (records ++ r ∷ []) (length records) ≡ pairs_of_all (length plan.services) (λ k. closed_by_record plan k records r)
int_closes plan int records r right is on =
    same_below (pairs_with (λ k. given_by_record plan k (records ++ r ∷ []) (length records))) (pairs_with (λ k. closed_by_record plan k records r)) 0 (length plan.services)
    (λ k below. ap (map (λ datagram. (k, datagram))) (int_gives plan int k records r right is on (omega (arith, below))))
