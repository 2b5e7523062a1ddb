-- What was offered under a plan, as lists by version and service.
use Rattle.std.proofs.Common.{◌≡◌, ℕ, zero, suc, ◌+◌, ◌%◌, ◌^◌, ◌<◌, ◌≤◌, true, false, ltb, List, [], ◌∷◌, length, drop, get_or, refl, sym, ap, ap₂, ◌∙◌, ◌||◌, Bool, ◌-◌, arith, subst, Option, Some, None}
use Rattle.std.specs.Prelude.{All, slice_get, slice_index_or, sum_by}
use Rattle.std.proofs.lemmas.List.{length-map}
use Rattle.std.proofs.lemmas.List.FromFn.{length-map-range_with_len, get_or-map-range_with_len}
use Rattle.std.proofs.lemmas.List.Sums.{sum_by-cons}
use Rattle.std.proofs.lemmas.Option.{get_or_from_slice_get, slice_get_within}
use Rattle.wire_spec.specs.Datagram.{IsDatagram}
use Rattle.int_table.proofs.Parts.{drop_from}
use Rattle.plan_spec.specs.Plan.{KindFields, ule, mpe, fec, gse, ServiceFields, PlanFields, kinds}
use Rattle.plan_spec.specs.Changes.{with_pid, plan_in, pid_in, service_in}
use Rattle.plan_spec.specs.Route.{longest_of}
use Rattle.plan_spec.specs.Offered.{Records, offered_in}
use Rattle.ts_mux.specs.OnPids.{is_on_pid}
use Rattle.stream_spec.specs.Stream.{are_on_pids}
use Rattle.plan.specs.Parts.{service_seen}
use Rattle.plan.specs.PlanView.{plan_fields}
use Rattle.plan.specs.declared.plan.Plan.{Plan}
use Rattle.stream_spec.specs.Services.{kind_at}
use Rattle.std.specs.List.{list_any, range_with_len}
use Rattle.stream_spec.specs.Units.{FrameSchedule, frame_count}
use Rattle.stream_spec.specs.Stream.{earlier, frame_count_in, frame_count_before, has_frames, has_frames_after, schedule_of, part_of}
use Rattle.stream_law.proofs.Ranges.{sum_same}
use Rattle.stream_law.proofs.Kept.{part_kept}
use Rattle.datagram_routing.specs.Offering.{lists_in, IsOffered}
use Rattle.datagram_routing.specs.declared.offered.Offered.{Offered}
use Rattle.ts_mux.specs.Sending.{AreDatagrams, AreUnits}
use Rattle.datagram_routing.specs.Offering.{datagram_count}
use Rattle.ts_mux.specs.PartUnits.{MadeUnits, AreUnitsOf}
use Rattle.ts_mux.specs.Units.{AreFor}
use Rattle.ts_mux.specs.Services.{Takes, AreTaken, HasLists, listed, frames_before}
use Rattle.ts_mux.proofs.Items.{list_all_at, map_at}
use Rattle.ts_mux.proofs.Moved.{has_pid_in, some_item, there_is}
use Rattle.ts_mux.proofs.Parted.{IsLastOf, none_there, any_there}

some_eq : {X : Type 0} (a b : X) → Some a ≡ Some b → a ≡ b
some_eq a b e = cc

-- Numbers of datagrams.

abbrev count_of : List (List (List ℕ)) → ℕ
count_of lists = sum_by (λ (list : List (List ℕ)). length list) lists

-- the lists of versions from one on and from the next
pub versions_next : (lists : List (List (List (List ℕ)))) (i : ℕ) → i < length lists
    → sum_by (λ (services : List (List (List ℕ))). sum_by (λ (list : List (List ℕ)). length list) services) (drop i lists)
    ≡ sum_by (λ (list : List (List ℕ)). length list) (get_or lists i []) + sum_by (λ (services : List (List (List ℕ))). sum_by (λ (list : List (List ℕ)). length list) services) (drop (i + 1) lists)
versions_next lists i less =
    ap (sum_by (λ (services : List (List (List ℕ))). count_of services)) (drop_from lists i (get_or lists i []) (there_is lists i [] less))
    ∙ sum_by-cons (λ (services : List (List (List ℕ))). count_of services) (get_or lists i []) (drop (i + 1) lists)

-- one version has no more than all
pub version_most : (lists : List (List (List (List ℕ)))) (i : ℕ) → sum_by (λ (list : List (List ℕ)). length list) (get_or lists i []) ≤ datagram_count lists
version_most [] i = omega arith
version_most (services ∷ lists) zero = omega (arith, sum_by-cons (λ (ss : List (List (List ℕ))). count_of ss) services lists)
version_most (services ∷ lists) (suc i) = omega (arith, sum_by-cons (λ (ss : List (List (List ℕ))). count_of ss) services lists, version_most lists i)

-- one list has no more than all of a version
pub list_most : (lists : List (List (List ℕ))) (k : ℕ) (list : List (List ℕ)) → slice_get lists k ≡ Some list → length list ≤ count_of lists
list_most [] k list found = absurd (cc)
list_most (first ∷ lists) zero list found =
    let same : first ≡ list = cc in omega (arith, sum_by-cons (λ (l : List (List ℕ)). length l) first lists, ap (λ (l : List (List ℕ)). length l) same)
list_most (first ∷ lists) (suc k) list found = omega (arith, sum_by-cons (λ (l : List (List ℕ)). length l) first lists, list_most lists k list found)

-- where there are some, one list has some
one_some : (lists : List (List (List ℕ))) → 0 < count_of lists → (k : ℕ) × (list : List (List ℕ)) × (slice_get lists k ≡ Some list) × (0 < length list)
one_some [] some = absurd (omega (arith, some))
one_some (first ∷ lists) some = by_first (length first) refl (λ behind. one_some lists behind)
  where
    by_first : (n : ℕ) → length first ≡ n → (0 < count_of lists → (k : ℕ) × (list : List (List ℕ)) × (slice_get lists k ≡ Some list) × (0 < length list))
        → (k : ℕ) × (list : List (List ℕ)) × (slice_get (first ∷ lists) k ≡ Some list) × (0 < length list)
    by_first zero e later =
        let there = later (omega (arith, some, e, sum_by-cons (λ (l : List (List ℕ)). length l) first lists)) in
        (suc there.0, there.1, there.2, there.3)
    by_first (suc n) e later = (0, first, refl, omega (arith, e))

-- Datagrams by version and service.

module _ (plan : PlanFields) (lists : List (List (List (List ℕ)))) (units : List MadeUnits) (are : AreUnits plan lists units) where
  pub units_at : (version : ℕ) → version ≤ length plan.changes → (made : MadeUnits) × (slice_get units version ≡ Some made) × AreUnitsOf plan version (frames_before plan lists version) (get_or lists version []) made
  units_at version within =
      let found = some_item units version (omega (arith, within, are.versions, are.size)) in
      (found.0, found.1, are.each version found.0 found.1)

  pub services_size : (version : ℕ) → version ≤ length plan.changes → length (get_or lists version []) ≡ length plan.services
  services_size version within = (units_at version within).2.lists_are.taken.size

  pub are_listed : AreDatagrams plan (listed lists) lists
  are_listed = record {
    versions = are.versions;
    each = λ version k within known. there_is (get_or lists version []) k [] (omega (arith, known, services_size version within));
  }

module _ (plan : PlanFields) (datagrams : ℕ → ℕ → List (List ℕ)) (lists : List (List (List (List ℕ)))) (are : AreDatagrams plan datagrams lists) where
  -- the frames before a version are counted in the lists
  numbers_same : (version k : ℕ) → version ≤ length plan.changes → k < length plan.services → frames_before plan lists version k ≡ frame_count_before plan datagrams k version
  numbers_same version k within known =
      sum_same (frame_count_in plan (listed lists) k) (frame_count_in plan datagrams k) 0 version
      (λ u less. ap (λ (ds : List (List ℕ)). frame_count (service_in plan u k).kind ds)
      (item_is (get_or lists u []) k (datagrams u k) (are.each u k (omega (arith, less, within)) known)))
    where
      item_is : (xs : List (List (List ℕ))) (i : ℕ) (x : List (List ℕ)) → slice_get xs i ≡ Some x → get_or xs i [] ≡ x
      item_is [] i x e = absurd (cc)
      item_is (y ∷ xs) zero x e = cc
      item_is (y ∷ xs) (suc i) x e = item_is xs i x e

  list_is : (version k : ℕ) → version ≤ length plan.changes → k < length plan.services → listed lists version k ≡ datagrams version k
  list_is version k within known = found_is (get_or lists version []) k (datagrams version k) (are.each version k within known)
    where
      found_is : (xs : List (List (List ℕ))) (i : ℕ) (x : List (List ℕ)) → slice_get xs i ≡ Some x → get_or xs i [] ≡ x
      found_is [] i x e = absurd (cc)
      found_is (y ∷ xs) zero x e = cc
      found_is (y ∷ xs) (suc i) x e = found_is xs i x e

  -- and so are those after it
  goes_same : (version k : ℕ) → version ≤ length plan.changes → k < length plan.services → has_frames_after plan (listed lists) k version ≡ has_frames_after plan datagrams k version
  goes_same version k within known = any_same (version + 1) (length plan.changes - version) (omega (arith, within))
    where
      any_same : (start n : ℕ) → start + n ≤ length plan.changes + 1 → list_any (has_frames plan (listed lists) k) (range_with_len start n) ≡ list_any (has_frames plan datagrams k) (range_with_len start n)
      any_same start zero le = refl
      any_same start (suc n) le =
          ap₂ (λ (a b : Bool). a || b)
          (ap (λ (ds : List (List ℕ)). ltb 0 (frame_count (service_in plan start k).kind ds)) (list_is start k (omega (arith, le)) known))
          (any_same (start + 1) n (omega (arith, le)))

  schedules_same : (before version k : ℕ) → version ≤ length plan.changes → k < length plan.services → schedule_of plan datagrams before k version ≡ schedule_of plan (listed lists) before k version
  schedules_same before version k within known =
      ap₂ (λ (first : ℕ) (goes : Bool). let s : FrameSchedule = record { first = first; form = plan.recording; rate = plan.packet_rate; cycle = plan.cycle; slots_before = before; goes_on = goes } in s)
      (sym (numbers_same version k within known)) (sym (goes_same version k within known))

  pub has_lists : (slots : ℕ → ℕ) (version before : ℕ) (counters : ℕ → ℕ) → version ≤ length plan.changes → before ≡ sum_by slots (earlier version)
      → ((k : ℕ) → k < length plan.services → counters k ≡ (part_of plan datagrams slots version).packets_before k % 16)
      → HasLists plan version lists counters before (part_of plan datagrams slots version)
  has_lists slots version before counters within before_is counted = record {
    plan_is = refl;
    datagrams = λ k known. are.each version k within known;
    counters_are = counted;
    schedules_are = λ k known.
        schedules_same (sum_by slots (earlier version)) version k within known ∙ ap (λ (n : ℕ). schedule_of plan (listed lists) n k version) (sym before_is);
  }

  pub is_last_of : (last : ℕ) → last < length lists → ((version : ℕ) → last < version → version < length lists → sum_by (λ (list : List (List ℕ)). length list) (get_or lists version []) ≡ 0)
      → (0 < last → 0 < sum_by (λ (list : List (List ℕ)). length list) (get_or lists last [])) → length (get_or lists last []) ≡ length plan.services → IsLastOf plan datagrams last
  is_last_of last within none some size = record {
    within = omega (arith, within, are.versions);
    later = λ version more le.
        none_there (λ k. ltb 0 (length (datagrams version k))) 0 (length plan.services)
        (λ k from less. not_some (length (datagrams version k))
        (omega (arith, list_most (get_or lists version []) k (datagrams version k) (are.each version k le (omega (arith, less))), none version more (omega (arith, le, are.versions)))));
    some = λ above.
        let one = one_some (get_or lists last []) (some above) in
        let known : one.0 < length plan.services = omega (arith, slice_get_within (get_or lists last []) one.0 one.1 one.2, size) in
        let same : one.1 ≡ datagrams last one.0 = some_eq one.1 (datagrams last one.0) (sym one.2 ∙ are.each last one.0 (omega (arith, within, are.versions)) known) in
        any_there (λ k. ltb 0 (length (datagrams last k))) 0 (length plan.services) one.0 one.0 (omega arith) known
        (is_some (length (datagrams last one.0)) (omega (arith, one.3, ap (λ (l : List (List ℕ)). length l) same)));
  }
    where
      not_some : (n : ℕ) → n ≤ 0 → ltb 0 n ≡ false
      not_some n le = grind (arith, le)

      is_some : (n : ℕ) → 0 < n → ltb 0 n ≡ true
      is_some n less = grind (arith, less)

-- each service has a PID in each version
pub has_pids : (plan : Plan) → are_on_pids (plan_fields plan) ≡ true → (k : ℕ) → k < length (plan_fields plan).services → (version : ℕ) → (pid : ℕ) × (pid_in (plan_fields plan) version k ≡ Some pid)
has_pids plan on_pids k known version = by_pid (pid_in (plan_fields plan) version k) refl
  where
    by_pid : (o : Option ℕ) → pid_in (plan_fields plan) version k ≡ o → (pid : ℕ) × (pid_in (plan_fields plan) version k ≡ Some pid)
    by_pid (Some pid) e = (pid, e)
    by_pid None e =
        let service = some_item plan.services k (omega (arith, known, length-map plan.services service_seen)) in
        absurd (has_pid_in plan version k service.0 service.1
        (list_all_at is_on_pid (kinds (plan_fields plan)) k (service_seen service.0).kind
        (map_at (λ (s : ServiceFields). s.kind) (plan_fields plan).services k (service_seen service.0) (map_at service_seen plan.services k service.0 service.1)) on_pids) e)

-- What was offered.

longest_kept : (plan : PlanFields) (version k : ℕ) → longest_of (kind_at (plan_in plan version) k) ≡ longest_of (kind_at plan k)
longest_kept plan version k = part_kept longest_of stays plan version k
  where
    stays : (kind : KindFields) (pid : ℕ) → longest_of (with_pid kind pid) ≡ longest_of kind
    stays (ule old address packing) pid = refl
    stays (mpe old) pid = refl
    stays (fec old rows parity window) pid = refl
    stays (gse isi address) pid = refl

module _ (plan : PlanFields) (records : Records) (offer : Offered) (stands : IsOffered plan records offer) where
  pub length-offered : length offer.lists ≡ length plan.changes + 1
  length-offered = ap (λ (l : List (List (List (List ℕ)))). length l) stands.lists ∙ length-map-range_with_len (lists_in plan records) 0 (length plan.changes + 1)

  pub lists_at : (version : ℕ) (d : List (List (List ℕ))) → version ≤ length plan.changes → get_or offer.lists version d ≡ lists_in plan records version
  lists_at version d within =
      ap (λ (l : List (List (List (List ℕ)))). get_or l version d) stands.lists
      ∙ get_or-map-range_with_len (lists_in plan records) 0 (length plan.changes + 1) version version d (omega (arith, within)) (omega arith)

  list_at : (version k : ℕ) → k < length plan.services → slice_get (lists_in plan records version) k ≡ Some (offered_in plan records version k)
  list_at version k known =
      there_is (lists_in plan records version) k [] (omega (arith, known, length-map-range_with_len (offered_in plan records version) 0 (length plan.services)))
      ∙ ap (λ (l : List (List ℕ)). Some l) (get_or-map-range_with_len (offered_in plan records version) 0 (length plan.services) k k [] known (omega arith))

  pub are_offered : AreDatagrams plan (offered_in plan records) offer.lists
  are_offered = record {
    versions = length-offered;
    each = λ version k within known. ap (λ (l : List (List (List ℕ))). slice_get l k) (lists_at version [] within) ∙ list_at version k known;
  }

  pub few_lists : length plan.services ≤ 64 → All (λ (services : List (List (List ℕ))). length services ≤ 64) offer.lists
  few_lists few version d less =
      omega (
        arith,
        ap (λ (l : List (List (List ℕ))). length l) (lists_at version d (omega (arith, less, length-offered))),
        length-map-range_with_len (offered_in plan records version) 0 (length plan.services),
        few,
      )

  module _ (on_pids : are_on_pids plan ≡ true) (are : (version k : ℕ) → All IsDatagram (offered_in plan records version k))
      (short : (version k : ℕ) → All (λ (datagram : List ℕ). length datagram ≤ longest_of (slice_index_or (kinds (plan_in plan version)) k (mpe 0))) (offered_in plan records version k))
      (few : (version k : ℕ) → length (offered_in plan records version k) ≤ length records) (below : length records < 2 ^ 32) where
    taken_of : (version : ℕ) → AreTaken plan (lists_in plan records version)
    taken_of version = record {
      size = length-map-range_with_len (offered_in plan records version) 0 (length plan.services);
      each = λ k service datagrams found listed. takes_of k service datagrams found listed;
    }
      where
        takes_of : (k : ℕ) (service : ServiceFields) (datagrams : List (List ℕ)) → slice_get plan.services k ≡ Some service → slice_get (lists_in plan records version) k ≡ Some datagrams → Takes service datagrams
        takes_of k service datagrams found there =
            let kind : slice_get (kinds plan) k ≡ Some service.kind = map_at (λ (s : ServiceFields). s.kind) plan.services k service found in
            let kind_is : longest_of (slice_index_or (kinds (plan_in plan version)) k (mpe 0)) ≡ longest_of service.kind
            = longest_kept plan version k ∙ ap longest_of (get_or_from_slice_get (kinds plan) k service.kind (mpe 0) kind) in
            let list_is : datagrams ≡ offered_in plan records version k
            = some_eq datagrams (offered_in plan records version k) (sym there ∙ list_at version k (slice_get_within plan.services k service found)) in
            record {
              on_pid = list_all_at is_on_pid (kinds plan) k service.kind kind on_pids;
              datagrams_are = subst (λ (ds : List (List ℕ)). AreFor service.kind ds) (sym list_is)
                  (λ n d less. record { is = are version k n d less; short = omega (arith, short version k n d less, kind_is) });
              few = omega (arith, ap (λ (ds : List (List ℕ)). length ds) list_is, few version k, below);
            }

    pub all_taken : All (AreTaken plan) offer.lists
    all_taken version d less = subst (λ (l : List (List (List ℕ))). AreTaken plan l) (sym (lists_at version d (omega (arith, less, length-offered)))) (taken_of version)
