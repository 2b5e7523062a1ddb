-- The services of a plan as they begin a part.
use Rattle.std.proofs.Common.{◌≡◌, ◌⊎◌, inl, inr, ℕ, zero, suc, ◌+◌, ◌*◌, ◌%◌, ◌^◌, ◌<◌, ◌≤◌, Bool, cond, List, [], ◌∷◌, length, map, get_or, set, refl, sym, ap, ap₂, ◌∙◌, arith, Option, Some, None}
use Rattle.std.specs.Prelude.{slice_get, slice_index, slice_index_or, is_some}
use Rattle.std.specs.List.{cons_option}
use Rattle.std.proofs.lemmas.Bool.{cases_lt}
use Rattle.std.proofs.lemmas.List.{length-map, get_or_past}
use Rattle.ts_spec.specs.Packet.{PacketFields}
use Rattle.plan_spec.specs.Plan.{KindFields, ule, mpe, fec, gse, ServiceFields, PlanFields, kinds, SlicedFields, sliced_of}
use Rattle.plan_spec.specs.Changes.{no_service, services_in, service_in, plan_in, with_pid}
use Rattle.plan_law.proofs.Kept.{length-services_in}
use Rattle.slice_spec.specs.Windows.{OwnedWindow}
use Rattle.stream_spec.specs.Services.{kind_at}
use Rattle.stream_spec.specs.Units.{FrameSchedule, burst_sizes, packets_of}
use Rattle.stream_spec.specs.Stream.{schedule_of}
use Rattle.stream_spec.specs.Windows.{owned, windows_from, windows_of}
use Rattle.stream_spec.specs.Parts.{PartFields, packets_from, service_packets, sizes_in}
use Rattle.stream_law.proofs.Carrying.{same_length, no_sizes}
use Rattle.stream_law.proofs.Kept.{part_kept, sliced_kept, sizes_kept}
use Rattle.stream_law.proofs.Wholes.{no_item}
use Rattle.ts_mux.specs.Services.{packets_in, behind_in, turns_in_service, bursts_in, shape_in, shape_of, is_sliced, no_bursts, bursts_of, serving_of, packet_total, rotation, shapes_of, listed, BeginsIn, HasLists, all_bursts, Begins}
use Rattle.ts_mux.specs.declared.service_packets.ServicePackets.{ServicePackets}
use Rattle.ts_mux.specs.declared.service_packets.ServicePackets.TheVariants.{Ule, Mpe, Fec, Sliced}
use Rattle.ts_mux.proofs.Moved.{some_item}
use Rattle.ts_mux.proofs.Numbers.{item_is}
use Rattle.ts_mux.proofs.Rotation.{length-rotation, rotation_at}
use Rattle.ts_mux.proofs.Bursting.{same_bursts}

-- The packets of services, by their places.

-- those of a service
pub packets_in_part : (before : ℕ → ℕ) (schedules : ℕ → FrameSchedule) (datagrams : ℕ → List (List ℕ)) (services : List ServiceFields) (i k at : ℕ) → at ≡ i + k → k < length services
    → slice_index_or (packets_from i services before schedules datagrams) k [] ≡ packets_of (slice_index_or services k no_service) (before at % 16) (schedules at) (datagrams at)
packets_in_part before schedules datagrams [] i k at e less = absurd (omega (arith, less))
packets_in_part before schedules datagrams (service ∷ services) i zero at e less =
    let here : i ≡ at = omega (arith, e) in ap (λ (n : ℕ). packets_of service (before n % 16) (schedules n) (datagrams n)) here
packets_in_part before schedules datagrams (service ∷ services) i (suc k) at e less = packets_in_part before schedules datagrams services (i + 1) k at (omega (arith, e)) (omega (arith, less))

-- all have no more than so many each
total_most : (lists : List (List PacketFields)) → ((k : ℕ) → k < length lists → length (slice_index_or lists k []) ≤ 2 ^ 48) → packet_total lists ≤ 2 ^ 48 * length lists
total_most [] each = omega arith
total_most (list ∷ lists) each = omega (arith, each 0 (omega arith), total_most lists (λ k less. each (suc k) (omega (arith, less))))

-- lists with the same items are the same
pub same_items : {X : Type 0} (d : X) (a b : List X) → length a ≡ length b → ((k : ℕ) → k < length b → get_or a k d ≡ get_or b k d) → a ≡ b
same_items d [] [] size each = refl
same_items d [] (y ∷ b) size each = absurd (omega (arith, size))
same_items d (x ∷ a) [] size each = absurd (omega (arith, size))
same_items d (x ∷ a) (y ∷ b) size each = ap₂ (λ z zs. z ∷ zs) (each 0 (omega arith)) (same_items d a b (omega (arith, size)) (λ k less. each (suc k) (omega (arith, less))))

-- an item of a list of other items
pub map_item : {X Y : Type 0} (f : X → Y) (xs : List X) (k : ℕ) (x : X) (d : Y) → slice_get xs k ≡ Some x → get_or (map f xs) k d ≡ f x
map_item f [] k x d e = absurd (cc)
map_item f (y ∷ xs) zero x d e = cc
map_item f (y ∷ xs) (suc k) x d e = map_item f xs k x d e

-- where services have the same windows, the windows are the same
windows_same : (a b : List KindFields) (i : ℕ) → length a ≡ length b → ((k : ℕ) → sliced_of (get_or a k (mpe 0)) ≡ sliced_of (get_or b k (mpe 0))) → windows_from i a ≡ windows_from i b
windows_same [] [] i size same = refl
windows_same [] (y ∷ b) i size same = absurd (omega (arith, size))
windows_same (x ∷ a) [] i size same = absurd (omega (arith, size))
windows_same (x ∷ a) (y ∷ b) i size same =
    ap₂ (λ (o : Option SlicedFields) (ws : List OwnedWindow). cons_option (owned i o) ws) (same 0) (windows_same a b (i + 1) (omega (arith, size)) (λ k. same (suc k)))

-- the windows of a plan stay in all versions
pub windows_kept : (plan : PlanFields) (version : ℕ) → windows_of (plan_in plan version) ≡ windows_of plan
windows_kept plan version =
    windows_same (kinds (plan_in plan version)) (kinds plan) 0
    (length-map (plan_in plan version).services (λ (s : ServiceFields). s.kind) ∙ length-services_in plan version ∙ sym (length-map plan.services (λ (s : ServiceFields). s.kind)))
    (λ k. sliced_kept plan version k)

-- What a service has in rotation, and what in bursts.
pub turns_of : (it : ServicePackets) → turns_in_service it ≡ cond (is_sliced (shape_in it)) [] (packets_in it)
turns_of (Ule coming) = refl
turns_of (Mpe coming) = refl
turns_of (Fec coming) = refl
turns_of (Sliced coming) = refl

pub bursts_are : (it : ServicePackets) → (bursts_in it).packets ≡ cond (is_sliced (shape_in it)) (packets_in it) []
bursts_are (Ule coming) = refl
bursts_are (Mpe coming) = refl
bursts_are (Fec coming) = refl
bursts_are (Sliced coming) = refl

turns_few : (it : ServicePackets) → length (turns_in_service it) ≤ length (packets_in it)
turns_few (Ule coming) = omega arith
turns_few (Mpe coming) = omega arith
turns_few (Fec coming) = omega arith
turns_few (Sliced coming) = omega arith

-- the frames of a sliced service are bursts
sliced_shape : (kind : KindFields) → is_sliced (shape_of kind) ≡ is_some (sliced_of kind)
sliced_shape (ule pid address packing) = refl
sliced_shape (mpe pid) = refl
sliced_shape (fec pid rows parity None) = refl
sliced_shape (fec pid rows parity (Some window)) = refl
sliced_shape (gse isi address) = refl

-- frames stay as they are in all versions
pub shape_kept : (plan : PlanFields) (version k : ℕ) → shape_of (kind_at (plan_in plan version) k) ≡ shape_of (kind_at plan k)
shape_kept plan version k = part_kept shape_of stays plan version k
  where
    stays : (kind : KindFields) (pid : ℕ) → shape_of (with_pid kind pid) ≡ shape_of kind
    stays (ule old address packing) pid = refl
    stays (mpe old) pid = refl
    stays (fec old rows parity None) pid = refl
    stays (fec old rows parity (Some window)) pid = refl
    stays (gse isi address) pid = refl

pub shapes_at : (ks : List KindFields) (k : ℕ) → k < length ks → get_or (map shape_of ks) k None ≡ shape_of (get_or ks k (mpe 0))
shapes_at [] k less = absurd (omega (arith, less))
shapes_at (kind ∷ ks) zero less = refl
shapes_at (kind ∷ ks) (suc k) less = shapes_at ks k (omega (arith, less))

-- one with nothing in rotation and in bursts has nothing left
pub no_packets : (it : ServicePackets) → length (turns_in_service it) ≤ 0 → length (bursts_in it).packets ≤ 0 → packets_in it ≡ []
no_packets (Ule coming) none none2 = no_item coming.packets none
no_packets (Mpe coming) none none2 = no_item coming.packets none
no_packets (Fec coming) none none2 = no_item coming.packets none
no_packets (Sliced coming) none none2 = no_item coming.packets none2

-- an item in the place of another
pub set_item : {X : Type 0} (xs : List X) (k : ℕ) (x : X) (j : ℕ) (y : X) → slice_get (set xs k x) j ≡ Some y → (j ≡ k → y ≡ x) × ((j ≡ k → ⊥) → slice_get xs j ≡ Some y)
set_item [] k x j y e = (λ same. absurd (cc), λ differs. e)
set_item (z ∷ xs) zero x zero y e = (λ same. cc, λ differs. absurd (differs refl))
set_item (z ∷ xs) zero x (suc j) y e = (λ same. absurd (omega (arith, same)), λ differs. e)
set_item (z ∷ xs) (suc k) x zero y e = (λ same. absurd (omega (arith, same)), λ differs. e)
set_item (z ∷ xs) (suc k) x (suc j) y e =
    let it = set_item xs k x j y e in (λ same. it.0 (omega (arith, same)), λ differs. it.1 (λ same. differs (ap suc same)))

-- All services are made.
module _ (plan : PlanFields) (version : ℕ) (lists : List (List (List (List ℕ)))) (counters : ℕ → ℕ) (before : ℕ) (items : List ServicePackets) (size : length items ≡ length plan.services)
    (made : (k : ℕ) (it : ServicePackets) → slice_get items k ≡ Some it → BeginsIn plan version k lists (counters k) before it) where
  item : (k : ℕ) → k < length items → (it : ServicePackets) × (slice_get items k ≡ Some it)
  item k less = some_item items k less

  module _ (part : PartFields) (has : HasLists plan version lists counters before part) where
    services_are : part.plan.services ≡ services_in plan version
    services_are = ap (λ (p : PlanFields). p.services) has.plan_is

    size_is : length part.plan.services ≡ length items
    size_is = ap (λ (ss : List ServiceFields). length ss) services_are ∙ length-services_in plan version ∙ sym size

    -- the packets of a service
    packets_at : (k : ℕ) (it : ServicePackets) → slice_get items k ≡ Some it → k < length items → packets_in it ≡ slice_index_or (service_packets part) k []
    packets_at k it is less =
        let known : k < length plan.services = omega (arith, less, size) in
        let ds : listed lists version k ≡ part.datagrams k = item_is (get_or lists version []) k (part.datagrams k) [] (has.datagrams k known) in
        (made k it is).packets_are
        ∙ ap (λ (l : List (List ℕ)). packets_of (service_in plan version k) (counters k) (schedule_of plan (listed lists) before k version) l) ds
        ∙ ap (λ (s : FrameSchedule). packets_of (service_in plan version k) (counters k) s (part.datagrams k)) (sym (has.schedules_are k known))
        ∙ ap (λ (c : ℕ). packets_of (service_in plan version k) c (part.schedules k) (part.datagrams k)) (has.counters_are k known)
        ∙ sym (packets_in_part part.packets_before part.schedules part.datagrams (services_in plan version) 0 k k (omega arith) (omega (arith, known, length-services_in plan version)))
        ∙ ap (λ (ss : List ServiceFields). slice_index_or (packets_from 0 ss part.packets_before part.schedules part.datagrams) k []) (sym services_are)

    same_shape : (k : ℕ) → shape_of (kind_at part.plan k) ≡ shape_of (kind_at plan k)
    same_shape k = ap (λ (p : PlanFields). shape_of (kind_at p k)) has.plan_is ∙ shape_kept plan version k

    shape_at : (k : ℕ) (it : ServicePackets) → slice_get items k ≡ Some it → shape_in it ≡ shape_of (kind_at part.plan k)
    shape_at k it is = (made k it is).shape_is ∙ sym (same_shape k)

    is_sliced_at : (k : ℕ) (it : ServicePackets) → slice_get items k ≡ Some it → is_sliced (shape_in it) ≡ is_some (sliced_of (kind_at part.plan k))
    is_sliced_at k it is = ap is_sliced (shape_at k it is) ∙ sliced_shape (kind_at part.plan k)

    sizes_at : (k : ℕ) (it : ServicePackets) → slice_get items k ≡ Some it → k < length items → (bursts_in it).sizes ≡ sizes_in part k
    sizes_at k it is less =
        let known : k < length plan.services = omega (arith, less, size) in
        let ds : listed lists version k ≡ part.datagrams k = item_is (get_or lists version []) k (part.datagrams k) [] (has.datagrams k known) in
        (made k it is).sizes_are ∙ ap (burst_sizes (kind_at plan k)) ds ∙ sym (sizes_kept plan version k (part.datagrams k))
        ∙ ap (λ (p : PlanFields). burst_sizes (kind_at p k) (part.datagrams k)) (sym has.plan_is)

    turns_are : map turns_in_service items ≡ rotation part
    turns_are =
        same_items [] (map turns_in_service items) (rotation part) (length-map items turns_in_service ∙ sym (length-rotation part ∙ size_is))
        (λ k less. at k (omega (arith, less, length-rotation part, size_is)))
      where
        at : (k : ℕ) → k < length items → slice_index_or (map turns_in_service items) k [] ≡ slice_index_or (rotation part) k []
        at k less =
            let it = item k less in
            map_item turns_in_service items k it.0 [] it.1 ∙ turns_of it.0
            ∙ ap₂ (λ (b : Bool) (ps : List PacketFields). cond b [] ps) (is_sliced_at k it.0 it.1) (packets_at k it.0 it.1 less)
            ∙ sym (rotation_at (kinds part.plan) (service_packets part) k (same_length part))

    past_kind : (k : ℕ) → length items ≤ k → sliced_of (kind_at part.plan k) ≡ None
    past_kind k past = ap sliced_of (get_or_past (kinds part.plan) k (mpe 0) (omega (arith, past, size_is, length-map part.plan.services (λ (s : ServiceFields). s.kind))))

    bursts_all : (k : ℕ) → bursts_of (map bursts_in items) k ≡ all_bursts part k
    bursts_all k = by_place (cases_lt k (length items))
      where
        by_place : (k < length items) ⊎ (length items ≤ k) → bursts_of (map bursts_in items) k ≡ all_bursts part k
        by_place (inl less) =
            let it = item k less in
            map_item bursts_in items k it.0 no_bursts it.1
            ∙ same_bursts _ _ _ _ _ _
            (bursts_are it.0 ∙ ap₂ (λ (b : Bool) (ps : List PacketFields). cond b ps []) (is_sliced_at k it.0 it.1) (packets_at k it.0 it.1 less))
            (made k it.0 it.1).none (sizes_at k it.0 it.1 less)
        by_place (inr past) =
            get_or_past (map bursts_in items) k no_bursts (omega (arith, past, length-map items bursts_in))
            ∙ same_bursts _ _ _ _ _ _
            (sym (ap (λ (o : Option SlicedFields). cond (is_some o) (slice_index_or (service_packets part) k []) []) (past_kind k past))) refl
            (sym (no_sizes part k (omega (arith, past, size_is))))

    sliced_all : map shape_in items ≡ shapes_of part.plan
    sliced_all =
        same_items None (map shape_in items) (shapes_of part.plan) (length-map items shape_in ∙ sym (length-are))
        (λ k less. at k (omega (arith, less, length-are)))
      where
        length-are : length (shapes_of part.plan) ≡ length items
        length-are = length-map (kinds part.plan) shape_of ∙ length-map part.plan.services (λ (s : ServiceFields). s.kind) ∙ size_is

        at : (k : ℕ) → k < length items → get_or (map shape_in items) k None ≡ get_or (shapes_of part.plan) k None
        at k less =
            let it = item k less in
            map_item shape_in items k it.0 None it.1 ∙ shape_at k it.0 it.1
            ∙ sym (shapes_at (kinds part.plan) k (omega (arith, less, size_is, length-map part.plan.services (λ (s : ServiceFields). s.kind))))

    sums : (c b n m : ℕ) → c ≡ b % 16 → n ≡ m → (c + n) % 16 ≡ (b + m) % 16
    sums c b n m e e2 = omega (arith, e, e2)

    behind_all : (k : ℕ) → k < length part.plan.services → slice_index (map behind_in items) k ≡ (part.packets_before k + length (slice_index_or (service_packets part) k [])) % 16
    behind_all k less =
        let within : k < length items = omega (arith, less, size_is) in
        let it = item k within in
        map_item behind_in items k it.0 0 it.1 ∙ (made k it.0 it.1).behind_is
        ∙ sums (counters k) (part.packets_before k) (length (packets_in it.0)) (length (slice_index_or (service_packets part) k [])) (has.counters_are k (omega (arith, within, size)))
        (ap (λ (ps : List PacketFields). length ps) (packets_at k it.0 it.1 within))

    pub made_begin : (windows : List OwnedWindow) → windows ≡ windows_of plan → Begins part (serving_of items windows 0)
    made_begin windows are = record {
      turns = turns_are;
      bursts = bursts_all;
      count = length-map items bursts_in ∙ sym size_is;
      shapes = sliced_all;
      windows = are ∙ sym (ap windows_of has.plan_is ∙ windows_kept plan version);
      behind = behind_all;
      first = refl;
    }

  pub made_few : length plan.services ≤ 64 → packet_total (map turns_in_service items) ≤ 2 ^ 54
  made_few few =
      omega (arith, total_most (map turns_in_service items) (λ k less. most k (omega (arith, less, length-map items turns_in_service))), length-map items turns_in_service, size, few)
    where
      most : (k : ℕ) → k < length items → length (slice_index_or (map turns_in_service items) k []) ≤ 2 ^ 48
      most k less =
          let it = item k less in
          omega (arith, ap (λ (ps : List PacketFields). length ps) (map_item turns_in_service items k it.0 [] it.1), turns_few it.0, (made k it.0 it.1).most)

-- the counter after the packets of the service at a place
pub behind_at : (services : List ServicePackets) (k : ℕ) (service : ServicePackets) → k < length services → service ≡ get_or services k service → slice_index (map behind_in services) k ≡ behind_in service
behind_at [] k service less is = absurd (omega (arith, less))
behind_at (first ∷ services) zero service less is = ap behind_in (sym is)
behind_at (first ∷ services) (suc k) service less is = behind_at services k service (omega (arith, less)) is
