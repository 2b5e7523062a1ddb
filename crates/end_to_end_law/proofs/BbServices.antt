-- Services of GSE packets, and what is offered to them.
use Rattle.std.proofs.Common.{◌≡◌, ℕ, zero, suc, ◌<◌, Bool, true, List, [], ◌∷◌, length, map, Option, Some, None, refl, ap, sym, ◌∙◌, subst, arith}
use Rattle.std.specs.Prelude.{All, flat_map, slice_index_or, is_some}
use Rattle.std.specs.List.{list_all}
use Rattle.std.proofs.lemmas.Bool.{and_parts}
use Rattle.std.proofs.lemmas.List.{get_or-map, length-map, append-nil}
use Rattle.std.proofs.lemmas.List.Elements.{All-filter}
use Rattle.wire_spec.specs.Datagram.{IsDatagram}
use Rattle.plan_spec.specs.Plan.{KindFields, ule, mpe, fec, gse, ServiceFields, PlanFields, isi_of}
use Rattle.plan_spec.specs.Bytes.{IsMac, AreOfBytes}
use Rattle.plan_spec.specs.Changes.{no_service, plan_in, records_of_version}
use Rattle.plan_spec.specs.Offered.{Records, datagrams as datagrams_of, service_of_datagram, is_offered_to, offered_in, offered_in_all}
use Rattle.plan_law.proofs.Kept.{length-services_in}
use Rattle.plan_law.proofs.Alone.{versions_alone, records_alone}
use Rattle.plan_law.proofs.Versions.{first_is_zero}
use Rattle.stream_law.specs.Captures.{given_by}
use Rattle.stream_law.specs.Words.{IsByteDatagram}
use Rattle.stream_law.proofs.Kept.{unicast_kept}
use Rattle.bb_stream_spec.specs.Stream.{are_on_isis}
use Rattle.bb_reception_spec.specs.Delivered.{service_at}
use Rattle.end_to_end_law.specs.BbSent.{IsSentInFrames, offered_to}

-- a service with an ISI is of GSE packets
pub is_of_gse : (kind : KindFields) (isi : ℕ) → isi_of kind ≡ Some isi → (address : Bool) × (kind ≡ gse isi address)
is_of_gse (ule pid address packing) isi e = absurd (cc)
is_of_gse (mpe pid) isi e = absurd (cc)
is_of_gse (fec pid rows parity window) isi e = absurd (cc)
is_of_gse (gse own address) isi e = let same : own ≡ isi = cc in (address, ap (λ (n : ℕ). gse n address) same)

-- where all services have ISIs, service k has one
some_isi : (o : Option ℕ) → is_some o ≡ true → (isi : ℕ) × (o ≡ Some isi)
some_isi None e = absurd (cc)
some_isi (Some isi) e = (isi, refl)

isi_at : (services : List ServiceFields) → list_all (λ kind. is_some (isi_of kind)) (map (λ (s : ServiceFields). s.kind) services) ≡ true
    → (k : ℕ) → k < length services → (isi : ℕ) × (isi_of (slice_index_or services k no_service).kind ≡ Some isi)
isi_at [] all k known = absurd (omega (arith, known))
isi_at (s ∷ services) all zero known =
    some_isi (isi_of s.kind) (and_parts (is_some (isi_of s.kind)) (list_all (λ kind. is_some (isi_of kind)) (map (λ (s : ServiceFields). s.kind) services)) all).0
isi_at (s ∷ services) all (suc k) known =
    isi_at services (and_parts (is_some (isi_of s.kind)) (list_all (λ kind. is_some (isi_of kind)) (map (λ (s : ServiceFields). s.kind) services)) all).1
    k (omega (arith, known))

pub isi_there : (plan : PlanFields) (k : ℕ) → are_on_isis plan ≡ true → k < length plan.services → (isi : ℕ) × (isi_of (service_at plan k).kind ≡ Some isi)
isi_there plan k all known = isi_at plan.services all k known

-- the address of its receivers has six bytes
unicast_mac : (plan : PlanFields) → AreOfBytes plan → (k : ℕ) → k < length plan.services → IsMac (service_at plan k).unicast
unicast_mac plan of_bytes k known =
    subst IsMac (unicast_kept plan 0 k ∙ get_or-map (λ (s : ServiceFields). s.unicast) plan.services k no_service [] known)
    ((of_bytes 0 (omega arith)).unicast k []
    (omega (arith, known, length-services_in plan 0, length-map (plan_in plan 0).services (λ (s : ServiceFields). s.unicast))))

pub unicast_six : (plan : PlanFields) → AreOfBytes plan → (k : ℕ) → k < length plan.services → length (service_at plan k).unicast ≡ 6
unicast_six plan of_bytes k known = (unicast_mac plan of_bytes k known).size

-- what is offered are datagrams, and all of it in the one version
offered_are : (plan : PlanFields) (records : Records) (k : ℕ) → All IsDatagram (datagrams_of (records_of_version plan 0 records)) → All IsDatagram (offered_in plan records 0 k)
offered_are plan records k all =
    All-filter (λ datagram. is_offered_to (plan_in plan 0) (service_of_datagram (plan_in plan 0) datagram) k datagram) IsDatagram
    (datagrams_of (records_of_version plan 0 records)) all

module _ (plan : PlanFields) (capture : List ℕ) (told frames : List (List ℕ)) (sent : IsSentInFrames plan capture told frames) where
  pub all_datagrams : All IsByteDatagram (datagrams_of (given_by capture told)) → All IsDatagram (datagrams_of (given_by capture told))
  all_datagrams all = λ i d within. (all i d within).is

  pub are_datagrams : All IsByteDatagram (datagrams_of (given_by capture told)) → (k : ℕ) → All IsDatagram (offered_to plan capture told k)
  are_datagrams all k =
      offered_are plan (given_by capture told) k
      (subst (λ (r : Records). All IsDatagram (datagrams_of r)) (sym (records_alone plan (first_is_zero plan sent.accepted) sent.stream.unchanged (given_by capture told))) (all_datagrams all))

  pub in_one_version : (k : ℕ) → offered_to plan capture told k ≡ offered_in_all plan (given_by capture told) k
  in_one_version k =
      sym (append-nil (offered_to plan capture told k))
      ∙ sym (ap (flat_map (λ version. offered_in plan (given_by capture told) version k)) (versions_alone plan (first_is_zero plan sent.accepted) sent.stream.unchanged))
