-- Receivers that were given nothing.
use Rattle.std.proofs.Common.{◌≡◌, ℕ, zero, suc, ◌+◌, Bool, true, ◌&&◌, Some, List, [], ◌∷◌, ◌++◌, length, map, take, refl, ap, sym, ◌∙◌, subst, arith}
use Rattle.std.specs.Prelude.{slice_get, slice_index_or}
use Rattle.std.specs.List.{list_all}
use Rattle.std.proofs.lemmas.Bool.{and_parts}
use Rattle.std.proofs.lemmas.List.{map_push}
use Rattle.plan_spec.specs.Plan.{ServiceFields, PlanFields}
use Rattle.plan_spec.specs.Checks.{is_gse}
use Rattle.plan_spec.specs.Changes.{no_service}
use Rattle.plan.specs.Parts.{kind_seen, service_seen}
use Rattle.plan.specs.declared.service.Service.{Service}
use Rattle.bb_demux.specs.Receiving.{IsOn, AreOn}
use Rattle.bb_demux.specs.Finding.{AreFresh}
use Rattle.bb_demux.specs.declared.services.IsiReceiver.{IsiReceiver}

-- all services are of GSE packets
pub gse_seen : (services : List Service) → list_all (λ (s : Service). is_gse (kind_seen s.kind)) services ≡ list_all is_gse (map (λ (s : ServiceFields). s.kind) (map service_seen services))
gse_seen [] = refl
gse_seen (s ∷ services) = ap (λ (b : Bool). is_gse (kind_seen s.kind) && b) (gse_seen services)

pub gse_at : (services : List Service) (k : ℕ) (it : Service) → list_all (λ (s : Service). is_gse (kind_seen s.kind)) services ≡ true
    → slice_get services k ≡ Some it → is_gse (kind_seen it.kind) ≡ true
gse_at [] k it all found = absurd (cc)
gse_at (s ∷ services) zero it all found =
    let same : s ≡ it = cc in
    ap (λ (t : Service). is_gse (kind_seen t.kind)) (sym same) ∙ (and_parts (is_gse (kind_seen s.kind)) (list_all (λ (t : Service). is_gse (kind_seen t.kind)) services) all).0
gse_at (s ∷ services) (suc k) it all found =
    gse_at services k it (and_parts (is_gse (kind_seen s.kind)) (list_all (λ (t : Service). is_gse (kind_seen t.kind)) services) all).1 found

-- one receiver more
fresh_push : (services : List ServiceFields) (receivers : List IsiReceiver) (it : ServiceFields) (receiver : IsiReceiver)
    → AreFresh services receivers → IsOn it receiver [] → AreFresh (services ++ it ∷ []) (receivers ++ receiver ∷ [])
fresh_push [] [] it receiver all is = (is, tt)
fresh_push [] (r ∷ receivers) it receiver all is = absurd all
fresh_push (s ∷ services) [] it receiver all is = absurd all
fresh_push (s ∷ services) (r ∷ receivers) it receiver all is = (all.0, fresh_push services receivers it receiver all.1 is)

take_next : (services : List Service) (k : ℕ) (it : Service) → slice_get services k ≡ Some it → take (suc k) services ≡ take k services ++ it ∷ []
take_next [] k it found = absurd (cc)
take_next (s ∷ services) zero it found = let same : s ≡ it = cc in ap (λ (t : Service). t ∷ []) same
take_next (s ∷ services) (suc k) it found = ap (λ (t : List Service). s ∷ t) (take_next services k it found)

pub fresh_next : (services : List Service) (receivers : List IsiReceiver) (k : ℕ) (it : Service) (receiver : IsiReceiver) → slice_get services k ≡ Some it
    → AreFresh (map service_seen (take k services)) receivers → IsOn (service_seen it) receiver []
    → AreFresh (map service_seen (take (k + 1) services)) (receivers ++ receiver ∷ [])
fresh_next services receivers k it receiver found all is =
    let number : k + 1 ≡ suc k = omega arith in
    subst (λ (t : List ServiceFields). AreFresh t (receivers ++ receiver ∷ []))
    (sym (ap (λ (n : ℕ). map service_seen (take n services)) number ∙ ap (map service_seen) (take_next services k it found) ∙ map_push service_seen (take k services) it))
    (fresh_push (map service_seen (take k services)) receivers (service_seen it) receiver all is)

pub as_many : (services : List ServiceFields) (receivers : List IsiReceiver) → AreFresh services receivers → length receivers ≡ length services
as_many [] [] all = refl
as_many [] (r ∷ receivers) all = absurd all
as_many (s ∷ services) [] all = absurd all
as_many (s ∷ services) (r ∷ receivers) all = ap suc (as_many services receivers all.1)

fresh_at : (services : List ServiceFields) (receivers : List IsiReceiver) (k : ℕ) (receiver : IsiReceiver) → AreFresh services receivers
    → slice_get receivers k ≡ Some receiver → IsOn (slice_index_or services k no_service) receiver []
fresh_at [] [] k receiver all found = absurd (cc)
fresh_at [] (r ∷ receivers) k receiver all found = absurd all
fresh_at (s ∷ services) [] k receiver all found = absurd all
fresh_at (s ∷ services) (r ∷ receivers) zero receiver all found =
    let same : r ≡ receiver = cc in
    subst (λ (t : IsiReceiver). IsOn s t []) same all.0
fresh_at (s ∷ services) (r ∷ receivers) (suc k) receiver all found = fresh_at services receivers k receiver all.1 found

-- of a whole plan
pub given_nothing : (plan : PlanFields) (receivers : List IsiReceiver) → AreFresh plan.services receivers → AreOn plan receivers []
given_nothing plan receivers all = record {
  count_is = as_many plan.services receivers all;
  each = λ k receiver found. fresh_at plan.services receivers k receiver all found;
}
