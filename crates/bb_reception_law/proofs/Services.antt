-- The services of a plan by their ISIs: a frame is of one of them, or of none.
use Rattle.std.proofs.Common.{◌≡◌, ℕ, zero, suc, ◌<◌, Bool, true, false, not, ◌&&◌, ◌||◌, eqb, Option, Some, None, List, [], ◌∷◌, length, map, refl, ap, sym, ◌∙◌, arith}
use Rattle.std.specs.Prelude.{◌≢◌, ◌==◌, slice_index_or}
use Rattle.std.specs.List.{list_any, filter_map, cons_option}
use Rattle.std.proofs.lemmas.Bool.{and_parts, eqb-true, eq-eqb}
use Rattle.plan_law.proofs.Lists.{neither}
use Rattle.plan_spec.specs.Plan.{KindFields, ServiceFields, PlanFields, isi_of, isis}
use Rattle.plan_spec.specs.Checks.{has_pair}
use Rattle.plan_spec.specs.Changes.{no_service}
use Rattle.gse_spec.specs.Frame.{is_frame, frame_fields}
use Rattle.gse_spec.specs.Received.{is_frame_of, is_foreign}
use Rattle.bb_reception_spec.specs.Delivered.{service_at}

abbrev pub isis_of : List ServiceFields → List ℕ
isis_of services = filter_map isi_of (map (λ (service : ServiceFields). service.kind) services)

abbrev pub isi_at : List ServiceFields → ℕ → Option ℕ
isi_at services k = isi_of (slice_index_or services k no_service).kind

-- the test holds of no ISI of a list that begins with this one, or with none
none_later : (p : ℕ → Bool) (o : Option ℕ) (isis : List ℕ) → list_any p (cons_option o isis) ≡ false → list_any p isis ≡ false
none_later p None isis none = none
none_later p (Some isi) isis none = (neither (p isi) (list_any p isis) none).1

none_first : (p : ℕ → Bool) (o : Option ℕ) (isi : ℕ) (isis : List ℕ) → o ≡ Some isi → list_any p (cons_option o isis) ≡ false → p isi ≡ false
none_first p None isi isis is none = absurd (cc)
none_first p (Some other) isi isis is none =
    let same : other ≡ isi = cc in
    ap p (sym same) ∙ (neither (p other) (list_any p isis) none).0

-- so of the ISI of none of the services
pub none_at : (p : ℕ → Bool) (services : List ServiceFields) (k isi : ℕ) → list_any p (isis_of services) ≡ false → k < length services → isi_at services k ≡ Some isi → p isi ≡ false
none_at p [] k isi none within is = absurd (omega (arith, within))
none_at p (service ∷ services) zero isi none within is = none_first p (isi_of service.kind) isi (isis_of services) is none
none_at p (service ∷ services) (suc k) isi none within is =
    none_at p services k isi (none_later p (isi_of service.kind) (isis_of services) none) (omega (arith, within)) is

-- No two have one ISI.

abbrev is_same : ℕ → ℕ → Bool
is_same a b = a == b

differ_later : (o : Option ℕ) (isis : List ℕ) → has_pair is_same (cons_option o isis) ≡ false → has_pair is_same isis ≡ false
differ_later None isis differ = differ
differ_later (Some isi) isis differ = (neither (list_any (is_same isi) isis) (has_pair is_same isis) differ).1

differ_first : (o : Option ℕ) (isi : ℕ) (isis : List ℕ) → o ≡ Some isi → has_pair is_same (cons_option o isis) ≡ false → list_any (is_same isi) isis ≡ false
differ_first None isi isis is differ = absurd (cc)
differ_first (Some other) isi isis is differ =
    let same : other ≡ isi = cc in
    ap (λ (n : ℕ). list_any (is_same n) isis) (sym same) ∙ (neither (list_any (is_same other) isis) (has_pair is_same isis) differ).0

apart_from_first : (services : List ServiceFields) (first k isi : ℕ) → list_any (is_same first) (isis_of services) ≡ false → k < length services → isi_at services k ≡ Some isi → eqb first isi ≡ false
apart_from_first services first k isi none within is = none_at (is_same first) services k isi none within is

turned : (a b : ℕ) → eqb a b ≡ false → eqb b a ≡ false
turned a b differs = by_test (eqb b a) refl
  where
    by_test : (t : Bool) → eqb b a ≡ t → t ≡ false
    by_test false is = refl
    by_test true is = sym (eq-eqb a b (sym (eqb-true b a is))) ∙ differs

pub apart : (services : List ServiceFields) (j k first second : ℕ) → has_pair is_same (isis_of services) ≡ false → j ≢ k → j < length services → k < length services
    → isi_at services j ≡ Some first → isi_at services k ≡ Some second → eqb first second ≡ false
apart [] j k first second differ other within_j within_k is_j is_k = absurd (omega (arith, within_j))
apart (service ∷ services) zero zero first second differ other within_j within_k is_j is_k = absurd (other refl)
apart (service ∷ services) zero (suc k) first second differ other within_j within_k is_j is_k =
    apart_from_first services first k second (differ_first (isi_of service.kind) first (isis_of services) is_j differ) (omega (arith, within_k)) is_k
apart (service ∷ services) (suc j) zero first second differ other within_j within_k is_j is_k =
    turned second first (apart_from_first services second j first (differ_first (isi_of service.kind) second (isis_of services) is_k differ) (omega (arith, within_j)) is_j)
apart (service ∷ services) (suc j) (suc k) first second differ other within_j within_k is_j is_k =
    apart services j k first second (differ_later (isi_of service.kind) (isis_of services) differ) (λ same. other (ap suc same)) (omega (arith, within_j)) (omega (arith, within_k)) is_j is_k

-- Of one frame.

-- a frame of one ISI is none of another
pub of_one : (first second : ℕ) (b : List ℕ) → is_frame_of first b ≡ true → eqb second first ≡ false → is_frame_of second b ≡ false
of_one first second b is differs = by_test (eqb (frame_fields b).isi second) refl
  where
    own : (frame_fields b).isi ≡ first
    own = eqb-true (frame_fields b).isi first (and_parts (is_frame b) ((frame_fields b).isi == first) is).1

    by_test : (t : Bool) → eqb (frame_fields b).isi second ≡ t → is_frame_of second b ≡ false
    by_test false off = both (is_frame b) (eqb (frame_fields b).isi second) off
      where
        both : (a t : Bool) → t ≡ false → (a && t) ≡ false
        both true t none = none
        both false t none = refl
    by_test true on =
        let never : true ≡ false = sym (eq-eqb second first (sym (eqb-true (frame_fields b).isi second on) ∙ own)) ∙ differs in
        absurd (cc (never))

-- a frame of no ISI of the plan is of the ISI of none of its services
pub foreign_off : (plan : PlanFields) (k isi : ℕ) (b : List ℕ) → is_foreign (isis plan) b ≡ true → k < length plan.services → isi_of (service_at plan k).kind ≡ Some isi
    → is_frame_of isi b ≡ false
foreign_off plan k isi b foreign within is = none_at (λ n. is_frame_of n b) plan.services k isi (off (list_any (λ n. is_frame_of n b) (isis plan)) foreign) within is
  where
    off : (t : Bool) → not t ≡ true → t ≡ false
    off true never = absurd (cc)
    off false is = refl

-- What holds of the ISI of each service, and of one.

pub none_of : (p : ℕ → Bool) (services : List ServiceFields) → ((k isi : ℕ) → k < length services → isi_at services k ≡ Some isi → p isi ≡ false) → list_any p (isis_of services) ≡ false
none_of p [] each = refl
none_of p (service ∷ services) each = with_first (isi_of service.kind) refl (none_of p services (λ k isi within is. each (suc k) isi (omega (arith, within)) is))
  where
    with_first : (o : Option ℕ) → isi_of service.kind ≡ o → list_any p (isis_of services) ≡ false → list_any p (cons_option o (isis_of services)) ≡ false
    with_first None is none = none
    with_first (Some isi) is none = ap (λ (t : Bool). t || list_any p (isis_of services)) (each zero isi (omega arith) is) ∙ none

pub any_of : (p : ℕ → Bool) (services : List ServiceFields) (k isi : ℕ) → k < length services → isi_at services k ≡ Some isi → p isi ≡ true → list_any p (isis_of services) ≡ true
any_of p [] k isi within is holds = absurd (omega (arith, within))
any_of p (service ∷ services) zero isi within is holds =
    ap (λ (o : Option ℕ). list_any p (cons_option o (isis_of services))) is ∙ ap (λ (t : Bool). t || list_any p (isis_of services)) holds
any_of p (service ∷ services) (suc k) isi within is holds = with_first (isi_of service.kind) (any_of p services k isi (omega (arith, within)) is holds)
  where
    with_first : (o : Option ℕ) → list_any p (isis_of services) ≡ true → list_any p (cons_option o (isis_of services)) ≡ true
    with_first None any = any
    with_first (Some first) any = by_test (p first)
      where
        by_test : (t : Bool) → (t || list_any p (isis_of services)) ≡ true
        by_test true = refl
        by_test false = any
