-- Datagrams in the order in which the frames of a service carry them.
use Rattle.std.proofs.Common.{◌≡◌, ℕ, ◌<◌, ◌≤◌, Bool, true, false, not, cond, List, [], ◌∷◌, length, map, refl, ap, sym, ◌∙◌, subst}
use Rattle.std.specs.Prelude.{All, filter}
use Rattle.std.proofs.lemmas.List.Elements.{All-nil, All-cons, All-head, All-tail, All-filter}
use Rattle.wire_spec.specs.Datagram.{IsDatagram}
use Rattle.wire_spec.specs.Lists.{IsSubsequence}
use Rattle.addr_rules.specs.declared.rules.Rule.{Rule}
use Rattle.plan_spec.specs.Plan.{KindFields, ule, mpe, fec, gse, ServiceFields, PlanFields}
use Rattle.plan_spec.specs.Offered.{offered_in, offered_in_all}
use Rattle.stream_law.specs.Captures.{given_by}
use Rattle.gse_spec.specs.Classes.{is_urgent, Class, urgent_class, ordinary_class, is_of_class, datagrams_of_class, ended_pdus}
use Rattle.gse_spec.specs.Sending.{pdu_for, packets_for}
use Rattle.gse_law.specs.Classes.{KeepsClasses}
use Rattle.gse_law.proofs.Offered.{offered_sendable}
use Rattle.gse_law.proofs.PackedFrames.{sendable_fit, ends_in_order}
use Rattle.gse_law.proofs.ClassOrder.{pdus_in_order, filter_within}
use Rattle.bb_stream_spec.specs.Stream.{order_by_rules, order_as, order_by, order_of}
use Rattle.bb_reception_spec.specs.Delivered.{service_at}
use Rattle.end_to_end_law.specs.BbSent.{IsSentInFrames}
use Rattle.end_to_end_law.proofs.BbServices.{in_one_version}

-- the PDUs that the frames of a service end are those of its datagrams in this order
module _ (size : ℕ) (address : Bool) (unicast : List ℕ) (least : 300 ≤ size) (six : length unicast ≡ 6) where
  by_rules : (rules : List Rule) (datagrams : List (List ℕ)) → All (λ datagram. length datagram ≤ 65527) datagrams
      → ended_pdus (packets_for rules size (map (pdu_for address unicast) datagrams)) ≡ map (pdu_for address unicast) (order_by_rules rules size address unicast datagrams)
  by_rules [] datagrams short =
      ends_in_order size (map (pdu_for address unicast) datagrams) least
      (sendable_fit (map (pdu_for address unicast) datagrams) (offered_sendable address unicast datagrams (λ _. six) short))
  by_rules (rule ∷ rules) datagrams short = pdus_in_order address unicast (rule ∷ rules) size least (λ _. six) datagrams short

  pub ended_in_order : (service : ServiceFields) (isi : ℕ) → service.kind ≡ gse isi address → service.unicast ≡ unicast → (datagrams : List (List ℕ))
      → All (λ datagram. length datagram ≤ 65527) datagrams
      → ended_pdus (packets_for service.urgent size (map (pdu_for address unicast) datagrams)) ≡ map (pdu_for address unicast) (order_by size service datagrams)
  ended_in_order service isi kind mac datagrams short =
      by_rules service.urgent datagrams short
      ∙ ap (λ (order : List (List ℕ)). map (pdu_for address unicast) order)
      (sym (ap (λ (k : KindFields). order_as size service.unicast service.urgent k datagrams) kind
      ∙ ap (λ (u : List ℕ). order_by_rules service.urgent size address u datagrams) mac))

-- a service without urgent rules
no_rules : (size : ℕ) (unicast : List ℕ) (kind : KindFields) (datagrams : List (List ℕ)) → order_as size unicast [] kind datagrams ≡ datagrams
no_rules size unicast (ule pid address packing) datagrams = refl
no_rules size unicast (mpe pid) datagrams = refl
no_rules size unicast (fec pid rows parity window) datagrams = refl
no_rules size unicast (gse isi address) datagrams = refl

pub one_class : (plan : PlanFields) (size k : ℕ) (datagrams : List (List ℕ)) → (service_at plan k).urgent ≡ [] → order_of plan size k datagrams ≡ datagrams
one_class plan size k datagrams none =
    ap (λ (rules : List Rule). order_as size (service_at plan k).unicast rules (service_at plan k).kind datagrams) none
    ∙ no_rules size (service_at plan k).unicast (service_at plan k).kind datagrams

-- What holds of those that pass a test, and of the others, holds of all.

all_of_both : (P : List ℕ → Type 0) (test : List ℕ → Bool) (xs : List (List ℕ)) → All P (filter test xs) → All P (filter (λ x. not (test x)) xs) → All P xs
all_of_both P test [] passed others = All-nil P
all_of_both P test (x ∷ xs) passed others = by_test (test x) passed others (all_of_both P test xs)
  where
    by_test : (b : Bool) → All P (cond b (x ∷ filter test xs) (filter test xs)) → All P (cond (not b) (x ∷ filter (λ y. not (test y)) xs) (filter (λ y. not (test y)) xs))
        → (All P (filter test xs) → All P (filter (λ y. not (test y)) xs) → All P xs) → All P (x ∷ xs)
    by_test true passed others rest = All-cons P x xs (All-head P x (filter test xs) passed) (rest (All-tail P x (filter test xs) passed) others)
    by_test false passed others rest =
        All-cons P x xs (All-head P x (filter (λ y. not (test y)) xs) others) (rest passed (All-tail P x (filter (λ y. not (test y)) xs) others))

pub order_datagrams : (rules : List Rule) (datagrams order : List (List ℕ)) → KeepsClasses rules datagrams order → All IsDatagram datagrams → All IsDatagram order
order_datagrams rules datagrams order keeps all =
    all_of_both IsDatagram (is_urgent rules) order
    (subst (All IsDatagram) (sym (keeps.classes urgent_class)) (All-filter (is_urgent rules) IsDatagram datagrams all))
    (subst (All IsDatagram) (sym (keeps.classes ordinary_class)) (All-filter (λ datagram. not (is_urgent rules datagram)) IsDatagram datagrams all))

-- Two filters, in either order.

both_filters : (a b : List ℕ → Bool) (xs : List (List ℕ)) → filter a (filter b xs) ≡ filter b (filter a xs)
both_filters a b [] = refl
both_filters a b (x ∷ xs) = by_tests (a x) (b x) refl refl (both_filters a b xs)
  where
    by_tests : (s t : Bool) → a x ≡ s → b x ≡ t → filter a (filter b xs) ≡ filter b (filter a xs)
        → filter a (cond t (x ∷ filter b xs) (filter b xs)) ≡ filter b (cond s (x ∷ filter a xs) (filter a xs))
    by_tests true true is also rest =
        ap (λ (c : Bool). cond c (x ∷ filter a (filter b xs)) (filter a (filter b xs))) is
        ∙ ap (λ (l : List (List ℕ)). x ∷ l) rest
        ∙ sym (ap (λ (c : Bool). cond c (x ∷ filter b (filter a xs)) (filter b (filter a xs))) also)
    by_tests true false is also rest = rest ∙ sym (ap (λ (c : Bool). cond c (x ∷ filter b (filter a xs)) (filter b (filter a xs))) also)
    by_tests false true is also rest = ap (λ (c : Bool). cond c (x ∷ filter a (filter b xs)) (filter a (filter b xs))) is ∙ rest
    by_tests false false is also rest = rest

-- what is delivered of a class
pub class_arrives : (rules : List Rule) (wants : List ℕ → Bool) (datagrams order delivered : List (List ℕ)) → KeepsClasses rules datagrams order
    → IsSubsequence delivered (filter wants order) → (class : Class)
    → IsSubsequence (datagrams_of_class rules class delivered) (filter wants (datagrams_of_class rules class datagrams))
class_arrives rules wants datagrams order delivered keeps within class =
    subst (IsSubsequence (datagrams_of_class rules class delivered))
    (both_filters (λ datagram. is_of_class rules class datagram) wants order ∙ ap (filter wants) (keeps.classes class))
    (filter_within (λ datagram. is_of_class rules class datagram) delivered (filter wants order) within)

-- of a capture
module _ (plan : PlanFields) (capture : List ℕ) (told frames : List (List ℕ)) (sent : IsSentInFrames plan capture told frames)
    (kept : (k : ℕ) → k < length plan.services
    → KeepsClasses (service_at plan k).urgent (offered_in plan (given_by capture told) 0 k) (order_of plan sent.stream.size k (offered_in plan (given_by capture told) 0 k))) where
  pub keeps_offered : (k : ℕ) → k < length plan.services
      → KeepsClasses (service_at plan k).urgent (offered_in_all plan (given_by capture told) k) (order_of plan sent.stream.size k (offered_in_all plan (given_by capture told) k))
  keeps_offered k known =
      subst (λ (ds : List (List ℕ)). KeepsClasses (service_at plan k).urgent ds (order_of plan sent.stream.size k ds))
      (in_one_version plan capture told frames sent k) (kept k known)
