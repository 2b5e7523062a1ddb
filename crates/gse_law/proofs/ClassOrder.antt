-- Datagrams in the order of their ends: each class is in order.
use Rattle.std.proofs.Common.{◌≡◌, inl, inr, ℕ, suc, ◌≤◌, Bool, true, false, cond, List, [], ◌∷◌, ◌++◌, length, map, flat_map, refl, ap, ap₂, sym, ◌∙◌, subst, arith}
use Rattle.std.specs.Prelude.{All, not, filter}
use Rattle.wire_spec.specs.Datagram.{IsDatagram}
use Rattle.wire_spec.specs.Lists.{IsSubsequence}
use Rattle.addr_rules.specs.declared.rules.Rule.{Rule}
use Rattle.gse_spec.specs.Reassembly.{Pdu}
use Rattle.gse_spec.specs.Received.{carried_by_pdu}
use Rattle.gse_spec.specs.Carried.{CarriesPdus}
use Rattle.gse_spec.specs.Classes.{is_urgent_pdu, Class, urgent_class, ordinary_class, is_of_class, datagrams_of_class, ended_pdus}
use Rattle.gse_spec.specs.Sending.{pdu_for, packets_for, frames_for, class_order}
use Rattle.gse_law.specs.Packed.{AreSendable}
use Rattle.gse_law.specs.Classes.{EndsInClasses, KeepsClasses}
use Rattle.gse_law.proofs.Offered.{offered_sendable, one_carried}
use Rattle.gse_law.proofs.PackedFrames.{sendable_fit, ends_in_classes, ends_in_order, frames_carry}

abbrev bytes_of : List Pdu → List (List ℕ)
bytes_of pdus = map (λ (pdu : Pdu). pdu.bytes) pdus

filtered : (test : List ℕ → Bool) (pdus : List Pdu) → filter test (bytes_of pdus) ≡ bytes_of (filter (λ (pdu : Pdu). test pdu.bytes) pdus)
filtered test [] = refl
filtered test (pdu ∷ pdus) = by_test (test pdu.bytes) (filtered test pdus)
  where
    by_test : (b : Bool) → filter test (bytes_of pdus) ≡ bytes_of (filter (λ (p : Pdu). test p.bytes) pdus)
        → cond b (pdu.bytes ∷ filter test (bytes_of pdus)) (filter test (bytes_of pdus)) ≡ bytes_of (cond b (pdu ∷ filter (λ (p : Pdu). test p.bytes) pdus) (filter (λ (p : Pdu). test p.bytes) pdus))
    by_test true rest = ap (λ (t : List (List ℕ)). pdu.bytes ∷ t) rest
    by_test false rest = rest

-- A fact of each PDU.

abbrev EachPdu : (Pdu → Type 0) → List Pdu → Type 0
EachPdu Fact [] = Unit {0}
EachPdu Fact (pdu ∷ pdus) = Fact pdu × EachPdu Fact pdus

module _ (Fact : Pdu → Type 0) (test : Pdu → Bool) where
  each_filter : (pdus : List Pdu) → EachPdu Fact pdus → EachPdu Fact (filter test pdus)
  each_filter [] each = tt
  each_filter (pdu ∷ pdus) each = by_test (test pdu) (each_filter pdus each.1)
    where
      by_test : (b : Bool) → EachPdu Fact (filter test pdus) → EachPdu Fact (cond b (pdu ∷ filter test pdus) (filter test pdus))
      by_test true rest = (each.0, rest)
      by_test false rest = rest

  each_of_both : (pdus : List Pdu) → EachPdu Fact (filter test pdus) → EachPdu Fact (filter (λ (pdu : Pdu). not (test pdu)) pdus) → EachPdu Fact pdus
  each_of_both [] first second = tt
  each_of_both (pdu ∷ pdus) first second = by_test (test pdu) first second (each_of_both pdus)
    where
      by_test : (b : Bool) → EachPdu Fact (cond b (pdu ∷ filter test pdus) (filter test pdus))
          → EachPdu Fact (cond (not b) (pdu ∷ filter (λ (p : Pdu). not (test p)) pdus) (filter (λ (p : Pdu). not (test p)) pdus))
          → (EachPdu Fact (filter test pdus) → EachPdu Fact (filter (λ (p : Pdu). not (test p)) pdus) → EachPdu Fact pdus) → Fact pdu × EachPdu Fact pdus
      by_test true x y rest = (x.0, rest x.1 y)
      by_test false x y rest = (y.0, rest x y.1)

abbrev CarriesItself : Pdu → Type 0
CarriesItself pdu = carried_by_pdu pdu ≡ pdu.bytes ∷ []

carried_bytes : (pdus : List Pdu) → EachPdu CarriesItself pdus → flat_map carried_by_pdu pdus ≡ bytes_of pdus
carried_bytes [] each = refl
carried_bytes (pdu ∷ pdus) each = ap₂ (λ (x y : List (List ℕ)). x ++ y) each.0 (carried_bytes pdus each.1)

module _ (address : Bool) (unicast : List ℕ) where
  abbrev pdus_of_all : List (List ℕ) → List Pdu
  pdus_of_all datagrams = map (pdu_for address unicast) datagrams

  bytes_back : (datagrams : List (List ℕ)) → bytes_of (pdus_of_all datagrams) ≡ datagrams
  bytes_back [] = refl
  bytes_back (datagram ∷ datagrams) = ap (λ (t : List (List ℕ)). datagram ∷ t) (bytes_back datagrams)

  each_carried : (datagrams : List (List ℕ)) → All IsDatagram datagrams → EachPdu CarriesItself (pdus_of_all datagrams)
  each_carried [] all = tt
  each_carried (datagram ∷ datagrams) all =
      (one_carried address unicast datagram (all 0 datagram (omega arith)), each_carried datagrams (λ k d known. all (suc k) d (omega (arith, known))))

  module _ (rules : List Rule) (size : ℕ) (least : 300 ≤ size) (six : address ≡ true → length unicast ≡ 6) (datagrams : List (List ℕ))
      (small : All (λ datagram. length datagram ≤ 65527) datagrams) where
    able : AreSendable (pdus_of_all datagrams)
    able = offered_sendable address unicast datagrams six small

    abbrev ended : List Pdu
    ended = ended_pdus (packets_for rules size (pdus_of_all datagrams))

    ends : EndsInClasses rules (packets_for rules size (pdus_of_all datagrams)) (pdus_of_all datagrams)
    ends = ends_in_classes rules size (pdus_of_all datagrams) least (sendable_fit (pdus_of_all datagrams) able)

    kept : (test : List ℕ → Bool) → filter (λ (pdu : Pdu). test pdu.bytes) ended ≡ filter (λ (pdu : Pdu). test pdu.bytes) (pdus_of_all datagrams)
        → filter test (bytes_of ended) ≡ filter test datagrams
    kept test same =
        filtered test ended ∙ ap bytes_of same ∙ sym (filtered test (pdus_of_all datagrams)) ∙ ap (filter test) (bytes_back datagrams)

    pub keeps_classes : KeepsClasses rules datagrams (class_order rules size address unicast datagrams)
    keeps_classes = record { classes = λ class. kept (λ datagram. is_of_class rules class datagram) (ends.classes class) }

    order_carried : All IsDatagram datagrams → flat_map carried_by_pdu ended ≡ class_order rules size address unicast datagrams
    order_carried all =
        carried_bytes ended
        (each_of_both CarriesItself (is_urgent_pdu rules) ended
        (subst (EachPdu CarriesItself) (sym (ends.classes urgent_class)) (each_filter CarriesItself (is_urgent_pdu rules) (pdus_of_all datagrams) (each_carried datagrams all)))
        (subst (EachPdu CarriesItself) (sym (ends.classes ordinary_class)) (each_filter CarriesItself (λ (pdu : Pdu). not (is_urgent_pdu rules pdu)) (pdus_of_all datagrams) (each_carried datagrams all))))

    -- the PDUs that are ended are those of the datagrams in this order
    abbrev IsOfBytes : Pdu → Type 0
    IsOfBytes pdu = pdu ≡ pdu_for address unicast pdu.bytes

    of_bytes : (pdus : List Pdu) → EachPdu IsOfBytes pdus → pdus ≡ pdus_of_all (bytes_of pdus)
    of_bytes [] each = refl
    of_bytes (pdu ∷ pdus) each = ap₂ (λ (x : Pdu) (xs : List Pdu). x ∷ xs) each.0 (of_bytes pdus each.1)

    each_of_bytes : (all : List (List ℕ)) → EachPdu IsOfBytes (pdus_of_all all)
    each_of_bytes [] = tt
    each_of_bytes (datagram ∷ all) = (refl, each_of_bytes all)

    pub pdus_in_order : ended ≡ pdus_of_all (class_order rules size address unicast datagrams)
    pdus_in_order =
        of_bytes ended
        (each_of_both IsOfBytes (is_urgent_pdu rules) ended
        (subst (EachPdu IsOfBytes) (sym (ends.classes urgent_class)) (each_filter IsOfBytes (is_urgent_pdu rules) (pdus_of_all datagrams) (each_of_bytes datagrams)))
        (subst (EachPdu IsOfBytes) (sym (ends.classes ordinary_class)) (each_filter IsOfBytes (λ (pdu : Pdu). not (is_urgent_pdu rules pdu)) (pdus_of_all datagrams) (each_of_bytes datagrams))))

    pub frames_carry_in_order : (isi : ℕ) → size ≤ 7274 → All IsDatagram datagrams
        → CarriesPdus carried_by_pdu isi (frames_for rules isi size (pdus_of_all datagrams)) (class_order rules size address unicast datagrams)
    frames_carry_in_order isi most all =
        subst (λ (t : List (List ℕ)). CarriesPdus carried_by_pdu isi (frames_for rules isi size (pdus_of_all datagrams)) t) (order_carried all)
        (frames_carry carried_by_pdu rules isi size (pdus_of_all datagrams) least most able)

  -- one class is in order
  pub one_class_order : (size : ℕ) → 300 ≤ size → (address ≡ true → length unicast ≡ 6) → (datagrams : List (List ℕ)) → All (λ datagram. length datagram ≤ 65527) datagrams
      → class_order [] size address unicast datagrams ≡ datagrams
  one_class_order size least six datagrams small =
      ap bytes_of (ends_in_order size (pdus_of_all datagrams) least (sendable_fit (pdus_of_all datagrams) (offered_sendable address unicast datagrams six small))) ∙ bytes_back datagrams

-- What arrives of each class.

skip_one : (xs : List (List ℕ)) (y : List ℕ) (ys : List (List ℕ)) → IsSubsequence xs ys → IsSubsequence xs (y ∷ ys)
skip_one [] y ys within = tt
skip_one (x ∷ xs) y ys within = inr within

pub filter_within : (test : List ℕ → Bool) (xs ys : List (List ℕ)) → IsSubsequence xs ys → IsSubsequence (filter test xs) (filter test ys)
filter_within test [] ys within = tt
filter_within test (x ∷ xs) [] within = absurd within
filter_within test (x ∷ xs) (y ∷ ys) (inl within) =
    subst (λ (t : List ℕ). IsSubsequence (cond (test t) (t ∷ filter test xs) (filter test xs)) (cond (test y) (y ∷ filter test ys) (filter test ys))) (sym within.0)
    (by_test (test y) (filter_within test xs ys within.1))
  where
    by_test : (b : Bool) → IsSubsequence (filter test xs) (filter test ys) → IsSubsequence (cond b (y ∷ filter test xs) (filter test xs)) (cond b (y ∷ filter test ys) (filter test ys))
    by_test true rest = inl (refl, rest)
    by_test false rest = rest
filter_within test (x ∷ xs) (y ∷ ys) (inr within) = by_test (test y) (filter_within test (x ∷ xs) ys within)
  where
    by_test : (b : Bool) → IsSubsequence (filter test (x ∷ xs)) (filter test ys) → IsSubsequence (filter test (x ∷ xs)) (cond b (y ∷ filter test ys) (filter test ys))
    by_test true rest = skip_one (filter test (x ∷ xs)) y (filter test ys) rest
    by_test false rest = rest

pub classes_within : (rules : List Rule) (datagrams order delivered : List (List ℕ)) → KeepsClasses rules datagrams order → IsSubsequence delivered order
    → (class : Class) → IsSubsequence (datagrams_of_class rules class delivered) (datagrams_of_class rules class datagrams)
classes_within rules datagrams order delivered keeps within class =
    subst (IsSubsequence (datagrams_of_class rules class delivered)) (keeps.classes class) (filter_within (λ datagram. is_of_class rules class datagram) delivered order within)
