-- Pairs of service and datagram: what the file of a service has of them.
use Rattle.std.proofs.Common.{◌≡◌, inl, inr, ℕ, ◌+◌, ◌<◌, Bool, cond, ◌==◌, List, [], ◌∷◌, ◌++◌, flat_map, refl, ap, ap₂, sym, ◌∙◌, arith}
use Rattle.std.proofs.lemmas.List.{append-nil}
use Rattle.std.proofs.lemmas.Grind.{flat_map-append}
use Rattle.std.proofs.lemmas.Bool.{cases_eq, eq-eqb, ne_eqb}
use Rattle.pcap_file.specs.Capture.{capture_head, capture_record, capture_text}
use Rattle.outlet_spec.specs.Pairs.{datagram_of, datagrams_of}
use Rattle.capture_files.specs.Growth.{text_in, record_in_file, records_at}
use Rattle.capture_files.specs.Files.{capture_of_pairs}

-- one pair: its record stands in the file of its service
one_record : (first k : ℕ) (pair : ℕ × List ℕ) → record_in_file first (first + k) pair ≡ flat_map capture_record (datagram_of k pair)
one_record first k pair = elim (cases_eq pair.0 k) [
  | inl same ↦
      ap (λ (b : Bool). cond b (capture_record pair.1) []) (eq-eqb (first + pair.0) (first + k) (omega (arith, same)))
      ∙ sym (append-nil (capture_record pair.1))
      ∙ ap (λ (b : Bool). flat_map capture_record (cond b (pair.1 ∷ []) [])) (sym (eq-eqb pair.0 k same))
  | inr other ↦
      ap (λ (b : Bool). cond b (capture_record pair.1) []) (ne_eqb (first + pair.0) (first + k) (λ e. other (omega (arith, e))))
      ∙ ap (λ (b : Bool). flat_map capture_record (cond b (pair.1 ∷ []) [])) (sym (ne_eqb pair.0 k other))
]

records_of_service : (first k : ℕ) (pairs : List (ℕ × List ℕ)) → records_at first pairs (first + k) ≡ flat_map capture_record (datagrams_of k pairs)
records_of_service first k [] = refl
records_of_service first k (pair ∷ pairs) =
    ap₂ (λ a b. a ++ b) (one_record first k pair) (records_of_service first k pairs)
    ∙ sym (flat_map-append capture_record (datagram_of k pair) (datagrams_of k pairs))

-- and its file has the capture of its datagrams among the pairs
pub capture_is : (k : ℕ) (pairs : List (ℕ × List ℕ)) (datagrams : List (List ℕ)) → datagrams_of k pairs ≡ datagrams → capture_of_pairs pairs k ≡ capture_text datagrams
capture_is k pairs datagrams are =
    let here : k ≡ 0 + k = omega arith in
    ap (λ (n : ℕ). capture_head ++ records_at 0 pairs n) here
    ∙ ap (λ (t : List ℕ). capture_head ++ t) (records_of_service 0 k pairs ∙ ap (flat_map capture_record) are)

-- The places of files.

-- those before the first have no record
pub none_before : (first at : ℕ) (pairs : List (ℕ × List ℕ)) → at < first → records_at first pairs at ≡ []
none_before first at [] lt = refl
none_before first at (pair ∷ pairs) lt =
    ap₂ (λ a b. a ++ b) (ap (λ (b : Bool). cond b (capture_record pair.1) []) (ne_eqb (first + pair.0) at (λ e. omega (arith, e, lt)))) (none_before first at pairs lt)

pub text_before : (first service : ℕ) (text : List ℕ) (at : ℕ) → at < first → text_in first service text at ≡ []
text_before first service text at lt = ap (λ (b : Bool). cond b text []) (ne_eqb (first + service) at (λ e. omega (arith, e, lt)))

-- the places from the first are the services
same_place : (first a b : ℕ) → (first + a == first + b) ≡ (a == b)
same_place first a b = elim (cases_eq a b) [
  | inl same ↦ eq-eqb (first + a) (first + b) (ap (λ (n : ℕ). first + n) same) ∙ sym (eq-eqb a b same)
  | inr other ↦ ne_eqb (first + a) (first + b) (λ e. other (omega (arith, e))) ∙ sym (ne_eqb a b other)
]

pub text_from : (first service : ℕ) (text : List ℕ) (k : ℕ) → text_in first service text (first + k) ≡ text_in 0 service text k
text_from first service text k =
    ap (λ (b : Bool). cond b text []) (same_place first service k ∙ sym (ap (λ (n : ℕ). n == k) (omega arith)))

pub records_from : (first k : ℕ) (pairs : List (ℕ × List ℕ)) → records_at first pairs (first + k) ≡ records_at 0 pairs k
records_from first k [] = refl
records_from first k (pair ∷ pairs) = ap₂ (λ a b. a ++ b) (text_from first pair.0 (capture_record pair.1) k) (records_from first k pairs)
