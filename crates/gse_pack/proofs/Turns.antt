-- What is next, by what has begun; and what is left after it.
use Rattle.std.proofs.Common.{◌≡◌, ℕ, zero, suc, Bool, true, false, cond, Option, Some, None, List, [], ◌∷◌, drop, refl, ap, sym, ◌∙◌, subst}
use Rattle.gse_spec.specs.Reassembly.{Pdu}
use Rattle.gse_spec.specs.Packing.{Rest, Turn, no_turn, begins, goes_on, ClassIds, InClasses, after_urgent, after_ordinary, next_in_classes, in_classes_after}
use Rattle.gse_spec.specs.Classes.{is_urgent_pdu, ids_for}
use Rattle.gse_law.specs.Packed.{IsShortPdu, AreShortPdus}
use Rattle.gse_pack.specs.Steps.{Unsent, next_of, after_of}

abbrev pub with_pdus : Unsent → List Pdu → Unsent
with_pdus u pdus = record {
  rules = u.rules;
  now = record { id = u.now.id; urgent_id = u.now.urgent_id; urgent_rest = u.now.urgent_rest; rest = u.now.rest; yields = u.now.yields; pdus = pdus };
}

-- What is next.

module _ (u : Unsent) where
  abbrev next_by : Option Rest → Option Rest → ℕ → List Pdu → Turn
  next_by urgent_rest rest yields pdus = next_in_classes (is_urgent_pdu u.rules) u.now.id u.now.urgent_id urgent_rest rest yields pdus

  next_is : (urgent_rest rest : Option Rest) (pdus : List Pdu) → u.now.urgent_rest ≡ urgent_rest → u.now.rest ≡ rest → u.now.pdus ≡ pdus
      → next_of u ≡ next_by urgent_rest rest u.now.yields pdus
  next_is urgent_rest rest pdus first second third =
      ap (λ (r : Option Rest). next_by r u.now.rest u.now.yields u.now.pdus) first
      ∙ ap (λ (r : Option Rest). next_by urgent_rest r u.now.yields u.now.pdus) second
      ∙ ap (λ (ps : List Pdu). next_by urgent_rest rest u.now.yields ps) third

  pub urgent_goes : (r : Rest) → u.now.urgent_rest ≡ Some r → next_of u ≡ goes_on r
  urgent_goes r is = ap (λ (x : Option Rest). next_by x u.now.rest u.now.yields u.now.pdus) is

  pub nothing_left : u.now.urgent_rest ≡ None → u.now.rest ≡ None → u.now.pdus ≡ [] → next_of u ≡ no_turn
  nothing_left none alone over = next_is None None [] none alone over

  -- alone
  pub begins_alone : (pdu : Pdu) (pdus : List Pdu) (c : Bool) → u.now.urgent_rest ≡ None → u.now.rest ≡ None → u.now.pdus ≡ pdu ∷ pdus → is_urgent_pdu u.rules pdu ≡ c
      → next_of u ≡ begins (cond c u.now.urgent_id u.now.id) pdu
  begins_alone pdu pdus c none alone next class_is =
      next_is None None (pdu ∷ pdus) none alone next ∙ ap (λ (b : Bool). begins (cond b u.now.urgent_id u.now.id) pdu) class_is

  -- beside an ordinary PDU that has begun
  pub goes_over : (r : Rest) → u.now.urgent_rest ≡ None → u.now.rest ≡ Some r → u.now.pdus ≡ [] → next_of u ≡ goes_on r
  goes_over r none is over = next_is None (Some r) [] none is over

  pub goes_late : (r : Rest) → u.now.urgent_rest ≡ None → u.now.rest ≡ Some r → u.now.yields ≡ 0 → next_of u ≡ goes_on r
  goes_late r none is late =
      next_is None (Some r) u.now.pdus none is refl ∙ ap (λ (n : ℕ). next_by None (Some r) n u.now.pdus) late ∙ by_pdus u.now.pdus
    where
      by_pdus : (pdus : List Pdu) → next_by None (Some r) 0 pdus ≡ goes_on r
      by_pdus [] = refl
      by_pdus (pdu ∷ pdus) = refl

  pub beside : (r : Rest) (pdu : Pdu) (pdus : List Pdu) (c : Bool) → u.now.urgent_rest ≡ None → u.now.rest ≡ Some r → u.now.pdus ≡ pdu ∷ pdus → is_urgent_pdu u.rules pdu ≡ c
      → (u.now.yields ≡ 0 → ⊥) → next_of u ≡ cond c (begins u.now.urgent_id pdu) (goes_on r)
  beside r pdu pdus c none is next class_is some =
      next_is None (Some r) (pdu ∷ pdus) none is next ∙ by_yields u.now.yields some ∙ ap (λ (b : Bool). cond b (begins u.now.urgent_id pdu) (goes_on r)) class_is
    where
      by_yields : (n : ℕ) → (n ≡ 0 → ⊥) → next_by None (Some r) n (pdu ∷ pdus) ≡ cond (is_urgent_pdu u.rules pdu) (begins u.now.urgent_id pdu) (goes_on r)
      by_yields zero none_left = absurd (none_left refl)
      by_yields (suc n) more = refl

-- a PDU that is next is the first of those left
pub first_short : (pdu : Pdu) (pdus all : List Pdu) → all ≡ pdu ∷ pdus → AreShortPdus all → IsShortPdu pdu
first_short pdu pdus all is short = (subst AreShortPdus is short).0

-- What is left after a packet of it.

begin_by : (urgent : Pdu → Bool) (ids : ClassIds) (id urgent_id : ℕ) (u o : Option Rest) (yields : ℕ) (pdus : List Pdu) (i : ℕ) (pdu : Pdu) (left : Option Rest) (c : Bool) → urgent pdu ≡ c
    → next_in_classes urgent id urgent_id u o yields pdus ≡ begins i pdu
    → (u ≡ None) × (in_classes_after urgent ids id urgent_id u o yields pdus left
    ≡ cond c (after_urgent ids id urgent_id o yields (drop 1 pdus) left) (after_ordinary ids id urgent_id yields (drop 1 pdus) left)) × (c ≡ false → o ≡ None)
begin_by urgent ids id urgent_id (Some rest) o yields pdus i pdu left c class_is e = absurd (cc)
begin_by urgent ids id urgent_id None None yields [] i pdu left c class_is e = absurd (cc)
begin_by urgent ids id urgent_id None None yields (p ∷ pdus) i pdu left c class_is e =
    let same : p ≡ pdu = pdu_is e in (
      refl,
      ap (λ (b : Bool). cond b (after_urgent ids id urgent_id None yields pdus left) (after_ordinary ids id urgent_id yields pdus left)) (ap urgent same ∙ class_is),
      λ _. refl,
    )
  where
    pdu_is : {a b : ℕ} → begins a p ≡ begins b pdu → p ≡ pdu
    pdu_is f = cc
begin_by urgent ids id urgent_id None (Some rest) yields [] i pdu left c class_is e = absurd (cc)
begin_by urgent ids id urgent_id None (Some rest) zero (p ∷ pdus) i pdu left c class_is e = absurd (cc)
begin_by urgent ids id urgent_id None (Some rest) (suc yields) (p ∷ pdus) i pdu left c class_is e = by_class (urgent p) refl e
  where
    pdu_is : {a b : ℕ} → begins a p ≡ begins b pdu → p ≡ pdu
    pdu_is f = cc

    by_class : (b : Bool) → urgent p ≡ b → cond b (begins urgent_id p) (goes_on rest) ≡ begins i pdu
        → (◌≡◌ {A = Option Rest} None None) × (cond (urgent p) (after_urgent ids id urgent_id (Some rest) (suc yields) pdus left)
        (record { id = id; urgent_id = urgent_id; urgent_rest = None; rest = left; yields = suc yields; pdus = p ∷ pdus })
        ≡ cond c (after_urgent ids id urgent_id (Some rest) (suc yields) pdus left) (after_ordinary ids id urgent_id (suc yields) pdus left)) × (c ≡ false → ◌≡◌ {A = Option Rest} (Some rest) None)
    by_class true is f =
        let c_is : c ≡ true = sym class_is ∙ sym (ap urgent (pdu_is f)) ∙ is in (
          refl,
          ap (λ (b : Bool). cond b (after_urgent ids id urgent_id (Some rest) (suc yields) pdus left)
              (record { id = id; urgent_id = urgent_id; urgent_rest = None; rest = left; yields = suc yields; pdus = p ∷ pdus })) is
              ∙ sym (ap (λ (b : Bool). cond b (after_urgent ids id urgent_id (Some rest) (suc yields) pdus left) (after_ordinary ids id urgent_id (suc yields) pdus left)) c_is),
          λ no. absurd (cc),
        )
    by_class false is f = absurd (cc)

module _ (u : Unsent) (id : ℕ) (pdu : Pdu) (c : Bool) (class_is : is_urgent_pdu u.rules pdu ≡ c) (next : next_of u ≡ begins id pdu) where
  pub no_urgent : u.now.urgent_rest ≡ None
  no_urgent = (begin_by (is_urgent_pdu u.rules) (ids_for u.rules) u.now.id u.now.urgent_id u.now.urgent_rest u.now.rest u.now.yields u.now.pdus id pdu None c class_is next).0

  pub no_other : c ≡ false → u.now.rest ≡ None
  no_other = (begin_by (is_urgent_pdu u.rules) (ids_for u.rules) u.now.id u.now.urgent_id u.now.urgent_rest u.now.rest u.now.yields u.now.pdus id pdu None c class_is next).2

  pub begun : (left : Option Rest) → after_of u left
      ≡ record {
        rules = u.rules;
        now = cond c (after_urgent (ids_for u.rules) u.now.id u.now.urgent_id u.now.rest u.now.yields (drop 1 u.now.pdus) left)
            (after_ordinary (ids_for u.rules) u.now.id u.now.urgent_id u.now.yields (drop 1 u.now.pdus) left);
      }
  begun left =
      ap (λ (s : InClasses). record { rules = u.rules; now = s })
      (begin_by (is_urgent_pdu u.rules) (ids_for u.rules) u.now.id u.now.urgent_id u.now.urgent_rest u.now.rest u.now.yields u.now.pdus id pdu left c class_is next).1
