-- Packing goes on packet by packet, whatever number of steps is enough.
use Rattle.std.proofs.Common.{◌≡◌, ◌⊎◌, inl, inr, ℕ, zero, suc, ◌+◌, ◌-◌, ◌*◌, ◌<◌, ◌≤◌, Bool, true, false, cond, ◌&&◌, Option, Some, None, List, [], ◌∷◌, length, refl, ap, ap₂, sym, subst, arith, length-drop}
use Rattle.std.specs.Prelude.{nat_le}
use Rattle.addr_rules.specs.declared.filter.Label.{Label}
use Rattle.gse_spec.specs.Packet.{complete_packet, end_packet}
use Rattle.gse_spec.specs.Written.{label_bytes, Writing}
use Rattle.gse_spec.specs.Reassembly.{Pdu}
use Rattle.gse_spec.specs.Packing.{first_size, rest_after_first, first_fragment, middle_size, middle_fragment, rest_after_middle, is_again, Rest, Turn, begins, goes_on, in_front, packed_pdu, packed_rest, packed_turn, packed_within, ClassIds, InClasses, after_urgent, after_ordinary, next_in_classes, in_classes, none_begun, steps_of}
use Rattle.gse_law.specs.Packed.{AreShortPdus, work_of_pdus, work_of_rest, packed_from, PacksOneByOne}
use Rattle.gse_law.proofs.Packing.{le_cases, again, begun, begun_most, begun_room, begun_other}

-- a choice by the same test on both sides
same_pick : {X : Type 0} (a b : ℕ) (x y z w : X) → (a ≤ b → x ≡ z) → (b < a → y ≡ w) → cond (nat_le a b) x y ≡ cond (nat_le a b) z w
same_pick {X} a b x y z w first second = by_case (le_cases a b)
  where
    by_case : ((nat_le a b ≡ true) × (a ≤ b)) ⊎ ((nat_le a b ≡ false) × (b < a)) → cond (nat_le a b) x y ≡ cond (nat_le a b) z w
    by_case (inl t) = subst (λ (c : Bool). cond c x y ≡ cond c z w) (sym t.0) (first t.1)
    by_case (inr t) = subst (λ (c : Bool). cond c x y ≡ cond c z w) (sym t.0) (second t.1)

same_pick_both : {X : Type 0} (a b c d : ℕ) (x y z w : X) → (a ≤ b → c ≤ d → x ≡ z) → ((b < a) ⊎ (d < c) → y ≡ w)
    → cond (nat_le a b && nat_le c d) x y ≡ cond (nat_le a b && nat_le c d) z w
same_pick_both {X} a b c d x y z w first second = by_case (le_cases a b) (le_cases c d)
  where
    by_case : ((nat_le a b ≡ true) × (a ≤ b)) ⊎ ((nat_le a b ≡ false) × (b < a)) → ((nat_le c d ≡ true) × (c ≤ d)) ⊎ ((nat_le c d ≡ false) × (d < c))
        → cond (nat_le a b && nat_le c d) x y ≡ cond (nat_le a b && nat_le c d) z w
    by_case (inl s) (inl t) = subst (λ (b : Bool). cond b x y ≡ cond b z w) (sym (ap₂ (λ (u v : Bool). u && v) s.0 t.0)) (first s.1 t.1)
    by_case (inl s) (inr t) = subst (λ (b : Bool). cond b x y ≡ cond b z w) (sym (ap₂ (λ (u v : Bool). u && v) s.0 t.0)) (second (inr t.1))
    by_case (inr s) t = subst (λ (b : Bool). cond b x y ≡ cond b z w) (sym (ap (λ (u : Bool). u && nat_le c d) s.0)) (second (inl s.1))

module _ (urgent : Pdu → Bool) (ids : ClassIds) (sum : List ℕ → ℕ) (room : ℕ) (enough : 290 ≤ room) where
  abbrev Later : Type 0
  Later = ℕ → Option Label → InClasses → List (List Writing)

  abbrev after : InClasses → Option Rest → InClasses
  after s left = (in_classes urgent ids).after_packet s left

  abbrev next_frame : InClasses → InClasses
  next_frame s = (in_classes urgent ids).after_frame s

  -- steps that a state takes at most: one more in a frame that has begun
  abbrev need : ℕ → InClasses → ℕ
  need left s = 2 * (work_of_rest s.urgent_rest + work_of_rest s.rest + work_of_pdus s.pdus) + begun room left

  -- the same from every state that needs fewer steps
  abbrev SameBelow : Later → Later → ℕ → Type 0
  SameBelow f g n = (left : ℕ) (before : Option Label) (s : InClasses) → AreShortPdus s.pdus → need left s < n → f left before s ≡ g left before s

  -- a rest: one byte of it at least
  rest_same : (f g : Later) (left : ℕ) (before : Option Label) (s : InClasses) (rest : Rest)
      → ((l : ℕ) → f l before (after s None) ≡ g l before (after s None))
      → ((l : ℕ) (r : Rest) → length r.bytes < length rest.bytes → f l before (after s (Some r)) ≡ g l before (after s (Some r)))
      → (((left ≡ room) → ⊥) → f room None (next_frame s) ≡ g room None (next_frame s))
      → packed_rest (in_classes urgent ids) room left before s rest f ≡ packed_rest (in_classes urgent ids) room left before s rest g
  rest_same f g left before s rest last middle frame =
      same_pick_both (5 + length rest.bytes) 4095 (7 + length rest.bytes) left _ _ _ _
      (λ a b. ap (in_front (record { packet = end_packet rest.id rest.bytes rest.crc; reuses = false })) (last (left - (7 + length rest.bytes))))
      (λ long. same_pick_both 4 left 2 (length rest.bytes) _ _ _ _
      (λ c d. ap (in_front (record { packet = middle_fragment left rest; reuses = false }))
      (middle (left - (3 + middle_size left (length rest.bytes))) (rest_after_middle left rest)
      (omega (arith, c, d, length-drop (middle_size left (length rest.bytes)) rest.bytes))))
      (λ short. ap (λ (t : List (List Writing)). [] ∷ t) (frame (λ is. not_whole is long short))))
    where
      -- in a whole frame a rest that has no end there has a middle there
      not_whole : left ≡ room → (4095 < 5 + length rest.bytes) ⊎ (left < 7 + length rest.bytes) → (left < 4) ⊎ (length rest.bytes < 2) → ⊥
      not_whole is (inl long) (inl few) = omega (arith, is, enough, few)
      not_whole is (inl long) (inr few) = omega (arith, long, few)
      not_whole is (inr long) (inl few) = omega (arith, is, enough, few)
      not_whole is (inr long) (inr few) = omega (arith, is, enough, long, few)

  pdu_same : (f g : Later) (left : ℕ) (before : Option Label) (s : InClasses) (id : ℕ) (pdu : Pdu) → length (label_bytes pdu.label) ≤ 6
      → ((l : ℕ) → f l (Some pdu.label) (after s None) ≡ g l (Some pdu.label) (after s None))
      → ((l : ℕ) (r : Rest) → length r.bytes ≤ length pdu.bytes → f l (Some pdu.label) (after s (Some r)) ≡ g l (Some pdu.label) (after s (Some r)))
      → (((left ≡ room) → ⊥) → f room None (next_frame s) ≡ g room None (next_frame s))
      → packed_pdu (in_classes urgent ids) sum room left before s id pdu f ≡ packed_pdu (in_classes urgent ids) sum room left before s id pdu g
  pdu_same f g left before s id pdu few_label whole first frame =
      same_pick_both (2 + length (again before pdu.label) + length pdu.bytes) 4095 (4 + length (again before pdu.label) + length pdu.bytes) left _ _ _ _
      (λ a b. ap (in_front (record { packet = complete_packet pdu.protocol pdu.label pdu.bytes; reuses = is_again before pdu.label }))
      (whole (left - (4 + length (again before pdu.label) + length pdu.bytes))))
      (λ long. same_pick (8 + length (label_bytes pdu.label)) left _ _ _ _
      (λ a. ap (in_front (record { packet = first_fragment left id pdu; reuses = false }))
      (first (left - (7 + length (label_bytes pdu.label) + first_size left pdu)) (rest_after_first sum left id pdu)
      (omega (arith, length-drop (first_size left pdu) pdu.bytes))))
      (λ few. ap (λ (t : List (List Writing)). [] ∷ t) (frame (λ is. omega (arith, is, enough, few, few_label)))))

  abbrev state : ℕ → ℕ → Option Rest → Option Rest → ℕ → List Pdu → InClasses
  state id urgent_id urgent_rest rest yields pdus =
      record { id = id; urgent_id = urgent_id; urgent_rest = urgent_rest; rest = rest; yields = yields; pdus = pdus }

  -- after a packet of a PDU less work is left
  abbrev Less : ℕ → Pdu → List Pdu → InClasses → Type 0
  Less others pdu pdus s = (s.pdus ≡ pdus) × (work_of_rest s.urgent_rest + work_of_rest s.rest ≤ others + (1 + length pdu.bytes))

  pdu_below : (f g : Later) (left : ℕ) (before : Option Label) (s : InClasses) (id : ℕ) (pdu : Pdu) (pdus : List Pdu) (others : ℕ) → AreShortPdus (pdu ∷ pdus)
      → SameBelow f g (need left s) → s.pdus ≡ pdu ∷ pdus → others ≡ work_of_rest s.urgent_rest + work_of_rest s.rest
      → Less others pdu pdus (after s None) → ((r : Rest) → length r.bytes ≤ length pdu.bytes → Less others pdu pdus (after s (Some r)))
      → packed_pdu (in_classes urgent ids) sum room left before s id pdu f ≡ packed_pdu (in_classes urgent ids) sum room left before s id pdu g
  pdu_below f g left before s id pdu pdus others all same pdus_are others_are whole first =
      pdu_same f g left before s id pdu all.0.0
      (λ l. below l (Some pdu.label) (after s None) whole)
      (λ l r less. below l (Some pdu.label) (after s (Some r)) (first r less))
      (λ begun_is. same room None (next_frame s) (subst AreShortPdus (sym pdus_are) all) (omega (arith, begun_room room, begun_other room left begun_is)))
    where
      below : (l : ℕ) (b : Option Label) (t : InClasses) → Less others pdu pdus t → f l b t ≡ g l b t
      below l b t less =
          same l b t (subst AreShortPdus (sym less.0) all.1)
          (omega (arith, less.1, others_are, ap work_of_pdus less.0, ap work_of_pdus pdus_are, begun_most room l))

  turn_same : (f g : Later) (left : ℕ) (before : Option Label) (id urgent_id : ℕ) (u o : Option Rest) (yields : ℕ) (pdus : List Pdu) → AreShortPdus pdus
      → SameBelow f g (need left (state id urgent_id u o yields pdus))
      → packed_turn (in_classes urgent ids) sum room left before (state id urgent_id u o yields pdus) (next_in_classes urgent id urgent_id u o yields pdus) f
      ≡ packed_turn (in_classes urgent ids) sum room left before (state id urgent_id u o yields pdus) (next_in_classes urgent id urgent_id u o yields pdus) g
  turn_same f g left before id urgent_id (Some rest) o yields pdus all same =
      rest_same f g left before (state id urgent_id (Some rest) o yields pdus) rest
      (λ l. same l before (state id urgent_id None o yields pdus) all (omega (arith, begun_most room l)))
      (λ l r less. same l before (state id urgent_id (Some r) o yields pdus) all (omega (arith, less, begun_most room l)))
      (λ begun_is. same room None (state id urgent_id (Some rest) o (yields - 1) pdus) all (omega (arith, begun_room room, begun_other room left begun_is)))
  turn_same f g left before id urgent_id None None yields [] all same = refl
  turn_same f g left before id urgent_id None None yields (pdu ∷ pdus) all same =
      pdu_below f g left before (state id urgent_id None None yields (pdu ∷ pdus)) (cond (urgent pdu) urgent_id id) pdu pdus 0 all same refl (omega arith)
      (either (urgent pdu) (after_urgent ids id urgent_id None yields pdus None) (after_ordinary ids id urgent_id yields pdus None) (refl, omega arith) (refl, omega arith))
      (λ r less. either (urgent pdu) (after_urgent ids id urgent_id None yields pdus (Some r)) (after_ordinary ids id urgent_id yields pdus (Some r)) (refl, omega (arith, less)) (refl, omega (arith, less)))
    where
      either : (b : Bool) (x y : InClasses) → Less 0 pdu pdus x → Less 0 pdu pdus y → Less 0 pdu pdus (cond b x y)
      either true x y x_is y_is = x_is
      either false x y x_is y_is = y_is
  turn_same f g left before id urgent_id None (Some rest) yields [] all same =
      rest_same f g left before (state id urgent_id None (Some rest) yields []) rest
      (λ l. same l before (state id urgent_id None None yields []) all (omega (arith, begun_most room l)))
      (λ l r less. same l before (state id urgent_id None (Some r) yields []) all (omega (arith, less, begun_most room l)))
      (λ begun_is. same room None (state id urgent_id None (Some rest) (yields - 1) []) all (omega (arith, begun_room room, begun_other room left begun_is)))
  turn_same f g left before id urgent_id None (Some rest) zero (pdu ∷ pdus) all same =
      rest_same f g left before (state id urgent_id None (Some rest) zero (pdu ∷ pdus)) rest
      (λ l. same l before (state id urgent_id None None zero (pdu ∷ pdus)) all (omega (arith, begun_most room l)))
      (λ l r less. same l before (state id urgent_id None (Some r) zero (pdu ∷ pdus)) all (omega (arith, less, begun_most room l)))
      (λ begun_is. same room None (state id urgent_id None (Some rest) (zero - 1) (pdu ∷ pdus)) all (omega (arith, begun_room room, begun_other room left begun_is)))
  turn_same f g left before id urgent_id None (Some rest) (suc yields) (pdu ∷ pdus) all same = by_class (urgent pdu) refl
    where
      s : InClasses
      s = state id urgent_id None (Some rest) (suc yields) (pdu ∷ pdus)

      TurnSame : Turn → Type 0
      TurnSame turn = packed_turn (in_classes urgent ids) sum room left before s turn f ≡ packed_turn (in_classes urgent ids) sum room left before s turn g

      -- after a packet, by its class
      after_is : (b : Bool) → urgent pdu ≡ b → (l : Option Rest)
          → after s l ≡ cond b (after_urgent ids id urgent_id (Some rest) (suc yields) pdus l) (state id urgent_id None l (suc yields) (pdu ∷ pdus))
      after_is b is l = ap (λ (c : Bool). cond c (after_urgent ids id urgent_id (Some rest) (suc yields) pdus l) (state id urgent_id None l (suc yields) (pdu ∷ pdus))) is

      by_class : (b : Bool) → urgent pdu ≡ b → TurnSame (cond (urgent pdu) (begins urgent_id pdu) (goes_on rest))
      by_class true is =
          subst TurnSame (sym (ap (λ (c : Bool). cond c (begins urgent_id pdu) (goes_on rest)) is))
          (pdu_below f g left before s urgent_id pdu pdus (1 + length rest.bytes) all same refl (omega arith)
          (subst (Less (1 + length rest.bytes) pdu pdus) (sym (after_is true is None)) (refl, omega arith))
          (λ r less. subst (Less (1 + length rest.bytes) pdu pdus) (sym (after_is true is (Some r))) (refl, omega (arith, less))))
      by_class false is =
          subst TurnSame (sym (ap (λ (c : Bool). cond c (begins urgent_id pdu) (goes_on rest)) is))
          (rest_same f g left before s rest
          (λ l. subst (λ (t : InClasses). f l before t ≡ g l before t) (sym (after_is false is None))
          (same l before (state id urgent_id None None (suc yields) (pdu ∷ pdus)) all (omega (arith, begun_most room l))))
          (λ l r less. subst (λ (t : InClasses). f l before t ≡ g l before t) (sym (after_is false is (Some r)))
          (same l before (state id urgent_id None (Some r) (suc yields) (pdu ∷ pdus)) all (omega (arith, less, begun_most room l))))
          (λ begun_is. same room None (state id urgent_id None (Some rest) (suc yields - 1) (pdu ∷ pdus)) all (omega (arith, begun_room room, begun_other room left begun_is))))

  abbrev within : ℕ → Later
  within most left before s = packed_within (in_classes urgent ids) sum room most left before s

  -- what needs no step has nothing left
  over_here : (more left : ℕ) (before : Option Label) (id urgent_id : ℕ) (u o : Option Rest) (yields : ℕ) (pdus : List Pdu) → need left (state id urgent_id u o yields pdus) ≤ 0
      → [] ∷ [] ≡ within more left before (state id urgent_id u o yields pdus)
  over_here zero left before id urgent_id u o yields pdus none = refl
  over_here (suc more) left before id urgent_id (Some rest) o yields pdus none = absurd (omega (arith, none))
  over_here (suc more) left before id urgent_id None (Some rest) yields pdus none = absurd (omega (arith, none))
  over_here (suc more) left before id urgent_id None None yields (pdu ∷ pdus) none = absurd (omega (arith, none))
  over_here (suc more) left before id urgent_id None None yields [] none = refl

  -- any two numbers of steps that are enough
  steps_same : (most more left : ℕ) (before : Option Label) (s : InClasses) → AreShortPdus s.pdus → need left s ≤ most → need left s ≤ more
      → within most left before s ≡ within more left before s
  steps_same zero more left before s all few also = over_here more left before s.id s.urgent_id s.urgent_rest s.rest s.yields s.pdus few
  steps_same (suc most) zero left before s all few also = sym (over_here (suc most) left before s.id s.urgent_id s.urgent_rest s.rest s.yields s.pdus also)
  steps_same (suc most) (suc more) left before s all few also =
      turn_same (within most) (within more) left before s.id s.urgent_id s.urgent_rest s.rest s.yields s.pdus all
      (λ l b t fit less. steps_same most more l b t fit (omega (arith, few, less)) (omega (arith, also, less)))

  one_step : (left : ℕ) (before : Option Label) (s : InClasses) → AreShortPdus s.pdus
      → packed_from urgent ids sum room left before s
      ≡ packed_turn (in_classes urgent ids) sum room left before s (next_in_classes urgent s.id s.urgent_id s.urgent_rest s.rest s.yields s.pdus) (packed_from urgent ids sum room)
  one_step left before s all =
      enough_more (2 + 2 * (work_of_rest s.urgent_rest + work_of_rest s.rest + work_of_pdus s.pdus)) (omega arith)
    where
      enough_more : (most : ℕ) → most ≡ 2 + 2 * (work_of_rest s.urgent_rest + work_of_rest s.rest + work_of_pdus s.pdus)
          → within most left before s
          ≡ packed_turn (in_classes urgent ids) sum room left before s (next_in_classes urgent s.id s.urgent_id s.urgent_rest s.rest s.yields s.pdus) (packed_from urgent ids sum room)
      enough_more zero is = absurd (omega (arith, is))
      enough_more (suc most) is =
          turn_same (within most) (packed_from urgent ids sum room) left before s.id s.urgent_id s.urgent_rest s.rest s.yields s.pdus all
          (λ l b t fit less. steps_same most (2 + 2 * (work_of_rest t.urgent_rest + work_of_rest t.rest + work_of_pdus t.pdus)) l b t fit
          (omega (arith, is, less, begun_most room left)) (omega (arith, begun_most room l)))

  steps_enough : (pdus : List Pdu) → 2 * work_of_pdus pdus ≤ steps_of pdus
  steps_enough [] = omega arith
  steps_enough (pdu ∷ pdus) = omega (arith, steps_enough pdus)

  pub packs_one_by_one : PacksOneByOne urgent ids sum room
  packs_one_by_one = record {
    step = λ left before s all. one_step left before s all;
    all = λ pdu pdus all. steps_same (steps_of (pdu ∷ pdus)) (2 + 2 * (0 + 0 + work_of_pdus (pdu ∷ pdus))) room None (none_begun ids (pdu ∷ pdus)) all
        (omega (arith, steps_enough (pdu ∷ pdus), begun_room room)) (omega (arith, begun_room room));
  }
