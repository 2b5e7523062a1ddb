-- The choice of a sender with two classes, packet by packet.
use Rattle.std.proofs.Common.{◌≡◌, ◌⊎◌, inl, inr, ℕ, zero, suc, ◌+◌, ◌-◌, ◌<◌, ◌≤◌, Bool, true, false, not, cond, Option, None, Some, List, [], ◌∷◌, length, take, drop, nat_lt, refl, ap, sym, subst, ◌∙◌, arith}
use Rattle.std.proofs.lemmas.Bool.{lt-ltb, le-ltb}
use Rattle.wire_spec.specs.Crc.{crc32_remainder}
use Rattle.addr_rules.specs.declared.filter.Label.{Label}
use Rattle.gse_spec.specs.Packet.{complete_packet, middle_packet, end_packet}
use Rattle.gse_spec.specs.Written.{label_bytes, Writing}
use Rattle.gse_spec.specs.Reassembly.{Pdu}
use Rattle.gse_spec.specs.Packing.{first_size, middle_size, is_again, Rest, Turn, begins, goes_on, in_front, Choice, ClassIds, id_after, InClasses, after_urgent, after_ordinary, in_classes, packed_pdu, packed_rest, packed_turn, packed_within, steps_of, packed}
use Rattle.gse_law.proofs.Packing.{again, first_packet, first_rest, rest_turn, pdu_turn}
use Rattle.class_law.specs.Yielding.{a_packet, next_is_urgent}
use Rattle.class_law.specs.Examples.{as_written}
use Rattle.class_law.proofs.Ongoing.{GoOn}
use Rattle.class_law.proofs.Obeyed.{ticked, NextBegins, WaitsFor, Obeys, AllObey}

-- the Frag IDs of a service with urgent rules
abbrev pub two_classes : ClassIds
two_classes = record { ordinary = record { first = 0; count = 128 }; urgent = record { first = 128; count = 128 } }

low : (id : ℕ) → id < 128 → nat_lt id 128 ≡ true
low id less = lt-ltb id 128 less

high : (id : ℕ) → 128 ≤ id → nat_lt id 128 ≡ false
high id least = le-ltb id 128 least

module _ (urgent : Pdu → Bool) (room : ℕ) where
  abbrev sum : List ℕ → ℕ
  sum bytes = crc32_remainder 0xFFFF_FFFF bytes

  abbrev choice : Choice InClasses
  choice = in_classes urgent two_classes

  abbrev state : ℕ → ℕ → Option Rest → Option Rest → ℕ → List Pdu → InClasses
  state id urgent_id urgent_rest rest yields pdus =
      record { id = id; urgent_id = urgent_id; urgent_rest = urgent_rest; rest = rest; yields = yields; pdus = pdus }

  abbrev from_here : ℕ → ℕ → Option Label → InClasses → List (List Writing)
  from_here most left before s = packed_within (in_classes urgent two_classes) sum room most left before s

  -- in how many frames the ordinary PDU under way yields
  abbrev way_of : Option Rest → ℕ → Option ℕ
  way_of None yields = None
  way_of (Some rest) yields = Some yields

  abbrev IsHigh : Option Rest → Type 0
  IsHigh None = Unit {0}
  IsHigh (Some rest) = 128 ≤ rest.id

  abbrev IsLow : Option Rest → Type 0
  IsLow None = Unit {0}
  IsLow (Some rest) = rest.id < 128

  pub record HasIds (s : InClasses) : Type 0 where
    pub id : s.id < 128
    pub urgent_id : 128 ≤ s.urgent_id
    pub urgent_rest : IsHigh s.urgent_rest
    pub rest : IsLow s.rest

  -- the Frag ID of the urgent PDU under way
  abbrev held_in : Option Rest → Option ℕ
  held_in None = None
  held_in (Some rest) = Some rest.id

  abbrev Both : Option ℕ → Option ℕ → List Pdu → List (List Writing) → Type 0
  Both held way pdus frames = AllObey urgent way pdus (as_written frames) × GoOn held (as_written frames)

  abbrev Claim : InClasses → List (List Writing) → Type 0
  Claim s frames = Both (held_in s.urgent_rest) (way_of s.rest s.yields) s.pdus frames

  abbrev Packs : ℕ → Type 0
  Packs most = (left : ℕ) (before : Option Label) (s : InClasses) → HasIds s → Claim s (from_here most left before s)

  -- a packet in front
  front : (held way : Option ℕ) (pdus : List Pdu) (w : Writing) (frames : List (List Writing)) → Obeys urgent way pdus w.packet (λ o rest. AllObey urgent o rest (as_written frames))
      → GoOn held (a_packet w.packet ∷ as_written frames) → Both held way pdus (in_front w frames)
  front held way pdus w [] is on = (is, on)
  front held way pdus w (frame ∷ frames) is on = (is, on)

  -- a frame more
  ticked_way : (rest : Option Rest) (yields : ℕ) → way_of rest (yields - 1) ≡ ticked (way_of rest yields)
  ticked_way None yields = refl
  ticked_way (Some rest) yields = refl

  next_frame : (most : ℕ) → Packs most → (s : InClasses) → HasIds s → Claim s ([] ∷ from_here most room None (choice.after_frame s))
  next_frame most packs s ids =
      let it : Claim (choice.after_frame s) (from_here most room None (choice.after_frame s)) =
      packs room None (choice.after_frame s) (record { id = ids.id; urgent_id = ids.urgent_id; urgent_rest = ids.urgent_rest; rest = ids.rest }) in
      (subst (λ (o : Option ℕ). AllObey urgent o s.pdus (as_written (from_here most room None (choice.after_frame s)))) (ticked_way s.rest s.yields) it.0, it.1)

  -- The rest of an urgent PDU goes on.

  vacuous : (way : Option ℕ) (pdus : List Pdu) (id : ℕ) → 128 ≤ id → WaitsFor urgent way pdus id
  vacuous None pdus id least = tt
  vacuous (Some yields) pdus id least = λ is some. absurd (let never : true ≡ false = sym is ∙ high id least in cc)

  urgent_goes : (most : ℕ) → Packs most → (left : ℕ) (before : Option Label) (id urgent_id : ℕ) (rest : Rest) (o : Option Rest) (yields : ℕ) (pdus : List Pdu)
      → HasIds (state id urgent_id (Some rest) o yields pdus)
      → Claim (state id urgent_id (Some rest) o yields pdus) (packed_rest choice room left before (state id urgent_id (Some rest) o yields pdus) rest (from_here most))
  urgent_goes most packs left before id urgent_id rest o yields pdus ids =
      let s : InClasses = state id urgent_id (Some rest) o yields pdus in
      let way : Option ℕ = way_of o yields in
      rest_turn urgent two_classes room (Claim s) (from_here most) left before s rest
      (λ b.
      let frames : List (List Writing) = from_here most (left - (7 + length rest.bytes)) before (choice.after_packet s None) in
      let it : Both None way pdus frames =
      packs (left - (7 + length rest.bytes)) before (choice.after_packet s None) (record { id = ids.id; urgent_id = ids.urgent_id; urgent_rest = tt; rest = ids.rest }) in
      front (Some rest.id) way pdus (record { packet = end_packet rest.id rest.bytes rest.crc; reuses = false }) frames
      (vacuous way pdus rest.id ids.urgent_rest, subst (λ (t : Bool). AllObey urgent (cond t None way) pdus (as_written frames)) (sym (high rest.id ids.urgent_rest)) it.0)
      (refl, it.1))
      (λ long c d.
      let k : ℕ = middle_size left (length rest.bytes) in
      let r : Rest = record { id = rest.id; crc = rest.crc; bytes = drop k rest.bytes } in
      let frames : List (List Writing) = from_here most (left - (3 + k)) before (choice.after_packet s (Some r)) in
      let it : Both (Some rest.id) way pdus frames =
      packs (left - (3 + k)) before (choice.after_packet s (Some r)) (record { id = ids.id; urgent_id = ids.urgent_id; urgent_rest = ids.urgent_rest; rest = ids.rest }) in
      front (Some rest.id) way pdus (record { packet = middle_packet rest.id (take k rest.bytes); reuses = false }) frames (vacuous way pdus rest.id ids.urgent_rest, it.0) (refl, it.1))
      (λ long short. next_frame most packs s ids)

  -- The rest of an ordinary PDU goes on, where none is urgent, or it yields no more.

  ordinary_goes : (most : ℕ) → Packs most → (left : ℕ) (before : Option Label) (id urgent_id : ℕ) (rest : Rest) (yields : ℕ) (pdus : List Pdu)
      → HasIds (state id urgent_id None (Some rest) yields pdus) → (0 < yields → next_is_urgent urgent pdus ≡ false)
      → ((l : Option Rest) → choice.after_packet (state id urgent_id None (Some rest) yields pdus) l ≡ state id urgent_id None l yields pdus)
      → Claim (state id urgent_id None (Some rest) yields pdus) (packed_rest choice room left before (state id urgent_id None (Some rest) yields pdus) rest (from_here most))
  ordinary_goes most packs left before id urgent_id rest yields pdus ids waits after_is =
      let s : InClasses = state id urgent_id None (Some rest) yields pdus in
      rest_turn urgent two_classes room (Claim s) (from_here most) left before s rest
      (λ b.
      let l : ℕ = left - (7 + length rest.bytes) in
      let frames : List (List Writing) = from_here most l before (choice.after_packet s None) in
      let it : Both None None pdus frames =
      subst (λ (t : InClasses). Both None None pdus (from_here most l before t)) (sym (after_is None))
      (packs l before (state id urgent_id None None yields pdus) (record { id = ids.id; urgent_id = ids.urgent_id; urgent_rest = tt; rest = tt })) in
      front None (Some yields) pdus (record { packet = end_packet rest.id rest.bytes rest.crc; reuses = false }) frames
      (λ is some. waits some, subst (λ (t : Bool). AllObey urgent (cond t None (Some yields)) pdus (as_written frames)) (sym (low rest.id ids.rest)) it.0)
      it.1)
      (λ long c d.
      let k : ℕ = middle_size left (length rest.bytes) in
      let l : ℕ = left - (3 + k) in
      let r : Rest = record { id = rest.id; crc = rest.crc; bytes = drop k rest.bytes } in
      let it : Both None (Some yields) pdus (from_here most l before (choice.after_packet s (Some r))) =
      subst (λ (t : InClasses). Both None (Some yields) pdus (from_here most l before t)) (sym (after_is (Some r)))
      (packs l before (state id urgent_id None (Some r) yields pdus) (record { id = ids.id; urgent_id = ids.urgent_id; urgent_rest = tt; rest = ids.rest })) in
      front None (Some yields) pdus (record { packet = middle_packet rest.id (take k rest.bytes); reuses = false }) (from_here most l before (choice.after_packet s (Some r)))
      (λ is some. waits some, it.0) it.1)
      (λ long short. next_frame most packs s ids)

  -- An urgent PDU begins, beside an ordinary one that yields, or alone.

  next_urgent : (n : ℕ) → 128 ≤ id_after two_classes.urgent n
  next_urgent n = omega arith

  next_ordinary : (n : ℕ) → id_after two_classes.ordinary n < 128
  next_ordinary n = omega arith

  urgent_begins : (most : ℕ) → Packs most → (left : ℕ) (before : Option Label) (id urgent_id : ℕ) (o : Option Rest) (yields : ℕ) (pdu : Pdu) (pdus : List Pdu) (b : Bool)
      → HasIds (state id urgent_id None o yields (pdu ∷ pdus)) → urgent pdu ≡ true → (0 < yields) ⊎ (o ≡ None)
      → ((l : Option Rest) → choice.after_packet (state id urgent_id None o yields (pdu ∷ pdus)) l ≡ after_urgent two_classes id urgent_id o yields pdus l)
      → Claim (state id urgent_id None o yields (pdu ∷ pdus)) (packed_pdu choice sum room left before (state id urgent_id None o yields (pdu ∷ pdus)) urgent_id pdu (from_here most))
  urgent_begins most packs left before id urgent_id o yields pdu pdus b ids is may after_is =
      let s : InClasses = state id urgent_id None o yields (pdu ∷ pdus) in
      let way : Option ℕ = way_of o yields in
      pdu_turn urgent two_classes room (Claim s) (from_here most) left before s urgent_id pdu
      (λ fits.
      let l : ℕ = left - (4 + length (again before pdu.label) + length pdu.bytes) in
      let frames : List (List Writing) = from_here most l (Some pdu.label) (choice.after_packet s None) in
      let it : Both None way pdus frames =
      subst (λ (t : InClasses). Both None way pdus (from_here most l (Some pdu.label) t)) (sym (after_is None))
      (packs l (Some pdu.label) (after_urgent two_classes id urgent_id o yields pdus None) (record { id = ids.id; urgent_id = ids.urgent_id; urgent_rest = tt; rest = ids.rest })) in
      front None way (pdu ∷ pdus) (record { packet = complete_packet pdu.protocol pdu.label pdu.bytes; reuses = is_again before pdu.label }) frames
      (by_way o may (λ p rest. AllObey urgent way rest (as_written frames)) it.0) it.1)
      (λ long few.
      let k : ℕ = first_size left pdu in
      let l : ℕ = left - (7 + length (label_bytes pdu.label) + k) in
      let r : Rest = first_rest urgent_id pdu k in
      let frames : List (List Writing) = from_here most l (Some pdu.label) (choice.after_packet s (Some r)) in
      let it : Both (Some urgent_id) way pdus frames =
      subst (λ (t : InClasses). Both (Some urgent_id) way pdus (from_here most l (Some pdu.label) t)) (sym (after_is (Some r)))
      (packs l (Some pdu.label) (after_urgent two_classes id urgent_id o yields pdus (Some r))
      (record { id = ids.id; urgent_id = next_urgent urgent_id; urgent_rest = ids.urgent_id; rest = ids.rest })) in
      front None way (pdu ∷ pdus) (record { packet = first_packet urgent_id pdu k; reuses = false }) frames
      (by_way o may (λ p rest. (nat_lt urgent_id 128 ≡ not (urgent p)) × AllObey urgent (cond (nat_lt urgent_id 128) (Some 8) way) rest (as_written frames)) (
        high urgent_id ids.urgent_id ∙ sym (ap not is),
        subst (λ (t : Bool). AllObey urgent (cond t (Some 8) way) pdus (as_written frames)) (sym (high urgent_id ids.urgent_id)) it.0,
      ))
      (subst (λ (t : Bool). GoOn (cond t None (Some urgent_id)) (as_written frames)) (sym (high urgent_id ids.urgent_id)) it.1))
      (λ few. next_frame most packs s ids)
    where
      by_way : (x : Option Rest) → (0 < yields) ⊎ (x ≡ None) → (go : Pdu → List Pdu → Type 0) → go pdu pdus → NextBegins urgent (way_of x yields) (pdu ∷ pdus) go
      by_way None may go it = it
      by_way (Some rest) (inl some) go it = (is, some, it)
      by_way (Some rest) (inr none) go it = absurd (cc)

  -- An ordinary PDU begins.

  ordinary_begins : (most : ℕ) → Packs most → (left : ℕ) (before : Option Label) (id urgent_id yields : ℕ) (pdu : Pdu) (pdus : List Pdu)
      → HasIds (state id urgent_id None None yields (pdu ∷ pdus)) → urgent pdu ≡ false
      → ((l : Option Rest) → choice.after_packet (state id urgent_id None None yields (pdu ∷ pdus)) l ≡ after_ordinary two_classes id urgent_id yields pdus l)
      → Claim (state id urgent_id None None yields (pdu ∷ pdus)) (packed_pdu choice sum room left before (state id urgent_id None None yields (pdu ∷ pdus)) id pdu (from_here most))
  ordinary_begins most packs left before id urgent_id yields pdu pdus ids is after_is =
      let s : InClasses = state id urgent_id None None yields (pdu ∷ pdus) in
      pdu_turn urgent two_classes room (Claim s) (from_here most) left before s id pdu
      (λ fits.
      let l : ℕ = left - (4 + length (again before pdu.label) + length pdu.bytes) in
      let frames : List (List Writing) = from_here most l (Some pdu.label) (choice.after_packet s None) in
      let it : Both None None pdus frames =
      subst (λ (t : InClasses). Both None None pdus (from_here most l (Some pdu.label) t)) (sym (after_is None))
      (packs l (Some pdu.label) (after_ordinary two_classes id urgent_id yields pdus None) (record { id = ids.id; urgent_id = ids.urgent_id; urgent_rest = tt; rest = tt })) in
      front None None (pdu ∷ pdus) (record { packet = complete_packet pdu.protocol pdu.label pdu.bytes; reuses = is_again before pdu.label }) frames it.0 it.1)
      (λ long few.
      let k : ℕ = first_size left pdu in
      let l : ℕ = left - (7 + length (label_bytes pdu.label) + k) in
      let r : Rest = first_rest id pdu k in
      let frames : List (List Writing) = from_here most l (Some pdu.label) (choice.after_packet s (Some r)) in
      let it : Both None (Some 8) pdus frames =
      subst (λ (t : InClasses). Both None (Some 8) pdus (from_here most l (Some pdu.label) t)) (sym (after_is (Some r)))
      (packs l (Some pdu.label) (after_ordinary two_classes id urgent_id yields pdus (Some r))
      (record { id = next_ordinary id; urgent_id = ids.urgent_id; urgent_rest = tt; rest = ids.id })) in
      front None None (pdu ∷ pdus) (record { packet = first_packet id pdu k; reuses = false }) frames (
        low id ids.id ∙ sym (ap not is),
        subst (λ (t : Bool). AllObey urgent (cond t (Some 8) None) pdus (as_written frames)) (sym (low id ids.id)) it.0,
      )
      (subst (λ (t : Bool). GoOn (cond t None (Some id)) (as_written frames)) (sym (low id ids.id)) it.1))
      (λ few. next_frame most packs s ids)

  -- One step.

  step : (most : ℕ) → Packs most → (left : ℕ) (before : Option Label) (id urgent_id : ℕ) (u o : Option Rest) (yields : ℕ) (pdus : List Pdu) → HasIds (state id urgent_id u o yields pdus)
      → Claim (state id urgent_id u o yields pdus) (from_here (suc most) left before (state id urgent_id u o yields pdus))
  step most packs left before id urgent_id (Some rest) o yields pdus ids = urgent_goes most packs left before id urgent_id rest o yields pdus ids
  step most packs left before id urgent_id None None yields [] ids = (tt, tt)
  step most packs left before id urgent_id None None yields (pdu ∷ pdus) ids = by_class (urgent pdu) refl
    where
      s : InClasses
      s = state id urgent_id None None yields (pdu ∷ pdus)

      by_class : (b : Bool) → urgent pdu ≡ b → Claim s (packed_pdu choice sum room left before s (cond (urgent pdu) urgent_id id) pdu (from_here most))
      by_class true is =
          subst (λ (n : ℕ). Claim s (packed_pdu choice sum room left before s n pdu (from_here most))) (sym (ap (λ (c : Bool). cond c urgent_id id) is))
          (urgent_begins most packs left before id urgent_id None yields pdu pdus true ids is (inr refl)
          (λ l. ap (λ (c : Bool). cond c (after_urgent two_classes id urgent_id None yields pdus l) (after_ordinary two_classes id urgent_id yields pdus l)) is))
      by_class false is =
          subst (λ (n : ℕ). Claim s (packed_pdu choice sum room left before s n pdu (from_here most))) (sym (ap (λ (c : Bool). cond c urgent_id id) is))
          (ordinary_begins most packs left before id urgent_id yields pdu pdus ids is
          (λ l. ap (λ (c : Bool). cond c (after_urgent two_classes id urgent_id None yields pdus l) (after_ordinary two_classes id urgent_id yields pdus l)) is))
  step most packs left before id urgent_id None (Some rest) yields [] ids =
      ordinary_goes most packs left before id urgent_id rest yields [] ids (λ some. refl) (λ l. refl)
  step most packs left before id urgent_id None (Some rest) zero (pdu ∷ pdus) ids =
      ordinary_goes most packs left before id urgent_id rest zero (pdu ∷ pdus) ids (λ some. absurd (omega (arith, some))) (λ l. refl)
  step most packs left before id urgent_id None (Some rest) (suc yields) (pdu ∷ pdus) ids = by_class (urgent pdu) refl
    where
      s : InClasses
      s = state id urgent_id None (Some rest) (suc yields) (pdu ∷ pdus)

      Turned : Turn → Type 0
      Turned turn = Claim s (packed_turn choice sum room left before s turn (from_here most))

      after_is : (b : Bool) → urgent pdu ≡ b → (l : Option Rest) → choice.after_packet s l
          ≡ cond b (after_urgent two_classes id urgent_id (Some rest) (suc yields) pdus l) (state id urgent_id None l (suc yields) (pdu ∷ pdus))
      after_is b is l =
          ap (λ (c : Bool). cond c (after_urgent two_classes id urgent_id (Some rest) (suc yields) pdus l) (state id urgent_id None l (suc yields) (pdu ∷ pdus))) is

      by_class : (b : Bool) → urgent pdu ≡ b → Turned (cond (urgent pdu) (begins urgent_id pdu) (goes_on rest))
      by_class true is =
          subst Turned (sym (ap (λ (c : Bool). cond c (begins urgent_id pdu) (goes_on rest)) is))
          (urgent_begins most packs left before id urgent_id (Some rest) (suc yields) pdu pdus true ids is (inl (omega arith)) (λ l. after_is true is l))
      by_class false is =
          subst Turned (sym (ap (λ (c : Bool). cond c (begins urgent_id pdu) (goes_on rest)) is))
          (ordinary_goes most packs left before id urgent_id rest (suc yields) (pdu ∷ pdus) ids (λ some. is) (λ l. after_is false is l))

  packs_all : (most : ℕ) → Packs most
  packs_all zero = λ left before s ids. (tt, tt)
  packs_all (suc most) = λ left before s ids.
      step most (packs_all most) left before s.id s.urgent_id s.urgent_rest s.rest s.yields s.pdus
      (record { id = ids.id; urgent_id = ids.urgent_id; urgent_rest = ids.urgent_rest; rest = ids.rest })

  pub packed_obeys : (pdus : List Pdu) → Both None None pdus (packed urgent two_classes sum room pdus)
  packed_obeys [] = (tt, tt)
  packed_obeys (pdu ∷ pdus) =
      packs_all (steps_of (pdu ∷ pdus)) room None (state 0 128 None None 0 (pdu ∷ pdus))
      (record { id = omega arith; urgent_id = omega arith; urgent_rest = tt; rest = tt })
