-- PDUs begin one after another, whatever their class.
use Rattle.std.proofs.Common.{◌≡◌, ◌⊎◌, inl, inr, ℕ, zero, suc, ◌+◌, ◌-◌, ◌*◌, ◌<◌, ◌≤◌, Bool, true, false, cond, Option, Some, None, List, [], ◌∷◌, ◌++◌, take, drop, length, flat_map, refl, ap, sym, ◌∙◌, subst, arith, length-drop, length-take, append_assoc}
use Rattle.wire_spec.specs.Crc.{crc32_remainder}
use Rattle.addr_rules.specs.declared.filter.Label.{Label}
use Rattle.gse_spec.specs.Packet.{GsePacket, complete_packet, middle_packet, end_packet}
use Rattle.gse_spec.specs.Written.{label_bytes, Writing}
use Rattle.gse_spec.specs.Reassembly.{Pdu}
use Rattle.gse_spec.specs.Packing.{first_size, middle_size, is_again, Rest, Turn, begins, goes_on, in_front, ClassIds, InClasses, after_urgent, after_ordinary, in_classes, packed_pdu, packed_rest, packed_turn, packed_within, steps_of, packed}
use Rattle.gse_law.specs.Packed.{AreShortPdus, work_of_pdus, work_of_rest}
use Rattle.gse_law.specs.Classes.{first_one, first_packets, Begins, BeginInOrder}
use Rattle.gse_law.proofs.Packing.{again, again_most, begun, begun_most, begun_room, begun_other, first_packet, first_rest, frame_filled, rest_turn, pdu_turn}

first_front : (w : Writing) (frames : List (List Writing)) → first_packets (in_front w frames) ≡ first_one w.packet ++ first_packets frames
first_front w [] = append_assoc (first_one w.packet) [] []
first_front w (frame ∷ frames) = append_assoc (first_one w.packet) (flat_map (λ (x : Writing). first_one x.packet) frame) (first_packets frames)

-- a front of so many bytes as it has
take_again : (k : ℕ) (xs : List ℕ) → take k xs ≡ take (length (take k xs)) xs
take_again zero xs = none xs
  where
    none : (ys : List ℕ) → take 0 ys ≡ take (length (take 0 ys)) ys
    none [] = refl
    none (y ∷ ys) = refl
take_again (suc k) [] = refl
take_again (suc k) (x ∷ xs) = ap (λ (t : List ℕ). x ∷ t) (take_again k xs)

module _ (urgent : Pdu → Bool) (ids : ClassIds) (room : ℕ) (enough : 290 ≤ room) where
  abbrev sum : List ℕ → ℕ
  sum bytes = crc32_remainder 0xFFFF_FFFF bytes

  abbrev state : ℕ → ℕ → Option Rest → Option Rest → ℕ → List Pdu → InClasses
  state id urgent_id urgent_rest rest yields pdus =
      record { id = id; urgent_id = urgent_id; urgent_rest = urgent_rest; rest = rest; yields = yields; pdus = pdus }

  abbrev from_here : ℕ → ℕ → Option Label → InClasses → List (List Writing)
  from_here most left before s = packed_within (in_classes urgent ids) sum room most left before s

  abbrev InOrder : List Pdu → List (List Writing) → Type 0
  InOrder pdus frames = BeginInOrder pdus (first_packets frames)

  abbrev need : ℕ → InClasses → ℕ
  need left s = 2 * (work_of_rest s.urgent_rest + work_of_rest s.rest + work_of_pdus s.pdus) + begun room left + 1

  -- in so many steps
  abbrev Packs : ℕ → Type 0
  Packs most = (left : ℕ) (before : Option Label) (s : InClasses) → AreShortPdus s.pdus → need left s ≤ most → InOrder s.pdus (from_here most left before s)

  quiet : (w : Writing) (frames : List (List Writing)) (pdus : List Pdu) → first_one w.packet ≡ [] → InOrder pdus frames → InOrder pdus (in_front w frames)
  quiet w frames pdus none claim =
      subst (BeginInOrder pdus) (sym (first_front w frames ∙ ap (λ (t : List GsePacket). t ++ first_packets frames) none)) claim

  beginning : (w : Writing) (frames : List (List Writing)) (pdu : Pdu) (pdus : List Pdu) → first_one w.packet ≡ w.packet ∷ [] → Begins pdu w.packet → InOrder pdus frames
      → InOrder (pdu ∷ pdus) (in_front w frames)
  beginning w frames pdu pdus one begun_is claim =
      subst (BeginInOrder (pdu ∷ pdus)) (sym (first_front w frames ∙ ap (λ (t : List GsePacket). t ++ first_packets frames) one)) (begun_is, claim)

  -- a rest goes on: the same PDUs are to begin
  rest_goes : (most : ℕ) → Packs most → (left : ℕ) (before : Option Label) (s : InClasses) (rest : Rest) (others : ℕ) → AreShortPdus s.pdus
      → work_of_rest s.urgent_rest + work_of_rest s.rest ≡ 1 + length rest.bytes + others → need left s ≤ suc most
      → ((in_classes urgent ids).after_packet s None).pdus ≡ s.pdus
      → work_of_rest ((in_classes urgent ids).after_packet s None).urgent_rest + work_of_rest ((in_classes urgent ids).after_packet s None).rest ≡ others
      → ((r : Rest) → ((in_classes urgent ids).after_packet s (Some r)).pdus ≡ s.pdus)
      → ((r : Rest) → work_of_rest ((in_classes urgent ids).after_packet s (Some r)).urgent_rest + work_of_rest ((in_classes urgent ids).after_packet s (Some r)).rest ≡ 1 + length r.bytes + others)
      → InOrder s.pdus (packed_rest (in_classes urgent ids) room left before s rest (from_here most))
  rest_goes most packs left before s rest others all work_is bound none_same none_work some_same some_work =
      rest_turn urgent ids room (InOrder s.pdus) (from_here most) left before s rest
      (λ b. quiet (record { packet = end_packet rest.id rest.bytes rest.crc; reuses = false }) (from_here most (left - (7 + length rest.bytes)) before ((in_classes urgent ids).after_packet s None)) s.pdus refl
      (claimed (left - (7 + length rest.bytes)) ((in_classes urgent ids).after_packet s None) none_same
      (omega (arith, bound, work_is, none_work, ap work_of_pdus none_same, begun_most room (left - (7 + length rest.bytes))))))
      (λ long c d.
      let k : ℕ = middle_size left (length rest.bytes) in
      let r : Rest = record { id = rest.id; crc = rest.crc; bytes = drop k rest.bytes } in
      quiet (record { packet = middle_packet rest.id (take k rest.bytes); reuses = false }) (from_here most (left - (3 + k)) before ((in_classes urgent ids).after_packet s (Some r))) s.pdus refl
      (claimed (left - (3 + k)) ((in_classes urgent ids).after_packet s (Some r)) (some_same r)
      (omega (arith, bound, work_is, some_work r, c, d, length-drop k rest.bytes, ap work_of_pdus (some_same r), begun_most room (left - (3 + k))))))
      (λ long short.
      let full : left ≤ 7 = frame_filled left (length rest.bytes) long short in
      packs room None ((in_classes urgent ids).after_frame s) all (omega (arith, bound, begun_room room, begun_other room left (λ is. omega (arith, is, full, enough)))))
    where
      claimed : (l : ℕ) (t : InClasses) → t.pdus ≡ s.pdus → need l t ≤ most → InOrder s.pdus (from_here most l before t)
      claimed l t same few = subst (λ (pdus : List Pdu). InOrder pdus (from_here most l before t)) same (packs l before t (subst AreShortPdus (sym same) all) few)

  -- the next PDU begins
  pdu_goes : (most : ℕ) → Packs most → (left : ℕ) (before : Option Label) (s : InClasses) (id : ℕ) (pdu : Pdu) (pdus : List Pdu) (others : ℕ) → s.pdus ≡ pdu ∷ pdus → AreShortPdus (pdu ∷ pdus)
      → work_of_rest s.urgent_rest + work_of_rest s.rest ≡ others → need left s ≤ suc most
      → ((in_classes urgent ids).after_packet s None).pdus ≡ pdus
      → work_of_rest ((in_classes urgent ids).after_packet s None).urgent_rest + work_of_rest ((in_classes urgent ids).after_packet s None).rest ≡ others
      → ((r : Rest) → ((in_classes urgent ids).after_packet s (Some r)).pdus ≡ pdus)
      → ((r : Rest) → work_of_rest ((in_classes urgent ids).after_packet s (Some r)).urgent_rest + work_of_rest ((in_classes urgent ids).after_packet s (Some r)).rest ≡ 1 + length r.bytes + others)
      → InOrder (pdu ∷ pdus) (packed_pdu (in_classes urgent ids) sum room left before s id pdu (from_here most))
  pdu_goes most packs left before s id pdu pdus others pdus_are all work_is bound none_same none_work some_same some_work =
      pdu_turn urgent ids room (InOrder (pdu ∷ pdus)) (from_here most) left before s id pdu
      (λ b.
      let l : ℕ = left - (4 + length (again before pdu.label) + length pdu.bytes) in
      beginning (record { packet = complete_packet pdu.protocol pdu.label pdu.bytes; reuses = is_again before pdu.label }) (from_here most l (Some pdu.label) ((in_classes urgent ids).after_packet s None)) pdu pdus refl
      (refl, refl, refl)
      (claimed l ((in_classes urgent ids).after_packet s None) none_same
      (omega (arith, bound, work_is, none_work, ap work_of_pdus none_same, ap work_of_pdus pdus_are, begun_most room l))))
      (λ long b.
      let k : ℕ = first_size left pdu in
      let l : ℕ = left - (7 + length (label_bytes pdu.label) + k) in
      let r : Rest = first_rest id pdu k in
      beginning (record { packet = first_packet id pdu k; reuses = false }) (from_here most l (Some pdu.label) ((in_classes urgent ids).after_packet s (Some r))) pdu pdus refl
      (refl, refl, refl, omega (arith, some long b, length-take k pdu.bytes, all.0.0, b), take_again k pdu.bytes)
      (claimed l ((in_classes urgent ids).after_packet s (Some r)) (some_same r)
      (omega (arith, bound, work_is, some_work r, length-drop k pdu.bytes, ap work_of_pdus (some_same r), ap work_of_pdus pdus_are, begun_most room l))))
      (λ few. subst (λ (ps : List Pdu). InOrder ps (from_here most room None ((in_classes urgent ids).after_frame s))) pdus_are
      (packs room None ((in_classes urgent ids).after_frame s) (subst AreShortPdus (sym pdus_are) all)
      (omega (arith, bound, begun_room room, begun_other room left (λ is. omega (arith, is, few, enough, all.0.0))))))
    where
      -- a PDU of which a packet has no room for all
      some : (4095 < 2 + length (again before pdu.label) + length pdu.bytes) ⊎ (left < 4 + length (again before pdu.label) + length pdu.bytes)
          → 8 + length (label_bytes pdu.label) ≤ left → 0 < length pdu.bytes
      some (inl many) b = omega (arith, many, again_most before pdu.label, all.0.0)
      some (inr few) b = omega (arith, few, b, again_most before pdu.label)

      claimed : (l : ℕ) (t : InClasses) → t.pdus ≡ pdus → need l t ≤ most → InOrder pdus (from_here most l (Some pdu.label) t)
      claimed l t same few = subst (λ (ps : List Pdu). InOrder ps (from_here most l (Some pdu.label) t)) same (packs l (Some pdu.label) t (subst AreShortPdus (sym same) all.1) few)

  step : (most : ℕ) → Packs most → (left : ℕ) (before : Option Label) (id urgent_id : ℕ) (u o : Option Rest) (yields : ℕ) (pdus : List Pdu) → AreShortPdus pdus
      → need left (state id urgent_id u o yields pdus) ≤ suc most → InOrder pdus (from_here (suc most) left before (state id urgent_id u o yields pdus))
  step most packs left before id urgent_id (Some rest) o yields pdus all bound =
      rest_goes most packs left before (state id urgent_id (Some rest) o yields pdus) rest (work_of_rest o) all (omega arith) bound refl (omega arith) (λ r. refl) (λ r. omega arith)
  step most packs left before id urgent_id None None yields [] all bound = tt
  step most packs left before id urgent_id None None yields (pdu ∷ pdus) all bound =
      pdu_goes most packs left before s (cond (urgent pdu) urgent_id id) pdu pdus 0 refl all (omega arith) bound
      (either (λ (t : InClasses). t.pdus ≡ pdus) (urgent pdu) (after_urgent ids id urgent_id None yields pdus None) (after_ordinary ids id urgent_id yields pdus None) refl refl)
      (either (λ (t : InClasses). work_of_rest t.urgent_rest + work_of_rest t.rest ≡ 0) (urgent pdu) (after_urgent ids id urgent_id None yields pdus None) (after_ordinary ids id urgent_id yields pdus None) (omega arith) (omega arith))
      (λ r. either (λ (t : InClasses). t.pdus ≡ pdus) (urgent pdu) (after_urgent ids id urgent_id None yields pdus (Some r)) (after_ordinary ids id urgent_id yields pdus (Some r)) refl refl)
      (λ r. either (λ (t : InClasses). work_of_rest t.urgent_rest + work_of_rest t.rest ≡ 1 + length r.bytes + 0) (urgent pdu) (after_urgent ids id urgent_id None yields pdus (Some r)) (after_ordinary ids id urgent_id yields pdus (Some r)) (omega arith) (omega arith))
    where
      s : InClasses
      s = state id urgent_id None None yields (pdu ∷ pdus)

      either : (P : InClasses → Type 0) (b : Bool) (x y : InClasses) → P x → P y → P (cond b x y)
      either P true x y x_is y_is = x_is
      either P false x y x_is y_is = y_is
  step most packs left before id urgent_id None (Some rest) yields [] all bound =
      rest_goes most packs left before (state id urgent_id None (Some rest) yields []) rest 0 all (omega arith) bound refl (omega arith) (λ r. refl) (λ r. omega arith)
  step most packs left before id urgent_id None (Some rest) zero (pdu ∷ pdus) all bound =
      rest_goes most packs left before (state id urgent_id None (Some rest) zero (pdu ∷ pdus)) rest 0 all (omega arith) bound refl (omega arith) (λ r. refl) (λ r. omega arith)
  step most packs left before id urgent_id None (Some rest) (suc yields) (pdu ∷ pdus) all bound = by_class (urgent pdu) refl
    where
      s : InClasses
      s = state id urgent_id None (Some rest) (suc yields) (pdu ∷ pdus)

      TurnInOrder : Turn → Type 0
      TurnInOrder turn = InOrder (pdu ∷ pdus) (packed_turn (in_classes urgent ids) sum room left before s turn (from_here most))

      after_is : (b : Bool) → urgent pdu ≡ b → (l : Option Rest) → (in_classes urgent ids).after_packet s l
          ≡ cond b (after_urgent ids id urgent_id (Some rest) (suc yields) pdus l) (state id urgent_id None l (suc yields) (pdu ∷ pdus))
      after_is b is l = ap (λ (c : Bool). cond c (after_urgent ids id urgent_id (Some rest) (suc yields) pdus l) (state id urgent_id None l (suc yields) (pdu ∷ pdus))) is

      by_class : (b : Bool) → urgent pdu ≡ b → TurnInOrder (cond (urgent pdu) (begins urgent_id pdu) (goes_on rest))
      by_class true is =
          subst TurnInOrder (sym (ap (λ (c : Bool). cond c (begins urgent_id pdu) (goes_on rest)) is))
          (pdu_goes most packs left before s urgent_id pdu pdus (1 + length rest.bytes) refl all (omega arith) bound
          (subst (λ (t : InClasses). t.pdus ≡ pdus) (sym (after_is true is None)) refl)
          (subst (λ (t : InClasses). work_of_rest t.urgent_rest + work_of_rest t.rest ≡ 1 + length rest.bytes) (sym (after_is true is None)) (omega arith))
          (λ r. subst (λ (t : InClasses). t.pdus ≡ pdus) (sym (after_is true is (Some r))) refl)
          (λ r. subst (λ (t : InClasses). work_of_rest t.urgent_rest + work_of_rest t.rest ≡ 1 + length r.bytes + (1 + length rest.bytes)) (sym (after_is true is (Some r))) (omega arith)))
      by_class false is =
          subst TurnInOrder (sym (ap (λ (c : Bool). cond c (begins urgent_id pdu) (goes_on rest)) is))
          (rest_goes most packs left before s rest 0 all (omega arith) bound
          (subst (λ (t : InClasses). t.pdus ≡ pdu ∷ pdus) (sym (after_is false is None)) refl)
          (subst (λ (t : InClasses). work_of_rest t.urgent_rest + work_of_rest t.rest ≡ 0) (sym (after_is false is None)) (omega arith))
          (λ r. subst (λ (t : InClasses). t.pdus ≡ pdu ∷ pdus) (sym (after_is false is (Some r))) refl)
          (λ r. subst (λ (t : InClasses). work_of_rest t.urgent_rest + work_of_rest t.rest ≡ 1 + length r.bytes + 0) (sym (after_is false is (Some r))) (omega arith)))

  packs_all : (most : ℕ) → Packs most
  packs_all zero = λ left before s all bound. absurd (omega (arith, bound))
  packs_all (suc most) = λ left before s all bound. step most (packs_all most) left before s.id s.urgent_id s.urgent_rest s.rest s.yields s.pdus all bound

  steps_are : (pdus : List Pdu) → 2 * work_of_pdus pdus + 1 ≤ steps_of pdus
  steps_are [] = omega arith
  steps_are (pdu ∷ pdus) = omega (arith, steps_are pdus)

  pub begin_in_order : (pdus : List Pdu) → AreShortPdus pdus → BeginInOrder pdus (first_packets (packed urgent ids sum room pdus))
  begin_in_order [] all = tt
  begin_in_order (pdu ∷ pdus) all =
      packs_all (steps_of (pdu ∷ pdus)) room None (state ids.ordinary.first ids.urgent.first None None 0 (pdu ∷ pdus)) all (omega (arith, steps_are (pdu ∷ pdus), begun_room room))
