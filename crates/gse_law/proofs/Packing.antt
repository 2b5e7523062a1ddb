-- Packed PDUs are those that a receiver of all frames puts together.
use Rattle.std.proofs.Common.{◌≡◌, ◌⊎◌, inl, inr, ℕ, zero, suc, ◌+◌, ◌-◌, ◌*◌, ◌<◌, ◌≤◌, Bool, true, false, cond, ◌&&◌, Option, Some, None, List, [], ◌∷◌, ◌++◌, take, drop, length, map, flat_map, refl, ap, ap₂, sym, ◌∙◌, subst, arith, length-append, length-drop, append_assoc, append-nil}
use Rattle.std.specs.Prelude.{◌==◌, nat_le, not, filter, min}
use Rattle.std.specs.Option.{option_map}
use Rattle.std.proofs.lemmas.List.{take-append-drop, take_at}
use Rattle.std.specs.Int.{w16, to_be_bytes}
use Rattle.std.proofs.lemmas.Bool.{cases_lt, cases_Bool}
use Rattle.wire_spec.specs.Crc.{crc32_remainder}
use Rattle.addr_rules.specs.declared.filter.Label.{Label}
use Rattle.gse_spec.specs.Packet.{GsePacket, complete_packet, start_packet, middle_packet, end_packet}
use Rattle.gse_spec.specs.Written.{label_bytes, Writing}
use Rattle.gse_spec.specs.Reassembly.{PlacedPacket, Fragments, with_bytes, opened_by, opened, opened_places, fits, is_late, has_right_total, has_crc, covered, Outcome, reassembled, outcome_after, Pdu, pdu_of, pdu_of_outcome, pdus_after}
use Rattle.gse_spec.specs.Packing.{first_size, middle_size, is_again, Rest, Turn, begins, goes_on, in_front, covered_by, ClassIds, id_after, InClasses, after_urgent, after_ordinary, in_classes, packed_pdu, packed_rest, packed_turn, packed_within, steps_of, packed}
use Rattle.gse_law.specs.Packed.{last_one, last_packets, IsShortPdu, AreShortPdus, work_of_pdus, work_of_rest}
use Rattle.gse_law.proofs.Isolation.{bare_frames}
use Rattle.gse_law.proofs.Openers.{equals_itself, equal_numbers}
use Rattle.gse_law.proofs.Reassembled.{outcome_if, lt_false, le_true, eq_true}

le_false : (a b : ℕ) → b < a → nat_le a b ≡ false
le_false a b less = grind (arith, less)

-- one of two tests decides
pub le_cases : (a b : ℕ) → ((nat_le a b ≡ true) × (a ≤ b)) ⊎ ((nat_le a b ≡ false) × (b < a))
le_cases a b = by_order (cases_lt b a)
  where
    by_order : (b < a) ⊎ (a ≤ b) → ((nat_le a b ≡ true) × (a ≤ b)) ⊎ ((nat_le a b ≡ false) × (b < a))
    by_order (inl less) = inr (le_false a b less, less)
    by_order (inr le) = inl (le_true a b le, le)

pub pick : {X : Type 0} (P : X → Type 0) (a b : ℕ) (x y : X) → (a ≤ b → P x) → (b < a → P y) → P (cond (nat_le a b) x y)
pick P a b x y yes_is no_is = by_case (le_cases a b)
  where
    by_case : ((nat_le a b ≡ true) × (a ≤ b)) ⊎ ((nat_le a b ≡ false) × (b < a)) → P (cond (nat_le a b) x y)
    by_case (inl t) = subst (λ (c : Bool). P (cond c x y)) (sym t.0) (yes_is t.1)
    by_case (inr t) = subst (λ (c : Bool). P (cond c x y)) (sym t.0) (no_is t.1)

pub pick_both : {X : Type 0} (P : X → Type 0) (a b c d : ℕ) (x y : X) → (a ≤ b → c ≤ d → P x) → ((b < a) ⊎ (d < c) → P y) → P (cond (nat_le a b && nat_le c d) x y)
pick_both P a b c d x y yes_is no_is = by_case (le_cases a b) (le_cases c d)
  where
    by_case : ((nat_le a b ≡ true) × (a ≤ b)) ⊎ ((nat_le a b ≡ false) × (b < a)) → ((nat_le c d ≡ true) × (c ≤ d)) ⊎ ((nat_le c d ≡ false) × (d < c))
        → P (cond (nat_le a b && nat_le c d) x y)
    by_case (inl s) (inl t) = subst (λ (b : Bool). P (cond b x y)) (sym (ap₂ (λ (u v : Bool). u && v) s.0 t.0)) (yes_is s.1 t.1)
    by_case (inl s) (inr t) = subst (λ (b : Bool). P (cond b x y)) (sym (ap₂ (λ (u v : Bool). u && v) s.0 t.0)) (no_is (inr t.1))
    by_case (inr s) t = subst (λ (b : Bool). P (cond b x y)) (sym (ap (λ (u : Bool). u && nat_le c d) s.0)) (no_is (inl s.1))

-- a packet in front of the others of its frame
front_placed : (h i : ℕ) (w : Writing) (frames : List (List Writing))
    → bare_frames h i (in_front w frames) ≡ record { place = 0; frame_number = h; index = i; packet = w.packet } ∷ bare_frames h (i + 1) frames
front_placed h i w [] = refl
front_placed h i w (frame ∷ frames) = refl

-- the fragments of a PDU so far, and what is left of it
record Holds (rest : Rest) (bs : List PlacedPacket) (f : Fragments) (pdu : Pdu) : Type 0 where
  open_is : opened rest.id bs ≡ Some f
  total : f.total ≡ 2 + length (label_bytes pdu.label) + length pdu.bytes
  protocol : f.protocol ≡ pdu.protocol
  label : f.label ≡ pdu.label
  written : f.written ≡ length (label_bytes pdu.label)
  bytes : f.bytes ++ rest.bytes ≡ pdu.bytes
  crc : rest.crc ≡ crc32_remainder 0xFFFF_FFFF (covered_by pdu)

abbrev whole_of : ℕ → Pdu → Fragments
whole_of frame_number pdu = record {
  frame_number = frame_number;
  total = 2 + length (label_bytes pdu.label) + length pdu.bytes;
  protocol = pdu.protocol;
  label = pdu.label;
  written = length (label_bytes pdu.label);
  bytes = pdu.bytes;
}

same_fragments : (frame_number total protocol written total2 protocol2 written2 : ℕ) (label label2 : Label) (bytes bytes2 : List ℕ) → total ≡ total2 → protocol ≡ protocol2 → label ≡ label2 → written ≡ written2 → bytes ≡ bytes2
    → ◌≡◌ {A = Fragments} (record { frame_number = frame_number; total = total; protocol = protocol; label = label; written = written; bytes = bytes })
    (record { frame_number = frame_number; total = total2; protocol = protocol2; label = label2; written = written2; bytes = bytes2 })
same_fragments frame_number total protocol written total2 protocol2 written2 label label2 bytes bytes2 t p l w b =
    ap (λ (x : ℕ). record { frame_number = frame_number; total = x; protocol = protocol; label = label; written = written; bytes = bytes }) t
    ∙ ap (λ (x : ℕ). record { frame_number = frame_number; total = total2; protocol = x; label = label; written = written; bytes = bytes }) p
    ∙ ap (λ (x : Label). record { frame_number = frame_number; total = total2; protocol = protocol2; label = x; written = written; bytes = bytes }) l
    ∙ ap (λ (x : ℕ). record { frame_number = frame_number; total = total2; protocol = protocol2; label = label2; written = x; bytes = bytes }) w
    ∙ ap (λ (x : List ℕ). record { frame_number = frame_number; total = total2; protocol = protocol2; label = label2; written = written2; bytes = x }) b

-- the last fragment ends the PDU
ends : (rest : Rest) (bs : List PlacedPacket) (f : Fragments) (pdu : Pdu) (h : ℕ) → Holds rest bs f pdu → h ≤ f.frame_number + 256
    → outcome_after (opened rest.id bs) h rest.bytes rest.crc ≡ reassembled (whole_of f.frame_number pdu)
ends rest bs f pdu h holds near =
    ap (λ (o : Option Fragments). outcome_after o h rest.bytes rest.crc) holds.open_is
    ∙ ap (λ (b : Bool). outcome_if b (is_late h f) (has_right_total (with_bytes rest.bytes f)) (has_crc rest.crc (with_bytes rest.bytes f)) (with_bytes rest.bytes f)) fits_now
    ∙ ap (λ (b : Bool). outcome_if true b (has_right_total (with_bytes rest.bytes f)) (has_crc rest.crc (with_bytes rest.bytes f)) (with_bytes rest.bytes f)) (lt_false (f.frame_number + 256) h near)
    ∙ ap (λ (t : Fragments). outcome_if true false (has_right_total t) (has_crc rest.crc t) t) whole_is
    ∙ ap (λ (b : Bool). outcome_if true false b (has_crc rest.crc (whole_of f.frame_number pdu)) (whole_of f.frame_number pdu))
    (eq_true (2 + length (label_bytes pdu.label) + length pdu.bytes) (2 + length (label_bytes pdu.label) + length pdu.bytes) refl)
    ∙ ap (λ (b : Bool). outcome_if true false true b (whole_of f.frame_number pdu)) (eq_true (crc32_remainder 0xFFFF_FFFF (covered (whole_of f.frame_number pdu))) rest.crc crc_is)
  where
    whole_is : with_bytes rest.bytes f ≡ whole_of f.frame_number pdu
    whole_is =
        same_fragments f.frame_number f.total f.protocol f.written (2 + length (label_bytes pdu.label) + length pdu.bytes) pdu.protocol (length (label_bytes pdu.label)) f.label pdu.label (f.bytes ++ rest.bytes) pdu.bytes
        holds.total holds.protocol holds.label holds.written holds.bytes

    fits_now : fits f ≡ true
    fits_now = le_true (2 + f.written + length f.bytes) f.total (omega (arith, holds.total, holds.written, ap length holds.bytes, length-append f.bytes rest.bytes))

    covered_is : covered (whole_of f.frame_number pdu) ≡ covered_by pdu
    covered_is =
        ap (λ (t : List ℕ). to_be_bytes w16 (2 + length (label_bytes pdu.label) + length pdu.bytes) ++ to_be_bytes w16 pdu.protocol ++ t ++ pdu.bytes)
        (ap (take (length (label_bytes pdu.label))) (sym (append-nil (label_bytes pdu.label))) ∙ take_at (label_bytes pdu.label) [] (length (label_bytes pdu.label)) refl)

    crc_is : crc32_remainder 0xFFFF_FFFF (covered (whole_of f.frame_number pdu)) ≡ rest.crc
    crc_is = ap (crc32_remainder 0xFFFF_FFFF) covered_is ∙ sym holds.crc

-- the label bytes of a complete packet
abbrev pub again : Option Label → Label → List ℕ
again before label = cond (is_again before label) [] (label_bytes label)

pub again_most : (before : Option Label) (label : Label) → length (again before label) ≤ length (label_bytes label)
again_most before label = by_test (is_again before label)
  where
    by_test : (b : Bool) → length (cond b [] (label_bytes label)) ≤ length (label_bytes label)
    by_test true = omega arith
    by_test false = omega arith

-- one step more in a frame that has begun
abbrev pub begun : ℕ → ℕ → ℕ
begun room left = cond (left == room) 0 1

pub begun_most : (room left : ℕ) → begun room left ≤ 1
begun_most room left = by_test (left == room)
  where
    by_test : (b : Bool) → cond b 0 1 ≤ 1
    by_test true = omega arith
    by_test false = omega arith

pub begun_room : (room : ℕ) → begun room room ≡ 0
begun_room room = ap (λ (b : Bool). cond b 0 1) (equals_itself room)

pub begun_other : (room left : ℕ) → ((left ≡ room) → ⊥) → begun room left ≡ 1
begun_other room left other = by_test (cases_Bool (left == room))
  where
    by_test : ((left == room) ≡ true) ⊎ ((left == room) ≡ false) → begun room left ≡ 1
    by_test (inl same) = absurd (other (equal_numbers left room same))
    by_test (inr differs) = ap (λ (b : Bool). cond b 0 1) differs

-- a packet of the frame with this number
abbrev placed_at : ℕ → ℕ → GsePacket → PlacedPacket
placed_at h i p = record { place = 0; frame_number = h; index = i; packet = p }

-- the fragments of a PDU after a packet that is none of them
holds_after : (rest : Rest) (bs : List PlacedPacket) (f : Fragments) (pdu : Pdu) (p : PlacedPacket) → opened rest.id (p ∷ bs) ≡ opened rest.id bs
    → Holds rest bs f pdu → Holds rest (p ∷ bs) f pdu
holds_after rest bs f pdu p same holds = record {
  open_is = same ∙ holds.open_is;
  total = holds.total;
  protocol = holds.protocol;
  label = holds.label;
  written = holds.written;
  bytes = holds.bytes;
  crc = holds.crc;
}

-- after a middle
middle_holds : (rest : Rest) (bs : List PlacedPacket) (f : Fragments) (pdu : Pdu) (h i k : ℕ) → Holds rest bs f pdu
    → Holds (record { id = rest.id; crc = rest.crc; bytes = drop k rest.bytes }) (placed_at h i (middle_packet rest.id (take k rest.bytes)) ∷ bs)
    (with_bytes (take k rest.bytes) f) pdu
middle_holds rest bs f pdu h i k holds = record {
  open_is =
      ap (opened_by rest.id h (middle_packet rest.id (take k rest.bytes))) holds.open_is
      ∙ ap (λ (b : Bool). cond b (Some (with_bytes (take k rest.bytes) f)) (Some f)) (equals_itself rest.id);
  total = holds.total;
  protocol = holds.protocol;
  label = holds.label;
  written = holds.written;
  bytes = append_assoc f.bytes (take k rest.bytes) (drop k rest.bytes) ∙ ap (λ (t : List ℕ). f.bytes ++ t) (take-append-drop k rest.bytes) ∙ holds.bytes;
  crc = holds.crc;
}

abbrev pub first_packet : ℕ → Pdu → ℕ → GsePacket
first_packet id pdu k =
    start_packet id (2 + length (label_bytes pdu.label) + length pdu.bytes) pdu.protocol pdu.label (length (label_bytes pdu.label)) (take k pdu.bytes)

abbrev pub first_rest : ℕ → Pdu → ℕ → Rest
first_rest id pdu k = record { id = id; crc = crc32_remainder 0xFFFF_FFFF (covered_by pdu); bytes = drop k pdu.bytes }

abbrev first_fragments : ℕ → Pdu → ℕ → Fragments
first_fragments h pdu k = record {
  frame_number = h;
  total = 2 + length (label_bytes pdu.label) + length pdu.bytes;
  protocol = pdu.protocol;
  label = pdu.label;
  written = length (label_bytes pdu.label);
  bytes = take k pdu.bytes;
}

-- after a start
start_holds : (bs : List PlacedPacket) (pdu : Pdu) (id h i k : ℕ) → Holds (first_rest id pdu k) (placed_at h i (first_packet id pdu k) ∷ bs) (first_fragments h pdu k) pdu
start_holds bs pdu id h i k = record {
  open_is = ap (λ (b : Bool). cond b (Some (first_fragments h pdu k)) (opened id bs)) (equals_itself id);
  total = refl;
  protocol = refl;
  label = refl;
  written = refl;
  bytes = take-append-drop k pdu.bytes;
  crc = refl;
}

-- an urgent PDU that has begun, or an ordinary one: what is left of it, and itself
record Open : Type 0 where
  rest : Rest
  pdu : Pdu

abbrev rest_in : Option Open → Option Rest
rest_in None = None
rest_in (Some x) = Some x.rest

abbrev pdu_in : Option Open → List Pdu
pdu_in None = []
pdu_in (Some x) = x.pdu ∷ []

-- the bytes that the rest of an urgent one takes in a frame, with the last packet's others
abbrev size_in : Option Open → ℕ
size_in None = 0
size_in (Some x) = 7 + length x.rest.bytes

-- the bytes of a full frame that count for what a PDU takes
abbrev filled : ℕ → ℕ → ℕ
filled room left = min 276 (room - left - 7)

-- a middle takes so many that its frame counts as full
middle_fills : (room left size : ℕ) → 290 ≤ room → left ≤ room → (4095 < 5 + size) ⊎ (left < 7 + size) → 4 ≤ left → 2 ≤ size
    → size - middle_size left size + filled room (left - (3 + middle_size left size)) ≤ size + filled room left
middle_fills room left size enough small (inl long) c d = omega (arith, enough, small, long, c, d)
middle_fills room left size enough small (inr long) c d = omega (arith, enough, small, long, c, d)

-- a frame in which a rest has no room is full
pub frame_filled : (left size : ℕ) → (4095 < 5 + size) ⊎ (left < 7 + size) → (left < 4) ⊎ (size < 2) → left ≤ 7
frame_filled left size (inl long) (inl few) = omega (arith, few)
frame_filled left size (inl long) (inr few) = absurd (omega (arith, long, few))
frame_filled left size (inr long) (inl few) = omega (arith, few)
frame_filled left size (inr long) (inr few) = omega (arith, long, few)

module _ (urgent : Pdu → Bool) where
  abbrev pub ordinary : Pdu → Bool
  ordinary pdu = not (urgent pdu)

  abbrev pub received_of : List (List Writing) → List PlacedPacket → ℕ → ℕ → List Pdu
  received_of frames bs h i = map pdu_of (pdus_after bs (bare_frames h i frames))

  -- what a receiver puts together of these frames: the urgent PDUs and the ordinary ones, and as many as packets end one
  abbrev pub Given : List (List Writing) → List PlacedPacket → ℕ → ℕ → List Pdu → List Pdu → Type 0
  Given frames bs h i us os =
      (filter urgent (received_of frames bs h i) ≡ us) × (filter ordinary (received_of frames bs h i) ≡ os) × (length (last_packets frames) ≡ length (received_of frames bs h i))

  last_front : (w : Writing) (frames : List (List Writing)) → last_packets (in_front w frames) ≡ last_one w.packet ++ last_packets frames
  last_front w [] = append_assoc (last_one w.packet) [] []
  last_front w (frame ∷ frames) = append_assoc (last_one w.packet) (flat_map (λ (x : Writing). last_one x.packet) frame) (last_packets frames)

  -- a packet in front that ends no PDU
  quiet_front : (w : Writing) (frames : List (List Writing)) (bs : List PlacedPacket) (h i : ℕ) (us os : List Pdu) → last_one w.packet ≡ []
      → ((ps : List PlacedPacket) → pdus_after bs (placed_at h i w.packet ∷ ps) ≡ pdus_after (placed_at h i w.packet ∷ bs) ps)
      → Given frames (placed_at h i w.packet ∷ bs) h (i + 1) us os → Given (in_front w frames) bs h i us os
  quiet_front w frames bs h i us os none same given = (
    ap (filter urgent) received ∙ given.0,
    ap (filter ordinary) received ∙ given.1,
    ap length (last_front w frames ∙ ap (λ (t : List GsePacket). t ++ last_packets frames) none) ∙ given.2 ∙ ap length (sym received),
  )
    where
      received : received_of (in_front w frames) bs h i ≡ received_of frames (placed_at h i w.packet ∷ bs) h (i + 1)
      received =
          ap (λ (t : List PlacedPacket). map pdu_of (pdus_after bs t)) (front_placed h i w frames)
          ∙ ap (map pdu_of) (same (bare_frames h (i + 1) frames))

  -- a packet in front that ends one of a class
  ended_front : (w : Writing) (frames : List (List Writing)) (bs : List PlacedPacket) (h i : ℕ) (pdu : Pdu) (c : Bool) (us os : List Pdu) → urgent pdu ≡ c
      → last_one w.packet ≡ w.packet ∷ []
      → ((ps : List PlacedPacket) → map pdu_of (pdus_after bs (placed_at h i w.packet ∷ ps)) ≡ pdu ∷ map pdu_of (pdus_after (placed_at h i w.packet ∷ bs) ps))
      → Given frames (placed_at h i w.packet ∷ bs) h (i + 1) us os → Given (in_front w frames) bs h i (cond c (pdu ∷ us) us) (cond c os (pdu ∷ os))
  ended_front w frames bs h i pdu c us os class_is one ends_it given = (
    ap (filter urgent) received
        ∙ ap (λ (b : Bool). cond b (pdu ∷ filter urgent later) (filter urgent later)) class_is
        ∙ ap (λ (t : List Pdu). cond c (pdu ∷ t) t) given.0,
    ap (filter ordinary) received
        ∙ ap (λ (b : Bool). cond (not b) (pdu ∷ filter ordinary later) (filter ordinary later)) class_is
        ∙ by_class c
        ∙ ap (λ (t : List Pdu). cond c t (pdu ∷ t)) given.1,
    ap length (last_front w frames ∙ ap (λ (t : List GsePacket). t ++ last_packets frames) one) ∙ ap suc given.2 ∙ ap length (sym received),
  )
    where
      later : List Pdu
      later = received_of frames (placed_at h i w.packet ∷ bs) h (i + 1)

      received : received_of (in_front w frames) bs h i ≡ pdu ∷ later
      received = ap (λ (t : List PlacedPacket). map pdu_of (pdus_after bs t)) (front_placed h i w frames) ∙ ends_it (bare_frames h (i + 1) frames)

      by_class : (b : Bool) → cond (not b) (pdu ∷ filter ordinary later) (filter ordinary later) ≡ cond b (filter ordinary later) (pdu ∷ filter ordinary later)
      by_class true = refl
      by_class false = refl

-- By the rules: what holds of each case holds of what is packed.
module _ (urgent : Pdu → Bool) (ids : ClassIds) (room : ℕ) (Claim : List (List Writing) → Type 0) where
  abbrev pub Later : Type 0
  Later = ℕ → Option Label → InClasses → List (List Writing)

  pub rest_turn : (later : Later) (left : ℕ) (before : Option Label) (s : InClasses) (rest : Rest)
      → (7 + length rest.bytes ≤ left
      → Claim (in_front (record { packet = end_packet rest.id rest.bytes rest.crc; reuses = false }) (later (left - (7 + length rest.bytes)) before ((in_classes urgent ids).after_packet s None))))
      → ((4095 < 5 + length rest.bytes) ⊎ (left < 7 + length rest.bytes) → 4 ≤ left → 2 ≤ length rest.bytes
      → Claim (in_front (record { packet = middle_packet rest.id (take (middle_size left (length rest.bytes)) rest.bytes); reuses = false })
      (later (left - (3 + middle_size left (length rest.bytes))) before
      ((in_classes urgent ids).after_packet s (Some (record { id = rest.id; crc = rest.crc; bytes = drop (middle_size left (length rest.bytes)) rest.bytes }))))))
      → ((4095 < 5 + length rest.bytes) ⊎ (left < 7 + length rest.bytes) → (left < 4) ⊎ (length rest.bytes < 2) → Claim ([] ∷ later room None ((in_classes urgent ids).after_frame s)))
      → Claim (packed_rest (in_classes urgent ids) room left before s rest later)
  rest_turn later left before s rest last middle frame =
      pick_both Claim (5 + length rest.bytes) 4095 (7 + length rest.bytes) left _ _ (λ a b. last b)
      (λ long. pick_both Claim 4 left 2 (length rest.bytes) _ _ (middle long) (frame long))

  pub pdu_turn : (later : Later) (left : ℕ) (before : Option Label) (s : InClasses) (id : ℕ) (pdu : Pdu)
      → (4 + length (again before pdu.label) + length pdu.bytes ≤ left
      → Claim (in_front (record { packet = complete_packet pdu.protocol pdu.label pdu.bytes; reuses = is_again before pdu.label })
      (later (left - (4 + length (again before pdu.label) + length pdu.bytes)) (Some pdu.label) ((in_classes urgent ids).after_packet s None))))
      → ((4095 < 2 + length (again before pdu.label) + length pdu.bytes) ⊎ (left < 4 + length (again before pdu.label) + length pdu.bytes)
      → 8 + length (label_bytes pdu.label) ≤ left
      → Claim (in_front (record { packet = first_packet id pdu (first_size left pdu); reuses = false })
      (later (left - (7 + length (label_bytes pdu.label) + first_size left pdu)) (Some pdu.label)
      ((in_classes urgent ids).after_packet s (Some (first_rest id pdu (first_size left pdu)))))))
      → (left < 8 + length (label_bytes pdu.label) → Claim ([] ∷ later room None ((in_classes urgent ids).after_frame s)))
      → Claim (packed_pdu (in_classes urgent ids) (λ bytes. crc32_remainder 0xFFFF_FFFF bytes) room left before s id pdu later)
  pdu_turn later left before s id pdu complete start frame =
      pick_both Claim (2 + length (again before pdu.label) + length pdu.bytes) 4095 (4 + length (again before pdu.label) + length pdu.bytes) left _ _
      (λ a b. complete b)
      (λ long. pick Claim (8 + length (label_bytes pdu.label)) left _ _ (start long) frame)

-- urgent PDUs have few bytes; the Frag IDs of the two classes differ, where there are urgent ones
module _ (urgent : Pdu → Bool) (short_urgent : (pdu : Pdu) → urgent pdu ≡ true → length pdu.bytes ≤ 1500) (ids : ClassIds) (room : ℕ) (enough : 290 ≤ room)
    (Ordinary Urgent : ℕ → Type 0) (next_ordinary : (a : ℕ) → Ordinary a → Ordinary (id_after ids.ordinary a)) (next_urgent : (a : ℕ) → Urgent a → Urgent (id_after ids.urgent a))
    (differ : (pdu : Pdu) → urgent pdu ≡ true → (a b : ℕ) → Ordinary a → Urgent b → (b == a) ≡ false) where
  abbrev sum : List ℕ → ℕ
  sum bytes = crc32_remainder 0xFFFF_FFFF bytes

  abbrev state : ℕ → ℕ → Option Rest → Option Rest → ℕ → List Pdu → InClasses
  state id urgent_id urgent_rest rest yields pdus =
      record { id = id; urgent_id = urgent_id; urgent_rest = urgent_rest; rest = rest; yields = yields; pdus = pdus }

  abbrev from_here : ℕ → ℕ → Option Label → InClasses → List (List Writing)
  from_here most left before s = packed_within (in_classes urgent ids) sum room most left before s

  -- What is known of the PDUs that have begun: their fragments so far, how many frames back they start, and that this goes well.

  record UrgentOpen (left : ℕ) (bs : List PlacedPacket) (h : ℕ) (x : Open) : Type 0 where
    f : Fragments
    lost : ℕ
    holds : Holds x.rest bs f x.pdu
    h_is : h ≡ f.frame_number + lost
    fit : IsShortPdu x.pdu
    class_is : urgent x.pdu ≡ true
    id_is : Urgent x.rest.id
    in_time : 276 * lost + length x.rest.bytes + filled room left ≤ length x.pdu.bytes + 276

  abbrev UrgentOpens : ℕ → List PlacedPacket → ℕ → Option Open → Type 0
  UrgentOpens left bs h None = Unit {0}
  UrgentOpens left bs h (Some x) = UrgentOpen left bs h x

  -- it yields; or it yields no more, and each frame takes bytes of it or of the urgent one that began before it
  abbrev InTime : ℕ → ℕ → ℕ → ℕ → ℕ → ℕ → Type 0
  InTime size left yields lost count whole =
      ((yields + lost ≡ 8) × (lost ≤ 7)) ⊎ ((yields ≡ 0) × (276 * lost + size + count + filled room left ≤ whole + 3715))

  record OtherOpen (size left yields : ℕ) (bs : List PlacedPacket) (h : ℕ) (x : Open) : Type 0 where
    f : Fragments
    lost : ℕ
    holds : Holds x.rest bs f x.pdu
    h_is : h ≡ f.frame_number + lost
    fit : IsShortPdu x.pdu
    class_is : urgent x.pdu ≡ false
    id_is : Ordinary x.rest.id
    in_time : InTime size left yields lost (length x.rest.bytes) (length x.pdu.bytes)

  abbrev OtherOpens : ℕ → ℕ → ℕ → List PlacedPacket → ℕ → Option Open → Type 0
  OtherOpens size left yields bs h None = Unit {0}
  OtherOpens size left yields bs h (Some x) = OtherOpen size left yields bs h x

  few_left : (left : ℕ) (bs : List PlacedPacket) (h : ℕ) (x : Open) → UrgentOpen left bs h x → length x.rest.bytes ≤ 1500
  few_left left bs h x o = omega (arith, short_urgent x.pdu o.class_is, ap length o.holds.bytes, length-append o.f.bytes x.rest.bytes)

  -- a packet of another PDU, and the ordinary one is as much in time as before
  other_after : (o : Option Open) (size size2 left left2 yields : ℕ) (bs : List PlacedPacket) (h : ℕ) (p : PlacedPacket)
      → ((a : ℕ) → Ordinary a → opened a (p ∷ bs) ≡ opened a bs) → size2 + filled room left2 ≤ size + filled room left
      → OtherOpens size left yields bs h o → OtherOpens size2 left2 yields (p ∷ bs) h o
  other_after None size size2 left left2 yields bs h p same less open_is = tt
  other_after (Some y) size size2 left left2 yields bs h p same less o = record {
    f = o.f;
    lost = o.lost;
    holds = holds_after y.rest bs o.f y.pdu p (same y.rest.id o.id_is) o.holds;
    h_is = o.h_is;
    fit = o.fit;
    class_is = o.class_is;
    id_is = o.id_is;
    in_time = by_time o.in_time;
  }
    where
      by_time : InTime size left yields o.lost (length y.rest.bytes) (length y.pdu.bytes) → InTime size2 left2 yields o.lost (length y.rest.bytes) (length y.pdu.bytes)
      by_time (inl t) = inl t
      by_time (inr t) = inr (t.0, omega (arith, t.1, less))

  -- while it yields nothing is counted
  other_yields : (o : Option Open) (size size2 left left2 yields : ℕ) (bs : List PlacedPacket) (h : ℕ) (p : PlacedPacket)
      → ((a : ℕ) → Ordinary a → opened a (p ∷ bs) ≡ opened a bs) → ((y : Open) → o ≡ Some y → 1 ≤ yields)
      → OtherOpens size left yields bs h o → OtherOpens size2 left2 yields (p ∷ bs) h o
  other_yields None size size2 left left2 yields bs h p same some open_is = tt
  other_yields (Some y) size size2 left left2 yields bs h p same some o = record {
    f = o.f;
    lost = o.lost;
    holds = holds_after y.rest bs o.f y.pdu p (same y.rest.id o.id_is) o.holds;
    h_is = o.h_is;
    fit = o.fit;
    class_is = o.class_is;
    id_is = o.id_is;
    in_time = by_time o.in_time;
  }
    where
      by_time : InTime size left yields o.lost (length y.rest.bytes) (length y.pdu.bytes) → InTime size2 left2 yields o.lost (length y.rest.bytes) (length y.pdu.bytes)
      by_time (inl t) = inl t
      by_time (inr t) = absurd (omega (arith, t.0, some y refl))

  -- a frame more
  other_frame : (o : Option Open) (size left yields : ℕ) (bs : List PlacedPacket) (h : ℕ) → size ≤ 1507 → ((y : Open) → o ≡ Some y → (1 ≤ yields) ⊎ (left ≤ 7))
      → OtherOpens size left yields bs h o → OtherOpens size room (yields - 1) bs (h + 1) o
  other_frame None size left yields bs h few can open_is = tt
  other_frame (Some y) size left yields bs h few can o = record {
    f = o.f;
    lost = o.lost + 1;
    holds = o.holds;
    h_is = omega (arith, o.h_is);
    fit = o.fit;
    class_is = o.class_is;
    id_is = o.id_is;
    in_time = by_time o.in_time (can y refl);
  }
    where
      within : length y.rest.bytes ≤ length y.pdu.bytes
      within = omega (arith, ap length o.holds.bytes, length-append o.f.bytes y.rest.bytes)

      by_time : InTime size left yields o.lost (length y.rest.bytes) (length y.pdu.bytes) → (1 ≤ yields) ⊎ (left ≤ 7)
          → InTime size room (yields - 1) (o.lost + 1) (length y.rest.bytes) (length y.pdu.bytes)
      by_time (inl t) can_be = by_frames (cases_lt o.lost 7)
        where
          by_frames : (o.lost < 7) ⊎ (7 ≤ o.lost) → InTime size room (yields - 1) (o.lost + 1) (length y.rest.bytes) (length y.pdu.bytes)
          by_frames (inl less) = inl (omega (arith, t.0, less), omega (arith, less))
          by_frames (inr last) = inr (omega (arith, t.0, t.1, last), omega (arith, t.1, last, few, within))
      by_time (inr t) (inl some) = absurd (omega (arith, t.0, some))
      by_time (inr t) (inr full) = inr (omega (arith, t.0), omega (arith, t.1, full, enough))

  urgent_frame : (left : ℕ) (bs : List PlacedPacket) (h : ℕ) (x : Open) → left ≤ 7 → UrgentOpen left bs h x → UrgentOpen room bs (h + 1) x
  urgent_frame left bs h x full o = record {
    f = o.f;
    lost = o.lost + 1;
    holds = o.holds;
    h_is = omega (arith, o.h_is);
    fit = o.fit;
    class_is = o.class_is;
    id_is = o.id_is;
    in_time = omega (arith, o.in_time, full, enough);
  }

  -- What is claimed of each state, in so many steps.

  abbrev Packs : ℕ → Type 0
  Packs most = (left : ℕ) (before : Option Label) (id urgent_id : ℕ) (u o : Option Open) (yields : ℕ) (pdus : List Pdu) (bs : List PlacedPacket) (h i : ℕ)
      → left ≤ room → AreShortPdus pdus → Ordinary id → Urgent urgent_id → UrgentOpens left bs h u → OtherOpens (size_in u) left yields bs h o
      → 2 * (work_of_rest (rest_in u) + work_of_rest (rest_in o) + work_of_pdus pdus) + begun room left + 1 ≤ most
      → Given urgent (from_here most left before (state id urgent_id (rest_in u) (rest_in o) yields pdus)) bs h i
      (pdu_in u ++ filter urgent pdus) (pdu_in o ++ filter (ordinary urgent) pdus)

  -- the last fragment
  rest_ends : (rest : Rest) (bs : List PlacedPacket) (f : Fragments) (pdu : Pdu) (h i : ℕ) → Holds rest bs f pdu → h ≤ f.frame_number + 256 → (ps : List PlacedPacket)
      → map pdu_of (pdus_after bs (placed_at h i (end_packet rest.id rest.bytes rest.crc) ∷ ps)) ≡ pdu ∷ map pdu_of (pdus_after (placed_at h i (end_packet rest.id rest.bytes rest.crc) ∷ bs) ps)
  rest_ends rest bs f pdu h i holds near ps =
      ap (λ (o : Outcome). map pdu_of (pdu_of_outcome 0 i (0 ∷ opened_places rest.id bs) o ++ pdus_after (placed_at h i (end_packet rest.id rest.bytes rest.crc) ∷ bs) ps))
      (ends rest bs f pdu h holds near)

  -- an urgent PDU goes on
  urgent_step : (most : ℕ) → Packs most → (left : ℕ) (before : Option Label) (id urgent_id : ℕ) (x : Open) (o : Option Open) (yields : ℕ) (pdus : List Pdu) (bs : List PlacedPacket) (h i : ℕ)
      → left ≤ room → AreShortPdus pdus → Ordinary id → Urgent urgent_id → UrgentOpen left bs h x → OtherOpens (7 + length x.rest.bytes) left yields bs h o
      → 2 * (1 + length x.rest.bytes + work_of_rest (rest_in o) + work_of_pdus pdus) + begun room left + 1 ≤ suc most
      → Given urgent (packed_rest (in_classes urgent ids) room left before (state id urgent_id (Some x.rest) (rest_in o) yields pdus) x.rest (from_here most)) bs h i
      (x.pdu ∷ filter urgent pdus) (pdu_in o ++ filter (ordinary urgent) pdus)
  urgent_step most packs left before id urgent_id x o yields pdus bs h i small all id_is urgent_is open_is other_is bound =
      rest_turn urgent ids room (λ frames. Given urgent frames bs h i (x.pdu ∷ filter urgent pdus) (pdu_in o ++ filter (ordinary urgent) pdus)) (from_here most) left before
      (state id urgent_id (Some x.rest) (rest_in o) yields pdus) x.rest last middle frame
    where
      size : ℕ
      size = length x.rest.bytes

      few : length x.rest.bytes ≤ 1500
      few = few_left left bs h x open_is

      apart : (a : ℕ) → Ordinary a → (x.rest.id == a) ≡ false
      apart a is = differ x.pdu open_is.class_is a x.rest.id is open_is.id_is

      last : 7 + length x.rest.bytes ≤ left
          → Given urgent (in_front (record { packet = end_packet x.rest.id x.rest.bytes x.rest.crc; reuses = false })
          (from_here most (left - (7 + length x.rest.bytes)) before (state id urgent_id None (rest_in o) yields pdus))) bs h i (x.pdu ∷ filter urgent pdus) (pdu_in o ++ filter (ordinary urgent) pdus)
      last b =
          ended_front urgent (record { packet = end_packet x.rest.id x.rest.bytes x.rest.crc; reuses = false })
          (from_here most (left - (7 + length x.rest.bytes)) before (state id urgent_id None (rest_in o) yields pdus)) bs h i x.pdu true (filter urgent pdus) (pdu_in o ++ filter (ordinary urgent) pdus)
          open_is.class_is refl
          (rest_ends x.rest bs open_is.f x.pdu h i open_is.holds (omega (arith, open_is.h_is, open_is.in_time, open_is.fit.1)))
          (packs (left - (7 + length x.rest.bytes)) before id urgent_id None o yields pdus (placed_at h i (end_packet x.rest.id x.rest.bytes x.rest.crc) ∷ bs) h (i + 1)
          (omega (arith, small)) all id_is urgent_is tt
          (other_after o (7 + length x.rest.bytes) 0 left (left - (7 + length x.rest.bytes)) yields bs h (placed_at h i (end_packet x.rest.id x.rest.bytes x.rest.crc))
          (λ a is. ap (λ (c : Bool). cond c None (opened a bs)) (apart a is)) (omega (arith, b, small)) other_is)
          (omega (arith, bound, begun_most room (left - (7 + length x.rest.bytes)))))

      middle : (4095 < 5 + length x.rest.bytes) ⊎ (left < 7 + length x.rest.bytes) → 4 ≤ left → 2 ≤ length x.rest.bytes
          → Given urgent (in_front (record { packet = middle_packet x.rest.id (take (middle_size left (length x.rest.bytes)) x.rest.bytes); reuses = false })
          (from_here most (left - (3 + middle_size left (length x.rest.bytes))) before
          (state id urgent_id (Some (record { id = x.rest.id; crc = x.rest.crc; bytes = drop (middle_size left (length x.rest.bytes)) x.rest.bytes })) (rest_in o) yields pdus))) bs h i
          (x.pdu ∷ filter urgent pdus) (pdu_in o ++ filter (ordinary urgent) pdus)
      middle long c d =
          let k : ℕ = middle_size left (length x.rest.bytes) in
          let rest : Rest = record { id = x.rest.id; crc = x.rest.crc; bytes = drop k x.rest.bytes } in
          let p : GsePacket = middle_packet x.rest.id (take k x.rest.bytes) in
          let now : Open = record { rest = rest; pdu = x.pdu } in
          let left_is : length (drop k x.rest.bytes) ≡ length x.rest.bytes - k = length-drop k x.rest.bytes in
          let fills : length x.rest.bytes - k + filled room (left - (3 + k)) ≤ length x.rest.bytes + filled room left = middle_fills room left (length x.rest.bytes) enough small long c d in
          let now_open : UrgentOpen (left - (3 + k)) (placed_at h i p ∷ bs) h now = record {
            f = with_bytes (take k x.rest.bytes) open_is.f;
            lost = open_is.lost;
            holds = middle_holds x.rest bs open_is.f x.pdu h i k open_is.holds;
            h_is = open_is.h_is;
            fit = open_is.fit;
            class_is = open_is.class_is;
            id_is = open_is.id_is;
            in_time = omega (arith, open_is.in_time, left_is, fills);
          } in
          quiet_front urgent (record { packet = p; reuses = false }) (from_here most (left - (3 + k)) before (state id urgent_id (Some rest) (rest_in o) yields pdus)) bs h i
          (x.pdu ∷ filter urgent pdus) (pdu_in o ++ filter (ordinary urgent) pdus) refl (λ ps. refl)
          (packs (left - (3 + k)) before id urgent_id (Some now) o yields pdus (placed_at h i p ∷ bs) h (i + 1) (omega (arith, small)) all id_is urgent_is now_open
          (other_after o (7 + length x.rest.bytes) (7 + length (drop k x.rest.bytes)) left (left - (3 + k)) yields bs h (placed_at h i p)
          (λ a is. ap (λ (t : Bool). cond t (option_map (with_bytes (take k x.rest.bytes)) (opened a bs)) (opened a bs)) (apart a is)) (omega (arith, left_is, fills)) other_is)
          (omega (arith, bound, left_is, c, d, begun_most room (left - (3 + k)))))

      frame : (4095 < 5 + length x.rest.bytes) ⊎ (left < 7 + length x.rest.bytes) → (left < 4) ⊎ (length x.rest.bytes < 2)
          → Given urgent ([] ∷ from_here most room None (state id urgent_id (Some x.rest) (rest_in o) (yields - 1) pdus)) bs h i
          (x.pdu ∷ filter urgent pdus) (pdu_in o ++ filter (ordinary urgent) pdus)
      frame long short =
          let full : left ≤ 7 = frame_filled left (length x.rest.bytes) long short in
          packs room None id urgent_id (Some x) o (yields - 1) pdus bs (h + 1) 0 (omega arith) all id_is urgent_is (urgent_frame left bs h x full open_is)
          (other_frame o (7 + length x.rest.bytes) left yields bs h (omega (arith, few)) (λ y is. inr full) other_is)
          (omega (arith, bound, begun_room room, begun_other room left (λ is. omega (arith, is, full, enough))))

  -- an ordinary PDU goes on
  other_step : (most : ℕ) → Packs most → (left : ℕ) (before : Option Label) (id urgent_id : ℕ) (y : Open) (yields : ℕ) (pdus : List Pdu) (bs : List PlacedPacket) (h i : ℕ)
      → ((rest : Option Rest) → (in_classes urgent ids).after_packet (state id urgent_id None (Some y.rest) yields pdus) rest ≡ state id urgent_id None rest yields pdus)
      → left ≤ room → AreShortPdus pdus → Ordinary id → Urgent urgent_id → OtherOpen 0 left yields bs h y
      → 2 * (1 + length y.rest.bytes + work_of_pdus pdus) + begun room left + 1 ≤ suc most
      → Given urgent (packed_rest (in_classes urgent ids) room left before (state id urgent_id None (Some y.rest) yields pdus) y.rest (from_here most)) bs h i
      (filter urgent pdus) (y.pdu ∷ filter (ordinary urgent) pdus)
  other_step most packs left before id urgent_id y yields pdus bs h i after_is small all id_is urgent_is open_is bound =
      rest_turn urgent ids room (λ frames. Given urgent frames bs h i (filter urgent pdus) (y.pdu ∷ filter (ordinary urgent) pdus)) (from_here most) left before
      (state id urgent_id None (Some y.rest) yields pdus) y.rest
      (λ b. subst (λ (s : InClasses). Given urgent (in_front (record { packet = end_packet y.rest.id y.rest.bytes y.rest.crc; reuses = false })
      (from_here most (left - (7 + length y.rest.bytes)) before s)) bs h i (filter urgent pdus) (y.pdu ∷ filter (ordinary urgent) pdus)) (sym (after_is None)) (last b))
      (λ long c d. subst (λ (s : InClasses). Given urgent (in_front (record { packet = middle_packet y.rest.id (take (middle_size left (length y.rest.bytes)) y.rest.bytes); reuses = false })
      (from_here most (left - (3 + middle_size left (length y.rest.bytes))) before s)) bs h i (filter urgent pdus) (y.pdu ∷ filter (ordinary urgent) pdus))
      (sym (after_is (Some (record { id = y.rest.id; crc = y.rest.crc; bytes = drop (middle_size left (length y.rest.bytes)) y.rest.bytes })))) (middle long c d))
      frame
    where
      near : InTime 0 left yields open_is.lost (length y.rest.bytes) (length y.pdu.bytes) → h ≤ open_is.f.frame_number + 256
      near (inl t) = omega (arith, open_is.h_is, t.1)
      near (inr t) = omega (arith, open_is.h_is, t.1, open_is.fit.1)

      last : 7 + length y.rest.bytes ≤ left
          → Given urgent (in_front (record { packet = end_packet y.rest.id y.rest.bytes y.rest.crc; reuses = false })
          (from_here most (left - (7 + length y.rest.bytes)) before (state id urgent_id None None yields pdus))) bs h i (filter urgent pdus) (y.pdu ∷ filter (ordinary urgent) pdus)
      last b =
          ended_front urgent (record { packet = end_packet y.rest.id y.rest.bytes y.rest.crc; reuses = false })
          (from_here most (left - (7 + length y.rest.bytes)) before (state id urgent_id None None yields pdus)) bs h i y.pdu false (filter urgent pdus) (filter (ordinary urgent) pdus)
          open_is.class_is refl (rest_ends y.rest bs open_is.f y.pdu h i open_is.holds (near open_is.in_time))
          (packs (left - (7 + length y.rest.bytes)) before id urgent_id None None yields pdus (placed_at h i (end_packet y.rest.id y.rest.bytes y.rest.crc) ∷ bs) h (i + 1)
          (omega (arith, small)) all id_is urgent_is tt tt (omega (arith, bound, begun_most room (left - (7 + length y.rest.bytes)))))

      middle : (4095 < 5 + length y.rest.bytes) ⊎ (left < 7 + length y.rest.bytes) → 4 ≤ left → 2 ≤ length y.rest.bytes
          → Given urgent (in_front (record { packet = middle_packet y.rest.id (take (middle_size left (length y.rest.bytes)) y.rest.bytes); reuses = false })
          (from_here most (left - (3 + middle_size left (length y.rest.bytes))) before
          (state id urgent_id None (Some (record { id = y.rest.id; crc = y.rest.crc; bytes = drop (middle_size left (length y.rest.bytes)) y.rest.bytes })) yields pdus))) bs h i
          (filter urgent pdus) (y.pdu ∷ filter (ordinary urgent) pdus)
      middle long c d =
          let k : ℕ = middle_size left (length y.rest.bytes) in
          let rest : Rest = record { id = y.rest.id; crc = y.rest.crc; bytes = drop k y.rest.bytes } in
          let p : GsePacket = middle_packet y.rest.id (take k y.rest.bytes) in
          let now : Open = record { rest = rest; pdu = y.pdu } in
          let left_is : length (drop k y.rest.bytes) ≡ length y.rest.bytes - k = length-drop k y.rest.bytes in
          let fills : length y.rest.bytes - k + filled room (left - (3 + k)) ≤ length y.rest.bytes + filled room left = middle_fills room left (length y.rest.bytes) enough small long c d in
          let now_open : OtherOpen 0 (left - (3 + k)) yields (placed_at h i p ∷ bs) h now = record {
            f = with_bytes (take k y.rest.bytes) open_is.f;
            lost = open_is.lost;
            holds = middle_holds y.rest bs open_is.f y.pdu h i k open_is.holds;
            h_is = open_is.h_is;
            fit = open_is.fit;
            class_is = open_is.class_is;
            id_is = open_is.id_is;
            in_time = time_after k (length (drop k y.rest.bytes)) (omega (arith, left_is, fills)) open_is.in_time;
          } in
          quiet_front urgent (record { packet = p; reuses = false }) (from_here most (left - (3 + k)) before (state id urgent_id None (Some rest) yields pdus)) bs h i
          (filter urgent pdus) (y.pdu ∷ filter (ordinary urgent) pdus) refl (λ ps. refl)
          (packs (left - (3 + k)) before id urgent_id None (Some now) yields pdus (placed_at h i p ∷ bs) h (i + 1) (omega (arith, small)) all id_is urgent_is tt now_open
          (omega (arith, bound, left_is, c, d, begun_most room (left - (3 + k)))))
        where
          time_after : (k count : ℕ) → count + filled room (left - (3 + k)) ≤ length y.rest.bytes + filled room left
              → InTime 0 left yields open_is.lost (length y.rest.bytes) (length y.pdu.bytes) → InTime 0 (left - (3 + k)) yields open_is.lost count (length y.pdu.bytes)
          time_after k count less (inl t) = inl t
          time_after k count less (inr t) = inr (t.0, omega (arith, t.1, less))

      frame : (4095 < 5 + length y.rest.bytes) ⊎ (left < 7 + length y.rest.bytes) → (left < 4) ⊎ (length y.rest.bytes < 2)
          → Given urgent ([] ∷ from_here most room None (state id urgent_id None (Some y.rest) (yields - 1) pdus)) bs h i (filter urgent pdus) (y.pdu ∷ filter (ordinary urgent) pdus)
      frame long short =
          let full : left ≤ 7 = frame_filled left (length y.rest.bytes) long short in
          packs room None id urgent_id None (Some y) (yields - 1) pdus bs (h + 1) 0 (omega arith) all id_is urgent_is tt
          (other_frame (Some y) 0 left yields bs h (omega arith) (λ x is. inr full) open_is)
          (omega (arith, bound, begun_room room, begun_other room left (λ is. omega (arith, is, full, enough))))

  -- an urgent PDU begins, while an ordinary one that has begun yields
  urgent_begins : (most : ℕ) → Packs most → (left : ℕ) (before : Option Label) (id urgent_id : ℕ) (o : Option Open) (yields : ℕ) (pdu : Pdu) (pdus : List Pdu) (bs : List PlacedPacket) (h i : ℕ)
      → urgent pdu ≡ true → ((y : Open) → o ≡ Some y → 1 ≤ yields)
      → ((rest : Option Rest) → (in_classes urgent ids).after_packet (state id urgent_id None (rest_in o) yields (pdu ∷ pdus)) rest ≡ after_urgent ids id urgent_id (rest_in o) yields pdus rest)
      → left ≤ room → AreShortPdus (pdu ∷ pdus) → Ordinary id → Urgent urgent_id → OtherOpens 0 left yields bs h o
      → 2 * (work_of_rest (rest_in o) + work_of_pdus (pdu ∷ pdus)) + begun room left + 1 ≤ suc most
      → Given urgent (packed_pdu (in_classes urgent ids) sum room left before (state id urgent_id None (rest_in o) yields (pdu ∷ pdus)) urgent_id pdu (from_here most)) bs h i
      (filter urgent (pdu ∷ pdus)) (pdu_in o ++ filter (ordinary urgent) (pdu ∷ pdus))
  urgent_begins most packs left before id urgent_id o yields pdu pdus bs h i class_is some after_is small all id_is urgent_is other_is bound =
      subst (λ (c : Bool). Given urgent (packed_pdu (in_classes urgent ids) sum room left before (state id urgent_id None (rest_in o) yields (pdu ∷ pdus)) urgent_id pdu (from_here most)) bs h i
      (cond c (pdu ∷ filter urgent pdus) (filter urgent pdus)) (pdu_in o ++ cond (not c) (pdu ∷ filter (ordinary urgent) pdus) (filter (ordinary urgent) pdus))) (sym class_is)
      (pdu_turn urgent ids room (λ frames. Given urgent frames bs h i us os) (from_here most) left before (state id urgent_id None (rest_in o) yields (pdu ∷ pdus)) urgent_id pdu
      (λ b. subst (λ (s : InClasses). Given urgent (in_front (record { packet = complete_packet pdu.protocol pdu.label pdu.bytes; reuses = is_again before pdu.label })
      (from_here most (left - (4 + length (again before pdu.label) + length pdu.bytes)) (Some pdu.label) s)) bs h i us os) (sym (after_is None)) (complete b))
      (λ long b. subst (λ (s : InClasses). Given urgent (in_front (record { packet = first_packet urgent_id pdu (first_size left pdu); reuses = false })
      (from_here most (left - (7 + length (label_bytes pdu.label) + first_size left pdu)) (Some pdu.label) s)) bs h i us os)
      (sym (after_is (Some (first_rest urgent_id pdu (first_size left pdu))))) (start b))
      frame)
    where
      us : List Pdu
      us = pdu ∷ filter urgent pdus

      os : List Pdu
      os = pdu_in o ++ filter (ordinary urgent) pdus

      complete : 4 + length (again before pdu.label) + length pdu.bytes ≤ left
          → Given urgent (in_front (record { packet = complete_packet pdu.protocol pdu.label pdu.bytes; reuses = is_again before pdu.label })
          (from_here most (left - (4 + length (again before pdu.label) + length pdu.bytes)) (Some pdu.label) (state id urgent_id None (rest_in o) yields pdus))) bs h i us os
      complete b =
          let l : ℕ = left - (4 + length (again before pdu.label) + length pdu.bytes) in
          let p : GsePacket = complete_packet pdu.protocol pdu.label pdu.bytes in
          ended_front urgent (record { packet = p; reuses = is_again before pdu.label }) (from_here most l (Some pdu.label) (state id urgent_id None (rest_in o) yields pdus)) bs h i pdu true
          (filter urgent pdus) os class_is refl (λ ps. refl)
          (packs l (Some pdu.label) id urgent_id None o yields pdus (placed_at h i p ∷ bs) h (i + 1) (omega (arith, small)) all.1 id_is urgent_is tt
          (other_yields o 0 0 left l yields bs h (placed_at h i p) (λ a is. refl) some other_is)
          (omega (arith, bound, begun_most room l)))

      start : 8 + length (label_bytes pdu.label) ≤ left
          → Given urgent (in_front (record { packet = first_packet urgent_id pdu (first_size left pdu); reuses = false })
          (from_here most (left - (7 + length (label_bytes pdu.label) + first_size left pdu)) (Some pdu.label)
          (state id (id_after ids.urgent urgent_id) (Some (first_rest urgent_id pdu (first_size left pdu))) (rest_in o) yields pdus))) bs h i us os
      start b =
          let k : ℕ = first_size left pdu in
          let l : ℕ = left - (7 + length (label_bytes pdu.label) + k) in
          let p : GsePacket = first_packet urgent_id pdu k in
          let now : Open = record { rest = first_rest urgent_id pdu k; pdu = pdu } in
          let left_is : length (drop k pdu.bytes) ≡ length pdu.bytes - k = length-drop k pdu.bytes in
          let now_open : UrgentOpen l (placed_at h i p ∷ bs) h now = record {
            f = first_fragments h pdu k;
            lost = 0;
            holds = start_holds bs pdu urgent_id h i k;
            h_is = omega arith;
            fit = all.0;
            class_is = class_is;
            id_is = urgent_is;
            in_time = omega (arith, left_is);
          } in
          quiet_front urgent (record { packet = p; reuses = false }) (from_here most l (Some pdu.label) (state id (id_after ids.urgent urgent_id) (Some (first_rest urgent_id pdu k)) (rest_in o) yields pdus)) bs h i us os
          refl (λ ps. refl)
          (packs l (Some pdu.label) id (id_after ids.urgent urgent_id) (Some now) o yields pdus (placed_at h i p ∷ bs) h (i + 1) (omega (arith, small)) all.1 id_is (next_urgent urgent_id urgent_is) now_open
          (other_yields o 0 (7 + length (drop k pdu.bytes)) left l yields bs h (placed_at h i p)
          (λ a is. ap (λ (t : Bool). cond t (Some (first_fragments h pdu k)) (opened a bs)) (differ pdu class_is a urgent_id is urgent_is)) some other_is)
          (omega (arith, bound, left_is, b, all.0.0, begun_most room l)))

      frame : left < 8 + length (label_bytes pdu.label) → Given urgent ([] ∷ from_here most room None (state id urgent_id None (rest_in o) (yields - 1) (pdu ∷ pdus))) bs h i us os
      frame few =
          subst (λ (c : Bool). Given urgent ([] ∷ from_here most room None (state id urgent_id None (rest_in o) (yields - 1) (pdu ∷ pdus))) bs h i
          (cond c (pdu ∷ filter urgent pdus) (filter urgent pdus)) (pdu_in o ++ cond (not c) (pdu ∷ filter (ordinary urgent) pdus) (filter (ordinary urgent) pdus))) class_is
          (packs room None id urgent_id None o (yields - 1) (pdu ∷ pdus) bs (h + 1) 0 (omega arith) all id_is urgent_is tt
          (other_frame o 0 left yields bs h (omega arith) (λ y is. inl (some y is)) other_is)
          (omega (arith, bound, begun_room room, begun_other room left (λ is. omega (arith, is, few, enough, all.0.0)))))

  -- an ordinary PDU begins
  other_begins : (most : ℕ) → Packs most → (left : ℕ) (before : Option Label) (id urgent_id yields : ℕ) (pdu : Pdu) (pdus : List Pdu) (bs : List PlacedPacket) (h i : ℕ)
      → urgent pdu ≡ false
      → ((rest : Option Rest) → (in_classes urgent ids).after_packet (state id urgent_id None None yields (pdu ∷ pdus)) rest ≡ after_ordinary ids id urgent_id yields pdus rest)
      → left ≤ room → AreShortPdus (pdu ∷ pdus) → Ordinary id → Urgent urgent_id
      → 2 * work_of_pdus (pdu ∷ pdus) + begun room left + 1 ≤ suc most
      → Given urgent (packed_pdu (in_classes urgent ids) sum room left before (state id urgent_id None None yields (pdu ∷ pdus)) id pdu (from_here most)) bs h i
      (filter urgent (pdu ∷ pdus)) (filter (ordinary urgent) (pdu ∷ pdus))
  other_begins most packs left before id urgent_id yields pdu pdus bs h i class_is after_is small all id_is urgent_is bound =
      subst (λ (c : Bool). Given urgent (packed_pdu (in_classes urgent ids) sum room left before (state id urgent_id None None yields (pdu ∷ pdus)) id pdu (from_here most)) bs h i
      (cond c (pdu ∷ filter urgent pdus) (filter urgent pdus)) (cond (not c) (pdu ∷ filter (ordinary urgent) pdus) (filter (ordinary urgent) pdus))) (sym class_is)
      (pdu_turn urgent ids room (λ frames. Given urgent frames bs h i us os) (from_here most) left before (state id urgent_id None None yields (pdu ∷ pdus)) id pdu
      (λ b. subst (λ (s : InClasses). Given urgent (in_front (record { packet = complete_packet pdu.protocol pdu.label pdu.bytes; reuses = is_again before pdu.label })
      (from_here most (left - (4 + length (again before pdu.label) + length pdu.bytes)) (Some pdu.label) s)) bs h i us os) (sym (after_is None)) (complete b))
      (λ long b. subst (λ (s : InClasses). Given urgent (in_front (record { packet = first_packet id pdu (first_size left pdu); reuses = false })
      (from_here most (left - (7 + length (label_bytes pdu.label) + first_size left pdu)) (Some pdu.label) s)) bs h i us os)
      (sym (after_is (Some (first_rest id pdu (first_size left pdu))))) (start b))
      frame)
    where
      us : List Pdu
      us = filter urgent pdus

      os : List Pdu
      os = pdu ∷ filter (ordinary urgent) pdus

      complete : 4 + length (again before pdu.label) + length pdu.bytes ≤ left
          → Given urgent (in_front (record { packet = complete_packet pdu.protocol pdu.label pdu.bytes; reuses = is_again before pdu.label })
          (from_here most (left - (4 + length (again before pdu.label) + length pdu.bytes)) (Some pdu.label) (state id urgent_id None None yields pdus))) bs h i us os
      complete b =
          let l : ℕ = left - (4 + length (again before pdu.label) + length pdu.bytes) in
          let p : GsePacket = complete_packet pdu.protocol pdu.label pdu.bytes in
          ended_front urgent (record { packet = p; reuses = is_again before pdu.label }) (from_here most l (Some pdu.label) (state id urgent_id None None yields pdus)) bs h i pdu false
          us (filter (ordinary urgent) pdus) class_is refl (λ ps. refl)
          (packs l (Some pdu.label) id urgent_id None None yields pdus (placed_at h i p ∷ bs) h (i + 1) (omega (arith, small)) all.1 id_is urgent_is tt tt
          (omega (arith, bound, begun_most room l)))

      start : 8 + length (label_bytes pdu.label) ≤ left
          → Given urgent (in_front (record { packet = first_packet id pdu (first_size left pdu); reuses = false })
          (from_here most (left - (7 + length (label_bytes pdu.label) + first_size left pdu)) (Some pdu.label)
          (state (id_after ids.ordinary id) urgent_id None (Some (first_rest id pdu (first_size left pdu))) 8 pdus))) bs h i us os
      start b =
          let k : ℕ = first_size left pdu in
          let l : ℕ = left - (7 + length (label_bytes pdu.label) + k) in
          let p : GsePacket = first_packet id pdu k in
          let now : Open = record { rest = first_rest id pdu k; pdu = pdu } in
          let left_is : length (drop k pdu.bytes) ≡ length pdu.bytes - k = length-drop k pdu.bytes in
          let now_open : OtherOpen 0 l 8 (placed_at h i p ∷ bs) h now = record {
            f = first_fragments h pdu k;
            lost = 0;
            holds = start_holds bs pdu id h i k;
            h_is = omega arith;
            fit = all.0;
            class_is = class_is;
            id_is = id_is;
            in_time = inl (omega arith, omega arith);
          } in
          quiet_front urgent (record { packet = p; reuses = false }) (from_here most l (Some pdu.label) (state (id_after ids.ordinary id) urgent_id None (Some (first_rest id pdu k)) 8 pdus)) bs h i us os
          refl (λ ps. refl)
          (packs l (Some pdu.label) (id_after ids.ordinary id) urgent_id None (Some now) 8 pdus (placed_at h i p ∷ bs) h (i + 1) (omega (arith, small)) all.1 (next_ordinary id id_is) urgent_is tt now_open
          (omega (arith, bound, left_is, b, all.0.0, begun_most room l)))

      frame : left < 8 + length (label_bytes pdu.label) → Given urgent ([] ∷ from_here most room None (state id urgent_id None None (yields - 1) (pdu ∷ pdus))) bs h i us os
      frame few =
          subst (λ (c : Bool). Given urgent ([] ∷ from_here most room None (state id urgent_id None None (yields - 1) (pdu ∷ pdus))) bs h i
          (cond c (pdu ∷ filter urgent pdus) (filter urgent pdus)) (cond (not c) (pdu ∷ filter (ordinary urgent) pdus) (filter (ordinary urgent) pdus))) class_is
          (packs room None id urgent_id None None (yields - 1) (pdu ∷ pdus) bs (h + 1) 0 (omega arith) all id_is urgent_is tt tt
          (omega (arith, bound, begun_room room, begun_other room left (λ is. omega (arith, is, few, enough, all.0.0)))))

  step : (most : ℕ) → Packs most → Packs (suc most)
  step most packs left before id urgent_id (Some x) o yields pdus bs h i small all id_is urgent_is open_is other_is bound =
      urgent_step most packs left before id urgent_id x o yields pdus bs h i small all id_is urgent_is open_is other_is bound
  step most packs left before id urgent_id None None yields [] bs h i small all id_is urgent_is open_is other_is bound = (refl, refl, refl)
  step most packs left before id urgent_id None None yields (pdu ∷ pdus) bs h i small all id_is urgent_is open_is other_is bound = by_class (cases_Bool (urgent pdu))
    where
      s : InClasses
      s = state id urgent_id None None yields (pdu ∷ pdus)

      by_class : (urgent pdu ≡ true) ⊎ (urgent pdu ≡ false)
          → Given urgent (packed_turn (in_classes urgent ids) sum room left before s (begins (cond (urgent pdu) urgent_id id) pdu) (from_here most)) bs h i (filter urgent (pdu ∷ pdus)) (filter (ordinary urgent) (pdu ∷ pdus))
      by_class (inl is) =
          subst (λ (n : ℕ). Given urgent (packed_pdu (in_classes urgent ids) sum room left before s n pdu (from_here most)) bs h i (filter urgent (pdu ∷ pdus)) (filter (ordinary urgent) (pdu ∷ pdus)))
          (sym (ap (λ (c : Bool). cond c urgent_id id) is))
          (urgent_begins most packs left before id urgent_id None yields pdu pdus bs h i is (λ y none. absurd (cc))
          (λ rest. ap (λ (c : Bool). cond c (after_urgent ids id urgent_id None yields pdus rest) (after_ordinary ids id urgent_id yields pdus rest)) is) small all id_is urgent_is tt (omega (arith, bound)))
      by_class (inr is) =
          subst (λ (n : ℕ). Given urgent (packed_pdu (in_classes urgent ids) sum room left before s n pdu (from_here most)) bs h i (filter urgent (pdu ∷ pdus)) (filter (ordinary urgent) (pdu ∷ pdus)))
          (sym (ap (λ (c : Bool). cond c urgent_id id) is))
          (other_begins most packs left before id urgent_id yields pdu pdus bs h i is
          (λ rest. ap (λ (c : Bool). cond c (after_urgent ids id urgent_id None yields pdus rest) (after_ordinary ids id urgent_id yields pdus rest)) is) small all id_is urgent_is (omega (arith, bound)))
  step most packs left before id urgent_id None (Some y) yields [] bs h i small all id_is urgent_is open_is other_is bound =
      other_step most packs left before id urgent_id y yields [] bs h i (λ rest. refl) small all id_is urgent_is other_is (omega (arith, bound))
  step most packs left before id urgent_id None (Some y) zero (pdu ∷ pdus) bs h i small all id_is urgent_is open_is other_is bound =
      other_step most packs left before id urgent_id y zero (pdu ∷ pdus) bs h i (λ rest. refl) small all id_is urgent_is other_is (omega (arith, bound))
  step most packs left before id urgent_id None (Some y) (suc yields) (pdu ∷ pdus) bs h i small all id_is urgent_is open_is other_is bound = by_class (cases_Bool (urgent pdu))
    where
      s : InClasses
      s = state id urgent_id None (Some y.rest) (suc yields) (pdu ∷ pdus)

      TurnGiven : Turn → Type 0
      TurnGiven turn = Given urgent (packed_turn (in_classes urgent ids) sum room left before s turn (from_here most)) bs h i (filter urgent (pdu ∷ pdus)) (y.pdu ∷ filter (ordinary urgent) (pdu ∷ pdus))

      by_class : (urgent pdu ≡ true) ⊎ (urgent pdu ≡ false) → TurnGiven (cond (urgent pdu) (begins urgent_id pdu) (goes_on y.rest))
      by_class (inl is) =
          subst TurnGiven (sym (ap (λ (c : Bool). cond c (begins urgent_id pdu) (goes_on y.rest)) is))
          (urgent_begins most packs left before id urgent_id (Some y) (suc yields) pdu pdus bs h i is (λ x some. omega arith)
          (λ rest. ap (λ (c : Bool). cond c (after_urgent ids id urgent_id (Some y.rest) (suc yields) pdus rest) (state id urgent_id None rest (suc yields) (pdu ∷ pdus))) is)
          small all id_is urgent_is other_is (omega (arith, bound)))
      by_class (inr is) =
          subst TurnGiven (sym (ap (λ (c : Bool). cond c (begins urgent_id pdu) (goes_on y.rest)) is))
          (other_step most packs left before id urgent_id y (suc yields) (pdu ∷ pdus) bs h i
          (λ rest. ap (λ (c : Bool). cond c (after_urgent ids id urgent_id (Some y.rest) (suc yields) pdus rest) (state id urgent_id None rest (suc yields) (pdu ∷ pdus))) is)
          small all id_is urgent_is other_is (omega (arith, bound)))

  packs_all : (most : ℕ) → Packs most
  packs_all zero = λ left before id urgent_id u o yields pdus bs h i small all id_is urgent_is open_is other_is bound. absurd (omega (arith, bound))
  packs_all (suc most) = step most (packs_all most)

  steps_are : (pdus : List Pdu) → 2 * work_of_pdus pdus + 1 ≤ steps_of pdus
  steps_are [] = omega arith
  steps_are (pdu ∷ pdus) = omega (arith, steps_are pdus)

  pub classes_given : Ordinary ids.ordinary.first → Urgent ids.urgent.first → (pdus : List Pdu) → AreShortPdus pdus
      → Given urgent (packed urgent ids sum room pdus) [] 1 0 (filter urgent pdus) (filter (ordinary urgent) pdus)
  classes_given id_is urgent_is [] all = (refl, refl, refl)
  classes_given id_is urgent_is (pdu ∷ pdus) all =
      packs_all (steps_of (pdu ∷ pdus)) room None ids.ordinary.first ids.urgent.first None None 0 (pdu ∷ pdus) [] 1 0 (omega arith) all id_is urgent_is tt tt
      (omega (arith, steps_are (pdu ∷ pdus), begun_room room))

-- Where no PDU is urgent, the Frag IDs may be any.

pub one_class_given : (ids : ClassIds) (room : ℕ) → 290 ≤ room → (pdus : List Pdu) → AreShortPdus pdus
    → Given (λ pdu. false) (packed (λ pdu. false) ids (crc32_remainder 0xFFFF_FFFF) room pdus) [] 1 0 (filter (λ pdu. false) pdus) (filter (λ pdu. not false) pdus)
one_class_given ids room enough pdus all =
    classes_given (λ pdu. false) (λ pdu is. absurd (cc)) ids room enough (λ a. Unit {0}) (λ a. Unit {0}) (λ a is. tt) (λ a is. tt) (λ pdu is a b first second. absurd (cc)) tt tt pdus all
