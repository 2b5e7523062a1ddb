-- What each call leaves open.
use Rattle.std.proofs.Common.{◌≡◌, ◌⊎◌, inl, inr, ℕ, zero, suc, get_or, replicate, ◌+◌, ◌*◌, ◌<◌, ◌≤◌, Bool, true, false, cond, Option, Some, None, List, [], ◌∷◌, ◌++◌, length, take, drop, refl, ap, sym, ◌∙◌, subst, arith, length-append, length-drop}
use Rattle.std.specs.Prelude.{slice_index_or, All, ◌==◌, nat_le}
use Rattle.std.specs.Option.{option_and_then}
use Rattle.std.proofs.Math.ListN.{set}
use Rattle.std.proofs.lemmas.Bool.{cases_eq}
use Rattle.std.proofs.lemmas.List.{length-take-le}
use Rattle.addr_rules.specs.declared.filter.Label.{Label}
use Rattle.gse_spec.specs.Packet.{start_packet, middle_packet}
use Rattle.gse_spec.specs.Reassembly.{Fragments, with_bytes}
use Rattle.gse_spec.specs.Slots.{unless_passed, open_after}
use Rattle.gse_reassembly.specs.Buffers.{written_at}
use Rattle.gse_reassembly.specs.Slots.{SlotsState, open_on, fragments_in, open_in, closed, slot_open, FitsOpen, FitsSlot}
use Rattle.gse_reassembly.specs.declared.slots.Open.{Open}
use Rattle.gse_reassembly.specs.declared.slots.Slot.{Slot}
use Rattle.gse_reassembly.proofs.Parts.{put_at_base, put_behind, other_stays, slot_set, slot_fits}

-- fragments that fit, and that do not
unless_fits : (f : Fragments) → 2 + f.written + length f.bytes ≤ f.total → unless_passed f ≡ Some f
unless_fits f fit = ap (λ (b : Bool). cond b (Some f) None) (test f.written (length f.bytes) f.total fit)
  where
    test : (written size total : ℕ) → 2 + written + size ≤ total → nat_le (2 + written + size) total ≡ true
    test written size total le = grind (arith, le)

unless_misfit : (f : Fragments) → f.total < 2 + f.written + length f.bytes → unless_passed f ≡ None
unless_misfit f misfit = ap (λ (b : Bool). cond b (Some f) None) (test f.written (length f.bytes) f.total misfit)
  where
    test : (written size total : ℕ) → total < 2 + written + size → nat_le (2 + written + size) total ≡ false
    test written size total less = grind (arith, less)

-- one slot closed
pub slot_closed : (slots : List Slot) (buffer : List ℕ) (id : ℕ) → id < length slots → (other : ℕ)
    → slot_open (set slots id closed) buffer other ≡ cond (id == other) None (slot_open slots buffer other)
slot_closed slots buffer id within other = slot_set slots buffer buffer id closed None within refl (λ o apart. refl) other

-- bytes written to the part of one Frag ID
pub slot_written : (slots : List Slot) (buffer piece : List ℕ) (id at : ℕ) (o : Open) (f : Fragments) → length slots ≡ 256 → length buffer ≡ 16778240 → All FitsSlot slots → id < 256
    → id * 65540 ≤ at → at + length piece ≤ id * 65540 + 65540 → fragments_in o id (written_at buffer at piece) ≡ f
    → (other : ℕ) → slot_open (set slots id (record { held = Some o })) (written_at buffer at piece) other ≡ cond (id == other) (Some f) (slot_open slots buffer other)
slot_written slots buffer piece id at o f count size all within from to is other =
    slot_set slots buffer (written_at buffer at piece) id (record { held = Some o }) (Some f) (omega (arith, count, within)) (ap Some is)
    (λ k apart. other_stays (slice_index_or slots k closed).held buffer piece id k at (slot_fits slots k all) (omega (arith, size, within, to)) from to apart) other

module _ (slots : List Slot) (buffer pdu : List ℕ) (id frame_number : ℕ) (count : length slots ≡ 256) (size : length buffer ≡ 16778240) (all : All FitsSlot slots) (within : id < 256) where
  -- A start.

  module _ (total protocol written : ℕ) (label : Label) where
    abbrev first_fragment : Fragments
    first_fragment = record { frame_number = frame_number; total = total; protocol = protocol; label = label; written = written; bytes = pdu }

    pub start_closed : total < 2 + written + length pdu → (other : ℕ)
        → slot_open (set slots id closed) buffer other ≡ open_after other frame_number (start_packet id total protocol label written pdu) (slot_open slots buffer other)
    start_closed misfit other =
        slot_closed slots buffer id (omega (arith, count, within)) other
        ∙ ap (λ (t : Option Fragments). cond (id == other) t (slot_open slots buffer other)) (sym (unless_misfit first_fragment misfit))

    pub start_kept : 2 + written + length pdu ≤ total → total < 65536 → (other : ℕ)
        → slot_open (set slots id (record { held = Some (record { frame_number = frame_number; total = total; protocol = protocol; label = label; written = written; fill = length pdu }) }))
        (written_at buffer (id * 65540) pdu) other
        ≡ open_after other frame_number (start_packet id total protocol label written pdu) (slot_open slots buffer other)
    start_kept fit most other =
        slot_written slots buffer pdu id (id * 65540) (record { frame_number = frame_number; total = total; protocol = protocol; label = label; written = written; fill = length pdu }) first_fragment count size all within
        (omega arith) (omega (arith, fit, most))
        (ap (λ (t : List ℕ). record { frame_number = frame_number; total = total; protocol = protocol; label = label; written = written; bytes = t })
        (put_at_base buffer pdu (id * 65540) (omega (arith, size, within, fit, most)))) other
        ∙ ap (λ (t : Option Fragments). cond (id == other) t (slot_open slots buffer other)) (sym (unless_fits first_fragment fit))

  -- A middle.

  -- what one slot holds tells what is open on its Frag ID
  middle_told : (f : Fragments) (behind : Option Fragments) → slot_open slots buffer id ≡ Some f → behind ≡ unless_passed (with_bytes pdu f) → (other : ℕ)
      → cond (id == other) behind (slot_open slots buffer other) ≡ open_after other frame_number (middle_packet id pdu) (slot_open slots buffer other)
  middle_told f behind is behind_is other = by_id (cases_eq id other)
    where
      by_id : (id ≡ other) ⊎ (id ≡ other → ⊥) → cond (id == other) behind (slot_open slots buffer other) ≡ open_after other frame_number (middle_packet id pdu) (slot_open slots buffer other)
      by_id (inl same) =
          let here : slot_open slots buffer other ≡ Some f = ap (slot_open slots buffer) (sym same) ∙ is in
          ap (λ (t : Option Fragments). cond (id == other) t (slot_open slots buffer other)) behind_is
          ∙ ap (λ (t : Option Fragments). cond (id == other) (option_and_then (λ (g : Fragments). unless_passed (with_bytes pdu g)) t) (slot_open slots buffer other)) (sym here)
      by_id (inr apart) =
          let test : (id == other) ≡ false = grind (arith, apart) in
          ap (λ (b : Bool). cond b behind (slot_open slots buffer other)) test
          ∙ sym (ap (λ (b : Bool). cond b (option_and_then (λ (g : Fragments). unless_passed (with_bytes pdu g)) (slot_open slots buffer other)) (slot_open slots buffer other)) test)

  pub middle_none : slot_open slots buffer id ≡ None → (other : ℕ)
      → slot_open slots buffer other ≡ open_after other frame_number (middle_packet id pdu) (slot_open slots buffer other)
  middle_none is other = by_id (cases_eq id other)
    where
      by_id : (id ≡ other) ⊎ (id ≡ other → ⊥) → slot_open slots buffer other ≡ open_after other frame_number (middle_packet id pdu) (slot_open slots buffer other)
      by_id (inl same) =
          let here : slot_open slots buffer other ≡ None = ap (slot_open slots buffer) (sym same) ∙ is in
          let test : (id == other) ≡ true = grind (arith, same) in
          here
          ∙ sym (ap (λ (t : Option Fragments). option_and_then (λ (g : Fragments). unless_passed (with_bytes pdu g)) t) here)
          ∙ sym (ap (λ (b : Bool). cond b (option_and_then (λ (g : Fragments). unless_passed (with_bytes pdu g)) (slot_open slots buffer other)) (slot_open slots buffer other)) test)
      by_id (inr apart) =
          let test : (id == other) ≡ false = grind (arith, apart) in
          sym (ap (λ (b : Bool). cond b (option_and_then (λ (g : Fragments). unless_passed (with_bytes pdu g)) (slot_open slots buffer other)) (slot_open slots buffer other)) test)

  module _ (o : Open) (is : (slice_index_or slots id closed).held ≡ Some o) where
    pub was_open : slot_open slots buffer id ≡ Some (fragments_in o id buffer)
    was_open = ap (λ (t : Option Open). open_in t id buffer) is

    pub held : FitsOpen (Some o)
    held = subst FitsOpen is (slot_fits slots id all)

    -- the bytes that the slot holds are as many as it says
    pub filled : length (take o.fill (drop (id * 65540) buffer)) ≡ o.fill
    filled = length-take-le o.fill (drop (id * 65540) buffer) (omega (arith, held.0, held.1, size, within, length-drop (id * 65540) buffer))

    pub longer : length (take o.fill (drop (id * 65540) buffer) ++ pdu) ≡ o.fill + length pdu
    longer = length-append (take o.fill (drop (id * 65540) buffer)) pdu ∙ ap (λ (t : ℕ). t + length pdu) filled

    pub middle_closed : o.total < 2 + o.written + (o.fill + length pdu) → (other : ℕ)
        → slot_open (set slots id closed) buffer other ≡ open_after other frame_number (middle_packet id pdu) (slot_open slots buffer other)
    middle_closed misfit other =
        slot_closed slots buffer id (omega (arith, count, within)) other
        ∙ middle_told (fragments_in o id buffer) None was_open (sym (unless_misfit (with_bytes pdu (fragments_in o id buffer)) (omega (arith, misfit, longer)))) other

    pub middle_kept : 2 + o.written + (o.fill + length pdu) ≤ o.total → (other : ℕ)
        → slot_open (set slots id (record { held = Some (record { frame_number = o.frame_number; total = o.total; protocol = o.protocol; label = o.label; written = o.written; fill = o.fill + length pdu }) }))
        (written_at buffer (id * 65540 + o.fill) pdu) other
        ≡ open_after other frame_number (middle_packet id pdu) (slot_open slots buffer other)
    middle_kept fit other =
        slot_written slots buffer pdu id (id * 65540 + o.fill) (record { frame_number = o.frame_number; total = o.total; protocol = o.protocol; label = o.label; written = o.written; fill = o.fill + length pdu })
        (with_bytes pdu (fragments_in o id buffer)) count size all within (omega arith) (omega (arith, fit, held.1))
        (ap (λ (t : List ℕ). record { frame_number = o.frame_number; total = o.total; protocol = o.protocol; label = o.label; written = o.written; bytes = t })
        (put_behind buffer pdu (id * 65540) o.fill (omega (arith, size, within, fit, held.1)))) other
        ∙ middle_told (fragments_in o id buffer) (Some (with_bytes pdu (fragments_in o id buffer))) was_open
        (sym (unless_fits (with_bytes pdu (fragments_in o id buffer)) (omega (arith, fit, longer)))) other

-- The same of the slots as they are seen.

abbrev started : ℕ → ℕ → ℕ → Label → ℕ → ℕ → Slot
started frame_number total protocol label written fill = record { held = Some (record { frame_number = frame_number; total = total; protocol = protocol; label = label; written = written; fill = fill }) }

pub start_now : (now : SlotsState) (slots : List Slot) (buffer new pdu : List ℕ) (id at frame_number total protocol written : ℕ) (label : Label)
    → record { frame_number = frame_number; slots = slots; buffer = buffer } ≡ now → at ≡ id → new ≡ written_at buffer (at * 65540) pdu
    → length slots ≡ 256 → length buffer ≡ 16778240 → All FitsSlot slots → id < 256 → 2 + written + length pdu ≤ total → total < 65536
    → (other : ℕ) → slot_open (set slots at (started frame_number total protocol label written (length pdu))) new other
    ≡ open_after other now.frame_number (start_packet id total protocol label written pdu) (open_on now other)
start_now now slots buffer new pdu id at frame_number total protocol written label now_is at_is new_is count size all within fit most other =
    subst (λ (n : SlotsState). slot_open (set slots at (started frame_number total protocol label written (length pdu))) new other
    ≡ open_after other n.frame_number (start_packet id total protocol label written pdu) (open_on n other)) now_is
    (subst (λ (b : List ℕ). slot_open (set slots at (started frame_number total protocol label written (length pdu))) b other
    ≡ open_after other frame_number (start_packet id total protocol label written pdu) (slot_open slots buffer other)) (sym new_is)
    (subst (λ (a : ℕ). slot_open (set slots a (started frame_number total protocol label written (length pdu))) (written_at buffer (a * 65540) pdu) other
    ≡ open_after other frame_number (start_packet id total protocol label written pdu) (slot_open slots buffer other)) (sym at_is)
    (start_kept slots buffer pdu id frame_number count size all within total protocol written label fit most other)))

pub middle_now : (now : SlotsState) (slots : List Slot) (buffer new pdu : List ℕ) (id at frame_number : ℕ) (o : Open)
    → record { frame_number = frame_number; slots = slots; buffer = buffer } ≡ now → at ≡ id → new ≡ written_at buffer (at * 65540 + o.fill) pdu
    → length slots ≡ 256 → length buffer ≡ 16778240 → All FitsSlot slots → id < 256 → (slice_index_or slots at closed).held ≡ Some o → 2 + o.written + (o.fill + length pdu) ≤ o.total
    → (other : ℕ) → slot_open (set slots at (started o.frame_number o.total o.protocol o.label o.written (o.fill + length pdu))) new other
    ≡ open_after other now.frame_number (middle_packet id pdu) (open_on now other)
middle_now now slots buffer new pdu id at frame_number o now_is at_is new_is count size all within is fit other =
    subst (λ (n : SlotsState). slot_open (set slots at (started o.frame_number o.total o.protocol o.label o.written (o.fill + length pdu))) new other
    ≡ open_after other n.frame_number (middle_packet id pdu) (open_on n other)) now_is
    (subst (λ (b : List ℕ). slot_open (set slots at (started o.frame_number o.total o.protocol o.label o.written (o.fill + length pdu))) b other
    ≡ open_after other frame_number (middle_packet id pdu) (slot_open slots buffer other)) (sym new_is)
    (subst (λ (a : ℕ). slot_open (set slots a (started o.frame_number o.total o.protocol o.label o.written (o.fill + length pdu))) (written_at buffer (a * 65540 + o.fill) pdu) other
    ≡ open_after other frame_number (middle_packet id pdu) (slot_open slots buffer other)) (sym at_is)
    (middle_kept slots buffer pdu id frame_number count size all within o (ap (λ (a : ℕ). (slice_index_or slots a closed).held) (sym at_is) ∙ is) fit other)))

-- what a slot was seen to hold
pub held_is : (slots : List Slot) (at : ℕ) (s : Slot) (o : Option Open) → at < length slots → s ≡ get_or slots at s → s.held ≡ o → (slice_index_or slots at closed).held ≡ o
held_is slots at s o within seen is = ap (λ (t : Slot). t.held) (get_or_default slots at closed s within ∙ sym seen) ∙ is
  where
    get_or_default : (xs : List Slot) (i : ℕ) (d e : Slot) → i < length xs → get_or xs i d ≡ get_or xs i e
    get_or_default [] i d e within = absurd (omega (arith, within))
    get_or_default (x ∷ xs) zero d e within = refl
    get_or_default (x ∷ xs) (suc i) d e within = get_or_default xs i d e (omega (arith, within))

pub held_fits : (slots : List Slot) (at : ℕ) (o : Open) → All FitsSlot slots → (slice_index_or slots at closed).held ≡ Some o → (2 + o.written + o.fill ≤ o.total) × (o.total < 65536)
held_fits slots at o all is = subst FitsOpen is (slot_fits slots at all)

-- slots that are all empty
pub all_closed : (slots : List Slot) (buffer : List ℕ) (n : ℕ) (s : Slot) → slots ≡ replicate n s → s ≡ closed → (id : ℕ) → slot_open slots buffer id ≡ None
all_closed slots buffer n s slots_are is id =
    ap (λ (t : List Slot). slot_open t buffer id) (slots_are ∙ ap (replicate n) is) ∙ ap (λ (t : Slot). open_in t.held id buffer) (empty n id)
  where
    empty : (n k : ℕ) → slice_index_or (replicate n closed) k closed ≡ closed
    empty zero k = refl
    empty (suc n) zero = refl
    empty (suc n) (suc k) = empty n k
