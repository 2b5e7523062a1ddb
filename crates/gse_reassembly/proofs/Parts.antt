-- The parts of a buffer after a write.
use Rattle.std.proofs.Common.{◌≡◌, ◌⊎◌, inl, inr, ℕ, ◌+◌, ◌*◌, ◌-◌, ◌<◌, ◌≤◌, Bool, true, false, cond, Option, Some, None, List, ◌++◌, length, take, drop, refl, ap, sym, ◌∙◌, subst, arith, append_assoc, length-drop, length-append}
use Rattle.std.specs.Prelude.{slice_index_or, All, ◌==◌}
use Rattle.std.proofs.Math.ListN.{set}
use Rattle.std.proofs.lemmas.Bool.{cases_eq, cases_lt}
use Rattle.std.proofs.lemmas.List.{take_at, take-take, drop-take, take-append-le, drop-append-le, drop_at, length-take-le, get_or_past, get_or-set_same, get_or-set_other}
use Rattle.std.proofs.lemmas.List.Elements.{All-get_or}
use Rattle.std.proofs.lemmas.Slice.{drop-append-drop}
use Rattle.gse_spec.specs.Reassembly.{Fragments}
use Rattle.gse_reassembly.specs.Buffers.{written_at}
use Rattle.gse_reassembly.specs.Slots.{open_in, closed, slot_open, FitsOpen, FitsSlot}
use Rattle.gse_reassembly.specs.declared.slots.Open.{Open}
use Rattle.gse_reassembly.specs.declared.slots.Slot.{Slot}

-- bytes put after those that stand from a place on
pub put_behind : (old piece : List ℕ) (base fill : ℕ) → base + fill + length piece ≤ length old
    → take (fill + length piece) (drop base (written_at old (base + fill) piece)) ≡ take fill (drop base old) ++ piece
put_behind old piece base fill within =
    let front : length (take (base + fill) old) ≡ base + fill = length-take-le (base + fill) old (omega (arith, within)) in
    let kept : length (take fill (drop base old)) ≡ fill = length-take-le fill (drop base old) (omega (arith, within, length-drop base old)) in
    let rest : List ℕ = drop (base + fill + length piece) old in
    ap (take (fill + length piece)) (drop-append-le base (take (base + fill) old) (piece ++ rest) (omega (arith, front)) ∙ ap (λ (t : List ℕ). t ++ (piece ++ rest)) (drop-take base fill old)
    ∙ sym (append_assoc (take fill (drop base old)) piece rest))
    ∙ take_at (take fill (drop base old) ++ piece) rest (fill + length piece) (length-append (take fill (drop base old)) piece ∙ ap (λ (t : ℕ). t + length piece) kept)

-- bytes put to a place stand there
pub put_at_base : (old piece : List ℕ) (base : ℕ) → base + length piece ≤ length old → take (length piece) (drop base (written_at old base piece)) ≡ piece
put_at_base old piece base within =
    let front : length (take base old) ≡ base = length-take-le base old (omega (arith, within)) in
    ap (take (length piece)) (drop_at (take base old) (piece ++ drop (base + length piece) old) base front) ∙ take_at piece (drop (base + length piece) old) (length piece) refl

-- bytes before and after the place stay
pub put_before : (old piece : List ℕ) (at base fill : ℕ) → at ≤ length old → base + fill ≤ at → take fill (drop base (written_at old at piece)) ≡ take fill (drop base old)
put_before old piece at base fill within below =
    let front : length (take at old) ≡ at = length-take-le at old within in
    let split : base + (at - base) ≡ at = omega (arith, below) in
    let middle : drop base (take at old) ≡ take (at - base) (drop base old) = ap (λ (t : ℕ). drop base (take t old)) (sym split) ∙ drop-take base (at - base) old in
    ap (take fill) (drop-append-le base (take at old) (piece ++ drop (at + length piece) old) (omega (arith, front, below)) ∙ ap (λ (t : List ℕ). t ++ (piece ++ drop (at + length piece) old)) middle)
    ∙ take-append-le fill (take (at - base) (drop base old)) (piece ++ drop (at + length piece) old)
    (omega (arith, below, within, length-take-le (at - base) (drop base old) (omega (arith, below, within, length-drop base old))))
    ∙ take-take fill (at - base) (drop base old) (omega (arith, below))

pub put_past : (old piece : List ℕ) (at base fill : ℕ) → at ≤ length old → at + length piece ≤ base → take fill (drop base (written_at old at piece)) ≡ take fill (drop base old)
put_past old piece at base fill within above =
    let front : length (take at old ++ piece) ≡ at + length piece = length-append (take at old) piece ∙ ap (λ (t : ℕ). t + length piece) (length-take-le at old within) in
    ap (λ (t : List ℕ). take fill (drop base t)) (sym (append_assoc (take at old) piece (drop (at + length piece) old)))
    ∙ ap (take fill) (drop-append-drop (at + length piece) old (take at old ++ piece) base above front)

-- the slots of other Frag IDs stay
pub other_stays : (o : Option Open) (buffer piece : List ℕ) (id other at : ℕ) → FitsOpen o → at ≤ length buffer → id * 65540 ≤ at → at + length piece ≤ id * 65540 + 65540
    → (id ≡ other → ⊥) → open_in o other (written_at buffer at piece) ≡ open_in o other buffer
other_stays None buffer piece id other at fits within from to apart = refl
other_stays (Some o) buffer piece id other at fits within from to apart =
    ap (λ (t : List ℕ). Some (record { frame_number = o.frame_number; total = o.total; protocol = o.protocol; label = o.label; written = o.written; bytes = t })) (by_order (cases_lt other id))
  where
    by_order : (other < id) ⊎ (id ≤ other) → take o.fill (drop (other * 65540) (written_at buffer at piece)) ≡ take o.fill (drop (other * 65540) buffer)
    by_order (inl less) = put_before buffer piece at (other * 65540) o.fill within (omega (arith, less, from, fits.0, fits.1))
    by_order (inr more) = put_past buffer piece at (other * 65540) o.fill within (omega (arith, more, to, apart))

-- one slot is set: the others hold what they held
pub slot_set : (slots : List Slot) (buffer new : List ℕ) (id : ℕ) (s : Slot) (f : Option Fragments) → id < length slots → open_in s.held id new ≡ f
    → ((other : ℕ) → (id ≡ other → ⊥) → open_in (slice_index_or slots other closed).held other new ≡ open_in (slice_index_or slots other closed).held other buffer)
    → (other : ℕ) → slot_open (set slots id s) new other ≡ cond (id == other) f (slot_open slots buffer other)
slot_set slots buffer new id s f within now others other = by_id (cases_eq id other)
  where
    by_id : (id ≡ other) ⊎ (id ≡ other → ⊥) → slot_open (set slots id s) new other ≡ cond (id == other) f (slot_open slots buffer other)
    by_id (inl same) =
        let test : (id == other) ≡ true = grind (arith, same) in
        ap (λ (t : ℕ). open_in (slice_index_or (set slots id s) t closed).held t new) (sym same)
        ∙ ap (λ (t : Slot). open_in t.held id new) (get_or-set_same slots id s closed within)
        ∙ now
        ∙ sym (ap (λ (b : Bool). cond b f (slot_open slots buffer other)) test)
    by_id (inr apart) =
        let test : (id == other) ≡ false = grind (arith, apart) in
        ap (λ (t : Slot). open_in t.held other new) (get_or-set_other slots id other s closed (λ same. apart (sym same)))
        ∙ others other apart
        ∙ sym (ap (λ (b : Bool). cond b f (slot_open slots buffer other)) test)

-- no slot is past its part of the buffer
pub slot_fits : (slots : List Slot) (other : ℕ) → All FitsSlot slots → FitsSlot (slice_index_or slots other closed)
slot_fits slots other all = by_within (cases_lt other (length slots))
  where
    by_within : (other < length slots) ⊎ (length slots ≤ other) → FitsSlot (slice_index_or slots other closed)
    by_within (inl within) = All-get_or FitsSlot slots other closed within all
    by_within (inr past) = subst FitsSlot (sym (get_or_past slots other closed past)) tt

-- a buffer that keeps its length
pub length-written_at : (old piece : List ℕ) (at : ℕ) → at + length piece ≤ length old → length (written_at old at piece) ≡ length old
length-written_at old piece at within =
    length-append (take at old) (piece ++ drop (at + length piece) old)
    ∙ ap (λ (t : ℕ). length (take at old) + t) (length-append piece (drop (at + length piece) old))
    ∙ omega (arith, within, length-take-le at old (omega (arith, within)), length-drop (at + length piece) old)

pub refilled : (old buffer put piece rest : List ℕ) (size at : ℕ) → length old ≡ size → at + length piece ≤ size → put ≡ written_at buffer at piece → buffer ≡ old
    → take size (put ++ rest) ≡ written_at old at piece
refilled old buffer put piece rest size at whole within put_is same =
    let is : put ≡ written_at old at piece = put_is ∙ ap (λ (t : List ℕ). written_at t at piece) same in
    take_at put rest size (ap length is ∙ length-written_at old piece at (omega (arith, whole, within)) ∙ whole) ∙ is
