-- What a last fragment finds, and what it leaves open.
use Rattle.std.proofs.Common.{◌≡◌, ◌≢◌, ◌⊎◌, inl, inr, ℕ, ◌+◌, ◌*◌, ◌-◌, ◌<◌, ◌≤◌, Bool, true, false, not, cond, Option, Some, None, List, ◌++◌, length, take, drop, refl, ap, sym, ◌∙◌, subst, arith}
use Rattle.std.specs.Prelude.{slice_index_or, All, ◌==◌, nat_le, nat_lt}
use Rattle.std.proofs.Math.ListN.{set}
use Rattle.std.proofs.lemmas.Bool.{cases_eq}
use Rattle.gse_spec.specs.Packet.{end_packet}
use Rattle.gse_spec.specs.Reassembly.{Fragments, with_bytes, fits, is_late, has_right_total, has_crc, covered, Outcome, reassembled, no_start, late, wrong_total, wrong_crc, outcome_after}
use Rattle.gse_spec.specs.Slots.{open_after}
use Rattle.wire_spec.specs.Crc.{crc32_remainder}
use Rattle.std.specs.Borrow.{Bor}
use Rattle.gse_reassembly.specs.Outcomes.{Tells}
use Rattle.gse_reassembly.specs.declared.slots.Outcome.TheVariants as answer
use Rattle.gse_reassembly.specs.Buffers.{written_at}
use Rattle.gse_reassembly.specs.Slots.{SlotsState, open_on, fragments_in, closed, slot_open, FitsSlot}
use Rattle.gse_reassembly.specs.declared.slots.Open.{Open}
use Rattle.gse_reassembly.specs.declared.slots.Slot.{Slot}
use Rattle.gse_reassembly.proofs.Parts.{put_behind, other_stays, slot_set, slot_fits}
use Rattle.gse_reassembly.proofs.Steps.{slot_closed, filled, longer, held, was_open, held_fits}

le_true : (a b : ℕ) → a ≤ b → nat_le a b ≡ true
le_true a b le = grind (arith, le)

lt_true : (a b : ℕ) → a < b → nat_lt a b ≡ true
lt_true a b less = grind (arith, less)

lt_false : (a b : ℕ) → b ≤ a → nat_lt a b ≡ false
lt_false a b le = grind (arith, le)

eq_true : (a b : ℕ) → a ≡ b → (a == b) ≡ true
eq_true a b same = grind (arith, same)

eq_false : (a b : ℕ) → a ≢ b → (a == b) ≡ false
eq_false a b other = grind (arith, other)

-- the tests of an outcome
abbrev outcome_if : Bool → Bool → Bool → Bool → Fragments → Outcome
outcome_if fit is_late_now total crc f = cond (not fit) no_start (cond is_late_now late (cond (not total) wrong_total (cond (not crc) wrong_crc (reassembled f))))

module _ (slots : List Slot) (buffer pdu : List ℕ) (id frame_number : ℕ) (count : length slots ≡ 256) (size : length buffer ≡ 16778240) (all : All FitsSlot slots) (within : id < 256) (crc : ℕ)
    (o : Open) (is : (slice_index_or slots id closed).held ≡ Some o) where
  -- all fragments
  abbrev whole : Fragments
  whole = with_bytes pdu (fragments_in o id buffer)

  fits_now : fits (fragments_in o id buffer) ≡ true
  fits_now =
      le_true (2 + o.written + length (take o.fill (drop (id * 65540) buffer))) o.total
      (omega (arith, (held slots buffer pdu id frame_number count size all within o is).0, filled slots buffer pdu id frame_number count size all within o is))

  told : (l t c : Bool) → is_late frame_number (fragments_in o id buffer) ≡ l → has_right_total whole ≡ t → has_crc crc whole ≡ c
      → outcome_after (slot_open slots buffer id) frame_number pdu crc ≡ outcome_if true l t c whole
  told l t c late_is total_is crc_is =
      ap (λ (x : Option Fragments). outcome_after x frame_number pdu crc) (was_open slots buffer pdu id frame_number count size all within o is)
      ∙ ap (λ (b : Bool). outcome_if b (is_late frame_number (fragments_in o id buffer)) (has_right_total whole) (has_crc crc whole) whole) fits_now
      ∙ ap (λ (b : Bool). outcome_if true b (has_right_total whole) (has_crc crc whole) whole) late_is
      ∙ ap (λ (b : Bool). outcome_if true l b (has_crc crc whole) whole) total_is
      ∙ ap (λ (b : Bool). outcome_if true l t b whole) crc_is

  pub end_late : o.frame_number + 256 < frame_number → outcome_after (slot_open slots buffer id) frame_number pdu crc ≡ late
  end_late less = told true (has_right_total whole) (has_crc crc whole) (lt_true (o.frame_number + 256) frame_number less) refl refl

  pub end_total : frame_number ≤ o.frame_number + 256 → 2 + o.written + (o.fill + length pdu) ≢ o.total → outcome_after (slot_open slots buffer id) frame_number pdu crc ≡ wrong_total
  end_total near other =
      told false false (has_crc crc whole) (lt_false (o.frame_number + 256) frame_number near)
      (eq_false (2 + o.written + length (take o.fill (drop (id * 65540) buffer) ++ pdu)) o.total
      (λ same. other (omega (arith, same, longer slots buffer pdu id frame_number count size all within o is)))) refl

  right_total : 2 + o.written + (o.fill + length pdu) ≡ o.total → has_right_total whole ≡ true
  right_total same =
      eq_true (2 + o.written + length (take o.fill (drop (id * 65540) buffer) ++ pdu)) o.total (omega (arith, same, longer slots buffer pdu id frame_number count size all within o is))

  pub end_crc : frame_number ≤ o.frame_number + 256 → 2 + o.written + (o.fill + length pdu) ≡ o.total → crc32_remainder 0xFFFFFFFF (covered whole) ≢ crc
      → outcome_after (slot_open slots buffer id) frame_number pdu crc ≡ wrong_crc
  end_crc near same other =
      told false true false (lt_false (o.frame_number + 256) frame_number near) (right_total same) (eq_false (crc32_remainder 0xFFFFFFFF (covered whole)) crc other)

  pub end_whole : frame_number ≤ o.frame_number + 256 → 2 + o.written + (o.fill + length pdu) ≡ o.total → crc32_remainder 0xFFFFFFFF (covered whole) ≡ crc
      → outcome_after (slot_open slots buffer id) frame_number pdu crc ≡ reassembled whole
  end_whole near same right =
      told false true true (lt_false (o.frame_number + 256) frame_number near) (right_total same) (eq_true (crc32_remainder 0xFFFFFFFF (covered whole)) crc right)

module _ (slots : List Slot) (buffer : List ℕ) (id frame_number : ℕ) (pdu : List ℕ) (crc : ℕ) where
  pub end_none : slot_open slots buffer id ≡ None → (other : ℕ) → slot_open slots buffer other ≡ open_after other frame_number (end_packet id pdu crc) (slot_open slots buffer other)
  end_none is other = by_id (cases_eq id other)
    where
      by_id : (id ≡ other) ⊎ (id ≡ other → ⊥) → slot_open slots buffer other ≡ open_after other frame_number (end_packet id pdu crc) (slot_open slots buffer other)
      by_id (inl same) =
          ap (slot_open slots buffer) (sym same) ∙ is
          ∙ sym (ap (λ (b : Bool). cond b None (slot_open slots buffer other)) (eq_true id other same))
      by_id (inr apart) = sym (ap (λ (b : Bool). cond b None (slot_open slots buffer other)) (eq_false id other apart))

  -- bytes written to the part of a Frag ID that is closed
  pub end_written : (piece : List ℕ) (at : ℕ) → length slots ≡ 256 → length buffer ≡ 16778240 → All FitsSlot slots → id < 256 → id * 65540 ≤ at → at + length piece ≤ id * 65540 + 65540
      → (other : ℕ) → slot_open (set slots id closed) (written_at buffer at piece) other ≡ open_after other frame_number (end_packet id pdu crc) (slot_open slots buffer other)
  end_written piece at count size all within from to other =
      slot_set slots buffer (written_at buffer at piece) id closed None (omega (arith, count, within)) refl
      (λ k apart. other_stays (slice_index_or slots k closed).held buffer piece id k at (slot_fits slots k all) (omega (arith, size, within, to)) from to apart) other

-- The same of the slots as they are seen.

module _ (now : SlotsState) (slots : List Slot) (buffer pdu : List ℕ) (id at frame_number : ℕ) (now_is : record { frame_number = frame_number; slots = slots; buffer = buffer } ≡ now) (at_is : at ≡ id)
    (count : length slots ≡ 256) (size : length buffer ≡ 16778240) (all : All FitsSlot slots) (within : id < 256) (crc : ℕ) where
  -- what is told of the slots is told of them as they are seen
  seen : (told : Outcome) → outcome_after (slot_open slots buffer id) frame_number pdu crc ≡ told → outcome_after (open_on now id) now.frame_number pdu crc ≡ told
  seen told is = subst (λ (n : SlotsState). outcome_after (open_on n id) n.frame_number pdu crc ≡ told) now_is is

  pub closed_now : (other : ℕ) → slot_open (set slots at closed) buffer other ≡ cond (id == other) None (open_on now other)
  closed_now other =
      subst (λ (n : SlotsState). slot_open (set slots at closed) buffer other ≡ cond (id == other) None (open_on n other)) now_is
      (subst (λ (a : ℕ). slot_open (set slots a closed) buffer other ≡ cond (id == other) None (slot_open slots buffer other)) (sym at_is)
      (slot_closed slots buffer id (omega (arith, count, within)) other))

  module _ (o : Open) (is_at : (slice_index_or slots at closed).held ≡ Some o) where
    is : (slice_index_or slots id closed).held ≡ Some o
    is = ap (λ (a : ℕ). (slice_index_or slots a closed).held) (sym at_is) ∙ is_at

    pub total_now : frame_number - o.frame_number ≤ 256 → 2 + o.written + (o.fill + length pdu) ≢ o.total → outcome_after (open_on now id) now.frame_number pdu crc ≡ wrong_total
    total_now near other = seen wrong_total (end_total slots buffer pdu id frame_number count size all within crc o is (omega (arith, near)) other)

    module _ (new bytes : List ℕ) (new_is : new ≡ written_at buffer (at * 65540 + o.fill) pdu) (bytes_is : bytes ≡ take (o.fill + length pdu) (drop (at * 65540) new))
        (near : frame_number - o.frame_number ≤ 256) (whole_size : 2 + o.written + (o.fill + length pdu) ≡ o.total) where
      whole_bytes : bytes ≡ take o.fill (drop (id * 65540) buffer) ++ pdu
      whole_bytes =
          bytes_is
          ∙ ap (λ (t : List ℕ). take (o.fill + length pdu) (drop (at * 65540) t)) new_is
          ∙ ap (λ (a : ℕ). take (o.fill + length pdu) (drop (a * 65540) (written_at buffer (a * 65540 + o.fill) pdu))) at_is
          ∙ put_behind buffer pdu (id * 65540) o.fill (omega (arith, size, within, whole_size, (held_fits slots id o all is).1))

      abbrev all_fragments : Fragments
      all_fragments = record { frame_number = o.frame_number; total = o.total; protocol = o.protocol; label = o.label; written = o.written; bytes = bytes }

      whole_is : with_bytes pdu (fragments_in o id buffer) ≡ all_fragments
      whole_is = ap (λ (t : List ℕ). record { frame_number = o.frame_number; total = o.total; protocol = o.protocol; label = o.label; written = o.written; bytes = t }) (sym whole_bytes)

      pub closed_written : (other : ℕ) → slot_open (set slots at closed) new other ≡ cond (id == other) None (open_on now other)
      closed_written other =
          subst (λ (n : SlotsState). slot_open (set slots at closed) new other ≡ cond (id == other) None (open_on n other)) now_is
          (subst (λ (t : List ℕ). slot_open (set slots at closed) t other ≡ cond (id == other) None (slot_open slots buffer other)) (sym new_is)
          (subst (λ (a : ℕ). slot_open (set slots a closed) (written_at buffer (a * 65540 + o.fill) pdu) other ≡ cond (id == other) None (slot_open slots buffer other)) (sym at_is)
          (end_written slots buffer id frame_number pdu crc pdu (id * 65540 + o.fill) count size all within (omega arith) (omega (arith, whole_size, (held_fits slots id o all is).1)) other)))

      module _ (sum : ℕ) (sum_is : sum ≡ crc32_remainder 0xFFFFFFFF (covered all_fragments)) where
        pub crc_now : sum ≢ crc → outcome_after (open_on now id) now.frame_number pdu crc ≡ wrong_crc
        crc_now other =
            seen wrong_crc (end_crc slots buffer pdu id frame_number count size all within crc o is (omega (arith, near)) whole_size
            (λ same. other (sum_is ∙ ap (λ (t : Fragments). crc32_remainder 0xFFFFFFFF (covered t)) (sym whole_is) ∙ same)))

        pub whole_now : sum ≡ crc → outcome_after (open_on now id) now.frame_number pdu crc ≡ reassembled all_fragments
        whole_now same =
            seen (reassembled all_fragments)
            (end_whole slots buffer pdu id frame_number count size all within crc o is (omega (arith, near)) whole_size
            (ap (λ (t : Fragments). crc32_remainder 0xFFFFFFFF (covered t)) whole_is ∙ sym sum_is ∙ same)
            ∙ ap reassembled whole_is)

-- the answer of a whole PDU
pub told_whole : (o : Open) (bytes : List ℕ) (told : Outcome) (lent : Bor (List ℕ)) → lent.now ≡ bytes
    → told ≡ reassembled (record { frame_number = o.frame_number; total = o.total; protocol = o.protocol; label = o.label; written = o.written; bytes = bytes })
    → Tells (answer.Pdu o.protocol o.label lent) told
told_whole o bytes told lent same is = subst (Tells (answer.Pdu o.protocol o.label lent)) (sym is) (refl, refl, same)
