-- The bytes that are written for a section: their length, their span, their check.
use Rattle.std.proofs.Common.{◌≡◌, ℕ, ◌+◌, ◌*◌, ◌/◌, ◌%◌, ◌^◌, ◌<◌, ◌≤◌, true, false, List, [], ◌++◌, length, refl, ap, sym, ◌∙◌, length-append, arith, eq-eqb}
use Rattle.std.specs.Prelude.{slice_index, ◌==◌, nat_le}
use Rattle.std.specs.Int.{w32, to_be_bytes}
use Rattle.std.proofs.lemmas.Bool.{ne_eqb, le-ltb, le-leb}
use Rattle.std.proofs.lemmas.List.{append-nil}
use Rattle.wire_spec.specs.Crc.{crc32_remainder}
use Rattle.crc_law.proofs.CheckSum.{written_crc_is_right}
use Rattle.ts_spec.specs.Form.{IsUnit, whole}
use Rattle.section_spec.specs.Section.{IsWritableSection, section_form, section_span, section_front, section_bytes, section_length, section_check, has_syntax, has_bad_length, has_right_length, is_section}

-- the length in two bytes that were written of it and of the bits before it
length_told : (top size : ℕ) → top < 0x100 → top % 16 ≡ 0 → size ≤ 4093
    → ((top * 256 + size) / 256 % 256 * 256 + (top * 256 + size) % 256) % 2 ^ 12 ≡ size
length_told top size byte half most = omega arith

syntax_told : (top size : ℕ) → 0x80 ≤ top → top < 0x100 → top % 16 ≡ 0 → size ≤ 4093 → nat_le 0x80 ((top * 256 + size) / 256 % 256) ≡ true
syntax_told top size syntax byte half most = le-leb 0x80 ((top * 256 + size) / 256 % 256) (omega arith)

pub length-section_bytes : (table_id top : ℕ) (body : List ℕ) → length (section_bytes table_id top body) ≡ length body + 7
length-section_bytes table_id top body =
    omega (arith, length-append body (to_be_bytes w32 (crc32_remainder 0xFFFF_FFFF (section_front table_id top body))))

-- a length that a section can have
no_bad_length : (b : List ℕ) (n : ℕ) → section_length b ≡ n → has_syntax b ≡ true → 9 ≤ n → n ≤ 4093 → has_bad_length b ≡ false
no_bad_length b n field syntax least most = rw (field, syntax, le-ltb 4093 n most, le-ltb n 9 least) refl

span_of_length : (b : List ℕ) (n size : ℕ) → slice_index b 0 < 0xFF → 3 ≤ length b → section_length b ≡ n → has_syntax b ≡ true → 9 ≤ n → n ≤ 4093
    → 3 + n ≡ size → section_span b ≡ whole size
span_of_length b n size first three field syntax least most e =
    let no_stuffing : (slice_index b 0 == 0xFF) ≡ false = ne_eqb (slice_index b 0) 0xFF (λ h. omega (arith, h, first)) in
    rw (no_stuffing, le-ltb (length b) 3 three, no_bad_length b n field syntax least most, field) (ap whole e)

-- the span of a written section is its length, whatever follows
pub section_span-section_bytes : (table_id top : ℕ) (body rest : List ℕ) → IsWritableSection table_id top body
    → section_span (section_bytes table_id top body ++ rest) ≡ whole (length (section_bytes table_id top body))
section_span-section_bytes table_id top body rest it =
    let most : length body + 4 ≤ 4093 = omega (arith, it.most) in
    span_of_length (section_bytes table_id top body ++ rest) (length body + 4) (length (section_bytes table_id top body)) it.table_id_is (omega arith)
    (length_told top (length body + 4) it.byte it.upper_half most) (syntax_told top (length body + 4) it.syntax it.byte it.upper_half most)
    (omega (arith, it.least)) most (omega (arith, length-section_bytes table_id top body))

section_check-section_bytes : (table_id top : ℕ) (body : List ℕ) → IsWritableSection table_id top body
    → section_check (section_bytes table_id top body) ≡ true
section_check-section_bytes table_id top body it =
    let syntax : has_syntax (section_bytes table_id top body) ≡ true =
    syntax_told top (length body + 4) it.syntax it.byte it.upper_half (omega (arith, it.most)) in
    rw (syntax, written_crc_is_right (section_front table_id top body)) refl

right_length : (b : List ℕ) (n : ℕ) → section_length b ≡ n → 9 ≤ n → n ≤ 4093 → length b ≡ 3 + n → has_right_length b ≡ true
right_length b n field least most size = rw field (rw (le-leb 9 n least, le-leb n 4093 most, eq-eqb (length b) (3 + n) size) refl)

pub is_section-section_bytes : (table_id top : ℕ) (body : List ℕ) → IsWritableSection table_id top body
    → is_section (section_bytes table_id top body) ≡ true
is_section-section_bytes table_id top body it =
    let most : length body + 4 ≤ 4093 = omega (arith, it.most) in
    let size : has_right_length (section_bytes table_id top body) ≡ true =
    right_length (section_bytes table_id top body) (length body + 4) (length_told top (length body + 4) it.byte it.upper_half most)
    (omega (arith, it.least)) most (omega (arith, length-section_bytes table_id top body)) in
    rw (size, section_check-section_bytes table_id top body it) refl

pub unit-section_bytes : (table_id top : ℕ) (body : List ℕ) → IsWritableSection table_id top body → IsUnit section_form (section_bytes table_id top body)
unit-section_bytes table_id top body it =
    let unit : List ℕ = section_bytes table_id top body in
    record {
      size = sym (ap section_span (append-nil unit)) ∙ section_span-section_bytes table_id top body [] it;
      checked = section_check-section_bytes table_id top body it;
    }
