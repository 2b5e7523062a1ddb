-- The bytes that are written for an SNDU: their length, their span, their check, their fields.
use Rattle.std.proofs.Common.{◌≡◌, ℕ, ◌+◌, ◌-◌, ◌*◌, ◌/◌, ◌%◌, ◌^◌, ◌<◌, ◌≤◌, Bool, true, false, Option, Some, None, List, [], ◌∷◌, ◌++◌, length, take, drop, refl, ap, sym, ◌∙◌, length-append, arith, eq-eqb, eqb-true}
use Rattle.std.specs.Prelude.{◌&&◌, ◌==◌, nat_lt, nat_le, if◌then◌else◌}
use Rattle.std.specs.Int.{w32, to_be_bytes}
use Rattle.std.proofs.lemmas.Bool.{ne_eqb, le-ltb, le-leb, lt-leb}
use Rattle.std.proofs.lemmas.List.{append-nil, take_at}
use Rattle.wire_spec.specs.Bytes.{u16_at, six_at}
use Rattle.wire_spec.specs.Crc.{crc32_remainder}
use Rattle.crc_law.proofs.CheckSum.{written_crc_is_right}
use Rattle.ts_spec.specs.Form.{whole}
use Rattle.ts_spec.specs.Sndu.{sndu_span, sndu_fields, sndu_front, sndu_bytes, address_bytes, lacks_address, length_field, least_length, is_end_indicator, has_right_length, is_whole_of, is_sndu}
use Rattle.ule_unit.specs.Writable.{IsWritable}

-- the number in the bytes that were written of it
two_bytes : (n : ℕ) → n < 2 ^ 16 → n / 256 % 256 * 256 + n % 256 ≡ n
two_bytes n below = omega arith

-- D as the first of the two bytes has it
has_d : (n : ℕ) → 2 ^ 15 ≤ n → n < 2 ^ 16 → nat_le 0x80 (n / 256 % 256) ≡ true
has_d n least below = le-leb 0x80 (n / 256 % 256) (omega arith)

has_no_d : (n : ℕ) → n < 2 ^ 15 → nat_le 0x80 (n / 256 % 256) ≡ false
has_no_d n below = lt-leb 0x80 (n / 256 % 256) (omega arith)

-- two bytes that are not FF both
not_both : (x y : ℕ) (b : Bool) → x * 256 + y < 65535 → (x == 0xFF) ≡ b → (b && (y == 0xFF)) ≡ false
not_both x y false below e = refl
not_both x y true below e = ne_eqb y 0xFF (λ h. omega (arith, eqb-true x 0xFF e))

-- a number in two bytes, with more after it
abbrev numbered : ℕ → List ℕ → List ℕ
numbered n tail = n / 256 % 256 ∷ n % 256 ∷ tail

-- the span that it tells, where Length has room for what stands after Type at least
span_of_numbered : (n size : ℕ) (lacks : Bool) (tail : List ℕ) → n < 65535 → nat_le 0x80 (n / 256 % 256) ≡ lacks
    → (if lacks then 4 else 10) ≤ n % 2 ^ 15 → 4 + n % 2 ^ 15 ≡ size → sndu_span (numbered n tail) ≡ whole size
span_of_numbered n size lacks tail below d least e =
    let bytes : List ℕ = numbered n tail in
    let same : n / 256 % 256 * 256 + n % 256 ≡ n = two_bytes n (omega arith) in
    let two : nat_lt (length bytes) 2 ≡ false = le-ltb (length bytes) 2 (omega arith) in
    let no_end : is_end_indicator bytes ≡ false = not_both (n / 256 % 256) (n % 256) _ (omega arith) refl in
    let field : length_field bytes ≡ n % 2 ^ 15 = ap (λ (k : ℕ). k % 2 ^ 15) same in
    let room : nat_lt (length_field bytes) (least_length bytes) ≡ false =
    rw (field, d) (le-ltb (n % 2 ^ 15) (if lacks then 4 else 10) least) in
    rw (two, no_end, room, field) (ap whole e)

-- what stands after Type
abbrev behind_type : List ℕ → List ℕ → ℕ → List ℕ
behind_type address pdu sum = address ++ pdu ++ to_be_bytes w32 sum

length-behind : (address pdu : List ℕ) (sum : ℕ) → length (behind_type address pdu sum) ≡ length address + length pdu + 4
length-behind address pdu sum = omega (arith, length-append (address ++ pdu) (to_be_bytes w32 sum), length-append address pdu)

pub length-sndu_bytes : (npa : Option (List ℕ)) (first_type : ℕ) (pdu : List ℕ)
    → length (sndu_bytes npa first_type pdu) ≡ 8 + length (address_bytes npa) + length pdu
length-sndu_bytes npa first_type pdu =
    omega (arith, length-behind (address_bytes npa) pdu (crc32_remainder 0xFFFF_FFFF (sndu_front npa first_type pdu)))

-- the span of a written SNDU is its length, whatever follows
pub sndu_span-sndu_bytes : (npa : Option (List ℕ)) (first_type : ℕ) (pdu rest : List ℕ) → IsWritable npa first_type pdu
    → sndu_span (sndu_bytes npa first_type pdu ++ rest) ≡ whole (length (sndu_bytes npa first_type pdu))
sndu_span-sndu_bytes None first_type pdu rest writable =
    let n : ℕ = 2 ^ 15 + (length pdu + 4) in
    let size : length pdu ≤ 32757 = writable.size in
    span_of_numbered n (length (sndu_bytes None first_type pdu)) true (drop 2 (sndu_bytes None first_type pdu ++ rest)) (omega arith) (has_d n (omega arith) (omega arith)) (omega arith)
    (omega (arith, length-sndu_bytes None first_type pdu))
sndu_span-sndu_bytes (Some npa) first_type pdu rest writable =
    let n : ℕ = length npa + length pdu + 4 in
    let size : length pdu ≤ 32757 = writable.size in
    let six : length npa ≡ 6 = writable.address in
    span_of_numbered n (length (sndu_bytes (Some npa) first_type pdu)) false (drop 2 (sndu_bytes (Some npa) first_type pdu ++ rest)) (omega arith) (has_no_d n (omega arith)) (omega arith)
    (omega (arith, length-sndu_bytes (Some npa) first_type pdu))

pub is_sndu-sndu_bytes : (npa : Option (List ℕ)) (first_type : ℕ) (pdu : List ℕ) → IsWritable npa first_type pdu
    → is_sndu (sndu_bytes npa first_type pdu) ≡ true
is_sndu-sndu_bytes npa first_type pdu writable =
    let unit : List ℕ = sndu_bytes npa first_type pdu in
    let span : sndu_span unit ≡ whole (length unit) =
    sym (ap sndu_span (append-nil unit)) ∙ sndu_span-sndu_bytes npa first_type pdu [] writable in
    let size : has_right_length unit ≡ true = ap (is_whole_of (length unit)) span ∙ eq-eqb (length unit) (length unit) refl in
    rw (size, written_crc_is_right (sndu_front npa first_type pdu)) refl

-- the fields of bytes without an address, and with one
fields_without : (bytes pdu : List ℕ) (first_type : ℕ) → lacks_address bytes ≡ true → u16_at bytes 2 ≡ first_type
    → take (length bytes - 4 - 4) (drop 4 bytes) ≡ pdu
    → sndu_fields bytes ≡ record { npa = None; first_type = first_type; bytes = pdu }
fields_without bytes pdu first_type lacks kind rest = rw lacks (λ i. record { npa = None; first_type = kind i; bytes = rest i })

fields_with : (bytes npa pdu : List ℕ) (first_type : ℕ) → lacks_address bytes ≡ false → u16_at bytes 2 ≡ first_type → six_at bytes 4 ≡ npa
    → take (length bytes - 4 - 10) (drop 10 bytes) ≡ pdu
    → sndu_fields bytes ≡ record { npa = Some npa; first_type = first_type; bytes = pdu }
fields_with bytes npa pdu first_type has kind address rest = rw has (λ i. record { npa = Some (address i); first_type = kind i; bytes = rest i })

pub sndu_fields-sndu_bytes : (npa : Option (List ℕ)) (first_type : ℕ) (pdu : List ℕ) → IsWritable npa first_type pdu
    → sndu_fields (sndu_bytes npa first_type pdu) ≡ record { npa = npa; first_type = first_type; bytes = pdu }
sndu_fields-sndu_bytes None first_type pdu writable =
    let unit : List ℕ = sndu_bytes None first_type pdu in
    let n : ℕ = 2 ^ 15 + (length pdu + 4) in
    let size : length pdu ≤ 32757 = writable.size in
    let left : length pdu ≡ length unit - 4 - 4 = omega (arith, length-sndu_bytes None first_type pdu) in
    fields_without unit pdu first_type (has_d n (omega arith) (omega arith)) (two_bytes first_type writable.sixteen_bits)
    (take_at pdu (to_be_bytes w32 (crc32_remainder 0xFFFF_FFFF (sndu_front None first_type pdu))) (length unit - 4 - 4) left)
sndu_fields-sndu_bytes (Some (a ∷ b ∷ c ∷ d ∷ e ∷ f ∷ [])) first_type pdu writable =
    let npa : List ℕ = a ∷ b ∷ c ∷ d ∷ e ∷ f ∷ [] in
    let unit : List ℕ = sndu_bytes (Some npa) first_type pdu in
    let n : ℕ = 6 + length pdu + 4 in
    let size : length pdu ≤ 32757 = writable.size in
    let left : length pdu ≡ length unit - 4 - 10 = omega (arith, length-sndu_bytes (Some npa) first_type pdu) in
    fields_with unit npa pdu first_type (has_no_d n (omega arith)) (two_bytes first_type writable.sixteen_bits) refl
    (take_at pdu (to_be_bytes w32 (crc32_remainder 0xFFFF_FFFF (sndu_front (Some npa) first_type pdu))) (length unit - 4 - 10) left)
sndu_fields-sndu_bytes (Some _) first_type pdu writable = absurd (omega (arith, writable.address))
