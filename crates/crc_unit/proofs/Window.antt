-- The window of a division: before it begins, four bytes and zeros; then bytes throughout.
use Rattle.std.proofs.Common.{ℕ, zero, suc, List, [], ◌∷◌, ◌++◌, ◌≡◌, ◌+◌, ◌-◌, ◌/◌, ◌%◌, ◌^◌, ◌<◌, ◌≤◌, lit<, length, drop, get_or, bit_xor, below_more, refl, ap, ap₂, sym, ◌∙◌, arith}
use Rattle.std.specs.Prelude.{replicate}
use Rattle.std.proofs.lemmas.List.Elements.{All-nil, All-cons, All-head, All-tail}
use Rattle.wire_spec.specs.Bytes.{AreBytes}
use Rattle.crc_unit.specs.FiveTerms.{left_at}
use Rattle.std.specs.Int.Bits.{xor_lt}
use Rattle.std.proofs.lemmas.List.{get_or-drop, get_or-append_right, get_or-set_other, get_or-set_same}
use Rattle.std.proofs.Math.ListN.{set}

-- zeros, and after them what is read of none
pub get_or-zeros : (n i : ℕ) → get_or {A = ℕ} (replicate n 0) i 0 ≡ 0
get_or-zeros zero i = refl
get_or-zeros (suc n) zero = refl
get_or-zeros (suc n) (suc i) = get_or-zeros n i

-- after four bytes that are written over the first of zeros, zeros are left
pub zeros_behind : (window own : List ℕ) (i : ℕ) → ((i : ℕ) → get_or window i 0 ≡ 0) → length own ≡ 4 → 4 ≤ i → get_or (own ++ drop 4 window) i 0 ≡ 0
zeros_behind window own i zeros long least =
    get_or-append_right own (drop 4 window) 4 i 0 long least ∙ get_or-drop 4 window (i - 4) 0 ∙ zeros (4 + (i - 4))

-- the four bytes of a register are bytes
pub four_bytes : (r : ℕ) → AreBytes (r / 2 ^ 24 % 2 ^ 8 ∷ r / 2 ^ 16 % 2 ^ 8 ∷ r / 2 ^ 8 % 2 ^ 8 ∷ r % 2 ^ 8 ∷ [])
four_bytes r =
    All-cons (λ x. x < 256) (r / 2 ^ 24 % 2 ^ 8) (r / 2 ^ 16 % 2 ^ 8 ∷ r / 2 ^ 8 % 2 ^ 8 ∷ r % 2 ^ 8 ∷ []) (omega arith)
    (All-cons (λ x. x < 256) (r / 2 ^ 16 % 2 ^ 8) (r / 2 ^ 8 % 2 ^ 8 ∷ r % 2 ^ 8 ∷ []) (omega arith)
    (All-cons (λ x. x < 256) (r / 2 ^ 8 % 2 ^ 8) (r % 2 ^ 8 ∷ []) (omega arith)
    (All-cons (λ x. x < 256) (r % 2 ^ 8) [] (omega arith) (All-nil (λ x. x < 256)))))

-- what is read of a list of bytes is a byte, after its end too
pub reads_fit : (bytes : List ℕ) → AreBytes bytes → (i : ℕ) → get_or bytes i 0 < 2 ^ 8
reads_fit [] all i = lit< tt
reads_fit (byte ∷ rest) all zero = All-head (λ x. x < 256) byte rest all
reads_fit (byte ∷ rest) all (suc i) = reads_fit rest (All-tail (λ x. x < 256) byte rest all) i

-- what is left of a byte is a byte
pub left_fits : (window : List ℕ) (place byte : ℕ) → ((i : ℕ) → get_or window i 0 < 2 ^ 8) → byte < 2 ^ 8 → left_at window place byte < 2 ^ 8
left_fits window place byte reads fits =
    let a : ℕ = get_or window (place + 155) 0 in
    let b : ℕ = get_or window (place + 117) 0 in
    let c : ℕ = get_or window (place + 89) 0 in
    xor_lt 8 (bit_xor (bit_xor (bit_xor byte a) b) c) (get_or window place 0)
    (xor_lt 8 (bit_xor (bit_xor byte a) b) c (xor_lt 8 (bit_xor byte a) b (xor_lt 8 byte a fits (reads (place + 155))) (reads (place + 117))) (reads (place + 89)))
    (reads place)

-- a byte written after all that is subtracted at a place changes nothing of what is left there
left_at-set : (window : List ℕ) (at value place byte : ℕ) → place + 155 < at → left_at (set window at value) place byte ≡ left_at window place byte
left_at-set window at value place byte beyond =
    let same : (i : ℕ) → i < at → get_or (set window at value) i 0 ≡ get_or window i 0 = λ i below. get_or-set_other window at i value 0 (λ equal. omega arith) in
    ap₂ (λ x y. bit_xor x y)
    (ap₂ (λ x y. bit_xor x y)
    (ap₂ (λ x y. bit_xor x y)
    (ap (λ t. bit_xor byte t) (same (place + 155) beyond))
    (same (place + 117) (omega arith)))
    (same (place + 89) (omega arith)))
    (same place (omega arith))

-- one more byte of the quotient
pub quotient_more : (bytes window : List ℕ) (place value : ℕ) → place + 300 < length window → value ≡ left_at window place (get_or bytes place 0)
    → ((i : ℕ) → i < place → get_or window (i + 300) 0 ≡ left_at window i (get_or bytes i 0))
    → (i : ℕ) → i < place + 1 → get_or (set window (place + 300) value) (i + 300) 0 ≡ left_at (set window (place + 300) value) i (get_or bytes i 0)
quotient_more bytes window place value within is so_far =
    let kept : (i : ℕ) → i < place + 1 → left_at (set window (place + 300) value) i (get_or bytes i 0) ≡ left_at window i (get_or bytes i 0) =
    λ i below. left_at-set window (place + 300) value i (get_or bytes i 0) (omega arith) in
    below_more (λ i. get_or (set window (place + 300) value) (i + 300) 0 ≡ left_at (set window (place + 300) value) i (get_or bytes i 0)) place
    (λ i below. get_or-set_other window (place + 300) (i + 300) value 0 (λ equal. omega arith) ∙ so_far i below ∙ sym (kept i (omega arith)))
    (get_or-set_same window (place + 300) value 0 within ∙ is ∙ sym (kept place (omega arith)))
