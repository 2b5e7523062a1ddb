-- The register of CRC_32 from 0 over the first bytes that a function gives.
use Rattle.std.proofs.Common.{ℕ, zero, suc, List, [], ◌∷◌, ◌≡◌, ◌+◌, ◌*◌, ◌^◌, ◌<◌, ◌≤◌, length, take, get_or, refl, ap, ap₂, sym, ◌∙◌, arith, lit<, bit_xor}
use Rattle.std.specs.Int.Bits.{xor_zero_r, xor_block, xor_lt}
use Rattle.std.proofs.Math.Seq.{take-suc}
use Rattle.division_law.specs.Registers.{crc32_byte, crc32_run}
use Rattle.division_law.proofs.Registers.{steps_none, crc32_byte_is, crc32_run-append}
use Rattle.crc_unit.proofs.Steps.{steps_low}
use Rattle.crc_unit.proofs.ByEntries.{shifts, steps-add, swap}
use Rattle.crc_unit.proofs.Multiple.{shifts_fit, shifts-xor}
use lib.Bits.{xor_assoc}

-- the register after the first n bytes
unfoldable pub run_over : (ℕ → ℕ) → ℕ → ℕ
run_over f zero = 0
run_over f (suc n) = crc32_byte (run_over f n) (f n)

-- after none it is 0
pub run_over_none : (f : ℕ → ℕ) → run_over f 0 ≡ 0
unfolding run_over
run_over_none f = refl

-- one more byte
pub run_over_more : (f : ℕ → ℕ) (n : ℕ) → run_over f (suc n) ≡ crc32_byte (run_over f n) (f n)
unfolding run_over
run_over_more f n = refl

-- it has 32 bits
pub run_over_fits : (f : ℕ → ℕ) (n : ℕ) → ((i : ℕ) → f i < 2 ^ 8) → run_over f n < 2 ^ 32
unfolding run_over
run_over_fits f zero bytes = lit< tt
run_over_fits f (suc n) bytes = (crc32_byte_is (run_over f n) (f n) (run_over_fits f n bytes) (bytes n)).1

-- a byte's step on a sum is the sum of the steps
byte-xor : (a b x y : ℕ) → a < 2 ^ 32 → b < 2 ^ 32 → x < 2 ^ 8 → y < 2 ^ 8
    → crc32_byte (bit_xor a b) (bit_xor x y) ≡ bit_xor (crc32_byte a x) (crc32_byte b y)
unfolding crc32_byte
byte-xor a b x y a_small b_small x_fits y_fits =
    let x_moved : x * 2 ^ 24 < 2 ^ 32 = omega arith in
    let y_moved : y * 2 ^ 24 < 2 ^ 32 = omega arith in
    let x_alone : x * 2 ^ 24 ≡ x * 2 ^ 24 + 0 = omega arith in
    let y_alone : y * 2 ^ 24 ≡ y * 2 ^ 24 + 0 = omega arith in
    let none : bit_xor x y * 2 ^ 24 + 0 ≡ bit_xor x y * 2 ^ 24 = omega arith in
    let moved : bit_xor (x * 2 ^ 24) (y * 2 ^ 24) ≡ bit_xor x y * 2 ^ 24 =
    ap₂ (λ k l. bit_xor k l) x_alone y_alone ∙ xor_block 24 x y 0 0 (lit< tt) (lit< tt) ∙ none in
    ap (λ t. shifts 8 (bit_xor (bit_xor a b) t)) (sym moved)
    ∙ ap (λ t. shifts 8 t) (swap a b (x * 2 ^ 24) (y * 2 ^ 24))
    ∙ shifts-xor 8 (bit_xor a (x * 2 ^ 24)) (bit_xor b (y * 2 ^ 24)) (xor_lt 32 a (x * 2 ^ 24) a_small x_moved) (xor_lt 32 b (y * 2 ^ 24) b_small y_moved)

-- over a sum of bytes it is the sum of the registers over each
pub run_over-xor : (f g h : ℕ → ℕ) (n : ℕ) → ((i : ℕ) → g i < 2 ^ 8) → ((i : ℕ) → h i < 2 ^ 8) → ((i : ℕ) → i < n → f i ≡ bit_xor (g i) (h i))
    → run_over f n ≡ bit_xor (run_over g n) (run_over h n)
unfolding run_over
run_over-xor f g h zero g_bytes h_bytes sum = refl
run_over-xor f g h (suc n) g_bytes h_bytes sum =
    ap₂ (λ x y. crc32_byte x y) (run_over-xor f g h n g_bytes h_bytes (λ i below. sum i (omega arith))) (sum n (omega arith))
    ∙ byte-xor (run_over g n) (run_over h n) (g n) (h n) (run_over_fits g n g_bytes) (run_over_fits h n h_bytes) (g_bytes n) (h_bytes n)

-- over the same bytes it is the same
pub run_over_same : (f g : ℕ → ℕ) (n : ℕ) → ((i : ℕ) → i < n → f i ≡ g i) → run_over f n ≡ run_over g n
unfolding run_over
run_over_same f g zero same = refl
run_over_same f g (suc n) same =
    ap₂ (λ x y. crc32_byte x y) (run_over_same f g n (λ i below. same i (omega arith))) (same n (omega arith))

-- over zeros it stays 0
pub run_over_zeros : (f : ℕ → ℕ) (n : ℕ) → ((i : ℕ) → i < n → f i ≡ 0) → run_over f n ≡ 0
unfolding run_over crc32_byte
run_over_zeros f zero none = refl
run_over_zeros f (suc n) none =
    ap₂ (λ x y. crc32_byte x y) (run_over_zeros f n (λ i below. none i (omega arith))) (none n (omega arith))
    ∙ steps_low 31 0x04C1_1DB7 8 0 (lit< tt)

-- first m bytes and then n more: the register after the first is shifted on, and that over the others is added
pub run_over-add : (f : ℕ → ℕ) (m n : ℕ) → ((i : ℕ) → f i < 2 ^ 8)
    → run_over f (m + n) ≡ bit_xor (shifts (8 * n) (run_over f m)) (run_over (λ i. f (i + m)) n)
unfolding run_over crc32_byte
run_over-add f m zero bytes =
    let count : m + zero ≡ m = omega arith in
    ap (λ t. run_over f t) count
    ∙ sym (steps_none 31 0x04C1_1DB7 (run_over f m))
    ∙ sym (xor_zero_r (shifts 0 (run_over f m)))
run_over-add f m (suc n) bytes =
    let count : m + suc n ≡ suc (m + n) = omega arith in
    let place : m + n ≡ n + m = omega arith in
    let more : 8 * n + 8 ≡ 8 * suc n = omega arith in
    let first : ℕ = shifts (8 * n) (run_over f m) in
    let others : ℕ = run_over (λ i. f (i + m)) n in
    let moved : ℕ = f (n + m) * 2 ^ 24 in
    let fits : f (n + m) < 2 ^ 8 = bytes (n + m) in
    let moved_small : moved < 2 ^ 32 = omega arith in
    let others_small : others < 2 ^ 32 = run_over_fits (λ i. f (i + m)) n (λ i. bytes (i + m)) in
    let first_small : first < 2 ^ 32 = shifts_fit (8 * n) (run_over f m) (run_over_fits f m bytes) in
    ap (λ t. run_over f t) count
    ∙ ap₂ (λ x y. shifts 8 (bit_xor x y)) (run_over-add f m n bytes) (ap (λ t. f t * 2 ^ 24) place)
    ∙ ap (λ t. shifts 8 t) (xor_assoc first others moved)
    ∙ shifts-xor 8 first (bit_xor others moved) first_small (xor_lt 32 others moved others_small moved_small)
    ∙ ap (λ t. bit_xor t (shifts 8 (bit_xor others moved))) (sym (steps-add (8 * n) 8 (run_over f m)) ∙ ap (λ t. shifts t (run_over f m)) more)

-- zeros after the bytes are shifts
pub run_over_then_zeros : (f : ℕ → ℕ) (m n : ℕ) → ((i : ℕ) → f i < 2 ^ 8) → ((i : ℕ) → i < n → f (i + m) ≡ 0)
    → run_over f (m + n) ≡ shifts (8 * n) (run_over f m)
run_over_then_zeros f m n bytes none =
    run_over-add f m n bytes
    ∙ ap (λ t. bit_xor (shifts (8 * n) (run_over f m)) t) (run_over_zeros (λ i. f (i + m)) n none)
    ∙ xor_zero_r (shifts (8 * n) (run_over f m))

-- over a list's first n bytes
pub run_over_list : (bytes : List ℕ) (n : ℕ) → n ≤ length bytes → run_over (λ i. get_or bytes i 0) n ≡ crc32_run 0 (take n bytes)
unfolding run_over
run_over_list bytes zero within = refl
run_over_list bytes (suc n) within =
    ap (λ r. crc32_byte r (get_or bytes n 0)) (run_over_list bytes n (omega arith))
    ∙ sym (ap (λ l. crc32_run 0 l) (take-suc bytes n 0 (omega arith)) ∙ crc32_run-append 0 (take n bytes) (get_or bytes n 0 ∷ []))
