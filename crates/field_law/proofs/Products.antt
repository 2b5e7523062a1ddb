-- Sums, shifts and logarithms of bytes: such sums are additive, and each byte but 0 is 1 after some shifts.
use Rattle.std.proofs.Common.{ℕ, zero, suc, List, [], ◌∷◌, ◌≡◌, ◌+◌, ◌*◌, ◌/◌, ◌%◌, ◌^◌, ◌<◌, ◌≤◌, ◌==◌, get_or, refl, ap, ap₂, sym, ◌∙◌, arith, Bool, true, false, bit_xor, lit<, ◌&&◌, ◌||◌}
use Rattle.std.specs.Prelude.{if◌then◌else◌, nat_lt}
use Rattle.std.specs.Int.{bit_at}
use Rattle.std.specs.Int.Bits.{xor_zero_r, xor_self, xor_assoc, xor_shifted}
use Rattle.std.proofs.lemmas.Nat.{xor_comm, mod-pow-add}
use Rattle.std.proofs.lemmas.Nat.Bits.{bit_at_xor, bit_at-lt}
use Rattle.std.proofs.lemmas.Bool.{agree_below, agree_below_at, eqb-true}
use Rattle.std.proofs.Math.Nat.{mod-eq_of_lt, mod-lt}
use Rattle.std.proofs.Math.Pow.{pow_pos}
use Rattle.wire_spec.specs.BitPolynomials.{bit_sum}
use Rattle.division_law.specs.Registers.{register_step, register_steps}
use Rattle.division_law.proofs.Lines.{sum_is}
use Rattle.division_law.proofs.Registers.{steps_none, steps_more, steps_fit, step_fits}
use Rattle.division_law.proofs.Linear.{steps_xor}
use Rattle.field_law.proofs.Shifts.{shifts, by_shifts, by_shifts_none, by_shifts_more, by_shifts_fit}

-- the logarithms of 1 to 255 to the base 2
unfoldable pub logs : List ℕ
logs = 0 ∷ 0 ∷ 1 ∷ 25 ∷ 2 ∷ 50 ∷ 26 ∷ 198 ∷ 3 ∷ 223 ∷ 51 ∷ 238 ∷ 27 ∷ 104 ∷ 199 ∷ 75 ∷ 4 ∷ 100 ∷ 224 ∷ 14 ∷ 52 ∷ 141 ∷ 239 ∷ 129 ∷ 28 ∷ 193 ∷ 105 ∷ 248 ∷ 200 ∷ 8 ∷ 76 ∷ 113 ∷ 5 ∷ 138 ∷ 101 ∷ 47 ∷ 225 ∷ 36 ∷ 15 ∷ 33 ∷ 53 ∷ 147 ∷ 142 ∷ 218 ∷ 240 ∷ 18 ∷ 130 ∷ 69 ∷ 29 ∷ 181 ∷ 194 ∷ 125 ∷ 106 ∷ 39 ∷ 249 ∷ 185 ∷ 201 ∷ 154 ∷ 9 ∷ 120 ∷ 77 ∷ 228 ∷ 114 ∷ 166 ∷ 6 ∷ 191 ∷ 139 ∷ 98 ∷ 102 ∷ 221 ∷ 48 ∷ 253 ∷ 226 ∷ 152 ∷ 37 ∷ 179 ∷ 16 ∷ 145 ∷ 34 ∷ 136 ∷ 54 ∷ 208 ∷ 148 ∷ 206 ∷ 143 ∷ 150 ∷ 219 ∷ 189 ∷ 241 ∷ 210 ∷ 19 ∷ 92 ∷ 131 ∷ 56 ∷ 70 ∷ 64 ∷ 30 ∷ 66 ∷ 182 ∷ 163 ∷ 195 ∷ 72 ∷ 126 ∷ 110 ∷ 107 ∷ 58 ∷ 40 ∷ 84 ∷ 250 ∷ 133 ∷ 186 ∷ 61 ∷ 202 ∷ 94 ∷ 155 ∷ 159 ∷ 10 ∷ 21 ∷ 121 ∷ 43 ∷ 78 ∷ 212 ∷ 229 ∷ 172 ∷ 115 ∷ 243 ∷ 167 ∷ 87 ∷ 7 ∷ 112 ∷ 192 ∷ 247 ∷ 140 ∷ 128 ∷ 99 ∷ 13 ∷ 103 ∷ 74 ∷ 222 ∷ 237 ∷ 49 ∷ 197 ∷ 254 ∷ 24 ∷ 227 ∷ 165 ∷ 153 ∷ 119 ∷ 38 ∷ 184 ∷ 180 ∷ 124 ∷ 17 ∷ 68 ∷ 146 ∷ 217 ∷ 35 ∷ 32 ∷ 137 ∷ 46 ∷ 55 ∷ 63 ∷ 209 ∷ 91 ∷ 149 ∷ 188 ∷ 207 ∷ 205 ∷ 144 ∷ 135 ∷ 151 ∷ 178 ∷ 220 ∷ 252 ∷ 190 ∷ 97 ∷ 242 ∷ 86 ∷ 211 ∷ 171 ∷ 20 ∷ 42 ∷ 93 ∷ 158 ∷ 132 ∷ 60 ∷ 57 ∷ 83 ∷ 71 ∷ 109 ∷ 65 ∷ 162 ∷ 31 ∷ 45 ∷ 67 ∷ 216 ∷ 183 ∷ 123 ∷ 164 ∷ 118 ∷ 196 ∷ 23 ∷ 73 ∷ 236 ∷ 127 ∷ 12 ∷ 111 ∷ 246 ∷ 108 ∷ 161 ∷ 59 ∷ 82 ∷ 41 ∷ 157 ∷ 85 ∷ 170 ∷ 251 ∷ 96 ∷ 134 ∷ 177 ∷ 187 ∷ 204 ∷ 62 ∷ 90 ∷ 203 ∷ 89 ∷ 95 ∷ 176 ∷ 156 ∷ 169 ∷ 160 ∷ 81 ∷ 11 ∷ 245 ∷ 22 ∷ 235 ∷ 122 ∷ 117 ∷ 44 ∷ 215 ∷ 79 ∷ 174 ∷ 213 ∷ 233 ∷ 230 ∷ 231 ∷ 173 ∷ 232 ∷ 116 ∷ 214 ∷ 244 ∷ 234 ∷ 168 ∷ 80 ∷ 88 ∷ 175 ∷ []

-- ---- sums

-- two sums of two, in another order
pub xor_swap : (p q r s : ℕ) → bit_xor (bit_xor p q) (bit_xor r s) ≡ bit_xor (bit_xor p r) (bit_xor q s)
xor_swap p q r s =
    xor_assoc p q (bit_xor r s) ∙ ap (λ t. bit_xor p t) (sym (xor_assoc q r s) ∙ ap (λ t. bit_xor t s) (xor_comm q r) ∙ xor_assoc r q s) ∙ sym (xor_assoc p r (bit_xor q s))

if_sum : (x y : Bool) (s : ℕ) → (if bit_sum x y then s else 0) ≡ bit_xor (if x then s else 0) (if y then s else 0)
if_sum false y s = refl
if_sum true false s = sym (xor_zero_r s)
if_sum true true s = sym (xor_self s)

-- by_shifts is additive in its first number
pub shifts_left : (n a b c : ℕ) → by_shifts n (bit_xor a b) c ≡ bit_xor (by_shifts n a c) (by_shifts n b c)
shifts_left zero a b c = by_shifts_none (bit_xor a b) c ∙ sym (ap₂ (λ x y. bit_xor x y) (by_shifts_none a c) (by_shifts_none b c))
shifts_left (suc n) a b c =
    let bit : (bit_at (bit_xor a b) n == 1) ≡ bit_sum (bit_at a n == 1) (bit_at b n == 1) =
    ap (λ x. x == 1) (bit_at_xor a b n) ∙ sum_is (bit_at a n) (bit_at b n) (bit_at-lt a n) (bit_at-lt b n) in
    by_shifts_more n (bit_xor a b) c
    ∙ ap₂ (λ (x : Bool) (y : ℕ). bit_xor (if x then shifts n c else 0) y) bit (shifts_left n a b c)
    ∙ ap (λ t. bit_xor t (bit_xor (by_shifts n a c) (by_shifts n b c))) (if_sum (bit_at a n == 1) (bit_at b n == 1) (shifts n c))
    ∙ xor_swap (if (bit_at a n == 1) then shifts n c else 0) (if (bit_at b n == 1) then shifts n c else 0) (by_shifts n a c) (by_shifts n b c)
    ∙ ap₂ (λ x y. bit_xor x y) (sym (by_shifts_more n a c)) (sym (by_shifts_more n b c))

-- ---- shifts

-- b times x
abbrev pub twice : ℕ → ℕ
twice b = register_step 7 0x1D b

pub twice_fits : (b : ℕ) → b < 2 ^ 8 → twice b < 2 ^ 8
twice_fits b h = step_fits 7 0x1D b h (lit< tt)

pub shifts_fit : (n b : ℕ) → b < 2 ^ 8 → shifts n b < 2 ^ 8
shifts_fit n b h = steps_fit 7 0x1D n b h (lit< tt)

-- the last shift last
pub shifts_last : (n b : ℕ) → shifts (suc n) b ≡ twice (shifts n b)
shifts_last zero b = steps_more 7 0x1D 0 b ∙ steps_none 7 0x1D (twice b) ∙ ap twice (sym (steps_none 7 0x1D b))
shifts_last (suc n) b = steps_more 7 0x1D (suc n) b ∙ shifts_last n (twice b) ∙ ap twice (sym (steps_more 7 0x1D n b))

pub shifts_shifts : (n m b : ℕ) → shifts n (shifts m b) ≡ shifts (n + m) b
shifts_shifts zero m b = steps_none 7 0x1D (shifts m b) ∙ (let e : m ≡ 0 + m = omega arith in ap (λ t. shifts t b) e)
shifts_shifts (suc n) m b =
    let e : suc (n + m) ≡ suc n + m = omega arith in
    shifts_last n (shifts m b) ∙ ap twice (shifts_shifts n m b) ∙ sym (shifts_last (n + m) b) ∙ ap (λ t. shifts t b) e

pub shifts_zero : (n : ℕ) → shifts n 0 ≡ 0
shifts_zero zero = steps_none 7 0x1D 0
shifts_zero (suc n) = steps_more 7 0x1D n 0 ∙ shifts_zero n

-- twice is additive
twice_one : (b : ℕ) → shifts 1 b ≡ twice b
twice_one b = steps_more 7 0x1D 0 b ∙ steps_none 7 0x1D (twice b)

twice_xor : (a b : ℕ) → a < 2 ^ 8 → b < 2 ^ 8 → twice (bit_xor a b) ≡ bit_xor (twice a) (twice b)
twice_xor a b h k = sym (twice_one (bit_xor a b)) ∙ steps_xor 7 0x1D 1 a b h k (lit< tt) ∙ ap₂ (λ x y. bit_xor x y) (twice_one a) (twice_one b)

-- x^8 is x^4+x^3+x^2+1: at each of the 256 bytes
eighth_test : agree_below (λ b. true) (λ b. shifts 8 b == bit_xor (shifts 4 b) (bit_xor (shifts 3 b) (bit_xor (shifts 2 b) (shifts 0 b)))) 256 ≡ true
unfolding register_steps
eighth_test = refl

eighth : (b : ℕ) → b < 2 ^ 8 → shifts 8 b ≡ bit_xor (shifts 4 b) (bit_xor (shifts 3 b) (bit_xor (shifts 2 b) (shifts 0 b)))
eighth b h = eqb-true (shifts 8 b) (bit_xor (shifts 4 b) (bit_xor (shifts 3 b) (bit_xor (shifts 2 b) (shifts 0 b))))
    (sym (agree_below_at (λ b. true) (λ b. shifts 8 b == bit_xor (shifts 4 b) (bit_xor (shifts 3 b) (bit_xor (shifts 2 b) (shifts 0 b)))) 256 b eighth_test h))

-- the products by 1, 2, 4 and so on are the shifts
pub at_zero : (b : ℕ) → by_shifts 8 0 b ≡ 0
unfolding by_shifts
at_zero b = refl

pub at_0 : (b : ℕ) → by_shifts 8 1 b ≡ shifts 0 b
unfolding by_shifts
at_0 b = xor_zero_r (shifts 0 b)

pub at_1 : (b : ℕ) → by_shifts 8 2 b ≡ shifts 1 b
unfolding by_shifts
at_1 b = xor_zero_r (shifts 1 b)

at_2 : (b : ℕ) → by_shifts 8 4 b ≡ shifts 2 b
unfolding by_shifts
at_2 b = xor_zero_r (shifts 2 b)

at_3 : (b : ℕ) → by_shifts 8 8 b ≡ shifts 3 b
unfolding by_shifts
at_3 b = xor_zero_r (shifts 3 b)

at_4 : (b : ℕ) → by_shifts 8 16 b ≡ shifts 4 b
unfolding by_shifts
at_4 b = xor_zero_r (shifts 4 b)

at_5 : (b : ℕ) → by_shifts 8 32 b ≡ shifts 5 b
unfolding by_shifts
at_5 b = xor_zero_r (shifts 5 b)

at_6 : (b : ℕ) → by_shifts 8 64 b ≡ shifts 6 b
unfolding by_shifts
at_6 b = xor_zero_r (shifts 6 b)

at_7 : (b : ℕ) → by_shifts 8 128 b ≡ shifts 7 b
unfolding by_shifts
at_7 b = xor_zero_r (shifts 7 b)

at_8 : (b : ℕ) → by_shifts 8 29 b ≡ bit_xor (shifts 4 b) (bit_xor (shifts 3 b) (bit_xor (shifts 2 b) (shifts 0 b)))
unfolding by_shifts
at_8 b = ap (λ t. bit_xor (shifts 4 b) (bit_xor (shifts 3 b) (bit_xor (shifts 2 b) t))) (xor_zero_r (shifts 0 b))

-- ---- additive functions that agree at 1, 2, 4 and so on agree
bit_case : (F G : ℕ → ℕ) (x p : ℕ) → x < 2 → F 0 ≡ G 0 → F p ≡ G p → F (x * p) ≡ G (x * p)
bit_case F G zero p h z e = let q : 0 * p ≡ 0 = omega arith in ap F q ∙ z ∙ ap G (sym q)
bit_case F G (suc zero) p h z e = let q : 1 * p ≡ p = omega arith in ap F q ∙ e ∙ ap G (sym q)
bit_case F G (suc (suc x)) p h z e = absurd (omega arith)

below_mono : (n : ℕ) → suc n ≤ 8 → 2 ^ n < 2 ^ 8
below_mono zero h = lit< tt
below_mono (suc zero) h = lit< tt
below_mono (suc (suc zero)) h = lit< tt
below_mono (suc (suc (suc zero))) h = lit< tt
below_mono (suc (suc (suc (suc zero)))) h = lit< tt
below_mono (suc (suc (suc (suc (suc zero))))) h = lit< tt
below_mono (suc (suc (suc (suc (suc (suc zero)))))) h = lit< tt
below_mono (suc (suc (suc (suc (suc (suc (suc zero))))))) h = lit< tt
below_mono (suc (suc (suc (suc (suc (suc (suc (suc n)))))))) h = absurd (omega arith)

scaled_fits : (x p n : ℕ) → x < 2 → p < n → x * p < n
scaled_fits zero p n h k = omega arith
scaled_fits (suc zero) p n h k = omega arith
scaled_fits (suc (suc x)) p n h k = absurd (omega arith)

agree : (F G : ℕ → ℕ) → F 0 ≡ G 0
    → ((a b : ℕ) → a < 2 ^ 8 → b < 2 ^ 8 → F (bit_xor a b) ≡ bit_xor (F a) (F b))
    → ((a b : ℕ) → a < 2 ^ 8 → b < 2 ^ 8 → G (bit_xor a b) ≡ bit_xor (G a) (G b))
    → ((i : ℕ) → i < 8 → F (2 ^ i) ≡ G (2 ^ i))
    → (n a : ℕ) → n ≤ 8 → F (a % 2 ^ n) ≡ G (a % 2 ^ n)
agree F G z f g basis zero a h = let e : a % 2 ^ 0 ≡ 0 = omega arith in ap F e ∙ z ∙ ap G (sym e)
agree F G z f g basis (suc n) a h =
    let x : ℕ = a / 2 ^ n % 2 ^ 1 in
    let hx : x < 2 = omega arith in
    let low : a % 2 ^ n < 2 ^ n = mod-lt a (pow_pos n) in
    let m : a % 2 ^ (1 + n) ≡ x * 2 ^ n + a % 2 ^ n = mod-pow-add a 1 n in
    let e : 1 + n ≡ suc n = omega arith in
    let parts : a % 2 ^ suc n ≡ bit_xor (x * 2 ^ n) (a % 2 ^ n) = ap (λ k. a % 2 ^ k) (sym e) ∙ m ∙ sym (xor_shifted x n (a % 2 ^ n) low) in
    let small : 2 ^ n < 2 ^ 8 = below_mono n h in
    let hi : x * 2 ^ n < 2 ^ 8 = scaled_fits x (2 ^ n) (2 ^ 8) hx small in
    let lo : a % 2 ^ n < 2 ^ 8 = omega arith in
    ap F parts ∙ f (x * 2 ^ n) (a % 2 ^ n) hi lo
    ∙ ap₂ (λ s t. bit_xor s t) (bit_case F G x (2 ^ n) hx z (basis n (omega arith))) (agree F G z f g basis n a (omega arith))
    ∙ sym (g (x * 2 ^ n) (a % 2 ^ n) hi lo) ∙ ap G (sym parts)

-- a doubled factor doubles the product
basis_of : (b : ℕ) → b < 2 ^ 8 → (i : ℕ) → i < 8 → by_shifts 8 (twice (2 ^ i)) b ≡ twice (by_shifts 8 (2 ^ i) b)
basis_of b h zero k = at_1 b ∙ shifts_last 0 b ∙ ap twice (sym (at_0 b))
basis_of b h (suc zero) k = at_2 b ∙ shifts_last 1 b ∙ ap twice (sym (at_1 b))
basis_of b h (suc (suc zero)) k = at_3 b ∙ shifts_last 2 b ∙ ap twice (sym (at_2 b))
basis_of b h (suc (suc (suc zero))) k = at_4 b ∙ shifts_last 3 b ∙ ap twice (sym (at_3 b))
basis_of b h (suc (suc (suc (suc zero)))) k = at_5 b ∙ shifts_last 4 b ∙ ap twice (sym (at_4 b))
basis_of b h (suc (suc (suc (suc (suc zero))))) k = at_6 b ∙ shifts_last 5 b ∙ ap twice (sym (at_5 b))
basis_of b h (suc (suc (suc (suc (suc (suc zero)))))) k = at_7 b ∙ shifts_last 6 b ∙ ap twice (sym (at_6 b))
basis_of b h (suc (suc (suc (suc (suc (suc (suc zero))))))) k = at_8 b ∙ sym (eighth b h) ∙ shifts_last 7 b ∙ ap twice (sym (at_7 b))
basis_of b h (suc (suc (suc (suc (suc (suc (suc (suc i)))))))) k = absurd (omega arith)

pub twice_left : (a b : ℕ) → a < 2 ^ 8 → b < 2 ^ 8 → by_shifts 8 (twice a) b ≡ twice (by_shifts 8 a b)
twice_left a b ha hb =
    let F : ℕ → ℕ = λ t. by_shifts 8 (twice t) b in
    let G : ℕ → ℕ = λ t. twice (by_shifts 8 t b) in
    let small : a % 2 ^ 8 ≡ a = mod-eq_of_lt ha in
    let z : F 0 ≡ G 0 = at_zero b ∙ ap twice (sym (at_zero b)) in
    ap F (sym small)
    ∙ agree F G z
    (λ x y hx hy. ap (λ t. by_shifts 8 t b) (twice_xor x y hx hy) ∙ shifts_left 8 (twice x) (twice y) b)
    (λ x y hx hy. ap twice (shifts_left 8 x y b) ∙ twice_xor (by_shifts 8 x b) (by_shifts 8 y b) (by_shifts_fit 8 x b hb) (by_shifts_fit 8 y b hb))
    (basis_of b hb) 8 a (omega arith)
    ∙ ap G small

-- the product by a power of 2 is a shift
pub power_left : (n b : ℕ) → b < 2 ^ 8 → by_shifts 8 (shifts n 1) b ≡ shifts n b
power_left zero b h = ap (λ t. by_shifts 8 t b) (steps_none 7 0x1D 1) ∙ at_0 b
power_left (suc n) b h =
    ap (λ t. by_shifts 8 t b) (shifts_last n 1) ∙ twice_left (shifts n 1) b (shifts_fit n 1 (lit< tt)) h ∙ ap twice (power_left n b h) ∙ sym (shifts_last n b)

-- ---- logarithms
unfoldable pub log : ℕ → ℕ
log a = get_or logs a 0

pub log_test : agree_below (λ a. true) (λ a. (a == 0) || ((shifts (log a) 1 == a) && nat_lt (log a) 255)) 256 ≡ true
unfolding register_steps logs log
log_test = refl
