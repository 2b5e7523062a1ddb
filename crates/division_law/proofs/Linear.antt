-- Long division is additive.
use Rattle.std.proofs.Common.{ℕ, zero, suc, List, [], ◌∷◌, ◌++◌, ◌≡◌, ◌+◌, ◌^◌, ◌<◌, ◌≤◌, length, refl, ap, ap₂, sym, ◌∙◌, arith, Bool, true, false, length-append, bit_xor}
use Rattle.std.specs.Prelude.{replicate, if◌then◌else◌}
use Rattle.std.proofs.lemmas.List.{append-nil}
use Rattle.std.proofs.Math.Nat.{mod-eq_of_lt}
use Rattle.std.specs.Int.Bits.{xor_lt}
use Rattle.wire_spec.specs.BitPolynomials.{bit_sum, added_front, divided, bits, number_of}
use Rattle.division_law.specs.Registers.{register_steps}
use Rattle.division_law.proofs.Fronts.{added-added, added_comm, added_zeros, added_behind, length-added, onto_more_zeros}
use Rattle.division_law.proofs.Lines.{length-bits, bits-xor, number_of-bits}
use Rattle.division_law.proofs.Division.{divided_none, divided_step, divided_is_run, length-run, length-zeros, run}
use Rattle.division_law.proofs.Fronts.{onto_zeros}
use Rattle.division_law.proofs.Registers.{run_zeros, steps_fit}

-- a line added to itself is zeros
pub added_self : (d : List Bool) → added_front d d ≡ replicate (length d) false
added_self [] = refl
added_self (false ∷ d) = ap (λ t. false ∷ t) (added_self d)
added_self (true ∷ d) = ap (λ t. false ∷ t) (added_self d)

-- a front added twice is taken away again
added_twice : (d l : List Bool) → added_front d (added_front d l) ≡ l
added_twice d l = added-added d d l (omega arith) ∙ ap (λ t. added_front t l) (added_self d) ∙ added_zeros (length d) l

-- what a step leaves
abbrev stepped : List Bool → Bool → List Bool → List Bool
stepped d x a = if x then added_front d a else a

-- one step of division, by that word
divided_stepped : (n : ℕ) (d : List Bool) (x : Bool) (a : List Bool) → divided (suc n) (true ∷ d) (x ∷ a) ≡ divided n (true ∷ d) (stepped d x a)
divided_stepped n d false a = divided_step n (true ∷ d) false a
divided_stepped n d true a = divided_step n (true ∷ d) true a

-- a step on a sum is the sum of the steps
stepped_sum : (d a b : List Bool) (x y : Bool) → length d ≤ length a → length a ≡ length b
    → stepped d (bit_sum x y) (added_front a b) ≡ added_front (stepped d x a) (stepped d y b)
stepped_sum d a b false false fits as_long = refl
stepped_sum d a b true false fits as_long = added-added d a b fits
stepped_sum d a b false true fits as_long =
    ap (λ t. added_front d t) (added_comm a b as_long) ∙ added-added d b a (omega arith) ∙ added_comm (added_front d b) a (length-added d b ∙ sym as_long)
stepped_sum d a b true true fits as_long =
    sym (added_twice d (added_front a b))
    ∙ ap (λ t. added_front d t) (ap (λ t. added_front d t) (added_comm a b as_long) ∙ added-added d b a (omega arith) ∙ added_comm (added_front d b) a (length-added d b ∙ sym as_long))
    ∙ added-added d a (added_front d b) fits

-- a step keeps the length
length-stepped : (d a : List Bool) (x : Bool) → length (stepped d x a) ≡ length a
length-stepped d a false = refl
length-stepped d a true = length-added d a

-- division of a sum is the sum of the divisions
pub divided-added : (n : ℕ) (d a b : List Bool) → n + length d ≤ length a → length a ≡ length b
    → divided n (true ∷ d) (added_front a b) ≡ added_front (divided n (true ∷ d) a) (divided n (true ∷ d) b)
divided-added zero d a b fits as_long =
    divided_none (true ∷ d) (added_front a b) ∙ ap₂ (λ (k l : List Bool). added_front k l) (sym (divided_none (true ∷ d) a)) (sym (divided_none (true ∷ d) b))
divided-added (suc n) d [] b fits as_long = absurd (omega arith)
divided-added (suc n) d (x ∷ a) [] fits as_long = absurd (omega arith)
divided-added (suc n) d (x ∷ a) (y ∷ b) fits as_long =
    let a_long : length (stepped d x a) ≡ length a = length-stepped d a x in
    let b_long : length (stepped d y b) ≡ length b = length-stepped d b y in
    divided_stepped n d (bit_sum x y) (added_front a b)
    ∙ ap (λ l. divided n (true ∷ d) l) (stepped_sum d a b x y (omega arith) (omega arith))
    ∙ divided-added n d (stepped d x a) (stepped d y b) (omega arith) (omega arith)
    ∙ ap₂ (λ (k l : List Bool). added_front k l) (sym (divided_stepped n d x a)) (sym (divided_stepped n d y b))

-- a 0 moved over zeros
zeros_push : (m : ℕ) (l : List Bool) → replicate m false ++ (false ∷ l) ≡ false ∷ (replicate m false ++ l)
zeros_push zero l = refl
zeros_push (suc m) l = ap (λ t. false ∷ t) (zeros_push m l)

-- zeros and zeros in either order
pub zeros_swap : (n m : ℕ) → replicate n false ++ replicate m false ≡ replicate m false ++ replicate n false
zeros_swap zero m = sym (append-nil (replicate m false))
zeros_swap (suc n) m = ap (λ t. false ∷ t) (zeros_swap n m) ∙ sym (zeros_push m (replicate n false))

-- n shifts are n steps of division
pub shifted_line : (k poly n r : ℕ) → r < 2 ^ suc k → poly < 2 ^ suc k
    → divided n (true ∷ bits (suc k) poly) (bits (suc k) r ++ replicate n false) ≡ bits (suc k) (register_steps k poly n r)
shifted_line k poly n r small fits =
    let d : List Bool = bits (suc k) poly in
    let s : List Bool = bits (suc k) r in
    let z : List Bool = replicate n false in
    let t : List Bool = replicate (suc k) false in
    let divisor_long : length d ≡ suc k = length-bits (suc k) poly in
    let start_long : length s ≡ suc k = length-bits (suc k) r in
    let zeros_long : length z ≡ n = length-zeros n in
    ap (λ l. divided n (true ∷ d) l) (sym (onto_more_zeros (suc k) n s start_long) ∙ ap (λ l. added_front s l) (zeros_swap (suc k) n))
    ∙ ap (λ m. divided m (true ∷ d) (added_front s (z ++ t))) (sym zeros_long)
    ∙ divided_is_run d s z t (omega arith) (omega arith)
    ∙ onto_zeros (suc k) (run d s z) (length-run d s z ∙ start_long)
    ∙ run_zeros k poly n r small fits

-- a sum of two lines of one length, and a rest after it
pub added-append : (a b c : List Bool) → length a ≡ length b → added_front a b ++ c ≡ added_front a (b ++ c)
added-append [] [] c as_long = refl
added-append [] (y ∷ b) c as_long = absurd (omega arith)
added-append (x ∷ a) [] c as_long = absurd (omega arith)
added-append (x ∷ a) (y ∷ b) c as_long = ap (λ t. bit_sum x y ∷ t) (added-append a b c (omega arith))

-- numbers below 2^n with the same n bits are equal
pub bits_equal : (n a b : ℕ) → a < 2 ^ n → b < 2 ^ n → bits n a ≡ bits n b → a ≡ b
bits_equal n a b a_fits b_fits same =
    sym (mod-eq_of_lt a_fits) ∙ sym (number_of-bits n a) ∙ ap (λ l. number_of l) same ∙ number_of-bits n b ∙ mod-eq_of_lt b_fits

-- shifts are additive
pub steps_xor : (k poly n a b : ℕ) → a < 2 ^ suc k → b < 2 ^ suc k → poly < 2 ^ suc k
    → register_steps k poly n (bit_xor a b) ≡ bit_xor (register_steps k poly n a) (register_steps k poly n b)
steps_xor k poly n a b a_small b_small fits =
    let d : List Bool = bits (suc k) poly in
    let s : List Bool = bits (suc k) a in
    let t : List Bool = bits (suc k) b in
    let z : List Bool = replicate n false in
    let divisor_long : length d ≡ suc k = length-bits (suc k) poly in
    let a_long : length s ≡ suc k = length-bits (suc k) a in
    let b_long : length t ≡ suc k = length-bits (suc k) b in
    let zeros_long : length z ≡ n = length-zeros n in
    let a_line : length (s ++ z) ≡ length s + length z = length-append s z in
    let b_line : length (t ++ z) ≡ length t + length z = length-append t z in
    let sum_small : bit_xor a b < 2 ^ suc k = xor_lt (suc k) a b a_small b_small in
    let a_fits : register_steps k poly n a < 2 ^ suc k = steps_fit k poly n a a_small fits in
    let b_fits : register_steps k poly n b < 2 ^ suc k = steps_fit k poly n b b_small fits in
    bits_equal (suc k) (register_steps k poly n (bit_xor a b)) (bit_xor (register_steps k poly n a) (register_steps k poly n b))
    (steps_fit k poly n (bit_xor a b) sum_small fits) (xor_lt (suc k) (register_steps k poly n a) (register_steps k poly n b) a_fits b_fits)
    (sym (shifted_line k poly n (bit_xor a b) sum_small fits)
    ∙ ap (λ l. divided n (true ∷ d) (l ++ z)) (bits-xor (suc k) a b)
    ∙ ap (λ l. divided n (true ∷ d) l) (added-append s t z (omega arith) ∙ sym (added_behind n s (t ++ z)))
    ∙ divided-added n d (s ++ z) (t ++ z) (omega arith) (omega arith)
    ∙ ap₂ (λ (x y : List Bool). added_front x y) (shifted_line k poly n a a_small fits) (shifted_line k poly n b b_small fits)
    ∙ sym (bits-xor (suc k) (register_steps k poly n a) (register_steps k poly n b)))
