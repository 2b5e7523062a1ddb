-- Products looked up by the two halves of a byte, in 16 lanes.
use Rattle.std.proofs.Common.{ℕ, List, [], ◌∷◌, ◌≡◌, ◌+◌, ◌*◌, ◌/◌, ◌%◌, ◌^◌, ◌<◌, length, map, get_or, refl, ap, ap₂, sym, ◌∙◌, arith, bit_and, bit_xor, w8, Fits}
use Rattle.std.specs.Prelude.{replicate}
use Rattle.std.specs.Simd.Lanes.{zip2, Each1}
use Rattle.std.proofs.lemmas.List.{ext_get_or, get_or-map, length-map}
use Rattle.std.proofs.lemmas.Nat.{and_mask, and_le_r}
use Rattle.std.proofs.lemmas.Simd.{SwzOk, SwzOk-from_below, swz_l, length-swz_l, get_or-swz_l_below, Each1-zip2, Each2-splat, Each1-all, Each1-get_or, Each1-weaker, below_from_Fits, length-zip2, zip2_splat, zip2_of_maps}
use Rattle.fec_spec.specs.Field.{field_product}
use Rattle.field_law.proofs.Field.{product_halves}

-- the bytes of 16 lanes
abbrev pub IsBlock : List ℕ → Type 0
IsBlock v = (length v ≡ 16) × Each1 (Fits w8) v

-- a shift to the right
abbrev pub down : ℕ → ℕ → ℕ
down a b = a / 2 ^ b

-- the higher half of a byte is a place in a table of 16
pub high_ok : (v : List ℕ) → IsBlock v → SwzOk w8 16 16 0 (zip2 down v (replicate 16 4))
high_ok v fits =
    let small = Each1-weaker (λ a. a < 256) (λ a. a / 16 < 16) (λ a fits. omega arith) v (below_from_Fits w8 v fits.1) in
    SwzOk-from_below w8 16 1 16 0 (zip2 down v (replicate 16 4)) refl (omega (arith, length-zip2 down v (replicate 16 4) fits.0))
    (Each1-zip2 down (λ j. j < 16) v (replicate 16 4) (Each2-splat (λ a b. down a b < 16) v 16 4 small))

-- the lower half is one
pub low_ok : (v : List ℕ) → IsBlock v → SwzOk w8 16 16 0 (zip2 bit_and v (replicate 16 15))
low_ok v fits =
    let small = Each1-all (λ a. bit_and a 15 < 16) (λ a. omega (arith, and_le_r a 15)) v in
    SwzOk-from_below w8 16 1 16 0 (zip2 bit_and v (replicate 16 15)) refl (omega (arith, length-zip2 bit_and v (replicate 16 15) fits.0))
    (Each1-zip2 bit_and (λ j. j < 16) v (replicate 16 15) (Each2-splat (λ a b. bit_and a b < 16) v 16 15 small))

-- a byte of a lane is below 256
lane_fits : (v : List ℕ) (i : ℕ) → IsBlock v → i < 16 → get_or v i 0 < 256
lane_fits v i fits within = Each1-get_or (λ a. a < 256) v i 0 (omega (arith, fits.0)) (below_from_Fits w8 v fits.1)

-- a table looked up at a place for each lane
looked_up : (t : List ℕ) (g : ℕ → ℕ) (v js : List ℕ) → IsBlock v → js ≡ map g v → ((x : ℕ) → x < 256 → g x < 16) → swz_l w8 16 t 0 js ≡ map (λ x. get_or t (g x) 0) v
looked_up t g v js fits is small =
    let long : length js ≡ 16 = ap (λ l. length l) is ∙ length-map v g ∙ fits.0 in
    ext_get_or 0 (swz_l w8 16 t 0 js) (map (λ x. get_or t (g x) 0) v) (length-swz_l w8 16 t 0 js ∙ long ∙ sym (length-map v (λ x. get_or t (g x) 0) ∙ fits.0)) (λ i low.
    let lane : i < 16 = omega (arith, length-swz_l w8 16 t 0 js) in
    let within : i < length v = omega (arith, fits.0) in
    let at : get_or js i 0 ≡ g (get_or v i 0) = ap (λ l. get_or l i 0) is ∙ get_or-map g v i 0 0 within in
    let below : get_or js i 0 < 16 = omega (arith, small (get_or v i 0) (lane_fits v i fits lane)) in
    let one : 16 * ((0 + i) / 16) + get_or js i 0 ≡ get_or js i 0 = omega arith in
    get_or-swz_l_below w8 16 t 0 js i (omega arith) below
    ∙ ap (λ k. get_or t k 0) (one ∙ at) ∙ sym (get_or-map (λ x. get_or t (g x) 0) v i 0 0 within))

-- two functions that agree on bytes
map_agrees : (f g : ℕ → ℕ) (v : List ℕ) → Each1 (Fits w8) v → ((x : ℕ) → x < 256 → f x ≡ g x) → map f v ≡ map g v
map_agrees f g [] fits same = refl
map_agrees f g (x ∷ v) fits same = ap₂ (λ (y : ℕ) (l : List ℕ). y ∷ l) (same x fits.0.fits) (map_agrees f g v fits.1 same)

-- the products by two tables, of the multiples of 16 and of the numbers below 16
pub products_looked_up : (c : ℕ) (low high v : List ℕ) → IsBlock v
    → ((i : ℕ) → i < 16 → get_or low i 0 ≡ field_product c i)
    → ((i : ℕ) → i < 16 → get_or high i 0 ≡ field_product c (i * 16))
    → zip2 bit_xor (swz_l w8 16 high 0 (zip2 down v (replicate 16 4))) (swz_l w8 16 low 0 (zip2 bit_and v (replicate 16 15))) ≡ map (field_product c) v
products_looked_up c low high v fits lows highs =
    zip2_of_maps bit_xor (λ x. get_or high (x / 16) 0) (λ x. get_or low (bit_and x 15) 0) v
    (looked_up high (λ x. x / 16) v (zip2 down v (replicate 16 4)) fits (zip2_splat down v 16 4 fits.0) (λ x fits. omega arith))
    (looked_up low (λ x. bit_and x 15) v (zip2 bit_and v (replicate 16 15)) fits (zip2_splat bit_and v 16 15 fits.0) (λ x fits. omega (arith, and_le_r x 15)))
    ∙ map_agrees (λ x. bit_xor (get_or high (x / 16) 0) (get_or low (bit_and x 15) 0)) (field_product c) v fits.1 (λ x byte.
    let masked : bit_and x 15 ≡ x % 16 = and_mask x 4 in
    ap₂ bit_xor (highs (x / 16) (omega arith)) (ap (λ i. get_or low i 0) masked ∙ lows (x % 16) (omega arith)) ∙ sym (product_halves c x))
