-- Horner's rule over columns: 16 lanes of a block, then the block, then the target.
use Rattle.std.proofs.Common.{ℕ, suc, List, ◌++◌, ◌≡◌, ◌+◌, ◌-◌, ◌*◌, ◌<◌, ◌≤◌, length, take, refl, ap, ap₂, sym, ◌∙◌, arith, inl, inr, subst, bit_xor}
use Rattle.std.specs.Prelude.{get_or}
use Rattle.std.specs.Int.Bits.{xor_zero_l}
use Rattle.std.specs.Simd.Lanes.{zip2, chunk, put_chunk}
use Rattle.std.proofs.Math.Nat.{mul-le-mul_right}
use Rattle.std.proofs.lemmas.Bool.{cases_lt}
use Rattle.std.proofs.lemmas.List.{length-take-le, get_or-take, get_or_append_left, get_or-append_right}
use Rattle.std.proofs.lemmas.Simd.{length-zip2, length-chunk, get_or-put_chunk_below, get_or-put_chunk_at, get_or-zip2, get_or-chunk}
use Rattle.fec_spec.specs.Field.{field_product}
use Rattle.field_law.proofs.Field.{product_zero_left}
use Rattle.gf256.specs.Horner.{horner_value, AreValues}

pub horner_none : (z : ℕ) (f : ℕ → ℕ) → horner_value z f 0 ≡ 0
unfolding horner_value
horner_none z f = refl

pub horner_more : (z : ℕ) (f : ℕ → ℕ) (n : ℕ) → horner_value z f (suc n) ≡ bit_xor (field_product (horner_value z f n) z) (f n)
unfolding horner_value
horner_more z f n = refl

-- one coefficient more
pub horner_step : (z : ℕ) (f : ℕ → ℕ) (n v c : ℕ) → v ≡ horner_value z f n → c ≡ f n → bit_xor (field_product v z) c ≡ horner_value z f (n + 1)
horner_step z f n v c is_v is_c =
    let e : suc n ≡ n + 1 = omega arith in
    ap₂ (λ s t. bit_xor (field_product s z) t) is_v is_c ∙ sym (horner_more z f n) ∙ ap (λ k. horner_value z f k) e

-- the first coefficient is the value
pub horner_first : (z : ℕ) (f : ℕ → ℕ) (c : ℕ) → c ≡ f 0 → c ≡ horner_value z f 1
horner_first z f c is =
    is ∙ sym (horner_more z f 0 ∙ ap (λ t. bit_xor (field_product t z) (f 0)) (horner_none z f) ∙ ap (λ t. bit_xor t (f 0)) (product_zero_left z) ∙ xor_zero_l (f 0))

-- each of so many places at one distance ends within the room of the last
pub last_ends : (first stride count width room q : ℕ) → first + (count - 1) * stride + width ≤ room → q < count → first + q * stride + width ≤ room
last_ends first stride count width room q le low =
    let h : q * stride ≤ (count - 1) * stride = mul-le-mul_right stride (omega arith) in
    omega arith

-- 16 lanes are the values of the first n columns, in the rows from k on
abbrev pub AreLanes : ℕ → ℕ → ℕ → ℕ → List ℕ → ℕ → List ℕ → Type 0
AreLanes z first stride n source k lanes =
    (length lanes ≡ 16) × ((j : ℕ) → j < 16 → get_or lanes j 0 ≡ horner_value z (λ q. get_or source (first + q * stride + (k + j)) 0) n)

-- the first column
pub lanes_first : (z first stride : ℕ) (source : List ℕ) (k at : ℕ) → at ≡ first + k → at + 16 ≤ length source
    → AreLanes z first stride 1 source k (chunk at 16 source)
lanes_first z first stride source k at is room = (
  length-chunk at 16 source room,
  λ j low.
      let e : at + j ≡ first + 0 * stride + (k + j) = omega arith in
      horner_first z (λ q. get_or source (first + q * stride + (k + j)) 0) (get_or (chunk at 16 source) j 0)
      (get_or-chunk at 16 source j 0 low ∙ ap (λ i. get_or source i 0) e),
)

-- one column more
pub lanes_more : (z first stride n : ℕ) (source : List ℕ) (k at : ℕ) (lanes now : List ℕ) → at ≡ first + k + n * stride → at + 16 ≤ length source
    → now ≡ zip2 (λ t s. bit_xor (field_product t z) s) lanes (chunk at 16 source)
    → AreLanes z first stride n source k lanes → AreLanes z first stride (n + 1) source k now
lanes_more z first stride n source k at lanes now is room made (long, each) =
    let column : List ℕ = chunk at 16 source in
    let long-column : length column ≡ 16 = length-chunk at 16 source room in
    let f : ℕ → ℕ → ℕ = λ t s. bit_xor (field_product t z) s in (
      ap (λ (l : List ℕ). length l) made ∙ length-zip2 f lanes column (long ∙ sym long-column) ∙ long,
      λ j low.
          let e : at + j ≡ first + n * stride + (k + j) = omega arith in
          ap (λ l. get_or l j 0) made
          ∙ get_or-zip2 f lanes column j 0 0 0 (omega arith) (omega arith)
          ∙ horner_step z (λ q. get_or source (first + q * stride + (k + j)) 0) n (get_or lanes j 0) (get_or column j 0) (each j low)
          (get_or-chunk at 16 source j 0 low ∙ ap (λ i. get_or source i 0) e),
    )

-- the lanes, written behind the values
pub lanes_written : (z first stride n : ℕ) (source : List ℕ) (k m : ℕ) (lanes target : List ℕ) → m ≡ k + 16 → m ≤ length target
    → AreLanes z first stride n source k lanes → AreValues z first stride n source k target → AreValues z first stride n source m (put_chunk k target lanes)
lanes_written z first stride n source k m lanes target end room (long, each) done i low = elim (cases_lt i k) [
  | inl before ↦ get_or-put_chunk_below k target lanes i 0 before ∙ done i before
  | inr behind ↦
      let e : k + (i - k) ≡ i = omega arith in
      subst (λ h. get_or (put_chunk k target lanes) h 0 ≡ horner_value z (λ q. get_or source (first + q * stride + h) 0) n) e
      (get_or-put_chunk_at k target lanes (i - k) 0 (omega arith) (omega arith) ∙ each (i - k) (omega arith))
]

-- the values behind the first n places, which were found by themselves
pub rest_written : (z first stride count : ℕ) (source : List ℕ) (n : ℕ) (now new rest : List ℕ) → n ≤ length now
    → AreValues z first stride count source n now → AreValues z (first + n) stride count source (length new) new
    → AreValues z first stride count source (n + length new) (take n now ++ (new ++ rest))
rest_written z first stride count source n now new rest room done behind i low =
    let long-front : length (take n now) ≡ n = length-take-le n now room in
    elim (cases_lt i n) [
      | inl front ↦ get_or_append_left (take n now) (new ++ rest) 0 i (omega arith) ∙ get_or-take n now i 0 front ∙ done i front
      | inr up ↦
          let j : ℕ = i - n in
          let e : (q : ℕ) → first + n + q * stride + j ≡ first + q * stride + i = λ q. omega arith in
          get_or-append_right (take n now) (new ++ rest) n i 0 long-front up
          ∙ get_or_append_left new rest 0 j (omega arith)
          ∙ behind j (omega arith)
          ∙ (λ x. horner_value z (λ q. get_or source (e q x) 0) count)
    ]
