-- A list changed place by place, by a function of its numbers and another list's: lanes at once, then single places.
use Rattle.std.proofs.Common.{ℕ, List, [], ◌∷◌, ◌++◌, ◌≡◌, ◌+◌, ◌-◌, ◌<◌, ◌≤◌, length, take, drop, refl, ap, ap₂, sym, ◌∙◌, arith, slice_set, ◌⊎◌, inl, inr, subst, map}
use Rattle.std.specs.Prelude.{get_or}
use Rattle.std.proofs.lemmas.Bool.{cases_lt}
use Rattle.std.proofs.lemmas.List.{get_or-set_other, get_or-set_same, length-set, length-take-le, length-drop, get_or-take, get_or-drop, get_or_append_left, get_or-append_right}
use Rattle.std.specs.Simd.Lanes.{zip2, chunk, put_chunk}
use Rattle.std.proofs.lemmas.Simd.{length-zip2, length-chunk, length-put_chunk, get_or-put_chunk_below, get_or-put_chunk_at, get_or-put_chunk_above, get_or-zip2, get_or-chunk}

-- a vector that was computed lane by lane, under an operator with another
pub zip2-map_right : (f : ℕ → ℕ → ℕ) (g : ℕ → ℕ) (ys xs : List ℕ) → zip2 f ys (map g xs) ≡ zip2 (λ y x. f y (g x)) ys xs
zip2-map_right f g [] xs = refl
zip2-map_right f g (y ∷ ys) [] = refl
zip2-map_right f g (y ∷ ys) (x ∷ xs) = ap (λ t. f y (g x) ∷ t) (zip2-map_right f g ys xs)

-- the same, where it is the first
pub zip2-map_left : (f : ℕ → ℕ → ℕ) (g : ℕ → ℕ) (ys xs : List ℕ) → zip2 f (map g ys) xs ≡ zip2 (λ y x. f (g y) x) ys xs
zip2-map_left f g [] xs = refl
zip2-map_left f g (y ∷ ys) [] = refl
zip2-map_left f g (y ∷ ys) (x ∷ xs) = ap (λ t. f (g y) x ∷ t) (zip2-map_left f g ys xs)

-- the first n places are done, and the others are as they were
pub record Done (f : ℕ → ℕ → ℕ) (n : ℕ) (source first now : List ℕ) : Type 0 where
  pub below : (k : ℕ) → k < n → get_or now k 0 ≡ f (get_or first k 0) (get_or source k 0)
  pub above : (k : ℕ) → n ≤ k → get_or now k 0 ≡ get_or first k 0
  pub long : length now ≡ length first

-- before any step
pub none_done : (f : ℕ → ℕ → ℕ) (source first : List ℕ) → Done f 0 source first first
none_done f source first = record {
  below = λ k low. absurd (omega arith);
  above = λ k up. refl;
  long = refl;
}

-- after a block
pub block_done : (f : ℕ → ℕ → ℕ) (n m : ℕ) (source first now : List ℕ) → n + m ≤ length source → length source ≡ length first
    → Done f n source first now → Done f (n + m) source first (put_chunk n now (zip2 f (chunk n m now) (chunk n m source)))
block_done f n m source first now room same done =
    let here : List ℕ = chunk n m now in
    let there : List ℕ = chunk n m source in
    let long-now : length now ≡ length first = done.long in
    let long-here : length here ≡ m = length-chunk n m now (omega arith) in
    let long-there : length there ≡ m = length-chunk n m source room in
    let long-new : length (zip2 f here there) ≡ m = length-zip2 f here there (long-here ∙ sym long-there) ∙ long-here in
    let at : (j : ℕ) → j < m → get_or (put_chunk n now (zip2 f here there)) (n + j) 0 ≡ f (get_or first (n + j) 0) (get_or source (n + j) 0) =
    λ j low. get_or-put_chunk_at n now (zip2 f here there) j 0 (omega arith) (omega arith)
    ∙ get_or-zip2 f here there j 0 0 0 (omega arith) (omega arith)
    ∙ ap₂ f (get_or-chunk n m now j 0 low ∙ done.above (n + j) (omega arith)) (get_or-chunk n m source j 0 low) in
    let each : (k : ℕ) → k < n + m → (k < n) ⊎ (n ≤ k) → get_or (put_chunk n now (zip2 f here there)) k 0 ≡ f (get_or first k 0) (get_or source k 0) =
    λ k within side. elim side [
      | inl low ↦ get_or-put_chunk_below n now (zip2 f here there) k 0 low ∙ done.below k low
      | inr up ↦ let same-place : n + (k - n) ≡ k = omega arith in
          subst (λ i. get_or (put_chunk n now (zip2 f here there)) i 0 ≡ f (get_or first i 0) (get_or source i 0)) same-place (at (k - n) (omega arith))
    ] in
    record {
      below = λ k within. each k within (cases_lt k n);
      above = λ k up. get_or-put_chunk_above n now (zip2 f here there) k 0 (omega arith) ∙ done.above k (omega arith);
      long = length-put_chunk n now (zip2 f here there) ∙ done.long;
    }

-- after one place more
pub place_done : (f : ℕ → ℕ → ℕ) (n : ℕ) (source first now : List ℕ) (x : ℕ) → n < length source → length source ≡ length first
    → x ≡ f (get_or now n 0) (get_or source n 0) → Done f n source first now → Done f (n + 1) source first (slice_set now n x)
place_done f n source first now x low same is done =
    let long-now : length now ≡ length first = done.long in
    let each : (k : ℕ) → k < n + 1 → (k < n) ⊎ (n ≤ k) → get_or (slice_set now n x) k 0 ≡ f (get_or first k 0) (get_or source k 0) =
    λ k within side. elim side [
      | inl low ↦ get_or-set_other now n k x 0 (λ e. absurd (omega arith)) ∙ done.below k low
      | inr up ↦ let same-place : n ≡ k = omega arith in subst (λ i. get_or (slice_set now n x) i 0 ≡ f (get_or first i 0) (get_or source i 0)) same-place
          (get_or-set_same now n x 0 (omega arith) ∙ is ∙ ap (λ t. f t (get_or source n 0)) (done.above n (omega arith)))
    ] in
    record {
      below = λ k within. each k within (cases_lt k n);
      above = λ k up. get_or-set_other now n k x 0 (λ e. absurd (omega arith)) ∙ done.above k (omega arith);
      long = length-set now n x ∙ done.long;
    }

-- the places from n on
abbrev pub behind : ℕ → List ℕ → List ℕ
behind n xs = take (length xs - n) (drop n xs)

pub length-behind : (n : ℕ) (xs : List ℕ) → length (behind n xs) ≡ length xs - n
length-behind n xs = length-take-le (length xs - n) (drop n xs) (omega (arith, length-drop n xs))

get_or-behind : (n : ℕ) (xs : List ℕ) (j : ℕ) → n + j < length xs → get_or (behind n xs) j 0 ≡ get_or xs (n + j) 0
get_or-behind n xs j within = get_or-take (length xs - n) (drop n xs) j 0 (omega arith) ∙ get_or-drop n xs j 0

-- after the places from n on, with anything after them
pub behind_done : (f : ℕ → ℕ → ℕ) (n : ℕ) (source first now new rest : List ℕ) → n ≤ length source → length source ≡ length first
    → length new ≡ length (behind n now)
    → ((j : ℕ) → j < length (behind n source) → get_or new j 0 ≡ f (get_or (behind n now) j 0) (get_or (behind n source) j 0))
    → Done f n source first now → (k : ℕ) → k < length source → get_or (take n now ++ (new ++ rest)) k 0 ≡ f (get_or first k 0) (get_or source k 0)
behind_done f n source first now new rest room same long each done k low =
    let long-now : length now ≡ length first = done.long in
    let long-front : length (take n now) ≡ n = length-take-le n now (omega arith) in
    let long-source : length (behind n source) ≡ length source - n = length-behind n source in
    let long-new : length new ≡ length source - n = long ∙ length-behind n now ∙ (omega arith) in
    elim (cases_lt k n) [
      | inl front ↦ get_or_append_left (take n now) (new ++ rest) 0 k (omega arith) ∙ get_or-take n now k 0 front ∙ done.below k front
      | inr up ↦
          let j : ℕ = k - n in
          let is : n + j ≡ k = omega arith in
          get_or-append_right (take n now) (new ++ rest) n k 0 long-front up
          ∙ get_or_append_left new rest 0 j (omega arith)
          ∙ each j (omega arith)
          ∙ ap₂ f (get_or-behind n now j (omega arith) ∙ done.above (n + j) (omega arith)) (get_or-behind n source j (omega arith))
          ∙ ap (λ i. f (get_or first i 0) (get_or source i 0)) is
    ]

-- a table whose places below n are f, and one place more
pub place_filled : (f : ℕ → ℕ) (n : ℕ) (table : List ℕ) (x : ℕ) → n < length table → x ≡ f n
    → ((k : ℕ) → k < n → get_or table k 0 ≡ f k) → (k : ℕ) → k < n + 1 → get_or (slice_set table n x) k 0 ≡ f k
place_filled f n table x low is done k within = elim (cases_lt k n) [
  | inl front ↦ get_or-set_other table n k x 0 (λ e. absurd (omega arith)) ∙ done k front
  | inr up ↦ let same-place : n ≡ k = omega arith in subst (λ i. get_or (slice_set table n x) i 0 ≡ f i) same-place (get_or-set_same table n x 0 low ∙ is)
]
