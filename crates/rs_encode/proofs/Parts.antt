-- Lists of which a part is written, and lists of three parts.
use Rattle.std.proofs.Common.{ℕ, List, ◌++◌, ◌≡◌, ◌+◌, ◌-◌, ◌*◌, ◌<◌, ◌≤◌, length, get_or, take, drop, arith, ap, ◌∙◌, length-take}
use Rattle.std.proofs.Math.Nat.{add-mul}
use Rattle.std.proofs.lemmas.List.{get_or_append_left, get_or-append_right, get_or-take, get_or-drop}
use borrow.Rule.Slice.PartMut.{put_mid, mid_of, post_of}

-- before the part that was written
pub put_mid-before : (a k : ℕ) (xs ys : List ℕ) (i : ℕ) → a ≤ length xs → i < a → get_or (put_mid a k xs ys) i 0 ≡ get_or xs i 0
put_mid-before a k xs ys i le h =
    let l : length (take a xs) ≡ a = omega (arith, length-take a xs) in
    get_or_append_left (take a xs) (ys ++ post_of a k xs) 0 i (omega arith) ∙ get_or-take a xs i 0 h

-- within it
pub put_mid-within : (a k : ℕ) (xs ys : List ℕ) (j : ℕ) → a ≤ length xs → j < length ys → get_or (put_mid a k xs ys) (a + j) 0 ≡ get_or ys j 0
put_mid-within a k xs ys j le h =
    let l : length (take a xs) ≡ a = omega (arith, length-take a xs) in
    let e : a + j - a ≡ j = omega arith in
    get_or-append_right (take a xs) (ys ++ post_of a k xs) a (a + j) 0 l (omega arith) ∙ ap (λ i. get_or (ys ++ post_of a k xs) i 0) e
    ∙ get_or_append_left ys (post_of a k xs) 0 j h

-- after it
pub put_mid-behind : (a k : ℕ) (xs ys : List ℕ) (i : ℕ) → a + k ≤ length xs → length ys ≡ k → a + k ≤ i → get_or (put_mid a k xs ys) i 0 ≡ get_or xs i 0
put_mid-behind a k xs ys i le ly h =
    let l : length (take a xs) ≡ a = omega (arith, length-take a xs) in
    let e : a + (k + (i - a - k)) ≡ i = omega arith in
    get_or-append_right (take a xs) (ys ++ post_of a k xs) a i 0 l (omega arith)
    ∙ get_or-append_right ys (post_of a k xs) k (i - a) 0 ly (omega arith)
    ∙ get_or-drop k (drop a xs) (i - a - k) 0 ∙ get_or-drop a xs (k + (i - a - k)) 0 ∙ ap (λ t. get_or xs t 0) e

-- what stood in it
pub mid_of-at : (a k : ℕ) (xs : List ℕ) (j : ℕ) → j < k → get_or (mid_of a k xs) j 0 ≡ get_or xs (a + j) 0
mid_of-at a k xs j h = get_or-take k (drop a xs) j 0 h ∙ get_or-drop a xs j 0

-- a table of three parts, of which the middle one is column n
pub part-before : (n rows : ℕ) (b f e : List ℕ) (r j : ℕ) → length b ≡ n * rows → r < rows → j < n → j * rows + r < n * rows
    → get_or (b ++ (f ++ e)) (j * rows + r) 0 ≡ get_or b (j * rows + r) 0
part-before n rows b f e r j lb low h place = get_or_append_left b (f ++ e) 0 (j * rows + r) (omega arith)

pub part-within : (n rows : ℕ) (b f e : List ℕ) (r : ℕ) → length b ≡ n * rows → length f ≡ rows → r < rows
    → get_or (b ++ (f ++ e)) (n * rows + r) 0 ≡ get_or f r 0
part-within n rows b f e r lb lf low =
    let k : n * rows + r - n * rows ≡ r = omega arith in
    get_or-append_right b (f ++ e) (n * rows) (n * rows + r) 0 lb (omega arith) ∙ ap (λ i. get_or (f ++ e) i 0) k ∙ get_or_append_left f e 0 r (omega arith)

pub part-behind : (n rows : ℕ) (b f e : List ℕ) (r j k : ℕ) → length b ≡ n * rows → length f ≡ rows → j ≡ n + 1 + k
    → get_or (b ++ (f ++ e)) (j * rows + r) 0 ≡ get_or e (k * rows + r) 0
part-behind n rows b f e r j k lb lf is =
    let split : (n + 1 + k) * rows ≡ (n + 1) * rows + k * rows = add-mul (n + 1) k rows in
    let split2 : (n + 1) * rows ≡ n * rows + 1 * rows = add-mul n 1 rows in
    let place : j * rows ≡ n * rows + rows + k * rows = ap (λ t. t * rows) is ∙ omega arith in
    let i1 : j * rows + r - n * rows ≡ rows + k * rows + r = omega arith in
    let i2 : rows + k * rows + r - rows ≡ k * rows + r = omega arith in
    get_or-append_right b (f ++ e) (n * rows) (j * rows + r) 0 lb (omega arith) ∙ ap (λ i. get_or (f ++ e) i 0) i1
    ∙ get_or-append_right f e rows (rows + k * rows + r) 0 lf (omega arith) ∙ ap (λ i. get_or e i 0) i2
