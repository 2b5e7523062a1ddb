-- What a walk finds, place by place.
use Rattle.std.proofs.Common.{◌≡◌, ◌⊎◌, inl, inr, ℕ, zero, suc, ◌+◌, ◌-◌, ◌<◌, ◌≤◌, Bool, true, false, cond, List, [], ◌∷◌, ◌++◌, length, get_or, drop, take, Option, Some, refl, ap, ap₂, ◌∙◌, arith}
use Rattle.std.proofs.lemmas.Bool.{cond-true, cond-false, cases_lt}
use Rattle.fec_frame_spec.specs.Starts.{run_on, run_within}
use Rattle.fec_frame.specs.Marks.{is_start_mark, marked_byte, marked_run, IsRun}
use Rattle.fec_frame.proofs.KnownRuns.{marked_run_is}
use Rattle.frame_walk.specs.Found.{front_list, found_at, found_within, found_from}

-- a place more
pub found_more : (bytes marks : List ℕ) (limit place : ℕ) → place < limit → found_from bytes marks limit place ≡ found_at bytes marks limit place ++ found_from bytes marks limit (place + 1)
unfolding found_from found_within
found_more bytes marks limit place below =
    let e : limit - place ≡ suc (limit - (place + 1)) = omega arith in
    ap (λ (n : ℕ). found_within bytes marks limit n place) e

pub found_none : (bytes marks : List ℕ) (limit place : ℕ) → limit ≤ place → found_from bytes marks limit place ≡ []
unfolding found_from found_within
found_none bytes marks limit place over =
    let e : limit - place ≡ 0 = omega arith in
    ap (λ (n : ℕ). found_within bytes marks limit n place) e

-- no start
pub found_no_start : (bytes marks : List ℕ) (limit place : ℕ) → is_start_mark (get_or marks place 0) ≡ false → found_at bytes marks limit place ≡ []
unfolding found_at
found_no_start bytes marks limit place no_start = cond-false (is_start_mark (get_or marks place 0)) (front_list (marked_run bytes marks limit place)) [] no_start

-- a start, whose run of known bytes ends there
pub found_start : (bytes marks : List ℕ) (limit place end : ℕ) → limit ≤ length bytes → place < limit → is_start_mark (get_or marks place 0) ≡ true → IsRun marks limit place end
    → found_at bytes marks limit place ≡ front_list (take (end - place) (drop place bytes))
unfolding found_at
found_start bytes marks limit place end long below start run =
    cond-true (is_start_mark (get_or marks place 0)) (front_list (marked_run bytes marks limit place)) [] start
    ∙ ap front_list (marked_run_is bytes marks limit place end long (omega (arith, below)) run)

-- No datagram begins with known zeros.

zero_front : (run : List ℕ) → front_list (0 ∷ run) ≡ []
zero_front run = refl

zero_run : (f : ℕ → Option ℕ) (most place : ℕ) → 0 < most → f place ≡ Some 0 → front_list (run_within f most place) ≡ []
unfolding run_within
zero_run f zero place some zero_there = absurd (omega (arith, some))
zero_run f (suc most) place some zero_there =
    ap (λ (o : Option ℕ). front_list (run_on o (run_within f most (place + 1)))) zero_there ∙ zero_front (run_within f most (place + 1))

zero_at : (bytes marks : List ℕ) (limit place : ℕ) → place < limit → marked_byte bytes marks place ≡ Some 0 → found_at bytes marks limit place ≡ []
unfolding found_at marked_run
zero_at bytes marks limit place below zero_there =
    ap (λ (l : List (List ℕ)). cond (is_start_mark (get_or marks place 0)) l []) (zero_run (marked_byte bytes marks) (limit - place) place (omega (arith, below)) zero_there)
    ∙ either (is_start_mark (get_or marks place 0))
  where
    either : (b : Bool) → cond {A = List (List ℕ)} b [] [] ≡ []
    either true = refl
    either false = refl

zeros_within : (bytes marks : List ℕ) (limit n place : ℕ) → place + n ≤ limit → ((q : ℕ) → place ≤ q → q < limit → marked_byte bytes marks q ≡ Some 0)
    → found_within bytes marks limit n place ≡ []
unfolding found_within
zeros_within bytes marks limit zero place within zeros = refl
zeros_within bytes marks limit (suc n) place within zeros =
    ap₂ (λ (a b : List (List ℕ)). a ++ b) (zero_at bytes marks limit place (omega (arith, within)) (zeros place (omega arith) (omega (arith, within))))
    (zeros_within bytes marks limit n (place + 1) (omega (arith, within)) (λ q from below. zeros q (omega (arith, from)) below))

pub found_zeros : (bytes marks : List ℕ) (limit from place : ℕ) → from ≤ place → ((q : ℕ) → from ≤ q → q < limit → marked_byte bytes marks q ≡ Some 0)
    → found_from bytes marks limit place ≡ []
unfolding found_from
found_zeros bytes marks limit from place after zeros = by_order (cases_lt place limit)
  where
    found_here : place < limit → found_from bytes marks limit place ≡ []
    found_here below = zeros_within bytes marks limit (limit - place) place (omega (arith, below)) (λ q order low. zeros q (omega (arith, after, order)) low)

    by_order : (place < limit) ⊎ (limit ≤ place) → found_from bytes marks limit place ≡ []
    by_order (inl below) = found_here below
    by_order (inr over) = found_none bytes marks limit place over

-- One place on: nothing is found where nothing starts, and the datagram otherwise at the front of the run.

step_none : (bytes marks : List ℕ) (limit place : ℕ) → place < limit → is_start_mark (get_or marks place 0) ≡ false
    → found_from bytes marks limit place ≡ found_from bytes marks limit (place + 1)
step_none bytes marks limit place below no_start =
    found_more bytes marks limit place below
    ∙ ap (λ (l : List (List ℕ)). l ++ found_from bytes marks limit (place + 1)) (found_no_start bytes marks limit place no_start)

-- no start at so many places
none_within : (bytes marks : List ℕ) (limit n place : ℕ) → place + n ≤ limit → ((q : ℕ) → place ≤ q → q < place + n → is_start_mark (get_or marks q 0) ≡ false)
    → found_from bytes marks limit place ≡ found_from bytes marks limit (place + n)
none_within bytes marks limit zero place within no_start = let e : place ≡ place + 0 = omega arith in ap (found_from bytes marks limit) e
none_within bytes marks limit (suc n) place within no_start =
    let e : place + 1 + n ≡ place + suc n = omega arith in
    step_none bytes marks limit place (omega (arith, within)) (no_start place (omega arith) (omega arith))
    ∙ none_within bytes marks limit n (place + 1) (omega (arith, within)) (λ q above below. no_start q (omega (arith, above)) (omega (arith, below)))
    ∙ ap (found_from bytes marks limit) e

-- nor before a place
pub none_before : (bytes marks : List ℕ) (limit place next : ℕ) → place ≤ next → next ≤ limit → ((q : ℕ) → place ≤ q → q < next → is_start_mark (get_or marks q 0) ≡ false)
    → found_from bytes marks limit place ≡ found_from bytes marks limit next
none_before bytes marks limit place next order within no_start =
    let e : place + (next - place) ≡ next = omega (arith, order) in
    none_within bytes marks limit (next - place) place (omega (arith, order, within)) (λ q above below. no_start q above (omega (arith, below, e)))
    ∙ ap (found_from bytes marks limit) e

step_start : (bytes marks : List ℕ) (limit place end : ℕ) → limit ≤ length bytes → place < limit → is_start_mark (get_or marks place 0) ≡ true → IsRun marks limit place end
    → (found : List (List ℕ)) → front_list (take (end - place) (drop place bytes)) ≡ found
    → found_from bytes marks limit place ≡ found ++ found_from bytes marks limit (place + 1)
step_start bytes marks limit place end long below start run found is =
    found_more bytes marks limit place below
    ∙ ap (λ (l : List (List ℕ)). l ++ found_from bytes marks limit (place + 1)) (found_start bytes marks limit place end long below start run ∙ is)

-- the next start, whose run of known bytes ends there
pub next_found : (bytes marks : List ℕ) (limit place next end : ℕ) → limit ≤ length bytes → place ≤ next → next < limit
    → ((q : ℕ) → place ≤ q → q < next → is_start_mark (get_or marks q 0) ≡ false) → is_start_mark (get_or marks next 0) ≡ true → IsRun marks limit next end
    → (found : List (List ℕ)) → front_list (take (end - next) (drop next bytes)) ≡ found
    → found_from bytes marks limit place ≡ found ++ found_from bytes marks limit (next + 1)
next_found bytes marks limit place next end long order below no_start start run found is =
    none_before bytes marks limit place next order (omega (arith, below)) no_start
    ∙ step_start bytes marks limit next end long below start run found is
