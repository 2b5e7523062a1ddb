-- Long division as a register of bits.
use Rattle.std.proofs.Common.{ℕ, zero, suc, List, [], ◌∷◌, ◌++◌, ◌≡◌, ◌+◌, ◌-◌, ◌<◌, ◌≤◌, length, refl, ap, sym, ◌∙◌, arith, Bool, true, false, length-append, drop}
use Rattle.std.specs.Prelude.{replicate, if◌then◌else◌}
use Rattle.wire_spec.specs.BitPolynomials.{bit_sum, added_front, divided, remainder}
use Rattle.division_law.proofs.Fronts.{added-added, added_end, length-added, added_moved, onto_zeros}

-- the register after one more bit, where d is the divisor after its first bit
abbrev pub fed : List Bool → List Bool → Bool → List Bool
fed d [] b = []
fed d (x ∷ s) b = if bit_sum x b then added_front d (s ++ false ∷ []) else s ++ false ∷ []

-- the register after a message of bits
abbrev pub run : List Bool → List Bool → List Bool → List Bool
run d s [] = s
run d s (b ∷ m) = run d (fed d s b) m

-- no step of division
pub divided_none : (p l : List Bool) → divided 0 p l ≡ l
unfolding divided
divided_none p l = refl

-- one step of division
pub divided_step : (n : ℕ) (p : List Bool) (b : Bool) (l : List Bool)
    → divided (suc n) p (b ∷ l) ≡ divided n p (drop 1 (if b then added_front p (b ∷ l) else b ∷ l))
unfolding divided
divided_step n p b l = refl

-- a step of division on a line with the register at its front is the next register at the front of the rest
fed_is : (d s l : List Bool) (x : Bool) → length d ≤ suc (length s)
    → drop 1 (if x then added_front (true ∷ d) (x ∷ added_front s l) else x ∷ added_front s l)
    ≡ added_front (if x then added_front d (s ++ false ∷ []) else s ++ false ∷ []) l
fed_is d s l false fits = sym (added_end s l)
fed_is d s l true fits =
    ap (λ t. added_front d t) (sym (added_end s l)) ∙ added-added d (s ++ false ∷ []) l (omega (arith, length-append s (false ∷ [])))

-- two lists of one length, chosen by a test
length_if : (x : Bool) (a b : List Bool) (n : ℕ) → length a ≡ n → length b ≡ n → length (if x then a else b) ≡ n
length_if false a b n first second = second
length_if true a b n first second = first

-- a step keeps the register's length
pub length-fed : (d s : List Bool) (b : Bool) → length (fed d s b) ≡ length s
length-fed d [] b = refl
length-fed d (x ∷ s) b =
    let long : length (s ++ false ∷ []) ≡ suc (length s) = omega (arith, length-append s (false ∷ [])) in
    length_if (bit_sum x b) (added_front d (s ++ false ∷ [])) (s ++ false ∷ []) (suc (length s)) (length-added d (s ++ false ∷ []) ∙ long) long

-- a run keeps the register's length
pub length-run : (d s m : List Bool) → length (run d s m) ≡ length s
length-run d s [] = refl
length-run d s (b ∷ m) = length-run d (fed d s b) m ∙ length-fed d s b

-- a register that starts at s, over the message m, leaves what division leaves of the line m with s added at its front
pub divided_is_run : (d s m t : List Bool) → length d ≡ length s → 0 < length s
    → divided (length m) (true ∷ d) (added_front s (m ++ t)) ≡ added_front (run d s m) t
divided_is_run d s [] t as_long some = divided_none (true ∷ d) (added_front s t)
divided_is_run d [] (b ∷ m) t as_long some = absurd (omega arith)
divided_is_run d (x ∷ s) (b ∷ m) t as_long some =
    let next : List Bool = fed d (x ∷ s) b in
    let long : length next ≡ suc (length s) = length-fed d (x ∷ s) b in
    divided_step (length m) (true ∷ d) (bit_sum x b) (added_front s (m ++ t))
    ∙ ap (λ l. divided (length m) (true ∷ d) l) (fed_is d s (m ++ t) (bit_sum x b) (omega arith))
    ∙ divided_is_run d next m t (omega arith) (omega arith)

-- n zeros are n
pub length-zeros : (n : ℕ) → length (replicate n false) ≡ n
length-zeros zero = refl
length-zeros (suc n) = ap (λ m. suc m) (length-zeros n)

-- the remainder of a whole line
pub remainder_is_run : (d s m : List Bool) (n : ℕ) → length d ≡ n → length s ≡ n → 0 < n
    → remainder (true ∷ d) (added_front s (m ++ replicate n false)) ≡ run d s m
unfolding remainder
remainder_is_run d s m n divisor_long start_long some =
    let line : List Bool = added_front s (m ++ replicate n false) in
    let sum_long : length line ≡ length (m ++ replicate n false) = length-added s (m ++ replicate n false) in
    let parts : length (m ++ replicate n false) ≡ length m + length (replicate n false) = length-append m (replicate n false) in
    let zeros_long : length (replicate n false) ≡ n = length-zeros n in
    let steps : length line + 1 - suc (length d) ≡ length m = omega arith in
    ap (λ k. divided k (true ∷ d) line) steps
    ∙ divided_is_run d s m (replicate n false) (omega arith) (omega arith)
    ∙ onto_zeros n (run d s m) (length-run d s m ∙ start_long)

-- a message in two pieces
pub run-append : (d s a b : List Bool) → run d s (a ++ b) ≡ run d (run d s a) b
run-append d s [] b = refl
run-append d s (x ∷ a) b = run-append d (fed d s x) a b

-- bits that come in may be added at the front at once
pub run_moved : (d s b : List Bool) → length d ≡ length s → 0 < length s → length b ≤ length s
    → run d s b ≡ run d (added_front b s) (replicate (length b) false)
run_moved d s b as_long some fits =
    let n : ℕ = length s in
    let behind : List Bool = replicate (length s) false in
    let zeros : List Bool = replicate (length b) false in
    let moved : List Bool = added_front b s in
    let long : length moved ≡ length s = length-added b s in
    let zeros_long : length zeros ≡ length b = length-zeros (length b) in
    sym (onto_zeros (length s) (run d s b) (length-run d s b))
    ∙ sym (divided_is_run d s b behind as_long some)
    ∙ ap (λ l. divided (length b) (true ∷ d) l) (added_moved s b behind fits)
    ∙ ap (λ m. divided m (true ∷ d) (added_front moved (zeros ++ behind))) (sym zeros_long)
    ∙ divided_is_run d moved zeros behind (omega arith) (omega arith)
    ∙ onto_zeros (length s) (run d moved zeros) (length-run d moved zeros ∙ long)
