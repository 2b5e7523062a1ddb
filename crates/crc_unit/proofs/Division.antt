-- What division by x^2400+x^1240+x^936+x^712+1 leaves of bytes has their CRC_32.
use Rattle.std.proofs.Common.{ℕ, List, [], ◌∷◌, ◌++◌, ◌≡◌, ◌+◌, ◌-◌, ◌*◌, ◌/◌, ◌%◌, ◌^◌, ◌<◌, ◌≤◌, length, get_or, refl, ap, ap₂, sym, subst, length-append, ◌∙◌, arith, lit<, bit_xor}
use Rattle.std.specs.Int.Bits.{xor_self, xor_lt, xor_zero_r}
use Rattle.std.proofs.lemmas.List.{take_all, get_or_append_left, get_or-append-add}
use Rattle.std.proofs.lemmas.List.Elements.{All-from_get_or, All-append}
use Rattle.std.proofs.lemmas.Nat.{xor_comm}
use Rattle.wire_spec.specs.Bytes.{AreBytes}
use Rattle.division_law.specs.Registers.{crc32_run}
use Rattle.crc_unit.specs.Entry.{crc32_entry, entries}
use Rattle.crc_unit.specs.FiveTerms.{IsWindow, left_at}
use Rattle.crc_unit.proofs.Steps.{steps_low}
use Rattle.crc_unit.proofs.ByEntries.{shifts, steps-add, swap, run_is, register_is}
use Rattle.crc_unit.proofs.Multiple.{multiple, shifts_fit, shifts-xor}
use Rattle.crc_unit.proofs.Window.{four_bytes, reads_fit, left_fits}
use Rattle.crc_unit.proofs.Runs.{run_over, run_over_fits, run_over-xor, run_over_same, run_over-add, run_over_then_zeros, run_over_list}
use lib.Bits.{xor_assoc}

-- what is added twice is taken away again
xor_twice : (a b : ℕ) → bit_xor a (bit_xor a b) ≡ b
xor_twice a b = sym (xor_assoc a a b) ∙ ap (λ t. bit_xor t b) (xor_self a) ∙ xor_comm 0 b ∙ xor_zero_r b

-- one part of a sum is the sum and the other part
other_part : (sum a b : ℕ) → sum ≡ bit_xor a b → b ≡ bit_xor sum a
other_part sum a b parts = sym (ap (λ t. bit_xor t a) parts ∙ xor_comm (bit_xor a b) a ∙ xor_twice a b)

-- the two equations of the division: the five terms of the quotient add to 0, and what they leave of the bytes is the rest
combined : (a b c d z s x p : ℕ) → bit_xor (bit_xor (bit_xor (bit_xor a b) c) d) z ≡ 0
    → bit_xor (bit_xor (bit_xor (bit_xor x b) c) d) (bit_xor z s) ≡ bit_xor a p → p ≡ bit_xor s x
combined a b c d z s x p none left =
    let both : bit_xor (bit_xor a b) (bit_xor x b) ≡ bit_xor a x =
    swap a b x b ∙ ap (λ t. bit_xor (bit_xor a x) t) (xor_self b) ∙ xor_zero_r (bit_xor a x) in
    let three : bit_xor (bit_xor (bit_xor a b) c) (bit_xor (bit_xor x b) c) ≡ bit_xor a x =
    swap (bit_xor a b) c (bit_xor x b) c ∙ ap₂ (λ k l. bit_xor k l) both (xor_self c) ∙ xor_zero_r (bit_xor a x) in
    let four : bit_xor (bit_xor (bit_xor (bit_xor a b) c) d) (bit_xor (bit_xor (bit_xor x b) c) d) ≡ bit_xor a x =
    swap (bit_xor (bit_xor a b) c) d (bit_xor (bit_xor x b) c) d ∙ ap₂ (λ k l. bit_xor k l) three (xor_self d) ∙ xor_zero_r (bit_xor a x) in
    let all : bit_xor (bit_xor (bit_xor (bit_xor (bit_xor a b) c) d) z) (bit_xor (bit_xor (bit_xor (bit_xor x b) c) d) (bit_xor z s)) ≡ bit_xor (bit_xor a x) s =
    swap (bit_xor (bit_xor (bit_xor a b) c) d) z (bit_xor (bit_xor (bit_xor x b) c) d) (bit_xor z s) ∙ ap₂ (λ k l. bit_xor k l) four (xor_twice z s) in
    let whole : bit_xor a p ≡ bit_xor a (bit_xor x s) =
    sym (ap₂ (λ k l. bit_xor k l) none left ∙ xor_comm 0 (bit_xor a p) ∙ xor_zero_r (bit_xor a p)) ∙ all ∙ xor_assoc a x s in
    sym (xor_twice a p) ∙ ap (λ t. bit_xor a t) whole ∙ xor_twice a (bit_xor x s) ∙ xor_comm x s

-- shifts of 0 are 0
shifts_of_zero : (n : ℕ) → shifts n 0 ≡ 0
shifts_of_zero n =
    let none : 0 * 2 ^ n ≡ 0 = omega arith in
    steps_low 31 0x04C1_1DB7 n 0 (omega arith) ∙ none

-- a register's own four bytes, run from 0, are its 32 shifts
pub own_run : (r : ℕ) (own : List ℕ) → r < 2 ^ 32 → own ≡ r / 2 ^ 24 % 2 ^ 8 ∷ r / 2 ^ 16 % 2 ^ 8 ∷ r / 2 ^ 8 % 2 ^ 8 ∷ r % 2 ^ 8 ∷ [] → AreBytes own
    → crc32_run 0 own ≡ shifts 32 r
own_run r own small its_bytes all =
    run_is own 0 (lit< tt) all
    ∙ ap₂ (λ x y. bit_xor x y) (shifts_of_zero (8 * length own)) (ap (λ l. entries l) its_bytes)
    ∙ xor_comm 0 (entries (r / 2 ^ 24 % 2 ^ 8 ∷ r / 2 ^ 16 % 2 ^ 8 ∷ r / 2 ^ 8 % 2 ^ 8 ∷ r % 2 ^ 8 ∷ []))
    ∙ xor_zero_r (entries (r / 2 ^ 24 % 2 ^ 8 ∷ r / 2 ^ 16 % 2 ^ 8 ∷ r / 2 ^ 8 % 2 ^ 8 ∷ r % 2 ^ 8 ∷ []))
    ∙ sym (register_is 8 r small ∙ ap (λ t. bit_xor (crc32_entry 32 (r / 2 ^ 24 % 2 ^ 8)) (bit_xor (crc32_entry 24 (r / 2 ^ 16 % 2 ^ 8)) (bit_xor (crc32_entry 16 (r / 2 ^ 8 % 2 ^ 8)) t))) (sym (xor_zero_r (crc32_entry 8 (r % 2 ^ 8)))))

-- a window as its bytes are read: the register's, zeros up to place 300, k bytes of a quotient, and zeros
record ReadsAsWindow (r k : ℕ) (v : ℕ → ℕ) : Type 0 where
  small : r < 2 ^ 32
  bytes : (i : ℕ) → v i < 2 ^ 8
  own : run_over v 4 ≡ shifts 32 r
  before : (i : ℕ) → 4 ≤ i → i < 300 → v i ≡ 0
  behind : (i : ℕ) → k + 300 ≤ i → v i ≡ 0

-- what the four further terms are shifts of, when n bytes are divided
unfoldable term : ℕ → ℕ → ℕ → (ℕ → ℕ) → ℕ
term r k n v = bit_xor (shifts 32 (run_over v (k + 300))) (shifts (8 * n) r)

-- the window from a place on before the quotient, as many bytes as the message has: shifts of that
from_place : (r k d : ℕ) (v : ℕ → ℕ) → ReadsAsWindow r k v → 4 ≤ d → d ≤ 300
    → run_over (λ i. v (i + d)) (k + 304) ≡ shifts (8 * d) (term r k (k + 304) v)
unfolding term
from_place r k d v window least most =
    let n : ℕ = k + 304 in
    let whole : ℕ = run_over v (k + 300) in
    let whole_small : whole < 2 ^ 32 = run_over_fits v (k + 300) window.bytes in
    let zeros : ℕ = d - 4 in
    let start : d ≡ 4 + zeros = omega arith in
    let count : 32 + 8 * zeros ≡ 8 * d = omega arith in
    let swapped : 8 * d + 8 * n ≡ 8 * n + 8 * d = omega arith in
    let ends : d + n ≡ k + 300 + (d + 4) = omega arith in
    let last : 8 * (d + 4) ≡ 32 + 8 * d = omega arith in
    let front : run_over v d ≡ shifts (8 * d) r =
    ap (λ t. run_over v t) start
    ∙ run_over_then_zeros v 4 zeros window.bytes (λ i below. window.before (i + 4) (omega arith) (omega arith))
    ∙ ap (λ t. shifts (8 * zeros) t) window.own
    ∙ sym (steps-add 32 (8 * zeros) r)
    ∙ ap (λ t. shifts t r) count in
    let moved : shifts (8 * n) (run_over v d) ≡ shifts (8 * d) (shifts (8 * n) r) =
    ap (λ t. shifts (8 * n) t) front ∙ sym (steps-add (8 * d) (8 * n) r) ∙ ap (λ t. shifts t r) swapped ∙ steps-add (8 * n) (8 * d) r in
    let on : run_over v (d + n) ≡ shifts (8 * d) (shifts 32 whole) =
    ap (λ t. run_over v t) ends
    ∙ run_over_then_zeros v (k + 300) (d + 4) window.bytes (λ i below. window.behind (i + (k + 300)) (omega arith))
    ∙ ap (λ t. shifts t whole) last
    ∙ steps-add 32 (8 * d) whole in
    other_part (run_over v (d + n)) (shifts (8 * n) (run_over v d)) (run_over (λ i. v (i + d)) n) (run_over-add v d n window.bytes)
    ∙ ap₂ (λ x y. bit_xor x y) on moved
    ∙ sym (shifts-xor (8 * d) (shifts 32 whole) (shifts (8 * n) r) (shifts_fit 32 whole whole_small) (shifts_fit (8 * n) r window.small))

-- the window from its first byte on: the same, and the register's shifts
from_start : (r k : ℕ) (v : ℕ → ℕ) → ReadsAsWindow r k v
    → run_over v (k + 304) ≡ bit_xor (term r k (k + 304) v) (shifts (8 * (k + 304)) r)
unfolding term
from_start r k v window =
    let n : ℕ = k + 304 in
    let whole : ℕ = run_over v (k + 300) in
    let ends : k + 304 ≡ k + 300 + 4 = omega arith in
    let moved : ℕ = shifts 32 whole in
    let own : ℕ = shifts (8 * n) r in
    ap (λ t. run_over v t) ends
    ∙ run_over_then_zeros v (k + 300) 4 window.bytes (λ i below. window.behind (i + (k + 300)) (omega arith))
    ∙ sym (ap (λ t. bit_xor t own) (xor_comm moved own) ∙ xor_comm (bit_xor own moved) own ∙ xor_twice own moved)

-- that has 32 bits
term_fits : (r k : ℕ) (v : ℕ → ℕ) → ReadsAsWindow r k v → term r k (k + 304) v < 2 ^ 32
unfolding term
term_fits r k v window =
    let whole : ℕ = run_over v (k + 300) in
    xor_lt 32 (shifts 32 whole) (shifts (8 * (k + 304)) r) (shifts_fit 32 whole (run_over_fits v (k + 300) window.bytes)) (shifts_fit (8 * (k + 304)) r window.small)

-- the four terms subtracted from a message
abbrev subtracted : (ℕ → ℕ) → (ℕ → ℕ) → ℕ → ℕ
subtracted v b i = bit_xor (bit_xor (bit_xor (bit_xor (b i) (v (i + 155))) (v (i + 117))) (v (i + 89))) (v i)

-- two bytes added are a byte
sum_fits : (f g : ℕ → ℕ) → ((i : ℕ) → f i < 2 ^ 8) → ((i : ℕ) → g i < 2 ^ 8) → (i : ℕ) → bit_xor (f i) (g i) < 2 ^ 8
sum_fits f g f_fits g_fits i = xor_lt 8 (f i) (g i) (f_fits i) (g_fits i)

-- the register over what is left is the sum of those over the message and the four terms
over_subtracted : (v b : ℕ → ℕ) (n : ℕ) → ((i : ℕ) → v i < 2 ^ 8) → ((i : ℕ) → b i < 2 ^ 8)
    → run_over (subtracted v b) n
    ≡ bit_xor (bit_xor (bit_xor (bit_xor (run_over b n) (run_over (λ i. v (i + 155)) n)) (run_over (λ i. v (i + 117)) n)) (run_over (λ i. v (i + 89)) n)) (run_over v n)
over_subtracted v b n v_fits b_fits =
    let v1 : ℕ → ℕ = λ i. v (i + 155) in
    let v2 : ℕ → ℕ = λ i. v (i + 117) in
    let v3 : ℕ → ℕ = λ i. v (i + 89) in
    let f1 : ℕ → ℕ = λ i. bit_xor (b i) (v (i + 155)) in
    let f2 : ℕ → ℕ = λ i. bit_xor (f1 i) (v (i + 117)) in
    let f3 : ℕ → ℕ = λ i. bit_xor (f2 i) (v (i + 89)) in
    let f1_fits : (i : ℕ) → f1 i < 2 ^ 8 = sum_fits b v1 b_fits (λ i. v_fits (i + 155)) in
    let f2_fits : (i : ℕ) → f2 i < 2 ^ 8 = sum_fits f1 v2 f1_fits (λ i. v_fits (i + 117)) in
    let f3_fits : (i : ℕ) → f3 i < 2 ^ 8 = sum_fits f2 v3 f2_fits (λ i. v_fits (i + 89)) in
    run_over-xor (subtracted v b) f3 v n f3_fits v_fits (λ i below. refl)
    ∙ ap (λ t. bit_xor t (run_over v n)) (run_over-xor f3 f2 v3 n f2_fits (λ i. v_fits (i + 89)) (λ i below. refl)
    ∙ ap (λ t. bit_xor t (run_over v3 n)) (run_over-xor f2 f1 v2 n f1_fits (λ i. v_fits (i + 117)) (λ i below. refl)
    ∙ ap (λ t. bit_xor t (run_over v2 n)) (run_over-xor f1 b v1 n b_fits (λ i. v_fits (i + 155)) (λ i below. refl))))

-- the register over what is left is the sum of those over the quotient and over the rest
over_left : (k : ℕ) (v f p : ℕ → ℕ) → ((i : ℕ) → v i < 2 ^ 8) → ((i : ℕ) → f i < 2 ^ 8)
    → ((i : ℕ) → k + 300 ≤ i → v i ≡ 0) → ((i : ℕ) → i < k → v (i + 300) ≡ f i) → ((i : ℕ) → i < 304 → p i ≡ f (k + i))
    → run_over f (k + 304) ≡ bit_xor (run_over (λ i. v (i + 300)) (k + 304)) (run_over p 304)
over_left k v f p v_fits f_fits behind quotient rest =
    let q : ℕ → ℕ = λ i. v (i + 300) in
    let front : run_over f k ≡ run_over q k = run_over_same f q k (λ i below. sym (quotient i below)) in
    let all : run_over q (k + 304) ≡ shifts (8 * 304) (run_over q k) =
    run_over_then_zeros q k 304 (λ i. v_fits (i + 300)) (λ i below. behind (i + k + 300) (omega arith)) in
    let back : run_over (λ i. f (i + k)) 304 ≡ run_over p 304 =
    run_over_same (λ i. f (i + k)) p 304 (λ i below. let place : i + k ≡ k + i = omega arith in ap (λ t. f t) place ∙ sym (rest i below)) in
    run_over-add f k 304 f_fits
    ∙ ap₂ (λ x y. bit_xor x y) (ap (λ t. shifts (8 * 304) t) front ∙ sym all) back

-- the rest has the message's CRC_32
over_rest : (r k : ℕ) (v b p : ℕ → ℕ) → ReadsAsWindow r k v → ((i : ℕ) → b i < 2 ^ 8)
    → ((i : ℕ) → i < k → v (i + 300) ≡ subtracted v b i) → ((i : ℕ) → i < 304 → p i ≡ subtracted v b (k + i))
    → run_over p 304 ≡ bit_xor (shifts (8 * (k + 304)) r) (run_over b (k + 304))
over_rest r k v b p window b_fits quotient rest =
    let n : ℕ = k + 304 in
    let z : ℕ = term r k n v in
    let s : ℕ = shifts (8 * n) r in
    let v_fits : (i : ℕ) → v i < 2 ^ 8 = window.bytes in
    let f_fits : (i : ℕ) → subtracted v b i < 2 ^ 8 =
    sum_fits (λ i. bit_xor (bit_xor (bit_xor (b i) (v (i + 155))) (v (i + 117))) (v (i + 89))) v
    (sum_fits (λ i. bit_xor (bit_xor (b i) (v (i + 155))) (v (i + 117))) (λ i. v (i + 89))
    (sum_fits (λ i. bit_xor (b i) (v (i + 155))) (λ i. v (i + 117)) (sum_fits b (λ i. v (i + 155)) b_fits (λ i. v_fits (i + 155))) (λ i. v_fits (i + 117)))
    (λ i. v_fits (i + 89))) v_fits in
    let e1 : run_over (λ i. v (i + 300)) n ≡ shifts 2400 z = from_place r k 300 v window (omega arith) (omega arith) in
    let e2 : run_over (λ i. v (i + 155)) n ≡ shifts 1240 z = from_place r k 155 v window (omega arith) (omega arith) in
    let e3 : run_over (λ i. v (i + 117)) n ≡ shifts 936 z = from_place r k 117 v window (omega arith) (omega arith) in
    let e4 : run_over (λ i. v (i + 89)) n ≡ shifts 712 z = from_place r k 89 v window (omega arith) (omega arith) in
    let e5 : run_over v n ≡ bit_xor z s = from_start r k v window in
    let left : run_over (subtracted v b) n ≡ bit_xor (shifts 2400 z) (run_over p 304) =
    over_left k v (subtracted v b) p v_fits f_fits window.behind quotient rest ∙ ap (λ t. bit_xor t (run_over p 304)) e1 in
    let terms : run_over (subtracted v b) n ≡ bit_xor (bit_xor (bit_xor (bit_xor (run_over b n) (shifts 1240 z)) (shifts 936 z)) (shifts 712 z)) (bit_xor z s) =
    over_subtracted v b n v_fits b_fits
    ∙ ap₂ (λ x y. bit_xor x y) (ap₂ (λ x y. bit_xor x y) (ap₂ (λ x y. bit_xor x y) (ap (λ t. bit_xor (run_over b n) t) e2) e3) e4) e5 in
    combined (shifts 2400 z) (shifts 1240 z) (shifts 936 z) (shifts 712 z) z s (run_over b n) (run_over p 304) (multiple z (term_fits r k v window)) (sym terms ∙ left)

-- the register over a list of bytes from 0 is the sum of their entries
over_list : (bytes : List ℕ) (n : ℕ) → length bytes ≡ n → AreBytes bytes → run_over (λ i. get_or bytes i 0) n ≡ entries bytes
over_list bytes n long all =
    run_over_list bytes n (omega arith)
    ∙ ap (λ l. crc32_run 0 l) (take_all n bytes (omega arith))
    ∙ run_is bytes 0 (lit< tt) all
    ∙ ap (λ t. bit_xor t (entries bytes)) (shifts_of_zero (8 * length bytes))
    ∙ xor_comm 0 (entries bytes)
    ∙ xor_zero_r (entries bytes)

-- a window's bytes read so
reads_as_window : (r : ℕ) (front window : List ℕ) → r < 2 ^ 32 → IsWindow r front window → ReadsAsWindow r (length front) (λ i. get_or window i 0)
reads_as_window r front window small is_window =
    let own : List ℕ = r / 2 ^ 24 % 2 ^ 8 ∷ r / 2 ^ 16 % 2 ^ 8 ∷ r / 2 ^ 8 % 2 ^ 8 ∷ r % 2 ^ 8 ∷ [] in
    record {
      small = small;
      bytes = reads_fit window is_window.bytes;
      own =
          run_over_same (λ i. get_or window i 0) (λ i. get_or own i 0) 4 is_window.own
          ∙ run_over_list own 4 (omega arith)
          ∙ own_run r own small refl (four_bytes r);
      before = is_window.before;
      behind = is_window.behind;
    }

-- the rest is bytes, and the register after it is the one after the message
pub rest_run : (r : ℕ) (front back window rest : List ℕ) → r < 2 ^ 32 → AreBytes front → AreBytes back → IsWindow r front window
    → length back ≡ 304 → length rest ≡ 304
    → ((i : ℕ) → i < 304 → get_or rest i 0 ≡ left_at window (length front + i) (get_or back i 0))
    → AreBytes rest × (crc32_run 0 rest ≡ crc32_run r (front ++ back))
rest_run r front back window rest small front_all back_all is_window long rest_long left =
    let k : ℕ = length front in
    let n : ℕ = k + 304 in
    let bytes : List ℕ = front ++ back in
    let v : ℕ → ℕ = λ i. get_or window i 0 in
    let b : ℕ → ℕ = λ i. get_or bytes i 0 in
    let all : AreBytes bytes = All-append (λ x. x < 256) front back front_all back_all in
    let bytes_long : length bytes ≡ n = omega (arith, length-append front back) in
    let count : 8 * n ≡ 8 * length bytes = omega arith in
    let rest_all : AreBytes rest =
    All-from_get_or (λ x. x < 256) rest 0 (λ i within. subst (λ t. t < 256) (sym (left i (omega arith)))
    (left_fits window (k + i) (get_or back i 0) (reads_fit window is_window.bytes) (reads_fit back back_all i))) in
    let quotient : (i : ℕ) → i < k → v (i + 300) ≡ subtracted v b i =
    λ i below. is_window.quotient i below ∙ ap (λ t. left_at window i t) (sym (get_or_append_left front back 0 i below)) in
    let remains : (i : ℕ) → i < 304 → get_or rest i 0 ≡ subtracted v b (k + i) =
    λ i below. left i below ∙ ap (λ t. left_at window (k + i) t) (sym (get_or-append-add front back i 0)) in (
      rest_all,
      run_is rest 0 (lit< tt) rest_all
          ∙ ap (λ t. bit_xor t (entries rest)) (shifts_of_zero (8 * length rest))
          ∙ xor_comm 0 (entries rest)
          ∙ xor_zero_r (entries rest)
          ∙ sym (over_list rest 304 rest_long rest_all)
          ∙ over_rest r k v b (λ i. get_or rest i 0) (reads_as_window r front window small is_window) (reads_fit bytes all) quotient remains
          ∙ ap₂ (λ x y. bit_xor x y) (ap (λ t. shifts t r) count) (over_list bytes n bytes_long all)
          ∙ sym (run_is bytes r small all),
    )
