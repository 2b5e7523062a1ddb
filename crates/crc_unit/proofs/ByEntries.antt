-- Bytes at once: the register after them is the sum of one entry for each, its own bytes added to the first four.
use Rattle.std.proofs.Common.{ℕ, zero, suc, List, [], ◌∷◌, ◌≡◌, ◌+◌, ◌*◌, ◌/◌, ◌%◌, ◌^◌, ◌<◌, length, drop, get_or, length-drop, refl, ap, ap₂, sym, subst, ◌∙◌, arith, lit<, bit_xor}
use Rattle.std.specs.Int.Bits.{xor_zero_r, xor_block, xor_shifted}
use lib.Bits.{xor_assoc}
use Rattle.std.proofs.lemmas.Nat.{xor_comm}
use Rattle.wire_spec.specs.Bytes.{AreBytes}
use Rattle.division_law.specs.Registers.{register_step, register_steps, crc32_byte, crc32_run}
use Rattle.division_law.proofs.Registers.{steps_none, steps_more, crc32_byte_is}
use Rattle.division_law.proofs.Linear.{steps_xor}
use Rattle.crc_unit.specs.Entry.{crc32_entry, entries}
use Rattle.crc_unit.proofs.Steps.{steps_low}
use Rattle.crc_unit.proofs.Chunks.{eight_is, four_ahead, twelve_are}

-- shifts of a register of CRC_32
abbrev pub shifts : ℕ → ℕ → ℕ
shifts n r = register_steps 31 0x04C1_1DB7 n r

-- shifts and then more shifts
pub steps-add : (n m r : ℕ) → shifts (n + m) r ≡ shifts m (shifts n r)
steps-add zero m r =
    let count : zero + m ≡ m = omega arith in
    ap (λ t. shifts t r) count ∙ ap (λ t. shifts m t) (sym (steps_none 31 0x04C1_1DB7 r))
steps-add (suc n) m r =
    let count : suc n + m ≡ suc (n + m) = omega arith in
    ap (λ t. shifts t r) count
    ∙ steps_more 31 0x04C1_1DB7 (n + m) r
    ∙ steps-add n m (register_step 31 0x04C1_1DB7 r)
    ∙ ap (λ t. shifts m t) (sym (steps_more 31 0x04C1_1DB7 n r))

-- the entry of a sum is the sum of the entries
entry-xor : (n x y : ℕ) → x < 2 ^ 8 → y < 2 ^ 8 → crc32_entry n (bit_xor x y) ≡ bit_xor (crc32_entry n x) (crc32_entry n y)
unfolding crc32_entry
entry-xor n x y x_fits y_fits =
    let x_alone : x * 2 ^ 24 ≡ x * 2 ^ 24 + 0 = omega arith in
    let y_alone : y * 2 ^ 24 ≡ y * 2 ^ 24 + 0 = omega arith in
    let x_small : x * 2 ^ 24 < 2 ^ 32 = omega arith in
    let y_small : y * 2 ^ 24 < 2 ^ 32 = omega arith in
    let none : bit_xor x y * 2 ^ 24 + 0 ≡ bit_xor x y * 2 ^ 24 = omega arith in
    let moved : bit_xor (x * 2 ^ 24) (y * 2 ^ 24) ≡ bit_xor x y * 2 ^ 24 =
    ap₂ (λ a b. bit_xor a b) x_alone y_alone ∙ xor_block 24 x y 0 0 (lit< tt) (lit< tt) ∙ none in
    ap (λ t. shifts n t) (sym moved) ∙ steps_xor 31 0x04C1_1DB7 n (x * 2 ^ 24) (y * 2 ^ 24) x_small y_small (lit< tt)

-- one byte, and the shifts for the bytes after it
byte_behind : (r b m : ℕ) → r < 2 ^ 32 → b < 2 ^ 8
    → shifts m (crc32_byte r b) ≡ bit_xor (shifts (8 + m) r) (crc32_entry (8 + m) b)
unfolding crc32_byte crc32_entry
byte_behind r b m small fits =
    let moved_fits : b * 2 ^ 24 < 2 ^ 32 = omega arith in
    sym (steps-add 8 m (bit_xor r (b * 2 ^ 24))) ∙ steps_xor 31 0x04C1_1DB7 (8 + m) r (b * 2 ^ 24) small moved_fits (lit< tt)

-- the register after bytes: its own shifts and the bytes' entries
pub run_is : (bytes : List ℕ) (r : ℕ) → r < 2 ^ 32 → AreBytes bytes
    → crc32_run r bytes ≡ bit_xor (shifts (8 * length bytes) r) (entries bytes)
run_is [] r small all = sym (xor_zero_r (shifts 0 r) ∙ steps_none 31 0x04C1_1DB7 r)
run_is (b ∷ rest) r small all =
    let fits : b < 2 ^ 8 = all 0 0 (omega arith) in
    let next = crc32_byte_is r b small fits in
    let count : 8 + 8 * length rest ≡ 8 * suc (length rest) = omega arith in
    run_is rest (crc32_byte r b) (next.1) (λ i d within. all (suc i) d (omega arith))
    ∙ ap (λ t. bit_xor t (entries rest)) (byte_behind r b (8 * length rest) small fits)
    ∙ xor_assoc (shifts (8 + 8 * length rest) r) (crc32_entry (8 + 8 * length rest) b) (entries rest)
    ∙ ap (λ t. bit_xor (shifts t r) (entries (b ∷ rest))) count

-- shifts that first move a byte to the highest bits
entry_low : (n m p x k : ℕ) → k ≡ m + n → p * 2 ^ m ≡ 2 ^ 24 → x < 2 ^ 8 → shifts k (x * p) ≡ crc32_entry n x
unfolding crc32_entry
entry_low n m p x k count whole fits =
    let moved : x * p * 2 ^ m ≡ x * 2 ^ 24 = (grind arith) ∙ ap (λ t. x * t) whole in
    let small : x * 2 ^ 24 < 2 ^ 32 = omega arith in
    ap (λ t. shifts t (x * p)) count
    ∙ steps-add m n (x * p)
    ∙ ap (λ t. shifts n t) (steps_low 31 0x04C1_1DB7 m (x * p) (subst (λ t. t < 2 ^ 32) (sym moved) small) ∙ moved)

-- shifts of a register are the entries of its four bytes, added
pub register_is : (n r : ℕ) → r < 2 ^ 32
    → shifts (24 + n) r
    ≡ bit_xor (crc32_entry (24 + n) (r / 2 ^ 24 % 2 ^ 8)) (bit_xor (crc32_entry (16 + n) (r / 2 ^ 16 % 2 ^ 8)) (bit_xor (crc32_entry (8 + n) (r / 2 ^ 8 % 2 ^ 8)) (crc32_entry n (r % 2 ^ 8))))
register_is n r small =
    let top : ℕ = r / 2 ^ 24 % 2 ^ 8 in
    let second : ℕ = r / 2 ^ 16 % 2 ^ 8 in
    let third : ℕ = r / 2 ^ 8 % 2 ^ 8 in
    let last : ℕ = r % 2 ^ 8 in
    let top_fits : top < 2 ^ 8 = omega arith in
    let second_fits : second < 2 ^ 8 = omega arith in
    let third_fits : third < 2 ^ 8 = omega arith in
    let last_fits : last < 2 ^ 8 = omega arith in
    let two : ℕ = third * 2 ^ 8 + last in
    let three : ℕ = second * 2 ^ 16 + two in
    let parts : r ≡ top * 2 ^ 24 + three = omega arith in
    let two_fit : two < 2 ^ 16 = omega arith in
    let three_fit : three < 2 ^ 24 = omega arith in
    let two_small : two < 2 ^ 32 = omega arith in
    let three_small : three < 2 ^ 32 = omega arith in
    let last_small : last < 2 ^ 32 = omega arith in
    let top_small : top * 2 ^ 24 < 2 ^ 32 = omega arith in
    let second_small : second * 2 ^ 16 < 2 ^ 32 = omega arith in
    let third_small : third * 2 ^ 8 < 2 ^ 32 = omega arith in
    let one : last ≡ last * 1 = omega arith in
    let k : ℕ = 24 + n in
    let last_is : shifts k last ≡ crc32_entry n last =
    ap (λ t. shifts k t) one ∙ entry_low n 24 1 last k refl refl last_fits in
    let two_is : shifts k two ≡ bit_xor (crc32_entry (8 + n) third) (crc32_entry n last) =
    ap (λ t. shifts k t) (sym (xor_shifted third 8 last last_fits))
    ∙ steps_xor 31 0x04C1_1DB7 k (third * 2 ^ 8) last third_small last_small (lit< tt)
    ∙ ap₂ (λ x y. bit_xor x y) (entry_low (8 + n) 16 (2 ^ 8) third k (omega arith) refl third_fits) last_is in
    let three_is : shifts k three ≡ bit_xor (crc32_entry (16 + n) second) (bit_xor (crc32_entry (8 + n) third) (crc32_entry n last)) =
    ap (λ t. shifts k t) (sym (xor_shifted second 16 two two_fit))
    ∙ steps_xor 31 0x04C1_1DB7 k (second * 2 ^ 16) two second_small two_small (lit< tt)
    ∙ ap₂ (λ x y. bit_xor x y) (entry_low (16 + n) 8 (2 ^ 16) second k (omega arith) refl second_fits) two_is in
    ap (λ t. shifts k t) (parts ∙ sym (xor_shifted top 24 three three_fit))
    ∙ steps_xor 31 0x04C1_1DB7 k (top * 2 ^ 24) three top_small three_small (lit< tt)
    ∙ ap₂ (λ x y. bit_xor x y) (entry_low (24 + n) 0 (2 ^ 24) top k (omega arith) refl top_fits) three_is

-- two sums, added place by place
pub swap : (a b x y : ℕ) → bit_xor (bit_xor a b) (bit_xor x y) ≡ bit_xor (bit_xor a x) (bit_xor b y)
swap a b x y =
    xor_assoc a b (bit_xor x y)
    ∙ ap (λ t. bit_xor a t) (sym (xor_assoc b x y) ∙ ap (λ t. bit_xor t y) (xor_comm b x) ∙ xor_assoc x b y)
    ∙ sym (xor_assoc a x (bit_xor b y))

-- entries added to a number one after another
abbrev added_to : ℕ → List ℕ → ℕ
added_to sum [] = sum
added_to sum (byte ∷ rest) = added_to (bit_xor sum (crc32_entry (8 + 8 * length rest) byte)) rest

-- they are added from the first on or from the last on
added : (sum : ℕ) (bytes : List ℕ) → bit_xor sum (entries bytes) ≡ added_to sum bytes
added sum [] = xor_zero_r sum
added sum (byte ∷ rest) =
    sym (xor_assoc sum (crc32_entry (8 + 8 * length rest) byte) (entries rest))
    ∙ added (bit_xor sum (crc32_entry (8 + 8 * length rest) byte)) rest

-- four bytes and a rest: the register's four bytes added to the first four, the rest by its entries
pub by_front : (n r b0 b1 b2 b3 : ℕ) (rest : List ℕ) → r < 2 ^ 32 → AreBytes (b0 ∷ b1 ∷ b2 ∷ b3 ∷ rest) → n ≡ 8 + 8 * length rest
    → crc32_run r (b0 ∷ b1 ∷ b2 ∷ b3 ∷ rest)
    ≡ bit_xor (crc32_entry (24 + n) (bit_xor (r / 2 ^ 24 % 2 ^ 8) b0))
    (bit_xor (crc32_entry (16 + n) (bit_xor (r / 2 ^ 16 % 2 ^ 8) b1))
    (bit_xor (crc32_entry (8 + n) (bit_xor (r / 2 ^ 8 % 2 ^ 8) b2))
    (bit_xor (crc32_entry n (bit_xor (r % 2 ^ 8) b3)) (entries rest))))
by_front n r b0 b1 b2 b3 rest small all count =
    let a0 : ℕ = r / 2 ^ 24 % 2 ^ 8 in
    let a1 : ℕ = r / 2 ^ 16 % 2 ^ 8 in
    let a2 : ℕ = r / 2 ^ 8 % 2 ^ 8 in
    let a3 : ℕ = r % 2 ^ 8 in
    let x0 : ℕ = crc32_entry (24 + n) (bit_xor a0 b0) in
    let x1 : ℕ = crc32_entry (16 + n) (bit_xor a1 b1) in
    let x2 : ℕ = crc32_entry (8 + n) (bit_xor a2 b2) in
    let x3 : ℕ = crc32_entry n (bit_xor a3 b3) in
    let t : ℕ = entries rest in
    let m0 : bit_xor (crc32_entry (24 + n) a0) (crc32_entry (24 + n) b0) ≡ x0 = sym (entry-xor (24 + n) a0 b0 (omega arith) (all 0 0 (omega arith))) in
    let m1 : bit_xor (crc32_entry (16 + n) a1) (crc32_entry (16 + n) b1) ≡ x1 = sym (entry-xor (16 + n) a1 b1 (omega arith) (all 1 0 (omega arith))) in
    let m2 : bit_xor (crc32_entry (8 + n) a2) (crc32_entry (8 + n) b2) ≡ x2 = sym (entry-xor (8 + n) a2 b2 (omega arith) (all 2 0 (omega arith))) in
    let m3 : bit_xor (crc32_entry n a3) (crc32_entry n b3) ≡ x3 = sym (entry-xor n a3 b3 (omega arith) (all 3 0 (omega arith))) in
    let y1 : ℕ = bit_xor (crc32_entry (8 + n) a2) (crc32_entry n a3) in
    let y0 : ℕ = bit_xor (crc32_entry (16 + n) a1) y1 in
    let z2 : ℕ = bit_xor (crc32_entry n b3) t in
    let z1 : ℕ = bit_xor (crc32_entry (8 + n) b2) z2 in
    let z0 : ℕ = bit_xor (crc32_entry (16 + n) b1) z1 in
    let s3 : bit_xor (crc32_entry n a3) z2 ≡ bit_xor x3 t = sym (xor_assoc (crc32_entry n a3) (crc32_entry n b3) t) ∙ ap (λ u. bit_xor u t) m3 in
    let s2 : bit_xor y1 z1 ≡ bit_xor x2 (bit_xor x3 t) =
    swap (crc32_entry (8 + n) a2) (crc32_entry n a3) (crc32_entry (8 + n) b2) z2 ∙ ap₂ (λ x y. bit_xor x y) m2 s3 in
    let s1 : bit_xor y0 z0 ≡ bit_xor x1 (bit_xor x2 (bit_xor x3 t)) =
    swap (crc32_entry (16 + n) a1) y1 (crc32_entry (16 + n) b1) z1 ∙ ap₂ (λ x y. bit_xor x y) m1 s2 in
    let s0 : bit_xor (bit_xor (crc32_entry (24 + n) a0) y0) (bit_xor (crc32_entry (24 + n) b0) z0) ≡ bit_xor x0 (bit_xor x1 (bit_xor x2 (bit_xor x3 t))) =
    swap (crc32_entry (24 + n) a0) y0 (crc32_entry (24 + n) b0) z0 ∙ ap₂ (λ x y. bit_xor x y) m0 s1 in
    let c : 8 * suc (suc (suc (suc (length rest)))) ≡ 24 + n = omega arith in
    let c0 : 8 + 8 * suc (suc (suc (length rest))) ≡ 24 + n = omega arith in
    let c1 : 8 + 8 * suc (suc (length rest)) ≡ 16 + n = omega arith in
    let c2 : 8 + 8 * suc (length rest) ≡ 8 + n = omega arith in
    let b2_on : bit_xor (crc32_entry (8 + 8 * suc (length rest)) b2) (bit_xor (crc32_entry (8 + 8 * length rest) b3) t) ≡ z1 =
    ap₂ (λ x y. bit_xor (crc32_entry x b2) (bit_xor (crc32_entry y b3) t)) c2 (sym count) in
    let b0_on : entries (b0 ∷ b1 ∷ b2 ∷ b3 ∷ rest) ≡ bit_xor (crc32_entry (24 + n) b0) z0 =
    ap₂ (λ x y. bit_xor (crc32_entry x b0) y) c0 (ap₂ (λ x y. bit_xor (crc32_entry x b1) y) c1 b2_on) in
    run_is (b0 ∷ b1 ∷ b2 ∷ b3 ∷ rest) r small all
    ∙ ap₂ (λ x y. bit_xor x y) (ap (λ k. shifts k r) c ∙ register_is n r small) b0_on
    ∙ s0

-- eight bytes by eight entries, the register's four bytes added to the first four
by_eight : (r b0 b1 b2 b3 b4 b5 b6 b7 : ℕ) → r < 2 ^ 32 → AreBytes (b0 ∷ b1 ∷ b2 ∷ b3 ∷ b4 ∷ b5 ∷ b6 ∷ b7 ∷ [])
    → bit_xor (bit_xor (bit_xor (bit_xor (bit_xor (bit_xor (bit_xor
    (crc32_entry 64 (bit_xor (r / 2 ^ 24 % 2 ^ 8) b0))
    (crc32_entry 56 (bit_xor (r / 2 ^ 16 % 2 ^ 8) b1)))
    (crc32_entry 48 (bit_xor (r / 2 ^ 8 % 2 ^ 8) b2)))
    (crc32_entry 40 (bit_xor (r % 2 ^ 8) b3)))
    (crc32_entry 32 b4)) (crc32_entry 24 b5)) (crc32_entry 16 b6)) (crc32_entry 8 b7)
    ≡ crc32_run r (b0 ∷ b1 ∷ b2 ∷ b3 ∷ b4 ∷ b5 ∷ b6 ∷ b7 ∷ [])
by_eight r b0 b1 b2 b3 b4 b5 b6 b7 small all =
    let x0 : ℕ = crc32_entry 64 (bit_xor (r / 2 ^ 24 % 2 ^ 8) b0) in
    let x1 : ℕ = crc32_entry 56 (bit_xor (r / 2 ^ 16 % 2 ^ 8) b1) in
    let x2 : ℕ = crc32_entry 48 (bit_xor (r / 2 ^ 8 % 2 ^ 8) b2) in
    let x3 : ℕ = crc32_entry 40 (bit_xor (r % 2 ^ 8) b3) in
    sym (by_front 40 r b0 b1 b2 b3 (b4 ∷ b5 ∷ b6 ∷ b7 ∷ []) small all refl
    ∙ sym (xor_assoc x0 x1 (bit_xor x2 (bit_xor x3 (entries (b4 ∷ b5 ∷ b6 ∷ b7 ∷ [])))))
    ∙ sym (xor_assoc (bit_xor x0 x1) x2 (bit_xor x3 (entries (b4 ∷ b5 ∷ b6 ∷ b7 ∷ []))))
    ∙ sym (xor_assoc (bit_xor (bit_xor x0 x1) x2) x3 (entries (b4 ∷ b5 ∷ b6 ∷ b7 ∷ [])))
    ∙ added (bit_xor (bit_xor (bit_xor x0 x1) x2) x3) (b4 ∷ b5 ∷ b6 ∷ b7 ∷ []))

-- the entries of eight bytes, those of the register added to the first four
abbrev pub sum_of_entries : List ℕ → List ℕ → ℕ
sum_of_entries own eight =
    bit_xor (bit_xor (bit_xor (bit_xor (bit_xor (bit_xor (bit_xor
    (crc32_entry 64 (bit_xor (get_or own 0 0) (get_or eight 0 0)))
    (crc32_entry 56 (bit_xor (get_or own 1 0) (get_or eight 1 0))))
    (crc32_entry 48 (bit_xor (get_or own 2 0) (get_or eight 2 0))))
    (crc32_entry 40 (bit_xor (get_or own 3 0) (get_or eight 3 0))))
    (crc32_entry 32 (get_or eight 4 0))) (crc32_entry 24 (get_or eight 5 0))) (crc32_entry 16 (get_or eight 6 0))) (crc32_entry 8 (get_or eight 7 0))

-- the register after eight bytes
pub eight_run : (r : ℕ) (own eight : List ℕ) → r < 2 ^ 32 → own ≡ r / 2 ^ 24 % 2 ^ 8 ∷ r / 2 ^ 16 % 2 ^ 8 ∷ r / 2 ^ 8 % 2 ^ 8 ∷ r % 2 ^ 8 ∷ []
    → length eight ≡ 8 → AreBytes eight → sum_of_entries own eight ≡ crc32_run r eight
eight_run r own eight small its_bytes long all =
    let spelled = eight_is eight long in
    ap (λ l. sum_of_entries l eight) its_bytes
    ∙ by_eight r (get_or eight 0 0) (get_or eight 1 0) (get_or eight 2 0) (get_or eight 3 0) (get_or eight 4 0) (get_or eight 5 0) (get_or eight 6 0) (get_or eight 7 0) small (subst (λ l. AreBytes l) spelled all)
    ∙ ap (λ l. crc32_run r l) (sym spelled)

-- what the last twelve of sixteen bytes add
abbrev pub sum_of_twelve : List ℕ → ℕ
sum_of_twelve xs =
    bit_xor (bit_xor (bit_xor (bit_xor (bit_xor (bit_xor (bit_xor (bit_xor (bit_xor (bit_xor (bit_xor
    (crc32_entry 96 (get_or xs 4 0))
    (crc32_entry 88 (get_or xs 5 0)))
    (crc32_entry 80 (get_or xs 6 0)))
    (crc32_entry 72 (get_or xs 7 0)))
    (crc32_entry 64 (get_or xs 8 0)))
    (crc32_entry 56 (get_or xs 9 0)))
    (crc32_entry 48 (get_or xs 10 0)))
    (crc32_entry 40 (get_or xs 11 0)))
    (crc32_entry 32 (get_or xs 12 0)))
    (crc32_entry 24 (get_or xs 13 0)))
    (crc32_entry 16 (get_or xs 14 0)))
    (crc32_entry 8 (get_or xs 15 0))

-- it is their entries
pub twelve_added : (xs : List ℕ) → length xs ≡ 16 → sum_of_twelve xs ≡ entries (drop 4 xs)
twelve_added xs long =
    let last : List ℕ = get_or xs 5 0 ∷ get_or xs 6 0 ∷ get_or xs 7 0 ∷ get_or xs 8 0 ∷ get_or xs 9 0 ∷ get_or xs 10 0 ∷ get_or xs 11 0 ∷ get_or xs 12 0 ∷ get_or xs 13 0 ∷ get_or xs 14 0 ∷ get_or xs 15 0 ∷ [] in
    sym (added (crc32_entry 96 (get_or xs 4 0)) last) ∙ ap (λ l. entries l) (sym (twelve_are xs long))

-- the register after sixteen bytes
pub sixteen_run : (r : ℕ) (own xs : List ℕ) → r < 2 ^ 32 → own ≡ r / 2 ^ 24 % 2 ^ 8 ∷ r / 2 ^ 16 % 2 ^ 8 ∷ r / 2 ^ 8 % 2 ^ 8 ∷ r % 2 ^ 8 ∷ []
    → length xs ≡ 16 → AreBytes xs
    → bit_xor (bit_xor (entries (drop 4 xs))
    (bit_xor (crc32_entry 128 (bit_xor (get_or own 0 0) (get_or xs 0 0))) (crc32_entry 120 (bit_xor (get_or own 1 0) (get_or xs 1 0)))))
    (bit_xor (crc32_entry 112 (bit_xor (get_or own 2 0) (get_or xs 2 0))) (crc32_entry 104 (bit_xor (get_or own 3 0) (get_or xs 3 0))))
    ≡ crc32_run r xs
sixteen_run r own xs small its_bytes long all =
    let spelled = four_ahead xs (omega arith) in
    let rest : List ℕ = drop 4 xs in
    let count : 104 ≡ 8 + 8 * length rest = omega (arith, length-drop 4 xs) in
    let upper : ℕ = bit_xor (crc32_entry 128 (bit_xor (r / 2 ^ 24 % 2 ^ 8) (get_or xs 0 0))) (crc32_entry 120 (bit_xor (r / 2 ^ 16 % 2 ^ 8) (get_or xs 1 0))) in
    let x2 : ℕ = crc32_entry 112 (bit_xor (r / 2 ^ 8 % 2 ^ 8) (get_or xs 2 0)) in
    let x3 : ℕ = crc32_entry 104 (bit_xor (r % 2 ^ 8) (get_or xs 3 0)) in
    let t : ℕ = entries rest in
    ap (λ l. bit_xor (bit_xor t (bit_xor (crc32_entry 128 (bit_xor (get_or l 0 0) (get_or xs 0 0))) (crc32_entry 120 (bit_xor (get_or l 1 0) (get_or xs 1 0))))) (bit_xor (crc32_entry 112 (bit_xor (get_or l 2 0) (get_or xs 2 0))) (crc32_entry 104 (bit_xor (get_or l 3 0) (get_or xs 3 0))))) its_bytes
    ∙ ap (λ u. bit_xor u (bit_xor x2 x3)) (xor_comm t upper)
    ∙ xor_assoc upper t (bit_xor x2 x3)
    ∙ ap (λ u. bit_xor upper u) (xor_comm t (bit_xor x2 x3) ∙ xor_assoc x2 x3 t)
    ∙ xor_assoc (crc32_entry 128 (bit_xor (r / 2 ^ 24 % 2 ^ 8) (get_or xs 0 0))) (crc32_entry 120 (bit_xor (r / 2 ^ 16 % 2 ^ 8) (get_or xs 1 0))) (bit_xor x2 (bit_xor x3 t))
    ∙ sym (by_front 104 r (get_or xs 0 0) (get_or xs 1 0) (get_or xs 2 0) (get_or xs 3 0) rest small (subst (λ l. AreBytes l) spelled all) count)
    ∙ ap (λ l. crc32_run r l) (sym spelled)
