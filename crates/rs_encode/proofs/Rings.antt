-- Rows of a table that is read round.
use Rattle.std.proofs.Common.{ℕ, List, ◌≡◌, ◌+◌, ◌*◌, ◌%◌, ◌<◌, length, get_or, arith, ap, ◌∙◌, sym, inl, inr, replicate}
use Rattle.std.proofs.lemmas.Bool.{cases_lt}
use Rattle.std.proofs.lemmas.List.{get_or-replicate, get_or_past, length-replicate}
use Rattle.std.proofs.lemmas.Grind.{same_number_lists}
use Rattle.std.proofs.lemmas.List.FromFn.{length-map-range_with_len, get_or-map-range_with_len}
use Rattle.fec_spec.specs.Table.{table_row}
use Rattle.rs_encode.specs.Ring.{ring_row}
use Rattle.rs_encode.proofs.TableRows.{table_row_is}

pub length-ring_row : (first rows : ℕ) (parity : List ℕ) (r : ℕ) → length (ring_row first rows parity r) ≡ 64
unfolding ring_row
length-ring_row first rows parity r = length-map-range_with_len (λ k. get_or parity ((first + k) % 64 * rows + r) 0) 0 64

pub ring_row-at : (first rows : ℕ) (parity : List ℕ) (r k : ℕ) → k < 64
    → get_or (ring_row first rows parity r) k 0 ≡ get_or parity ((first + k) % 64 * rows + r) 0
unfolding ring_row
ring_row-at first rows parity r k h = get_or-map-range_with_len (λ j. get_or parity ((first + j) % 64 * rows + r) 0) 0 64 k k 0 h (omega arith)

-- read from the first column on
pub ring_row_whole : (rows : ℕ) (parity : List ℕ) (r : ℕ) → ring_row 0 rows parity r ≡ table_row 64 rows parity r
ring_row_whole rows parity r =
    table_row_is 64 rows parity r (ring_row 0 rows parity r) (length-ring_row 0 rows parity r)
    (λ k h. let e : (0 + k) % 64 ≡ k = omega arith in ring_row-at 0 rows parity r k h ∙ ap (λ j. get_or parity (j * rows + r) 0) e)

-- a byte of zeros
zero_at : (n i : ℕ) → ◌≡◌ {A = ℕ} (get_or (replicate n 0) i 0) 0
zero_at n i = elim (cases_lt i n) [
  | inl low ↦ get_or-replicate n i 0 0 low
  | inr past ↦ let zeros : List ℕ = replicate n 0 in let l : length zeros ≡ n = length-replicate {A = ℕ} n 0 in get_or_past zeros i 0 (omega arith)
]

-- of zeros
pub ring_row_zeros : (first rows n r : ℕ) → ring_row first rows (replicate n 0) r ≡ replicate 64 0
ring_row_zeros first rows n r =
    let l : length (ring_row first rows (replicate n 0) r) ≡ 64 = length-ring_row first rows (replicate n 0) r in
    let l2 : length (replicate {A = ℕ} 64 0) ≡ 64 = length-replicate {A = ℕ} 64 0 in
    same_number_lists (ring_row first rows (replicate n 0) r) (replicate 64 0) (l ∙ sym l2)
    (λ k h. ring_row-at first rows (replicate n 0) r k (omega arith) ∙ zero_at n ((first + k) % 64 * rows + r) ∙ sym (zero_at 64 k))
