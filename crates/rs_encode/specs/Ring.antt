-- A table of 64 parity columns that is read round, from one of them on.
use Rattle.std.specs.Prelude.{ℕ, List, ◌+◌, ◌*◌, ◌%◌, map, slice_index}
use Rattle.std.specs.List.{range_with_len}

-- the 64 parity bytes of row r: byte k stands in column first + k, and column 0 comes after column 63
unfoldable pub ring_row : ℕ → ℕ → List ℕ → ℕ → List ℕ
ring_row first rows parity r = map (λ k. slice_index parity ((first + k) % 64 * rows + r)) (range_with_len 0 64)
