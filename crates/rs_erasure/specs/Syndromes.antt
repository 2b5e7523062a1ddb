-- The syndromes of a row, as they stand in the work, and what is left of them.
use Rattle.std.specs.Prelude.{ℕ, List, ◌≡◌, ◌⊎◌, ◌+◌, ◌<◌, ◌≤◌, true, length, slice_index}
use Rattle.erasure_law.specs.Roots.{eliminated, syndromes_of}
use Rattle.fec_spec.specs.Row.{is_among}
use Rattle.fec_spec.specs.Table.{table_row}
use Rattle.rs_erasure.specs.Columns.{cell}

-- column m of the work has syndrome m of the table's row, for each m up to 63
abbrev pub HasSyndromes : ℕ → List ℕ → List ℕ → ℕ → Type 0
HasSyndromes rows table work row = (m : ℕ) → m < 64 → cell rows work m row ≡ syndromes_of (table_row 255 rows table row) m

-- column length places + m of the work has what is left from the power m of 2 on, where the places are eliminated from the table's row
abbrev pub HasLeft : ℕ → List ℕ → List ℕ → List ℕ → ℕ → Type 0
HasLeft rows places table work row = (m : ℕ) → m + length places < 64 → cell rows work (length places + m) row ≡ eliminated places (syndromes_of (table_row 255 rows table row)) m

-- a column whose mark is 0 is one of the places, or 0 in the rows of a run
abbrev pub AreEmpty : ℕ → ℕ → ℕ → List ℕ → List ℕ → List ℕ → Type 0
AreEmpty rows from to places table marks =
    (j : ℕ) → j < 255 → slice_index marks j ≡ 0 → (is_among j places ≡ true) ⊎ ((r : ℕ) → from ≤ r → r < to → cell rows table j r ≡ 0)
