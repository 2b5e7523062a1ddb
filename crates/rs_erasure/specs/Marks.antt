-- Rows of a run that are marked.
use Rattle.std.specs.Prelude.{ℕ, List, ◌≡◌, ◌≢◌, ◌<◌, ◌≤◌, ◌⊎◌}
use Rattle.rs_erasure.specs.Columns.{cell}

-- the mark is 0 where the columns from `first` on are 0 in the row, and then those before it stay there;
-- it is 1 where one of them is not 0, and then those before it become 0 there
abbrev pub IsMarked : ℕ → ℕ → List ℕ → List ℕ → ℕ → ℕ → Type 0
IsMarked rows first old new row mark =
    ((mark ≡ 0) × ((j : ℕ) → first ≤ j → j < 64 → cell rows old j row ≡ 0) × ((j : ℕ) → j < first → cell rows new j row ≡ cell rows old j row))
    ⊎ ((mark ≡ 1) × ((j : ℕ) × (first ≤ j) × (j < 64) × (cell rows old j row ≢ 0)) × ((j : ℕ) → j < first → cell rows new j row ≡ 0))
