-- A row whose wanted places are corrected one after another, from the first unknown one on.
use Rattle.std.specs.Prelude.{ℕ, List, ◌≡◌, ◌⊎◌, ◌+◌, ◌-◌, ◌<◌, ◌≤◌, drop, length}
use Rattle.erasure_law.specs.Roots.{eliminated, syndromes_of}
use Rattle.fec_spec.specs.Codeword.{IsCodeword}
use Rattle.fec_spec.specs.Row.{Agrees, IsCorrectable}

-- what is left of the row where the last j unknown places are eliminated stands in column j for each that is still to do, from the
-- lowest on, and is 0 where a corrected place is the next; where all are eliminated nothing is left
pub record IsBeingCorrected (unknown : List ℕ) (lowest corrected : ℕ) (row : List ℕ) (column : ℕ → ℕ) : Type 0 where
  pub to_do : (j : ℕ) → lowest ≤ j → j < length unknown - corrected → column j ≡ eliminated (drop (length unknown - j) unknown) (syndromes_of row) 0
  pub done : (j : ℕ) → length unknown - corrected ≤ j → j < length unknown → eliminated (drop (length unknown - j) unknown) (syndromes_of row) 0 ≡ 0
  pub rest : (m : ℕ) → m + length unknown < 64 → eliminated unknown (syndromes_of row) m ≡ 0

-- the row, corrected but at some of its unknown places: a codeword agrees with the row at its known places, and with the new row but at
-- these; where there is none, or more than 64 places are unknown, the row is as it was
abbrev pub IsCorrectedBut : List ℕ → List ℕ → List ℕ → List ℕ → Type 0
IsCorrectedBut others unknown row new =
    ((length unknown ≤ 64) × ((code : List ℕ) × IsCodeword code × Agrees unknown row code × Agrees others new code)) ⊎ ((IsCorrectable unknown row → ⊥) × (new ≡ row))
