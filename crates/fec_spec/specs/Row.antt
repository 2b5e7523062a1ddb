-- Rows of an MPE-FEC frame of which some places are unknown (EN 301 192 clause 9).
use Rattle.std.specs.Prelude.{ℕ, List, [], ◌∷◌, ◌≡◌, ◌<◌, ◌≤◌, ◌==◌, ◌||◌, ◌⊎◌, Bool, false, length, slice_index, suc, if◌then◌else◌}
use Rattle.fec_spec.specs.Codeword.{IsCodeword}

-- the place is one of the list
abbrev pub is_among : ℕ → List ℕ → Bool
is_among place [] = false
is_among place (x ∷ places) = (place == x) || is_among place places

-- at how many places two rows have the same byte
abbrev pub same_places : List ℕ → List ℕ → ℕ
same_places [] other = 0
same_places (x ∷ row) [] = 0
same_places (x ∷ row) (y ∷ other) = if x == y then suc (same_places row other) else same_places row other

-- two rows have the same byte at each place that is not unknown
pub record Agrees (unknown row other : List ℕ) : Type 0 where
  pub known : (place : ℕ) → place < 255 → is_among place unknown ≡ false → slice_index row place ≡ slice_index other place

-- some codeword agrees with the row at its known places
abbrev pub HasCodeword : List ℕ → List ℕ → Type 0
HasCodeword unknown row = (code : List ℕ) × IsCodeword code × Agrees unknown row code

-- at most 64 places are unknown, and some codeword agrees with the others (EN 301 192 clause 9)
abbrev pub IsCorrectable : List ℕ → List ℕ → Type 0
IsCorrectable unknown row = (length unknown ≤ 64) × HasCodeword unknown row

-- the corrected row: the codeword that agrees, where at most 64 places are unknown and there is one; otherwise the row as it is (EN 301 192 clause 9)
abbrev pub IsCorrected : List ℕ → List ℕ → List ℕ → Type 0
IsCorrected unknown row new =
    ((length unknown ≤ 64) × IsCodeword new × Agrees unknown row new) ⊎ ((IsCorrectable unknown row → ⊥) × (new ≡ row))
