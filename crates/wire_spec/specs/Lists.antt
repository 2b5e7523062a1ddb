-- Lists within lists.
use Rattle.std.specs.Prelude.{◌≡◌, ◌⊎◌, ℕ, ◌<◌, List, [], ◌∷◌, ◌++◌, length, All}

-- the lists one after another
abbrev pub joined : List (List ℕ) → List ℕ
joined [] = []
joined (x ∷ xs) = x ++ joined xs

-- the list is the other one with items left out, in the same order
abbrev pub IsSubsequence : {X : Type 0} → List X → List X → Type 0
IsSubsequence [] ys = Unit {0}
IsSubsequence (x ∷ xs) [] = ⊥
IsSubsequence (x ∷ xs) (y ∷ ys) = ((x ≡ y) × IsSubsequence xs ys) ⊎ IsSubsequence (x ∷ xs) ys

-- the bytes are these pieces of one size and, after them, fewer bytes than a piece has
pub record IsCut (size : ℕ) (bytes : List ℕ) (pieces : List (List ℕ)) (tail : List ℕ) : Type 0 where
  pub whole : bytes ≡ joined pieces ++ tail
  pub each : All (λ piece. length piece ≡ size) pieces
  pub short : length tail < size
