-- Datagrams that stand one after another in a buffer.
use Rattle.std.specs.Prelude.{◌≡◌, ℕ, ◌-◌, ◌≤◌, List, [], ◌∷◌, take, drop}

-- the bytes from place to place, up to each of these ends, the first from a place on
abbrev pub pieces_from : ℕ → List ℕ → List ℕ → List (List ℕ)
pieces_from from bytes [] = []
pieces_from from bytes (end ∷ ends) = take (end - from) (drop from bytes) ∷ pieces_from end bytes ends

-- each piece ends after the one before, or there, and the last at the end of so many bytes
abbrev pub AreEndsFrom : ℕ → ℕ → List ℕ → Type 0
AreEndsFrom from size [] = from ≡ size
AreEndsFrom from size (end ∷ ends) = (from ≤ end) × AreEndsFrom end size ends
