-- Units that are packetized.
use Rattle.std.specs.Prelude.{ℕ, ◌≤◌, List, [], ◌∷◌, length}

-- no unit is empty
abbrev pub AreSome : List (List ℕ) → Type 0
AreSome [] = Unit {0}
AreSome (unit ∷ units) = (1 ≤ length unit) × AreSome units
