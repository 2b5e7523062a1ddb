-- Stamps of an m2ts recording, and the moments that are counted from them.
use Rattle.std.specs.Prelude.{ℕ, ◌+◌, List, [], ◌∷◌, zero, suc, nat_lt, if◌then◌else◌}
use Rattle.ts_spec.specs.Recording.{m2ts_stamp}

-- how often the stamps of m2ts records fall up to record j, where this one stands before the first
abbrev pub falls : ℕ → List (List ℕ) → ℕ → ℕ
falls before [] j = 0
falls before (piece ∷ pieces) zero = if nat_lt (m2ts_stamp piece) before then 1 else 0
falls before (piece ∷ pieces) (suc j) = (if nat_lt (m2ts_stamp piece) before then 1 else 0) + falls (m2ts_stamp piece) pieces j
