-- Bytes as loops or descriptors: cut where each tells that it ends.
use Rattle.std.specs.Prelude.{ℕ, zero, suc, ◌+◌, ◌%◌, ◌^◌, List, [], ◌∷◌, take, drop, length, slice_index}
use Rattle.wire_spec.specs.Bytes.{u16_at}

-- the size that a loop tells, and that of a descriptor (EN 301 192 clause 8.4)
abbrev pub loop_size : List ℕ → ℕ
loop_size b = 2 + u16_at b 0 % 2 ^ 12

abbrev pub descriptor_size : List ℕ → ℕ
descriptor_size b = 2 + slice_index b 1

-- bytes cut into so many pieces at most, each of the size that it tells; the last has fewer bytes where no more are there
abbrev pub cut : (List ℕ → ℕ) → ℕ → List ℕ → List (List ℕ)
cut size zero b = []
cut size (suc n) [] = []
cut size (suc n) (x ∷ b) = take (size (x ∷ b)) (x ∷ b) ∷ cut size n (drop (size (x ∷ b)) (x ∷ b))

-- all pieces
abbrev pub pieces : (List ℕ → ℕ) → List ℕ → List (List ℕ)
pieces size b = cut size (length b) b
