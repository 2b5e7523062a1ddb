-- Numbers at byte positions of a list, the most significant byte first.
use Rattle.std.specs.Prelude.{ℕ, ◌+◌, ◌*◌, ◌<◌, List, [], ◌∷◌, slice_index, All}

-- all numbers of the list are 0 to 255
abbrev pub AreBytes : List ℕ → Type 0
AreBytes bytes = All (λ byte. byte < 256) bytes

-- the number in two bytes from a place on, the most significant first
abbrev pub u16_at : List ℕ → ℕ → ℕ
u16_at b i = slice_index b i * 256 + slice_index b (i + 1)

-- the number in four bytes from a place on, the most significant first
abbrev pub u32_at : List ℕ → ℕ → ℕ
u32_at b i = u16_at b i * 65536 + u16_at b (i + 2)

-- the four bytes from a place on
abbrev pub four_at : List ℕ → ℕ → List ℕ
four_at b i = slice_index b i ∷ slice_index b (i + 1) ∷ slice_index b (i + 2) ∷ slice_index b (i + 3) ∷ []

-- the six bytes from a place on, as an address has them
abbrev pub six_at : List ℕ → ℕ → List ℕ
six_at b i =
    slice_index b i ∷ slice_index b (i + 1) ∷ slice_index b (i + 2) ∷ slice_index b (i + 3) ∷ slice_index b (i + 4) ∷ slice_index b (i + 5) ∷ []
