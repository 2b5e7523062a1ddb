-- What is written before the second piece of a section's body.
use Rattle.std.specs.Prelude.{ℕ, ◌+◌, ◌*◌, List, ◌∷◌, ◌++◌, length}
use Rattle.std.specs.Int.{w16, to_be_bytes}

-- table_id, the upper half of byte 1 and section_length, and the first piece of the body, where the second has so many bytes (ISO/IEC 13818-1 clause 2.4.4)
abbrev pub section_head : ℕ → ℕ → List ℕ → ℕ → List ℕ
section_head table_id top head rest = table_id ∷ to_be_bytes w16 (top * 256 + (length head + rest + 4)) ++ head
