-- The head of a section and what follows it.
use Rattle.std.proofs.Common.{◌≡◌, ℕ, ◌+◌, ◌*◌, List, ◌∷◌, ◌++◌, length, length-append, append_assoc, ap, sym, ◌∙◌, arith}
use Rattle.std.specs.Int.{w16, to_be_bytes}
use Rattle.section_spec.specs.Section.{section_front}
use Rattle.section_codec.specs.Heads.{section_head}

pub length-section_head : (table_id top : ℕ) (head : List ℕ) (rest : ℕ) → length (section_head table_id top head rest) ≡ length head + 3
length-section_head table_id top head rest = omega (arith, length-append (to_be_bytes w16 (top * 256 + (length head + rest + 4))) head)

-- with the second piece of the body it is all before the CRC_32
pub head_and_rest : (table_id top : ℕ) (head rest : List ℕ) → section_head table_id top head (length rest) ++ rest ≡ section_front table_id top (head ++ rest)
head_and_rest table_id top head rest =
    append_assoc (table_id ∷ to_be_bytes w16 (top * 256 + (length head + length rest + 4))) head rest
    ∙ ap (λ (n : ℕ). table_id ∷ to_be_bytes w16 (top * 256 + (n + 4)) ++ (head ++ rest)) (sym (length-append head rest))
