-- Fewer than four bytes are no section that passes its check.
use Rattle.std.proofs.Common.{◌≡◌, ℕ, ◌<◌, Bool, true, false, List, length, refl}
use Rattle.std.specs.Prelude.{◌&&◌}
use Rattle.wire_spec.specs.Crc.{ends_with_crc}
use Rattle.crc_law.proofs.CheckSum.{short_has_no_crc}
use Rattle.section_spec.specs.Section.{has_syntax, section_check}

-- either way false
and_false : (t u : Bool) → u ≡ false → (t && u) ≡ false
and_false true u e = e
and_false false u e = refl

pub section_check_short : (bytes : List ℕ) → length bytes < 4 → section_check bytes ≡ false
section_check_short bytes few = and_false (has_syntax bytes) (ends_with_crc bytes) (short_has_no_crc bytes few)
