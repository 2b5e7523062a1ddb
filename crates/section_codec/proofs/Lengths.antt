-- Fewer than three bytes are not as many as section_length says.
use Rattle.std.proofs.Common.{◌≡◌, ℕ, ◌+◌, ◌<◌, Bool, true, false, List, length, refl, arith}
use Rattle.std.specs.Prelude.{◌&&◌, ◌==◌, nat_le}
use Rattle.std.proofs.lemmas.Bool.{ne_eqb}
use Rattle.section_spec.specs.Section.{section_length, has_right_length}

-- the third of three tests fails
third_false : (t u v : Bool) → v ≡ false → (t && (u && v)) ≡ false
third_false true true v e = e
third_false true false v e = refl
third_false false u v e = refl

pub short_has_no_right_length : (b : List ℕ) → length b < 3 → has_right_length b ≡ false
short_has_no_right_length b few =
    third_false (nat_le 9 (section_length b)) (nat_le (section_length b) 4093) (length b == 3 + section_length b)
    (ne_eqb (length b) (3 + section_length b) (λ same. omega (arith, same, few)))
