-- The data field of a frame: DFL has 16 bits and counts bits.
use Rattle.std.proofs.Common.{◌≡◌, ℕ, ◌/◌, ◌≤◌, List, length, drop, take, get_or, Fits, w8, arith}
use Rattle.std.specs.Prelude.{min}
use Rattle.std.proofs.lemmas.List.{length-take}
use Rattle.wire_spec.specs.Bytes.{u16_at}
use Rattle.gse_spec.specs.Frame.{frame_fields}

pub short_field : (bytes : List ℕ) → ((i : ℕ) → Fits w8 (get_or bytes i 0)) → length (frame_fields bytes).field ≤ 8191
unfolding frame_fields
short_field bytes each =
    let dfl : u16_at bytes 4 / 8 ≤ 8191 = omega (arith, each 4, each 5) in
    let size : length (take (u16_at bytes 4 / 8) (drop 10 bytes)) ≡ min (u16_at bytes 4 / 8) (length (drop 10 bytes)) = length-take (u16_at bytes 4 / 8) (drop 10 bytes) in
    grind (arith, dfl, size)
