-- One step of the division of a row by the generator polynomial (EN 301 192 clause 9).
use Rattle.std.specs.Prelude.{ℕ, List, ◌≡◌, ◌<◌, ◌+◌, length, slice_index}
use Rattle.wire_spec.specs.Bytes.{AreBytes}
use Rattle.fec_spec.specs.Field.{field_sum, field_product}

-- the remainder with a byte more: each byte is the one that stood after it, plus the generator's coefficient times the sum of the new byte and the first
pub record IsNext (generator state : List ℕ) (byte : ℕ) (next : List ℕ) : Type 0 where
  pub long : length next ≡ 64
  pub bytes : AreBytes next
  pub each : (k : ℕ) → k < 64
      → slice_index next k ≡ field_sum (field_product (field_sum byte (slice_index state 0)) (slice_index generator k)) (slice_index state (k + 1))
