use Rattle.std.proofs.Common.{◌≡◌, ◌<◌, ℕ, get_or, length, take, true, false}
use Rattle.std.specs.List.{All}
use Rattle.fec_spec.specs.Row.{is_among}
use Rattle.rs_erasure.specs.Fill.{Fills}
use Rattle.rs_erasure.proofs.weights.filled.Given as goal

abbrev pub invariant-loop-place : goal.invariant-loop-place
invariant-loop-place l = record {
  known : (i : ℕ) → i < 255 → is_among i (take l.place-index l.unknown) ≡ false → get_or l.row i 0 ≡ get_or l.clear i 0;
  found : (i : ℕ) → i < 255 → is_among i (take l.place-index l.unknown) ≡ true → Fills (λ m. get_or l.syndromes m 0) l.unknown i (get_or l.row i 0);
  long : length l.row ≡ 255;
  bytes : All (λ b. b < 256) l.row;
}
