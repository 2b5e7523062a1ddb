use Rattle.std.proofs.Common.{◌≡◌, ◌<◌, ℕ, get_or, length, take}
use Rattle.std.specs.Prelude.{if◌then◌else◌}
use Rattle.fec_spec.specs.Row.{is_among}
use Rattle.rs_erasure.proofs.row.cleared.Given as goal

abbrev pub invariant-loop-place : goal.invariant-loop-place
invariant-loop-place l = record { each : (i : ℕ) → i < 255 → get_or l.clear i 0 ≡ (if is_among i (take l.place-index l.unknown) then 0 else get_or l.row i 0); long : length l.clear ≡ 255 }
