use Rattle.std.proofs.Common.{◌≡◌, ◌+◌, ◌%◌, ◌<◌, ℕ, get_or, length}
use Rattle.sample_draws.proofs.datagrams.write_bytes.Given as goal

abbrev pub invariant-loop-j : goal.invariant-loop-j
invariant-loop-j l = record { each : (k : ℕ) → k < l.j → get_or l.into k 0 ≡ (l.i + k) % 256; long : length l.into ≡ length l.initial.into }
