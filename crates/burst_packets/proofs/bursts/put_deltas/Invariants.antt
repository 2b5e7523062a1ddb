-- The packets so far have theirs.
use Rattle.std.proofs.Common.{◌≡◌, ℕ, ◌<◌, length, slice_index}
use Rattle.burst_packets.specs.Bursts.{delta_in}
use Rattle.burst_packets.proofs.bursts.put_deltas.Given as goal

abbrev pub invariant-loop-packet : goal.invariant-loop-packet
invariant-loop-packet l =
    (length l.deltas ≡ length l.initial.deltas)
    × ((n : ℕ) → n < l.packet → (slice_index l.deltas n ≡ delta_in l.timing l.is_last l.cycle n) × (slice_index l.deltas n < 4096))
