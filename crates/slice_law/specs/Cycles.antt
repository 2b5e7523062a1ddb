-- Bursts in cycles that follow one another.
use Rattle.std.specs.Prelude.{ℕ, ◌+◌, List, [], ◌∷◌}
use Rattle.slice_spec.specs.Bursts.{Burst}

-- the burst of each frame, from a cycle on: frame n is that of cycle c + n. A frame is given by the packets in which its sections begin
abbrev pub bursts_from : ℕ → List (List ℕ) → List Burst
bursts_from c [] = []
bursts_from c (places ∷ frames) = record { cycle = c; places = places } ∷ bursts_from (c + 1) frames
