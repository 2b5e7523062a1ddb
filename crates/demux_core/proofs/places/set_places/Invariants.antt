use Rattle.std.proofs.Common.{◌≡◌, ◌≤◌, ℕ, ◌<◌, length}
use Rattle.demux_core.specs.Places.{place_in}
use Rattle.demux_core.proofs.PlacesFrom.{places_from}
use Rattle.demux_core.proofs.places.set_places.Given as goal

abbrev pub invariant-loop-at : goal.invariant-loop-at
invariant-loop-at l =
    (length l.places ≡ length l.initial.places) × (l.at ≤ length l.receivers)
    × ((asked : ℕ) → asked < length l.initial.places → place_in l.places asked ≡ places_from l.at l.receivers asked)

abbrev pub decreases-loop-at : goal.decreases-loop-at
decreases-loop-at l = l.at
