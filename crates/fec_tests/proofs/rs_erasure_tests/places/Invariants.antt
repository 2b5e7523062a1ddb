use Rattle.std.proofs.Common.{◌-◌, ◌<◌, ◌≤◌, length}
use Rattle.std.specs.List.{All}
use Rattle.std.specs.List.Sorted.{IsStrictlyIncreasing}
use Rattle.fec_tests.proofs.rs_erasure_tests.places.Given as goal

abbrev pub invariant-loop-place : goal.invariant-loop-place
invariant-loop-place l = record {
  low : All (λ p. p < l.place) l.places.items;
  rising : IsStrictlyIncreasing l.places.items;
  few : length l.places.items ≤ l.place - l.first;
}
