use Rattle.std.proofs.Common.{◌≡◌, take, map}
use Rattle.erasure_law.specs.Roots.{place_power}
use Rattle.rs_erasure.proofs.elimination.powers_of.Given as goal

abbrev pub invariant-loop-place : goal.invariant-loop-place
invariant-loop-place l = l.powers.items ≡ map place_power (take l.place-index l.places)
