-- None before has packets left.
use Rattle.std.proofs.Common.{◌≡◌, ◌-◌, map}
use Rattle.std.specs.Prelude.{find}
use Rattle.std.specs.List.{range_with_len}
use Rattle.ts_mux.specs.Services.{turns_in_service, has_packets}
use Rattle.ts_mux.proofs.services.find_from.Given as goal

abbrev pub invariant-loop-k : goal.invariant-loop-k
invariant-loop-k l =
    find (has_packets (map turns_in_service l.services)) (range_with_len l.from (l.to - l.from)) ≡ find (has_packets (map turns_in_service l.services)) (range_with_len l.k (l.to - l.k))
