-- What was counted and what is left are the whole.
use Rattle.std.proofs.Common.{◌≡◌, ℕ, ◌+◌, List, length, drop, sum_by}
use Rattle.datagram_routing.specs.Offering.{datagram_count}
use Rattle.ts_mux.proofs.sending.count_datagrams.Given as goal

abbrev pub invariant-loop-version : goal.invariant-loop-version
invariant-loop-version l =
    l.count + sum_by (λ (services : List (List (List ℕ))). sum_by (λ (list : List (List ℕ)). length list) services) (drop l.version l.lists) ≡ datagram_count l.lists
