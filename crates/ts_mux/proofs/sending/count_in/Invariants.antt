-- What was counted and what is left are the whole.
use Rattle.std.proofs.Common.{◌≡◌, ℕ, ◌+◌, List, [], length, drop, get_or, sum_by}
use Rattle.ts_mux.proofs.sending.count_in.Given as goal

abbrev pub invariant-loop-service : goal.invariant-loop-service
invariant-loop-service l =
    l.count + sum_by (λ (list : List (List ℕ)). length list) (drop l.service (get_or l.lists l.version [])) ≡ sum_by (λ (list : List (List ℕ)). length list) (get_or l.lists l.version [])
