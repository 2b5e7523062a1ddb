-- Of the versions so far this is the last in which a service has a datagram.
use Rattle.std.proofs.Common.{◌≡◌, ℕ, ◌<◌, List, [], length, get_or, sum_by}
use Rattle.ts_mux.proofs.sending.last_version.Given as goal

abbrev pub invariant-loop-version : goal.invariant-loop-version
invariant-loop-version l = record {
  within : l.last < length l.lists;
  none : (version : ℕ) → l.last < version → version < l.version → sum_by (λ (list : List (List ℕ)). length list) (get_or l.lists version []) ≡ 0;
  some : 0 < l.last → 0 < sum_by (λ (list : List (List ℕ)). length list) (get_or l.lists l.last []);
}
