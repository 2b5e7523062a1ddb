-- The PIDs of a service over some changes.
use Rattle.std.specs.Prelude.{ℕ, ◌+◌, Bool, false, ◌==◌, List, [], ◌∷◌, length, map, take, fold}
use Rattle.std.specs.List.{range_with_len}
use Rattle.plan_spec.specs.Changes.{with_pid_behind}
use Rattle.plan.specs.Moves.{pid_after}
use Rattle.plan.specs.declared.service.Service.{Service}
use Rattle.plan.specs.declared.change.Change.{Change}

-- the PIDs that a service has one after another
abbrev pub pids_seen : List Service → List Change → ℕ → List ℕ
pids_seen services changes k =
    fold with_pid_behind [] (map (λ version. pid_after services (take version changes) k) (range_with_len 0 (length changes + 1)))

-- a PID is the last of these
abbrev pub ends_so : List ℕ → ℕ → Bool
ends_so [] pid = false
ends_so (last ∷ []) pid = last == pid
ends_so (first ∷ next ∷ others) pid = ends_so (next ∷ others) pid
