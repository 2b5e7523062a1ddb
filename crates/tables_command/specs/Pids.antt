-- Which PIDs a plan has.
use Rattle.std.specs.Prelude.{ℕ, Bool, false, ◌==◌, List, Option, None, Some}
use Rattle.std.specs.List.{list_any}
use Rattle.plan_spec.specs.Plan.{pid_of}
use Rattle.plan.specs.Parts.{kind_seen}
use Rattle.plan.specs.declared.service.Service.{Service}
use Rattle.plan.specs.declared.change.Moved.{Moved}
use Rattle.plan.specs.declared.change.Change.{Change}

-- this is the PID
abbrev pub is_pid : ℕ → Option ℕ → Bool
is_pid pid None = false
is_pid pid (Some other) = other == pid

-- one of the services has it; a change moves one to it
abbrev pub has_service_on : ℕ → List Service → Bool
has_service_on pid services = list_any (λ (s : Service). is_pid pid (pid_of (kind_seen s.kind))) services

abbrev pub has_moved_to : ℕ → List Moved → Bool
has_moved_to pid moved = list_any (λ (m : Moved). m.pid == pid) moved

abbrev pub has_change_to : ℕ → List Change → Bool
has_change_to pid changes = list_any (λ (c : Change). has_moved_to pid c.moved) changes
