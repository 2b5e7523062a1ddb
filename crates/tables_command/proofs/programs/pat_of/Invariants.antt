use Rattle.std.proofs.Common.{◌≡◌, ◌≤◌, ◌++◌, length, All}
use Rattle.plan.specs.PlanView.{plan_fields}
use Rattle.psi_spec.specs.Pat.{ProgramFields}
use Rattle.psi_spec.specs.Tables.{used_pids, programs_of}
use Rattle.tables_command.proofs.Going.{left_of}
use Rattle.tables_command.proofs.programs.pat_of.Given as goal

abbrev pub invariant-loop-pid : goal.invariant-loop-pid
invariant-loop-pid l =
    (l.numbers ≡ l.initial.numbers)
    × (l.pat.programs ++ left_of l.numbers.items (used_pids (plan_fields l.plan)) l.place l.pid ≡ programs_of (plan_fields l.plan))
    × (l.pat.transport_stream_id ≡ l.int.transport_stream_id) × (length l.pat.programs ≡ l.place) × (l.place ≤ length l.numbers.items) × (l.pid ≤ 8191)
    × All (λ (program : ProgramFields). program.pid ≤ 8191) l.pat.programs

abbrev pub decreases-loop-pid : goal.decreases-loop-pid
decreases-loop-pid l = l.pid
