use Rattle.std.proofs.Common.{ℕ, ◌+◌, ◌-◌, ◌*◌, ◌<◌, ◌≤◌, arith}
use Rattle.slice_spec.specs.Moments.{ten}
use Rattle.slice_spec.specs.Bursts.{moment_in}
use Rattle.slice_law.proofs.Timed.{ten_above, gap_after, cycle_after, gap_from_end}
use Rattle.slice_law.proofs.bursts.windows_leave_gaps.Goals as goal

pub returns-clause-gap : goal.returns-clause-gap
returns-clause-gap c = gap_after

less_of : (a b t : ℕ) → 0 < t → a ≤ b + (4096 * t - 1) → a < b + 4096 * t
less_of a b t above le = omega (arith, above, le)

pub returns-clause-most : goal.returns-clause-most
returns-clause-most c = λ s fits cycle n.
    less_of (moment_in s (cycle + 1) 0) (moment_in s cycle n) (ten s.form) (ten_above s.form) (cycle_after s fits cycle n)

pub returns-clause-end : goal.returns-clause-end
returns-clause-end c = gap_from_end
