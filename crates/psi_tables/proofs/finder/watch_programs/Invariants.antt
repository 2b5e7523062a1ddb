-- The programs before the place are watched.
use Rattle.std.proofs.Common.{◌≤◌, ◌-◌, ◌/◌, [], length, map}
use Rattle.std.specs.List.{range_with_len}
use Rattle.psi_spec.specs.Pat.{program_at}
use Rattle.psi_tables.specs.Watching.{WatchesPrograms}
use Rattle.psi_tables.proofs.finder.watch_programs.Given as goal

abbrev pub invariant-loop-place : goal.invariant-loop-place
invariant-loop-place l =
    (l.place ≤ (length l.read.body.now - 5) / 4)
    × WatchesPrograms (map (program_at l.read.body.now) (range_with_len 0 l.place)) l.watches.items []
