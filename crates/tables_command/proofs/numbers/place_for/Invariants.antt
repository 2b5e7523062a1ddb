use Rattle.std.proofs.Common.{ℕ, ◌<◌, slice_index_or}
use Rattle.tables_command.proofs.numbers.place_for.Given as goal

abbrev pub invariant-loop-at : goal.invariant-loop-at
invariant-loop-at l = (k : ℕ) → k < l.at → slice_index_or l.numbers k 0 < l.number
