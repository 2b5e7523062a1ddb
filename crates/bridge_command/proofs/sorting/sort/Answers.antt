use Rattle.std.proofs.Common.{arith}
use Rattle.bridge_command.proofs.Sorted.{kept_few}
use Rattle.bridge_command.proofs.sorting.sort.Goals as goal

pub overflow_add-tally-2 : goal.overflow_add-tally-2
overflow_add-tally-2 c = omega (arith, kept_few c.requires.few.0 c.requires.few.1 c.args.tally.now c.requires.few.2 c.requires.few.3)
