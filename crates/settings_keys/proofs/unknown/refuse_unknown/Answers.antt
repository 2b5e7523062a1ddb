use Rattle.settings_keys.proofs.UnknownLemmas.{unknown_tested}
use Rattle.settings_keys.proofs.unknown.refuse_unknown.Goals as goal

pub returns-then-are_known : goal.returns-then-are_known
returns-then-are_known c = record { read = (unknown_tested _ c.args.table.now.entries _ c.if-are_known.ensures.read, tt) }

pub returns-else-are_known : goal.returns-else-are_known
returns-else-are_known c = record { read = unknown_tested _ c.args.table.now.entries _ c.if-are_known.ensures.read }
