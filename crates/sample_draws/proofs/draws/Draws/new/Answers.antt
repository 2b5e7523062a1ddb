use Rattle.std.proofs.Common.{sym, ◌∙◌}
use Rattle.sample_draws.proofs.Steps.{none_drawn}
use Rattle.sample_draws.proofs.draws.Draws.new.Goals as goal

pub returns : goal.returns
returns c = c.from.ensures ∙ sym (none_drawn c.args.number)
