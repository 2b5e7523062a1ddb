use Rattle.std.proofs.Common.{codes, bytes_eq, ◌∙◌}
use Rattle.settings_keys.proofs.KeyLemmas.{any_of_three}
use Rattle.settings_keys.proofs.values.is_reserved.Goals as goal

pub returns : goal.returns
returns c = record { read = c.has_word.ensures.read ∙ any_of_three (bytes_eq c.args.text.now) (codes "stream") (codes "table") (codes "rule") }
