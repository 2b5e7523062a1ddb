use Rattle.std.proofs.Common.{bytes_eq, ap, ◌∙◌}
use Rattle.std.specs.List.{list_any}
use Rattle.settings_keys.proofs.KeyLemmas.{any_mapped}
use Rattle.settings_keys.proofs.values.is_word.Goals as goal

pub returns : goal.returns
returns c =
    let test = bytes_eq c.args.text.now in
    record { read = c.has_word.ensures.read ∙ (any_mapped test _ c.words.result.now ∙ ap (list_any test) c.words.ensures.read) }
