use Rattle.std.proofs.Common.{codes, refl, ◌∙◌}
use Rattle.std.proofs.lemmas.Result.{err_from_is_err_and}
use Rattle.settings_spec.specs.Keys.{texts}
use Rattle.settings_keys.proofs.KeyLemmas.{no_fault_absent, fault_of_some}
use Rattle.settings_keys.proofs.ListLemmas.{no_texts, some_texts}
use Rattle.settings_keys.proofs.lists.moved_rules.Goals as goal

pub returns-in_ok-rule_items-in-Some : goal.returns-in_ok-rule_items-in-Some
returns-in_ok-rule_items-in-Some c =
    let read = c.in_ok-rule_items-in-Some.ensures.read in
    record { read = (fault_of_some (codes "rules") texts _ _ c.in-Some.ensures.found ∙ read.0, some_texts (codes "rules") _ _ read.0 read.1) }

pub returns-in_err-rule_items-in-Some : goal.returns-in_err-rule_items-in-Some
returns-in_err-rule_items-in-Some c =
    let failed = err_from_is_err_and c.from_residual.result c.from_residual.ensures.1 in
    record { read = rw (failed.1, failed.2) (fault_of_some (codes "rules") texts _ _ c.in-Some.ensures.found ∙ c.in_err-rule_items-in-Some.ensures.read) }

pub returns-in-None : goal.returns-in-None
returns-in-None c = record { read = (no_fault_absent _ _ c.in-None.ensures.found refl, no_texts (codes "rules") _ c.in-None.ensures.found) }
