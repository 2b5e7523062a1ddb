use Rattle.std.proofs.Common.{codes, refl, ◌∙◌}
use Rattle.std.proofs.lemmas.Result.{err_from_is_err_and}
use Rattle.settings_spec.specs.Keys.{range}
use Rattle.settings_keys.proofs.KeyLemmas.{no_fault_absent, fault_of_some, no_number, some_number}
use Rattle.settings_keys.proofs.values.moved_pid.Goals as goal

pub returns-in_ok-pid-in-Some : goal.returns-in_ok-pid-in-Some
returns-in_ok-pid-in-Some c =
    let read = c.in_ok-pid-in-Some.ensures.read in
    record { read = (fault_of_some (codes "pid") (range 32 8190) _ _ c.in-Some.ensures.found ∙ read.0, some_number 32 8190 (codes "pid") _ _ read.0 read.1) }

pub returns-in_err-pid-in-Some : goal.returns-in_err-pid-in-Some
returns-in_err-pid-in-Some c =
    let failed = err_from_is_err_and c.from_residual.result c.from_residual.ensures.1 in
    record { read = rw (failed.1, failed.2) (fault_of_some (codes "pid") (range 32 8190) _ _ c.in-Some.ensures.found ∙ c.in_err-pid-in-Some.ensures.read) }

pub returns-in-None : goal.returns-in-None
returns-in-None c = record { read = (no_fault_absent _ _ c.in-None.ensures.found refl, no_number (codes "pid") _ c.in-None.ensures.found) }
