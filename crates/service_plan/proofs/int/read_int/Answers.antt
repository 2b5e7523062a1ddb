use Rattle.std.proofs.Common.{ap, refl, Some, ◌∙◌}
use Rattle.std.proofs.lemmas.Result.{err_from_is_err_and}
use Rattle.service_plan.proofs.KeyLemmas.{int_fault_there, int_fault_absent}
use Rattle.service_plan.proofs.int.read_int.Goals as goal

pub returns-in_ok-read_table-in-Some : goal.returns-in_ok-read_table-in-Some
returns-in_ok-read_table-in-Some c =
    let read = c.in_ok-read_table-in-Some.ensures.read in
    record { read = rw c.in-Some.is (int_fault_there _ ∙ read.0, (ap Some read.1.0, read.1.1)) }

pub returns-in_err-read_table-in-Some : goal.returns-in_err-read_table-in-Some
returns-in_err-read_table-in-Some c =
    let failed = err_from_is_err_and c.from_residual.result c.from_residual.ensures.1 in
    record { read = rw (c.in-Some.is, failed.1, failed.2) (int_fault_there _ ∙ c.in_err-read_table-in-Some.ensures.read) }

pub returns-in-None : goal.returns-in-None
returns-in-None c = record { read = rw c.in-None.is (int_fault_absent, (refl, refl)) }
