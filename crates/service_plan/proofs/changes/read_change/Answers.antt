use Rattle.std.proofs.Common.{refl, ◌∙◌}
use Rattle.std.proofs.lemmas.Result.{err_from_is_err_and}
use Rattle.toml.specs.View.{table_view}
use Rattle.plan.specs.Moves.{services_after}
use Rattle.service_plan.proofs.KeyLemmas.{first_later}
use Rattle.service_plan.proofs.ChangeLemmas.{change_is, change_fault_is, change_error}
use Rattle.service_plan.proofs.changes.read_change.Goals as goal

pub returns-in_err-read : goal.returns-in_err-read
returns-in_err-read c =
    let at = c.in_ok-at.ensures.read in
    let items = c.in_ok-items.ensures.read in
    let keys = first_later _ _ _ c.in_ok-refuse_unknown.ensures.read.0 (first_later _ _ _ at.0 (first_later _ _ _ items.0 refl)) in
    let failed = err_from_is_err_and c.from_residual-in_err-read.result c.from_residual-in_err-read.ensures.1 in
    record { read = rw (failed.1, failed.2) (change_error _ (table_view c.args.table.now) keys (rw items.1 at c.in_err-read.ensures.read)) }

pub returns : goal.returns
returns c =
    let at = c.in_ok-at.ensures.read in
    let items = c.in_ok-items.ensures.read in
    let moves = rw items.1 at c.in_ok-read.ensures.read in
    let keys = first_later _ _ _ c.in_ok-refuse_unknown.ensures.read.0 (first_later _ _ _ at.0 (first_later _ _ _ items.0 refl)) in
    record {
      read = (
        change_fault_is (table_view c.args.table.now) keys ∙ moves.0,
        change_is (services_after c.args.services.now c.args.before.now) (table_view c.args.table.now) _ at.1 moves.1,
      );
    }
