use Rattle.std.proofs.Common.{List, ℕ, refl, ap, ◌∙◌, arith}
use Rattle.toml.specs.View.{table_view}
use Rattle.plan.specs.Parts.{services_seen}
use Rattle.settings_spec.specs.Changes.{place_of_name}
use Rattle.plan.specs.Moves.{services_after}
use Rattle.service_plan.proofs.KeyLemmas.{first_later}
use Rattle.service_plan.proofs.ChangeLemmas.{move_is, place_after}
use Rattle.service_plan.proofs.changes.read_moved.Goals as goal

pub overflow_cast-place : goal.overflow_cast-place
overflow_cast-place c = omega (arith, c.requires, c.place_named-place.ensures.within)

pub returns : goal.returns
returns c =
    let services = c.args.services.now in
    let before = c.args.before.now in
    let name = c.in_ok-name.ensures.read in
    let pid = c.in_ok-pid.ensures.read in
    let items = c.in_ok-items.ensures.read in
    let at = c.place_named-place.ensures.read ∙ ap (λ (n : List ℕ). place_of_name (services_seen services) n) name.1 ∙ place_after services before _ in
    record {
      read = (
        first_later _ _ _ c.in_ok-refuse_unknown.ensures.read.0 (first_later _ _ _ name.0 (first_later _ _ _ pid.0 (first_later _ _ _ items.0 refl))),
        move_is (services_after services before) (table_view c.args.table.now) _ _ at (rw items.1 at c.in_ok-new.ensures.read) refl (rw pid.1 at c.new_pid.ensures),
      );
    }
