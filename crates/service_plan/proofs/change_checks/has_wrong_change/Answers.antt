use Rattle.std.proofs.Common.{sym, ◌∙◌}
use Rattle.std.proofs.lemmas.List.{length-map}
use Rattle.plan.specs.Parts.{service_seen}
use Rattle.service_plan.specs.Plans.{draft_seen}
use Rattle.service_plan.proofs.WrongLemmas.{order_wrong, moves_wrong, pids_wrong}
use Rattle.service_plan.proofs.change_checks.has_wrong_change.Goals as goal

pub returns-then-not-rises : goal.returns-then-not-rises
returns-then-not-rises c = order_wrong (draft_seen c.args.draft.now) (rw c.items-changes.ensures.read at c.if-not-rises.ensures)

pub returns-then-branch : goal.returns-then-branch
returns-then-branch c =
    let draft = c.args.draft.now in
    let rising = rw c.items-changes.ensures.read at c.if-not-rises.ensures in
    let few = c.len.ensures.read ∙ sym (length-map draft.services service_seen) in
    let moving = rw c.items-changes.ensures.read at (c.in_ok-any_moves_wrongly.ensures (draft_seen draft) few) in
    moves_wrong (draft_seen draft) rising (sym c.if-branch.true ∙ moving)

pub returns : goal.returns
returns c =
    let draft = c.args.draft.now in
    let rising = rw c.items-changes.ensures.read at c.if-not-rises.ensures in
    let few = c.len.ensures.read ∙ sym (length-map draft.services service_seen) in
    let moving = rw c.items-changes.ensures.read at (c.in_ok-any_moves_wrongly.ensures (draft_seen draft) few) in
    pids_wrong (draft_seen draft) _ rising (sym c.if-branch.false ∙ moving) (rw (c.as_slice.ensures.value, c.in_ok-pids.ensures) at c.has_pair.ensures)
