use Rattle.std.proofs.Common.{◌<◌, ◌≤◌, ◌++◌, ℕ, List, length, ap, sym, ◌∙◌, refl}
use Rattle.std.specs.Prelude.{flat_map}
use Rattle.std.proofs.lemmas.List.{append-nil}
use Rattle.plan_spec.specs.Changes.{pids_in}
use Rattle.service_plan.specs.Plans.{draft_seen}
use Rattle.service_plan.proofs.RangeLemmas.{lists_more, range_end}
use Rattle.service_plan.proofs.WrongLemmas.{pids_are}
use Rattle.service_plan.proofs.change_checks.all_pids.Goals as goal

pub loop-service-preserved : goal.loop-service-preserved
loop-service-preserved c =
    let draft = c.args.draft.now in
    let plan = draft_seen draft in
    let k = c.loop-service.service in
    let within : k < length draft.services = rw c.items-services.ensures.read at c.loop-service-test.true in
    let own = rw (c.items-services.ensures.read, c.items-changes.ensures.read) at c.in_ok-own.ensures in
    let here = own ∙ sym (pids_are plan draft.services draft.changes refl refl k) in
    rw (c.in_ok-extend_from_slice.ensures.items, c.as_slice.ensures.value, here) (sym (lists_more (pids_in plan) k (length draft.services) c.loop-service.pids.items within) ∙ c.loop-service.invariant)

pub returns : goal.returns
returns c =
    let draft = c.args.draft.now in
    let past : length draft.services ≤ c.loop-service.service = rw c.items-services.ensures.read at c.loop-service-test.false in
    sym (append-nil c.loop-service.pids.items)
    ∙ ap (λ (l : List ℕ). c.loop-service.pids.items ++ flat_map (pids_in (draft_seen draft)) l) (sym (range_end c.loop-service.service (length draft.services) past))
    ∙ c.loop-service.invariant
