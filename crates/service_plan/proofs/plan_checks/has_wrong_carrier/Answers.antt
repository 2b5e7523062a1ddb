use Rattle.plan.specs.Parts.{form_of}
use Rattle.service_plan.proofs.CheckLemmas.{frames_checked, packets_checked}
use Rattle.service_plan.proofs.plan_checks.has_wrong_carrier.Goals as goal

pub returns-then-is_some : goal.returns-then-is_some
returns-then-is_some c =
    let d = c.args.draft.now in
    let services = c.items-services.ensures.read in
    let gse = rw services at c.are_gse.ensures.read in
    record { read = frames_checked d.frame_bytes d.table (form_of d.recording) d.services _ _ _ c.if-is_some.ensures gse c.is_some-then-is_some.ensures c.is_plain.ensures.read }

pub returns : goal.returns
returns c =
    let d = c.args.draft.now in
    let services = c.items-services.ensures.read in
    let gse = rw services at c.has_gse.ensures.read in
    record { read = packets_checked d.frame_bytes d.table (form_of d.recording) d.services _ c.if-is_some.ensures gse }
