use Rattle.std.proofs.Common.{◌+◌, List, map, take, refl, sym, subst}
use Rattle.std.specs.Prelude.{is_some}
use Rattle.plan.specs.Parts.{form_of, service_seen}
use Rattle.plan_spec.specs.Plan.{pid_of}
use Rattle.demux_core.specs.Opening.{AreOpened, has_right_rows}
use Rattle.demux_core.specs.declared.service.ServiceReceiver.{ServiceReceiver}
use Rattle.demux_core.proofs.Opened.{kind_at, opened_next}
use Rattle.demux_core.proofs.services.open_receivers.Goals as goal

pub open-requires : goal.open-requires
open-requires c = record {
  on_pid = kind_at (λ kind. is_some (pid_of kind)) c.args.list.now c.loop-at.at c.at.result.now c.requires.on_pids c.at.ensures.read;
  rows = kind_at has_right_rows c.args.list.now c.loop-at.at c.at.result.now c.requires.rows c.at.ensures.read;
}

pub loop-at-preserved : goal.loop-at-preserved
loop-at-preserved c =
    subst (λ (t : List ServiceReceiver). AreOpened (form_of c.args.recording) (map service_seen (take (c.loop-at.at + 1) c.args.list.now)) t) (sym c.in_ok-push.ensures.items)
    (opened_next (form_of c.args.recording) c.args.list.now c.loop-at.receivers.items c.loop-at.at c.at.result.now c.in_ok-receiver.receiver c.at.ensures.read c.loop-at.invariant
    (c.in_ok-receiver.ensures.opened (service_seen c.at.result.now) refl))
