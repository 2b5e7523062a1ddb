use Rattle.std.proofs.Common.{refl, sym, ap, subst, []}
use Rattle.ts_spec.specs.Recording.{record_size}
use Rattle.bridge_spec.specs.Frames.{on_pid}
use Rattle.bridge_frame.specs.Bridge.{BridgeState}
use Rattle.bridge_frame.specs.Taking.{HasTaken}
use Rattle.unbridge_command.proofs.unbridging.unbridge_sndus.Goals as goal

pub unbridge-requires-clause-given : goal.unbridge-requires-clause-given
unbridge-requires-clause-given g c = (
  on_pid c.args.pid,
  subst (λ (b : BridgeState). HasTaken (on_pid c.args.pid) b []) (sym c.select.ensures.selected) (c.over-bridge.ensures.records c.args.pid refl),
)

pub returns : goal.returns
returns g c = record {
  unbridges = c.unbridge.ensures.unbridges (on_pid c.args.pid)
      (subst (λ (b : BridgeState). HasTaken (on_pid c.args.pid) b []) (sym c.select.ensures.selected) (c.over-bridge.ensures.records c.args.pid refl))
      (ap record_size c.new-pieces.ensures.form);
}
