use Rattle.std.proofs.Common.{refl, sym, subst, []}
use Rattle.bridge_spec.specs.Frames.{on_isi}
use Rattle.bridge_frame.specs.Bridge.{BridgeState}
use Rattle.bridge_frame.specs.Taking.{HasTaken}
use Rattle.unbridge_command.proofs.unbridging.unbridge_pdus.Goals as goal

pub unbridge-requires-clause-given : goal.unbridge-requires-clause-given
unbridge-requires-clause-given g c = (
  on_isi c.args.isi,
  subst (λ (b : BridgeState). HasTaken (on_isi c.args.isi) b []) (sym c.select.ensures.selected) (rw c.from.ensures (c.over-bridge.ensures.frames c.args.isi refl)),
)

pub returns : goal.returns
returns g c = record {
  unbridges = c.unbridge.ensures.unbridges (on_isi c.args.isi)
      (subst (λ (b : BridgeState). HasTaken (on_isi c.args.isi) b []) (sym c.select.ensures.selected) (rw c.from.ensures (c.over-bridge.ensures.frames c.args.isi refl)))
      c.over-pieces.ensures.size;
}
