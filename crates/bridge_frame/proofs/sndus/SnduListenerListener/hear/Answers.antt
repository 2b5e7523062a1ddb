use Rattle.std.proofs.Common.{refl, []}
use Rattle.gse_reception.proofs.Outlets.{hands_nothing}
use Rattle.bridge_frame.proofs.Heard.{no_frame_in}
use Rattle.bridge_frame.proofs.sndus.SnduListenerListener.hear.Goals as goal

pub returns-in_default : goal.returns-in_default
returns-in_default g c = record {
  heard = (
    record {
      frames = [];
      hands = hands_nothing g.T.Outlet.StandsFor g.T.Outlet.Refused g.T.Outlet.services g.T.Outlet.faults 0 c.args.self.now.outlet.now c.args.self.now.result;
      frames_are = λ proper. no_frame_in c.args.event.now c.in_default.not-Unit;
    },
    refl,
  );
}
