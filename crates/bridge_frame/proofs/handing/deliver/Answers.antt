use Rattle.std.proofs.Common.{ap}
use Rattle.outlet_spec.specs.Pairs.{pairs_of}
use Rattle.outlet_spec.proofs.Pairs.{front_one}
use Rattle.bridge_frame.specs.Handing.{frames_in}
use Rattle.bridge_frame.proofs.handing.deliver.Goals as goal

pub returns-in-Some-clause-failed : goal.returns-in-Some-clause-failed
returns-in-Some-clause-failed g c =
    front_one c.deliver.result (g.T.Outlet.StandsFor c.args.outlet.now) (g.T.Outlet.StandsFor c.deliver.new.self) (g.T.Outlet.Refused c.deliver.new.self) 0 c.in-Some.bytes.now
    (pairs_of 0 (frames_in c.args.frame)) (ap (λ f. pairs_of 0 (frames_in f)) c.in-Some.is) c.deliver.ensures.refused c.deliver.ensures.unchanged
