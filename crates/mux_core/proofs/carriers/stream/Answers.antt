use Rattle.std.proofs.Common.{ap}
use Rattle.std.specs.Prelude.{is_some}
use Rattle.plan_spec.specs.Plan.{PlanFields}
use Rattle.plan_spec.specs.Offered.{offered_in}
use Rattle.plan.specs.PlanView.{plan_fields}
use Rattle.mux_core.proofs.ByCarrier.{writes_packets}
use Rattle.mux_core.proofs.carriers.stream.Goals as goal

pub stream_packets-requires-clause-on_pids : goal.stream_packets-requires-clause-on_pids
stream_packets-requires-clause-on_pids g c = c.a_plan_of_transport_packets_has_pids.ensures.pids (plan_fields c.args.plan.now) c.args.plan.now.whole (ap is_some c.in-None.is)

pub stream_in_frames-requires-clause-carrier : goal.stream_in_frames-requires-clause-carrier
stream_in_frames-requires-clause-carrier g c = ap is_some c.in-Some.is

pub returns-in-None-clause-written : goal.returns-in-None-clause-written
returns-in-None-clause-written g c = λ gives stands.
    let plan : PlanFields = plan_fields c.args.plan.now in
    writes_packets plan (offered_in plan gives) c.stream_packets.result (g.K.Sink.told c.args.sink.now).held (g.K.Sink.told c.stream_packets.new.sink).held (ap is_some c.in-None.is)
    (c.stream_packets.ensures.written gives stands)
