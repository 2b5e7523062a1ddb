use Rattle.std.proofs.Common.{ℕ, ◌<◌, arith}
use Rattle.plan_spec.specs.Plan.{PlanFields}
use Rattle.plan_spec.specs.Offered.{offered_in}
use Rattle.plan.specs.PlanView.{plan_fields}
use Rattle.stream_law.proofs.Plans.{few_services}
use Rattle.stream_law.proofs.Wholes.{few_changes}
use Rattle.datagram_routing.specs.Offering.{datagram_count}
use Rattle.ts_mux.proofs.Streamed.{few_lists, length-offered}
use Rattle.mux_core.proofs.ByCarrier.{writes_frames, writes_front}
use Rattle.mux_core.proofs.carriers.stream_in_frames.Goals as goal

pub count_datagrams-datagrams-requires-clause-versions : goal.count_datagrams-datagrams-requires-clause-versions
count_datagrams-datagrams-requires-clause-versions g c =
    omega (arith, length-offered (plan_fields c.args.plan.now) c.requires.offered.records c.args.offered.now c.requires.offered.stands, few_changes (plan_fields c.args.plan.now) c.args.plan.now.whole)

pub count_datagrams-datagrams-requires-clause-services : goal.count_datagrams-datagrams-requires-clause-services
count_datagrams-datagrams-requires-clause-services g c =
    few_lists (plan_fields c.args.plan.now) c.requires.offered.records c.args.offered.now c.requires.offered.stands (few_services (plan_fields c.args.plan.now) c.args.plan.now.valid)

pub count_datagrams-datagrams-requires-clause-few : goal.count_datagrams-datagrams-requires-clause-few
count_datagrams-datagrams-requires-clause-few g c =
    below (datagram_count c.args.offered.now.lists)
    (omega (arith, c.nothing_is_left_out.ensures.all (plan_fields c.args.plan.now) c.requires.offered.records c.args.offered.now c.requires.offered.stands, c.requires.offered.few))
  where
    below : (n : ℕ) → n < 4294967296 → n < 4294967296
    below n less = less

pub stream_frames-requires-clause-offered : goal.stream_frames-requires-clause-offered
stream_frames-requires-clause-offered g c = c.requires.offered

pub returns-in-Ok-clause-written : goal.returns-in-Ok-clause-written
returns-in-Ok-clause-written g c = λ gives stands.
    let plan : PlanFields = plan_fields c.args.plan.now in
    writes_frames plan (offered_in plan gives) c.in-Ok.packets c.count_datagrams-datagrams.result (g.K.Sink.told c.args.sink.now).held (g.K.Sink.told c.stream_frames.new.sink).held c.requires.carrier
    (c.in-Ok.ensures.written gives stands)

pub returns-in-Err-clause-written : goal.returns-in-Err-clause-written
returns-in-Err-clause-written g c = λ gives stands.
    let plan : PlanFields = plan_fields c.args.plan.now in
    writes_front plan (offered_in plan gives) c.in-Err.fault (g.K.Sink.told c.args.sink.now).held (g.K.Sink.told c.stream_frames.new.sink).held c.requires.carrier
    (c.in-Err.ensures.written gives stands)
