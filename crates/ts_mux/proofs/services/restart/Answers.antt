use Rattle.std.proofs.Common.{◌≡◌, ◌∙◌, ℕ, ◌<◌, List, [], ap, sym, arith, length, get_or, None}
use Rattle.std.proofs.lemmas.List.{length-map}
use Rattle.plan_spec.specs.Changes.{pid_in}
use Rattle.plan.specs.Parts.{service_seen}
use Rattle.plan.specs.PlanView.{plan_fields}
use Rattle.plan.specs.declared.plan.Plan.{Plan}
use Rattle.stream_law.proofs.Plans.{few_services}
use Rattle.ts_mux.specs.Services.{shape_of, AreTaken, frames_before}
use Rattle.ts_mux.proofs.Items.{map_at}
use Rattle.ts_mux.proofs.Moved.{has_pid_in, pid_most, version_within, some_item, frames_at}
use Rattle.ts_mux.proofs.Scheduled.{begins_in, kind_there, has_times}
use Rattle.ts_mux.proofs.services.restart.Goals as goal

-- a service that takes datagrams is sent, so it has a PID
no_pid : (plan : Plan) (version k : ℕ) (lists : List (List (List ℕ))) → AreTaken (plan_fields plan) lists → k < length plan.services → pid_in (plan_fields plan) version k ≡ None → ⊥
no_pid plan version k lists taken less none =
    let service = some_item plan.services k less in
    let found = map_at service_seen plan.services k service.0 service.1 in
    let list = some_item lists k (omega (arith, taken.size, length-map plan.services service_seen, less)) in
    has_pid_in plan version k service.0 service.1 (taken.each k (service_seen service.0) list.0 found list.1).on_pid none

pub unreachable-requires : goal.unreachable-requires
unreachable-requires c =
    no_pid c.args.plan.now c.args.version c.args.k (get_or c.args.lists.now c.args.version []) c.requires.lists.taken c.requires.service (sym c.pid_in.ensures.read ∙ c.in_default.is)

pub overflow_cast-k : goal.overflow_cast-k
overflow_cast-k c = omega (arith, few_services (plan_fields c.args.plan.now) c.args.plan.now.valid, c.requires.service, length-map c.args.plan.now.services service_seen)

pub overflow_cast-k-2 : goal.overflow_cast-k-2
overflow_cast-k-2 c = omega (arith, few_services (plan_fields c.args.plan.now) c.args.plan.now.valid, c.requires.service, length-map c.args.plan.now.services service_seen)

pub overflow_cast-k-3 : goal.overflow_cast-k-3
overflow_cast-k-3 c = omega (arith, few_services (plan_fields c.args.plan.now) c.args.plan.now.valid, c.requires.service, length-map c.args.plan.now.services service_seen)

pub restart-requires-clause-datagrams : goal.restart-requires-clause-datagrams
restart-requires-clause-datagrams c =
    (c.requires.lists.taken.each c.args.k (service_seen c.at.result.now) c.at-2.result.now (map_at service_seen c.args.plan.now.services c.args.k c.at.result.now c.at.ensures.read) c.at-2.ensures.read).datagrams_are

pub restart-requires-clause-few : goal.restart-requires-clause-few
restart-requires-clause-few c =
    (c.requires.lists.taken.each c.args.k (service_seen c.at.result.now) c.at-2.result.now (map_at service_seen c.args.plan.now.services c.args.k c.at.result.now c.at.ensures.read) c.at-2.ensures.read).few

pub restart-requires-clause-units : goal.restart-requires-clause-units
restart-requires-clause-units c = (
  frames_before (plan_fields c.args.plan.now) c.args.lists.now c.args.version c.args.k,
  c.requires.lists.each c.args.k (service_seen c.at.result.now) c.at-2.result.now c.units_at.result.now (map_at service_seen c.args.plan.now.services c.args.k c.at.result.now c.at.ensures.read)
      c.at-2.ensures.read c.units_at.ensures.read,
)

pub restart-requires-clause-frames : goal.restart-requires-clause-frames
restart-requires-clause-frames c = frames_at c.args.plan.now c.args.k c.at.result.now c.at.ensures.read

pub restart-requires-clause-times : goal.restart-requires-clause-times
restart-requires-clause-times c =
    has_times c.args.plan.now c.args.k c.at.result.now c.times_of-times.result c.at.ensures.read c.times_of-times.ensures.plan.0 c.times_of-times.ensures.plan.1 c.times_of-times.ensures.plan.2

pub restart-requires-clause-pid : goal.restart-requires-clause-pid
restart-requires-clause-pid c =
    pid_most c.args.plan.now c.args.version c.args.k c.at.result.now c.at.ensures.read c.args.plan.now.whole (version_within c.args.plan.now c.args.version c.requires.version) c.in-Some.pid (sym c.pid_in.ensures.read ∙ c.in-Some.is)

pub restart-requires-clause-shape : goal.restart-requires-clause-shape
restart-requires-clause-shape c =
    c.requires.shape ∙ ap shape_of (kind_there c.args.plan.now c.args.k c.at.result.now c.at.ensures.read)

pub returns : goal.returns
returns c = record {
  begun = begins_in c.args.plan.now c.args.version c.args.k c.at.result.now c.at.ensures.read c.args.lists.now c.at-2.result.now c.at-2.ensures.read c.units_at.result.now c.in-Some.pid
      (sym c.pid_in.ensures.read ∙ c.in-Some.is) c.args.counter c.args.before c.times_of-times.result c.times_of-times.ensures.goes
      (c.requires.lists.each c.args.k (service_seen c.at.result.now) c.at-2.result.now c.units_at.result.now (map_at service_seen c.args.plan.now.services c.args.k c.at.result.now c.at.ensures.read)
      c.at-2.ensures.read c.units_at.ensures.read)
      c.restart.new.self c.restart.ensures.begun;
}
