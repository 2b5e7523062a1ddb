use Rattle.std.proofs.Common.{ℕ, ◌<◌, List, refl, arith, Option, Err}
use Rattle.std.proofs.KnownBytes.{Appends-nil}
use Rattle.std.proofs.lemmas.Result.{err_from_is_err_and}
use Rattle.std.proofs.lemmas.List.{length-map}
use Rattle.plan_spec.specs.Plan.{PlanFields}
use Rattle.plan_spec.specs.Offered.{offered_in}
use Rattle.plan.specs.Parts.{change_seen}
use Rattle.plan.specs.PlanView.{plan_fields}
use Rattle.stream_spec.specs.Stream.{IsStream}
use Rattle.stream_law.proofs.Plans.{few_services}
use Rattle.stream_law.proofs.Wholes.{few_changes}
use Rattle.datagram_routing.specs.declared.faults.MuxFault.{MuxFault}
use Rattle.ts_mux.specs.Sending.{WritesPackets}
use Rattle.datagram_routing.specs.Offering.{datagram_count}
use Rattle.ts_mux.proofs.Streamed.{all_taken, are_offered, few_lists, length-offered, services_size}
use Rattle.ts_mux.proofs.Staged.{unit_found}
use Rattle.ts_mux.proofs.sending.stream_packets.Goals as goal

-- out of memory: there is a stream, and none of it was written
nothing_written : (plan : PlanFields) (datagrams : ℕ → ℕ → List (List ℕ)) (fault : MuxFault) (held : Option (List ℕ)) → (records : List (List ℕ)) × IsStream plan datagrams records
    → WritesPackets plan datagrams (Err fault) held held
nothing_written plan datagrams fault held found = record { records = found.0; stream = found.1; written = (0, Appends-nil held); packets = tt }

pub returns-in_err-units-clause-written : goal.returns-in_err-units-clause-written
returns-in_err-units-clause-written g c = λ gives stands.
    let plan : PlanFields = plan_fields c.args.plan.now in
    let fault = err_from_is_err_and c.from_residual.result c.from_residual.ensures.1 in
    rw fault.1 (nothing_written plan (offered_in plan gives) fault.0 (g.K.Sink.told c.args.sink.now).held (c.there_is_one_stream.ensures.is plan (offered_in plan gives) c.args.plan.now.whole c.requires.on_pids))

pub returns-in_err-services-clause-written : goal.returns-in_err-services-clause-written
returns-in_err-services-clause-written g c = λ gives stands.
    let plan : PlanFields = plan_fields c.args.plan.now in
    let fault = err_from_is_err_and c.from_residual-in_err-services.result c.from_residual-in_err-services.ensures.1 in
    rw fault.1 (nothing_written plan (offered_in plan gives) fault.0 (g.K.Sink.told c.args.sink.now).held (c.there_is_one_stream.ensures.is plan (offered_in plan gives) c.args.plan.now.whole c.requires.on_pids))

pub returns-in_err-batch-clause-written : goal.returns-in_err-batch-clause-written
returns-in_err-batch-clause-written g c = λ gives stands.
    let plan : PlanFields = plan_fields c.args.plan.now in
    let fault = err_from_is_err_and c.from_residual-in_err-batch.result c.from_residual-in_err-batch.ensures.1 in
    rw fault.1 (nothing_written plan (offered_in plan gives) fault.0 (g.K.Sink.told c.args.sink.now).held (c.there_is_one_stream.ensures.is plan (offered_in plan gives) c.args.plan.now.whole c.requires.on_pids))

pub returns-in-Ok-clause-written : goal.returns-in-Ok-clause-written
returns-in-Ok-clause-written g c = λ gives stands.
    let plan : PlanFields = plan_fields c.args.plan.now in
    let wrote = c.in-Ok.ensures.written (offered_in plan gives) (are_offered plan gives c.args.offered.now stands) in
    record { records = wrote.records; stream = wrote.stream; written = wrote.written; packets = wrote.packets }

pub returns-clause-written : goal.returns-clause-written
returns-clause-written g c = λ gives stands.
    let plan : PlanFields = plan_fields c.args.plan.now in
    let wrote = c.in-Err.ensures.written (offered_in plan gives) (are_offered plan gives c.args.offered.now stands) in
    record { records = wrote.records; stream = wrote.stream; written = wrote.written; packets = tt }

pub units_of-requires-clause-versions : goal.units_of-requires-clause-versions
units_of-requires-clause-versions g c =
    omega (arith, length-offered (plan_fields c.args.plan.now) c.requires.offered.records c.args.offered.now c.requires.offered.stands, length-map c.args.plan.now.changes change_seen)

pub units_of-requires-clause-lists : goal.units_of-requires-clause-lists
units_of-requires-clause-lists g c =
    let plan : PlanFields = plan_fields c.args.plan.now in
    let under = c.requires.offered in
    all_taken plan under.records c.args.offered.now under.stands c.requires.on_pids
    (λ version k. c.each_datagram_is_for_its_service.ensures.datagrams plan under.records version k under.datagrams)
    (λ version k. c.each_datagram_is_for_its_service.ensures.short plan under.records version k)
    (λ version k. c.nothing_is_left_out.ensures.each plan under.records version k) under.few

pub count_datagrams-datagrams-requires-clause-versions : goal.count_datagrams-datagrams-requires-clause-versions
count_datagrams-datagrams-requires-clause-versions g c =
    omega (arith, length-offered (plan_fields c.args.plan.now) c.requires.offered.records c.args.offered.now c.requires.offered.stands, few_changes (plan_fields c.args.plan.now) c.args.plan.now.whole)

pub count_datagrams-datagrams-requires-clause-services : goal.count_datagrams-datagrams-requires-clause-services
count_datagrams-datagrams-requires-clause-services g c =
    few_lists (plan_fields c.args.plan.now) c.requires.offered.records c.args.offered.now c.requires.offered.stands (few_services (plan_fields c.args.plan.now) c.args.plan.now.valid)

pub units_of-requires-clause-few : goal.units_of-requires-clause-few
units_of-requires-clause-few g c =
    below (datagram_count c.args.offered.now.lists)
    (omega (arith, c.nothing_is_left_out.ensures.all (plan_fields c.args.plan.now) c.requires.offered.records c.args.offered.now c.requires.offered.stands, c.requires.offered.few))
  where
    below : (n : ℕ) → n < 4294967296 → n < 4294967296
    below n less = less

pub count_datagrams-datagrams-requires-clause-few : goal.count_datagrams-datagrams-requires-clause-few
count_datagrams-datagrams-requires-clause-few g c =
    below (datagram_count c.args.offered.now.lists)
    (omega (arith, c.nothing_is_left_out.ensures.all (plan_fields c.args.plan.now) c.requires.offered.records c.args.offered.now c.requires.offered.stands, c.requires.offered.few))
  where
    below : (n : ℕ) → n < 4294967296 → n < 4294967296
    below n less = less

pub new-requires-clause-all : goal.new-requires-clause-all
new-requires-clause-all g c =
    let made = c.in_ok-units.ensures.made in
    record {
      versions = made.versions;
      services = λ version within. services_size (plan_fields c.args.plan.now) c.args.offered.now.lists c.in_ok-units.units.items made version within;
    }

pub new-requires-clause-lists : goal.new-requires-clause-lists
new-requires-clause-lists g c =
    let made = c.in_ok-units.ensures.made in
    (made.each 0 c.index.result.now (unit_found c.in_ok-units.units.items 0 0 c.index.result.now refl (omega (arith, made.size, made.versions)) c.index.ensures)).lists_are
