use Rattle.std.proofs.Common.{◌≡◌, ◌∙◌, false, Option, List, [], ◌∷◌, ◌++◌, length, ap, sym, subst}
use Rattle.std.specs.Prelude.{option_map}
use Rattle.std.proofs.lemmas.Result.{err_from_is_err_and}
use Rattle.std.proofs.lemmas.Option.{slice_get-map}
use Rattle.ts_spec.specs.Packet.{PacketFields, fields_of}
use Rattle.ts_spec.specs.Recording.{Record}
use Rattle.plan_spec.specs.Plan.{PlanFields, ServiceFields}
use Rattle.plan.specs.Parts.{service_seen}
use Rattle.plan.specs.PlanView.{plan_fields}
use Rattle.reception_spec.specs.Spans.{span_of}
use Rattle.reception_spec.specs.Delivered.{service_on, pairs_of_record}
use Rattle.reception_law.specs.Words.{added_by}
use Rattle.service_reception.specs.Reception.{packet_record}
use Rattle.outlet_spec.specs.Pairs.{pairs_of, Delivers, DeliversFront}
use Rattle.outlet_spec.proofs.Pairs.{delivers_nothing, delivers_same, front_same}
use Rattle.demux_core.specs.Services.{HaveAllReceived, is_table_pid}
use Rattle.demux_core.specs.declared.int_receiver.IntReceiver.{IntReceiver}
use Rattle.demux_core.proofs.Laws.{Laws, laws_of}
use Rattle.demux_core.proofs.OnePacket.{left_as, none_received, none_known, none_pairs, one_known, to_receive, one_received, one_pairs}
use Rattle.demux_core.proofs.packet.receive_packet.Goals as goal

pub returns-in-None-clause-received : goal.returns-in-None-clause-received
returns-in-None-clause-received g c = λ records few all.
    let plan : PlanFields = plan_fields c.args.plan.now in
    let laws : Laws plan = laws_of plan c.requires.fits.right_changes in
    let pid : (fields_of c.args.bytes.now).pid ≡ c.args.packet.now.pid = sym (ap (λ (f : PacketFields). f.pid) c.requires.read.fields_are) in
    let off : is_table_pid c.args.table.now c.args.packet.now.pid ≡ false = sym c.in_ok-receive_int.ensures.taken ∙ c.if-branch.false in
    let left = c.receive_int.ensures.left off in
    let still : is_table_pid c.receive_int.new.table c.args.packet.now.pid ≡ false = ap (λ (t : Option IntReceiver). is_table_pid t c.args.packet.now.pid) left.1 ∙ off in
    let now : HaveAllReceived false plan c.receive_int.new.services.receivers.items c.receive_int.new.table records =
    left_as plan c.args.services.now c.receive_int.new.services c.args.table.now c.receive_int.new.table records left.0 left.1 all in
    none_received plan laws c.requires.fits.right_changes c.receive_int.new.services.receivers.items c.receive_int.new.table records
    c.args.moment c.args.bytes.now c.args.packet.now.pid c.requires.read.readable pid still now
    (sym c.place_of.ensures ∙ c.in-None.is)

pub returns-in-None-clause-known : goal.returns-in-None-clause-known
returns-in-None-clause-known g c = λ records all.
    let plan : PlanFields = plan_fields c.args.plan.now in
    let laws : Laws plan = laws_of plan c.requires.fits.right_changes in
    let pid : (fields_of c.args.bytes.now).pid ≡ c.args.packet.now.pid = sym (ap (λ (f : PacketFields). f.pid) c.requires.read.fields_are) in
    let off : is_table_pid c.args.table.now c.args.packet.now.pid ≡ false = sym c.in_ok-receive_int.ensures.taken ∙ c.if-branch.false in
    let left = c.receive_int.ensures.left off in
    let still : is_table_pid c.receive_int.new.table c.args.packet.now.pid ≡ false = ap (λ (t : Option IntReceiver). is_table_pid t c.args.packet.now.pid) left.1 ∙ off in
    let now : HaveAllReceived false plan c.receive_int.new.services.receivers.items c.receive_int.new.table records =
    left_as plan c.args.services.now c.receive_int.new.services c.args.table.now c.receive_int.new.table records left.0 left.1 all in
    sym (none_known plan laws c.requires.fits.right_changes c.receive_int.new.services.receivers.items c.receive_int.new.table records
    c.args.moment c.args.bytes.now c.args.packet.now.pid c.requires.read.readable pid still now
    (sym c.place_of.ensures ∙ c.in-None.is))

pub returns-in-None-clause-written : goal.returns-in-None-clause-written
returns-in-None-clause-written g c = λ records few all.
    let plan : PlanFields = plan_fields c.args.plan.now in
    let laws : Laws plan = laws_of plan c.requires.fits.right_changes in
    let pid : (fields_of c.args.bytes.now).pid ≡ c.args.packet.now.pid = sym (ap (λ (f : PacketFields). f.pid) c.requires.read.fields_are) in
    let off : is_table_pid c.args.table.now c.args.packet.now.pid ≡ false = sym c.in_ok-receive_int.ensures.taken ∙ c.if-branch.false in
    let left = c.receive_int.ensures.left off in
    let still : is_table_pid c.receive_int.new.table c.args.packet.now.pid ≡ false = ap (λ (t : Option IntReceiver). is_table_pid t c.args.packet.now.pid) left.1 ∙ off in
    let now : HaveAllReceived false plan c.receive_int.new.services.receivers.items c.receive_int.new.table records =
    left_as plan c.args.services.now c.receive_int.new.services c.args.table.now c.receive_int.new.table records left.0 left.1 all in
    subst (λ o. Delivers (g.T.Outlet.StandsFor c.args.outlet.now) (g.T.Outlet.StandsFor o) (pairs_of_record plan (records ++ packet_record c.args.moment c.args.bytes.now ∷ []) (length records))) (sym left.2)
    (delivers_nothing (g.T.Outlet.StandsFor c.args.outlet.now) _
    (none_pairs plan laws c.requires.fits.right_changes c.receive_int.new.services.receivers.items c.receive_int.new.table records
    c.args.moment c.args.bytes.now c.args.packet.now.pid c.requires.read.readable pid still now
    (sym c.place_of.ensures ∙ c.in-None.is)))

pub returns-clause-received : goal.returns-clause-received
returns-clause-received g c = λ records few all.
    let plan : PlanFields = plan_fields c.args.plan.now in
    let laws : Laws plan = laws_of plan c.requires.fits.right_changes in
    let pid : (fields_of c.args.bytes.now).pid ≡ c.args.packet.now.pid = sym (ap (λ (f : PacketFields). f.pid) c.requires.read.fields_are) in
    let off : is_table_pid c.args.table.now c.args.packet.now.pid ≡ false = sym c.in_ok-receive_int.ensures.taken ∙ c.if-branch.false in
    let left = c.receive_int.ensures.left off in
    let still : is_table_pid c.receive_int.new.table c.args.packet.now.pid ≡ false = ap (λ (t : Option IntReceiver). is_table_pid t c.args.packet.now.pid) left.1 ∙ off in
    let now : HaveAllReceived false plan c.receive_int.new.services.receivers.items c.receive_int.new.table records =
    left_as plan c.args.services.now c.receive_int.new.services c.args.table.now c.receive_int.new.table records left.0 left.1 all in
    let it : ServiceFields = service_on plan c.in-Some.at c.index_mut.result.now.pid in
    let span : List Record = span_of plan c.in-Some.at c.index_mut.result.now.pid records in
    let receiving =
    to_receive plan laws c.requires.fits.right_changes c.receive_int.new.services.receivers.items c.receive_int.new.table records
    c.args.moment c.args.bytes.now c.args.packet.now.pid c.requires.read.readable pid still now
    c.in-Some.at c.index_mut.result.now (sym c.place_of.ensures ∙ c.in-Some.is) c.index_mut.ensures.value
    (service_seen c.at.result.now) (slice_get-map service_seen c.args.plan.now.services c.in-Some.at ∙ ap (option_map service_seen) c.at.ensures.read) few in
    one_received plan laws c.requires.fits.right_changes c.receive_int.new.services.receivers.items c.receive_int.new.table records
    c.args.moment c.args.bytes.now c.args.packet.now.pid c.requires.read.readable pid still now
    c.in-Some.at c.index_mut.result.now (sym c.place_of.ensures ∙ c.in-Some.is) c.index_mut.ensures.value c.take.new.self c.take.ensures.pid c.take.ensures.before
    (c.take.ensures.received plan.recording it span receiving)

pub returns-in_err-take-clause-received : goal.returns-in_err-take-clause-received
returns-in_err-take-clause-received g c = λ records few all.
    let plan : PlanFields = plan_fields c.args.plan.now in
    let laws : Laws plan = laws_of plan c.requires.fits.right_changes in
    let pid : (fields_of c.args.bytes.now).pid ≡ c.args.packet.now.pid = sym (ap (λ (f : PacketFields). f.pid) c.requires.read.fields_are) in
    let off : is_table_pid c.args.table.now c.args.packet.now.pid ≡ false = sym c.in_ok-receive_int.ensures.taken ∙ c.if-branch.false in
    let left = c.receive_int.ensures.left off in
    let still : is_table_pid c.receive_int.new.table c.args.packet.now.pid ≡ false = ap (λ (t : Option IntReceiver). is_table_pid t c.args.packet.now.pid) left.1 ∙ off in
    let now : HaveAllReceived false plan c.receive_int.new.services.receivers.items c.receive_int.new.table records =
    left_as plan c.args.services.now c.receive_int.new.services c.args.table.now c.receive_int.new.table records left.0 left.1 all in
    let it : ServiceFields = service_on plan c.in-Some.at c.index_mut.result.now.pid in
    let span : List Record = span_of plan c.in-Some.at c.index_mut.result.now.pid records in
    let receiving =
    to_receive plan laws c.requires.fits.right_changes c.receive_int.new.services.receivers.items c.receive_int.new.table records
    c.args.moment c.args.bytes.now c.args.packet.now.pid c.requires.read.readable pid still now
    c.in-Some.at c.index_mut.result.now (sym c.place_of.ensures ∙ c.in-Some.is) c.index_mut.ensures.value
    (service_seen c.at.result.now) (slice_get-map service_seen c.args.plan.now.services c.in-Some.at ∙ ap (option_map service_seen) c.at.ensures.read) few in
    one_received plan laws c.requires.fits.right_changes c.receive_int.new.services.receivers.items c.receive_int.new.table records
    c.args.moment c.args.bytes.now c.args.packet.now.pid c.requires.read.readable pid still now
    c.in-Some.at c.index_mut.result.now (sym c.place_of.ensures ∙ c.in-Some.is) c.index_mut.ensures.value c.take.new.self c.take.ensures.pid c.take.ensures.before
    (c.take.ensures.received plan.recording it span receiving)

pub returns-clause-known : goal.returns-clause-known
returns-clause-known g c = λ records all.
    let plan : PlanFields = plan_fields c.args.plan.now in
    let laws : Laws plan = laws_of plan c.requires.fits.right_changes in
    let pid : (fields_of c.args.bytes.now).pid ≡ c.args.packet.now.pid = sym (ap (λ (f : PacketFields). f.pid) c.requires.read.fields_are) in
    let off : is_table_pid c.args.table.now c.args.packet.now.pid ≡ false = sym c.in_ok-receive_int.ensures.taken ∙ c.if-branch.false in
    let left = c.receive_int.ensures.left off in
    let still : is_table_pid c.receive_int.new.table c.args.packet.now.pid ≡ false = ap (λ (t : Option IntReceiver). is_table_pid t c.args.packet.now.pid) left.1 ∙ off in
    let now : HaveAllReceived false plan c.receive_int.new.services.receivers.items c.receive_int.new.table records =
    left_as plan c.args.services.now c.receive_int.new.services c.args.table.now c.receive_int.new.table records left.0 left.1 all in
    sym (one_known plan laws c.requires.fits.right_changes c.receive_int.new.services.receivers.items c.receive_int.new.table records
    c.args.moment c.args.bytes.now c.args.packet.now.pid c.requires.read.readable pid still now
    c.in-Some.at c.index_mut.result.now (sym c.place_of.ensures ∙ c.in-Some.is) c.index_mut.ensures.value)

pub returns-in_err-take-clause-of_plan : goal.returns-in_err-take-clause-of_plan
returns-in_err-take-clause-of_plan g c = λ records all.
    let plan : PlanFields = plan_fields c.args.plan.now in
    let laws : Laws plan = laws_of plan c.requires.fits.right_changes in
    let pid : (fields_of c.args.bytes.now).pid ≡ c.args.packet.now.pid = sym (ap (λ (f : PacketFields). f.pid) c.requires.read.fields_are) in
    let off : is_table_pid c.args.table.now c.args.packet.now.pid ≡ false = sym c.in_ok-receive_int.ensures.taken ∙ c.if-branch.false in
    let left = c.receive_int.ensures.left off in
    let still : is_table_pid c.receive_int.new.table c.args.packet.now.pid ≡ false = ap (λ (t : Option IntReceiver). is_table_pid t c.args.packet.now.pid) left.1 ∙ off in
    let now : HaveAllReceived false plan c.receive_int.new.services.receivers.items c.receive_int.new.table records =
    left_as plan c.args.services.now c.receive_int.new.services c.args.table.now c.receive_int.new.table records left.0 left.1 all in
    let failed = err_from_is_err_and c.from_residual-in_err-take.result c.from_residual-in_err-take.ensures.1 in
    rw failed.1
    (one_known plan laws c.requires.fits.right_changes c.receive_int.new.services.receivers.items c.receive_int.new.table records
    c.args.moment c.args.bytes.now c.args.packet.now.pid c.requires.read.readable pid still now
    c.in-Some.at c.index_mut.result.now (sym c.place_of.ensures ∙ c.in-Some.is) c.index_mut.ensures.value)

pub returns-clause-written : goal.returns-clause-written
returns-clause-written g c = λ records few all.
    let plan : PlanFields = plan_fields c.args.plan.now in
    let laws : Laws plan = laws_of plan c.requires.fits.right_changes in
    let pid : (fields_of c.args.bytes.now).pid ≡ c.args.packet.now.pid = sym (ap (λ (f : PacketFields). f.pid) c.requires.read.fields_are) in
    let off : is_table_pid c.args.table.now c.args.packet.now.pid ≡ false = sym c.in_ok-receive_int.ensures.taken ∙ c.if-branch.false in
    let left = c.receive_int.ensures.left off in
    let still : is_table_pid c.receive_int.new.table c.args.packet.now.pid ≡ false = ap (λ (t : Option IntReceiver). is_table_pid t c.args.packet.now.pid) left.1 ∙ off in
    let now : HaveAllReceived false plan c.receive_int.new.services.receivers.items c.receive_int.new.table records =
    left_as plan c.args.services.now c.receive_int.new.services c.args.table.now c.receive_int.new.table records left.0 left.1 all in
    let it : ServiceFields = service_on plan c.in-Some.at c.index_mut.result.now.pid in
    let span : List Record = span_of plan c.in-Some.at c.index_mut.result.now.pid records in
    let receiving =
    to_receive plan laws c.requires.fits.right_changes c.receive_int.new.services.receivers.items c.receive_int.new.table records
    c.args.moment c.args.bytes.now c.args.packet.now.pid c.requires.read.readable pid still now
    c.in-Some.at c.index_mut.result.now (sym c.place_of.ensures ∙ c.in-Some.is) c.index_mut.ensures.value
    (service_seen c.at.result.now) (slice_get-map service_seen c.args.plan.now.services c.in-Some.at ∙ ap (option_map service_seen) c.at.ensures.read) few in
    subst (λ o. Delivers (g.T.Outlet.StandsFor o) (g.T.Outlet.StandsFor c.take.new.outlet) (pairs_of_record plan (records ++ packet_record c.args.moment c.args.bytes.now ∷ []) (length records))) left.2
    (delivers_same (g.T.Outlet.StandsFor c.receive_int.new.outlet) (g.T.Outlet.StandsFor c.take.new.outlet)
    (pairs_of c.in-Some.at (added_by plan.recording it span (packet_record c.args.moment c.args.bytes.now))) _
    (one_pairs plan laws c.requires.fits.right_changes c.receive_int.new.services.receivers.items c.receive_int.new.table records
    c.args.moment c.args.bytes.now c.args.packet.now.pid c.requires.read.readable pid still now
    c.in-Some.at c.index_mut.result.now (sym c.place_of.ensures ∙ c.in-Some.is) c.index_mut.ensures.value)
    (c.in_ok-take.ensures.delivered plan.recording it span receiving))

pub returns-in_err-take-clause-failed : goal.returns-in_err-take-clause-failed
returns-in_err-take-clause-failed g c = λ records few all.
    let plan : PlanFields = plan_fields c.args.plan.now in
    let laws : Laws plan = laws_of plan c.requires.fits.right_changes in
    let pid : (fields_of c.args.bytes.now).pid ≡ c.args.packet.now.pid = sym (ap (λ (f : PacketFields). f.pid) c.requires.read.fields_are) in
    let off : is_table_pid c.args.table.now c.args.packet.now.pid ≡ false = sym c.in_ok-receive_int.ensures.taken ∙ c.if-branch.false in
    let left = c.receive_int.ensures.left off in
    let still : is_table_pid c.receive_int.new.table c.args.packet.now.pid ≡ false = ap (λ (t : Option IntReceiver). is_table_pid t c.args.packet.now.pid) left.1 ∙ off in
    let now : HaveAllReceived false plan c.receive_int.new.services.receivers.items c.receive_int.new.table records =
    left_as plan c.args.services.now c.receive_int.new.services c.args.table.now c.receive_int.new.table records left.0 left.1 all in
    let it : ServiceFields = service_on plan c.in-Some.at c.index_mut.result.now.pid in
    let span : List Record = span_of plan c.in-Some.at c.index_mut.result.now.pid records in
    let receiving =
    to_receive plan laws c.requires.fits.right_changes c.receive_int.new.services.receivers.items c.receive_int.new.table records
    c.args.moment c.args.bytes.now c.args.packet.now.pid c.requires.read.readable pid still now
    c.in-Some.at c.index_mut.result.now (sym c.place_of.ensures ∙ c.in-Some.is) c.index_mut.ensures.value
    (service_seen c.at.result.now) (slice_get-map service_seen c.args.plan.now.services c.in-Some.at ∙ ap (option_map service_seen) c.at.ensures.read) few in
    let failed = err_from_is_err_and c.from_residual-in_err-take.result c.from_residual-in_err-take.ensures.1 in
    rw failed.1
    (subst (λ o. DeliversFront (g.T.Outlet.StandsFor o) (g.T.Outlet.StandsFor c.take.new.outlet) (g.T.Outlet.Refused c.take.new.outlet) (pairs_of_record plan (records ++ packet_record c.args.moment c.args.bytes.now ∷ []) (length records))) left.2
    (front_same (g.T.Outlet.StandsFor c.receive_int.new.outlet) (g.T.Outlet.StandsFor c.take.new.outlet) (g.T.Outlet.Refused c.take.new.outlet)
    (pairs_of c.in-Some.at (added_by plan.recording it span (packet_record c.args.moment c.args.bytes.now))) _
    (one_pairs plan laws c.requires.fits.right_changes c.receive_int.new.services.receivers.items c.receive_int.new.table records
    c.args.moment c.args.bytes.now c.args.packet.now.pid c.requires.read.readable pid still now
    c.in-Some.at c.index_mut.result.now (sym c.place_of.ensures ∙ c.in-Some.is) c.index_mut.ensures.value)
    (c.in_err-take.ensures.failed plan.recording it span receiving)))
