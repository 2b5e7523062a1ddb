use Rattle.std.proofs.Common.{◌∙◌, ◌≡◌, ℕ, ◌≤◌, ap, sym, subst, arith}
use Rattle.std.proofs.lemmas.Result.{err_from_is_err_and}
use Rattle.std.proofs.lemmas.List.{length-map}
use Rattle.ts_spec.specs.Packet.{PacketFields, fields_of}
use Rattle.plan_spec.specs.Plan.{PlanFields}
use Rattle.plan.specs.Parts.{change_seen}
use Rattle.plan.specs.PlanView.{plan_fields}
use Rattle.reception_spec.specs.Spans.{version_at_end}
use Rattle.service_reception.specs.Reception.{packet_record}
use Rattle.service_reception.proofs.Records.{is_of_read}
use Rattle.demux_core.specs.Moving.{AllFollow}
use Rattle.outlet_spec.specs.Pairs.{Delivers, DeliversFront}
use Rattle.demux_core.proofs.Laws.{laws_of}
use Rattle.outlet_spec.proofs.Pairs.{delivers_nothing}
use Rattle.demux_core.proofs.Whole.{int_took, int_switched, int_gives_none, int_gives}
use Rattle.demux_core.proofs.packet.receive_int.Goals as goal

pub move_services-requires-clause-version : goal.move_services-requires-clause-version
move_services-requires-clause-version g c =
    subst (λ (n : ℕ). c.version_in_force-version.result ≤ n) (length-map c.args.plan.now.changes change_seen)
    (c.version_in_force-version.ensures.most (plan_fields c.args.plan.now) (c.take_for_int.ensures.last (plan_fields c.args.plan.now) c.requires.fits.up_to_last))

pub returns-in_ok-move_services-clause-received : goal.returns-in_ok-move_services-clause-received
returns-in_ok-move_services-clause-received g c = λ records few all own.
    let plan : PlanFields = plan_fields c.args.plan.now in
    int_switched plan (laws_of plan c.requires.fits.right_changes) c.args.services.now.receivers.items c.args.table.now records (packet_record c.args.moment c.args.bytes.now) all
    c.requires.fits.right_changes c.args.packet.now.pid (sym (ap (λ (f : PacketFields). f.pid) c.requires.read.fields_are)) c.take_for_int.new.table own
    (c.take_for_int.ensures.received plan records few all.int c.if-not-take_for_int.false)
    few c.requires.fits.few_changes c.move_services.new.services.receivers.items c.move_services.ensures.count
    (subst (λ (v : ℕ). AllFollow plan v c.args.services.now.receivers.items c.move_services.new.services.receivers.items) c.version_in_force-version.ensures.read c.move_services.ensures.followed)

pub returns-in_ok-move_services-clause-written : goal.returns-in_ok-move_services-clause-written
returns-in_ok-move_services-clause-written g c = λ records few all own.
    let plan : PlanFields = plan_fields c.args.plan.now in
    let pid : (fields_of c.args.bytes.now).pid ≡ c.args.packet.now.pid = sym (ap (λ (f : PacketFields). f.pid) c.requires.read.fields_are) in
    subst (Delivers (g.T.Outlet.StandsFor c.args.outlet.now) (g.T.Outlet.StandsFor c.move_services.new.outlet))
    (sym (int_gives plan (laws_of plan c.requires.fits.right_changes) c.args.services.now.receivers.items c.args.table.now records (packet_record c.args.moment c.args.bytes.now) all
    c.requires.fits.right_changes c.args.packet.now.pid pid c.take_for_int.new.table own
    (c.take_for_int.ensures.received plan records few all.int c.if-not-take_for_int.false)
    (is_of_read c.args.packet.now.pid c.args.bytes.now c.requires.read.readable pid) c.version_in_force-version.result c.version_in_force-version.ensures.read))
    (c.in_ok-move_services.ensures.delivered (version_at_end plan records) records (omega (arith, few)) all.services)

pub returns-in_ok-move_services-clause-fits : goal.returns-in_ok-move_services-clause-fits
returns-in_ok-move_services-clause-fits g c = record {
  count_is = c.move_services.ensures.count ∙ c.requires.fits.count_is;
  few = c.requires.fits.few;
  right_changes = c.requires.fits.right_changes;
  few_changes = c.requires.fits.few_changes;
  up_to_last = c.take_for_int.ensures.last (plan_fields c.args.plan.now) c.requires.fits.up_to_last;
}

pub returns-in_err-move_services-clause-received : goal.returns-in_err-move_services-clause-received
returns-in_err-move_services-clause-received g c = λ records few all own.
    let plan : PlanFields = plan_fields c.args.plan.now in
    int_switched plan (laws_of plan c.requires.fits.right_changes) c.args.services.now.receivers.items c.args.table.now records (packet_record c.args.moment c.args.bytes.now) all
    c.requires.fits.right_changes c.args.packet.now.pid (sym (ap (λ (f : PacketFields). f.pid) c.requires.read.fields_are)) c.take_for_int.new.table own
    (c.take_for_int.ensures.received plan records few all.int c.if-not-take_for_int.false)
    few c.requires.fits.few_changes c.move_services.new.services.receivers.items c.move_services.ensures.count
    (subst (λ (v : ℕ). AllFollow plan v c.args.services.now.receivers.items c.move_services.new.services.receivers.items) c.version_in_force-version.ensures.read c.move_services.ensures.followed)

pub returns-in_err-move_services-clause-failed : goal.returns-in_err-move_services-clause-failed
returns-in_err-move_services-clause-failed g c = λ records few all.
    let plan : PlanFields = plan_fields c.args.plan.now in
    let pid : (fields_of c.args.bytes.now).pid ≡ c.args.packet.now.pid = sym (ap (λ (f : PacketFields). f.pid) c.requires.read.fields_are) in
    let failed = err_from_is_err_and c.from_residual.result c.from_residual.ensures.1 in
    rw failed.1
    (subst (DeliversFront (g.T.Outlet.StandsFor c.args.outlet.now) (g.T.Outlet.StandsFor c.move_services.new.outlet) (g.T.Outlet.Refused c.move_services.new.outlet))
    (sym (int_gives plan (laws_of plan c.requires.fits.right_changes) c.args.services.now.receivers.items c.args.table.now records (packet_record c.args.moment c.args.bytes.now) all
    c.requires.fits.right_changes c.args.packet.now.pid pid c.take_for_int.new.table (sym c.take_for_int.ensures.taken ∙ c.if-not-take_for_int.false)
    (c.take_for_int.ensures.received plan records few all.int c.if-not-take_for_int.false)
    (is_of_read c.args.packet.now.pid c.args.bytes.now c.requires.read.readable pid) c.version_in_force-version.result c.version_in_force-version.ensures.read))
    (c.in_err-move_services.ensures.failed (version_at_end plan records) records (omega (arith, few)) all.services))

pub returns-in_err-move_services-clause-fits : goal.returns-in_err-move_services-clause-fits
returns-in_err-move_services-clause-fits g c = record {
  count_is = c.move_services.ensures.count ∙ c.requires.fits.count_is;
  few = c.requires.fits.few;
  right_changes = c.requires.fits.right_changes;
  few_changes = c.requires.fits.few_changes;
  up_to_last = c.take_for_int.ensures.last (plan_fields c.args.plan.now) c.requires.fits.up_to_last;
}

pub returns-else-version-before-clause-received : goal.returns-else-version-before-clause-received
returns-else-version-before-clause-received g c = λ records few all own.
    let plan : PlanFields = plan_fields c.args.plan.now in
    int_took plan (laws_of plan c.requires.fits.right_changes) c.args.services.now.receivers.items c.args.table.now records (packet_record c.args.moment c.args.bytes.now) all
    c.requires.fits.right_changes c.args.packet.now.pid (sym (ap (λ (f : PacketFields). f.pid) c.requires.read.fields_are)) c.take_for_int.new.table own
    (c.take_for_int.ensures.received plan records few all.int c.if-not-take_for_int.false)
    (sym c.version_in_force-version.ensures.read ∙ c.if-version-before.false ∙ c.version_in_force-before.ensures.read)

pub returns-else-version-before-clause-written : goal.returns-else-version-before-clause-written
returns-else-version-before-clause-written g c = λ records few all own.
    let plan : PlanFields = plan_fields c.args.plan.now in
    delivers_nothing (g.T.Outlet.StandsFor c.args.outlet.now) _
    (int_gives_none plan (laws_of plan c.requires.fits.right_changes) c.args.services.now.receivers.items c.args.table.now records (packet_record c.args.moment c.args.bytes.now) all
    c.requires.fits.right_changes c.args.packet.now.pid (sym (ap (λ (f : PacketFields). f.pid) c.requires.read.fields_are)) c.take_for_int.new.table own
    (c.take_for_int.ensures.received plan records few all.int c.if-not-take_for_int.false)
    (sym c.version_in_force-version.ensures.read ∙ c.if-version-before.false ∙ c.version_in_force-before.ensures.read))

pub returns-else-version-before-clause-fits : goal.returns-else-version-before-clause-fits
returns-else-version-before-clause-fits g c = record {
  count_is = c.requires.fits.count_is;
  few = c.requires.fits.few;
  right_changes = c.requires.fits.right_changes;
  few_changes = c.requires.fits.few_changes;
  up_to_last = c.take_for_int.ensures.last (plan_fields c.args.plan.now) c.requires.fits.up_to_last;
}
