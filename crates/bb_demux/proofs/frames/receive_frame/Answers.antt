use Rattle.std.proofs.Common.{ap, sym, ◌∙◌, arith}
use Rattle.std.specs.Option.{option_map}
use Rattle.std.proofs.lemmas.Result.{err_from_is_err_and}
use Rattle.std.proofs.lemmas.List.{length-map}
use Rattle.std.proofs.lemmas.List.Quantifiers.{position-Some}
use Rattle.std.proofs.lemmas.Option.{slice_get-map}
use Rattle.plan_spec.specs.Plan.{PlanFields}
use Rattle.plan.specs.Parts.{service_seen}
use Rattle.plan.specs.PlanView.{plan_fields}
use Rattle.bb_stream_law.proofs.PlanChecks.{of_whole}
use Rattle.bb_reception_spec.specs.Delivered.{service_at, added_by}
use Rattle.outlet_spec.specs.Pairs.{pairs_of}
use Rattle.outlet_spec.proofs.Pairs.{delivers_nothing, delivers_same, front_same}
use Rattle.bb_demux.specs.Finding.{is_on_isi}
use Rattle.bb_demux.specs.declared.services.IsiReceiver.{IsiReceiver}
use Rattle.bb_demux.proofs.OneFrame.{foreign, none_on, none_pairs, other_off, not_foreign, to_receive, one_on, one_pairs}
use Rattle.bb_demux.proofs.frames.receive_frame.Goals as goal

-- Of no service.

pub returns-in-None-clause-received : goal.returns-in-None-clause-received
returns-in-None-clause-received g c = λ frames b read few on.
    none_on (plan_fields c.args.plan.now) c.args.receivers.now frames b on
    (other_off (plan_fields c.args.plan.now) c.args.receivers.now frames b on c.args.frame.now read (sym c.place_of.ensures.found ∙ c.in-None.is))

pub returns-in-None-clause-other : goal.returns-in-None-clause-other
returns-in-None-clause-other g c = λ frames b read on.
    foreign (plan_fields c.args.plan.now) c.args.receivers.now frames b on
    (other_off (plan_fields c.args.plan.now) c.args.receivers.now frames b on c.args.frame.now read (sym c.place_of.ensures.found ∙ c.in-None.is))

pub returns-in-None-clause-written : goal.returns-in-None-clause-written
returns-in-None-clause-written g c = λ frames b read few on.
    delivers_nothing (g.T.Outlet.StandsFor c.args.outlet.now) _
    (none_pairs (plan_fields c.args.plan.now) c.args.receivers.now frames b on
    (other_off (plan_fields c.args.plan.now) c.args.receivers.now frames b on c.args.frame.now read (sym c.place_of.ensures.found ∙ c.in-None.is)))

-- Of a service.

pub overflow_cast-at : goal.overflow_cast-at
overflow_cast-at g c =
    let found = position-Some (is_on_isi c.args.frame.now.isi) c.args.receivers.now c.in-Some.at c.index-receivers-at.result (sym c.place_of.ensures.found ∙ c.in-Some.is) in
    omega (
      arith,
      found.0,
      c.requires.count,
      (of_whole (plan_fields c.args.plan.now) c.args.plan.now.whole c.requires.baseband).few,
      length-map c.args.plan.now.services service_seen,
    )

pub returns-clause-received : goal.returns-clause-received
returns-clause-received g c = λ frames b read few on.
    let plan : PlanFields = plan_fields c.args.plan.now in
    let found = sym c.place_of.ensures.found ∙ c.in-Some.is in
    let receiving = to_receive plan c.args.receivers.now frames b on c.args.frame.now read c.in-Some.at c.index-receivers-at.result found c.index-receivers-at.is
    (service_seen c.at.result.now) (slice_get-map service_seen c.args.plan.now.services c.in-Some.at ∙ ap (option_map service_seen) c.at.ensures.read) few in
    one_on plan c.args.receivers.now frames b on c.args.frame.now read c.in-Some.at c.index-receivers-at.result found c.index-receivers-at.is
    (of_whole plan c.args.plan.now.whole c.requires.baseband).differ _ (sym (ap (λ (t : IsiReceiver). t.isi) c.index-receivers-at.is)) (c.in_ok-take.ensures.received (service_at plan c.in-Some.at) frames b read receiving)

pub returns-in_err-take-clause-received : goal.returns-in_err-take-clause-received
returns-in_err-take-clause-received g c = λ frames b read few on.
    let plan : PlanFields = plan_fields c.args.plan.now in
    let found = sym c.place_of.ensures.found ∙ c.in-Some.is in
    let receiving = to_receive plan c.args.receivers.now frames b on c.args.frame.now read c.in-Some.at c.index-receivers-at.result found c.index-receivers-at.is
    (service_seen c.at.result.now) (slice_get-map service_seen c.args.plan.now.services c.in-Some.at ∙ ap (option_map service_seen) c.at.ensures.read) few in
    one_on plan c.args.receivers.now frames b on c.args.frame.now read c.in-Some.at c.index-receivers-at.result found c.index-receivers-at.is
    (of_whole plan c.args.plan.now.whole c.requires.baseband).differ _ (sym (ap (λ (t : IsiReceiver). t.isi) c.index-receivers-at.is)) (c.in_err-take.ensures.received (service_at plan c.in-Some.at) frames b read receiving)

pub returns-clause-other : goal.returns-clause-other
returns-clause-other g c = λ frames b read on.
    let found = sym c.place_of.ensures.found ∙ c.in-Some.is in
    not_foreign (plan_fields c.args.plan.now) c.args.receivers.now frames b on c.args.frame.now read c.in-Some.at c.index-receivers-at.result found c.index-receivers-at.is

pub returns-in_err-take-clause-of_plan : goal.returns-in_err-take-clause-of_plan
returns-in_err-take-clause-of_plan g c = λ frames b read on.
    let found = sym c.place_of.ensures.found ∙ c.in-Some.is in
    let failed = err_from_is_err_and c.from_residual.result c.from_residual.ensures.1 in
    rw failed.1
    (not_foreign (plan_fields c.args.plan.now) c.args.receivers.now frames b on c.args.frame.now read c.in-Some.at c.index-receivers-at.result found c.index-receivers-at.is)

pub returns-clause-written : goal.returns-clause-written
returns-clause-written g c = λ frames b read few on.
    let plan : PlanFields = plan_fields c.args.plan.now in
    let found = sym c.place_of.ensures.found ∙ c.in-Some.is in
    let receiving = to_receive plan c.args.receivers.now frames b on c.args.frame.now read c.in-Some.at c.index-receivers-at.result found c.index-receivers-at.is
    (service_seen c.at.result.now) (slice_get-map service_seen c.args.plan.now.services c.in-Some.at ∙ ap (option_map service_seen) c.at.ensures.read) few in
    delivers_same (g.T.Outlet.StandsFor c.args.outlet.now) (g.T.Outlet.StandsFor c.take.new.outlet) (pairs_of c.in-Some.at (added_by (service_at plan c.in-Some.at) frames b)) _
    (one_pairs plan c.args.receivers.now frames b on c.args.frame.now read c.in-Some.at c.index-receivers-at.result found c.index-receivers-at.is
    (of_whole plan c.args.plan.now.whole c.requires.baseband).differ)
    (c.in_ok-take.ensures.delivered (service_at plan c.in-Some.at) frames b read receiving)

pub returns-in_err-take-clause-failed : goal.returns-in_err-take-clause-failed
returns-in_err-take-clause-failed g c = λ frames b read few on.
    let plan : PlanFields = plan_fields c.args.plan.now in
    let found = sym c.place_of.ensures.found ∙ c.in-Some.is in
    let receiving = to_receive plan c.args.receivers.now frames b on c.args.frame.now read c.in-Some.at c.index-receivers-at.result found c.index-receivers-at.is
    (service_seen c.at.result.now) (slice_get-map service_seen c.args.plan.now.services c.in-Some.at ∙ ap (option_map service_seen) c.at.ensures.read) few in
    let failed = err_from_is_err_and c.from_residual.result c.from_residual.ensures.1 in
    rw failed.1
    (front_same (g.T.Outlet.StandsFor c.args.outlet.now) (g.T.Outlet.StandsFor c.take.new.outlet) (g.T.Outlet.Refused c.take.new.outlet) (pairs_of c.in-Some.at (added_by (service_at plan c.in-Some.at) frames b)) _
    (one_pairs plan c.args.receivers.now frames b on c.args.frame.now read c.in-Some.at c.index-receivers-at.result found c.index-receivers-at.is
    (of_whole plan c.args.plan.now.whole c.requires.baseband).differ)
    (c.in_err-take.ensures.failed (service_at plan c.in-Some.at) frames b read receiving))
