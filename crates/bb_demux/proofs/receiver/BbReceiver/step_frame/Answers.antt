use Rattle.std.proofs.Common.{◌^◌, ◌<◌, not, [], ◌∷◌, ◌++◌, length, ap, sym, ◌∙◌, subst, arith}
use Rattle.std.proofs.lemmas.List.{with_items_is}
use Rattle.plan_spec.specs.Plan.{PlanFields}
use Rattle.plan.specs.PlanView.{plan_fields}
use Rattle.bb_reception_spec.specs.Delivered.{pairs_of_frame}
use Rattle.outlet_spec.specs.Pairs.{Delivers}
use Rattle.outlet_spec.proofs.Pairs.{delivers_nothing}
use Rattle.bb_demux.specs.Receiving.{BbReceiverState, HasReceived}
use Rattle.bb_demux.proofs.OneFrame.{refused_off, none_pairs}
use Rattle.bb_demux.proofs.Counted.{few_frames}
use Rattle.bb_demux.proofs.Whole.{lent_on, refused_received, other_received, own_received}
use Rattle.bb_demux.proofs.receiver.BbReceiver.step_frame.Goals as goal

-- A refused frame.

pub returns-in-Err-clause-received : goal.returns-in-Err-clause-received
returns-in-Err-clause-received g c = λ plan frames has.
    let seen : HasReceived plan frames _ = subst (λ (v : BbReceiverState). HasReceived plan frames v) (sym c.self.view_is) has in
    let few = subst (λ (v : BbReceiverState). v.stream.records < 2 ^ 32) (sym c.self.view_is) c.requires.few in
    refused_received plan (plan_fields c.self.inside.plan.now) seen.plan_is frames c.args.frame.now c.self.inside.stream seen.stream few _
    c.saturating_add-self-inside.result c.self.inside.services.items c.saturating_add-self-inside.ensures c.in-Err.ensures.refused seen.all

pub returns-in-Err-clause-written : goal.returns-in-Err-clause-written
returns-in-Err-clause-written g c = λ plan frames has.
    let seen : HasReceived plan frames _ = subst (λ (v : BbReceiverState). HasReceived plan frames v) (sym c.self.view_is) has in
    delivers_nothing (g.T.Outlet.StandsFor c.args.outlet.now) _
    (none_pairs plan c.self.inside.services.items frames c.args.frame.now seen.all (refused_off plan c.self.inside.services.items frames c.args.frame.now seen.all c.in-Err.ensures.refused))

-- One of a service.

pub returns-in-Ok-true-clause-received : goal.returns-in-Ok-true-clause-received
returns-in-Ok-true-clause-received g c = λ plan frames has.
    let own : PlanFields = plan_fields c.self.inside.plan.now in
    let b = c.args.frame.now in
    let s = c.self.inside.stream in
    let seen : HasReceived plan frames _ = subst (λ (v : BbReceiverState). HasReceived plan frames v) (sym c.self.view_is) has in
    let few = subst (λ (v : BbReceiverState). v.stream.records < 2 ^ 32) (sym c.self.view_is) c.requires.few in
    let before = lent_on plan own seen.plan_is frames b s seen.stream few c.self.inside.services.items c.as_mut_slice.result.now c.as_mut_slice.ensures.value seen.all in
    own_received plan own seen.plan_is frames b s seen.stream few _
    _ c.receive_frame.new.receivers (with_items_is c.self.inside.services c.receive_frame.new.receivers (omega arith))
    c.in-Ok.ensures.read.readable (c.in-Ok-true.ensures.other frames b c.in-Ok.ensures.read before ∙ ap not c.in-Ok-true.field-0-test)
    (c.in-Ok-true.ensures.received frames b c.in-Ok.ensures.read (few_frames plan frames b s seen.stream few) before)

pub returns-in-Ok-true-clause-written : goal.returns-in-Ok-true-clause-written
returns-in-Ok-true-clause-written g c = λ plan frames has.
    let own : PlanFields = plan_fields c.self.inside.plan.now in
    let b = c.args.frame.now in
    let s = c.self.inside.stream in
    let seen : HasReceived plan frames _ = subst (λ (v : BbReceiverState). HasReceived plan frames v) (sym c.self.view_is) has in
    let few = subst (λ (v : BbReceiverState). v.stream.records < 2 ^ 32) (sym c.self.view_is) c.requires.few in
    let before = lent_on plan own seen.plan_is frames b s seen.stream few c.self.inside.services.items c.as_mut_slice.result.now c.as_mut_slice.ensures.value seen.all in
    subst (λ (p : PlanFields). Delivers (g.T.Outlet.StandsFor c.args.outlet.now) (g.T.Outlet.StandsFor c.receive_frame.new.outlet) (pairs_of_frame p (frames ++ b ∷ []) (length frames)))
    seen.plan_is
    (c.in-Ok-true.ensures.written frames b c.in-Ok.ensures.read (few_frames plan frames b s seen.stream few) before)

pub returns-in-Err-receive_frame-clause-received : goal.returns-in-Err-receive_frame-clause-received
returns-in-Err-receive_frame-clause-received g c = λ plan frames has.
    let own : PlanFields = plan_fields c.self.inside.plan.now in
    let b = c.args.frame.now in
    let s = c.self.inside.stream in
    let seen : HasReceived plan frames _ = subst (λ (v : BbReceiverState). HasReceived plan frames v) (sym c.self.view_is) has in
    let few = subst (λ (v : BbReceiverState). v.stream.records < 2 ^ 32) (sym c.self.view_is) c.requires.few in
    let before = lent_on plan own seen.plan_is frames b s seen.stream few c.self.inside.services.items c.as_mut_slice.result.now c.as_mut_slice.ensures.value seen.all in
    own_received plan own seen.plan_is frames b s seen.stream few _
    _ c.receive_frame.new.receivers (with_items_is c.self.inside.services c.receive_frame.new.receivers (omega arith))
    c.in-Ok.ensures.read.readable (c.in-Err-receive_frame.ensures.of_plan frames b c.in-Ok.ensures.read before)
    (c.in-Err-receive_frame.ensures.received frames b c.in-Ok.ensures.read (few_frames plan frames b s seen.stream few) before)

-- One of another ISI.

pub returns-in-Ok-false-clause-received : goal.returns-in-Ok-false-clause-received
returns-in-Ok-false-clause-received g c = λ plan frames has.
    let own : PlanFields = plan_fields c.self.inside.plan.now in
    let b = c.args.frame.now in
    let s = c.self.inside.stream in
    let seen : HasReceived plan frames _ = subst (λ (v : BbReceiverState). HasReceived plan frames v) (sym c.self.view_is) has in
    let few = subst (λ (v : BbReceiverState). v.stream.records < 2 ^ 32) (sym c.self.view_is) c.requires.few in
    let before = lent_on plan own seen.plan_is frames b s seen.stream few c.self.inside.services.items c.as_mut_slice.result.now c.as_mut_slice.ensures.value seen.all in
    other_received plan own seen.plan_is frames b s seen.stream few _ c.saturating_add-self-inside-in-Ok-false.result
    _ c.receive_frame.new.receivers (with_items_is c.self.inside.services c.receive_frame.new.receivers (omega arith))
    c.saturating_add-self-inside-in-Ok-false.ensures c.in-Ok.ensures.read.readable
    (c.in-Ok-false.ensures.other frames b c.in-Ok.ensures.read before ∙ ap not c.in-Ok-false.field-0-test)
    (c.in-Ok-false.ensures.received frames b c.in-Ok.ensures.read (few_frames plan frames b s seen.stream few) before)
