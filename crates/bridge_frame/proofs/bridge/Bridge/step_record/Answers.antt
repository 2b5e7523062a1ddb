use Rattle.std.proofs.Common.{◌∙◌, ◌+◌, sym, ap, subst}
use Rattle.std.specs.Result.{is_ok}
use Rattle.ts_packet.specs.Fields.{fields_in}
use Rattle.bridge_frame.specs.Bridge.{BridgeState, HasTakenRecords}
use Rattle.bridge_frame.proofs.Records.{passed_over, none_told, nothing_added, untimed, unreadable, elsewhere, off_other, not_selected}
use Rattle.bridge_frame.proofs.bridge.Bridge.step_record.Goals as goal

pub returns-in-None-clause-received : goal.returns-in-None-clause-received
returns-in-None-clause-received g c = λ pid records taken.
    passed_over pid records (record { moment = c.args.moment; bytes = c.args.bytes.now }) (untimed pid c.args.moment c.args.bytes.now c.in-None.is) _ (c.self.inside.taken + 1)
    (subst (λ (s : BridgeState). HasTakenRecords pid s records) (sym c.self.view_is) taken)

pub returns-in-None-clause-written : goal.returns-in-None-clause-written
returns-in-None-clause-written g c = λ pid records taken.
    none_told (g.T.Outlet.StandsFor c.args.outlet.now) _ (nothing_added pid records (record { moment = c.args.moment; bytes = c.args.bytes.now }) (untimed pid c.args.moment c.args.bytes.now c.in-None.is))

pub returns-in-Err-clause-received : goal.returns-in-Err-clause-received
returns-in-Err-clause-received g c = λ pid records taken.
    let off = off_other pid c.args.moment c.args.bytes.now (unreadable pid c.args.bytes.now (sym c.parse.ensures.readable ∙ ap is_ok c.in-Err.is)) in
    passed_over pid records (record { moment = c.args.moment; bytes = c.args.bytes.now }) off _ (c.self.inside.taken + 1) (subst (λ (s : BridgeState). HasTakenRecords pid s records) (sym c.self.view_is) taken)

pub returns-in-Err-clause-written : goal.returns-in-Err-clause-written
returns-in-Err-clause-written g c = λ pid records taken.
    let off = off_other pid c.args.moment c.args.bytes.now (unreadable pid c.args.bytes.now (sym c.parse.ensures.readable ∙ ap is_ok c.in-Err.is)) in
    none_told (g.T.Outlet.StandsFor c.args.outlet.now) _ (nothing_added pid records (record { moment = c.args.moment; bytes = c.args.bytes.now }) off)

pub returns-then-ne-clause-received : goal.returns-then-ne-clause-received
returns-then-ne-clause-received g c = λ pid records taken.
    let has = subst (λ (s : BridgeState). HasTakenRecords pid s records) (sym c.self.view_is) taken in
    let off = off_other pid c.args.moment c.args.bytes.now
    (elsewhere pid c.args.bytes.now (fields_in c.in-Ok.packet) (sym c.parse.ensures.readable ∙ ap is_ok c.in-Ok.is) c.in-Ok.ensures.read.1
    (not_selected c.self.inside.id c.in-Ok.packet.pid pid (sym c.ne.ensures ∙ c.if-ne.true) has.selected)) in
    passed_over pid records (record { moment = c.args.moment; bytes = c.args.bytes.now }) off _ (c.self.inside.taken + 1) has

pub returns-then-ne-clause-written : goal.returns-then-ne-clause-written
returns-then-ne-clause-written g c = λ pid records taken.
    let has = subst (λ (s : BridgeState). HasTakenRecords pid s records) (sym c.self.view_is) taken in
    let off = off_other pid c.args.moment c.args.bytes.now
    (elsewhere pid c.args.bytes.now (fields_in c.in-Ok.packet) (sym c.parse.ensures.readable ∙ ap is_ok c.in-Ok.is) c.in-Ok.ensures.read.1
    (not_selected c.self.inside.id c.in-Ok.packet.pid pid (sym c.ne.ensures ∙ c.if-ne.true) has.selected)) in
    none_told (g.T.Outlet.StandsFor c.args.outlet.now) _ (nothing_added pid records (record { moment = c.args.moment; bytes = c.args.bytes.now }) off)
