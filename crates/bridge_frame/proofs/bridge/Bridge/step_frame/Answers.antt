use Rattle.std.proofs.Common.{◌≡◌, ◌∙◌, ◌+◌, ℕ, List, [], length, true, sym, ap, subst, OnOk, OnErr}
use Rattle.std.specs.Result.{is_ok}
use Rattle.gse_spec.specs.Frame.{FrameFields, frame_fields}
use Rattle.gse_spec.specs.Reassembly.{latest_first}
use Rattle.gse_spec.specs.Received.{is_frame_of, received_gse_packets}
use Rattle.outlet_spec.specs.Pairs.{pairs_of, Delivers, DeliversFront}
use Rattle.bb_frame.specs.Views.{fields_in}
use Rattle.bridge_frame.specs.Bridge.{BridgeState, HasTakenFrames}
use Rattle.bridge_frame.specs.Units.{under_way}
use Rattle.bridge_frame.proofs.Records.{none_told, not_selected}
use Rattle.bridge_frame.proofs.Baseband.{frame_passed, nothing_added, unreadable, elsewhere, here, is_selected, frame_taken, frames_handed, slots_stand}
use Rattle.bridge_frame.proofs.bridge.Bridge.step_frame.Goals as goal

pub returns-in-Err-clause-received : goal.returns-in-Err-clause-received
returns-in-Err-clause-received g c = λ isi frames taken.
    let off = unreadable isi c.args.frame.now (sym c.parse.ensures.only ∙ ap is_ok c.in-Err.is) in
    frame_passed isi frames c.args.frame.now off _ (c.self.inside.taken + 1) (subst (λ (s : BridgeState). HasTakenFrames isi s frames) (sym c.self.view_is) taken)

pub returns-in-Err-clause-written : goal.returns-in-Err-clause-written
returns-in-Err-clause-written g c = λ isi frames taken.
    let off = unreadable isi c.args.frame.now (sym c.parse.ensures.only ∙ ap is_ok c.in-Err.is) in
    none_told (g.T.Outlet.StandsFor c.args.outlet.now) _ (nothing_added isi frames c.args.frame.now off)

pub returns-then-ne-clause-received : goal.returns-then-ne-clause-received
returns-then-ne-clause-received g c = λ isi frames taken.
    let has = subst (λ (s : BridgeState). HasTakenFrames isi s frames) (sym c.self.view_is) taken in
    let off = elsewhere isi c.args.frame.now (fields_in c.in-Ok.read) (sym c.parse.ensures.only ∙ ap is_ok c.in-Ok.is) c.in-Ok.ensures.read
    (λ same. not_selected c.self.inside.id c.from.result isi (sym c.ne.ensures ∙ c.if-ne.true) has.selected (c.from.ensures ∙ same)) in
    frame_passed isi frames c.args.frame.now off _ (c.self.inside.taken + 1) has

pub returns-then-ne-clause-written : goal.returns-then-ne-clause-written
returns-then-ne-clause-written g c = λ isi frames taken.
    let has = subst (λ (s : BridgeState). HasTakenFrames isi s frames) (sym c.self.view_is) taken in
    let off = elsewhere isi c.args.frame.now (fields_in c.in-Ok.read) (sym c.parse.ensures.only ∙ ap is_ok c.in-Ok.is) c.in-Ok.ensures.read
    (λ same. not_selected c.self.inside.id c.from.result isi (sym c.ne.ensures ∙ c.if-ne.true) has.selected (c.from.ensures ∙ same)) in
    none_told (g.T.Outlet.StandsFor c.args.outlet.now) _ (nothing_added isi frames c.args.frame.now off)

pub returns-clause-received : goal.returns-clause-received
returns-clause-received g c = λ isi frames taken.
    let b : List ℕ = c.args.frame.now in
    let field : List ℕ = c.in-Ok.read.field.now in
    let has = subst (λ (s : BridgeState). HasTakenFrames isi s frames) (sym c.self.view_is) taken in
    let of_isi : is_frame_of isi b ≡ true = here isi b (fields_in c.in-Ok.read) (sym c.parse.ensures.only ∙ ap is_ok c.in-Ok.is) c.in-Ok.ensures.read
    (sym c.from.ensures ∙ is_selected c.self.inside.id c.from.result isi (sym c.ne.ensures ∙ c.if-ne.false) has.selected) in
    let field_is : (frame_fields b).field ≡ field = ap (λ (f : FrameFields). f.field) (sym c.in-Ok.ensures.read) in
    let stands = slots_stand isi frames b field of_isi field_is _ c.in-Pdus.slots (ap under_way c.in-Pdus.is) has in
    (frame_taken isi frames b field of_isi field_is _ c.in-Pdus.slots (ap under_way c.in-Pdus.is) has c.take_frame.new.slots (c.self.inside.taken + 1) c.take_frame.ensures.frame_number
    (c.take_frame.ensures.taken (length frames) (latest_first [] (received_gse_packets isi frames)) stands))

pub returns-clause-written : goal.returns-clause-written
returns-clause-written g c = λ isi frames taken.
    let b : List ℕ = c.args.frame.now in
    let field : List ℕ = c.in-Ok.read.field.now in
    let has = subst (λ (s : BridgeState). HasTakenFrames isi s frames) (sym c.self.view_is) taken in
    let of_isi : is_frame_of isi b ≡ true = here isi b (fields_in c.in-Ok.read) (sym c.parse.ensures.only ∙ ap is_ok c.in-Ok.is) c.in-Ok.ensures.read
    (sym c.from.ensures ∙ is_selected c.self.inside.id c.from.result isi (sym c.ne.ensures ∙ c.if-ne.false) has.selected) in
    let field_is : (frame_fields b).field ≡ field = ap (λ (f : FrameFields). f.field) (sym c.in-Ok.ensures.read) in
    let hands = c.take_frame.ensures.hands (length frames) (latest_first [] (received_gse_packets isi frames)) (slots_stand isi frames b field of_isi field_is _ c.in-Pdus.slots (ap under_way c.in-Pdus.is) has) in
    (subst (λ (t : List (List ℕ)). OnOk c.take_frame.result (Delivers (g.T.Outlet.StandsFor c.args.outlet.now) (g.T.Outlet.StandsFor c.take_frame.new.outlet) (pairs_of 0 t)))
    (frames_handed isi frames b field of_isi field_is _ c.in-Pdus.slots (ap under_way c.in-Pdus.is) has) hands.delivers.told)

pub returns-clause-failed : goal.returns-clause-failed
returns-clause-failed g c = λ isi frames taken.
    let b : List ℕ = c.args.frame.now in
    let field : List ℕ = c.in-Ok.read.field.now in
    let has = subst (λ (s : BridgeState). HasTakenFrames isi s frames) (sym c.self.view_is) taken in
    let of_isi : is_frame_of isi b ≡ true = here isi b (fields_in c.in-Ok.read) (sym c.parse.ensures.only ∙ ap is_ok c.in-Ok.is) c.in-Ok.ensures.read
    (sym c.from.ensures ∙ is_selected c.self.inside.id c.from.result isi (sym c.ne.ensures ∙ c.if-ne.false) has.selected) in
    let field_is : (frame_fields b).field ≡ field = ap (λ (f : FrameFields). f.field) (sym c.in-Ok.ensures.read) in
    let hands = c.take_frame.ensures.hands (length frames) (latest_first [] (received_gse_packets isi frames)) (slots_stand isi frames b field of_isi field_is _ c.in-Pdus.slots (ap under_way c.in-Pdus.is) has) in
    (subst (λ (t : List (List ℕ)). OnErr c.take_frame.result (DeliversFront (g.T.Outlet.StandsFor c.args.outlet.now) (g.T.Outlet.StandsFor c.take_frame.new.outlet) (g.T.Outlet.Refused c.take_frame.new.outlet) (pairs_of 0 t)))
    (frames_handed isi frames b field of_isi field_is _ c.in-Pdus.slots (ap under_way c.in-Pdus.is) has) hands.delivers.failed)
