use Rattle.std.proofs.Common.{ℕ, List, refl, sym, subst, OnOk, OnErr}
use Rattle.outlet_spec.specs.Pairs.{pairs_of, Delivers, DeliversFront}
use Rattle.gse_reception.specs.Counting.{of_isi, of_pdus}
use Rattle.gse_reception.specs.Reception.{GseReceptionState, IsReceiving}
use Rattle.gse_reception.proofs.Frames.{begun, heard_few, begins, more, added_pdus, frame_taken, added_is}
use Rattle.gse_reception.proofs.reception.GseReception.take.Goals as goal

pub returns-clause-received : goal.returns-clause-received
returns-clause-received g c = λ it frames b read receiving.
    let isi : ℕ = c.args.frame.now.isi in
    let filter : List (List ℕ) = c.args.filter.now in
    let state : GseReceptionState = record { slots = c.self.inside.slots; of_isi = of_isi c.self.inside.counts; of_pdus = of_pdus c.self.inside.counts } in
    let now : IsReceiving filter isi it state frames = subst (λ (s : GseReceptionState). IsReceiving filter isi it s frames) (sym c.self.view_is) receiving in
    let going = begins it isi filter state frames now c.args.frame.now.field.now c.count_frame.new.slots (of_isi c.count_frame.new.counts) (of_pdus c.count_frame.new.counts) c.requires.short
    (c.count_frame.ensures.number (heard_few it isi filter state frames now)) c.count_frame.ensures.unchanged c.count_frame.ensures.isi c.count_frame.ensures.pdus in
    frame_taken it isi filter state frames now c.args.frame.now b read refl c.take_field.new.slots (of_isi c.take_field.new.counts) (of_pdus c.take_field.new.counts) c.requires.short
    (c.take_field.ensures.taken (begun isi frames) going)

pub returns-clause-delivered : goal.returns-clause-delivered
returns-clause-delivered g c = λ it frames b read receiving.
    let isi : ℕ = c.args.frame.now.isi in
    let filter : List (List ℕ) = c.args.filter.now in
    let state : GseReceptionState = record { slots = c.self.inside.slots; of_isi = of_isi c.self.inside.counts; of_pdus = of_pdus c.self.inside.counts } in
    let now : IsReceiving filter isi it state frames = subst (λ (s : GseReceptionState). IsReceiving filter isi it s frames) (sym c.self.view_is) receiving in
    let going = begins it isi filter state frames now c.args.frame.now.field.now c.count_frame.new.slots (of_isi c.count_frame.new.counts) (of_pdus c.count_frame.new.counts) c.requires.short
    (c.count_frame.ensures.number (heard_few it isi filter state frames now)) c.count_frame.ensures.unchanged c.count_frame.ensures.isi c.count_frame.ensures.pdus in
    let hands = c.take_field.ensures.hands (begun isi frames) (more it isi filter state frames now c.args.frame.now b read refl) going
    (added_pdus it isi filter state frames now c.args.frame.now b read refl) in
    subst (λ (t : List (List ℕ)). OnOk c.take_field.result (Delivers (g.T.Outlet.StandsFor c.args.outlet.now) (g.T.Outlet.StandsFor c.take_field.new.outlet) (pairs_of c.args.service t)))
    (sym (added_is it isi filter state frames now c.args.frame.now b read refl)) hands.delivers.told

pub returns-clause-failed : goal.returns-clause-failed
returns-clause-failed g c = λ it frames b read receiving.
    let isi : ℕ = c.args.frame.now.isi in
    let filter : List (List ℕ) = c.args.filter.now in
    let state : GseReceptionState = record { slots = c.self.inside.slots; of_isi = of_isi c.self.inside.counts; of_pdus = of_pdus c.self.inside.counts } in
    let now : IsReceiving filter isi it state frames = subst (λ (s : GseReceptionState). IsReceiving filter isi it s frames) (sym c.self.view_is) receiving in
    let going = begins it isi filter state frames now c.args.frame.now.field.now c.count_frame.new.slots (of_isi c.count_frame.new.counts) (of_pdus c.count_frame.new.counts) c.requires.short
    (c.count_frame.ensures.number (heard_few it isi filter state frames now)) c.count_frame.ensures.unchanged c.count_frame.ensures.isi c.count_frame.ensures.pdus in
    let hands = c.take_field.ensures.hands (begun isi frames) (more it isi filter state frames now c.args.frame.now b read refl) going
    (added_pdus it isi filter state frames now c.args.frame.now b read refl) in
    subst (λ (t : List (List ℕ)). OnErr c.take_field.result (DeliversFront (g.T.Outlet.StandsFor c.args.outlet.now) (g.T.Outlet.StandsFor c.take_field.new.outlet) (g.T.Outlet.Refused c.take_field.new.outlet) (pairs_of c.args.service t)))
    (sym (added_is it isi filter state frames now c.args.frame.now b read refl)) hands.delivers.failed
