use Rattle.std.proofs.Common.{◌≡◌, ◌∙◌, ℕ, ◌<◌, [], ◌∷◌, ◌++◌, true, false, ap, sym, subst}
use Rattle.std.specs.Prelude.{is_some}
use Rattle.ts_spec.specs.Recording.{Record}
use Rattle.outlet_spec.specs.Pairs.{pairs_of, Delivers, DeliversFront}
use Rattle.bridge_frame.specs.Bridge.{is_of_sndus}
use Rattle.bridge_frame.specs.Taking.{contents, added_by_record, HasTaken}
use Rattle.bridge_frame.proofs.Taken.{took_record, stopped_in_record, by_records, by_frames, taken_frame, whole_packet, took_whole, stopped_whole}
use Rattle.bridge_frame.proofs.taking.BridgeTaker.take.Goals as goal

pub returns-in-Ok-clause-took : goal.returns-in-Ok-clause-took
returns-in-Ok-clause-took g c = λ start begun records took.
    let r : Record = record { moment = c.args.moment; bytes = c.args.bytes.now } in
    let none : is_of_sndus c.args.self.now.units ≡ false = c.takes_packets.ensures.kind ∙ c.if-not-takes_packets.true in
    took_record _ _ _ _ (g.T.Outlet.StandsFor c.args.into.now) (g.T.Outlet.StandsFor c.step_frame.new.outlet) _ _ _ records r took
    (by_frames c.args.self.now (λ carrier given. HasTaken carrier c.step_frame.new.self (given ++ r ∷ [])) none
    (λ isi given has. taken_frame isi c.step_frame.new.self given r (c.in-Ok.ensures.received isi (contents given) has)))
    (by_frames c.args.self.now (λ carrier given. Delivers (g.T.Outlet.StandsFor c.args.into.now) (g.T.Outlet.StandsFor c.step_frame.new.outlet) (pairs_of 0 (added_by_record carrier given r))) none
    (λ isi given has. c.in-Ok.ensures.written isi (contents given) has))
    c.in-Ok.ensures.cause.kept

pub returns-in-Ok-clause-ready : goal.returns-in-Ok-clause-ready
returns-in-Ok-clause-ready g c = λ size ready.
    let none : is_of_sndus c.args.self.now.units ≡ false = c.takes_packets.ensures.kind ∙ c.if-not-takes_packets.true in (
      record { packet = λ some. let still : is_of_sndus c.step_frame.new.self.units ≡ false = c.step_frame.ensures.kind in absurd (cc); frame = λ _. ready.0.frame none },
      ap is_some c.step_frame.ensures.id ∙ ready.1,
      subst (λ (n : ℕ). 0 < n) (sym c.step_frame.ensures.services) ready.2,
    )

pub returns-in-Err-clause-stopped : goal.returns-in-Err-clause-stopped
returns-in-Err-clause-stopped g c = λ start begun records took.
    let r : Record = record { moment = c.args.moment; bytes = c.args.bytes.now } in
    let none : is_of_sndus c.args.self.now.units ≡ false = c.takes_packets.ensures.kind ∙ c.if-not-takes_packets.true in
    stopped_in_record _ _ _ _ (g.T.Outlet.StandsFor c.args.into.now) (g.T.Outlet.StandsFor c.step_frame.new.outlet) _ _ _ records r took
    (by_frames c.args.self.now (λ carrier given. HasTaken carrier c.step_frame.new.self (given ++ r ∷ [])) none
    (λ isi given has. taken_frame isi c.step_frame.new.self given r (c.in-Err.ensures.received isi (contents given) has)))
    (g.T.Outlet.Refused c.step_frame.new.outlet)
    (by_frames c.args.self.now (λ carrier given. DeliversFront (g.T.Outlet.StandsFor c.args.into.now) (g.T.Outlet.StandsFor c.step_frame.new.outlet) (g.T.Outlet.Refused c.step_frame.new.outlet)
    (pairs_of 0 (added_by_record carrier given r))) none
    (λ isi given has. c.in-Err.ensures.failed isi (contents given) has))
    c.in-Err.ensures.cause.failed

pub returns-in-Ok-step_record-clause-took : goal.returns-in-Ok-step_record-clause-took
returns-in-Ok-step_record-clause-took g c = λ start begun records took.
    let r : Record = record { moment = c.args.moment; bytes = c.in-Some.packet.now } in
    let some : is_of_sndus c.args.self.now.units ≡ true = c.takes_packets.ensures.kind ∙ c.if-not-takes_packets.false in
    took_whole _ _ _ _ _ _ records c.args.moment c.in-Some.packet.now c.args.bytes.now (whole_packet c.args.bytes.now c.in-Some.packet.now (c.requires.ready.0.packet some) c.in-Some.ensures.cases.1)
    (took_record _ _ _ _ (g.T.Outlet.StandsFor c.args.into.now) (g.T.Outlet.StandsFor c.step_record.new.outlet) _ _ _ records r took
    (by_records c.args.self.now (λ carrier given. HasTaken carrier c.step_record.new.self (given ++ r ∷ [])) some
    (λ pid given has. c.in-Ok-step_record.ensures.received pid given has))
    (by_records c.args.self.now (λ carrier given. Delivers (g.T.Outlet.StandsFor c.args.into.now) (g.T.Outlet.StandsFor c.step_record.new.outlet) (pairs_of 0 (added_by_record carrier given r))) some
    (λ pid given has. c.in-Ok-step_record.ensures.written pid given has))
    c.in-Ok-step_record.ensures.cause.kept)

pub returns-in-Err-step_record-clause-stopped : goal.returns-in-Err-step_record-clause-stopped
returns-in-Err-step_record-clause-stopped g c = λ start begun records took.
    let r : Record = record { moment = c.args.moment; bytes = c.in-Some.packet.now } in
    let some : is_of_sndus c.args.self.now.units ≡ true = c.takes_packets.ensures.kind ∙ c.if-not-takes_packets.false in
    stopped_whole _ _ _ _ _ _ _ records c.args.moment c.in-Some.packet.now c.args.bytes.now (whole_packet c.args.bytes.now c.in-Some.packet.now (c.requires.ready.0.packet some) c.in-Some.ensures.cases.1)
    (stopped_in_record _ _ _ _ (g.T.Outlet.StandsFor c.args.into.now) (g.T.Outlet.StandsFor c.step_record.new.outlet) _ _ _ records r took
    (by_records c.args.self.now (λ carrier given. HasTaken carrier c.step_record.new.self (given ++ r ∷ [])) some
    (λ pid given has. c.in-Err-step_record.ensures.received pid given has))
    (g.T.Outlet.Refused c.step_record.new.outlet)
    (by_records c.args.self.now (λ carrier given. DeliversFront (g.T.Outlet.StandsFor c.args.into.now) (g.T.Outlet.StandsFor c.step_record.new.outlet) (g.T.Outlet.Refused c.step_record.new.outlet)
    (pairs_of 0 (added_by_record carrier given r))) some
    (λ pid given has. c.in-Err-step_record.ensures.failed pid given has))
    c.in-Err-step_record.ensures.cause.failed)
