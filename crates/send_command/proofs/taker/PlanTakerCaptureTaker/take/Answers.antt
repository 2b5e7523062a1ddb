use Rattle.std.proofs.Common.{◌≡◌, ℕ, List, refl, subst, sym, ◌++◌, ◌∷◌, []}
use Rattle.std.specs.Prelude.{OnOk}
use Rattle.wire_spec.specs.Bytes.{AreBytes}
use Rattle.send_command.specs.Gathering.{OffersRecords}
use Rattle.send_command.proofs.Given.{lent_is_datagram}
use Rattle.send_command.proofs.Taken.{has_room, offers_more}
use Rattle.send_command.proofs.taker.PlanTakerCaptureTaker.take.Goals as goal

pub offer-requires-clause-room : goal.offer-requires-clause-room
offer-requires-clause-room c = has_room c.requires.room.0 c.args.self.now c.args.link c.requires.room.1 c.requires.room.2 c.requires.room.3

pub offer-requires-clause-datagram : goal.offer-requires-clause-datagram
offer-requires-clause-datagram c = lent_is_datagram c.args.link c.as_bytes-captured.result.now c.datagram_of.result c.datagram_of.ensures.read

pub returns : goal.returns
returns c = record {
  took = λ start records had few.
      subst (λ (lent : List ℕ). OnOk c.offer.result (OffersRecords start (record { plan = c.args.self.now.plan; offered = c.offer.new.self }) c.args.link (records ++ lent ∷ []))) c.as_bytes-captured.ensures.same
      (offers_more c.offer.result start c.args.self.now (record { plan = c.args.self.now.plan; offered = c.offer.new.self }) c.args.link records c.as_bytes-captured.result.now _
      c.as_bytes-captured.ensures.bytes had refl c.datagram_of.ensures.read c.offer.ensures.stands);
}
