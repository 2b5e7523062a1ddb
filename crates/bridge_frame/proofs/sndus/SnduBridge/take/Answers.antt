use Rattle.std.proofs.Common.{◌≡◌, ◌∙◌, sym, ap, subst, inr, ℕ, List, true, refl}
use Rattle.ts_spec.specs.Packet.{PacketFields}
use Rattle.ts_spec.specs.Recording.{Record}
use Rattle.ts_spec.specs.Received.{is_of, received_packets}
use Rattle.ts_packet.specs.Links.{link_of}
use Rattle.ule_unit.specs.Spans.{sndu_lawful}
use Rattle.service_reception.proofs.Records.{packet_at, is_of_read}
use Rattle.service_reception.proofs.Steps.{heard_keeps}
use Rattle.bridge_frame.specs.Sndus.{SnduState, HasTakenOn}
use Rattle.bridge_frame.proofs.Heard.{some_handed}
use Rattle.bridge_frame.proofs.Records.{record_taken}
use Rattle.bridge_frame.proofs.sndus.SnduBridge.take.Goals as goal

pub returns : goal.returns
returns g c =
    let heard = c.take.ensures.heard in
    let name = sym (heard_keeps _ (λ l. l.outlet.ghost_name) (λ old new event hears. hears.1) heard.0 _ c.take.new.listener heard.1) in
    let same = c.outlet-1.given.1 name in
    let pid : ℕ = c.args.packet.now.pid in
    let bytes : List ℕ = c.args.bytes.now in
    let of_pid : is_of pid bytes ≡ true = is_of_read pid bytes c.requires.readable (ap (λ (f : PacketFields). f.pid) (sym c.requires.read)) in
    let some = some_handed g.T.Outlet.StandsFor g.T.Outlet.Refused g.T.Outlet.services g.T.Outlet.faults _ (λ l. record { outlet = l.outlet.now; went = l.result })
    (λ old new event hears. hears.0) heard.0 _ c.take.new.listener heard.1 in
    let all = λ (records : List Record) (taken : HasTakenOn pid c.args.self.now records).
    let now : HasTakenOn pid _ records = subst (λ (s : SnduState). HasTakenOn pid s records) (sym c.self.view_is) taken in
    record_taken g.T.Outlet.StandsFor g.T.Outlet.Refused g.T.Outlet.services g.T.Outlet.faults _ (λ l. record { outlet = l.outlet.now; went = l.result })
    (λ old new event hears. hears.0) sndu_lawful pid records c.args.moment bytes c.self.inside.continuity c.see-link.new.self c.self.inside.joiner c.take.new.self c.see-link.result _ c.take.new.listener
    now of_pid c.see-link.ensures.link c.see-link.ensures.last
    (c.take.ensures.told (received_packets pid records) (packet_at records c.args.moment bytes) now.stands
    (inr (c.see-link.ensures.link ∙ ap (λ l. link_of l bytes) now.last_is)) (sym c.requires.read) refl) in
    record {
      received = λ records taken. (all records taken).received;
      hands = λ records taken. rw same (all records taken).hands;
      services = ap g.T.Outlet.services same ∙ some.1.goes.services_are;
      cause = rw same some.1.goes.cause;
    }
