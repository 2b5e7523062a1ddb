use Rattle.std.proofs.Common.{◌≡◌, ◌∙◌, sym, ap, subst, inr, ℕ, List, true, refl}
use Rattle.ts_spec.specs.Packet.{PacketFields}
use Rattle.ts_spec.specs.Recording.{Record}
use Rattle.ts_spec.specs.Received.{is_of, received_packets}
use Rattle.slice_spec.specs.Sections.{Timing}
use Rattle.ts_packet.specs.Links.{link_of}
use Rattle.service_reception.proofs.Records.{packet_at, is_of_read}
use Rattle.service_reception.proofs.Steps.{heard_keeps}
use Rattle.fec_reception.specs.Reception.{FecReceptionState, HasTaken, IsReceiving}
use Rattle.fec_reception.proofs.Heard.{all_go}
use Rattle.fec_reception.proofs.Taken.{record_taken}
use Rattle.fec_reception.proofs.reception.FecReception.take.Goals as goal

pub shape_of-self-inside : goal.shape_of-self-inside
shape_of-self-inside g c = sym (heard_keeps _ (λ l. l.frames.ghost_name) (λ old new event hears. hears.1) c.take.ensures.heard.0 _ c.take.new.listener c.take.ensures.heard.1)

pub returns : goal.returns
returns g c =
    let heard = c.take.ensures.heard in
    let name = sym (heard_keeps _ (λ l. l.outlet.ghost_name) (λ old new event hears. hears.2) heard.0 _ c.take.new.listener heard.1) in
    let same = c.outlet-1.given.1 name in
    let all = λ (timing : Timing) (rows : ℕ) (records : List Record) (receiving : IsReceiving timing rows c.args.packet.now.pid c.args.self.now records).
    let pid : ℕ = c.args.packet.now.pid in
    let bytes : List ℕ = c.args.bytes.now in
    let taken : HasTaken timing rows pid _ records = subst (λ (s : FecReceptionState). HasTaken timing rows pid s records) (sym c.self.view_is) receiving.received in
    let of_pid : is_of pid bytes ≡ true = is_of_read pid bytes c.requires.readable (ap (λ (f : PacketFields). f.pid) (sym c.requires.read)) in
    record_taken g.T.Outlet.StandsFor g.T.Outlet.Refused g.T.Outlet.services g.T.Outlet.faults _
    (λ l. record { frames = l.frames.now; number = l.service; outlet = l.outlet.now; went = l.result }) (λ old new event hears. hears.0)
    timing rows pid records c.args.moment bytes _ c.see-link.new.self c.take.new.self c.see-link.result _ c.take.new.listener tt
    receiving.few taken of_pid c.see-link.ensures.link c.see-link.ensures.last c.count_link.ensures.counted refl
    (c.take.ensures.told (received_packets pid records) (packet_at records c.args.moment bytes) taken.stands
    (inr (c.see-link.ensures.link ∙ ap (λ l. link_of l bytes) taken.last_is)) (sym c.requires.read) refl) in
    let goes = all_go g.T.Outlet.StandsFor g.T.Outlet.Refused g.T.Outlet.services g.T.Outlet.faults _
    (λ l. record { frames = l.frames.now; number = l.service; outlet = l.outlet.now; went = l.result }) (λ old new event hears. hears.0)
    heard.0 _ c.take.new.listener heard.1 in
    record {
      received = λ timing rows records receiving. (all timing rows records receiving).received;
      delivered = λ timing rows records receiving. rw same (all timing rows records receiving).told;
      failed = λ timing rows records receiving. rw same (all timing rows records receiving).stopped;
      services = ap g.T.Outlet.services same ∙ goes.services_are;
      cause = rw same goes.cause;
    }
