use Rattle.std.proofs.Common.{◌≡◌, ◌∙◌, sym, ap, subst, inr, ℕ, List, true, refl}
use Rattle.ts_spec.specs.Packet.{PacketFields}
use Rattle.ts_spec.specs.Recording.{Record}
use Rattle.ts_spec.specs.Received.{is_of, received_packets}
use Rattle.plan_spec.specs.Plan.{ServiceFields}
use Rattle.ts_packet.specs.Links.{link_of}
use Rattle.service_reception.specs.Reception.{ReceptionState, IsReceiving}
use Rattle.service_reception.proofs.Records.{packet_at, is_of_read}
use Rattle.service_reception.proofs.Steps.{all_caused, heard_keeps}
use Rattle.service_reception.proofs.Taken.{has_on, record_heard}
use Rattle.service_reception.proofs.reception.Reception.take.Goals as goal

pub shape_of-self-inside : goal.shape_of-self-inside
shape_of-self-inside g c = sym (heard_keeps _ (λ l. l.counts.ghost_name) (λ old new event hears. hears.1) c.take.ensures.heard.0 _ c.take.new.listener c.take.ensures.heard.1)

pub returns : goal.returns
returns g c =
    let heard = c.take.ensures.heard in
    let name = sym (heard_keeps _ (λ l. l.outlet.ghost_name) (λ old new event hears. hears.2) heard.0 _ c.take.new.listener heard.1) in
    let same = c.outlet-1.given.1 name in
    let all = λ (it : ServiceFields) (records : List Record) (receiving : IsReceiving g.K.UnitReader.IsOfKind c.args.filter.now c.args.packet.now.pid it c.args.self.now records).
    let pid : ℕ = c.args.packet.now.pid in
    let bytes : List ℕ = c.args.bytes.now in
    let form_is = g.met.K.UnitReader.form_is it.kind receiving.served.kind in
    let now : IsReceiving g.K.UnitReader.IsOfKind c.args.filter.now pid it _ records = subst (λ (s : ReceptionState). IsReceiving g.K.UnitReader.IsOfKind c.args.filter.now pid it s records) (sym c.self.view_is) receiving in
    let on = has_on g.K.UnitForm.form pid it c.self.inside.continuity c.self.inside.joiner c.self.inside.counts records form_is receiving.of_pid now.received in
    let of_pid : is_of pid bytes ≡ true = is_of_read pid bytes c.requires.readable (ap (λ (f : PacketFields). f.pid) (sym c.requires.read)) in
    record_heard g.T.Outlet.StandsFor g.T.Outlet.Refused g.T.Outlet.services g.T.Outlet.faults _
    (λ l. record { counts = l.counts.now; filter = l.filter.now; number = l.service; outlet = l.outlet.now; went = l.result })
    g.K.UnitForm.form g.met.K.UnitForm.lawful g.K.UnitReader.IsOfKind (λ old new event hears. hears.0)
    pid it records c.args.moment bytes c.self.inside.continuity c.see-link.new.self c.self.inside.joiner c.take.new.self c.self.inside.counts c.see-link.result _ c.take.new.listener tt
    form_is receiving.of_pid receiving.served receiving.few on of_pid c.see-link.ensures.link c.see-link.ensures.last c.count_link.ensures.packets c.count_link.ensures.units refl
    (c.take.ensures.told (received_packets pid records) (packet_at records c.args.moment bytes) on.stands
    (inr (c.see-link.ensures.link ∙ ap (λ l. link_of l bytes) on.last_is)) (sym c.requires.read) refl) in
    record {
      received = λ it records receiving. (all it records receiving).received;
      delivered = λ it records receiving. rw same (all it records receiving).told;
      failed = λ it records receiving. rw same (all it records receiving).stopped;
      services = ap g.T.Outlet.services same
          ∙ heard_keeps _ (λ l. g.T.Outlet.services l.outlet.now) (λ old new event hears. hears.0.services_are) heard.0 _ c.take.new.listener heard.1;
      cause = rw same (all_caused g.T.Outlet.StandsFor g.T.Outlet.Refused g.T.Outlet.services g.T.Outlet.faults _
          (λ l. record { counts = l.counts.now; filter = l.filter.now; number = l.service; outlet = l.outlet.now; went = l.result })
          g.K.UnitForm.form g.met.K.UnitForm.lawful g.K.UnitReader.IsOfKind (λ old new event hears. hears.0) heard.0 _ c.take.new.listener heard.1).0;
    }
