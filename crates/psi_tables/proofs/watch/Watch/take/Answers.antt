use Rattle.std.proofs.Common.{ℕ, ◌∙◌, sym, ap, inr, refl}
use Rattle.ts_spec.specs.Packet.{PacketFields}
use Rattle.ts_spec.specs.Received.{received_packets}
use Rattle.ts_packet.specs.Links.{link_of}
use Rattle.service_reception.specs.Reception.{packet_record}
use Rattle.service_reception.proofs.Records.{packet_at, is_of_read}
use Rattle.service_reception.proofs.Steps.{heard_keeps}
use Rattle.psi_tables.specs.First.{FirstSection}
use Rattle.psi_tables.proofs.FirstWanted.{wanted_stays}
use Rattle.psi_tables.proofs.Watched.{watch_taken, watch_stays, other_pid}
use Rattle.psi_tables.proofs.watch.Watch.take.Goals as goal

pub returns-then-packet-self-clause-watched : goal.returns-then-packet-self-clause-watched
returns-then-packet-self-clause-watched c = λ records watched.
    watch_stays c.args.self.now records (packet_record c.args.moment c.args.bytes.now)
    (other_pid c.args.self.now.pid c.args.packet.now.pid c.args.moment c.args.bytes.now (ap (λ (f : PacketFields). f.pid) c.requires.read) c.if-packet-self.true) watched

pub returns-clause-watched : goal.returns-clause-watched
returns-clause-watched c = λ records watched.
    let pid : ℕ = c.args.self.now.pid in
    watch_taken _ (λ f. f) (λ old new event takes. takes) c.args.self.now
    (record { pid = pid; continuity = c.see-link.new.self; joiner = c.take.new.self; first = c.take.new.listener })
    c.args.self.now.first c.take.new.listener records c.args.moment c.args.bytes.now c.see-link.result refl refl refl watched
    (is_of_read pid c.args.bytes.now c.requires.readable (ap (λ (f : PacketFields). f.pid) (sym c.requires.read) ∙ c.if-packet-self.false))
    c.see-link.ensures.link c.see-link.ensures.last
    (c.take.ensures.told (received_packets pid records) (packet_at records c.args.moment c.args.bytes.now) watched.stands
    (inr (c.see-link.ensures.link ∙ ap (λ l. link_of l c.args.bytes.now) watched.last_is)) (sym c.requires.read) refl)

pub returns-clause-wanted : goal.returns-clause-wanted
returns-clause-wanted c =
    heard_keeps _ (λ (f : FirstSection). f.wanted) (λ old new event takes. wanted_stays old new event takes) c.take.ensures.heard.0 c.args.self.now.first c.take.new.listener c.take.ensures.heard.1
