use Rattle.std.proofs.Common.{◌≡◌, ◌∙◌, sym, ap, subst, inr, ℕ, List, true, refl}
use Rattle.ts_spec.specs.Packet.{PacketFields}
use Rattle.ts_spec.specs.Received.{is_of, received_packets}
use Rattle.ts_packet.specs.Links.{link_of}
use Rattle.service_reception.specs.Table.{KeptSections, TableState, HasReceivedTable}
use Rattle.service_reception.proofs.Records.{packet_at, is_of_read}
use Rattle.service_reception.proofs.Keeping.{table_heard, last_stays}
use Rattle.service_reception.proofs.Steps.{heard_keeps}
use Rattle.service_reception.proofs.int_reception.IntReception.take.Goals as goal

pub returns : goal.returns
returns g c = record {
  received = λ plan int records few received.
      let pid : ℕ = c.args.packet.now.pid in
      let bytes : List ℕ = c.args.bytes.now in
      let state : TableState = record { last = c.self.inside.continuity; joiner = c.self.inside.joiner; kept = c.self.inside.kept } in
      let before : HasReceivedTable plan int pid state records = subst (λ (s : TableState). HasReceivedTable plan int pid s records) (sym c.self.view_is) received in
      let of_pid : is_of pid bytes ≡ true = is_of_read pid bytes c.requires.readable (ap (λ (f : PacketFields). f.pid) (sym c.requires.read)) in
      table_heard _ (λ kept. kept) (λ old new event keeps. keeps) plan int pid records c.args.moment bytes c.self.inside.continuity c.see-link.new.self c.self.inside.joiner c.take.new.self c.see-link.result
      c.self.inside.kept c.take.new.listener before of_pid c.see-link.ensures.link few c.see-link.ensures.last
      (c.take.ensures.told (received_packets pid records) (packet_at records c.args.moment bytes) before.stands
      (inr (c.see-link.ensures.link ∙ ap (λ l. link_of l bytes) before.last_is)) (sym c.requires.read) refl);
  last = heard_keeps _ (λ (k : KeptSections). k.last_version) (λ old new event keeps. last_stays old new event keeps) c.take.ensures.heard.0 c.self.inside.kept c.take.new.listener c.take.ensures.heard.1
      ∙ ap (λ (s : TableState). s.kept.last_version) c.self.view_is;
}
