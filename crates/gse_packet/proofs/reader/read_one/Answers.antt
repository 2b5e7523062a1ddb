use Rattle.std.proofs.Common.{◌∷◌, List, ℕ, Option, ap, sym, ◌∙◌}
use Rattle.addr_rules.specs.declared.filter.Label.{Label}
use Rattle.gse_spec.specs.Packet.{packet, reuse_first, label_after_packet}
use Rattle.gse_law.specs.Streams.{readings_from}
use Rattle.gse_packet.specs.Views.{packet_in, refusal_in}
use Rattle.gse_packet.proofs.Readings.{one_front}
use Rattle.gse_packet.proofs.reader.read_one.Goals as goal

pub returns-in-Ok : goal.returns-in-Ok
returns-in-Ok c = record {
  read =
      one_front c.args.bytes.now c.args.before (packet (packet_in c.in-Ok.packet)) c.requires c.in-Ok.ensures.read
      ∙ ap (λ (t : List ℕ). packet (packet_in c.in-Ok.packet) ∷ readings_from t (label_after_packet c.args.before (packet_in c.in-Ok.packet))) (sym c.after_front.ensures.read)
      ∙ ap (λ (t : Option Label). packet (packet_in c.in-Ok.packet) ∷ readings_from c.after_front.result.now t) (sym c.label_after.ensures.read);
}

pub returns-in-Err-ReuseFirst : goal.returns-in-Err-ReuseFirst
returns-in-Err-ReuseFirst c = record {
  read =
      one_front c.args.bytes.now c.args.before reuse_first c.requires (ap refusal_in (sym c.in-Err-ReuseFirst.field-0-is) ∙ c.in-Err-ReuseFirst.ensures.read)
      ∙ ap (λ (t : List ℕ). reuse_first ∷ readings_from t c.args.before) (sym c.after_front-in-Err-ReuseFirst.ensures.read);
}
