use Rattle.std.proofs.Common.{◌≡◌, [], ◌++◌, length, take, drop, sym, ap, ◌∙◌, refl, true, arith}
use Rattle.std.proofs.lemmas.List.{take_at}
use Rattle.ts_spec.specs.Events.{events_of}
use Rattle.ts_packet.specs.Fields.{fields_in}
use Rattle.reassembly_law.specs.UnderWay.{open_units}
use Rattle.unit_stream.specs.Joining.{packets_with}
use Rattle.unit_stream.specs.States.{state_in}
use Rattle.unit_stream.proofs.Fed.{feeds, is_next}
use Rattle.unit_stream.proofs.Heard.{drained_told}
use Rattle.unit_stream.proofs.joiner.Joiner.take.Goals as goal

pub returns-then-run_on : goal.returns-then-run_on
returns-then-run_on g c = record {
  told = λ packets next stands linked fields time.
      drained_told g.L.Listener.Hears g.F.UnitForm.form (fields_in c.args.packet.now) (packets_with c.args.link packets next) (events_of g.F.UnitForm.form packets) c.run_on.new.self c.args.listener.now
      (feeds g.F.UnitForm.form g.met.F.UnitForm.lawful c.args.self.now c.run_on.new.self (open_units g.F.UnitForm.form packets) c.args.link true packets next (fields_in c.args.packet.now) c.args.moment
      stands stands linked
      (λ duplicate. let is_next_link = c.run_on.ensures.next c.if-run_on.true in cc)
      (sym (ap is_next (c.run_on.ensures.next c.if-run_on.true)))
      fields time
      (c.run_on.ensures.runs (open_units g.F.UnitForm.form packets) c.args.moment c.if-run_on.true stands))
      (c.run_on.ensures.drained c.if-run_on.true);
  heard = ([], refl);
}

pub returns-clause-told : goal.returns-clause-told
returns-clause-told g c = λ packets next stands linked fields time.
    let same : take c.self.inside.buffer.len (c.tell_packet-self-inside.new.buffer ++ drop (length c.tell_packet-self-inside.new.buffer) c.self.inside.buffer.items) ≡ c.tell_packet-self-inside.new.buffer =
    take_at c.tell_packet-self-inside.new.buffer (drop (length c.tell_packet-self-inside.new.buffer) c.self.inside.buffer.items) c.self.inside.buffer.len (omega arith) in
    rw same (
    c.tell_packet-self-inside.ensures.told packets next
    (ap (state_in c.self.inside.state) c.deref_mut.ensures.value ∙ c.self.view_is ∙ c.run_on.ensures.unchanged c.if-run_on.false ∙ stands) linked fields time)

pub returns-clause-heard : goal.returns-clause-heard
returns-clause-heard g c = c.tell_packet-self-inside.ensures.heard
