use Rattle.ts_spec.specs.Events.{events_of}
use Rattle.unit_stream.specs.Joining.{packets_with}
use Rattle.unit_stream.proofs.listening.tell_packet.Goals as goal

pub returns-clause-told : goal.returns-clause-told
returns-clause-told g c = λ packets next stands linked fields time.
    c.tell_events.ensures.told (packets_with c.args.link packets next) (events_of g.F.UnitForm.form packets)
    (c.feed_packet-state.ensures.fed packets next stands linked fields time)
