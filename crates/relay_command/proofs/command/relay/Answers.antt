use Rattle.std.proofs.Common.{◌≡◌, refl, ap, Err}
use Rattle.plan.specs.PlanView.{plan_fields}
use Rattle.recording_spec.specs.Relayed.{as_records}
use Rattle.relay_command.specs.Relaying.{gathered}
use Rattle.relay_command.proofs.Answered.{ends_in_source, ends_too_long, lacks_memory, ends_done, ends_in_sink}
use Rattle.relay_command.proofs.command.relay.Goals as goal

pub returns-in-Err-Source : goal.returns-in-Err-Source
returns-in-Err-Source g c = record {
  relays = ends_in_source (plan_fields c.args.inner.now) (plan_fields c.args.outer.now) (g.I.Source.told c.args.input.now) (g.I.Source.told c.gather_recording.new.input)
      (g.O.Sink.told c.args.output.now) (c.args.output.now ≡ c.args.output.now) (c.in-Err-Source.ensures.source (ap (λ e. Err e) c.in-Err-Source.field-0-is)) refl;
}

pub returns-in-Err-TooLong : goal.returns-in-Err-TooLong
returns-in-Err-TooLong g c = record {
  relays =
      let is = c.in-Err-TooLong.field-0-is in
      ends_too_long (plan_fields c.args.inner.now) (plan_fields c.args.outer.now) (g.I.Source.told c.args.input.now) (g.I.Source.told c.gather_recording.new.input)
      (g.O.Sink.told c.args.output.now) (c.args.output.now ≡ c.args.output.now) (c.in-Err-TooLong.ensures.too_long (ap (λ e. Err e) is))
      (c.in-Err-TooLong.ensures.kept (λ other. absurd (cc))) refl;
}

pub returns-in-Err-OutOfMemory : goal.returns-in-Err-OutOfMemory
returns-in-Err-OutOfMemory g c = record {
  relays =
      let is = c.in-Err-OutOfMemory.field-0-is in
      lacks_memory (plan_fields c.args.inner.now) (plan_fields c.args.outer.now) (g.I.Source.told c.args.input.now) (g.I.Source.told c.gather_recording.new.input)
      (g.O.Sink.told c.args.output.now) (c.args.output.now ≡ c.args.output.now) (g.O.Sink.told c.args.output.now)
      (c.in-Err-OutOfMemory.ensures.kept (λ other. absurd (cc))) (c.in-Err-OutOfMemory.ensures.memory (ap (λ e. Err e) is)) refl refl;
}

pub returns-in-Ok-send_offered : goal.returns-in-Ok-send_offered
returns-in-Ok-send_offered g c = record {
  relays =
      let into = c.in-Ok.ensures.gathers.0 in
      ends_done (plan_fields c.args.inner.now) (plan_fields c.args.outer.now) (g.I.Source.told c.args.input.now) (g.I.Source.told c.gather_recording.new.input)
      (g.O.Sink.told c.args.output.now) (c.send_offered.new.output ≡ c.args.output.now) (g.O.Sink.told c.send_offered.new.output)
      (c.in-Ok.ensures.kept (λ other. absurd (cc))) into.datagrams c.in-Ok-send_offered.tally into.receives
      (c.in-Ok-send_offered.ensures.written (as_records into.datagrams) into.offers) c.in-Ok-send_offered.ensures.flushed (c.in-Ok-send_offered.ensures.output_kept (λ other. absurd (cc)));
}

pub returns-in-Err-Sink : goal.returns-in-Err-Sink
returns-in-Err-Sink g c = record {
  relays =
      let into = c.in-Ok.ensures.gathers.0 in
      let failed = ap (λ e. Err e) c.in-Err-Sink.field-0-is in
      ends_in_sink (plan_fields c.args.inner.now) (plan_fields c.args.outer.now) (g.I.Source.told c.args.input.now) (g.I.Source.told c.gather_recording.new.input)
      (g.O.Sink.told c.args.output.now) (c.send_offered.new.output ≡ c.args.output.now) (g.O.Sink.told c.send_offered.new.output)
      (c.in-Ok.ensures.kept (λ other. absurd (cc))) into.datagrams into.receives
      (c.in-Err-Sink.ensures.written (as_records into.datagrams) into.offers) (c.in-Err-Sink.ensures.unflushed failed) (c.in-Err-Sink.ensures.sink failed);
}

pub returns : goal.returns
returns g c = record {
  relays =
      let into = c.in-Ok.ensures.gathers.0 in
      let is = c.in-Err-OutOfMemory-send_offered.field-0-is in
      lacks_memory (plan_fields c.args.inner.now) (plan_fields c.args.outer.now) (g.I.Source.told c.args.input.now) (g.I.Source.told c.gather_recording.new.input)
      (g.O.Sink.told c.args.output.now) (c.send_offered.new.output ≡ c.args.output.now) (g.O.Sink.told c.send_offered.new.output)
      (c.in-Ok.ensures.kept (λ other. absurd (cc))) (gathered into.datagrams into.receives)
      (c.in-Err-OutOfMemory-send_offered.ensures.output_kept (λ other. absurd (cc))) (c.in-Err-OutOfMemory-send_offered.ensures.unchanged (ap (λ e. Err e) is));
}
