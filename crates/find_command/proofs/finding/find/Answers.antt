use Rattle.std.proofs.Common.{◌≡◌, refl}
use Rattle.find_command.proofs.Written.{found_none, found_all, found_part}
use Rattle.find_command.proofs.finding.find.Goals as goal

pub returns-in-Err : goal.returns-in-Err
returns-in-Err g c = record {
  finds = found_none (λ text. text.items) c.args.pid (g.I.Source.told c.args.input.now) (g.I.Source.told c.find_text.new.input) (g.O.Sink.told c.args.output.now)
      (c.find_text.new.input ≡ c.args.input.now) (c.args.output.now ≡ c.args.output.now) refl c.in-Err.fault c.in-Err.ensures.finds;
}

pub returns-in-Ok-put_text : goal.returns-in-Ok-put_text
returns-in-Ok-put_text g c = record {
  finds = found_all (λ text. text.items) c.in-Ok.text c.args.pid (g.I.Source.told c.args.input.now) (g.I.Source.told c.find_text.new.input) (g.O.Sink.told c.args.output.now)
      (g.O.Sink.told c.put_text.new.output) (c.find_text.new.input ≡ c.args.input.now) (c.put_text.new.output ≡ c.args.output.now) tt c.deref.result.now c.deref.ensures.value
      c.in-Ok.ensures.finds c.in-Ok-put_text.ensures.written c.in-Ok-put_text.ensures.flushed c.in-Ok-put_text.ensures.cause.kept;
}

pub returns : goal.returns
returns g c = record {
  finds = found_part (λ text. text.items) c.in-Ok.text c.args.pid (g.I.Source.told c.args.input.now) (g.I.Source.told c.find_text.new.input) (g.O.Sink.told c.args.output.now)
      (g.O.Sink.told c.put_text.new.output) (c.find_text.new.input ≡ c.args.input.now) (c.put_text.new.output ≡ c.args.output.now) c.deref.result.now c.deref.ensures.value
      c.in-Ok.ensures.finds c.in-Err-put_text.ensures.written c.in-Err-put_text.ensures.unflushed c.in-Err-put_text.ensures.cause.failed;
}
