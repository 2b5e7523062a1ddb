use Rattle.std.proofs.KnownBytes.{Appends-kept}
use Rattle.find_command.proofs.Written.{written_unflushed}
use Rattle.find_command.proofs.finding.put_text.Goals as goal

pub returns-in-Ok-clause-written : goal.returns-in-Ok-clause-written
returns-in-Ok-clause-written g c =
    Appends-kept (g.O.Sink.told c.args.output.now).held (g.O.Sink.told c.put_all.new.sink).held (g.O.Sink.told c.flush.new.self).held c.args.text.now
    c.in_ok-put_all.ensures.written c.in-Ok.ensures.kept

pub returns-in-Err-clause-written : goal.returns-in-Err-clause-written
returns-in-Err-clause-written g c =
    written_unflushed (g.O.Sink.told c.args.output.now).held (g.O.Sink.told c.put_all.new.sink).held (g.O.Sink.told c.flush.new.self).held c.args.text.now
    c.in_ok-put_all.ensures.written c.in-Err.ensures.kept
