use Rattle.std.proofs.Common.{◌++◌, append_assoc, decimal}
use Rattle.std.proofs.lemmas.Result.{err_from_is_err_and}
use Rattle.send_command.proofs.Puts.{puts_then, front_of_longer}
use Rattle.send_command.proofs.lines.put_numbers.Goals as goal

pub returns-in_err-put_number-clause-written : goal.returns-in_err-put_number-clause-written
returns-in_err-put_number-clause-written g c =
    let failed = err_from_is_err_and c.from_residual.result c.from_residual.ensures.1 in
    rw failed.1 (front_of_longer (g.E.Sink.told c.args.complaints.now).held (g.E.Sink.told c.put_number.new.complaints).held (c.args.first.now ++ decimal c.args.a) (c.args.second.now ++ decimal c.args.b)
    (c.args.first.now ++ decimal c.args.a ++ c.args.second.now ++ decimal c.args.b) (append_assoc (c.args.first.now ++ decimal c.args.a) c.args.second.now (decimal c.args.b)) c.in_err-put_number.ensures.written)

pub returns-clause-written : goal.returns-clause-written
returns-clause-written g c =
    puts_then c.put_number-2.result (g.E.Sink.told c.args.complaints.now).held (g.E.Sink.told c.put_number.new.complaints).held (g.E.Sink.told c.put_number-2.new.complaints).held
    (c.args.first.now ++ decimal c.args.a) (c.args.second.now ++ decimal c.args.b)
    (c.args.first.now ++ decimal c.args.a ++ c.args.second.now ++ decimal c.args.b) (append_assoc (c.args.first.now ++ decimal c.args.a) c.args.second.now (decimal c.args.b))
    c.in_ok-put_number.ensures.written c.put_number-2.ensures.written
