use Rattle.std.proofs.Common.{List, ℕ, [], ◌∷◌, ◌++◌, codes, decimal, ap, sym}
use Rattle.std.proofs.lemmas.Result.{err_from_is_err_and}
use Rattle.send_command.specs.Lines.{fault_line}
use Rattle.send_command.proofs.Puts.{puts_then, front_of_longer}
use Rattle.send_command.proofs.lines.tell_fault.Goals as goal

pub returns-in_err-put_numbers-clause-written : goal.returns-in_err-put_numbers-clause-written
unfolding fault_line
returns-in_err-put_numbers-clause-written g c =
    let text : List ℕ = codes "ipencap: capture " ++ decimal c.number_of.result ++ codes " at record " ++ decimal c.args.place in
    let failed = err_from_is_err_and c.from_residual.result c.from_residual.ensures.1 in
    rw failed.1 (front_of_longer (g.E.Sink.told c.args.complaints.now).held (g.E.Sink.told c.put_numbers.new.complaints).held text (10 ∷ []) (fault_line c.args.fault c.args.place)
    (ap (λ n. codes "ipencap: capture " ++ decimal n ++ codes " at record " ++ decimal c.args.place ++ 10 ∷ []) (sym c.number_of.ensures.read)) c.in_err-put_numbers.ensures.written)

pub returns-clause-written : goal.returns-clause-written
unfolding fault_line
returns-clause-written g c =
    let text : List ℕ = codes "ipencap: capture " ++ decimal c.number_of.result ++ codes " at record " ++ decimal c.args.place in
    puts_then c.put_all.result (g.E.Sink.told c.args.complaints.now).held (g.E.Sink.told c.put_numbers.new.complaints).held (g.E.Sink.told c.put_all.new.sink).held
    text (10 ∷ []) (fault_line c.args.fault c.args.place)
    (ap (λ n. codes "ipencap: capture " ++ decimal n ++ codes " at record " ++ decimal c.args.place ++ 10 ∷ []) (sym c.number_of.ensures.read))
    c.in_ok-put_numbers.ensures.written c.put_all.ensures.written
