use Rattle.std.proofs.Common.{◌≡◌, List, ℕ, ◌++◌, ap, sym, ◌∙◌, decimal}
use Rattle.std.proofs.lemmas.Result.{err_from_is_err_and}
use Rattle.bridge_command.proofs.Puts.{puts_then, front_of_longer}
use Rattle.bridge_command.proofs.lines.put_number.Goals as goal

pub returns-in_err-put_all-clause-written : goal.returns-in_err-put_all-clause-written
returns-in_err-put_all-clause-written g c =
    let failed = err_from_is_err_and c.from_residual.result c.from_residual.ensures.1 in
    rw failed.1 (front_of_longer (g.E.Sink.told c.args.complaints.now).held (g.E.Sink.told c.put_all.new.sink).held c.as_bytes.result.now (decimal c.args.number) (c.args.text.now ++ decimal c.args.number)
    (ap (λ (t : List ℕ). t ++ decimal c.args.number) (sym c.as_bytes.ensures.value)) c.in_err-put_all.ensures.written)

pub returns-clause-written : goal.returns-clause-written
returns-clause-written g c =
    let digits : decimal c.args.number ≡ c.as_bytes-2.result.now = sym (c.as_bytes-2.ensures.value ∙ c.format.ensures.text) in
    puts_then c.put_all-2.result (g.E.Sink.told c.args.complaints.now).held (g.E.Sink.told c.put_all.new.sink).held (g.E.Sink.told c.put_all-2.new.sink).held
    c.as_bytes.result.now c.as_bytes-2.result.now (c.args.text.now ++ decimal c.args.number)
    (ap (λ (t : List ℕ). t ++ decimal c.args.number) (sym c.as_bytes.ensures.value) ∙ ap (λ (t : List ℕ). c.as_bytes.result.now ++ t) digits)
    c.in_ok-put_all.ensures.written c.put_all-2.ensures.written
