use Rattle.std.proofs.Common.{◌≡◌, List, ℕ, [], ◌∷◌, ◌++◌, codes, decimal, refl, ap, ◌∙◌, append_assoc}
use Rattle.std.proofs.KnownBytes.{Appends-trans}
use Rattle.std.proofs.lemmas.Result.{err_from_is_err_and}
use Rattle.send_command.specs.Lines.{tally_line}
use Rattle.send_command.specs.declared.ends.Tally.{Tally}
use Rattle.send_command.proofs.Puts.{puts_then, front_then, front_of_longer, four_behind}
use Rattle.send_command.proofs.lines.tell_tally.Goals as goal

abbrev first : Tally → List ℕ
first tally = codes "ipencap: offered " ++ decimal tally.offered ++ codes ", not IP " ++ decimal tally.not_ip

abbrev second : Tally → List ℕ
second tally = codes ", unrouted " ++ decimal tally.unrouted ++ codes ", too long " ++ decimal tally.too_long

parts : (tally : Tally) → tally_line tally ≡ first tally ++ second tally ++ 10 ∷ []
unfolding tally_line
parts tally =
    ap (λ t. t ++ 10 ∷ []) (four_behind (first tally) (codes ", unrouted ") (decimal tally.unrouted) (codes ", too long ") (decimal tally.too_long))

pub returns-in_err-put_numbers-clause-written : goal.returns-in_err-put_numbers-clause-written
returns-in_err-put_numbers-clause-written g c =
    let failed = err_from_is_err_and c.from_residual.result c.from_residual.ensures.1 in
    rw failed.1 (front_of_longer (g.E.Sink.told c.args.complaints.now).held (g.E.Sink.told c.put_numbers.new.complaints).held (first c.args.tally.now) (second c.args.tally.now ++ 10 ∷ []) (tally_line c.args.tally.now)
    (parts c.args.tally.now ∙ append_assoc (first c.args.tally.now) (second c.args.tally.now) (10 ∷ [])) c.in_err-put_numbers.ensures.written)

pub returns-in_err-put_numbers-2-clause-written : goal.returns-in_err-put_numbers-2-clause-written
returns-in_err-put_numbers-2-clause-written g c =
    let both : List ℕ = first c.args.tally.now ++ second c.args.tally.now in
    let two = front_then (g.E.Sink.told c.args.complaints.now).held (g.E.Sink.told c.put_numbers.new.complaints).held (g.E.Sink.told c.put_numbers-2.new.complaints).held
    (first c.args.tally.now) (second c.args.tally.now) both refl c.in_ok-put_numbers.ensures.written c.in_err-put_numbers-2.ensures.written in
    let failed = err_from_is_err_and c.from_residual-in_err-put_numbers-2.result c.from_residual-in_err-put_numbers-2.ensures.1 in
    rw failed.1 (front_of_longer (g.E.Sink.told c.args.complaints.now).held (g.E.Sink.told c.put_numbers-2.new.complaints).held both (10 ∷ []) (tally_line c.args.tally.now)
    (parts c.args.tally.now) two)

pub returns-clause-written : goal.returns-clause-written
returns-clause-written g c =
    let two = Appends-trans (g.E.Sink.told c.args.complaints.now).held (g.E.Sink.told c.put_numbers.new.complaints).held (g.E.Sink.told c.put_numbers-2.new.complaints).held
    (first c.args.tally.now) (second c.args.tally.now) c.in_ok-put_numbers.ensures.written c.in_ok-put_numbers-2.ensures.written in
    puts_then c.put_all.result (g.E.Sink.told c.args.complaints.now).held (g.E.Sink.told c.put_numbers-2.new.complaints).held (g.E.Sink.told c.put_all.new.sink).held
    (first c.args.tally.now ++ second c.args.tally.now) (10 ∷ []) (tally_line c.args.tally.now) (parts c.args.tally.now)
    two c.put_all.ensures.written
