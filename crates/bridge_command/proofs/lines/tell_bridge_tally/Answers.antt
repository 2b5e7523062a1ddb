use Rattle.std.proofs.Common.{◌≡◌, List, ℕ, [], ◌∷◌, ◌++◌, codes, decimal, refl, Option, append_assoc, take}
use Rattle.std.specs.Io.KnownBytes.{Appends}
use Rattle.std.proofs.KnownBytes.{Appends-trans}
use Rattle.std.proofs.lemmas.Result.{err_from_is_err_and}
use Rattle.bridge_command.specs.Lines.{bridge_tally_line}
use Rattle.bridge_command.specs.declared.ends.BridgeTally.{BridgeTally}
use Rattle.bridge_command.proofs.Puts.{puts_then, front_then, front_of_longer}
use Rattle.bridge_command.proofs.lines.tell_bridge_tally.Goals as goal

-- the line up to each of its numbers
abbrev one : BridgeTally → List ℕ
one tally = codes "ipencap: offered " ++ decimal tally.offered

abbrev two : BridgeTally → List ℕ
two tally = one tally ++ codes ", too short " ++ decimal tally.too_short

abbrev three : BridgeTally → List ℕ
three tally = two tally ++ codes ", too long " ++ decimal tally.too_long

abbrev second : BridgeTally → List ℕ
second tally = codes ", too short " ++ decimal tally.too_short

abbrev third : BridgeTally → List ℕ
third tally = codes ", too long " ++ decimal tally.too_long

two_are : (tally : BridgeTally) → two tally ≡ one tally ++ second tally
two_are tally = append_assoc (one tally) (codes ", too short ") (decimal tally.too_short)

three_are : (tally : BridgeTally) → three tally ≡ two tally ++ third tally
three_are tally = append_assoc (two tally) (codes ", too long ") (decimal tally.too_long)

all_are : (tally : BridgeTally) → bridge_tally_line tally ≡ three tally ++ 10 ∷ []
unfolding bridge_tally_line
all_are tally = refl

-- a front of what stands up to a number is one of the line
of_three : (tally : BridgeTally) (a b : Option (List ℕ)) → (n : ℕ) × Appends a b (take n (three tally)) → (n : ℕ) × Appends a b (take n (bridge_tally_line tally))
of_three tally a b h = front_of_longer a b (three tally) (10 ∷ []) (bridge_tally_line tally) (all_are tally) h

of_two : (tally : BridgeTally) (a b : Option (List ℕ)) → (n : ℕ) × Appends a b (take n (two tally)) → (n : ℕ) × Appends a b (take n (bridge_tally_line tally))
of_two tally a b h = of_three tally a b (front_of_longer a b (two tally) (third tally) (three tally) (three_are tally) h)

of_one : (tally : BridgeTally) (a b : Option (List ℕ)) → (n : ℕ) × Appends a b (take n (one tally)) → (n : ℕ) × Appends a b (take n (bridge_tally_line tally))
of_one tally a b h = of_two tally a b (front_of_longer a b (one tally) (second tally) (two tally) (two_are tally) h)

-- what was written up to a number
up_to_two : (tally : BridgeTally) (a b c : Option (List ℕ)) → Appends a b (one tally) → Appends b c (second tally) → Appends a c (two tally)
up_to_two tally a b c first then = rw (two_are tally) (Appends-trans a b c (one tally) (second tally) first then)

up_to_three : (tally : BridgeTally) (a b c : Option (List ℕ)) → Appends a b (two tally) → Appends b c (third tally) → Appends a c (three tally)
up_to_three tally a b c first then = rw (three_are tally) (Appends-trans a b c (two tally) (third tally) first then)

pub returns-in_err-put_number-clause-written : goal.returns-in_err-put_number-clause-written
returns-in_err-put_number-clause-written g c =
    let failed = err_from_is_err_and c.from_residual.result c.from_residual.ensures.1 in
    rw failed.1 (of_one c.args.tally.now (g.E.Sink.told c.args.complaints.now).held (g.E.Sink.told c.put_number.new.complaints).held c.in_err-put_number.ensures.written)

pub returns-in_err-put_number-2-clause-written : goal.returns-in_err-put_number-2-clause-written
returns-in_err-put_number-2-clause-written g c =
    let failed = err_from_is_err_and c.from_residual-in_err-put_number-2.result c.from_residual-in_err-put_number-2.ensures.1 in
    rw failed.1 (of_two c.args.tally.now (g.E.Sink.told c.args.complaints.now).held (g.E.Sink.told c.put_number-2.new.complaints).held
    (front_then (g.E.Sink.told c.args.complaints.now).held (g.E.Sink.told c.put_number.new.complaints).held (g.E.Sink.told c.put_number-2.new.complaints).held
    (one c.args.tally.now) (second c.args.tally.now) (two c.args.tally.now) (two_are c.args.tally.now) c.in_ok-put_number.ensures.written c.in_err-put_number-2.ensures.written))

pub returns-in_err-put_number-3-clause-written : goal.returns-in_err-put_number-3-clause-written
returns-in_err-put_number-3-clause-written g c =
    let failed = err_from_is_err_and c.from_residual-in_err-put_number-3.result c.from_residual-in_err-put_number-3.ensures.1 in
    let both = up_to_two c.args.tally.now (g.E.Sink.told c.args.complaints.now).held (g.E.Sink.told c.put_number.new.complaints).held (g.E.Sink.told c.put_number-2.new.complaints).held
    c.in_ok-put_number.ensures.written c.in_ok-put_number-2.ensures.written in
    rw failed.1 (of_three c.args.tally.now (g.E.Sink.told c.args.complaints.now).held (g.E.Sink.told c.put_number-3.new.complaints).held
    (front_then (g.E.Sink.told c.args.complaints.now).held (g.E.Sink.told c.put_number-2.new.complaints).held (g.E.Sink.told c.put_number-3.new.complaints).held
    (two c.args.tally.now) (third c.args.tally.now) (three c.args.tally.now) (three_are c.args.tally.now) both c.in_err-put_number-3.ensures.written))

pub returns-clause-written : goal.returns-clause-written
returns-clause-written g c =
    let both = up_to_two c.args.tally.now (g.E.Sink.told c.args.complaints.now).held (g.E.Sink.told c.put_number.new.complaints).held (g.E.Sink.told c.put_number-2.new.complaints).held
    c.in_ok-put_number.ensures.written c.in_ok-put_number-2.ensures.written in
    let all = up_to_three c.args.tally.now (g.E.Sink.told c.args.complaints.now).held (g.E.Sink.told c.put_number-2.new.complaints).held (g.E.Sink.told c.put_number-3.new.complaints).held
    both c.in_ok-put_number-3.ensures.written in
    puts_then c.put_all.result (g.E.Sink.told c.args.complaints.now).held (g.E.Sink.told c.put_number-3.new.complaints).held (g.E.Sink.told c.put_all.new.sink).held
    (three c.args.tally.now) (10 ∷ []) (bridge_tally_line c.args.tally.now) (all_are c.args.tally.now) all c.put_all.ensures.written
