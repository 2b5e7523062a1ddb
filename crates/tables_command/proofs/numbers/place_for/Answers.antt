use Rattle.std.proofs.Common.{rules, length}
use Rattle.tables_command.proofs.Rising.{with_number-there, with_number-new}
use Rattle.tables_command.proofs.numbers.place_for.Goals as goal

pub returns-then-other-number-clause-none : goal.returns-then-other-number-clause-none
returns-then-other-number-clause-none c =
    λ none. with_number-there c.args.numbers.now c.args.number c.loop-at.at c.loop-at.invariant c.loop-at-test.true c.if-other-number.true

pub returns-then-other-number-2-clause-some : goal.returns-then-other-number-2-clause-some
returns-then-other-number-2-clause-some c =
    with_number-new c.args.numbers.now c.args.number c.loop-at.at c.loop-at.invariant (search rules) (λ below. c.if-other-number-2.true)

pub returns-clause-some : goal.returns-clause-some
returns-clause-some c =
    with_number-new c.args.numbers.now c.args.number (length c.args.numbers.now) (λ k below. c.loop-at.invariant k (search rules)) (search rules) (λ below. search rules)
