-- Eight groups are all that were read.
use Rattle.std.proofs.Common.{List, ℕ, take, Some, arith, sym, ap, ◌∙◌}
use lib.Seq.{take_all}
use Rattle.addr_rules.proofs.ipv6_text.whole_groups.Goals as goal

pub returns-in-Some-eq8-clause-only : goal.returns-in-Some-eq8-clause-only
returns-in-Some-eq8-clause-only c = λ groups eight are.
    let read : List ℕ = c.read_some_groups.new.into in
    ap (λ (l : List ℕ). Some l)
    (sym (take_all 8 read (omega (arith, c.read_some_groups.array_long))) ∙ ap (λ n. take n read) (sym c.in-Some-eq8.field-0-test)
    ∙ c.in-Some-eq8.ensures.only groups (omega (arith, eight)) are)
