use Rattle.std.proofs.Common.{arith, rules, ℕ, ◌*◌, ◌≤◌, ◌≡◌, List, [], ◌∷◌, length, slice_index_or, sym, subst}
use Rattle.std.specs.Prelude.{All}
use Rattle.wire_spec.specs.Lists.{joined}
use Rattle.fec_units.specs.Bursts.{AreBurstEnds}
use Rattle.fec_units.specs.Parts.{part_of}
use Rattle.fec_tests.proofs.frame_units_tests.burst_of.Goals as goal

-- where a list has one burst, that fits its table
one_fits : (rows columns slots : ℕ) (list : List (List ℕ)) (ends : List ℕ) → AreBurstEnds rows columns slots list ends → length ends ≡ 1
    → length (joined (part_of 0 (slice_index_or ends 0 0) list)) ≤ 191 * rows
one_fits rows columns slots list [] are one = absurd (omega (arith, one))
one_fits rows columns slots list (end ∷ []) are one =
    let fit : All (λ (b : List (List ℕ)). length (joined b) ≤ 191 * rows) (part_of 0 end list ∷ []) =
    subst (All (λ (b : List (List ℕ)). length (joined b) ≤ 191 * rows)) (sym are.bursts_are) are.fit in
    fit 0 (part_of 0 end list) (omega arith)
one_fits rows columns slots list (end ∷ next ∷ rest) are one = absurd (omega (arith, one))

pub make-requires-clause-fits : goal.make-requires-clause-fits
make-requires-clause-fits c =
    rw (c.in_ok-buffer.ensures.rows, c.as_slice.ensures.value)
    (one_fits 256 1 1000 c.args.list.now c.in_ok-ends.ends.items c.in_ok-ends.ensures.ends (search rules))
