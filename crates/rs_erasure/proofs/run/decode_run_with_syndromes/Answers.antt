use Rattle.std.proofs.Common.{arith, ℕ, List, ◌≡◌, ◌+◌, ◌-◌, ◌<◌, ◌≤◌, ◌∙◌, ap, sym, subst, drop, length, get_or, map}
use Rattle.std.specs.List.{All}
use Rattle.std.specs.List.Sorted.{IsStrictlyIncreasing}
use Rattle.fec_spec.specs.Table.{table_row}
use Rattle.erasure_law.specs.Roots.{eliminated, place_power, syndromes_of}
use Rattle.erasure_law.proofs.Tables.{length-table_row}
use Rattle.rs_erasure.specs.Columns.{cell}
use Rattle.rs_erasure.specs.Syndromes.{HasLeft}
use Rattle.rs_erasure.proofs.Remains.{left_given}
use Rattle.rs_erasure.proofs.Runs.{get_or-row}
use Rattle.rs_erasure.proofs.Decoding.{Decoded, decoded, left_in_column, row_bytes, same_row}
use Rattle.rs_erasure.proofs.run.decode_run_with_syndromes.Goals as goal

pub returns : goal.returns
returns c =
    let rows : ℕ = c.args.rows in
    let table : List ℕ = c.args.table.now in
    let new : List ℕ = c.correct.new.table in
    let unknown : List ℕ = c.args.unknown.now.items in
    let places : List ℕ = c.as_slice-places.result.now in
    let same : places ≡ unknown = c.as_slice-places.ensures.value in
    let powers : List ℕ = c.as_slice.result.now in
    let is_powers : powers ≡ map place_power places = c.as_slice.ensures.value ∙ c.powers_of-powers.ensures in
    let back : unknown ≡ places = sym same in
    let wanted : c.args.wanted ≤ length places = subst (λ (l : List ℕ). c.args.wanted ≤ length l) back c.requires.wanted in
    let lowest : ℕ = length places - c.args.wanted in
    let e : length places - lowest ≡ c.args.wanted = omega arith in
    let each : (r : ℕ) → c.args.from ≤ r → r < c.args.to → Decoded unknown (drop c.args.wanted unknown) (table_row 255 rows table r) (table_row 255 rows new r) (get_or c.mark.new.bad r 0) =
    λ r ge lt.
    let low : r < rows = omega arith in
    subst (λ (l : List ℕ). Decoded l (drop c.args.wanted l) (table_row 255 rows table r) (table_row 255 rows new r) (get_or c.mark.new.bad r 0)) same
    (subst (λ (k : ℕ). Decoded places (drop k places) (table_row 255 rows table r) (table_row 255 rows new r) (get_or c.mark.new.bad r 0)) e
    (decoded places lowest (table_row 255 rows table r) (table_row 255 rows new r) (λ j. cell rows c.eliminate.new.work j r) (λ j. cell rows c.mark.new.work j r) (get_or c.mark.new.bad r 0)
    (record {
      few = subst (λ (l : List ℕ). length l ≤ 64) back c.requires.few;
      some = omega arith;
      rising = subst (λ (l : List ℕ). IsStrictlyIncreasing l) back c.requires.rising;
      low = subst (λ (l : List ℕ). All (λ p. p < 255) l) back c.requires.low;
      row_long = length-table_row 255 rows table r;
      new_long = length-table_row 255 rows new r;
      new_bytes = row_bytes rows new r (λ i. omega (arith, c.type_inv.table i));
      is_left = λ j from jl. left_in_column places powers (syndromes_of (table_row 255 rows table r)) (λ k. cell rows c.eliminate.new.work k r) j is_powers
          (c.eliminate.ensures.eliminated (syndromes_of (table_row 255 rows table r)) r ge lt
          (left_given rows c.args.wanted places powers table c.args.work.now r is_powers wanted
          (subst (λ (l : List ℕ). HasLeft rows (drop c.args.wanted l) table c.args.work.now r) back (c.requires.syndromes r ge lt))) j from jl);
      marked = c.mark.ensures.run r ge lt;
      corrected = λ h. ((λ j. cell rows c.correct.new.work j r), c.correct.ensures.corrected r ge lt h);
      zero = c.correct.ensures.zero r ge lt;
      known = λ j jl out. get_or-row rows table r j jl ∙ sym (c.correct.ensures.known j r low out) ∙ sym (get_or-row rows new r j jl);
    }))) in
    record {
      corrected = λ r ge lt. (each r ge lt).corrected;
      consistent = λ r ge lt. (each r ge lt).consistent;
      inconsistent = λ r ge lt. (each r ge lt).inconsistent;
      outside = λ r low out. same_row rows table new r (λ j. c.correct.ensures.outside j r low out);
      kept = c.mark.ensures.kept;
      syndromes = λ others r low out had m ml.
          c.correct.ensures.work_outside (length others + m) r low out ∙ c.mark.ensures.outside (length others + m) r low out ∙ c.eliminate.ensures.outside (length others + m) r low out ∙ had m ml
          ∙ ap (λ (l : List ℕ). eliminated others (syndromes_of l) m) (sym (same_row rows table new r (λ j. c.correct.ensures.outside j r low out)));
    }
