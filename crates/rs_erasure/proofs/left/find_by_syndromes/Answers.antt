use Rattle.std.proofs.Common.{ℕ, List, ◌≡◌, ◌∙◌, map}
use Rattle.fec_spec.specs.Table.{table_row}
use Rattle.erasure_law.specs.Roots.{place_power, syndromes_of}
use Rattle.rs_erasure.proofs.Remains.{left_found, values_given}
use Rattle.rs_erasure.proofs.left.find_by_syndromes.Goals as goal

pub returns : goal.returns
returns c = λ r ge lt.
    let rows : ℕ = c.args.run.rows in
    let table : List ℕ = c.args.table.now in
    let powers : List ℕ = c.as_slice.result.now in
    let is_powers : powers ≡ map place_power c.args.places.now = c.as_slice.ensures.value ∙ c.powers_of-powers.ensures in
    left_found rows c.args.places.now powers table c.eliminate.new.work r is_powers
    (c.eliminate.ensures.eliminated (syndromes_of (table_row 255 rows table r)) r ge lt (values_given rows powers table c.find_syndromes.new.work r (c.find_syndromes.ensures r ge lt)))
