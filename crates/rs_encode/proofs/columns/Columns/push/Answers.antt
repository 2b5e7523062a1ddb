use Rattle.std.proofs.Common.{arith, ◌*◌, ◌+◌, ◌++◌, ◌∷◌, ◌%◌, ◌<◌, ◌≡◌, [], ℕ, List, length, get_or, ap, ap₂, sym, ◌∙◌, refl, length-append}
use Rattle.std.proofs.Math.Nat.{add-mul}
use Rattle.std.proofs.lemmas.List.Elements.{All-append, All-from_get_or}
use Rattle.fec_spec.specs.Codeword.{row_value}
use Rattle.fec_spec.specs.Field.{field_power}
use Rattle.fec_spec.specs.Table.{table_row}
use Rattle.rs_encode.specs.Ring.{ring_row}
use Rattle.rs_encode.specs.declared.generator.TheConstants.{GENERATOR}
use Rattle.rs_encode.proofs.Division.{encode_step}
use Rattle.rs_encode.proofs.Roots.{generator_root}
use Rattle.rs_encode.proofs.TableRows.{table_row_pushed}
use Rattle.rs_encode.proofs.Rings.{length-ring_row}
use Rattle.rs_encode.proofs.columns.Columns.push.Goals as goal

pub returns-clause-stands : goal.returns-clause-stands
returns-clause-stands c = λ given stands.
    let rows : ℕ = c.args.self.now.rows in
    let pushed : ℕ = c.args.self.now.pushed in
    let column : List ℕ = c.args.column.now in
    let old : List ℕ = c.args.self.now.parity.now in
    let new : List ℕ = c.divide_rows.new.parity in
    let lc : length column ≡ rows = c.requires.rows in
    let next : (pushed + 1) * rows ≡ pushed * rows + 1 * rows = add-mul pushed 1 rows in
    let turn : ((pushed + 1) % 64 + 1) % 64 ≡ (pushed + 1 + 1) % 64 = omega arith in
    let first : ℕ = (pushed + 1) % 64 in
    record {
      long = length-append given column ∙ omega (arith, stands.long);
      bytes = All-append (λ b. b < 256) given column stands.bytes (All-from_get_or (λ b. b < 256) column 0 (λ i h. omega (arith, c.type_inv.column i)));
      parity_bytes = c.divide_rows.ensures.bytes;
      zeros = λ r m low h.
          let here : r < length column = omega arith in
          ap₂ (λ x n. row_value (field_power 2 m) (x ++ ring_row n rows new r)) (table_row_pushed pushed rows given column r stands.long low) (sym turn)
          ∙ ap (λ n. row_value (field_power 2 m) ((table_row pushed rows given r ++ get_or column r 0 ∷ []) ++ ring_row ((first + 1) % 64) n new r)) (sym lc)
          ∙ encode_step (field_power 2 m) (get_or column r 0) (table_row pushed rows given r) (ring_row first (length column) old r) (ring_row ((first + 1) % 64) (length column) new r) GENERATOR
          (length-ring_row first (length column) old r) refl (c.divide_rows.ensures.rows r here) (generator_root m h)
          (ap (λ n. row_value (field_power 2 m) (table_row pushed rows given r ++ ring_row first n old r)) lc ∙ stands.zeros r m low h);
    }
