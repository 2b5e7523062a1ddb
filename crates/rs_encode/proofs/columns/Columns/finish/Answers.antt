use Rattle.std.proofs.Common.{arith, ◌*◌, ◌+◌, ◌++◌, ◌%◌, ◌<◌, ◌≡◌, ℕ, List, length, ap, sym, ◌∙◌, length-append, subst}
use Rattle.std.proofs.lemmas.List.Elements.{All-append}
use Rattle.fec_spec.specs.Codeword.{row_value}
use Rattle.fec_spec.specs.Field.{field_power}
use Rattle.fec_spec.specs.Table.{table_row}
use Rattle.rs_encode.specs.Ring.{ring_row}
use Rattle.rs_encode.proofs.TableRows.{table_row-append, table_row_all}
use Rattle.erasure_law.proofs.Tables.{length-table_row}
use Rattle.rs_encode.proofs.Rings.{ring_row_whole}
use Rattle.rs_encode.proofs.columns.Columns.finish.Goals as goal

pub returns-clause-written : goal.returns-clause-written
returns-clause-written c = λ given stands r low.
    let rows : ℕ = c.args.self.rows in
    let pushed : ℕ = c.args.self.pushed in
    let parity : List ℕ = c.args.self.parity.now in
    let all : pushed ≡ 191 = c.requires in
    let room : length parity ≡ 64 * rows = c.args.self.room in
    let lg : length given ≡ 191 * rows = stands.long ∙ ap (λ n. n * rows) all in
    let whole : table_row 255 rows (given ++ parity) r ≡ table_row 191 rows given r ++ table_row 64 rows parity r = table_row-append 191 64 rows given parity r lg low in
    record {
      long = length-table_row 255 rows (given ++ parity) r;
      bytes = table_row_all (λ b. b < 256) 255 rows (given ++ parity) r (length-append given parity ∙ omega arith) low (All-append (λ b. b < 256) given parity stands.bytes stands.parity_bytes);
      zeros = λ m h.
          ap (λ l. row_value (field_power 2 m) l) (whole ∙ ap (λ l. table_row 191 rows given r ++ l) (sym (ring_row_whole rows parity r)))
          ∙ subst (λ n. row_value (field_power 2 m) (table_row n rows given r ++ ring_row ((n + 1) % 64) rows parity r) ≡ 0) all (stands.zeros r m low h);
    }
