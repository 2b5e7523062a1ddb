use Rattle.std.proofs.Common.{arith, ◌+◌, ◌++◌, ◌%◌, ◌<◌, ◌≡◌, [], ℕ, List, length, replicate, ap, ap₂, sym, ◌∙◌, subst, lit<}
use Rattle.std.specs.List.{All}
use Rattle.std.proofs.lemmas.List.Elements.{All-nil, All-replicate}
use Rattle.fec_spec.specs.Codeword.{row_value}
use Rattle.fec_spec.specs.Field.{field_power}
use Rattle.rs_encode.specs.Ring.{ring_row}
use Rattle.rs_encode.proofs.Division.{value_zeros}
use Rattle.erasure_law.proofs.Tables.{table_row_none}
use Rattle.rs_encode.proofs.Rings.{ring_row_zeros}
use Rattle.rs_encode.proofs.columns.Columns.over.Goals as goal

pub returns-clause-stands : goal.returns-clause-stands
returns-clause-stands c =
    let rows : ℕ = c.args.rows in
    let new : List ℕ = c.fill.new.self in
    let zeros : new ≡ replicate (length c.args.parity.now) 0 = c.fill.ensures.after (λ y h. h) in
    record {
      long = omega arith;
      bytes = All-nil (λ b. b < 256);
      parity_bytes = subst (λ l. All (λ b. b < 256) l) (sym zeros) (All-replicate (λ b. b < 256) (length c.args.parity.now) 0 (lit< tt));
      zeros = λ r m low h.
          ap₂ (λ x y. row_value (field_power 2 m) (x ++ y)) (table_row_none rows [] r)
          (ap (λ l. ring_row ((0 + 1) % 64) rows l r) zeros ∙ ring_row_zeros ((0 + 1) % 64) rows (length c.args.parity.now) r)
          ∙ value_zeros (field_power 2 m) 64;
    }
