use Rattle.std.proofs.Common.{arith, ◌∙◌, ap₂, refl, bit_xor, ℕ, List}
use Rattle.fec_spec.specs.Field.{field_product}
use Rattle.rs_erasure.specs.Columns.{cell}
use Rattle.rs_erasure.proofs.Changes.{part_changed, between_cell}
use Rattle.rs_erasure.proofs.columns.add_to_other.Goals as goal

pub returns : goal.returns
returns c =
    let r = c.args.run in
    let target : List ℕ = c.args.target.now in
    let source : List ℕ = c.args.source.now in
    part_changed r.rows r.from r.to c.args.into _ _ (λ i. bit_xor (cell r.rows target c.args.into i) (field_product c.args.factor.0 (cell r.rows source c.args.column i))) target c.mul_add.new.target
    c.args.run.order c.args.run.within c.requires.room refl (omega arith) (omega arith)
    (λ i lt. c.mul_add.ensures i (omega arith) ∙ ap₂ (λ s t. bit_xor s (field_product c.args.factor.0 t)) (between_cell r.rows r.from r.to c.args.into target i lt) (between_cell r.rows r.from r.to c.args.column source i lt))
