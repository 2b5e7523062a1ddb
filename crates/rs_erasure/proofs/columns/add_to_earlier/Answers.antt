use Rattle.std.proofs.Common.{arith, ◌≡◌, ◌≤◌, ◌+◌, ◌*◌, ◌∙◌, ap₂, refl, length, bit_xor, ℕ, List}
use Rattle.fec_spec.specs.Field.{field_product}
use Rattle.rs_erasure.specs.Columns.{cell}
use Rattle.rs_erasure.proofs.Changes.{earlier_changed, between_cell, between_back, cell_front, column_below}
use Rattle.rs_erasure.proofs.columns.add_to_earlier.Goals as goal

pub returns : goal.returns
returns c =
    let r = c.args.run in
    let work : List ℕ = c.args.work.now in
    let before : List ℕ = c.split_at_mut-before.result.0.now in
    let after : List ℕ = c.split_at_mut-before.result.1.now in
    let whole = c.split_at_mut-before.ensures.value in
    let front : length before ≡ c.args.column * r.rows = c.split_at_mut-before.ensures.front_len in
    let low : c.args.into * r.rows + r.rows ≤ c.args.column * r.rows = column_below c.args.into c.args.column r.rows r.rows c.requires.earlier (omega arith) in
    earlier_changed r.rows r.from r.to c.args.into _ _ (λ i. bit_xor (cell r.rows work c.args.into i) (field_product c.args.factor.0 (cell r.rows work c.args.column i))) work before after c.mul_add.new.target
    c.args.run.order c.args.run.within (omega arith) whole refl (omega arith) (omega arith)
    (λ i lt. c.mul_add.ensures i (omega arith)
    ∙ ap₂ (λ s t. bit_xor s (field_product c.args.factor.0 t))
    (between_cell r.rows r.from r.to c.args.into before i lt ∙ cell_front r.rows c.args.into (r.from + i) work before after whole (omega arith))
    (between_back r.rows r.from r.to c.args.column work before after i whole front lt))
