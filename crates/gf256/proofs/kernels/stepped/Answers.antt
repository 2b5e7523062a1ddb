use Rattle.std.proofs.Common.{ℕ, List, ap, ◌∙◌, bit_xor}
use Rattle.std.specs.Simd.Lanes.{zip2, chunk}
use Rattle.fec_spec.specs.Field.{field_product}
use Rattle.field_law.proofs.Field.{product_comm}
use Rattle.gf256.proofs.Places.{zip2-map_left}
use Rattle.gf256.proofs.kernels.stepped.Goals as goal

pub returns : goal.returns
returns c =
    let root : ℕ = c.args.root.now.value.0 in
    let column : List ℕ = chunk c.args.at 16 c.args.column.now in
    ap (λ t. zip2 bit_xor t column) c.times.ensures
    ∙ zip2-map_left bit_xor (field_product root) c.args.value column
    ∙ (λ i. zip2 (λ t s. bit_xor (product_comm root t i) s) c.args.value column)
