use Rattle.std.proofs.Common.{ap, ◌∙◌, bit_xor}
use Rattle.std.specs.Simd.Lanes.{zip2, chunk, put_chunk}
use Rattle.fec_spec.specs.Field.{field_product}
use Rattle.gf256.proofs.Places.{zip2-map_right}
use Rattle.gf256.proofs.kernels.add_lanes.Goals as goal

pub returns : goal.returns
returns c =
    let at = c.args.at in
    let target = chunk at 16 c.args.target.now in
    let source = chunk at 16 c.args.source.now in
    ap (λ t. put_chunk at c.args.target.now t)
    (ap (λ t. zip2 bit_xor target t) c.times.ensures ∙ zip2-map_right bit_xor (field_product c.args.factor.now.value.0) target source)
