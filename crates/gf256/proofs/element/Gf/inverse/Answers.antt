use Rattle.std.proofs.Common.{arith, ◌<◌, ◌^◌, ap, ◌∙◌}
use Rattle.fec_spec.specs.Field.{field_product}
use Rattle.field_law.proofs.Powers.{power_254}
use Rattle.gf256.proofs.element.Gf.inverse.Goals as goal

pub returns : goal.returns
returns c =
    let fits : c.args.self.0 < 2 ^ 8 = omega arith in
    ap (λ t. field_product c.args.self.0 t) c.power.ensures ∙ power_254 c.args.self.0 fits c.requires
