use Rattle.std.proofs.Common.{arith, ◌≡◌, ◌/◌, ap, ap₂, sym, ◌∙◌, lit<}
use Rattle.fec_spec.specs.Field.{field_product, field_power}
use Rattle.field_law.proofs.Field.{power_none, power_fits, product_one_left, product_one_right}
use Rattle.field_law.proofs.Powers.{power_step}
use Rattle.gf256.proofs.element.Gf.power.Goals as goal

pub loop-rest-init : goal.loop-rest-init
loop-rest-init c = record { whole = product_one_left (field_power c.args.self.0 c.args.exponent) (power_fits c.args.self.0 c.args.exponent); base = omega arith; done = lit< tt }

pub loop-rest-preserved : goal.loop-rest-preserved
loop-rest-preserved c = record {
  whole =
      ap₂ (λ x y. field_product x (field_power y (c.loop-rest.rest / 2))) c.multiplied-done.ensures c.mul-base.ensures
      ∙ power_step c.loop-rest.done.0 c.loop-rest.base.0 c.loop-rest.rest c.loop-rest.invariant.base ∙ c.loop-rest.invariant.whole;
  base = omega arith;
  done = omega arith;
}

pub returns : goal.returns
returns c =
    let e : c.loop-rest.rest ≡ 0 = omega arith in
    sym (product_one_right c.loop-rest.done.0 c.loop-rest.invariant.done) ∙ ap (λ t. field_product c.loop-rest.done.0 t) (sym (power_none c.loop-rest.base.0))
    ∙ ap (λ n. field_product c.loop-rest.done.0 (field_power c.loop-rest.base.0 n)) (sym e) ∙ c.loop-rest.invariant.whole
