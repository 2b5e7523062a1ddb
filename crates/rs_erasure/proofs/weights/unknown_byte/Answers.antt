use Rattle.std.proofs.Common.{arith, ◌≡◌, ◌<◌, ◌≤◌, ◌^◌, ap, ap₂, sym, subst, ◌∙◌, ℕ, List, length, get_or, map}
use Rattle.fec_spec.specs.Field.{field_product}
use Rattle.erasure_law.specs.Roots.{combined, place_power, root_polynomial, without}
use Rattle.rs_erasure.proofs.Filling.{length_others, others_some, divided_back}
use Rattle.rs_erasure.proofs.weights.unknown_byte.Goals as goal

pub combine-sum-requires : goal.combine-sum-requires
combine-sum-requires c =
    let e : c.as_slice.result.now ≡ root_polynomial (map place_power (without c.args.place c.args.unknown.now)) = c.as_slice.ensures.value ∙ c.others_polynomial-polynomial.ensures in
    subst (λ (l : List ℕ). length l ≤ 64) (sym e) (length_others c.args.place c.args.unknown.now c.requires.few c.requires.among)

pub inverse-requires : goal.inverse-requires
inverse-requires c = λ e. others_some c.args.place c.args.unknown.now c.requires.all_low c.requires.low (sym c.others_value-value.ensures ∙ e)

pub returns : goal.returns
returns c =
    let e : c.as_slice.result.now ≡ root_polynomial (map place_power (without c.args.place c.args.unknown.now)) = c.as_slice.ensures.value ∙ c.others_polynomial-polynomial.ensures in
    let fits : c.combine-sum.result.0 < 2 ^ 8 = omega arith in
    ap₂ (λ x y. field_product x y) c.mul.ensures (sym c.others_value-value.ensures)
    ∙ divided_back c.combine-sum.result.0 c.others_value-value.result.0 c.inverse.result.0 fits c.inverse.ensures
    ∙ c.combine-sum.ensures ∙ ap (λ p. combined p (λ m. get_or c.args.syndromes.now m 0) 0) e
