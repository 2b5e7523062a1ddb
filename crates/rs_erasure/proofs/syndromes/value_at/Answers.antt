use Rattle.std.proofs.Common.{arith, ◌<◌, ◌^◌, ap, sym, ◌∙◌, ℕ, List, take, get_or, length, bit_xor}
use Rattle.std.proofs.lemmas.List.{take_more}
use Rattle.fec_spec.specs.Codeword.{row_value}
use Rattle.fec_spec.specs.Field.{field_product}
use Rattle.erasure_law.proofs.Sums.{row_value_none}
use Rattle.erasure_law.proofs.Rows.{row_value_push}
use Rattle.rs_erasure.proofs.syndromes.value_at.Goals as goal

pub loop-byte-init : goal.loop-byte-init
loop-byte-init c = sym (row_value_none c.args.z.0)

pub loop-byte-preserved : goal.loop-byte-preserved
loop-byte-preserved c =
    let i : ℕ = c.loop-byte.byte-index in
    let row : List ℕ = c.args.row.now in
    let z : ℕ = c.args.z.0 in
    let lt : i < length row = omega arith in
    let fits : get_or row i 0 < 2 ^ 8 = omega (arith, c.type_inv.row i) in
    c.add-value.ensures
    ∙ ap (λ t. bit_xor t (get_or row i 0)) (c.mul.ensures ∙ ap (λ t. field_product t z) c.loop-byte.invariant)
    ∙ sym (row_value_push z (get_or row i 0) (take i row) fits)
    ∙ ap (λ l. row_value z l) (sym (take_more row i 0 lt))
