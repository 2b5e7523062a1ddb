use Rattle.std.proofs.Common.{arith, rules, ◌≡◌, ◌<◌, ◌≢◌, ◌^◌, ap, ap₂, ◌∙◌, ℕ, List, length, get_or, bit_xor, refl, below_more}
use Rattle.std.specs.Int.Bits.{xor_lt}
use Rattle.std.proofs.lemmas.List.{get_or-set_other, get_or-set_same}
use Rattle.std.proofs.lemmas.List.Elements.{All-set}
use Rattle.fec_spec.specs.Field.{field_product}
use Rattle.rs_encode.proofs.Division.{zeros_small}
use Rattle.rs_encode.proofs.row.next_state.Goals as goal

pub loop-k-init : goal.loop-k-init
loop-k-init c = record { each = λ j h. absurd (omega arith); long = refl; bytes = zeros_small 64; factor = refl }

pub loop-k-preserved : goal.loop-k-preserved
loop-k-preserved c =
    let n : ℕ = c.loop-k.k in
    let next : List ℕ = c.loop-k.next in
    let v : ℕ = bit_xor c.mul.result.0 c.byte_behind.result in
    let long : length next ≡ 64 = c.loop-k.invariant.long in
    let lt : n < 64 = omega arith in
    let f1 : c.mul.result.0 < 2 ^ 8 = omega arith in
    let f2 : c.byte_behind.result < 2 ^ 8 = omega arith in
    let fits : v < 256 = xor_lt 8 c.mul.result.0 c.byte_behind.result f1 f2 in
    record {
      each = below_more _ _
          (λ j h. let ne : j ≢ n = omega arith in get_or-set_other next n j v 0 ne ∙ c.loop-k.invariant.each j h)
          (get_or-set_same next n v 0 (omega arith)
          ∙ ap₂ (λ x y. bit_xor x y) (c.mul.ensures ∙ ap (λ t. field_product t (get_or c.args.generator.now n 0)) c.loop-k.invariant.factor) c.byte_behind.ensures);
      long = search rules;
      bytes = All-set (λ b. b < 256) next n v fits c.loop-k.invariant.bytes;
      factor = c.loop-k.invariant.factor;
    }
