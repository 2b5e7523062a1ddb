use Rattle.std.proofs.Common.{arith, ◌*◌, ◌+◌, ◌-◌, ◌%◌, ◌++◌, ◌<◌, ◌≡◌, ℕ, List, length, get_or, ap, sym, subst, ◌∙◌, bit_xor, take, drop, length-take, length-drop}
use Rattle.std.proofs.Math.Nat.{add-mul}
use Rattle.std.proofs.lemmas.List.{get_or-take, get_or-drop}
use Rattle.std.proofs.lemmas.List.Elements.{All-from_get_or}
use Rattle.fec_spec.specs.Field.{field_product}
use Rattle.rs_encode.specs.Division.{IsNext}
use Rattle.rs_encode.specs.Ring.{ring_row}
use Rattle.rs_encode.proofs.Rounds.{IsStep, step_is, is_added}
use Rattle.rs_encode.proofs.columns.divide_rows.Goals as goal

pub add_multiples-requires : goal.add_multiples-requires
add_multiples-requires c =
    let first : ℕ = c.args.first in
    let rows : ℕ = length c.args.column.now in
    let generator : List ℕ = c.args.generator.now in
    let behind : List ℕ = c.split_at_mut-factors.result.1.now in
    let lg : length generator ≡ 64 = c.told-generator in
    let lt : length (take (63 - first) generator) ≡ 63 - first = omega (arith, length-take (63 - first) generator) in
    let lf : length c.mul_add.new.target ≡ rows = c.mul_add.auto.target ∙ c.split_at_mut-factors.ensures.front_len in
    let parts : (first + (1 + (63 - first))) * rows ≡ first * rows + (1 + (63 - first)) * rows = add-mul first (1 + (63 - first)) rows in
    let parts2 : (1 + (63 - first)) * rows ≡ 1 * rows + (63 - first) * rows = add-mul 1 (63 - first) rows in
    let whole : first + (1 + (63 - first)) ≡ 64 = omega arith in
    let all : 64 * rows ≡ first * rows + (1 * rows + (63 - first) * rows) = ap (λ t. t * rows) (sym whole) ∙ parts ∙ ap (λ t. first * rows + t) parts2 in
    let le : length behind ≡ (63 - first) * rows = omega arith in
    le ∙ ap (λ t. t * rows) (sym lt) ∙ ap (λ t. length (take (63 - first) generator) * t) (sym lf)

pub returns : goal.returns
returns c =
    let first : ℕ = c.args.first in
    let column : List ℕ = c.args.column.now in
    let rows : ℕ = length column in
    let generator : List ℕ = c.args.generator.now in
    let b : List ℕ = c.split_at_mut-before.result.0.now in
    let f : List ℕ = c.split_at_mut-factors.result.0.now in
    let e : List ℕ = c.split_at_mut-factors.result.1.now in
    let factors : List ℕ = c.mul_add.new.target in
    let b' : List ℕ = c.add_multiples-2.new.columns in
    let f' : List ℕ = c.mul_add-2.new.target in
    let e' : List ℕ = c.add_multiples.new.columns in
    let parts : c.args.parity.now ≡ b ++ (f ++ e) = c.split_at_mut-before.ensures.value ∙ ap (λ l. b ++ l) c.split_at_mut-factors.ensures.value in
    let lf : length factors ≡ rows = c.mul_add.auto.target ∙ c.split_at_mut-factors.ensures.front_len in
    let lg : length generator ≡ 64 = c.told-generator in
    let step : IsStep first rows generator column b f e factors b' f' e' = record {
      first_fits = c.requires.first;
      long_b = c.split_at_mut-before.ensures.front_len;
      long_f = c.split_at_mut-factors.ensures.front_len;
      long_b' = c.add_multiples-2.auto.columns ∙ c.split_at_mut-before.ensures.front_len;
      long_f' = c.mul_add-2.auto.target ∙ c.horner_step.auto.state ∙ lf;
      small = λ r. omega (arith, c.type_inv.column r);
      factor = λ r h. c.mul_add.ensures r h;
      behind = is_added rows 0 (63 - first) generator (take (63 - first) generator) factors e e' lf (omega (arith, length-take (63 - first) generator)) (λ k h. let k0 : 0 + k ≡ k = omega arith in get_or-take (63 - first) generator k 0 h ∙ ap (λ i. get_or generator i 0) (sym k0)) c.add_multiples.ensures;
      before = is_added rows (63 - first) first generator (take (63 - (63 - first)) (drop (63 - first) generator)) factors b b' lf
          (omega (arith, length-take (63 - (63 - first)) (drop (63 - first) generator), length-drop (63 - first) generator))
          (λ k h. get_or-take (63 - (63 - first)) (drop (63 - first) generator) k 0 (omega arith) ∙ get_or-drop (63 - first) generator k 0) c.add_multiples-2.ensures;
      last = λ r h. c.mul_add-2.ensures r h ∙ ap (λ t. bit_xor t (field_product 1 (get_or column r 0))) (c.horner_step.ensures r h);
      bytes = λ i. omega (arith, c.type_inv.parity i);
    } in
    record {
      bytes = All-from_get_or (λ x. x < 256) (b' ++ (f' ++ e')) 0 (λ i h. omega (arith, c.type_inv.parity i));
      rows = λ r low. subst (λ l. IsNext generator (ring_row first rows l r) (get_or column r 0) (ring_row ((first + 1) % 64) rows (b' ++ (f' ++ e')) r)) (sym parts)
          (step_is first rows generator column b f e factors b' f' e' step r low);
    }
