use Rattle.std.proofs.Common.{arith, ◌*◌, ◌+◌, ◌-◌, ◌≤◌, ◌≡◌, inl, inr, ℕ, List, length, get_or, ap, subst, ◌∙◌, bit_xor}
use Rattle.std.proofs.Math.Nat.{add-mul, mul-le-mul_right}
use Rattle.std.proofs.lemmas.Bool.{cases_lt}
use borrow.Rule.Slice.PartMut.{put_mid}
use Rattle.fec_spec.specs.Field.{field_product}
use Rattle.rs_encode.proofs.TableRows.{place_below}
use Rattle.rs_encode.proofs.Parts.{put_mid-before, put_mid-within, put_mid-behind, mid_of-at}
use Rattle.rs_encode.proofs.columns.add_multiples.Goals as goal

pub loop-k-preserved : goal.loop-k-preserved
loop-k-preserved c =
    let n : ℕ = c.loop-k.k in
    let factors : List ℕ = c.args.factors.now in
    let coefficients : List ℕ = c.args.coefficients.now in
    let rows : ℕ = length factors in
    let now : List ℕ = c.loop-k.columns in
    let ys : List ℕ = c.mul_add.new.target in
    let a : ℕ = n * rows in
    let w : ℕ = a + rows - a in
    let width : w ≡ rows = omega arith in
    let next : (n + 1) * rows ≡ n * rows + 1 * rows = add-mul n 1 rows in
    let room : (n + 1) * rows ≤ length coefficients * rows = mul-le-mul_right rows (omega arith) in
    let fits : a + w ≤ length now = omega arith in
    let long : length ys ≡ w = omega arith in
    record {
      done = λ k r h low. elim (cases_lt k n) [
        | inl before ↦ put_mid-before a w now ys (k * rows + r) (omega arith) (place_below n rows k r before low) ∙ c.loop-k.invariant.done k r before low
        | inr up ↦
            let here : n ≡ k = omega arith in
            subst (λ j. get_or (put_mid a w now ys) (j * rows + r) 0 ≡ bit_xor (get_or c.args.columns.now (j * rows + r) 0) (field_product (get_or coefficients j 0) (get_or factors r 0))) here
            (put_mid-within a w now ys r (omega arith) (omega arith) ∙ c.mul_add.ensures r low
            ∙ ap (λ t. bit_xor t (field_product (get_or coefficients n 0) (get_or factors r 0))) (mid_of-at a w now r (omega arith) ∙ c.loop-k.invariant.rest (a + r) (omega arith)))
      ];
      rest = λ i h. put_mid-behind a w now ys i fits long (omega arith) ∙ c.loop-k.invariant.rest i (omega arith);
    }
