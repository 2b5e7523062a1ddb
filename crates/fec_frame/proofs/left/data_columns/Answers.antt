use Rattle.std.proofs.Common.{arith, ℕ, List, suc, ◌≡◌, ◌<◌, ◌-◌, ◌||◌, Bool, ◌∙◌, ap, ap₂, drop, length, get_or}
use Rattle.std.proofs.Math.Seq.{drop-cons}
use Rattle.std.proofs.lemmas.Bool.{ne_eqb}
use Rattle.std.proofs.lemmas.List.{drop_all}
use Rattle.fec_spec.specs.Row.{is_among}
use Rattle.fec_frame.proofs.left.data_columns.Goals as goal

pub loop-count-init : goal.loop-count-init
loop-count-init c = record {
  most = omega arith;
  others = λ j low. ap (λ (l : List ℕ). is_among j l) (drop_all (length c.args.unknown.now) c.args.unknown.now (omega arith));
}

pub loop-count-preserved : goal.loop-count-preserved
loop-count-preserved c =
    let unknown : List ℕ = c.args.unknown.now in
    let n : ℕ = c.loop-count.count - 1 in
    let e : suc n ≡ c.loop-count.count = omega arith in
    let lt : n < length unknown = omega (arith, c.loop-count.invariant.most) in
    record {
      most = omega (arith, c.loop-count.invariant.most);
      others = λ j low.
          ap (λ (l : List ℕ). is_among j l) (drop-cons unknown n 0 lt)
          ∙ ap₂ (λ (a b : Bool). a || b) (ne_eqb j (get_or unknown n 0) (λ same. omega (arith, same, low, c.loop-count-test.true)))
          (ap (λ (k : ℕ). is_among j (drop k unknown)) e ∙ c.loop-count.invariant.others j low);
    }
