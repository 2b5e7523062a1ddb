use Rattle.std.proofs.Common.{arith, rules, ◌<◌, ◌≡◌, ℕ, List, get_or, length, slice_set, ap, ◌∙◌}
use Rattle.rs_erasure.proofs.Steps.{clear_step}
use Rattle.rs_erasure.proofs.row.cleared.Goals as goal

pub loop-place-preserved : goal.loop-place-preserved
loop-place-preserved c =
    let n : ℕ = c.loop-place.place-index in
    let unknown : List ℕ = c.args.unknown.now in
    let lt : n < length unknown = omega arith in
    let low : get_or unknown n 0 < 255 = c.requires n 0 lt in
    let long : length c.loop-place.clear ≡ 255 = c.loop-place.invariant.long in
    record {
      each = λ i h. ap (λ p. get_or (slice_set c.loop-place.clear p 0) i 0) c.from.ensures ∙ clear_step c.args.row.now c.loop-place.clear unknown n i lt (omega arith) (c.loop-place.invariant.each i h);
      long = search rules;
    }
