use Rattle.std.proofs.Common.{◌∙◌}
use Rattle.rs_erasure.proofs.correction.correct.Goals as goal

pub loop-at-preserved : goal.loop-at-preserved
loop-at-preserved c =
    let is = c.loop-at.invariant in
    let step = c.correct_column.ensures in
    record {
      corrected = λ r ge lt h. step.corrected r ge lt (is.corrected r ge lt h);
      zero = λ r ge lt h. let before = is.zero r ge lt h in let now = step.zero r ge lt before.0 in (now.0, now.1 ∙ before.1);
      known = λ j r low out. step.known j r low out ∙ is.known j r low out;
      outside = λ j r low out. step.outside j r low out ∙ is.outside j r low out;
      work_outside = λ j r low out. step.work_outside j r low out ∙ is.work_outside j r low out;
    }
