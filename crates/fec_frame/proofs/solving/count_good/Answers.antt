use Rattle.std.proofs.Common.{◌≡◌, ◌+◌, ◌-◌, ℕ, cond, ap, arith}
use Rattle.std.specs.Prelude.{count_by}
use Rattle.std.specs.List.{range_with_len}
use Rattle.fec_frame.specs.Runs.{is_good}
use Rattle.fec_frame.proofs.Counting.{count_more, one_most}
use Rattle.fec_frame.proofs.solving.count_good.Goals as goal

pub loop-r-preserved : goal.loop-r-preserved
loop-r-preserved c =
    let size : c.loop-r.r + 1 - c.args.from ≡ c.loop-r.r - c.args.from + 1 = omega arith in
    let at : c.args.from + (c.loop-r.r - c.args.from) ≡ c.loop-r.r = omega arith in
    record {
      count = omega (
        arith,
        c.loop-r.invariant.count,
        count_more (is_good c.args.bad.now) (c.loop-r.r - c.args.from) c.args.from,
        ap {B = ℕ} (λ (k : ℕ). count_by (is_good c.args.bad.now) (range_with_len c.args.from k)) size,
        c.one_of-count.ensures,
        ap {B = ℕ} (λ (i : ℕ). cond (is_good c.args.bad.now i) 1 0) at,
      );
      few = omega (arith, c.loop-r.invariant.few, c.one_of-count.ensures, one_most (is_good c.args.bad.now c.loop-r.r));
    }
