use Rattle.std.proofs.Common.{arith}
use Rattle.frame_walk.proofs.walk.first_run.Goals as goal

pub returns-then-has_all_data : goal.returns-then-has_all_data
returns-then-has_all_data g c = record {
  run = λ some. record {
    order = omega arith;
    within = omega arith;
    known = λ place from below. c.has_all_data.ensures c.if-has_all_data.true place (omega (arith, below, c.requires.limit));
    over = λ below. absurd (omega (arith, below));
  };
}
