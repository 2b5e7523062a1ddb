use Rattle.std.proofs.Common.{arith, ap, length}
use Rattle.rs_erasure.proofs.Steps.{length-without_drop}
use Rattle.rs_erasure.proofs.weights.others_polynomial.Goals as goal

pub with_root-polynomial-requires-clause-room : goal.with_root-polynomial-requires-clause-room
with_root-polynomial-requires-clause-room c =
    omega (arith, ap (λ l. length l) c.loop-left.invariant.is, length-without_drop c.args.place c.loop-left.left c.args.unknown.now)
