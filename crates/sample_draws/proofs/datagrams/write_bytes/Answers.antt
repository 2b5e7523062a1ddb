use Rattle.std.proofs.Common.{◌+◌, ◌%◌, length, arith}
use Rattle.std.proofs.lemmas.List.FromFn.{fill_by_all}
use Rattle.sample_draws.proofs.datagrams.write_bytes.Goals as goal

pub returns : goal.returns
returns c = record {
  written =
      fill_by_all (λ j. (c.args.i + j) % 256) c.loop-j.into (length c.args.into.now) 0 c.loop-j.invariant.long
      (λ k lt. c.loop-j.invariant.each k (omega (arith, lt, c.loop-j-test.false)));
}
