-- The loop skips one optional header in each turn.
use Rattle.std.proofs.Common.{◌≡◌, ℕ, ◌*◌, true, ◌∙◌, sym, arith}
use Rattle.ts_spec.specs.Chain.{chain_end, header_size, is_optional}
use Rattle.ule_extension.proofs.Steps.{skipped, skipped_none}
use Rattle.ule_extension.proofs.chain.follow.Goals as goal

pub returns-then-bytes-at : goal.returns-then-bytes-at
returns-then-bytes-at c =
    let optional : is_optional c.loop-size.last_type ≡ true = sym c.skips.ensures.optional ∙ c.loop-size-test.true in
    record {
      end = skipped_none (chain_end c.args.first_type c.args.bytes.now) c.loop-size.last_type c.loop-size.at c.args.bytes.now optional
          (omega arith) c.loop-size.invariant.same_end;
      within = tt;
    }

pub loop-size-preserved : goal.loop-size-preserved
loop-size-preserved c =
    let optional : is_optional c.loop-size.last_type ≡ true = sym c.skips.ensures.optional ∙ c.loop-size-test.true in
    let size : ℕ = c.from-size.result * 2 in
    let size_is : header_size c.loop-size.last_type ≡ size = omega arith in
    record {
      within = omega arith;
      same_end = skipped (chain_end c.args.first_type c.args.bytes.now) c.loop-size.last_type c.loop-size.at size c.from.result c.from-in-loop-size.result
          c.args.bytes.now optional size_is (omega arith) c.loop-size.invariant.same_end c.from.ensures c.from-in-loop-size.ensures;
    }
