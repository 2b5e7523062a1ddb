use Rattle.std.proofs.Common.{◌≡◌, ◌-◌, ◌≤◌, length, drop}
use Rattle.ts_spec.specs.Chain.{chain_end}
use Rattle.ule_extension.proofs.chain.follow.Given as goal

-- what is left of the chain has the whole chain's end
abbrev pub invariant-loop-size : goal.invariant-loop-size
invariant-loop-size l = record {
  within : l.at ≤ length l.bytes;
  same_end : chain_end l.last_type (drop l.at l.bytes) ≡ chain_end l.fn.first_type l.bytes;
}

abbrev pub decreases-loop-size : goal.decreases-loop-size
decreases-loop-size l = length l.bytes - l.at
