-- The receiver goes on, and what is left bounds what was taken.
use Rattle.std.proofs.Common.{◌≡◌, ◌≤◌, ◌+◌, ◌*◌, true, List, [], ℕ, length}
use Rattle.wire_spec.specs.Lists.{joined}
use Rattle.plan_spec.specs.Given.{sample_plan}
use Rattle.sample_command.specs.Taking.{ArePieces, HasTaken, IsTaking}
use Rattle.sample_command.proofs.losses.take_packets.Given as goal

abbrev pub invariant-packets : goal.invariant-packets
invariant-packets l = record {
  is_open : l.receiver.is_open ≡ true;
  plan : l.receiver.plan ≡ sample_plan;
  given : 196 * l.receiver.stream.records + length l.left ≤ length l.stream;
  counted : 196 * l.dropped + length l.left ≤ length l.stream;
  taken : (number : ℕ) (pieces : List (List ℕ)) → ArePieces pieces → l.stream ≡ joined pieces → HasTaken number [] l.fn.draws 0 l.fn.receiver l.fn.delivered
      → IsTaking number pieces l.left l.draws l.dropped l.receiver l.delivered;
}

abbrev pub decreases-packets : goal.decreases-packets
decreases-packets l = length l.left
