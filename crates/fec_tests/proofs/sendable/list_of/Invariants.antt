use Rattle.std.proofs.Common.{◌≡◌, length}
use Rattle.fec_sent_law.specs.Frames.{AreSendable}
use Rattle.fec_tests.proofs.sendable.list_of.Given as goal

abbrev pub invariant-loop-number : goal.invariant-loop-number
invariant-loop-number l = record { sendable : AreSendable l.list; count : length l.list ≡ l.number }
