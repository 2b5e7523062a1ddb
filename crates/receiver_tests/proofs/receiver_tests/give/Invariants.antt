use Rattle.std.proofs.Common.{◌≡◌, ◌≤◌, false, length}
use Rattle.plan_spec.specs.Plan.{is_baseband}
use Rattle.demux_core.specs.Carriers.{plan_of}
use Rattle.receiver_tests.proofs.receiver_tests.give.Given as goal

abbrev pub invariant-loop-word : goal.invariant-loop-word
invariant-loop-word l =
    (plan_of l.receiver ≡ plan_of l.initial.receiver) × (is_baseband (plan_of l.receiver) ≡ false) × (length (plan_of l.receiver).services ≤ 8)
