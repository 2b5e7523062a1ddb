use Rattle.std.proofs.Common.{◌≡◌, ◌≤◌, true, length}
use Rattle.plan_spec.specs.Plan.{is_baseband}
use Rattle.demux_core.specs.Carriers.{plan_of}
use Rattle.receiver_tests.proofs.bb_receiver_tests.give.Given as goal

abbrev pub invariant-loop-name : goal.invariant-loop-name
invariant-loop-name l =
    (plan_of l.receiver ≡ plan_of l.initial.receiver) × (is_baseband (plan_of l.receiver) ≡ true) × (length (plan_of l.receiver).services ≤ 8)
