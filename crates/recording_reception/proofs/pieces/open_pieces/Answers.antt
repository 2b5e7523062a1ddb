use Rattle.std.proofs.Common.{arith}
use Rattle.plan.specs.PlanView.{plan_fields}
use Rattle.bb_stream_law.proofs.PlanChecks.{has_size}
use Rattle.recording_reception.proofs.pieces.open_pieces.Goals as goal

pub over-requires-clause-some : goal.over-requires-clause-some
over-requires-clause-some c = omega (arith, (has_size (plan_fields c.args.plan.now) c.in-Some.size c.args.plan.now.whole c.in-Some.is).0)
