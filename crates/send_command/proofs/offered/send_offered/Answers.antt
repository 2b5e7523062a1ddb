use Rattle.std.proofs.Common.{refl}
use Rattle.plan.specs.PlanView.{plan_fields}
use Rattle.send_command.proofs.Written.{writes_all, writes_unflushed}
use Rattle.send_command.proofs.offered.send_offered.Goals as goal

pub returns-then-is_err-clause-written : goal.returns-then-is_err-clause-written
returns-then-is_err-clause-written g c = λ gives stands.
    writes_unflushed (plan_fields c.args.plan.now) gives c.in-Ok.sent (g.O.Sink.told c.args.output.now).held (g.O.Sink.told c.stream.new.sink).held (g.O.Sink.told c.flush.new.self).held
    (c.in-Ok.ensures.written gives stands) c.flush.ensures.kept

pub returns-clause-written : goal.returns-clause-written
returns-clause-written g c = λ gives stands.
    writes_all (plan_fields c.args.plan.now) gives c.args.offered.now c.in-Ok.sent
    (record { offered = c.in-Ok.sent.datagrams; not_ip = c.args.offered.now.not_ip; unrouted = c.args.offered.now.unrouted; too_long = c.args.offered.now.too_long })
    (g.O.Sink.told c.args.output.now).held (g.O.Sink.told c.stream.new.sink).held (g.O.Sink.told c.flush.new.self).held
    stands (c.in-Ok.ensures.written gives stands) c.flush.ensures.kept c.in-Ok.ensures.datagrams refl refl refl
