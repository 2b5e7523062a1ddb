use Rattle.plan.specs.PlanView.{plan_fields}
use Rattle.send_command.proofs.Standing.{sends_all, sends_to_fault, sends_front}
use Rattle.send_command.proofs.command.write_stream.Goals as goal

pub returns-in-Err-Sink-clause-sent : goal.returns-in-Err-Sink-clause-sent
returns-in-Err-Sink-clause-sent g c = λ bytes gathered.
    sends_front (plan_fields c.args.plan.now) bytes c.args.offered.now c.args.found (g.O.Sink.told c.args.output.now).held (g.O.Sink.told c.send_offered.new.output).held
    gathered (λ gives stands. c.in-Err-Sink.ensures.written gives stands)

pub returns-in-Some-clause-sent : goal.returns-in-Some-clause-sent
returns-in-Some-clause-sent g c = λ bytes gathered.
    sends_to_fault (plan_fields c.args.plan.now) bytes c.args.offered.now c.in-Ok.tally c.in-Some.field-0 (g.O.Sink.told c.args.output.now).held (g.O.Sink.told c.send_offered.new.output).held
    (rw c.in-Some.is at gathered) (λ gives stands. c.in-Ok.ensures.written gives stands)

pub returns-in-None-clause-sent : goal.returns-in-None-clause-sent
returns-in-None-clause-sent g c = λ bytes gathered.
    sends_all (plan_fields c.args.plan.now) bytes c.args.offered.now c.in-Ok.tally (g.O.Sink.told c.args.output.now).held (g.O.Sink.told c.send_offered.new.output).held
    (rw c.in-None.is at gathered) (λ gives stands. c.in-Ok.ensures.written gives stands)
