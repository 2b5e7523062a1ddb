use Rattle.std.proofs.Common.{Option, Some, subst, ◌∙◌}
use Rattle.plan_spec.specs.Plan.{IntFields}
use Rattle.ts_mux.specs.SectionPackets.{OnWay}
use Rattle.ts_mux.specs.IntPackets.{IsSignalling}
use Rattle.ts_mux.proofs.int_packets.IntPackets.counter.Goals as goal

pub returns-in-Some-clause-read : goal.returns-in-Some-clause-read
returns-in-Some-clause-read c = λ part place int is at.
    let there : IsSignalling part (Some int) place (Some c.in-Some.packets)
    = subst (λ (o : Option OnWay). IsSignalling part (Some int) place o) c.in-Some.is
    (subst (λ (t : Option IntFields). IsSignalling part t place c.args.self.now.packets) is at.packets) in
    c.counter.ensures.read ∙ there.counter

pub returns-in-None-clause-read : goal.returns-in-None-clause-read
returns-in-None-clause-read c = λ part place int is at.
    absurd (subst (λ (o : Option OnWay). IsSignalling part (Some int) place o) c.in-None.is
    (subst (λ (t : Option IntFields). IsSignalling part t place c.args.self.now.packets) is at.packets))
