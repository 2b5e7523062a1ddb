use Rattle.std.proofs.Common.{◌∙◌}
use Rattle.ts_mux.proofs.Serviced.{least_of_sndus, least_of_sections, packets_of_sndus, packets_of_sections}
use Rattle.ts_mux.proofs.service_packets.packets_of_datagrams.Goals as goal

pub new-packets-requires-clause-least : goal.new-packets-requires-clause-least
new-packets-requires-clause-least c =
    least_of_sndus c.args.service.now.unicast c.args.datagrams.now c.args.service.now.kind c.args.pid c.args.counter c.in-Ule.pid c.in-Ule.address c.in-Ule.packing c.in-Ule.is

pub new-packets-requires-in-Mpe-clause-least : goal.new-packets-requires-in-Mpe-clause-least
new-packets-requires-in-Mpe-clause-least c = least_of_sections c.args.service.now.unicast c.args.datagrams.now c.args.service.now.kind c.args.pid c.args.counter c.in-Mpe.pid c.in-Mpe.is

pub returns-in-Ule-clause-written : goal.returns-in-Ule-clause-written
returns-in-Ule-clause-written c = λ schedule.
    c.new-packets.ensures.written
    ∙ packets_of_sndus c.args.service.now.unicast c.args.datagrams.now c.args.service.now.kind c.args.pid c.args.counter c.in-Ule.pid c.in-Ule.address c.in-Ule.packing c.in-Ule.is schedule

pub returns-in-Mpe-clause-written : goal.returns-in-Mpe-clause-written
returns-in-Mpe-clause-written c = λ schedule.
    c.new-packets-in-Mpe.ensures.written
    ∙ packets_of_sections c.args.service.now.unicast c.args.datagrams.now c.args.service.now.kind c.args.pid c.args.counter c.in-Mpe.pid c.in-Mpe.is schedule
