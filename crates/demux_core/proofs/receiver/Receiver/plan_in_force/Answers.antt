use Rattle.std.proofs.Common.{◌∙◌, sym, subst}
use Rattle.demux_core.specs.Carriers.{HasReceivedPackets}
use Rattle.demux_core.specs.declared.receiver.ByCarrier.{ByCarrier}
use Rattle.demux_core.proofs.receiver.Receiver.plan_in_force.Goals as goal

pub returns-in-Packets-clause-packets : goal.returns-in-Packets-clause-packets
returns-in-Packets-clause-packets c = λ ended plan records has.
    c.plan_in_force.ensures.read ended plan records
    (subst (λ (part : ByCarrier). HasReceivedPackets ended plan records part) (sym c.self.view_is ∙ c.in-Packets.is) has)
