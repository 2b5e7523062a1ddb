use Rattle.std.proofs.Common.{◌∙◌, sym, subst}
use Rattle.demux_core.specs.Carriers.{HasReceivedPackets}
use Rattle.demux_core.specs.declared.receiver.ByCarrier.{ByCarrier}
use Rattle.demux_core.proofs.receiver.Receiver.table_units.Goals as goal

pub returns-in-Packets-clause-packets : goal.returns-in-Packets-clause-packets
returns-in-Packets-clause-packets c = λ ended plan records has.
    c.table_units.ensures.read ended plan records
    (subst (λ (part : ByCarrier). HasReceivedPackets ended plan records part) (sym c.self.view_is ∙ c.in-Packets.is) has)
