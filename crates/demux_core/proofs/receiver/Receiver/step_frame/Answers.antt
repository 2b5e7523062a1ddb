use Rattle.std.proofs.Common.{◌∙◌, sym, subst}
use Rattle.demux_core.specs.Carriers.{HasReceivedFrames}
use Rattle.demux_core.specs.declared.receiver.ByCarrier.{ByCarrier}
use Rattle.demux_core.proofs.receiver.Receiver.step_frame.Goals as goal

pub returns-clause-written : goal.returns-clause-written
returns-clause-written g c = λ plan frames has.
    c.step_frame.ensures.written plan frames
    (subst (λ (part : ByCarrier). HasReceivedFrames plan frames part) (sym c.self.view_is ∙ c.in-Frames.is) has)
