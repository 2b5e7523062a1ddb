use Rattle.std.proofs.Common.{◌≡◌}
use Rattle.ipencap_engine.proofs.Bridged.{bridge_done, bridge_to_fault, bridge_sink_fault, bridge_source_fault}
use Rattle.ipencap_engine.proofs.bridge.send_frames.Goals as goal

pub returns-in-Done : goal.returns-in-Done
returns-in-Done g c = λ shelf rack.
    bridge_done c.args.carrier shelf (g.I.Source.told c.args.input.now) (g.I.Source.told c.bridge_on.new.input) (g.O.Sink.told c.args.output.now) (g.O.Sink.told c.bridge_on.new.output) rack _ tt tt
    (c.bridge_on.new.output ≡ c.args.output.now) (λ same. same) c.in-Done.tally c.in-Done.ensures.bridges

pub returns-in-Capture : goal.returns-in-Capture
returns-in-Capture g c = λ shelf rack.
    bridge_to_fault c.args.carrier shelf (g.I.Source.told c.args.input.now) (g.I.Source.told c.bridge_on.new.input) (g.O.Sink.told c.args.output.now) (g.O.Sink.told c.bridge_on.new.output) rack _ tt tt
    (c.bridge_on.new.output ≡ c.args.output.now) (λ same. same) c.in-Capture.fault c.in-Capture.place c.in-Capture.ensures.bridges

pub returns-in-SinkFault : goal.returns-in-SinkFault
returns-in-SinkFault g c = λ shelf rack.
    bridge_sink_fault c.args.carrier shelf (g.I.Source.told c.args.input.now) (g.I.Source.told c.bridge_on.new.input) (g.O.Sink.told c.args.output.now) (g.O.Sink.told c.bridge_on.new.output) rack _ tt tt
    (c.bridge_on.new.output ≡ c.args.output.now) (λ same. same) c.in-SinkFault.ensures.bridges

pub returns-in-SourceFault : goal.returns-in-SourceFault
returns-in-SourceFault g c = λ shelf rack.
    bridge_source_fault c.args.carrier shelf (g.I.Source.told c.args.input.now) (g.I.Source.told c.bridge_on.new.input) (g.O.Sink.told c.args.output.now) (g.O.Sink.told c.bridge_on.new.output) rack _ tt tt
    (c.bridge_on.new.output ≡ c.args.output.now) (λ same. same) c.in-SourceFault.ensures.bridges
