use Rattle.std.proofs.Common.{◌≡◌, ap, sym, subst}
use Rattle.bridge_spec.specs.Frames.{on_isi}
use Rattle.bridge_command.specs.Bridging.{Bridges}
use Rattle.bridge_command.specs.Holding.{HoldsFrames}
use Rattle.bridge_command.proofs.Ending.{bridges}
use Rattle.bridge_command.proofs.command.bridge_in_pdus.Goals as goal

pub returns : goal.returns
returns g c = record {
  bridges = subst
      (λ r. Bridges (on_isi c.args.isi) r (g.I.Source.told c.args.input.now) (g.I.Source.told c.read_capture.new.input) (g.O.Sink.told c.args.output.now) (g.O.Sink.told c.write-written.new.output)
      (c.write-written.new.output ≡ c.args.output.now))
      (sym c.end_after.ensures.end)
      (bridges (on_isi c.args.isi) c.in-Ok.found c.read_capture.new.taker.tally c.write-written.result (λ captured. HoldsFrames c.read_capture.new.taker captured)
      (g.I.Source.told c.args.input.now) (g.I.Source.told c.read_capture.new.input) (g.O.Sink.told c.args.output.now) (g.O.Sink.told c.write-written.new.output)
      (c.write-written.new.output ≡ c.args.output.now) c.in-Ok.ensures.intakes
      (λ captured held. record { offered = held.numbers.offered; too_short = held.numbers.too_short; too_long = held.numbers.too_long })
      (λ captured held. c.write-written.ensures.writes captured held) (λ same. ap (λ o. (g.O.Sink.told o).faults) same));
}
