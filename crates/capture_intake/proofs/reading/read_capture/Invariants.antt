use Rattle.std.proofs.Common.{◌≡◌, ◌-◌, ◌++◌, false, List, ℕ}
use Rattle.std.specs.Io.KnownBytes.{Consumes}
use Rattle.pcap_file.specs.Reading.{most_records}
use Rattle.pcap_file.specs.Reader.{Takes, rest_of}
use Rattle.capture_intake.specs.Steps.{IsGoing}
use Rattle.capture_intake.proofs.reading.read_capture.Given as goal

abbrev pub invariant-records : goal.invariant-records
invariant-records g l = (front : List ℕ) × (captured : List (List ℕ)) × record {
  consumed : Consumes (g.I.Source.told l.fn.input).left (rest_of l.reader.held (g.I.Source.told l.input).left) front;
  going : IsGoing g.T.CaptureTaker.wants l.reader (λ link records. g.T.CaptureTaker.Took l.fn.taker l.taker link records) front captured;
  taken : Takes (g.I.Source.told l.fn.input) (g.I.Source.told l.input) (front ++ l.reader.held);
  same : (g.I.Source.told l.input).faults ≡ (g.I.Source.told l.fn.input).faults;
  on : (g.I.Source.told l.fn.input).ended ≡ false → (g.I.Source.told l.input).ended ≡ false;
}

abbrev pub decreases-records : goal.decreases-records
decreases-records g l = most_records - l.reader.records
