use Rattle.stream_law.proofs.Captured.{told_bytes}
use Rattle.stream_law.proofs.captures.a_capture_of_bytes_has_records_of_bytes.Goals as goal

pub returns : goal.returns
returns c = record { bytes = told_bytes }
