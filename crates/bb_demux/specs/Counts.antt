-- The counts of a report, as numbers of a recording of baseband frames.
use Rattle.std.specs.Prelude.{ℕ, List}
use Rattle.plan_spec.specs.Plan.{PlanFields}
use Rattle.bb_reception_spec.specs.Numbers.{RecordingNumbers, numbers_of, pdu_numbers_of}
use Rattle.loss_report.specs.declared.counts.StreamCounts.{StreamCounts}
use Rattle.service_counts.specs.declared.counts.ServiceCounts.{ServiceCounts}
use Rattle.gse_reception.specs.Counting.{service_counts_of}

-- of the whole recording, where no byte is left over: each record is a frame, and each frame has a data field
abbrev pub stream_counts_of : RecordingNumbers → StreamCounts
stream_counts_of numbers = record {
  records = numbers.frames;
  tail_bytes = 0;
  unreadable = numbers.unreadable;
  without_payload = 0;
  other = numbers.other;
}

-- the counts of service k of a plan in a report
abbrev pub counts_of_service : PlanFields → ℕ → List (List ℕ) → ServiceCounts
counts_of_service plan k frames = service_counts_of (numbers_of plan k frames) (pdu_numbers_of plan k frames)
