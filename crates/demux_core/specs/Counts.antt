-- The counts of a report, as numbers of a reception.
use Rattle.std.specs.Prelude.{ℕ, Bool, true, false, List}
use Rattle.ts_spec.specs.Recording.{Record}
use Rattle.plan_spec.specs.Plan.{PlanFields}
use Rattle.reception_spec.specs.Frames.{FrameNumbers}
use Rattle.reception_spec.specs.Sums.{StreamNumbers, numbers_of, unit_numbers_of, frame_numbers_of, told_frame_numbers}
use Rattle.reception_law.specs.Sums.{numbers_before, unit_numbers_before, frame_numbers_before}
use Rattle.loss_report.specs.declared.counts.StreamCounts.{StreamCounts}
use Rattle.service_counts.specs.declared.counts.ServiceCounts.{ServiceCounts}
use Rattle.service_reception.specs.Counting.{service_counts_of}

-- of the whole recording, where no byte is left over
abbrev pub stream_counts_of : StreamNumbers → StreamCounts
stream_counts_of numbers = record {
  records = numbers.records;
  tail_bytes = 0;
  unreadable = numbers.unreadable;
  without_payload = numbers.without_payload;
  other = numbers.other;
}

-- the frames of service k: all where the recording has ended, otherwise those to which no section can be added
abbrev pub frames_counted : Bool → PlanFields → ℕ → List Record → FrameNumbers
frames_counted true plan k records = frame_numbers_of plan k records
frames_counted false plan k records = told_frame_numbers plan k records

-- the counts of service k of a plan in a report, over all its spans; of frames all where the recording has ended
abbrev pub counts_of_service : Bool → PlanFields → ℕ → List Record → ServiceCounts
counts_of_service ended plan k records = service_counts_of (numbers_of plan k records) (unit_numbers_of plan k records) (frames_counted ended plan k records)

-- and of the spans on all PIDs but this one
abbrev pub counts_before : PlanFields → ℕ → ℕ → List Record → ServiceCounts
counts_before plan k pid records = service_counts_of (numbers_before plan k pid records) (unit_numbers_before plan k pid records) (frame_numbers_before plan k pid records)
