-- The numbers that a report has: of the whole recording, and of each service over its spans.
use Rattle.std.specs.Prelude.{ℕ, ◌+◌, Bool, true, List, [], ◌∷◌, length, map, fold, flat_map, count_by, slice_index_or, if◌then◌else◌}
use Rattle.ts_spec.specs.Recording.{Record}
use Rattle.plan_spec.specs.Plan.{PlanFields}
use Rattle.plan_spec.specs.Changes.{plan_in, no_service, pids_in}
use Rattle.reception_spec.specs.Packets.{is_unreadable, lacks_content, is_other}
use Rattle.reception_spec.specs.Numbers.{PidNumbers, no_numbers, UnitNumbers, units_of, unit_numbers, service_pid_numbers}
use Rattle.reception_spec.specs.Spans.{version_at_place, span_of}
use Rattle.reception_spec.specs.Frames.{told_frames, rows_of, FrameNumbers, no_frames, sum_of_frames, frame_numbers}
use Rattle.reception_spec.specs.Delivered.{service_on, takes_no_more}

-- how many records are packets of no service and not of the INT, each by the version in force at its place
abbrev pub others_from : PlanFields → List Record → ℕ → List Record → ℕ
others_from plan records place [] = 0
others_from plan records place (r ∷ behind) =
    (if is_other (plan_in plan (version_at_place plan records place)) r then 1 else 0) + others_from plan records (place + 1) behind

-- how many records there are, and how many of them are of no service, by cause: unreadable, without payload, or of another PID
pub record StreamNumbers : Type 0 where
  pub records : ℕ
  pub unreadable : ℕ
  pub without_payload : ℕ
  pub other : ℕ

-- these numbers of a recording
abbrev pub stream_numbers : PlanFields → List Record → StreamNumbers
stream_numbers plan records = record {
  records = length records;
  unreadable = count_by is_unreadable records;
  without_payload = count_by lacks_content records;
  other = others_from plan records 0 records;
}

-- the sums of the numbers of PIDs
abbrev pub sum_of_numbers : PidNumbers → PidNumbers → PidNumbers
sum_of_numbers a b = record {
  heard = a.heard + b.heard;
  repeats = a.repeats + b.repeats;
  gaps = a.gaps + b.gaps;
  units = a.units + b.units;
  bad_check = a.bad_check + b.bad_check;
  delimited = a.delimited + b.delimited;
  bad_length = a.bad_length + b.bad_length;
}

-- the numbers of service k on one of its PIDs, in the span of this PID
abbrev pub numbers_on : PlanFields → ℕ → List Record → ℕ → PidNumbers
numbers_on plan k records pid = service_pid_numbers (service_on plan k pid) (span_of plan k pid records)

-- the numbers of service k: the sums over its spans
abbrev pub numbers_of : PlanFields → ℕ → List Record → PidNumbers
numbers_of plan k records = fold sum_of_numbers no_numbers (map (numbers_on plan k records) (pids_in plan k))

-- the accepted units of service k in all its spans
abbrev pub units_in_spans : PlanFields → ℕ → List Record → List (List ℕ)
units_in_spans plan k records = flat_map (λ pid. units_of (service_on plan k pid) (span_of plan k pid records)) (pids_in plan k)

-- what these units give
abbrev pub unit_numbers_of : PlanFields → ℕ → List Record → UnitNumbers
unit_numbers_of plan k records = unit_numbers (slice_index_or plan.services k no_service) (units_in_spans plan k records)

-- the numbers of the frames of service k in one span: of all its frames, or of those that are closed while sections may come
abbrev pub frame_numbers_on : Bool → PlanFields → ℕ → List Record → ℕ → FrameNumbers
frame_numbers_on ended plan k records pid =
    frame_numbers (rows_of (service_on plan k pid).kind)
    (told_frames ended plan.recording (service_on plan k pid).kind (span_of plan k pid records))

-- over all its spans, as told so far
abbrev pub told_frame_numbers : PlanFields → ℕ → List Record → FrameNumbers
told_frame_numbers plan k records =
    fold sum_of_frames no_frames (map (λ pid. frame_numbers_on (takes_no_more plan records k pid) plan k records pid) (pids_in plan k))

-- and where the recording ends
abbrev pub frame_numbers_of : PlanFields → ℕ → List Record → FrameNumbers
frame_numbers_of plan k records = fold sum_of_frames no_frames (map (frame_numbers_on true plan k records) (pids_in plan k))
