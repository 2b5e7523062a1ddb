-- The datagrams that a recording delivers: of each service, span by span, and of all services in the order of the records that give them.
use Rattle.std.specs.Prelude.{ℕ, ◌+◌, Bool, true, not, List, ◌++◌, take, drop, length, flat_map, slice_index_or}
use Rattle.std.specs.List.{range_with_len}
use Rattle.ts_spec.specs.Recording.{RecordingForm, Record}
use Rattle.plan_spec.specs.Plan.{ServiceFields, PlanFields}
use Rattle.fec_frame_spec.specs.Delivered.{datagrams_of_frames}
use Rattle.outlet_spec.specs.Pairs.{pairs_of_all}
use Rattle.plan_spec.specs.Changes.{on_pid, no_service, pid_in, pids_in, has_pid}
use Rattle.reception_spec.specs.Units.{delivered_by_unit}
use Rattle.reception_spec.specs.Numbers.{units_of}
use Rattle.reception_spec.specs.Frames.{told_frames, rows_of}
use Rattle.reception_spec.specs.Spans.{version_at_end, span_of}

-- what the accepted units of a service give by themselves, of some records, in order
abbrev pub delivered_datagrams : ServiceFields → List Record → List (List ℕ)
delivered_datagrams service records = flat_map (delivered_by_unit service) (units_of service records)

-- what a service tells of the records of a span: what its units give by themselves, and what its frames do: all of them where no more
-- records come (ended), otherwise those to which none can be added. A service has its datagrams in one of these two ways
abbrev pub told_by : Bool → RecordingForm → ServiceFields → List Record → List (List ℕ)
told_by ended form service records =
    delivered_datagrams service records ++ datagrams_of_frames (rows_of service.kind) (told_frames ended form service.kind records)

-- service k of a plan, on one of its PIDs
abbrev pub service_on : PlanFields → ℕ → ℕ → ServiceFields
service_on plan k pid = on_pid (slice_index_or plan.services k no_service) pid

-- after the records no section can come to a frame of service k on this PID: the version in force does not have the service there, and
-- a PID that was left is not taken again. On a PID that it comes to later there is no frame yet
abbrev pub takes_no_more : PlanFields → List Record → ℕ → ℕ → Bool
takes_no_more plan records k pid = not (has_pid (pid_in plan (version_at_end plan records) k) pid)

-- what the records tell of service k on one of its PIDs
abbrev pub told_on : PlanFields → ℕ → List Record → ℕ → List (List ℕ)
told_on plan k records pid = told_by (takes_no_more plan records k pid) plan.recording (service_on plan k pid) (span_of plan k pid records)

-- what the records tell of service k: what its spans do, one after another. Of the PID in force the frame under way tells nothing yet: sections may still come
-- to it
abbrev pub told_of : PlanFields → ℕ → List Record → List (List ℕ)
told_of plan k records = flat_map (told_on plan k records) (pids_in plan k)

-- what service k delivers on one of its PIDs, where the recording ends
abbrev pub delivered_on : PlanFields → ℕ → List Record → ℕ → List (List ℕ)
delivered_on plan k records pid = told_by true plan.recording (service_on plan k pid) (span_of plan k pid records)

-- what service k delivers where the recording ends, on all its PIDs, one after another: no more sections come to any frame
abbrev pub delivered_of : PlanFields → ℕ → List Record → List (List ℕ)
delivered_of plan k records = flat_map (delivered_on plan k records) (pids_in plan k)

-- the datagrams that the record at a place gives: those that the records up to it tell, after those that the records before it tell
abbrev pub given_by_record : PlanFields → ℕ → List Record → ℕ → List (List ℕ)
given_by_record plan k records place = drop (length (told_of plan k (take place records))) (told_of plan k (take (place + 1) records))

-- the datagrams that the end gives: of frames that it closes
abbrev pub given_by_end : PlanFields → ℕ → List Record → List (List ℕ)
given_by_end plan k records = drop (length (told_of plan k records)) (delivered_of plan k records)

-- the pairs that the record at a place gives
abbrev pub pairs_of_record : PlanFields → List Record → ℕ → List (ℕ × List ℕ)
pairs_of_record plan records place = pairs_of_all (length plan.services) (λ k. given_by_record plan k records place)

-- the pairs that the end gives
abbrev pub pairs_of_end : PlanFields → List Record → List (ℕ × List ℕ)
pairs_of_end plan records = pairs_of_all (length plan.services) (λ k. given_by_end plan k records)

-- the pairs of the records, one record after another, and with those of the end
abbrev pub told_pairs : PlanFields → List Record → List (ℕ × List ℕ)
told_pairs plan records = flat_map (pairs_of_record plan records) (range_with_len 0 (length records))

abbrev pub delivered_pairs : PlanFields → List Record → List (ℕ × List ℕ)
delivered_pairs plan records = told_pairs plan records ++ pairs_of_end plan records
