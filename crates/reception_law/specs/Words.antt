-- What one record more gives, and one service among all: its part of delivered pairs.
use Rattle.std.specs.Prelude.{ℕ, true, false, List, [], ◌∷◌, ◌++◌, length, drop}
use Rattle.ts_spec.specs.Recording.{RecordingForm, Record}
use Rattle.plan_spec.specs.Plan.{ServiceFields, PlanFields}
use Rattle.reception_spec.specs.Spans.{span_of}
use Rattle.reception_spec.specs.Delivered.{told_by, service_on}

-- the datagrams that one record more adds, while others may come
abbrev pub added_by : RecordingForm → ServiceFields → List Record → Record → List (List ℕ)
added_by form service records r = drop (length (told_by false form service records)) (told_by false form service (records ++ r ∷ []))

-- those of the frame under way, which are told where no more records come
abbrev pub closed_by : RecordingForm → ServiceFields → List Record → List (List ℕ)
closed_by form service records = drop (length (told_by false form service records)) (told_by true form service records)

-- the same of the span of service k on a PID: what one record more adds to it, and what its frame under way gives where no more records come
abbrev pub added_on : PlanFields → ℕ → ℕ → List Record → Record → List (List ℕ)
added_on plan k pid records r = added_by plan.recording (service_on plan k pid) (span_of plan k pid records) r

abbrev pub closed_on : PlanFields → ℕ → ℕ → List Record → List (List ℕ)
closed_on plan k pid records = closed_by plan.recording (service_on plan k pid) (span_of plan k pid records)
