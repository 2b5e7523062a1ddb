-- The version in force at each record, and the span of a service on a PID: the records at which the version in force has the service there.
use Rattle.std.specs.Prelude.{ℕ, ◌+◌, List, [], ◌∷◌, length, take, if◌then◌else◌, Bool}
use Rattle.ts_spec.specs.Recording.{Record}
use Rattle.ts_spec.specs.Received.{no_record}
use Rattle.plan_spec.specs.Plan.{PlanFields}
use Rattle.plan_spec.specs.Changes.{pid_in, has_pid}
use Rattle.plan_spec.specs.InForce.{version_behind}
use Rattle.reception_spec.specs.Table.{table_sections}

-- the version in force at the record of a place: that after the sections of the INT whose last byte stands in a record before it (EN 301 192 clause 8.4)
unfoldable pub version_at_place : PlanFields → List Record → ℕ → ℕ
version_at_place plan records place = version_behind plan (table_sections plan (take place records))

-- the version in force after all records
abbrev pub version_at_end : PlanFields → List Record → ℕ
version_at_end plan records = version_at_place plan records (length records)

-- the version in force at the record of a place has service k on this PID
abbrev pub is_heard_on : PlanFields → List Record → ℕ → ℕ → ℕ → Bool
is_heard_on plan records k pid place = has_pid (pid_in plan (version_at_place plan records place) k) pid

-- the records from a place on, with a blank one, which nobody reads, for each at which the version in force does not have service k on the PID
abbrev pub span_from : PlanFields → List Record → ℕ → ℕ → ℕ → List Record → List Record
span_from plan records k pid place [] = []
span_from plan records k pid place (r ∷ behind) =
    (if is_heard_on plan records k pid place then r else no_record) ∷ span_from plan records k pid (place + 1) behind

-- the span of service k on a PID, as a recording with the same places; a PID that was left is not taken again, so it has one
abbrev pub span_of : PlanFields → ℕ → ℕ → List Record → List Record
span_of plan k pid records = span_from plan records k pid 0 records
