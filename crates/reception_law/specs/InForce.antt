-- The PID of a service in the version in force, and PIDs that it has in later versions alone.
use Rattle.std.specs.Prelude.{◌≡◌, ◌≢◌, ℕ, ◌<◌, ◌≤◌, Bool, List, [], ◌∷◌, ◌++◌, length, drop, map, if◌then◌else◌, Option, Some, None}
use Rattle.ts_spec.specs.Recording.{Record}
use Rattle.ts_spec.specs.Received.{no_record, received_packets}
use Rattle.plan_spec.specs.Plan.{PlanFields}
use Rattle.plan_spec.specs.Changes.{pid_in}
use Rattle.reception_spec.specs.Numbers.{no_numbers, units_of}
use Rattle.reception_spec.specs.Table.{table_sections}
use Rattle.reception_spec.specs.Spans.{version_at_end, span_of}
use Rattle.reception_spec.specs.Frames.{frames_received, no_frames}
use Rattle.reception_spec.specs.Delivered.{delivered_datagrams, told_by, service_on, takes_no_more}
use Rattle.reception_spec.specs.Sums.{numbers_on, frame_numbers_on}
use Rattle.reception_law.specs.Words.{added_on, closed_on}
use Rattle.reception_law.specs.Sums.{no_units, unit_numbers_on}

-- the sections of the INT that end in one record more
abbrev pub sections_ended : PlanFields → List Record → Record → List (List ℕ)
sections_ended plan records r = drop (length (table_sections plan records)) (table_sections plan (records ++ r ∷ []))

-- the PID of service k in the version in force after the records
abbrev pub pid_in_force : PlanFields → ℕ → List Record → Option ℕ
pid_in_force plan k records = pid_in plan (version_at_end plan records) k

-- what the frame under way on a PID gives, where one record more moves service k to another PID
abbrev pub closed_by_move : PlanFields → ℕ → ℕ → List Record → Record → List (List ℕ)
closed_by_move plan k pid records r = if takes_no_more plan (records ++ r ∷ []) k pid then closed_on plan k pid (records ++ r ∷ []) else []

-- what a record gives on the PID in force before it: what it adds to the span, and where it moves the service, what that closes
abbrev pub given_on : PlanFields → ℕ → ℕ → List Record → Record → List (List ℕ)
given_on plan k pid records r = added_on plan k pid records r ++ closed_by_move plan k pid records r

-- what a record closes on the PID in force before it, and what the end does; nothing where the service has no PID
abbrev pub closed_by_record_on : Option ℕ → PlanFields → ℕ → List Record → Record → List (List ℕ)
closed_by_record_on None plan k records r = []
closed_by_record_on (Some pid) plan k records r = closed_by_move plan k pid records r

abbrev pub closed_by_record : PlanFields → ℕ → List Record → Record → List (List ℕ)
closed_by_record plan k records r = closed_by_record_on (pid_in_force plan k records) plan k records r

abbrev pub closed_at_end_on : Option ℕ → PlanFields → ℕ → List Record → List (List ℕ)
closed_at_end_on None plan k records = []
closed_at_end_on (Some pid) plan k records = closed_on plan k pid records

abbrev pub closed_at_end : PlanFields → ℕ → List Record → List (List ℕ)
closed_at_end plan k records = closed_at_end_on (pid_in_force plan k records) plan k records

-- service k has another PID in this version, and comes to this PID in a later one
pub record ComesLater (plan : PlanFields) (k pid version : ℕ) : Type 0 where
  pub other : ℕ
  pub later : ℕ
  pub has_other : pid_in plan version k ≡ Some other
  pub differs : other ≢ pid
  pub above : version < later
  pub within : later ≤ length plan.changes
  pub has_it : pid_in plan later k ≡ Some pid

-- the span of service k on the PID is blank: it gives and counts nothing
pub record IsBlank (plan : PlanFields) (k pid : ℕ) (records : List Record) : Type 0 where
  pub span : span_of plan k pid records ≡ map (λ (r : Record). no_record) records
  pub packets : received_packets pid (span_of plan k pid records) ≡ []
  pub units : units_of (service_on plan k pid) (span_of plan k pid records) ≡ []
  pub datagrams : delivered_datagrams (service_on plan k pid) (span_of plan k pid records) ≡ []
  pub frames : frames_received plan.recording (service_on plan k pid).kind (span_of plan k pid records) ≡ []
  pub told : (ended : Bool) → told_by ended plan.recording (service_on plan k pid) (span_of plan k pid records) ≡ []
  pub numbers : numbers_on plan k records pid ≡ no_numbers
  pub unit_numbers : unit_numbers_on plan k records pid ≡ no_units
  pub frame_numbers : (ended : Bool) → frame_numbers_on ended plan k records pid ≡ no_frames
