-- The receivers of single services and of the INT, and the records that they were given.
use Rattle.std.specs.Prelude.{◌≡◌, ℕ, ◌^◌, ◌<◌, ◌≤◌, ◌==◌, Bool, true, false, List, [], length, slice_get, Option, Some, None, is_some}
use Rattle.std.specs.List.{list_any}
use Rattle.ts_spec.specs.Recording.{RecordingForm, Record}
use Rattle.slice_spec.specs.Sections.{Timing}
use Rattle.fec_frame_spec.specs.Groups.{timing_in}
use Rattle.plan_spec.specs.Plan.{KindFields, ule, mpe, fec, gse, pid_of, ServiceFields, IntFields, PlanFields}
use Rattle.plan_spec.specs.Changes.{pid_in, has_wrong_change}
use Rattle.reception_spec.specs.Frames.{no_frames}
use Rattle.reception_spec.specs.Spans.{version_at_end, span_of}
use Rattle.reception_spec.specs.Delivered.{service_on}
use Rattle.service_counts.specs.declared.counts.ServiceCounts.{ServiceCounts}
use Rattle.service_reception.specs.Counting.{service_counts_of}
use Rattle.service_reception.specs.Services.{IsUle, IsMpe}
use Rattle.service_reception.specs.Reception as one
use Rattle.fec_reception.specs.Reception.{FramesState, FecReceptionState, IsOver}
use Rattle.fec_reception.specs.Reception as framed
use Rattle.fec_reception.specs.Counting.{unread_alone}
use Rattle.demux_core.specs.Counts.{counts_before}
use Rattle.service_reception.specs.Table.{HasReceivedTable}
use Rattle.demux_core.specs.declared.service.ByKind.{ByKind}
use Rattle.demux_core.specs.declared.service.ByKind.TheVariants.{Ule, Mpe, Fec}
use Rattle.demux_core.specs.declared.service.ServiceReceiver.{ServiceReceiver}
use Rattle.demux_core.specs.declared.int_receiver.IntReceiver.{IntReceiver}

-- One service.

-- what a reception counted, whatever the kind of its units
abbrev pub counts_in : ByKind → ServiceCounts
counts_in (Ule reception) = service_counts_of reception.on_pid reception.of_units no_frames
counts_in (Mpe reception) = service_counts_of reception.on_pid reception.of_units no_frames
counts_in (Fec reception) = service_counts_of reception.frames.on_pid (unread_alone reception.frames.unread) reception.frames.of_frames

-- the frames are those of services of this kind, in recordings of this form
abbrev pub ReadsFrames : RecordingForm → FramesState → KindFields → Type 0
ReadsFrames form frames (ule pid address packing) = ⊥
ReadsFrames form frames (mpe pid) = ⊥
ReadsFrames form frames (fec pid rows parity window) = IsOver (timing_in form (is_some window)) rows frames
ReadsFrames form frames (gse isi address) = ⊥

-- the reception reads the units of services of this kind
abbrev pub ReadsKind : RecordingForm → ByKind → KindFields → Type 0
ReadsKind form (Ule reception) kind = IsUle kind
ReadsKind form (Mpe reception) kind = IsMpe kind
ReadsKind form (Fec reception) kind = ReadsFrames form reception.frames kind

-- these records were received of a service with frames: no more can come (ended), or more may
abbrev pub HasFramesOf : Bool → Timing → ℕ → ℕ → FecReceptionState → List Record → Type 0
HasFramesOf true timing rows pid reception records = framed.HasEnded timing rows pid reception records
HasFramesOf false timing rows pid reception records = framed.HasTaken timing rows pid reception records

abbrev pub HasTakenFrames : Bool → RecordingForm → KindFields → FecReceptionState → List Record → Type 0
HasTakenFrames ended form (ule pid address packing) reception records = ⊥
HasTakenFrames ended form (mpe pid) reception records = ⊥
HasTakenFrames ended form (fec pid rows parity window) reception records = HasFramesOf ended (timing_in form (is_some window)) rows pid reception records
HasTakenFrames ended form (gse isi address) reception records = ⊥

-- these records were received of a service
abbrev pub HasTakenBy : Bool → RecordingForm → ServiceFields → ByKind → List Record → Type 0
HasTakenBy ended form it (Ule reception) records = one.HasTaken it reception records
HasTakenBy ended form it (Mpe reception) records = one.HasTaken it reception records
HasTakenBy ended form it (Fec reception) records = HasTakenFrames ended form it.kind reception records

-- the reception reads the units of the service, and these records were received of it: no more can come (ended), or more may
pub record IsReception (ended : Bool) (form : RecordingForm) (it : ServiceFields) (reception : ByKind) (records : List Record) : Type 0 where
  pub reads : ReadsKind form reception it.kind
  pub received : HasTakenBy ended form it reception records

-- the reception reads the units of the service, and nothing was received of it
pub record IsFresh (form : RecordingForm) (it : ServiceFields) (reception : ByKind) : Type 0 where
  pub reads : ReadsKind form reception it.kind
  pub received : (pid : ℕ) → pid_of it.kind ≡ Some pid → HasTakenBy false form it reception []

-- the receiver was given these records of a service, fewer than 2^32 of them, and one more packet of this PID is to be taken
pub record IsReceivingOne (form : RecordingForm) (filter : List (List ℕ)) (pid : ℕ) (it : ServiceFields) (receiver : ServiceReceiver) (records : List Record) : Type 0 where
  pub has : IsReception false form it receiver.reception records
  pub filter_is : it.filter ≡ filter
  pub of_pid : pid_of it.kind ≡ Some pid
  pub few : length records < 2 ^ 32

-- the receiver was given these records of a service, 2^32 of them at most, and no packet of its PID comes after them
pub record IsEndingOne (form : RecordingForm) (it : ServiceFields) (reception : ByKind) (records : List Record) : Type 0 where
  pub has : IsReception false form it reception records
  pub few : length records ≤ 2 ^ 32

-- the receiver of service k is on its PID of a version. Of the records it received the span on this PID, and it has the numbers of the
-- spans on all its other PIDs, which ended before; whether this span has ended too is told before
pub record HasReceivedOne (ended : Bool) (plan : PlanFields) (version k : ℕ) (receiver : ServiceReceiver) (records : List Record) : Type 0 where
  pub pid_is : pid_in plan version k ≡ Some receiver.pid
  pub reception : IsReception ended plan.recording (service_on plan k receiver.pid) receiver.reception (span_of plan k receiver.pid records)
  pub before_is : receiver.before ≡ counts_before plan k receiver.pid records

-- All services.

-- there is a receiver for each service, on its PID of the version, and it was given the records
pub record HaveReceived (ended : Bool) (plan : PlanFields) (version : ℕ) (receivers : List ServiceReceiver) (records : List Record) : Type 0 where
  pub count_is : length receivers ≡ length plan.services
  pub each : (k : ℕ) (receiver : ServiceReceiver) → slice_get receivers k ≡ Some receiver → HasReceivedOne ended plan version k receiver records

-- the PID is that of one of the services
abbrev pub is_service_pid : List ServiceReceiver → ℕ → Bool
is_service_pid receivers pid = list_any (λ (receiver : ServiceReceiver). receiver.pid == pid) receivers

-- The INT.

-- the receiver of the INT's PID, where the plan has one
abbrev pub HasReceivedBy : PlanFields → Option IntFields → Option IntReceiver → List Record → Type 0
HasReceivedBy plan None None records = Unit {0}
HasReceivedBy plan None (Some receiver) records = ⊥
HasReceivedBy plan (Some int) None records = ⊥
HasReceivedBy plan (Some int) (Some receiver) records = (int.pid ≡ receiver.pid) × HasReceivedTable plan int receiver.pid receiver.reception records

abbrev pub HasReceivedInt : PlanFields → Option IntReceiver → List Record → Type 0
HasReceivedInt plan table records = HasReceivedBy plan plan.table table records

-- the PID is the INT's
abbrev pub is_table_pid : Option IntReceiver → ℕ → Bool
is_table_pid None pid = false
is_table_pid (Some receiver) pid = receiver.pid == pid

-- the version that the INT put in force
abbrev pub version_of_table : Option IntReceiver → ℕ
version_of_table None = 0
version_of_table (Some receiver) = receiver.reception.kept.version

-- All receivers.

-- there is a receiver for each service of the plan, of which there are 64 at most; what changes the plan is right, and makes 32 versions
-- at most, up to the last one of the INT's receiver
abbrev pub IsUpToLast : PlanFields → Option IntReceiver → Type 0
IsUpToLast plan None = Unit {0}
IsUpToLast plan (Some receiver) = receiver.reception.kept.last_version ≡ length plan.changes

pub record FitsPlan (plan : PlanFields) (count : ℕ) (table : Option IntReceiver) : Type 0 where
  pub count_is : count ≡ length plan.services
  pub few : length plan.services ≤ 64
  pub right_changes : has_wrong_change plan ≡ false
  pub few_changes : length plan.changes ≤ 31
  pub up_to_last : IsUpToLast plan table

-- all receivers were given these records, and the services are on their PIDs of the version that is then in force
pub record HaveAllReceived (ended : Bool) (plan : PlanFields) (receivers : List ServiceReceiver) (table : Option IntReceiver) (records : List Record) : Type 0 where
  pub services : HaveReceived ended plan (version_at_end plan records) receivers records
  pub int : HasReceivedInt plan table records
