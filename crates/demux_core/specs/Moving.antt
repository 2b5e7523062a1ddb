-- Receivers that follow their services to the PIDs of another version.
use Rattle.std.specs.Prelude.{◌≡◌, ◌≢◌, ◌==◌, ℕ, true, List, [], slice_get, if◌then◌else◌, Option, Some, None}
use Rattle.ts_spec.specs.Recording.{RecordingForm, Record}
use Rattle.plan_spec.specs.Plan.{ServiceFields, PlanFields}
use Rattle.plan_spec.specs.Changes.{pid_in}
use Rattle.reception_law.specs.Words.{closed_on}
use Rattle.service_counts.specs.Sums.{raised_counts}
use Rattle.demux_core.specs.Services.{ReadsKind, IsReception, IsFresh, IsEndingOne, counts_in}
use Rattle.demux_core.specs.declared.service.ByKind.{ByKind}
use Rattle.demux_core.specs.declared.service.ServiceReceiver.{ServiceReceiver}

-- no packet of the PID comes after what was received: the frame under way is closed
pub record Closes (old new : ByKind) : Type 0 where
  pub ended : (form : RecordingForm) (it : ServiceFields) (records : List Record) → IsEndingOne form it old records → IsReception true form it new records

-- the receiver was moved to a PID: nothing was received there, and what was counted of the PID that it left, where all is closed, is added
-- to what was before
pub record IsMoved (pid : ℕ) (old new : ServiceReceiver) : Type 0 where
  pub closed : ByKind
  pub closes : Closes old.reception closed
  pub pid_is : new.pid ≡ pid
  pub fresh : (form : RecordingForm) (it : ServiceFields) → ReadsKind form closed it.kind → IsFresh form it new.reception
  pub counts_are : new.before ≡ raised_counts old.before (counts_in closed)

-- the receiver follows its service to a PID: where it is there already it stays as it is
pub record FollowsTo (pid : ℕ) (old new : ServiceReceiver) : Type 0 where
  pub stays : pid ≡ old.pid → new ≡ old
  pub moves : pid ≢ old.pid → IsMoved pid old new

abbrev pub Follows : Option ℕ → ServiceReceiver → ServiceReceiver → Type 0
Follows None old new = new ≡ old
Follows (Some pid) old new = FollowsTo pid old new

-- each receiver follows to the PID of its service in a version
abbrev pub AllFollow : PlanFields → ℕ → List ServiceReceiver → List ServiceReceiver → Type 0
AllFollow plan version olds news =
    (k : ℕ) (old new : ServiceReceiver) → slice_get olds k ≡ Some old → slice_get news k ≡ Some new → Follows (pid_in plan version k) old new

-- what a service that goes from one PID to another gives of these datagrams: all of them where it leaves its PID, otherwise none
abbrev pub where_left : Option ℕ → ℕ → List (List ℕ) → List (List ℕ)
where_left None pid datagrams = []
where_left (Some next) pid datagrams = if next == pid then [] else datagrams

-- what service k gives where its PID of one version is left for that of another: the datagrams of the frame under way
abbrev pub closed_from : Option ℕ → PlanFields → ℕ → ℕ → List Record → List (List ℕ)
closed_from None plan version k records = []
closed_from (Some pid) plan version k records = where_left (pid_in plan version k) pid (closed_on plan k pid records)

abbrev pub closed_by_switch : PlanFields → ℕ → ℕ → List Record → ℕ → List (List ℕ)
closed_by_switch plan was version records k = closed_from (pid_in plan was k) plan version k records

-- and where the recording ends, on its PID of a version
abbrev pub closed_on_pid : Option ℕ → PlanFields → ℕ → List Record → List (List ℕ)
closed_on_pid None plan k records = []
closed_on_pid (Some pid) plan k records = closed_on plan k pid records

abbrev pub closed_at : PlanFields → ℕ → List Record → ℕ → List (List ℕ)
closed_at plan version records k = closed_on_pid (pid_in plan version k) plan k records
