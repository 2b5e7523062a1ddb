-- Receivers that were given nothing.
use Rattle.std.specs.Prelude.{◌≡◌, Bool, true, false, List, [], ◌∷◌, Some}
use Rattle.ts_spec.specs.Recording.{RecordingForm}
use Rattle.plan_spec.specs.Plan.{KindFields, ule, mpe, fec, gse, ServiceFields, pid_of}
use Rattle.plan_spec.specs.Checks.{is_row_count}
use Rattle.reception_spec.specs.Numbers.{no_numbers}
use Rattle.reception_spec.specs.Frames.{no_frames}
use Rattle.reception_law.specs.Sums.{no_units}
use Rattle.service_reception.specs.Counting.{service_counts_of}
use Rattle.demux_core.specs.Services.{IsReception}
use Rattle.demux_core.specs.declared.service.ServiceReceiver.{ServiceReceiver}

-- the receiver is on the service's PID, and was given nothing of it or of PIDs before
pub record IsOpened (form : RecordingForm) (it : ServiceFields) (receiver : ServiceReceiver) : Type 0 where
  pub pid_is : pid_of it.kind ≡ Some receiver.pid
  pub reception : IsReception false form it receiver.reception []
  pub before_is : receiver.before ≡ service_counts_of no_numbers no_units no_frames

-- each receiver is, service by service
abbrev pub AreOpened : RecordingForm → List ServiceFields → List ServiceReceiver → Type 0
AreOpened form [] [] = Unit {0}
AreOpened form [] (receiver ∷ receivers) = ⊥
AreOpened form (it ∷ services) [] = ⊥
AreOpened form (it ∷ services) (receiver ∷ receivers) = IsOpened form it receiver × AreOpened form services receivers

-- the rows of frames are as many as frames can have
abbrev pub has_right_rows : KindFields → Bool
has_right_rows (ule pid address packing) = true
has_right_rows (mpe pid) = true
has_right_rows (fec pid rows parity window) = is_row_count rows
has_right_rows (gse isi address) = true
