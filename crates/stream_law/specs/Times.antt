-- The frames of a service over all its PIDs, and their times. A service that left a PID never takes it again, so that its frames, one PID after
-- another, stand in the order in which they are sent.
use Rattle.std.specs.Prelude.{◌≡◌, ◌↔◌, ℕ, ◌+◌, ◌<◌, Bool, true, false, List, [], ◌∷◌, length, map, flat_map, ◌==◌, if◌then◌else◌, Option, is_some}
use Rattle.ts_spec.specs.Recording.{RecordingForm, Record}
use Rattle.slice_spec.specs.Sections.{SectionTime}
use Rattle.slice_spec.specs.Frames.{IsOf, HasTiming}
use Rattle.fec_frame_spec.specs.Sections.{TimedSection, times_of}
use Rattle.fec_frame_spec.specs.Groups.{timing_in}
use Rattle.fec_frame_spec.specs.Examples.{small_data, at_moment}
use Rattle.plan_spec.specs.Plan.{WindowFields, KindFields, ule, mpe, fec, gse, PlanFields}
use Rattle.plan_spec.specs.Changes.{pids_in}
use Rattle.stream_spec.specs.Services.{kind_at, IsPidOf, AreCarried, Carries}

-- the times of the sections of frames that are given by PID: of those on the first PID, then of those on the next one
abbrev pub times_over : List ℕ → (ℕ → List (List TimedSection)) → List (List SectionTime)
times_over pids frames = flat_map (λ pid. map times_of (frames pid)) pids

-- The frames of a service are timed over all its PIDs as on one (EN 301 192 clause 9). Without time slicing they are numbered from 0 on. With it a delta_t
-- above 0 announces a moment that is after the sections of its own frame and not after one of a later frame, on this PID or the next; and delta_t is 0 exactly
-- in the last frame of all
pub record TimesOfService (form : RecordingForm) (is_sliced : Bool) (pids : List ℕ) (frames : ℕ → List (List TimedSection)) : Type 0 where
  pub timed : HasTiming (timing_in form is_sliced) 0 (times_over pids frames)
  pub last : is_sliced ≡ true → (i : ℕ) (x : SectionTime) → IsOf (times_over pids frames) i x
      → (x.delta ≡ 0 ↔ length (times_over pids frames) ≡ i + 1)

-- the frames, each as its sections, that the units of a PID carry; those of a service of another kind carry none
abbrev pub frames_carried : (kind : KindFields) (form : RecordingForm) (before : ℕ) (units : List (List ℕ)) (moments : ℕ → ℕ) (datagrams : List (List ℕ))
    → AreCarried form kind before units moments datagrams → List (List TimedSection)
frames_carried (ule pid address packing) form before units moments datagrams carried = []
frames_carried (mpe pid) form before units moments datagrams carried = []
frames_carried (fec pid rows parity window) form before units moments datagrams carried = carried.sections
frames_carried (gse isi address) form before units moments datagrams carried = []

-- the frames that a stream carries on the PIDs of a service are timed over all of them, for each service with frames
pub record AreTimedOverPids (plan : PlanFields) (sent : List Record) (datagrams : ℕ → ℕ → List (List ℕ)) (carries : Carries plan sent datagrams) : Type 0 where
  pub frames : ℕ → ℕ → List (List TimedSection)
  pub frames_are : (k pid : ℕ) (own : IsPidOf plan k pid) → frames k pid
      ≡ frames_carried (kind_at plan k) plan.recording (carries.before k pid) (carries.units k pid) (carries.moments k pid) (datagrams k pid) (carries.carried k pid own)
  pub times : (k pid rows parity : ℕ) (window : Option WindowFields) → k < length plan.services → kind_at plan k ≡ fec pid rows parity window
      → TimesOfService plan.recording (is_some window) (pids_in plan k) (frames k)

-- a service that moves from PID 512 to 514: on the one a frame, whose sections announce the frame on the other one, which announces none
abbrev pub frames_that_move : ℕ → List (List TimedSection)
frames_that_move pid =
    if pid == 512 then (at_moment 10000 (small_data 200 0 false) ∷ at_moment 10700 (small_data 199 2 true) ∷ []) ∷ []
    else if pid == 514 then (at_moment 2010000 (small_data 0 0 true) ∷ []) ∷ []
    else []
