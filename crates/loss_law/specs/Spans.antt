-- What a service of a plan that changes delivers over its spans, of which it has one on each of its PIDs.
use Rattle.std.specs.Prelude.{◌≡◌, ℕ, List, flat_map}
use Rattle.wire_spec.specs.Lists.{IsSubsequence}
use Rattle.ts_spec.specs.Recording.{Record}
use Rattle.section_spec.specs.Section.{section_form}
use Rattle.channel_spec.specs.Channel.{Channel}
use Rattle.channel_spec.specs.Carried.{NoUndetectedError, IsAccepted}
use Rattle.plan_spec.specs.Plan.{PlanFields}
use Rattle.plan_spec.specs.Changes.{pids_in}
use Rattle.stream_spec.specs.Services.{kind_at, form_of_kind, IsPidOf}
use Rattle.reception_spec.specs.Spans.{span_of}
use Rattle.reception_spec.specs.Delivered.{service_on}
use Rattle.loss_law.specs.Loss.{CarriesFor}
use Rattle.loss_law.specs.Frames.{HasMomentsFor, IsHeardOften, DeliversOn, wanted_by}

-- two channels between the same recordings, for receivers of different PIDs, in which each record comes from the same place and is a copy of the same
pub record IsSameChannel {pids others : List ℕ} {sent recorded : List Record} (channel : Channel pids sent recorded) (other : Channel others sent recorded) : Type 0 where
  pub place : (j : ℕ) → other.place j ≡ channel.place j
  pub first : (j : ℕ) → other.first j ≡ channel.first j

-- A recording of what was sent, as service k asks it. It came through the channel, which inserts nothing that is read on the PIDs of the
-- service, and no damaged or spliced unit of the service passes its check in the span of its PID. Of the INT nothing is asked: spans may begin
-- and end anywhere. Of MPE-FEC frames more is asked, in the span of each PID: with time slicing, accepted sections that come at times which
-- separate the frames as they announce, and without it, sections that are accepted often. Of all other services, their PIDs and their stamps
-- nothing is asked
pub record IsRecordedFor (plan : PlanFields) (k : ℕ) (sent : List Record) (datagrams : ℕ → List (List ℕ)) (carries : CarriesFor plan k sent datagrams)
    (recorded : List Record) : Type 0 where
  pub channel : Channel (pids_in plan k) sent recorded
  pub detected : (pid : ℕ) → IsPidOf plan k pid
      → NoUndetectedError channel (span_of plan k pid recorded) (form_of_kind (kind_at plan k)) pid (carries.units pid) (carries.begin pid)
  pub often : (pid : ℕ) (own : IsPidOf plan k pid)
      → IsHeardOften (kind_at plan k) plan.recording (carries.before pid) (carries.units pid) (carries.moments pid) (datagrams pid) (carries.carried pid own)
      (IsAccepted channel (span_of plan k pid recorded) section_form pid (carries.units pid) (carries.begin pid))
  pub moments : (pid : ℕ) (own : IsPidOf plan k pid)
      → HasMomentsFor (kind_at plan k) plan.recording (carries.before pid) (carries.units pid) (carries.moments pid) (datagrams pid) (carries.carried pid own)
      channel (span_of plan k pid recorded) pid (carries.begin pid)

-- the wanted datagrams of service k, of units and datagrams by PID: those on one PID after another
abbrev pub wanted_on_pids : PlanFields → ℕ → (units datagrams : ℕ → List (List ℕ)) → List (List ℕ)
wanted_on_pids plan k units datagrams = flat_map (λ pid. wanted_by (kind_at plan k) (service_on plan k pid) (units pid) (datagrams pid)) (pids_in plan k)

-- service k delivers on each of its PIDs, by its kind, what arrived intact in the span of that PID, and this one PID after another; so all
-- that it delivers are wanted datagrams, unchanged and in order, and the wanted ones are datagrams that were sent
pub record DeliversOverSpans (plan : PlanFields) (k : ℕ) (sent : List Record) (datagrams : ℕ → List (List ℕ)) (carries : CarriesFor plan k sent datagrams)
    (recorded : List Record) (is_recorded : IsRecordedFor plan k sent datagrams carries recorded) (delivered : List (List ℕ)) : Type 0 where
  pub on : ℕ → List (List ℕ)
  pub each : (pid : ℕ) (own : IsPidOf plan k pid)
      → DeliversOn (kind_at plan k) plan.recording (carries.before pid) (carries.units pid) (carries.moments pid) (datagrams pid) (carries.carried pid own)
      is_recorded.channel (span_of plan k pid recorded) (service_on plan k pid) pid (carries.begin pid) (on pid)
  pub delivered_are : delivered ≡ flat_map on (pids_in plan k)
  pub were_wanted : IsSubsequence delivered (wanted_on_pids plan k carries.units datagrams)
  pub were_sent : IsSubsequence (wanted_on_pids plan k carries.units datagrams) (flat_map datagrams (pids_in plan k))
