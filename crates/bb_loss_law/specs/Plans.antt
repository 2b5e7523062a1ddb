-- What the services of a plan deliver, whatever becomes of baseband frames on their way.
use Rattle.std.specs.Prelude.{◌≡◌, ℕ, ◌<◌, List, [], length, Some, option_to_list}
use Rattle.plan_spec.specs.Plan.{PlanFields, isi_of}
use Rattle.gse_spec.specs.Received.{carried_by_pdu, received_pdus}
use Rattle.gse_spec.specs.Channel.{FrameChannel}
use Rattle.gse_spec.specs.Carried.{CarriesPdus, NoUndetectedError, ArrivedIntact, wanted_datagrams, DeliversIntact}
use Rattle.gse_law.specs.Streams.{frames_of}
use Rattle.bb_reception_spec.specs.Delivered.{service_at}

-- service k of a plan has this ISI
pub record IsIsiOf (plan : PlanFields) (k isi : ℕ) : Type 0 where
  pub service : k < length plan.services
  pub own : isi_of (service_at plan k).kind ≡ Some isi

-- the ISI of service k, as a list of at most one
abbrev pub isis_of : PlanFields → ℕ → List ℕ
isis_of plan k = option_to_list (isi_of (service_at plan k).kind)

-- the frames carry these datagrams of service k: the readable frames of its ISI do, in order. Of other frames nothing is asked
abbrev pub CarriesInFramesFor : PlanFields → ℕ → (sent datagrams : List (List ℕ)) → Type 0
CarriesInFramesFor plan k sent datagrams = (isi : ℕ) → IsIsiOf plan k isi → CarriesPdus carried_by_pdu isi sent datagrams

-- two channels between the same recordings, for receivers of different ISIs, in which each frame comes from the same place
pub record IsSameFrameChannel {isis others : List ℕ} {sent recorded : List (List ℕ)} (channel : FrameChannel isis sent recorded) (other : FrameChannel others sent recorded) : Type 0 where
  pub place : (j : ℕ) → other.place j ≡ channel.place j

-- a recording of what was sent, as service k asks it. It came through the channel, which drops frames, and inserts refused ones and those of
-- other ISIs, and none is repeated; and on the ISI of the service no fragments are reassembled to a PDU that was not sent
pub record IsRecordedInFramesFor (plan : PlanFields) (k : ℕ) (sent recorded : List (List ℕ)) : Type 0 where
  pub channel : FrameChannel (isis_of plan k) sent recorded
  pub detected : (isi : ℕ) → IsIsiOf plan k isi → NoUndetectedError channel isi

-- service k delivers, of what was sent on its ISI, what arrived intact
pub record DeliversOnIsi (plan : PlanFields) (k : ℕ) (sent recorded : List (List ℕ)) (is_recorded : IsRecordedInFramesFor plan k sent recorded)
    (datagrams delivered : List (List ℕ)) : Type 0 where
  pub each : (isi : ℕ) → IsIsiOf plan k isi → DeliversIntact is_recorded.channel carried_by_pdu (service_at plan k).filter isi datagrams delivered

-- what was sent on an ISI and is wanted by service k
abbrev pub wanted_of : PlanFields → ℕ → ℕ → List (List ℕ) → List (List ℕ)
wanted_of plan k isi sent = wanted_datagrams carried_by_pdu (service_at plan k).filter isi sent

-- service k delivers all wanted datagrams, in order and each once, and without a filter all that were sent
pub record DeliversAll (plan : PlanFields) (k : ℕ) (sent datagrams delivered : List (List ℕ)) : Type 0 where
  pub wanted : (isi : ℕ) → IsIsiOf plan k isi → delivered ≡ wanted_of plan k isi sent
  pub unfiltered : (isi : ℕ) → IsIsiOf plan k isi → (service_at plan k).filter ≡ [] → delivered ≡ datagrams

-- all PDUs on the ISI of service k arrived intact
abbrev pub AllArrivedIntact : (plan : PlanFields) (k : ℕ) (sent recorded : List (List ℕ)) → FrameChannel (isis_of plan k) sent recorded → Type 0
AllArrivedIntact plan k sent recorded channel = (isi n : ℕ) → IsIsiOf plan k isi → n < length (received_pdus isi sent) → ArrivedIntact channel isi n

-- two recordings have the same readable frames of service k, in the same order
abbrev pub SameFramesFor : PlanFields → ℕ → List (List ℕ) → List (List ℕ) → Type 0
SameFramesFor plan k frames others = (isi : ℕ) → isi_of (service_at plan k).kind ≡ Some isi → frames_of isi frames ≡ frames_of isi others
