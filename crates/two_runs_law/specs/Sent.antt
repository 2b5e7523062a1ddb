-- The bytes of what is sent of a capture, and what is delivered of any other bytes that came from them.
use Rattle.std.specs.Prelude.{◌≡◌, ℕ, ◌<◌, List, [], length, filter}
use Rattle.wire_spec.specs.Lists.{joined, IsCut, IsSubsequence}
use Rattle.ts_spec.specs.Recording.{record_size, records_of}
use Rattle.channel_spec.specs.Channel.{Channel}
use Rattle.gse_spec.specs.Channel.{FrameChannel}
use Rattle.plan_spec.specs.Plan.{PlanFields}
use Rattle.plan_spec.specs.Changes.{pids_in}
use Rattle.plan_spec.specs.Offered.{offered_in_all}
use Rattle.carrier_spec.specs.Stream.{piece_size}
use Rattle.stream_spec.specs.Services.{Carries}
use Rattle.stream_law.specs.Captures.{given_by}
use Rattle.loss_law.specs.Loss.{service_at, carries_for}
use Rattle.bb_loss_law.specs.Plans.{IsIsiOf, isis_of, AllArrivedIntact}
use Rattle.bb_stream_spec.specs.Stream.{order_of}
use Rattle.end_to_end_law.specs.Units.{wants_datagram}
use Rattle.end_to_end_law.specs.Sent.{offered_on, IsSent, sent_records, SendsOneUnitEach}
use Rattle.end_to_end_law.specs.Spans.{DeliversOfSpans}
use Rattle.end_to_end_law.specs.Bytes.{IsRecordingFor}
use Rattle.end_to_end_law.specs.BbSent.{IsSentInFrames, wants_in_frames}
use Rattle.end_to_end_law.specs.BbDelivered.{DeliversNumbered}
use Rattle.end_to_end_law.specs.BbBytes.{IsRecordingOfFramesFor}
use Rattle.intact_law.specs.Intact.{DeliversIntactUnits, DeliversIntactPdus, AllUnitsArrivedIntact}

-- In transport packets.

-- the bytes are those of the records that are sent of what a capture offers, which has these captured bytes in its records
pub record AreSentBytes (plan : PlanFields) (capture : List ℕ) (told : List (List ℕ)) (bytes : List ℕ) : Type 0 where
  pub records : List (List ℕ)
  pub sent : IsSent plan capture told records
  pub bytes_are : bytes ≡ joined records

-- all that a capture offers to service k, and its filter wants, in order
abbrev pub wanted_of_capture : PlanFields → List ℕ → List (List ℕ) → ℕ → List (List ℕ)
wanted_of_capture plan capture told k = filter (wants_datagram (service_at plan k)) (offered_in_all plan (given_by capture told) k)

-- What each service delivers of a recording, by the datagrams of the capture whose stream was sent. The recording is cut into records, and these came from those
-- that were sent through a channel, as one service sees it
pub record DeliversSent (plan : PlanFields) (capture : List ℕ) (told : List (List ℕ)) (bytes : List ℕ) (is : AreSentBytes plan capture told bytes)
    (recording : List ℕ) (delivered : ℕ → List (List ℕ)) : Type 0 where
  pub cut : IsCut (record_size plan.recording) bytes is.records []
  pub carries : Carries plan (sent_records plan is.records) (offered_on plan capture told)
  pub units : SendsOneUnitEach plan (sent_records plan is.records) (offered_on plan capture told) carries
  -- whatever errors go undetected: the wanted datagrams of units that arrived intact
  pub intact : (k : ℕ) → k < length plan.services → (pieces : List (List ℕ)) (tail : List ℕ) → IsCut (record_size plan.recording) recording pieces tail
      → (channel : Channel (pids_in plan k) (sent_records plan is.records) (records_of plan.recording pieces))
      → DeliversIntactUnits plan k (sent_records plan is.records) (carries.units k) (carries.begin k) (records_of plan.recording pieces) channel (delivered k)
  -- so where each unit arrived intact, all that the capture offers and the service wants, in order
  pub none_missing : (k : ℕ) → k < length plan.services → (pieces : List (List ℕ)) (tail : List ℕ) → IsCut (record_size plan.recording) recording pieces tail
      → (channel : Channel (pids_in plan k) (sent_records plan is.records) (records_of plan.recording pieces))
      → AllUnitsArrivedIntact plan k (sent_records plan is.records) (carries.units k) (carries.begin k) (records_of plan.recording pieces) channel
      → IsSubsequence (wanted_of_capture plan capture told k) (delivered k)
  -- where none goes undetected: wanted datagrams of the capture alone, in order, with what arrived intact
  pub arrived : (k : ℕ) → k < length plan.services
      → (is_recording : IsRecordingFor plan k (sent_records plan is.records) (offered_on plan capture told k) (carries_for carries k) recording)
      → DeliversOfSpans plan k (sent_records plan is.records) (offered_on plan capture told k) (carries_for carries k) (records_of plan.recording is_recording.pieces)
      is_recording.is_recorded (offered_in_all plan (given_by capture told) k) (delivered k)
  -- of the very bytes that were sent: all that the capture offers and the service wants
  pub all : recording ≡ bytes → (k : ℕ) → k < length plan.services → delivered k ≡ wanted_of_capture plan capture told k

-- In baseband frames.

-- the bytes are those of the frames that are sent of what a capture offers
pub record AreSentBytesOfFrames (plan : PlanFields) (capture : List ℕ) (told : List (List ℕ)) (bytes : List ℕ) : Type 0 where
  pub frames : List (List ℕ)
  pub sent : IsSentInFrames plan capture told frames
  pub bytes_are : bytes ≡ joined frames

-- all that a capture offers to service k, and its filter wants, in the order of frames of this size: where the service has urgent rules, that in which PDUs end
abbrev pub wanted_in_order : PlanFields → ℕ → List ℕ → List (List ℕ) → ℕ → List (List ℕ)
wanted_in_order plan size capture told k = filter (wants_in_frames (service_at plan k)) (order_of plan size k (offered_in_all plan (given_by capture told) k))

-- what each service delivers of a recording in frames, by the datagrams of the capture
pub record DeliversSentInFrames (plan : PlanFields) (capture : List ℕ) (told : List (List ℕ)) (bytes : List ℕ) (is : AreSentBytesOfFrames plan capture told bytes)
    (recording : List ℕ) (delivered : ℕ → List (List ℕ)) : Type 0 where
  pub cut : IsCut (piece_size plan) bytes is.frames []
  pub intact : (k : ℕ) → k < length plan.services → (pieces : List (List ℕ)) (tail : List ℕ) → IsCut (piece_size plan) recording pieces tail
      → (channel : FrameChannel (isis_of plan k) is.frames pieces) → DeliversIntactPdus plan k is.frames pieces channel (delivered k)
  pub none_missing : (k isi : ℕ) → IsIsiOf plan k isi → (pieces : List (List ℕ)) (tail : List ℕ) → IsCut (piece_size plan) recording pieces tail
      → (channel : FrameChannel (isis_of plan k) is.frames pieces) → AllArrivedIntact plan k is.frames pieces channel
      → IsSubsequence (wanted_in_order plan (is.sent).stream.size capture told k) (delivered k)
  pub arrived : (k isi : ℕ) → IsIsiOf plan k isi → (is_recording : IsRecordingOfFramesFor plan k is.frames recording)
      → DeliversNumbered is_recording.is_recorded.channel isi (service_at plan k)
      (order_of plan (is.sent).stream.size k (offered_in_all plan (given_by capture told) k)) (delivered k)
  pub all : recording ≡ bytes → (k : ℕ) → k < length plan.services → delivered k ≡ wanted_in_order plan (is.sent).stream.size capture told k
