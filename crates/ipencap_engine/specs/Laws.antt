-- What the laws of receptions say of a run: which recording it read, what its services deliver, and what its files have of it.
use Rattle.std.specs.Prelude.{◌≡◌, ℕ, ◌<◌, true, false, List, [], ◌∷◌, length, map, flat_map, take, Some, ⊤}
use Rattle.std.specs.Io.KnownBytes.{Appends}
use Rattle.wire_spec.specs.Lists.{joined, IsCut, IsSubsequence}
use Rattle.ts_spec.specs.Recording.{Record, plain, records_of}
use Rattle.ts_spec.specs.Received.{arrivals}
use Rattle.ts_spec.specs.Sndu.{sndu_form}
use Rattle.ts_spec.specs.Packetized.{unit_at, Packetizes}
use Rattle.channel_spec.specs.Channel.{Channel}
use Rattle.channel_spec.specs.Carried.{packets_sent, NoUndetectedError}
use Rattle.channel_law.specs.Words.{timed_packet}
use Rattle.gse_spec.specs.Channel.{FrameChannel}
use Rattle.gse_spec.specs.Received.{delivered_by_pdu}
use Rattle.gse_spec.specs.Carried.{sent_pdu, NoUndetectedError as NoUndetectedErrorOfPdus, DeliversIntact}
use Rattle.gse_law.specs.Streams.{frames_of}
use Rattle.bridge_spec.specs.Frames.{BridgeCarrier, on_pid, on_isi, frame_of_sndu, frame_of_pdu, size_of_piece}
use Rattle.bridge_spec.specs.Carried.{DeliversUnits, CarriesOnPid, CarriesOnIsi}
use Rattle.unbridge_command.specs.Unbridging.{AddsBridge}
use Rattle.unbridge_command.specs.Parts.{HasBridgePart}
use Rattle.pcap_file.specs.Capture.{capture_text, ethernet_capture}
use Rattle.plan_spec.specs.Plan.{PlanFields, is_baseband}
use Rattle.plan_spec.specs.Offered.{offered_in}
use Rattle.carrier_spec.specs.Stream.{piece_size, IsSentStream}
use Rattle.loss_law.specs.Loss.{CarriesFor}
use Rattle.plan_spec.specs.Changes.{pids_in}
use Rattle.intact_law.specs.Intact.{AreIntact, AreIntactPdus, CarriesUnitsFor, DeliversIntactUnits, DeliversIntactPdus}
use Rattle.loss_law.specs.Spans.{IsRecordedFor, DeliversOverSpans}
use Rattle.bb_loss_law.specs.Plans.{isis_of, CarriesInFramesFor, IsRecordedInFramesFor, DeliversOnIsi}
use Rattle.recording_spec.specs.Pieces.{records_in}
use Rattle.recording_spec.specs.Relayed.{as_records}
use Rattle.recording_spec.specs.Interleaving.{IsInterleaving}
use Rattle.capture_files.specs.Files.{AddsCaptures, AddsParts}
use Rattle.ipencap_engine.specs.World.{World}
use Rattle.ipencap_engine.specs.Jobs.{Job, a_recording, a_relayed, an_ethernet_recording, row, IsPlanOf, IsOuter}
use Rattle.ipencap_engine.specs.declared.status.Status.{Status}
use Rattle.ipencap_engine.specs.declared.status.Status.TheVariants as status

-- the told input of a job that adds files, each of the datagrams that a recording delivers: these records or frames of its plan, and after
-- them fewer bytes than one has
pub record TellsRecording (job : Job) (before after : World) (plan : PlanFields) (pieces : List (List ℕ)) : Type 0 where
  pub reads : (row job).intake ≡ a_recording
  pub files : (row job).has_files ≡ true
  pub plan_is : IsPlanOf job after.shelf plan
  pub bytes : List ℕ
  pub told : before.input.left ≡ Some bytes
  pub tail : List ℕ
  pub cut : IsCut (piece_size plan) bytes pieces tail

-- the files of all services were added, each the capture of its datagrams, and flushed
abbrev pub AddsDelivered : PlanFields → (ℕ → List (List ℕ)) → World → World → Type 0
AddsDelivered plan delivered before after = AddsCaptures true (λ k. capture_text (delivered k)) plan.services before.rack.files after.rack.files

-- The loss law of service k, of all that can have been sent of it under the plan, whatever became of the records that were sent, and of all other
-- services. Of what was sent, and of its recording, only so much is asked as this service asks.
pub record DeliversArrived (plan : PlanFields) (pieces : List (List ℕ)) (k : ℕ) (delivered : List (List ℕ)) : Type 0 where
  -- whatever errors go undetected, and whatever moments records have: it delivers the wanted datagrams of any units that arrived intact in the span
  -- of their PID, in order
  pub intact : (sent : List Record) (units : ℕ → List (List ℕ)) (begin : ℕ → ℕ → ℕ) → CarriesUnitsFor plan k sent units begin
      → (channel : Channel (pids_in plan k) sent (records_in plan pieces)) → DeliversIntactUnits plan k sent units begin (records_in plan pieces) channel delivered
  -- where no error goes undetected: it delivers nothing but wanted datagrams, that of each unit at most once, among them what arrived intact, and of
  -- MPE-FEC frames what is corrected
  pub arrived : (sent : List Record) (datagrams : ℕ → List (List ℕ)) (carries : CarriesFor plan k sent datagrams)
      (recorded : IsRecordedFor plan k sent datagrams carries (records_in plan pieces))
      → DeliversOverSpans plan k sent datagrams carries (records_in plan pieces) recorded delivered

-- the same of baseband frames, of which none of its ISI is repeated, and damaged ones are refused or of another ISI
pub record DeliversKept (plan : PlanFields) (frames : List (List ℕ)) (k : ℕ) (delivered : List (List ℕ)) : Type 0 where
  pub intact : (sent : List (List ℕ)) (channel : FrameChannel (isis_of plan k) sent frames) → DeliversIntactPdus plan k sent frames channel delivered
  pub arrived : (sent datagrams : List (List ℕ)) → CarriesInFramesFor plan k sent datagrams → (recorded : IsRecordedInFramesFor plan k sent frames)
      → DeliversOnIsi plan k sent frames recorded datagrams delivered

-- the statuses at which all files of a job are whole: at SinkFault the report alone is not
abbrev pub HasWholeFiles : Status → Type 0
HasWholeFiles status.Done = ⊤
HasWholeFiles status.SinkFault = ⊤
HasWholeFiles status.Usage = ⊥
HasWholeFiles status.Settings = ⊥
HasWholeFiles status.Capture = ⊥
HasWholeFiles status.ShelfFault = ⊥
HasWholeFiles status.SourceFault = ⊥
HasWholeFiles status.RackFault = ⊥
HasWholeFiles status.OutOfMemory = ⊥
HasWholeFiles status.TooLong = ⊥

-- each service delivers datagrams of which this holds; at Done and at SinkFault these are in the files, and whatever the end is, the files are
-- those of the first services, each with a prefix of its capture
pub record Arrives (plan : PlanFields) (Holds : ℕ → List (List ℕ) → Type 0) (end : Status) (before after : World) : Type 0 where
  pub delivered : ℕ → List (List ℕ)
  pub holds : (k : ℕ) → k < length plan.services → Holds k (delivered k)
  pub whole : HasWholeFiles end → AddsDelivered plan delivered before after
  pub front : AddsParts (λ k. capture_text (delivered k)) plan.services before.rack.files after.rack.files

-- Relays.

-- the told input of a relay: these records or frames of its first plan, and after them fewer bytes than one has
pub record TellsRelayed (job : Job) (before after : World) (plan : PlanFields) (pieces : List (List ℕ)) : Type 0 where
  pub reads : (row job).intake ≡ a_relayed
  pub plan_is : IsPlanOf job after.shelf plan
  pub bytes : List ℕ
  pub told : before.input.left ≡ Some bytes
  pub tail : List ℕ
  pub cut : IsCut (piece_size plan) bytes pieces tail

-- the loss law of service k on the carrier of the plan
pub record DeliversOnCarrier (plan : PlanFields) (pieces : List (List ℕ)) (k : ℕ) (delivered : List (List ℕ)) : Type 0 where
  pub in_packets : is_baseband plan ≡ false → DeliversArrived plan pieces k delivered
  pub in_frames : is_baseband plan ≡ true → DeliversKept plan pieces k delivered

-- Each service of the first plan delivers datagrams of which the loss law holds. These lists, merged into one, are offered under the second plan as
-- the records of a capture are: at Done the stream of them was put out, and at SinkFault a prefix of it.
pub record RelaysDelivered (plan : PlanFields) (pieces : List (List ℕ)) (job : Job) (end : Status) (before after : World) : Type 0 where
  pub delivered : ℕ → List (List ℕ)
  pub holds : (k : ℕ) → k < length plan.services → DeliversOnCarrier plan pieces k (delivered k)
  pub offered : List (List ℕ)
  pub merged : IsInterleaving (length plan.services) delivered offered
  pub whole : end ≡ status.Done → (outer : PlanFields) → IsOuter job after.shelf outer
      → (stream : List (List ℕ)) × IsSentStream outer (offered_in outer (as_records offered)) stream × Appends before.output.held after.output.held (joined stream)
  pub front : end ≡ status.SinkFault → (outer : PlanFields) → IsOuter job after.shelf outer
      → (stream : List (List ℕ)) × IsSentStream outer (offered_in outer (as_records offered)) stream
      × (count : ℕ) × Appends before.output.held after.output.held (take count (joined stream))

-- Ethernet frames.

-- the told input of a job that receives Ethernet frames: these pieces of what carries them, and after them fewer bytes than one has
pub record TellsFrames (job : Job) (before : World) (carrier : BridgeCarrier) (pieces : List (List ℕ)) : Type 0 where
  pub reads : (row job).intake ≡ an_ethernet_recording carrier
  pub files : (row job).has_files ≡ true
  pub bytes : List ℕ
  pub told : before.input.left ≡ Some bytes
  pub tail : List ℕ
  pub cut : IsCut (size_of_piece carrier) bytes pieces tail

-- The loss law of Ethernet frames. The pieces come from what carried these frames, through the channel of this PID or ISI. No SNDU of the PID is
-- accepted that was not sent, at its own place, and no PDU is reassembled from fragments on the ISI that was not. Then those received are a
-- subsequence of those sent, unchanged, with every one whose SNDU or PDU arrived intact
abbrev pub DeliversFrames : BridgeCarrier → (pieces : List (List ℕ)) → (received : List (List ℕ)) → Type 0
DeliversFrames (on_pid pid) pieces received = (sent : List Record) (frames : List (List ℕ)) (carries : CarriesOnPid pid sent frames)
    (channel : Channel (pid ∷ []) sent (records_of plain pieces)) → NoUndetectedError channel (records_of plain pieces) sndu_form pid carries.units carries.begin
    → DeliversUnits channel (records_of plain pieces) frame_of_sndu pid carries.units carries.begin frames received
DeliversFrames (on_isi isi) pieces received = (sent frames : List (List ℕ)) → CarriesOnIsi isi sent frames → (channel : FrameChannel (isi ∷ []) sent pieces)
    → NoUndetectedErrorOfPdus channel isi → DeliversIntact channel frame_of_pdu [] isi frames received

-- Whatever errors go undetected, and whatever the SNDUs carry: the frames of any SNDUs or PDUs that arrived intact are, in order, a subsequence of
-- those received
abbrev pub DeliversIntactFrames : BridgeCarrier → (pieces : List (List ℕ)) → (received : List (List ℕ)) → Type 0
DeliversIntactFrames (on_pid pid) pieces received = (sent : List Record) (units : List (List ℕ)) (begin : ℕ → ℕ) → Packetizes sndu_form units (packets_sent pid sent) begin
    → (channel : Channel (pid ∷ []) sent (records_of plain pieces)) (intact : List ℕ) → AreIntact channel (records_of plain pieces) pid units begin intact
    → IsSubsequence (flat_map (λ n. frame_of_sndu (unit_at units n)) intact) received
DeliversIntactFrames (on_isi isi) pieces received = (sent : List (List ℕ)) (channel : FrameChannel (isi ∷ []) sent pieces) (intact : List ℕ) → AreIntactPdus channel isi intact
    → IsSubsequence (flat_map (λ n. delivered_by_pdu frame_of_pdu [] (sent_pdu isi sent n)) intact) received

-- what is received of the pieces has this; at Done it is in the file, and whatever the end is, there is no file, or one with a prefix of the capture
pub record FramesArrive (carrier : BridgeCarrier) (pieces : List (List ℕ)) (end : Status) (before after : World) : Type 0 where
  pub received : List (List ℕ)
  pub intact : DeliversIntactFrames carrier pieces received
  pub arrived : DeliversFrames carrier pieces received
  pub whole : end ≡ status.Done → AddsBridge true (ethernet_capture received) before.rack.files after.rack.files
  pub front : HasBridgePart (ethernet_capture received) before.rack.files after.rack.files

-- both have the same readable packets of the PID, or the same readable frames of the ISI, in the same order, whatever stands on other PIDs or ISIs
abbrev pub SameOnCarrier : BridgeCarrier → (pieces others : List (List ℕ)) → Type 0
SameOnCarrier (on_pid pid) pieces others = map timed_packet (arrivals pid (records_of plain pieces)) ≡ map timed_packet (arrivals pid (records_of plain others))
SameOnCarrier (on_isi isi) pieces others = frames_of isi pieces ≡ frames_of isi others
