-- What the files of a `receive` have of what was sent of a capture, directly or over a relay.
use Rattle.std.specs.Prelude.{◌≡◌, ℕ, true, false, List, length}
use Rattle.wire_spec.specs.Lists.{IsCut}
use Rattle.wire_spec.specs.Content.{File}
use Rattle.plan_spec.specs.Plan.{PlanFields, is_baseband}
use Rattle.carrier_spec.specs.Stream.{piece_size}
use Rattle.pcap_file.specs.Capture.{capture_text}
use Rattle.recording_spec.specs.Interleaving.{IsInterleaving}
use Rattle.recording_spec.specs.Relayed.{relayed}
use Rattle.settings_load.specs.Settings.{IsAcceptedFile}
use Rattle.end_to_end_law.specs.Bytes.{DeliversOfBytes}
use Rattle.end_to_end_law.specs.BbBytes.{DeliversOfFrames}
use Rattle.two_runs_law.specs.Sent.{AreSentBytes, DeliversSent, AreSentBytesOfFrames, DeliversSentInFrames}
use Rattle.two_runs_law.specs.Runs.{AreCapturesOf}

-- In transport packets: the files are the captures of what each service delivers of the recording, and this is as the laws say of the datagrams of the capture
pub record ArrivesInPackets (plan : PlanFields) (capture : List ℕ) (told : List (List ℕ)) (bytes : List ℕ) (is : AreSentBytes plan capture told bytes)
    (recording : List ℕ) (files : List File) : Type 0 where
  pub delivered : ℕ → List (List ℕ)
  pub delivers : DeliversOfBytes plan recording delivered
  pub files_are : AreCapturesOf plan delivered files
  pub of_sent : DeliversSent plan capture told bytes is recording delivered

-- the same in baseband frames
pub record ArrivesInFrames (plan : PlanFields) (capture : List ℕ) (told : List (List ℕ)) (bytes : List ℕ) (is : AreSentBytesOfFrames plan capture told bytes)
    (recording : List ℕ) (files : List File) : Type 0 where
  pub delivered : ℕ → List (List ℕ)
  pub delivers : DeliversOfFrames plan recording delivered
  pub files_are : AreCapturesOf plan delivered files
  pub of_sent : DeliversSentInFrames plan capture told bytes is recording delivered

-- Two runs with the same settings: these give a plan, and for it the first run put out what is sent of its capture, and the files of the second have what
-- arrived of that
pub record ArrivesOfSend (settings capture bytes recording : List ℕ) (files : List File) : Type 0 where
  pub gives : (plan : PlanFields) × IsAcceptedFile settings plan
  pub in_packets : (plan : PlanFields) → IsAcceptedFile settings plan → is_baseband plan ≡ false
      → (told : List (List ℕ)) × (is : AreSentBytes plan capture told bytes) × ArrivesInPackets plan capture told bytes is recording files
  pub in_frames : (plan : PlanFields) → IsAcceptedFile settings plan → is_baseband plan ≡ true
      → (told : List (List ℕ)) × (is : AreSentBytesOfFrames plan capture told bytes) × ArrivesInFrames plan capture told bytes is recording files

-- Over a relay.

-- in transport packets: the relayed datagrams are merged of what each service delivers of the recording, and this is as the laws say of the datagrams of the
-- capture
pub record RelaysPackets (plan : PlanFields) (capture : List ℕ) (told : List (List ℕ)) (bytes : List ℕ) (is : AreSentBytes plan capture told bytes)
    (recording : List ℕ) (datagrams : List (List ℕ)) : Type 0 where
  pub delivered : ℕ → List (List ℕ)
  pub delivers : DeliversOfBytes plan recording delivered
  pub merged : IsInterleaving (length plan.services) delivered datagrams
  pub of_sent : DeliversSent plan capture told bytes is recording delivered

-- the same in baseband frames
pub record RelaysFrames (plan : PlanFields) (capture : List ℕ) (told : List (List ℕ)) (bytes : List ℕ) (is : AreSentBytesOfFrames plan capture told bytes)
    (recording : List ℕ) (datagrams : List (List ℕ)) : Type 0 where
  pub delivered : ℕ → List (List ℕ)
  pub delivers : DeliversOfFrames plan recording delivered
  pub merged : IsInterleaving (length plan.services) delivered datagrams
  pub of_sent : DeliversSentInFrames plan capture told bytes is recording delivered

-- Three runs, with the plans that inner and outer settings give, for the pieces of the first recording: what the relay received is what arrived of the first
-- capture, and it put out what is sent of a capture of the datagrams that it received. The files of the third run have what arrived of that
pub record ArrivesOverPlans (inner outer : PlanFields) (pieces : List (List ℕ)) (capture bytes recording onward again : List ℕ) (files : List File) : Type 0 where
  pub first_in_packets : is_baseband inner ≡ false
      → (told : List (List ℕ)) × (is : AreSentBytes inner capture told bytes) × RelaysPackets inner capture told bytes is recording (relayed inner pieces)
  pub first_in_frames : is_baseband inner ≡ true
      → (told : List (List ℕ)) × (is : AreSentBytesOfFrames inner capture told bytes) × RelaysFrames inner capture told bytes is recording (relayed inner pieces)
  pub then_in_packets : is_baseband outer ≡ false
      → (is : AreSentBytes outer (capture_text (relayed inner pieces)) (relayed inner pieces) onward)
      × ArrivesInPackets outer (capture_text (relayed inner pieces)) (relayed inner pieces) onward is again files
  pub then_in_frames : is_baseband outer ≡ true
      → (is : AreSentBytesOfFrames outer (capture_text (relayed inner pieces)) (relayed inner pieces) onward)
      × ArrivesInFrames outer (capture_text (relayed inner pieces)) (relayed inner pieces) onward is again files

pub record ArrivesOverRelay (inner_settings outer_settings capture bytes recording onward again : List ℕ) (files : List File) : Type 0 where
  pub gives_inner : (plan : PlanFields) × IsAcceptedFile inner_settings plan
  pub gives_outer : (plan : PlanFields) × IsAcceptedFile outer_settings plan
  pub arrives : (inner outer : PlanFields) → IsAcceptedFile inner_settings inner → IsAcceptedFile outer_settings outer
      → (pieces : List (List ℕ)) (tail : List ℕ) → IsCut (piece_size inner) recording pieces tail
      → ArrivesOverPlans inner outer pieces capture bytes recording onward again files
