-- What a reception of one service stands for.
use Rattle.std.specs.Prelude.{◌≡◌, ℕ, ◌+◌, ◌*◌, ◌^◌, ◌<◌, ◌≤◌, true, List, [], length, Some}
use Rattle.plan_spec.specs.Plan.{ServiceFields, isi_of}
use Rattle.gse_spec.specs.Frame.{is_frame, frame_fields}
use Rattle.gse_spec.specs.Reassembly.{latest_first}
use Rattle.gse_spec.specs.Received.{received_gse_packets}
use Rattle.gse_spec.specs.Events.{gse_events}
use Rattle.gse_spec.specs.Numbers.{received_frame_count, refused_packets, IsiNumbers, PduNumbers}
use Rattle.bb_frame.specs.Views.{fields_in}
use Rattle.bb_frame.specs.declared.frame.Frame.{Frame}
use Rattle.gse_reassembly.specs.Slots.{SlotsState, Stands}
use Rattle.bb_reception_spec.specs.Numbers.{service_numbers, service_pdu_numbers}

-- what is open on each Frag ID, and all numbers
pub record GseReceptionState : Type 0 where
  pub slots : SlotsState
  pub of_isi : IsiNumbers
  pub of_pdus : PduNumbers

-- these frames were received of a service. Each received one gave 8,191 events and refusals at most, since DFL counts bits
pub record HasTaken (service : ServiceFields) (state : GseReceptionState) (frames : List (List ℕ)) : Type 0 where
  pub isi : ℕ
  pub isi_is : isi_of service.kind ≡ Some isi
  pub stands : Stands state.slots (latest_first [] (received_gse_packets isi frames))
  pub frame_number_is : state.slots.frame_number ≡ received_frame_count isi frames
  pub of_isi_are : state.of_isi ≡ service_numbers service frames
  pub of_pdus_are : state.of_pdus ≡ service_pdu_numbers service frames
  pub few : length (gse_events isi frames) + refused_packets isi frames ≤ 8191 * received_frame_count isi frames

-- the same, fewer than 2^32 of them, where one more frame of this ISI is to be taken, and the service has this filter
pub record IsReceiving (filter : List (List ℕ)) (isi : ℕ) (service : ServiceFields) (state : GseReceptionState) (frames : List (List ℕ)) : Type 0 where
  pub filter_is : service.filter ≡ filter
  pub of_isi : isi_of service.kind ≡ Some isi
  pub few : length frames < 2 ^ 32
  pub received : HasTaken service state frames

-- the frame was read from these bytes
pub record IsRead (frame : Frame) (bytes : List ℕ) : Type 0 where
  pub readable : is_frame bytes ≡ true
  pub fields_are : frame_fields bytes ≡ fields_in frame
