-- The packets of an input stream, one after another: what each of them gives, and what was received with it.
use Rattle.std.specs.Prelude.{◌≡◌, ℕ, ◌+◌, ◌^◌, ◌<◌, ◌≤◌, List, [], ◌∷◌, ◌++◌, length, map, count_by, Option, Some, None, Result}
use Rattle.gse_spec.specs.Packet.{GsePacket, complete_packet, start_packet, middle_packet, end_packet, Reading, packet, cut, reuse_first, short}
use Rattle.gse_spec.specs.Reassembly.{PlacedPacket, Fragments, Outcome, reassembled, no_start, late, wrong_total, wrong_crc, outcome_after, Pdu, pdu_of, pdu_ended_by}
use Rattle.gse_spec.specs.Received.{carried_by_pdu}
use Rattle.gse_spec.specs.Events.{GseEvent, pdu_event, event_of_outcome, event_of_fragments, event_of_middle, event_by, is_pdu_event, is_bad_check, is_delimit, is_bad_length}
use Rattle.gse_spec.specs.Numbers.{IsiNumbers, PduNumbers, pdu_numbers}
use Rattle.gse_packet.specs.Views.{reading_in}
use Rattle.gse_packet.specs.declared.packet.Gse.{Gse}
use Rattle.gse_packet.specs.declared.packet.GseFault.{GseFault}
use Rattle.gse_reassembly.specs.Slots.{SlotsState, open_on, Stands}

-- Of one packet, by what is open on its Frag ID.

-- its Frag ID; a complete packet has none
abbrev pub id_of : GsePacket → ℕ
id_of (complete_packet protocol label pdu) = 0
id_of (start_packet id total protocol label written pdu) = id
id_of (middle_packet id pdu) = id
id_of (end_packet id pdu crc) = id

-- its events
abbrev pub events_on : Option Fragments → ℕ → GsePacket → List GseEvent
events_on open_before frame_number (complete_packet protocol label pdu) = pdu_event ∷ []
events_on open_before frame_number (start_packet id total protocol label written pdu) =
    event_of_fragments (record { frame_number = frame_number; total = total; protocol = protocol; label = label; written = written; bytes = pdu })
events_on open_before frame_number (middle_packet id pdu) = event_of_middle pdu open_before
events_on open_before frame_number (end_packet id pdu crc) = event_of_outcome (outcome_after open_before frame_number pdu crc) ∷ []

-- the PDU that it ends, as a list of at most one
abbrev pub pdus_of_outcome : Outcome → List Pdu
pdus_of_outcome (reassembled f) = record { protocol = f.protocol; label = f.label; bytes = f.bytes } ∷ []
pdus_of_outcome no_start = []
pdus_of_outcome late = []
pdus_of_outcome wrong_total = []
pdus_of_outcome wrong_crc = []

abbrev pub pdus_on : Option Fragments → ℕ → GsePacket → List Pdu
pdus_on open_before frame_number (complete_packet protocol label pdu) = record { protocol = protocol; label = label; bytes = pdu } ∷ []
pdus_on open_before frame_number (start_packet id total protocol label written pdu) = []
pdus_on open_before frame_number (middle_packet id pdu) = []
pdus_on open_before frame_number (end_packet id pdu crc) = pdus_of_outcome (outcome_after open_before frame_number pdu crc)

abbrev pub events_in : SlotsState → GsePacket → List GseEvent
events_in slots p = events_on (open_on slots (id_of p)) slots.frame_number p

abbrev pub pdus_in : SlotsState → GsePacket → List Pdu
pdus_in slots p = pdus_on (open_on slots (id_of p)) slots.frame_number p

-- What was received so far: the place of the frame under way, its number among the received ones, the number of its next packet, the
-- packets with the latest first, their events, how many were refused, and their PDUs.
pub record ReceivedSoFar : Type 0 where
  pub place : ℕ
  pub frame_number : ℕ
  pub index : ℕ
  pub before : List PlacedPacket
  pub events : List GseEvent
  pub refused : ℕ
  pub pdus : List Pdu

-- with one packet more, one refusal more, one reading more of the frame
abbrev pub with_packet : ReceivedSoFar → GsePacket → ReceivedSoFar
with_packet so_far p = record {
  place = so_far.place;
  frame_number = so_far.frame_number;
  index = so_far.index + 1;
  before = record { place = so_far.place; frame_number = so_far.frame_number; index = so_far.index; packet = p } ∷ so_far.before;
  events = so_far.events ++ event_by so_far.before so_far.frame_number p;
  refused = so_far.refused;
  pdus = so_far.pdus ++ map pdu_of (pdu_ended_by so_far.before so_far.place so_far.frame_number so_far.index p);
}

abbrev pub with_refusal : ReceivedSoFar → ReceivedSoFar
with_refusal so_far = record so_far { refused = so_far.refused + 1 }

abbrev pub with_reading : ReceivedSoFar → Reading → ReceivedSoFar
with_reading so_far (packet p) = with_packet so_far p
with_reading so_far cut = with_refusal so_far
with_reading so_far reuse_first = with_refusal so_far
with_reading so_far short = with_refusal so_far

abbrev pub with_readings : ReceivedSoFar → List Reading → ReceivedSoFar
with_readings so_far [] = so_far
with_readings so_far (reading ∷ readings) = with_readings (with_reading so_far reading) readings

-- the numbers of the input stream with these events and refusals
abbrev pub numbers_with : ℕ → List GseEvent → ℕ → IsiNumbers
numbers_with heard events refused = record {
  heard = heard;
  units = count_by is_pdu_event events;
  bad_check = count_by is_bad_check events;
  delimited = count_by is_delimit events;
  bad_length = count_by is_bad_length events + refused;
}

-- slots and numbers stand for what was received so far of a service with this filter
pub record StandsSoFar (filter : List (List ℕ)) (so_far : ReceivedSoFar) (slots : SlotsState) (on_isi : IsiNumbers) (on_pdus : PduNumbers) : Type 0 where
  pub stands : Stands slots so_far.before
  pub frame_number_is : slots.frame_number ≡ so_far.frame_number
  pub of_isi_are : on_isi ≡ numbers_with so_far.frame_number so_far.events so_far.refused
  pub of_pdus_are : on_pdus ≡ pdu_numbers carried_by_pdu filter so_far.pdus
  pub few_pdus : length so_far.pdus ≤ length so_far.events

-- the same, where these readings are still to come, and no counter reaches its last value
pub record IsGoingOn (filter : List (List ℕ)) (so_far : ReceivedSoFar) (left : List Reading) (slots : SlotsState) (on_isi : IsiNumbers) (on_pdus : PduNumbers) : Type 0 where
  pub stand : StandsSoFar filter so_far slots on_isi on_pdus
  pub few : length so_far.events + so_far.refused + length left < 2 ^ 64

-- an answer gives the next of the readings to come
abbrev pub GivesNext : List Reading → Option (Result Gse GseFault) → List Reading → Type 0
GivesNext old None new = (old ≡ []) × (new ≡ [])
GivesNext old (Some reading) new = old ≡ reading_in reading ∷ new
