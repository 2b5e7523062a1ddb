-- What reassembly tells of each start, packet by packet.
use Rattle.std.specs.Prelude.{ℕ, not, ◌&&◌, List, [], ◌∷◌, ◌++◌, if◌then◌else◌, flat_map}
use Rattle.ts_spec.specs.Form.{UnitForm}
use Rattle.ts_spec.specs.Packet.{PacketFields, pointer_fits}
use Rattle.ts_spec.specs.Received.{Arrival, packet_of}
use Rattle.ts_spec.specs.Reassembly.{bytes_from, Outcome, candidate, bad_length, delimit, no_outcome, outcome_of, unit_starts}

-- what reassembly reports of a start: a unit with the moment of its first packet; a unit whose check fails; a unit lost to a delimiting error; a bad length
pub data Event : Type 0 where
  unit_event : ℕ → List ℕ → Event
  bad_check_event : Event
  delimit_event : Event
  bad_length_event : Event

-- the event of an outcome
abbrev pub event_by : UnitForm → ℕ → Outcome → List Event
event_by form moment (candidate unit) = (if form.check unit then unit_event moment unit else bad_check_event) ∷ []
event_by form moment bad_length = bad_length_event ∷ []
event_by form moment delimit = delimit_event ∷ []
event_by form moment no_outcome = []

-- the event of a start
abbrev pub event_at : UnitForm → Arrival → List Arrival → ℕ → List Event
event_at form arrival behind start = event_by form arrival.moment (outcome_of form (bytes_from start (packet_of arrival) behind))

-- a start indicator with a pointer that does not fit is a delimiting error of its own
abbrev pub misfit_events : PacketFields → List Event
misfit_events packet = if packet.starts && not (pointer_fits packet) then delimit_event ∷ [] else []

-- the events of the starts of one packet
abbrev pub packet_events : UnitForm → Arrival → List Arrival → List Event
packet_events form arrival behind =
    misfit_events (packet_of arrival) ++ flat_map (event_at form arrival behind) (unit_starts form (packet_of arrival))

-- the events of the received packets, in the order of their starts
abbrev pub events_of : UnitForm → List Arrival → List Event
events_of form [] = []
events_of form (arrival ∷ behind) = packet_events form arrival behind ++ events_of form behind
