-- The unit under way after some packets, and what one packet more adds to their events.
use Rattle.std.specs.Prelude.{◌≡◌, ℕ, ◌<◌, ◌≤◌, Bool, true, false, not, ◌&&◌, List, [], ◌∷◌, ◌++◌, length, nat_le, if◌then◌else◌, flat_map, map, Contains, ◌≢◌}
use Rattle.ts_spec.specs.Form.{UnitForm, Span, more, stuffing, whole, bad}
use Rattle.ts_spec.specs.Packet.{PacketFields, continues}
use Rattle.ts_spec.specs.Received.{Arrival, packet_of}
use Rattle.ts_spec.specs.Reassembly.{Given, with_payload, ended_by, given_by, bytes_from, outcome_of, unit_starts, PlacedUnit, accepted_in}
use Rattle.ts_spec.specs.Events.{Event, unit_event, bad_check_event, delimit_event, bad_length_event, event_by, packet_events, events_of}
use Rattle.ts_spec.specs.Packetized.{no_packet}

-- nothing has ended the list after the packet: each packet is continuous and without the start indicator (RFC 4326 section 7)
abbrev pub runs_on : PacketFields → List Arrival → Bool
runs_on before [] = true
runs_on before (arrival ∷ behind) =
    continues before (packet_of arrival) && (not (packet_of arrival).starts && runs_on (packet_of arrival) behind)

-- so many bytes tell the outcome, whatever follows
abbrev pub is_told : Span → ℕ → Bool
is_told more size = false
is_told stuffing size = false
is_told (whole n) size = nat_le n size
is_told bad size = true

-- a unit under way: the moment of its first packet and the bytes that came (RFC 4326 section 7)
pub record Open : Type 0 where
  pub moment : ℕ
  pub bytes : List ℕ

-- the unit under way with these bytes, as a list: none where they tell the outcome
abbrev pub unless_told : UnitForm → ℕ → List ℕ → List Open
unless_told form moment bytes =
    if is_told (form.span bytes) (length bytes) then [] else record { moment = moment; bytes = bytes } ∷ []

-- the unit that begins at a start, where it is under way
abbrev pub open_at : UnitForm → Arrival → List Arrival → ℕ → List Open
open_at form arrival behind start =
    if runs_on (packet_of arrival) behind
    then unless_told form arrival.moment (bytes_from start (packet_of arrival) behind).payloads
    else []

-- the unit under way after some packets: one or none (RFC 4326 section 7)
abbrev pub open_units : UnitForm → List Arrival → List Open
open_units form [] = []
open_units form (arrival ∷ behind) = flat_map (open_at form arrival behind) (unit_starts form (packet_of arrival)) ++ open_units form behind

-- the last packet of some
abbrev pub last_packet : PacketFields → List Arrival → PacketFields
last_packet before [] = before
last_packet before (arrival ∷ behind) = last_packet (packet_of arrival) behind

-- nothing has come yet
abbrev pub nothing_given : Given
nothing_given = record { payloads = []; rest = []; is_ended = false }

-- what the next packet gives: a continuous one its payload, or its pointer's bytes; another one nothing (RFC 4326 section 7)
abbrev pub given_next : Bool → PacketFields → Given
given_next is_continuous packet = if is_continuous then given_by packet nothing_given else ended_by packet

-- the event of a unit under way by the next packet, where there is one
abbrev pub resumed : UnitForm → Bool → PacketFields → Open → List Event
resumed form is_continuous packet unit =
    event_by form unit.moment (outcome_of form (with_payload unit.bytes (given_next is_continuous packet)))

-- the unit where it is still under way after the next packet
abbrev pub still_open : UnitForm → Bool → PacketFields → Open → List Open
still_open form is_continuous packet unit =
    if is_continuous && (not packet.starts && true) then unless_told form unit.moment (unit.bytes ++ packet.payload) else []

-- the events of one packet more, after a unit under way or none
abbrev pub new_events : UnitForm → Bool → List Open → Arrival → List Event
new_events form is_continuous under_way next =
    flat_map (resumed form is_continuous (packet_of next)) under_way ++ packet_events form next []

-- the unit under way after one packet more
abbrev pub new_under_way : UnitForm → Bool → List Open → Arrival → List Open
new_under_way form is_continuous under_way next =
    flat_map (still_open form is_continuous (packet_of next)) under_way ++ flat_map (open_at form next []) (unit_starts form (packet_of next))

-- the unit of an event, with its moment
abbrev pub unit_of_event : Event → List (ℕ × List ℕ)
unit_of_event (unit_event moment unit) = (moment, unit) ∷ []
unit_of_event bad_check_event = []
unit_of_event delimit_event = []
unit_of_event bad_length_event = []

-- reassembly packet by packet: the events of one packet more, and the unit under way after it, follow from
-- the unit under way before it
pub record OnePacketMore (form : UnitForm) (packets : List Arrival) (next : Arrival) : Type 0 where
  pub events : events_of form (packets ++ next ∷ []) ≡ events_of form packets
      ++ new_events form (continues (last_packet no_packet packets) (packet_of next)) (open_units form packets) next
  pub under_way : open_units form (packets ++ next ∷ [])
      ≡ new_under_way form (continues (last_packet no_packet packets) (packet_of next)) (open_units form packets) next
  pub at_most_one : length (open_units form packets) ≤ 1
  -- the units among the events are the accepted ones
  pub units : flat_map unit_of_event (events_of form packets) ≡ map (λ (a : PlacedUnit). (a.moment, a.unit)) (accepted_in form packets)

-- bytes from a start on that leave its outcome open: they are no stuffing, and fewer than the longest unit has
pub record IsUnderWay (form : UnitForm) (bytes : List ℕ) : Type 0 where
  pub enough : form.start ≤ length bytes
  pub no_stuffing : form.span bytes ≢ stuffing
  pub untold : is_told (form.span bytes) (length bytes) ≡ false
  pub fits : length bytes < form.longest

-- each unit under way after some packets is so
abbrev pub AreUnderWay : UnitForm → List Arrival → Type 0
AreUnderWay form packets = (unit : Open) → Contains (open_units form packets) unit → IsUnderWay form unit.bytes
