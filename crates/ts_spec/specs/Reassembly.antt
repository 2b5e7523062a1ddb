-- Reassembly of units from the received packets of one PID (ISO/IEC 13818-1 clause 2.4.4, RFC 4326 section 7).
use Rattle.std.specs.Prelude.{ℕ, zero, suc, ◌+◌, Bool, true, false, not, ◌&&◌, ◌||◌, List, [], ◌∷◌, ◌++◌, take, drop, length, ◌==◌, nat_lt, nat_le, if◌then◌else◌, flat_map}
use Rattle.ts_spec.specs.Form.{UnitForm, Span, more, stuffing, whole, bad}
use Rattle.ts_spec.specs.Packet.{PacketFields, continues, pointer, pointer_fits}
use Rattle.ts_spec.specs.Recording.{Record}
use Rattle.ts_spec.specs.Received.{Arrival, packet_of, received_packets}

-- Unit starts: they depend on one packet alone.

-- the next start stands where a unit ends within the bytes; after any other span there is none (RFC 4326 sections 6, 7)
abbrev pub starts_behind : ℕ → List ℕ → ℕ → Span → (ℕ → List ℕ → List ℕ) → List ℕ
starts_behind place bytes size stuffing next = []
starts_behind place bytes size (whole n) next = place ∷ (if nat_le n size then next (place + n) (drop n bytes) else [])
starts_behind place bytes size more next = place ∷ []
starts_behind place bytes size bad next = place ∷ []

-- the starts in the bytes that stand at a place of a payload, at most so many (RFC 4326 sections 6, 7)
abbrev pub starts_within : UnitForm → ℕ → ℕ → List ℕ → List ℕ
starts_within form zero place bytes = []
starts_within form (suc most) place bytes =
    if nat_lt (length bytes) form.start then [] else
    starts_behind place bytes (length bytes) (form.span bytes) (starts_within form most)

-- the places in its payload at which units start in a packet (ISO/IEC 13818-1 clause 2.4.4.2, RFC 4326 section 7)
abbrev pub unit_starts : UnitForm → PacketFields → List ℕ
unit_starts form packet =
    if packet.starts && pointer_fits packet
    then starts_within form (length packet.payload) (1 + pointer packet) (drop (1 + pointer packet) packet.payload)
    else []

-- The bytes after a start.

-- the bytes after a start: whole payloads; the pointer's bytes of the packet in which the next unit starts; and whether a packet ended the list whose own
-- pointer does not fail to fit (RFC 4326 section 7)
pub record Given : Type 0 where
  pub payloads : List ℕ
  pub rest : List ℕ
  pub is_ended : Bool

-- all these bytes
abbrev pub all_given : Given → List ℕ
all_given given = given.payloads ++ given.rest

-- the same with one payload more in front (RFC 4326 section 7)
abbrev pub with_payload : List ℕ → Given → Given
with_payload payload given = record { payloads = payload ++ given.payloads; rest = given.rest; is_ended = given.is_ended }

-- nothing more, ended by this packet; one whose own pointer does not fit ends the list untold, since it is a delimiting error of its own (RFC 4326 section 7)
abbrev pub ended_by : PacketFields → Given
ended_by packet = record { payloads = []; rest = []; is_ended = not packet.starts || pointer_fits packet }

-- what a continuous packet gives: its payload and what is after it; with the start indicator its pointer's bytes alone (RFC 4326 section 7)
abbrev pub given_by : PacketFields → Given → Given
given_by packet behind =
    if packet.starts then
    (if pointer_fits packet
    then record { payloads = []; rest = take (pointer packet) (drop 1 packet.payload); is_ended = true }
    else ended_by packet)
    else with_payload packet.payload behind

-- what the packets after one give, up to the first that is not continuous (RFC 4326 section 7)
abbrev pub given_behind : PacketFields → List Arrival → Given
given_behind before [] = record { payloads = []; rest = []; is_ended = false }
given_behind before (arrival ∷ behind) =
    if continues before (packet_of arrival) then given_by (packet_of arrival) (given_behind (packet_of arrival) behind)
    else ended_by (packet_of arrival)

-- the bytes after a start: its payload from there on, then what the packets after it give (RFC 4326 section 7)
abbrev pub bytes_from : ℕ → PacketFields → List Arrival → Given
bytes_from start packet behind = with_payload (drop start packet.payload) (given_behind packet behind)

-- Outcomes of a start.

-- what becomes of a start: a candidate, a bad length, a delimiting error, or nothing (RFC 4326 section 7)
pub data Outcome : Type 0 where
  candidate : List ℕ → Outcome
  bad_length : Outcome
  delimit : Outcome
  no_outcome : Outcome

-- the outcome of a unit that did not come whole: lost where a packet ended the list (RFC 4326 section 7)
abbrev pub incomplete : Given → Outcome
incomplete given = if given.is_ended then delimit else no_outcome

-- a unit of n bytes came; where it reaches into the pointer's bytes it must end with them (RFC 4326 section 7)
abbrev pub is_complete : ℕ → Given → Bool
is_complete n given = nat_le n (length given.payloads) || (n == length (all_given given))

-- the outcome, by the span of the bytes (RFC 4326 section 7)
abbrev pub outcome_by : Span → Given → Outcome
outcome_by bad given = bad_length
outcome_by (whole n) given = if is_complete n given then candidate (take n (all_given given)) else incomplete given
outcome_by more given = incomplete given
outcome_by stuffing given = incomplete given

-- the one outcome of a start (RFC 4326 section 7)
abbrev pub outcome_of : UnitForm → Given → Outcome
outcome_of form given = outcome_by (form.span (all_given given)) given

-- Accepted units.

-- an accepted unit: the place of its packet among the records, its place in the payload, the packet's moment, its bytes
pub record PlacedUnit : Type 0 where
  pub place : ℕ
  pub start : ℕ
  pub moment : ℕ
  pub unit : List ℕ

-- the accepted unit of an outcome, as a list of at most one (RFC 4326 sections 4.6, 7)
abbrev pub accepted_by : UnitForm → Arrival → ℕ → Outcome → List PlacedUnit
accepted_by form arrival start (candidate unit) =
    if form.check unit then record { place = arrival.place; start = start; moment = arrival.moment; unit = unit } ∷ [] else []
accepted_by form arrival start bad_length = []
accepted_by form arrival start delimit = []
accepted_by form arrival start no_outcome = []

-- the accepted unit of a start (RFC 4326 sections 4.6, 7)
abbrev pub accepted_at : UnitForm → Arrival → List Arrival → ℕ → List PlacedUnit
accepted_at form arrival behind start = accepted_by form arrival start (outcome_of form (bytes_from start (packet_of arrival) behind))

-- the accepted units of received packets, in the order of their starts (RFC 4326 sections 4.6, 7)
abbrev pub accepted_in : UnitForm → List Arrival → List PlacedUnit
accepted_in form [] = []
accepted_in form (arrival ∷ behind) = flat_map (accepted_at form arrival behind) (unit_starts form (packet_of arrival)) ++ accepted_in form behind

-- the accepted units of a PID of a recording: the candidates whose check holds, in the order of their starts (RFC 4326 sections 4.6, 7)
abbrev pub accepted_units : UnitForm → ℕ → List Record → List PlacedUnit
accepted_units form pid records = accepted_in form (received_packets pid records)
