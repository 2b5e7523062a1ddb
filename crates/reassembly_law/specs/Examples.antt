-- Small recordings and a small stream, of units whose first byte is their length.
use Rattle.std.specs.Prelude.{◌≡◌, ℕ, ◌+◌, Bool, true, false, not, List, [], ◌∷◌, ◌==◌, nat_lt, if◌then◌else◌, slice_index}
use Rattle.ts_spec.specs.Packet.{PacketFields}
use Rattle.ts_spec.specs.Packetized.{Packetizes}
use Rattle.ts_spec.specs.Form.{UnitForm, IsLawful, Span, more, stuffing, whole, bad}
use Rattle.ts_spec.specs.Received.{Arrival}
use Rattle.ts_spec.specs.Events.{unit_event, bad_check_event, delimit_event, bad_length_event, events_of}

-- 2 to 254 is a length, 0 and 1 are none, FF is stuffing
abbrev pub small_span : List ℕ → Span
small_span [] = more
small_span (n ∷ rest) = if nat_lt 254 n then stuffing else if nat_lt n 2 then bad else whole n

-- a unit whose second byte is 9 fails its check
abbrev pub small_form : UnitForm
small_form = record { start = 1; longest = 254; span = small_span; check = λ unit. not (slice_index unit 1 == 9) }

-- a packet of PID 256, without adaptation field
abbrev pub arrival : ℕ → Bool → ℕ → List ℕ → Arrival
arrival moment starts counter payload =
    record { place = moment; moment = moment; bytes = 0x47 ∷ (if starts then 0x41 else 0x01) ∷ 0 ∷ (16 + counter) ∷ payload }

-- a unit of four bytes of which three lie in this packet
abbrev pub begun : Arrival
begun = arrival 0 true 5 (0 ∷ 4 ∷ 7 ∷ 7 ∷ [])

-- what each small recording gives
pub record SmallExamples : Type 0 where
  pub under_way : events_of small_form (begun ∷ []) ≡ []
  pub whole_behind_two : events_of small_form (begun ∷ arrival 1 false 6 (8 ∷ 99 ∷ []) ∷ []) ≡ unit_event 0 (4 ∷ 7 ∷ 7 ∷ 8 ∷ []) ∷ []
  pub pointer_agrees : events_of small_form (begun ∷ arrival 1 true 6 (1 ∷ 8 ∷ 3 ∷ 1 ∷ 1 ∷ 255 ∷ []) ∷ [])
      ≡ unit_event 0 (4 ∷ 7 ∷ 7 ∷ 8 ∷ []) ∷ unit_event 1 (3 ∷ 1 ∷ 1 ∷ []) ∷ []
  pub pointer_disagrees : events_of small_form (begun ∷ arrival 1 true 6 (2 ∷ 8 ∷ 8 ∷ 2 ∷ 5 ∷ []) ∷ [])
      ≡ delimit_event ∷ unit_event 1 (2 ∷ 5 ∷ []) ∷ []
  pub pointer_does_not_fit : events_of small_form (begun ∷ arrival 1 true 6 (9 ∷ 1 ∷ []) ∷ []) ≡ delimit_event ∷ []
  pub gap : events_of small_form (begun ∷ arrival 1 false 7 (8 ∷ 99 ∷ []) ∷ []) ≡ delimit_event ∷ []
  pub gap_and_no_fit : events_of small_form (begun ∷ arrival 1 true 7 (9 ∷ 1 ∷ []) ∷ []) ≡ delimit_event ∷ []
  pub bad_length : events_of small_form (arrival 1 true 6 (0 ∷ 1 ∷ 2 ∷ 5 ∷ []) ∷ []) ≡ bad_length_event ∷ []
  pub bad_check : events_of small_form (arrival 1 true 6 (0 ∷ 2 ∷ 9 ∷ 3 ∷ 1 ∷ 1 ∷ []) ∷ [])
      ≡ bad_check_event ∷ unit_event 1 (3 ∷ 1 ∷ 1 ∷ []) ∷ []

-- Two units in three packets.

abbrev pub small_units : List (List ℕ)
small_units = (4 ∷ 7 ∷ 7 ∷ 8 ∷ []) ∷ (3 ∷ 1 ∷ 1 ∷ []) ∷ []

abbrev pub small_packet : Bool → ℕ → List ℕ → PacketFields
small_packet starts counter payload = record { pid = 256; starts = starts; counter = counter; broken = false; payload = payload }

abbrev pub small_packets : List PacketFields
small_packets =
    small_packet true 5 (0 ∷ 4 ∷ 7 ∷ 7 ∷ [])
    ∷ small_packet false 6 (8 ∷ 255 ∷ 255 ∷ [])
    ∷ small_packet true 7 (0 ∷ 3 ∷ 1 ∷ 1 ∷ 255 ∷ [])
    ∷ []

abbrev pub small_begin : ℕ → ℕ
small_begin n = if n == 0 then 0 else if n == 1 then 6 else 10

-- a lawful kind of unit, and units of it that are packetized
pub record SmallStream : Type 0 where
  pub lawful : IsLawful small_form
  pub packetized : Packetizes small_form small_units small_packets small_begin
