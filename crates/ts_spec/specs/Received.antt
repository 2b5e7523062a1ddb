-- The packets of one PID that a recording gives (ISO/IEC 13818-1 clause 2.4.3.3: duplicate packets).
use Rattle.std.specs.Prelude.{ℕ, ◌+◌, Bool, false, ◌&&◌, List, [], ◌∷◌, ◌++◌, ◌==◌, if◌then◌else◌, Option, Some, None, bytes_eq, slice_index_or}
use Rattle.ts_spec.specs.Packet.{PacketFields, fields_of, is_packet}
use Rattle.ts_spec.specs.Recording.{Record}

-- the record without moment and bytes, for places where none is
abbrev pub no_record : Record
no_record = record { moment = None; bytes = [] }

-- the record at a place
abbrev pub record_at : List Record → ℕ → Record
record_at records place = slice_index_or records place no_record

-- a packet that can be read: its place among the records, its moment, its bytes
pub record Arrival : Type 0 where
  pub place : ℕ
  pub moment : ℕ
  pub bytes : List ℕ

-- the fields of the packet (ISO/IEC 13818-1 clause 2.4.3.2)
abbrev pub packet_of : Arrival → PacketFields
packet_of arrival = fields_of arrival.bytes

-- the bytes are a packet of this PID that can be read (ISO/IEC 13818-1 clause 2.4.3.2)
abbrev pub is_of : ℕ → List ℕ → Bool
is_of pid bytes = is_packet bytes && ((fields_of bytes).pid == pid)

-- what one record gives on a PID; a record without a moment gives nothing
abbrev pub arrival_of : ℕ → ℕ → Option ℕ → List ℕ → List Arrival
arrival_of pid place None bytes = []
arrival_of pid place (Some moment) bytes =
    if is_of pid bytes then record { place = place; moment = moment; bytes = bytes } ∷ [] else []

-- what records give on a PID, their places counted from a number
abbrev pub arrivals_from : ℕ → ℕ → List Record → List Arrival
arrivals_from pid place [] = []
arrivals_from pid place (r ∷ records) = arrival_of pid place r.moment r.bytes ++ arrivals_from pid (place + 1) records

-- the readable packets of a PID, in order
abbrev pub arrivals : ℕ → List Record → List Arrival
arrivals pid records = arrivals_from pid 0 records

-- the packet equals the one before it: a duplicate (ISO/IEC 13818-1 clause 2.4.3.3) (Profile: also the third and any later one)
abbrev pub repeats : Option (List ℕ) → List ℕ → Bool
repeats None bytes = false
repeats (Some before) bytes = bytes_eq before bytes

-- the packet, where it differs from the one before it (ISO/IEC 13818-1 clause 2.4.3.3)
abbrev pub unless_repeated : Option (List ℕ) → Arrival → List Arrival
unless_repeated before arrival = if repeats before arrival.bytes then [] else arrival ∷ []

-- the packets that are no duplicates, where the one before the first is known (ISO/IEC 13818-1 clause 2.4.3.3)
abbrev pub received_after : Option (List ℕ) → List Arrival → List Arrival
received_after before [] = []
received_after before (arrival ∷ behind) = unless_repeated before arrival ++ received_after (Some arrival.bytes) behind

-- the received packets of a PID: the readable ones that are no duplicate of the packet received before (ISO/IEC 13818-1 clause 2.4.3.3)
abbrev pub received_packets : ℕ → List Record → List Arrival
received_packets pid records = received_after None (arrivals pid records)

-- the packet without bytes, for places where none is
abbrev pub no_arrival : Arrival
no_arrival = record { place = 0; moment = 0; bytes = [] }

-- the packet at a place
abbrev pub arrival_at : List Arrival → ℕ → Arrival
arrival_at packets n = slice_index_or packets n no_arrival
