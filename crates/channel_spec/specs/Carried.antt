-- What becomes of the units of one PID on their way through a channel: which arrive intact, and which are accepted, in a span of
-- the recording, which is the whole recording where a receiver listens throughout.
-- Units have numbers, in the order in which they were sent; begin n is the place of unit n among the joined payloads.
use Rattle.std.specs.Prelude.{◌≡◌, ℕ, ◌+◌, ◌<◌, ◌≤◌, true, List, [], ◌∷◌, length, map, Contains, Some, is_some}
use Rattle.ts_spec.specs.Form.{UnitForm, IsLawful}
use Rattle.ts_spec.specs.Packet.{PacketFields}
use Rattle.ts_spec.specs.Recording.{Record}
use Rattle.ts_spec.specs.Received.{record_at, Arrival, arrival_at, packet_of, arrivals, received_packets}
use Rattle.ts_spec.specs.Reassembly.{PlacedUnit, accepted_units}
use Rattle.ts_spec.specs.Packetized.{unit_at, edge, IsIn, Packetizes}
use Rattle.channel_spec.specs.Channel.{Channel}

-- What was sent.

-- the fields of the readable packets of a PID in what was sent (ISO/IEC 13818-1 clause 2.4.3.2)
abbrev pub packets_sent : ℕ → List Record → List PacketFields
packets_sent pid sent = map packet_of (arrivals pid sent)

-- units of a lawful kind, packetized in the readable packets of a PID (ISO/IEC 13818-1 clause 2.4.4)
pub record IsCarried (form : UnitForm) (pid : ℕ) (sent : List Record) (units : List (List ℕ)) (begin : ℕ → ℕ) : Type 0 where
  pub lawful : IsLawful form
  pub packetized : Packetizes form units (packets_sent pid sent) begin

-- unit n starts in packet m, at this place of its payload
pub record IsStartOf (units : List (List ℕ)) (packets : List PacketFields) (begin : ℕ → ℕ) (n m start : ℕ) : Type 0 where
  pub unit : n < length units
  pub packet : IsIn packets m (begin n)
  pub start_is : edge packets m + start ≡ begin n + 1

-- packet m holds a part of unit n
pub record HoldsPart (units : List (List ℕ)) (packets : List PacketFields) (begin : ℕ → ℕ) (n m : ℕ) : Type 0 where
  pub within : m < length packets
  pub begun : begin n < edge packets (m + 1)
  pub not_over : edge packets m < begin n + length (unit_at units n)

-- Accepted units.

-- the accepted unit is unit n: it starts at the same record and place, and has the same bytes
pub record IsSentUnit {pids : List ℕ} {sent recorded : List Record} (channel : Channel pids sent recorded)
    (pid : ℕ) (units : List (List ℕ)) (begin : ℕ → ℕ) (n : ℕ) (accepted : PlacedUnit) : Type 0 where
  pub packet : ℕ
  pub start : IsStartOf units (packets_sent pid sent) begin n packet accepted.start
  pub record_is : channel.place accepted.place ≡ Some (arrival_at (arrivals pid sent) packet).place
  pub bytes : unit_at units n ≡ accepted.unit

-- each accepted unit of a span is a sent one: no damaged or spliced unit passes its check
pub record NoUndetectedError {pids : List ℕ} {sent recorded : List Record} (channel : Channel pids sent recorded)
    (span : List Record) (form : UnitForm) (pid : ℕ) (units : List (List ℕ)) (begin : ℕ → ℕ) : Type 0 where
  pub each : (accepted : PlacedUnit) → Contains (accepted_units form pid span) accepted
      → (n : ℕ) × IsSentUnit channel pid units begin n accepted

-- unit n is among the accepted units of the span
pub record IsAccepted {pids : List ℕ} {sent recorded : List Record} (channel : Channel pids sent recorded)
    (span : List Record) (form : UnitForm) (pid : ℕ) (units : List (List ℕ)) (begin : ℕ → ℕ) (n : ℕ) : Type 0 where
  pub accepted : PlacedUnit
  pub contained : Contains (accepted_units form pid span) accepted
  pub sent_unit : IsSentUnit channel pid units begin n accepted

-- Units that arrived intact.

-- the record of packet m was kept, and is recorded at place j, or a copy of it: in the span, and with a moment
pub record IsKept {pids : List ℕ} {sent recorded : List Record} (channel : Channel pids sent recorded)
    (span : List Record) (pid m j : ℕ) : Type 0 where
  pub within : j < length recorded
  pub place : channel.place j ≡ Some (arrival_at (arrivals pid sent) m).place
  pub same : (record_at span j).bytes ≡ (arrival_at (arrivals pid sent) m).bytes
  pub has_moment : is_some (record_at span j).moment ≡ true

-- the packet received last before a place of the span
pub record IsLastBefore (pid : ℕ) (span : List Record) (place : ℕ) (packet : Arrival) : Type 0 where
  pub received : Contains (received_packets pid span) packet
  pub before : packet.place < place
  pub last : (other : Arrival) → Contains (received_packets pid span) other → other.place < place → other.place ≤ packet.place

-- unit n arrived intact in the span: each record that holds a part of it is kept; its first packet differs from the packet of its PID received last before it;
-- no other packet of its PID is received between its packets
pub record ArrivedIntact {pids : List ℕ} {sent recorded : List Record} (channel : Channel pids sent recorded)
    (span : List Record) (pid : ℕ) (units : List (List ℕ)) (begin : ℕ → ℕ) (n : ℕ) : Type 0 where
  -- each record that holds a part of it is kept: that of packet m is recorded at place at m
  pub at : ℕ → ℕ
  pub kept : (m : ℕ) → HoldsPart units (packets_sent pid sent) begin n m → IsKept channel span pid m (at m)
  -- its first packet differs from the packet of its PID received last before it
  pub differs : (m : ℕ) (before : Arrival) → IsIn (packets_sent pid sent) m (begin n) → IsLastBefore pid span (at m) before
      → before.bytes ≡ (record_at span (at m)).bytes → ⊥
  -- no other packet of its PID is received between its packets
  pub alone : (m k : ℕ) (between : Arrival) → HoldsPart units (packets_sent pid sent) begin n m → HoldsPart units (packets_sent pid sent) begin n k
      → Contains (received_packets pid span) between → at m < between.place → between.place < at k
      → (i : ℕ) × HoldsPart units (packets_sent pid sent) begin n i × (between.place ≡ at i)

-- Numbers of units.

-- numbers that rise, from the least on
abbrev pub IsRising : ℕ → List ℕ → Type 0
IsRising least [] = Unit {0}
IsRising least (n ∷ numbers) = (least ≤ n) × IsRising (n + 1) numbers

-- numbers of sent units, in order and each at most once, with those of all units that arrived intact among them
pub record IncludesIntact {pids : List ℕ} {sent recorded : List Record} (channel : Channel pids sent recorded)
    (span : List Record) (pid : ℕ) (units : List (List ℕ)) (begin : ℕ → ℕ) (numbers : List ℕ) : Type 0 where
  pub rising : IsRising 0 numbers
  pub within : (n : ℕ) → Contains numbers n → n < length units
  pub intact : (n : ℕ) → n < length units → ArrivedIntact channel span pid units begin n → Contains numbers n
