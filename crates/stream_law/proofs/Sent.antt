-- What the record of each slot gives on one PID.
use Rattle.std.proofs.Common.{◌≡◌, ℕ, zero, suc, ◌+◌, ◌*◌, ◌%◌, ◌<◌, ◌≤◌, Bool, true, false, cond, ◌&&◌, eqb, ltb, get_or, List, [], ◌∷◌, ◌++◌, length, map, replicate, refl, sym, ap, ap₂, ◌∙◌, arith, Option, Some, None}
use Rattle.std.specs.Prelude.{filter, slice_index_or}
use Rattle.std.specs.List.{cons_option, filter_map}
use Rattle.ts_spec.specs.Packet.{PacketFields, fields_of, is_packet, packet_bytes, null_packet}
use Rattle.ts_spec.specs.Packetized.{no_packet, packet_at}
use Rattle.ts_spec.specs.Received.{is_of}
use Rattle.ts_packet.specs.Fields.{written_fields}
use Rattle.section_spec.specs.Section.{section_form}
use Rattle.int_spec.specs.Table.{table_bytes}
use Rattle.plan_spec.specs.Plan.{mpe, ServiceFields, IntFields, pid_of, table_pids}
use Rattle.plan_spec.specs.Signalling.{table_of, table_packets}
use Rattle.stream_spec.specs.Units.{FrameSchedule, packets_of_kind}
use Rattle.stream_spec.specs.Slots.{Slot}
use Rattle.stream_spec.specs.Parts.{PartFields, packets_from, int_packets, written}
use Rattle.stream_law.specs.Words.{number_of}
use Rattle.stream_law.proofs.Packets.{IsOn, packetized_on}
use Rattle.stream_law.proofs.KindPackets.{kind_on}
use Rattle.stream_law.proofs.Records.{read_of}

-- slots of which each gives the packet of its number give the packets of all numbers
module _ (pid k : ℕ) (packets : List PacketFields) where
  abbrev pub numbered_packets : List Slot → List PacketFields
  numbered_packets slots = map (packet_at packets) (filter_map (number_of k) slots)

  pub read_first : (piece : List ℕ) (pieces : List (List ℕ)) → read_of pid (piece ∷ pieces) ≡ read_of pid (piece ∷ []) ++ read_of pid pieces
  read_first piece pieces = by_test (is_of pid piece)
    where
      by_test : (is : Bool) → map fields_of (cond is (piece ∷ filter (is_of pid) pieces) (filter (is_of pid) pieces)) ≡ map fields_of (cond is (piece ∷ []) []) ++ read_of pid pieces
      by_test true = refl
      by_test false = refl

  numbered_first : (slot : Slot) (slots : List Slot) → numbered_packets (slot ∷ slots) ≡ numbered_packets (slot ∷ []) ++ numbered_packets slots
  numbered_first slot slots = by_number (number_of k slot)
    where
      by_number : (o : Option ℕ) → map (packet_at packets) (cons_option o (filter_map (number_of k) slots))
          ≡ map (packet_at packets) (cons_option o []) ++ numbered_packets slots
      by_number None = refl
      by_number (Some n) = refl

  pub slots_read : (bytes : ℕ → List ℕ) (slot : ℕ → Slot) → ((s : ℕ) → read_of pid (bytes s ∷ []) ≡ numbered_packets (slot s ∷ []))
      → (slots : List ℕ) → read_of pid (map bytes slots) ≡ numbered_packets (map slot slots)
  slots_read bytes slot each [] = refl
  slots_read bytes slot each (s ∷ slots) =
      read_first (bytes s) (map bytes slots)
      ∙ ap₂ (λ (a b : List PacketFields). a ++ b) (each s) (slots_read bytes slot each slots)
      ∙ sym (numbered_first (slot s) (map slot slots))

-- no packet has four bytes
no_packet_is_read : is_packet (written no_packet) ≡ false
unfolding is_packet
no_packet_is_read = refl

none_behind : (packets : List PacketFields) (n : ℕ) → length packets ≤ n → packet_at packets n ≡ no_packet
none_behind [] n le = refl
none_behind (packet ∷ packets) zero le = absurd (omega arith)
none_behind (packet ∷ packets) (suc n) le = none_behind packets n (omega arith)

-- the packets of the service at a place
pub packets_at : (before : ℕ → ℕ) (schedules : ℕ → FrameSchedule) (datagrams : ℕ → List (List ℕ)) (services : List ServiceFields) (i k at : ℕ) → at ≡ i + k → k < length services
    → slice_index_or (packets_from i services before schedules datagrams) k []
    ≡ packets_of_kind (get_or (map (λ (service : ServiceFields). service.kind) services) k (mpe 0)) (get_or (map (λ (service : ServiceFields). service.unicast) services) k [])
    (before at % 16) (schedules at) (datagrams at)
packets_at before schedules datagrams [] i k at e less = absurd (omega arith)
packets_at before schedules datagrams (service ∷ services) i zero at e less =
    let here : i ≡ at = omega (arith, e) in ap (λ (n : ℕ). packets_of_kind service.kind service.unicast (before n % 16) (schedules n) (datagrams n)) here
packets_at before schedules datagrams (service ∷ services) i (suc k) at e less = packets_at before schedules datagrams services (i + 1) k at (omega (arith, e)) (omega arith)

-- each of them is one of its PID
pub place_on : (before : ℕ → ℕ) (schedules : ℕ → FrameSchedule) (datagrams : ℕ → List (List ℕ)) (services : List ServiceFields) (i j n : ℕ)
    → n < length (slice_index_or (packets_from i services before schedules datagrams) j [])
    → (pid : ℕ) × (pid_of (get_or (map (λ (service : ServiceFields). service.kind) services) j (mpe 0)) ≡ Some pid)
    × IsOn pid (packet_at (slice_index_or (packets_from i services before schedules datagrams) j []) n) × (j < length services)
place_on before schedules datagrams [] i j n less = absurd (omega arith)
place_on before schedules datagrams (service ∷ services) i zero n less =
    let here : (pid : ℕ) × (pid_of service.kind ≡ Some pid) × IsOn pid (packet_at (packets_of_kind service.kind service.unicast (before i % 16) (schedules i) (datagrams i)) n)
    = kind_on service.kind service.unicast (before i % 16) (schedules i) (datagrams i) (omega arith) n less in
    (here.0, here.1, here.2, omega arith)
place_on before schedules datagrams (service ∷ services) i (suc j) n less =
    let there : (pid : ℕ) × (pid_of (get_or (map (λ (s : ServiceFields). s.kind) services) j (mpe 0)) ≡ Some pid)
    × IsOn pid (packet_at (slice_index_or (packets_from (i + 1) services before schedules datagrams) j []) n) × (j < length services)
    = place_on before schedules datagrams services (i + 1) j n less in
    (there.0, there.1, there.2, omega (arith, there.3))

-- with the laws of packets that are written
module _ (readable : (pid : ℕ) (starts : Bool) (counter : ℕ) (payload : List ℕ) → counter ≤ 15 → pid ≤ 8191 → length payload ≡ 184 → is_packet (packet_bytes pid starts counter payload) ≡ true)
    (fields : (pid : ℕ) (starts : Bool) (counter : ℕ) (payload : List ℕ) → counter ≤ 15 → pid ≤ 8191 → fields_of (packet_bytes pid starts counter payload) ≡ written_fields pid starts counter payload)
    (null_fields : fields_of null_packet ≡ written_fields 0x1FFF false 0 (replicate 184 0xFF)) where
  reads_back : (pid : ℕ) (packet : PacketFields) → pid ≤ 8191 → IsOn pid packet → fields_of (written packet) ≡ packet
  reads_back pid packet le on =
      fields packet.pid packet.starts packet.counter packet.payload on.counter (omega (arith, le, on.pid_is))
      ∙ ap (λ (b : Bool). make b) (sym on.broken)
    where
      make : Bool → PacketFields
      make b = record { pid = packet.pid; starts = packet.starts; counter = packet.counter; broken = b; payload = packet.payload }

  pub read_own : (pid : ℕ) (packet : PacketFields) → pid ≤ 8191 → IsOn pid packet → read_of pid (written packet ∷ []) ≡ packet ∷ []
  read_own pid packet le on =
      let is : is_packet (written packet) ≡ true
      = readable packet.pid packet.starts packet.counter packet.payload on.counter (omega (arith, le, on.pid_is)) on.size in
      let back : fields_of (written packet) ≡ packet = reads_back pid packet le on in
      let same : eqb packet.pid pid ≡ true = grind (arith, on.pid_is) in
      ap₂ (λ (b c : Bool). map fields_of (cond (b && c) (written packet ∷ []) [])) is (ap (λ (f : PacketFields). eqb f.pid pid) back ∙ same)
      ∙ ap (λ (f : PacketFields). f ∷ []) back

  pub read_other : (pid other : ℕ) (packet : PacketFields) → other ≤ 8191 → eqb other pid ≡ false → IsOn other packet → read_of pid (written packet ∷ []) ≡ []
  read_other pid other packet le apart on =
      let is : is_packet (written packet) ≡ true
      = readable packet.pid packet.starts packet.counter packet.payload on.counter (omega (arith, le, on.pid_is)) on.size in
      let back : fields_of (written packet) ≡ packet = reads_back other packet le on in
      let differs : eqb packet.pid pid ≡ false = ap (λ (n : ℕ). eqb n pid) on.pid_is ∙ apart in
      ap₂ (λ (b c : Bool). map fields_of (cond (b && c) (written packet ∷ []) [])) is (ap (λ (f : PacketFields). eqb f.pid pid) back ∙ differs)

  read_none : (pid : ℕ) → read_of pid (written no_packet ∷ []) ≡ []
  read_none pid = ap (λ (b : Bool). map fields_of (cond (b && eqb (fields_of (written no_packet)).pid pid) (written no_packet ∷ []) [])) no_packet_is_read

  pub read_null : (pid : ℕ) → pid ≤ 8190 → read_of pid (null_packet ∷ []) ≡ []
  read_null pid le =
      let differs : eqb 0x1FFF pid ≡ false = grind (arith, le) in
      by_test (is_packet null_packet) (ap (λ (f : PacketFields). eqb f.pid pid) null_fields ∙ differs)
    where
      by_test : (is : Bool) → eqb (fields_of null_packet).pid pid ≡ false → map fields_of (cond (is && eqb (fields_of null_packet).pid pid) (null_packet ∷ []) []) ≡ []
      by_test true e = ap (λ (c : Bool). map fields_of (cond c (null_packet ∷ []) [])) e
      by_test false e = refl

  -- a slot of the INT gives nothing on another PID
  pub read_table : (pid : ℕ) (part : PartFields) (table : Option IntFields) (cycle n : ℕ)
      → ((other : ℕ) → table_pids table ≡ other ∷ [] → (other ≤ 8191) × (eqb other pid ≡ false))
      → read_of pid (written (packet_at (int_packets part table cycle) n) ∷ []) ≡ []
  read_table pid part None cycle n apart = read_none pid
  read_table pid part (Some int) cycle n apart = by_place (ltb n (length packets)) refl
    where
      packets : List PacketFields
      packets = int_packets part (Some int) cycle

      by_place : (within : Bool) → ltb n (length packets) ≡ within → read_of pid (written (packet_at (int_packets part (Some int) cycle) n) ∷ []) ≡ []
      by_place true e =
          read_other pid int.pid (packet_at packets n) (apart int.pid refl).0 (apart int.pid refl).1
          (packetized_on section_form true int.pid ((part.table_before + cycle * table_packets part.plan) % 16) (table_bytes (table_of part.plan int) ∷ []) (omega arith) n (grind (arith, e)))
      by_place false e =
          ap (λ (p : PacketFields). read_of pid (written p ∷ [])) (none_behind packets n (grind (arith, e))) ∙ read_none pid
