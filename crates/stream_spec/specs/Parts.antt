-- One part of the sender's stream, in which one version of the plan is in force: the record of each of its slots, counted from 0.
use Rattle.std.specs.Prelude.{ℕ, ◌+◌, ◌*◌, ◌/◌, ◌%◌, ◌^◌, Bool, true, List, [], ◌∷◌, ◌++◌, length, map, slice_index_or, if◌then◌else◌, Option, Some, None, is_some}
use Rattle.std.specs.List.{range_with_len}
use Rattle.std.specs.Int.{w32, w64, to_be_bytes}
use Rattle.ts_spec.specs.Packet.{PacketFields, packet_bytes, null_packet}
use Rattle.ts_spec.specs.Packetized.{packet_at}
use Rattle.ts_spec.specs.Recording.{RecordingForm, plain, stamped, m2ts}
use Rattle.section_spec.specs.Section.{section_form}
use Rattle.int_spec.specs.Table.{table_bytes}
use Rattle.unit_stream.specs.Packing.{packetized}
use Rattle.plan_spec.specs.Plan.{KindFields, mpe, IntFields, ServiceFields, PlanFields, kinds, sliced_of}
use Rattle.plan_spec.specs.Signalling.{table_of, table_packets}
use Rattle.stream_spec.specs.Units.{FrameSchedule, burst_sizes, packets_of}
use Rattle.stream_spec.specs.Slots.{Slot, of_table, of_service, empty, slot_at}
use Rattle.stream_spec.specs.Windows.{windows_of, kept_for_bursts}

-- the plan of a version; what stands in the stream before its part: so many slots, so many packets of the INT, and of each service,
-- by its place, so many packets on the PID that it has in the part; when the frames of each service go out; its datagrams
pub record PartFields : Type 0 where
  pub plan : PlanFields
  pub slots_before : ℕ
  pub table_before : ℕ
  pub packets_before : ℕ → ℕ
  pub schedules : ℕ → FrameSchedule
  pub datagrams : ℕ → List (List ℕ)

-- the packets of services, with counters that go on from the packets before the part, and frames that go out by schedules; k is the first
-- of them
abbrev pub packets_from : ℕ → List ServiceFields → (packets : ℕ → ℕ) → (schedules : ℕ → FrameSchedule) → (ℕ → List (List ℕ)) → List (List PacketFields)
packets_from k [] packets schedules datagrams = []
packets_from k (service ∷ services) packets schedules datagrams =
    packets_of service (packets k % 16) (schedules k) (datagrams k) ∷ packets_from (k + 1) services packets schedules datagrams

abbrev pub service_packets : PartFields → List (List PacketFields)
service_packets part = packets_from 0 part.plan.services part.packets_before part.schedules part.datagrams

-- the packets of the INT in a cycle: its section is packetized again in each, and the counter goes on (EN 301 192 clause 8.4)
abbrev pub int_packets : PartFields → Option IntFields → ℕ → List PacketFields
int_packets part None cycle = []
int_packets part (Some int) cycle =
    packetized section_form true int.pid ((part.table_before + cycle * table_packets part.plan) % 16) (table_bytes (table_of part.plan int) ∷ [])

-- the packet as it is written (ISO/IEC 13818-1 clause 2.4.3.2)
abbrev pub written : PacketFields → List ℕ
written packet = packet_bytes packet.pid packet.starts packet.counter packet.payload

-- the packet that a slot of a cycle carries
abbrev pub packet_in : PartFields → ℕ → Slot → List ℕ
packet_in part cycle (of_table n) = written (packet_at (int_packets part part.plan.table cycle) n)
packet_in part cycle (of_service k n) = written (packet_at (slice_index_or (service_packets part) k []) n)
packet_in part cycle empty = null_packet

-- what stands before it: nothing, microseconds, or time at 27 MHz modulo 2^30 with copy permission 0
abbrev pub stamp_bytes : RecordingForm → ℕ → ℕ → List ℕ
stamp_bytes plain rate s = []
stamp_bytes stamped rate s = to_be_bytes w64 (s * 1000000 / rate)
stamp_bytes m2ts rate s = to_be_bytes w32 (s * 27000000 / rate % 2 ^ 30)

-- how many packets each service has
abbrev pub packet_counts : List (List PacketFields) → List ℕ
packet_counts services = map (λ packets. length packets) services

-- how many of them go out in rotation: none of a sliced service, whose packets go out in its windows
abbrev pub turn_count : Bool → List PacketFields → ℕ
turn_count is_sliced packets = if is_sliced then 0 else length packets

abbrev pub turn_counts : List KindFields → List (List PacketFields) → List ℕ
turn_counts [] services = []
turn_counts (kind ∷ kinds) [] = []
turn_counts (kind ∷ kinds) (packets ∷ services) = turn_count (is_some (sliced_of kind)) packets ∷ turn_counts kinds services

-- how many packets the bursts of service k have
abbrev pub sizes_in : PartFields → ℕ → List ℕ
sizes_in part k = burst_sizes (slice_index_or (kinds part.plan) k (mpe 0)) (part.datagrams k)

-- what slot s is kept for: the INT, or a burst that goes out there
abbrev pub kept_in : PartFields → ℕ → Option Slot
kept_in part s = kept_for_bursts part.plan.cycle (table_packets part.plan) (windows_of part.plan) (sizes_in part) s

-- what slot s carries
abbrev pub slot_in : PartFields → ℕ → Slot
slot_in part s = slot_at (kept_in part) (turn_counts (kinds part.plan) (service_packets part)) s

-- its record, whose time counts from the stream's first slot
abbrev pub record_of_slot : PartFields → ℕ → List ℕ
record_of_slot part s =
    stamp_bytes part.plan.recording part.plan.packet_rate (part.slots_before + s) ++ packet_in part (s / part.plan.cycle) (slot_in part s)

-- the records of so many slots
abbrev pub records_of_slots : PartFields → ℕ → List (List ℕ)
records_of_slots part slots = map (record_of_slot part) (range_with_len 0 slots)
