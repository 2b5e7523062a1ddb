-- Words of the laws of a sender's stream.
use Rattle.std.specs.Prelude.{◌≡◌, ◌≢◌, length, map, flat_map, replicate, sum_by, slice_index, slice_index_or, ℕ, ◌+◌, ◌-◌, ◌*◌, ◌/◌, ◌^◌, ◌<◌, ◌≤◌, Bool, true, false, List, [], ◌==◌, if◌then◌else◌, Option, Some, None}
use Rattle.std.specs.List.{filter_map, range_with_len}
use Rattle.wire_spec.specs.Bytes.{AreBytes}
use Rattle.wire_spec.specs.Datagram.{IsDatagram}
use Rattle.int_spec.specs.Table.{table_bytes}
use Rattle.unit_stream.specs.Packing.{byte_count}
use Rattle.ts_spec.specs.Packet.{PacketFields}
use Rattle.plan_spec.specs.Plan.{KindFields, ule, mpe, fec, gse, IntFields, PlanFields, SlicedFields, sliced_of}
use Rattle.plan_spec.specs.Signalling.{table_of}
use Rattle.plan_spec.specs.Changes.{plan_in, pid_in, has_pid}
use Rattle.ts_spec.specs.Recording.{RecordingForm, plain, stamped, m2ts}
use Rattle.stream_spec.specs.Units.{FrameSchedule, burst_sizes}
use Rattle.stream_spec.specs.Services.{kind_at}
use Rattle.stream_spec.specs.Parts.{PartFields, service_packets, int_packets, slot_in}
use Rattle.stream_spec.specs.Stream.{earlier, part_of}
use Rattle.stream_spec.specs.Slots.{Slot, of_table, of_service, empty, kept_for_table, turns_at, slot_at}

-- what slot s carries, where the INT has so many packets in each cycle and the services have so many in all
abbrev pub carried_in : ℕ → ℕ → List ℕ → ℕ → Slot
carried_in cycle table packets s = slot_at (kept_for_table cycle table) packets s

-- the number of the packet of service k that a slot carries, where it carries one
abbrev pub number_of : ℕ → Slot → Option ℕ
number_of k (of_table n) = None
number_of k (of_service j n) = if j == k then Some n else None
number_of k empty = None

-- the record of slot s has a moment: a stamp of 2^62 microseconds and more is none
abbrev pub HasMoment : RecordingForm → ℕ → ℕ → Type 0
HasMoment plain rate s = Unit {0}
HasMoment stamped rate s = s * 1000000 / rate < 2 ^ 62
HasMoment m2ts rate s = Unit {0}

-- the one part of a stream of a plan that nothing changes
abbrev pub only_schedule : PlanFields → FrameSchedule
only_schedule plan =
    record { first = 0; form = plan.recording; rate = plan.packet_rate; cycle = plan.cycle; slots_before = 0; goes_on = false }

abbrev pub only_part : PlanFields → (ℕ → List (List ℕ)) → PartFields
only_part plan datagrams = record {
  plan = plan;
  slots_before = 0;
  table_before = 0;
  packets_before = λ k. 0;
  schedules = λ k. only_schedule plan;
  datagrams = datagrams;
}

-- What the laws of a stream say of its parts, where these have so many slots, one number for each version.

-- before the part of a version stand so many records
abbrev pub records_before : (ℕ → ℕ) → ℕ → ℕ
records_before slots version = sum_by slots (earlier version)

-- each record has a moment
abbrev pub HaveMoments : PlanFields → (ℕ → ℕ) → Type 0
HaveMoments plan slots = (version s : ℕ) → version ≤ length plan.changes → s < slots version
    → HasMoment plan.recording plan.packet_rate (records_before slots version + s)

-- so many slots are whole cycles and a begun one
abbrev pub begun_cycles : ℕ → ℕ → ℕ
begun_cycles cycle slots = (slots + cycle - 1) / cycle

-- the packets of service k on a PID in the part of a version: none, where the version gives it another PID
abbrev pub packets_on : PlanFields → (ℕ → ℕ → List (List ℕ)) → (ℕ → ℕ) → ℕ → ℕ → ℕ → List PacketFields
packets_on plan datagrams slots k pid version =
    if has_pid (pid_in plan version k) pid then slice_index_or (service_packets (part_of plan datagrams slots version)) k [] else []

-- those of the INT, in each cycle that the part begins
abbrev pub packets_of_int : PlanFields → (ℕ → ℕ → List (List ℕ)) → (ℕ → ℕ) → IntFields → ℕ → List PacketFields
packets_of_int plan datagrams slots int version =
    flat_map (int_packets (part_of plan datagrams slots version) (Some int)) (range_with_len 0 (begun_cycles plan.cycle (slots version)))

-- the section of the INT of a version, once in each cycle that the part begins
abbrev pub sections_of_int : PlanFields → (ℕ → ℕ) → IntFields → ℕ → List (List ℕ)
sections_of_int plan slots int version = replicate (begun_cycles plan.cycle (slots version)) (table_bytes (table_of (plan_in plan version) int))

-- no burst of service k has more packets than its window has slots; without time slicing there are none
abbrev pub FitsWindow : PlanFields → (ℕ → ℕ → List (List ℕ)) → ℕ → Type 0
FitsWindow plan datagrams k = (version c : ℕ) (fields : SlicedFields) → version ≤ length plan.changes → sliced_of (kind_at plan k) ≡ Some fields
    → slice_index (burst_sizes (kind_at plan k) (datagrams version k)) c ≤ fields.length

-- datagrams of this kind are carried each by a unit of its own
abbrev pub is_single : KindFields → Bool
is_single (ule pid address packing) = true
is_single (mpe pid) = true
is_single (fec pid rows parity window) = false
is_single (gse isi address) = false

-- What the law that datagrams are carried says of its premises.

-- a datagram, of bytes
pub record IsByteDatagram (datagram : List ℕ) : Type 0 where
  pub is : IsDatagram datagram
  pub bytes : AreBytes datagram

-- no more datagrams and bytes than the records of a capture have
pub record IsWithinLimits (datagrams : List (List ℕ)) : Type 0 where
  pub count : length datagrams ≤ 4194304
  pub size : byte_count datagrams ≤ 268435456

-- before slot s all packets of the services are out, and before no earlier one
pub record AreFirstOut (cycle table : ℕ) (packets : List ℕ) (s : ℕ) : Type 0 where
  pub out : (turns_at (kept_for_table cycle table) packets s).sent ≡ packets
  pub first : (earlier : ℕ) → earlier < s → (turns_at (kept_for_table cycle table) packets earlier).sent ≢ packets

-- before slot s of a part all packets of the services are out, in order and each once
abbrev pub AreOutIn : PartFields → ℕ → Type 0
AreOutIn part s = (k : ℕ) → k < length part.plan.services
    → filter_map (number_of k) (map (slot_in part) (range_with_len 0 s)) ≡ range_with_len 0 (length (slice_index_or (service_packets part) k []))

-- and before no earlier one
pub record AreFirstOutIn (part : PartFields) (s : ℕ) : Type 0 where
  pub out : AreOutIn part s
  pub first : (earlier : ℕ) → earlier < s → AreOutIn part earlier → ⊥
