-- The services on their way: in rotation, or in bursts.
use Rattle.std.specs.Prelude.{◌≡◌, ℕ, zero, suc, ◌+◌, ◌-◌, ◌%◌, ◌<◌, ◌≤◌, ◌^◌, Bool, true, false, List, [], ◌∷◌, length, drop, get_or, map, set, find, slice_get, slice_index, slice_index_or, nat_lt, if◌then◌else◌, Option, Some, None, is_some}
use Rattle.ts_spec.specs.Packet.{PacketFields}
use Rattle.slice_spec.specs.Windows.{OwnedWindow, owner_of}
use Rattle.stream_spec.specs.Slots.{Turns, asked}
use Rattle.stream_spec.specs.Windows.{windows_of}
use Rattle.slice_spec.specs.Bursts.{IsSliceable}
use Rattle.plan_spec.specs.Plan.{KindFields, ule, mpe, fec, gse, ServiceFields, PlanFields, kinds, SlicedFields, sliced_of}
use Rattle.plan_spec.specs.Changes.{plan_in, pid_in, service_in, with_pid}
use Rattle.plan.specs.Parts.{form_of}
use Rattle.burst_packets.specs.declared.timing.Timing.{Timing}
use Rattle.stream_spec.specs.Units.{FrameSchedule, burst_sizes, packets_of_kind, packets_of}
use Rattle.ts_mux.specs.OnPids.{is_on_pid}
use Rattle.stream_spec.specs.Parts.{PartFields, service_packets, sizes_in, written, packet_counts}
use Rattle.stream_spec.specs.Services.{kind_at}
use Rattle.stream_spec.specs.Stream.{shares_pid, frame_count_before, schedule_of}
use Rattle.ts_mux.specs.Units.{AreFor}
use Rattle.ts_mux.specs.ServiceUnits.{AreUnitsFor}
use Rattle.ts_mux.specs.declared.service_units.ServiceUnits.{ServiceUnits}
use Rattle.ts_mux.specs.declared.service_packets.Times.{Times}
use Rattle.ts_mux.specs.declared.service_packets.ServicePackets.{ServicePackets}
use Rattle.ts_mux.specs.declared.service_packets.ServicePackets.TheVariants.{Ule, Mpe, Fec, Sliced}

-- the packets of a service that are still to come
abbrev pub packets_in : ServicePackets → List PacketFields
packets_in (Ule coming) = coming.packets
packets_in (Mpe coming) = coming.packets
packets_in (Fec coming) = coming.packets
packets_in (Sliced coming) = coming.packets

-- the counter of the packet that would follow them
abbrev pub behind_in : ServicePackets → ℕ
behind_in (Ule coming) = coming.behind
behind_in (Mpe coming) = coming.behind
behind_in (Fec coming) = coming.behind
behind_in (Sliced coming) = coming.behind

-- those that go out in rotation
abbrev pub turns_in_service : ServicePackets → List PacketFields
turns_in_service (Ule coming) = coming.packets
turns_in_service (Mpe coming) = coming.packets
turns_in_service (Fec coming) = coming.packets
turns_in_service (Sliced coming) = []

-- The bursts of a service: all of their packets that are still to come; how many of these are of the burst whose window has opened last; and
-- how many packets each burst has whose window has not opened.
pub record Bursts : Type 0 where
  pub packets : List PacketFields
  pub under_way : ℕ
  pub sizes : List ℕ

-- a service in rotation has none
abbrev pub no_bursts : Bursts
no_bursts = record { packets = []; under_way = 0; sizes = [] }

abbrev pub bursts_in : ServicePackets → Bursts
bursts_in (Ule coming) = no_bursts
bursts_in (Mpe coming) = no_bursts
bursts_in (Fec coming) = no_bursts
bursts_in (Sliced coming) = record { packets = coming.packets; under_way = coming.under_way; sizes = coming.sizes }

-- the frames of a service: their rows and sent columns, and whether each is a burst
pub record FrameShape : Type 0 where
  pub rows : ℕ
  pub columns : ℕ
  pub sliced : Bool

-- those of a service that has frames
abbrev pub shape_in : ServicePackets → Option FrameShape
shape_in (Ule coming) = None
shape_in (Mpe coming) = None
shape_in (Fec coming) = Some (record { rows = coming.rows; columns = coming.columns; sliced = false })
shape_in (Sliced coming) = Some (record { rows = coming.rows; columns = coming.columns; sliced = true })

abbrev pub shape_of : KindFields → Option FrameShape
shape_of (ule pid address packing) = None
shape_of (mpe pid) = None
shape_of (fec pid rows parity None) = Some (record { rows = rows; columns = parity; sliced = false })
shape_of (fec pid rows parity (Some window)) = Some (record { rows = rows; columns = parity; sliced = true })
shape_of (gse isi address) = None

-- there are bursts
abbrev pub is_sliced : Option FrameShape → Bool
is_sliced None = false
is_sliced (Some shape) = shape.sliced

-- of each service what it has left in rotation, its bursts, its frames where it has them, and the counter after its packets; the windows; and
-- which service is asked first for its turn
pub record Serving : Type 0 where
  pub turns : List (List PacketFields)
  pub bursts : List Bursts
  pub shapes : List (Option FrameShape)
  pub behind : List ℕ
  pub windows : List OwnedWindow
  pub first : ℕ

-- what services are seen as
abbrev pub serving_of : List ServicePackets → List OwnedWindow → ℕ → Serving
serving_of services windows first = record {
  turns = map turns_in_service services;
  bursts = map bursts_in services;
  shapes = map shape_in services;
  behind = map behind_in services;
  windows = windows;
  first = first;
}

-- the bursts of service k
abbrev pub bursts_of : List Bursts → ℕ → Bursts
bursts_of bursts k = slice_index_or bursts k no_bursts

abbrev pub packet_total : List (List PacketFields) → ℕ
packet_total [] = 0
packet_total (packets ∷ services) = length packets + packet_total services

-- how many packets are left in bursts, and in all
abbrev pub burst_total : List Bursts → ℕ
burst_total bursts = packet_total (map (λ (b : Bursts). b.packets) bursts)

abbrev pub left_in : Serving → ℕ
left_in serving = packet_total serving.turns + burst_total serving.bursts

-- the service has packets left
abbrev pub has_packets : List (List PacketFields) → ℕ → Bool
has_packets services k = nat_lt 0 (slice_index (packet_counts services) k)

-- the service whose turn it is
abbrev pub turn_of : Serving → Option ℕ
turn_of serving = find (has_packets serving.turns) (asked (length (packet_counts serving.turns)) serving.first)

-- the service whose turn it is gave its next packet
pub record TakesTurn (old new : Serving) (bytes : List ℕ) : Type 0 where
  pub service : ℕ
  pub turn : turn_of old ≡ Some service
  pub packet : PacketFields
  pub rest : List PacketFields
  pub next : slice_index_or old.turns service [] ≡ packet ∷ rest
  pub after : new ≡ record old { turns = set old.turns service rest; first = service + 1 }
  pub bytes_are : bytes ≡ written packet

-- the window of a service opens: the next of its bursts is under way
abbrev pub opening : Bursts → Bursts
opening b = record { packets = b.packets; under_way = slice_index b.sizes 0; sizes = drop 1 b.sizes }

-- at the first slot of a window, which is the service's at this place
abbrev pub opened_at : List Bursts → ℕ → ℕ → List Bursts
opened_at bursts k zero = set bursts k (opening (bursts_of bursts k))
opened_at bursts k (suc n) = bursts

abbrev pub opened_by : Option (ℕ × ℕ) → List Bursts → List Bursts
opened_by None bursts = bursts
opened_by (Some owner) bursts = opened_at bursts owner.0 owner.1

-- the services, where the window has opened that begins at this offset of a cycle
abbrev pub with_opened : ℕ → Serving → Serving
with_opened offset serving = record serving { bursts = opened_by (owner_of serving.windows offset) serving.bursts }

-- the service whose burst has a packet for the slot at this offset
abbrev pub burst_at : Option (ℕ × ℕ) → List Bursts → Option ℕ
burst_at None bursts = None
burst_at (Some owner) bursts = if nat_lt 0 (bursts_of bursts owner.0).under_way then Some owner.0 else None

abbrev pub burst_of : ℕ → Serving → Option ℕ
burst_of offset serving = burst_at (owner_of serving.windows offset) serving.bursts

-- the burst of service k that is under way gave its next packet
pub record GivesBurst (old new : Serving) (k : ℕ) (bytes : List ℕ) : Type 0 where
  pub packet : PacketFields
  pub rest : List PacketFields
  pub under_way : ℕ
  pub next : (bursts_of old.bursts k).packets ≡ packet ∷ rest
  pub left : (bursts_of old.bursts k).under_way ≡ under_way + 1
  pub after : new ≡ record old { bursts = set old.bursts k (record { packets = rest; under_way = under_way; sizes = (bursts_of old.bursts k).sizes }) }
  pub bytes_are : bytes ≡ written packet

-- what is left of the packets of services of which so many are out
abbrev pub left_of : List (List PacketFields) → List ℕ → List (List PacketFields)
left_of [] sent = []
left_of (packets ∷ services) [] = packets ∷ services
left_of (packets ∷ services) (n ∷ sent) = drop n packets ∷ left_of services sent

-- of services that had these packets in rotation so many are out
pub record AreAt (services : List (List PacketFields)) (turns : Turns) (serving : Serving) : Type 0 where
  pub packets : serving.turns ≡ left_of services turns.sent
  pub first : serving.first ≡ turns.first

-- the packets of the services of a part that go out in rotation: those of services without time slicing
abbrev pub in_rotation : List KindFields → List (List PacketFields) → List (List PacketFields)
in_rotation [] services = []
in_rotation (kind ∷ kinds) [] = []
in_rotation (kind ∷ kinds) (packets ∷ services) = (if is_some (sliced_of kind) then [] else packets) ∷ in_rotation kinds services

abbrev pub rotation : PartFields → List (List PacketFields)
rotation part = in_rotation (kinds part.plan) (service_packets part)

-- the frames of each service that has them
abbrev pub shapes_of : PlanFields → List (Option FrameShape)
shapes_of plan = map shape_of (kinds plan)

-- a service that has a PID, with datagrams that it takes
pub record Takes (service : ServiceFields) (datagrams : List (List ℕ)) : Type 0 where
  pub on_pid : is_on_pid service.kind ≡ true
  pub datagrams_are : AreFor service.kind datagrams
  pub few : length datagrams < 2 ^ 32

-- so many services of the plan, with a list for each
pub record AreTaken (plan : PlanFields) (lists : List (List (List ℕ))) : Type 0 where
  pub size : length lists ≡ length plan.services
  pub each : (k : ℕ) (service : ServiceFields) (datagrams : List (List ℕ)) → slice_get plan.services k ≡ Some service
      → slice_get lists k ≡ Some datagrams → Takes service datagrams

-- and the units of each, whose first frame in the part has the number that goes with its place
pub record AreLists (plan : PlanFields) (numbers : ℕ → ℕ) (lists : List (List (List ℕ))) (units : List ServiceUnits) : Type 0 where
  pub taken : AreTaken plan lists
  pub size : length units ≡ length plan.services
  pub each : (k : ℕ) (service : ServiceFields) (datagrams : List (List ℕ)) (of_service : ServiceUnits) → slice_get plan.services k ≡ Some service
      → slice_get lists k ≡ Some datagrams → slice_get units k ≡ Some of_service → AreUnitsFor service.kind service.unicast (numbers k) datagrams of_service

-- the counter with which service k begins the part of a version above 0: on the PID that it had it goes on, on another it is 0
abbrev pub counter_at : PlanFields → ℕ → List ℕ → ℕ → ℕ
counter_at plan version behind k = if shares_pid (pid_in plan version k) (pid_in plan (version - 1) k) then slice_index behind k else 0

-- the datagrams of service k in a version
abbrev pub listed : List (List (List (List ℕ))) → ℕ → ℕ → List (List ℕ)
listed lists version k = get_or (get_or lists version []) k []

-- how many frames service k has in the versions before one
abbrev pub frames_before : PlanFields → List (List (List (List ℕ))) → ℕ → ℕ → ℕ
frames_before plan lists version k = frame_count_before plan (listed lists) k version

-- each version of the plan has a list for each service
pub record HasServices (plan : PlanFields) (lists : List (List (List (List ℕ)))) : Type 0 where
  pub versions : length lists ≡ length plan.changes + 1
  pub services : (version : ℕ) → version ≤ length plan.changes → length (get_or lists version []) ≡ length plan.services

-- frames go out by this schedule
pub record GoesBy (times : Times) (schedule : FrameSchedule) : Type 0 where
  pub form_is : schedule.form ≡ form_of times.recording
  pub rate_is : schedule.rate ≡ times.packet_rate
  pub cycle_is : schedule.cycle ≡ times.cycle
  pub before_is : schedule.slots_before ≡ times.before
  pub goes_on_is : schedule.goes_on ≡ times.goes_on

-- the bursts of a sliced service are timed
abbrev pub HasTimes : KindFields → Times → Type 0
HasTimes kind times = (fields : SlicedFields) → sliced_of kind ≡ Some fields
    → IsSliceable (record { form = form_of times.recording; rate = times.packet_rate; cycle = times.cycle; start = fields.start; length = fields.length })

-- so are these, whatever their window is
pub record AreTimesOf (times : Times) (timing : Timing) : Type 0 where
  pub recording_is : timing.recording ≡ times.recording
  pub rate_is : timing.packet_rate ≡ times.packet_rate
  pub cycle_is : timing.cycle ≡ times.cycle
  pub before_is : timing.slots_before ≡ times.before
  pub goes_on_is : timing.goes_on ≡ times.goes_on

-- a service with these datagrams, units and times before the first slot of a part
pub record BeginsService (kind : KindFields) (unicast : List ℕ) (pid counter : ℕ) (datagrams : List (List ℕ)) (units : ServiceUnits) (times : Times) (service : ServicePackets) : Type 0 where
  pub packets_are : (schedule : FrameSchedule) → AreUnitsFor kind unicast schedule.first datagrams units
      → (is_some (sliced_of kind) ≡ true → GoesBy times schedule)
      → packets_in service ≡ packets_of_kind (with_pid kind pid) unicast counter schedule datagrams
  pub behind_is : behind_in service ≡ (counter + length (packets_in service)) % 16
  pub shape_is : shape_in service ≡ shape_of kind
  pub sizes_are : (bursts_in service).sizes ≡ burst_sizes kind datagrams
  pub none : (bursts_in service).under_way ≡ 0
  pub most : length (packets_in service) ≤ 2 ^ 48

-- service k of a plan before the first slot of a version
pub record BeginsIn (plan : PlanFields) (version k : ℕ) (lists : List (List (List (List ℕ)))) (counter before : ℕ) (service : ServicePackets) : Type 0 where
  pub packets_are : packets_in service ≡ packets_of (service_in plan version k) counter (schedule_of plan (listed lists) before k version) (listed lists version k)
  pub behind_is : behind_in service ≡ (counter + length (packets_in service)) % 16
  pub shape_is : shape_in service ≡ shape_of (kind_at plan k)
  pub sizes_are : (bursts_in service).sizes ≡ burst_sizes (kind_at plan k) (listed lists version k)
  pub none : (bursts_in service).under_way ≡ 0
  pub most : length (packets_in service) ≤ 2 ^ 48

-- a part of the plan's version has its lists of all these, its services begin with these counters, and their frames go out after so many slots
pub record HasLists (plan : PlanFields) (version : ℕ) (lists : List (List (List (List ℕ)))) (counters : ℕ → ℕ) (before : ℕ) (part : PartFields) : Type 0 where
  pub plan_is : part.plan ≡ plan_in plan version
  pub datagrams : (k : ℕ) → k < length plan.services → slice_get (get_or lists version []) k ≡ Some (part.datagrams k)
  pub counters_are : (k : ℕ) → k < length plan.services → counters k ≡ part.packets_before k % 16
  pub schedules_are : (k : ℕ) → k < length plan.services → part.schedules k ≡ schedule_of plan (listed lists) before k version

-- the bursts of service k of a part before its first slot
abbrev pub all_bursts : PartFields → ℕ → Bursts
all_bursts part k = record {
  packets = if is_some (sliced_of (kind_at part.plan k)) then slice_index_or (service_packets part) k [] else [];
  under_way = 0;
  sizes = sizes_in part k;
}

-- before its first slot
pub record Begins (part : PartFields) (serving : Serving) : Type 0 where
  pub turns : serving.turns ≡ rotation part
  pub bursts : (k : ℕ) → bursts_of serving.bursts k ≡ all_bursts part k
  pub count : length serving.bursts ≡ length part.plan.services
  pub shapes : serving.shapes ≡ shapes_of part.plan
  pub windows : serving.windows ≡ windows_of part.plan
  pub behind : (k : ℕ) → k < length part.plan.services
      → slice_index serving.behind k ≡ (part.packets_before k + length (slice_index_or (service_packets part) k [])) % 16
  pub first : serving.first ≡ 0
