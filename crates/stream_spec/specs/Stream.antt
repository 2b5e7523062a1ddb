-- The sender's stream: one part for each version of the plan, in order.
-- Profile: a part begins a cycle, and one without datagrams has no slots; the last one with datagrams ends with its last packet of a
-- service, each other with the cycle of that packet.
use Rattle.std.specs.Prelude.{◌≡◌, ℕ, ◌+◌, ◌-◌, ◌*◌, ◌/◌, ◌≤◌, Bool, true, false, not, List, length, sum_by, flat_map, nat_lt, if◌then◌else◌, Option, Some, None, is_some}
use Rattle.std.specs.List.{range_with_len, list_any, list_all}
use Rattle.plan_spec.specs.Plan.{PlanFields, pid_of, kinds}
use Rattle.plan_spec.specs.Changes.{plan_in, service_in, pid_in, has_pid, versions}
use Rattle.plan_spec.specs.Signalling.{table_packets}
use Rattle.stream_spec.specs.Units.{FrameSchedule, packets_of, frame_count}
use Rattle.stream_spec.specs.Slots.{IsSlotCount}
use Rattle.stream_spec.specs.Parts.{PartFields, slot_in, records_of_slots}

-- The datagrams are those of each version and, in it, of each service by its place: datagrams version k.

-- the versions before one
abbrev pub earlier : ℕ → List ℕ
earlier version = range_with_len 0 version

-- how many frames service k has in a version
abbrev pub frame_count_in : PlanFields → (ℕ → ℕ → List (List ℕ)) → ℕ → ℕ → ℕ
frame_count_in plan datagrams k version = frame_count (service_in plan version k).kind (datagrams version k)

-- and in all versions before it, whatever its PID was
abbrev pub frame_count_before : PlanFields → (ℕ → ℕ → List (List ℕ)) → ℕ → ℕ → ℕ
frame_count_before plan datagrams k version = sum_by (frame_count_in plan datagrams k) (earlier version)

-- a service has frames in a version
abbrev pub has_frames : PlanFields → (ℕ → ℕ → List (List ℕ)) → ℕ → ℕ → Bool
has_frames plan datagrams k version = nat_lt 0 (frame_count_in plan datagrams k version)

-- it has frames in a version after it
abbrev pub has_frames_after : PlanFields → (ℕ → ℕ → List (List ℕ)) → ℕ → ℕ → Bool
has_frames_after plan datagrams k version =
    list_any (has_frames plan datagrams k) (range_with_len (version + 1) (length plan.changes - version))

-- when its frames go out in a version, where so many slots come before
abbrev pub schedule_of : PlanFields → (ℕ → ℕ → List (List ℕ)) → ℕ → ℕ → ℕ → FrameSchedule
schedule_of plan datagrams slots_before k version = record {
  first = frame_count_before plan datagrams k version;
  form = plan.recording;
  rate = plan.packet_rate;
  cycle = plan.cycle;
  slots_before = slots_before;
  goes_on = has_frames_after plan datagrams k version;
}

-- how many packets it has in a version, whatever comes before
abbrev pub packet_count : PlanFields → (ℕ → ℕ → List (List ℕ)) → ℕ → ℕ → ℕ
packet_count plan datagrams k version =
    length (packets_of (service_in plan version k) 0 (schedule_of plan datagrams 0 k version) (datagrams version k))

-- of these, those on the PID that it has in another version
abbrev pub shares_pid : Option ℕ → Option ℕ → Bool
shares_pid None other = false
shares_pid (Some pid) other = has_pid other pid

abbrev pub packet_count_on : PlanFields → (ℕ → ℕ → List (List ℕ)) → ℕ → ℕ → ℕ → ℕ
packet_count_on plan datagrams k other version =
    if shares_pid (pid_in plan other k) (pid_in plan version k) then packet_count plan datagrams k version else 0

-- the part of a version, where the parts have so many slots, those before it whole cycles
abbrev pub part_of : PlanFields → (ℕ → ℕ → List (List ℕ)) → (ℕ → ℕ) → ℕ → PartFields
part_of plan datagrams slots version = record {
  plan = plan_in plan version;
  slots_before = sum_by slots (earlier version);
  table_before = sum_by (λ v. slots v / plan.cycle * table_packets (plan_in plan v)) (earlier version);
  packets_before = λ k. sum_by (packet_count_on plan datagrams k version) (earlier version);
  schedules = λ k. schedule_of plan datagrams (sum_by slots (earlier version)) k version;
  datagrams = datagrams version;
}

-- a service has a datagram in the version
abbrev pub has_datagrams : PlanFields → (ℕ → ℕ → List (List ℕ)) → ℕ → Bool
has_datagrams plan datagrams version = list_any (λ k. nat_lt 0 (length (datagrams version k))) (range_with_len 0 (length plan.services))

-- none has one in a version after it
abbrev pub is_last : PlanFields → (ℕ → ℕ → List (List ℕ)) → ℕ → Bool
is_last plan datagrams version = not (list_any (has_datagrams plan datagrams) (range_with_len (version + 1) (length plan.changes - version)))

-- so many slots, up to the end of the last cycle that they begin
abbrev pub whole_cycles : ℕ → ℕ → ℕ
whole_cycles cycle slots = (slots + cycle - 1) / cycle * cycle

-- a part ends with its last packet of a service, or with the cycle of that packet where datagrams follow in another part. So one without
-- packets has no slots
pub record IsPartCount (plan : PlanFields) (datagrams : ℕ → ℕ → List (List ℕ)) (slots : ℕ → ℕ) (version : ℕ) : Type 0 where
  pub least : ℕ
  pub count : IsSlotCount (slot_in (part_of plan datagrams slots version)) least
  pub slots_are : slots version ≡ (if is_last plan datagrams version then least else whole_cycles plan.cycle least)

-- all services have PIDs: GSE packets stand in no transport packets
abbrev pub are_on_pids : PlanFields → Bool
are_on_pids plan = list_all (λ kind. is_some (pid_of kind)) (kinds plan)

-- the records, one after another, are the stream of these datagrams, whose services are all on PIDs: one part for each version
pub record IsStream (plan : PlanFields) (datagrams : ℕ → ℕ → List (List ℕ)) (records : List (List ℕ)) : Type 0 where
  pub defined : are_on_pids plan ≡ true
  pub slots : ℕ → ℕ
  pub each : (version : ℕ) → version ≤ length plan.changes → IsPartCount plan datagrams slots version
  pub records_are : records ≡ flat_map (λ version. records_of_slots (part_of plan datagrams slots version) (slots version)) (versions plan)
