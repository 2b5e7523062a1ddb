-- One slot of a part after another.
use Rattle.std.specs.Prelude.{◌≡◌, ℕ, ◌+◌, ◌-◌, ◌/◌, ◌%◌, ◌^◌, ◌<◌, ◌≤◌, min, Bool, false, List, [], ◌++◌, length, take, drop, slice_index, slice_index_or, nat_lt, nat_le, if◌then◌else◌, Option, Some, None, Result, IfOk, MatchResult}
use Rattle.std.specs.Io.KnownBytes.{Appends}
use Rattle.wire_spec.specs.Lists.{joined}
use Rattle.ts_spec.specs.Packet.{PacketFields}
use Rattle.plan_spec.specs.Plan.{PlanFields, kinds, SlicedFields, sliced_of}
use Rattle.plan_spec.specs.Changes.{plan_in}
use Rattle.stream_spec.specs.Services.{kind_at}
use Rattle.stream_spec.specs.Slots.{Turns, is_of_service, turns_at, IsSlotCount}
use Rattle.stream_spec.specs.Windows.{windows_of, out_before}
use Rattle.stream_spec.specs.Parts.{PartFields, service_packets, turn_counts, sizes_in, kept_in, slot_in, packet_in, record_of_slot, records_of_slots}
use Rattle.stream_spec.specs.Stream.{whole_cycles}
use Rattle.ts_mux.specs.Services.{Serving, AreAt, Bursts, no_bursts, bursts_of, rotation, shapes_of}
use Rattle.ts_mux.specs.IntPackets.{IsTableAt}
use Rattle.ts_mux.specs.declared.int_packets.IntPackets.{IntPackets}

-- how far the services are in their rotation before a slot
abbrev pub turns_in : PartFields → ℕ → Turns
turns_in part slot = turns_at (kept_in part) (turn_counts (kinds part.plan) (service_packets part)) slot

-- the bursts of a sliced service before a slot of its part, where the window begins at this slot of each cycle, and the bursts have so many
-- packets each: of each packet of a burst the slot is known
abbrev pub bursts_before : ℕ → ℕ → List ℕ → List PacketFields → ℕ → Bursts
bursts_before cycle start sizes packets slot = record {
  packets = drop (out_before sizes (slot / cycle) + min (slice_index sizes (slot / cycle)) (slot % cycle - start)) packets;
  under_way = if nat_le (slot % cycle) start then 0 else slice_index sizes (slot / cycle) - (slot % cycle - start);
  sizes = drop (if nat_le (slot % cycle) start then slot / cycle else slot / cycle + 1) sizes;
}

-- the bursts of service k: a service in rotation has none
abbrev pub bursts_where : PartFields → ℕ → ℕ → Option SlicedFields → Bursts
bursts_where part slot k None = no_bursts
bursts_where part slot k (Some fields) = bursts_before part.plan.cycle fields.start (sizes_in part k) (slice_index_or (service_packets part) k []) slot

abbrev pub bursts_there : PartFields → ℕ → ℕ → Bursts
bursts_there part slot k = bursts_where part slot k (sliced_of (kind_at part.plan k))

-- all services stand before a slot of the part
pub record ServicesAt (part : PartFields) (slot : ℕ) (serving : Serving) : Type 0 where
  pub turns : AreAt (rotation part) (turns_in part slot) serving
  pub bursts : (k : ℕ) → bursts_of serving.bursts k ≡ bursts_there part slot k
  pub count : length serving.bursts ≡ length part.plan.services
  pub shapes : serving.shapes ≡ shapes_of part.plan
  pub windows : serving.windows ≡ windows_of part.plan

-- a slot of the INT, which has so many packets in each cycle
abbrev pub is_early : ℕ → ℕ → ℕ → Bool
is_early cycle table slot = nat_lt (slot % cycle) table

-- the part of a version of the plan, which begins with a cycle; no burst is longer than its window
pub record IsPartOf (plan : PlanFields) (part : PartFields) : Type 0 where
  pub version : ℕ
  pub within : version ≤ length plan.changes
  pub plan_is : part.plan ≡ plan_in plan version
  pub whole : part.slots_before % plan.cycle ≡ 0
  pub fits : (k : ℕ) (fields : SlicedFields) → sliced_of (kind_at part.plan k) ≡ Some fields → (c : ℕ) → slice_index (sizes_in part k) c ≤ fields.length

-- the services and the INT stand before a slot of the part, which is this one of the stream
pub record StandBefore (plan : PlanFields) (part : PartFields) (slot of_stream : ℕ) (serving : Serving) (signals : IntPackets) : Type 0 where
  pub of_plan : IsPartOf plan part
  pub place : of_stream ≡ part.slots_before + slot
  pub table : IsTableAt part slot signals
  pub services : ServicesAt part slot serving

-- they do, before a slot of some part
abbrev pub StandInPart : PlanFields → ℕ → Serving → IntPackets → Type 0
StandInPart plan of_stream serving signals = (part : PartFields) × (slot : ℕ) × StandBefore plan part slot of_stream serving signals

-- no slot of a part from one on carries a packet of a service
abbrev pub IsOver : PartFields → ℕ → Type 0
IsOver part slot = (later : ℕ) → slot ≤ later → is_of_service (slot_in part later) ≡ false

-- all slots of a part have numbers that 64 bits hold, up to the end of a cycle, where the first of them has this number in the stream
abbrev pub IsFew : PartFields → ℕ → Type 0
IsFew part first = (slots : ℕ) → IsSlotCount (slot_in part) slots → first + slots + 1000000 < 2 ^ 64

-- the packet of a slot was taken
pub record TakesSlot (plan : PlanFields) (part : PartFields) (slot of_stream : ℕ) (serving : Serving) (table : IntPackets) (bytes : List ℕ) : Type 0 where
  pub bytes_are : bytes ≡ packet_in part (slot / part.plan.cycle) (slot_in part slot)
  pub after : StandBefore plan part (slot + 1) (of_stream + 1) serving table

-- the record of a slot was written to the front of these bytes
pub record WritesRecord (plan : PlanFields) (part : PartFields) (slot of_stream : ℕ) (serving : Serving) (table : IntPackets) (old bytes : List ℕ) (size : ℕ) : Type 0 where
  pub bytes_are : bytes ≡ record_of_slot part slot ++ drop size old
  pub size_is : size ≡ length (record_of_slot part slot)
  pub after : StandBefore plan part (slot + 1) (of_stream + 1) serving table

-- the record of a slot was added after others
pub record AddsRecord (plan : PlanFields) (part : PartFields) (slot of_stream : ℕ) (serving : Serving) (table : IntPackets) (old bytes : List ℕ) : Type 0 where
  pub bytes_are : bytes ≡ old ++ record_of_slot part slot
  pub after : StandBefore plan part (slot + 1) (of_stream + 1) serving table

-- records went after those that were held back: at Ok all, and a front of all is appended, the others are held back; at Err a prefix is
-- appended of what was to be
abbrev pub Passes : {T E : Type 0} → Result T E → Option (List ℕ) → Option (List ℕ) → List ℕ → List ℕ → List ℕ → Type 0
Passes result old new before after records =
    MatchResult result (λ _. (front : List ℕ) × Appends old new front × (before ++ records ≡ front ++ after)) (λ _. (n : ℕ) × Appends old new (take n (before ++ records)))

-- of the bytes that were held back before a part and its records before a slot a front was appended, and these bytes after it are held back
pub record AreHanded (part : PartFields) (slot : ℕ) (old new : Option (List ℕ)) (before back : List ℕ) : Type 0 where
  pub front : List ℕ
  pub appended : Appends old new front
  pub bytes_are : before ++ joined (records_of_slots part slot) ≡ front ++ back

-- how many slots the part has whose last packet of a service stands before slot least; where it is filled, up to the end of that cycle
abbrev pub slots_with : Bool → ℕ → ℕ → ℕ
slots_with filled cycle least = if filled then whole_cycles cycle least else least

-- the records of all slots of a part, of which none was written
pub record WritesSlots {E : Type 0} (plan : PlanFields) (part : PartFields) (filled : Bool) (result : Result ℕ E) (old new : Option (List ℕ)) (before after : List ℕ) (serving : Serving) (table : IntPackets) : Type 0 where
  pub least : ℕ
  pub count : IsSlotCount (slot_in part) least
  pub passes : Passes result old new before after (joined (records_of_slots part (slots_with filled part.plan.cycle least)))
  pub stand : IfOk result (λ of_stream. StandBefore plan part (slots_with filled part.plan.cycle least) of_stream serving table)

-- the records up to the end of the cycle of a slot went after those before it
pub record FillsCycle {E : Type 0} (plan : PlanFields) (part : PartFields) (slot : ℕ) (result : Result ℕ E) (old new : Option (List ℕ)) (before after : List ℕ) (serving : Serving) (table : IntPackets) : Type 0 where
  pub passes : Passes result old new before after (joined (records_of_slots part (whole_cycles part.plan.cycle slot)))
  pub stand : IfOk result (λ of_stream. StandBefore plan part (whole_cycles part.plan.cycle slot) of_stream serving table)
