-- Small transmissions, to try the definitions on: cycles of five slots, of which the first is the INT's; and a plan that changes.
use Rattle.std.specs.Prelude.{ℕ, zero, suc, true, List, [], ◌∷◌, ◌++◌, map, replicate, None}
use Rattle.std.specs.List.{range_with_len}
use Rattle.ts_spec.specs.Recording.{stamped}
use Rattle.plan_spec.specs.Plan.{WindowFields, fec, ServiceFields, PlanFields}
use Rattle.plan_spec.specs.Examples.{plan_that_changes}
use Rattle.stream_spec.specs.Slots.{Slot, kept_for_table, slot_at}
use Rattle.stream_spec.specs.Units.{FrameSchedule}
use Rattle.stream_spec.specs.Parts.{PartFields}
use Rattle.stream_spec.specs.Stream.{part_of}

-- two services of three and one packets
abbrev pub small_packets : List ℕ
small_packets = 3 ∷ 1 ∷ []

abbrev pub small_slot : ℕ → Slot
small_slot s = slot_at (kept_for_table 5 1) small_packets s

abbrev pub small_slots : List Slot
small_slots = map small_slot (range_with_len 0 8)

-- a service without packets
abbrev pub idle_slot : ℕ → Slot
idle_slot s = slot_at (kept_for_table 5 1) (0 ∷ []) s

-- a datagram of 100 bytes to 239.2.2.2
abbrev pub datagram_of_100 : List ℕ
datagram_of_100 = (0x45 ∷ 0 ∷ 0 ∷ 100 ∷ 0 ∷ 0 ∷ 0 ∷ 0 ∷ 64 ∷ 17 ∷ 0 ∷ 0 ∷ 10 ∷ 0 ∷ 0 ∷ 1 ∷ 239 ∷ 2 ∷ 2 ∷ 2 ∷ []) ++ replicate 80 0

-- two of them in each version of a plan in which files move from PID 513 to 514, in cycles of 100 slots
abbrev pub two_of_each : ℕ → ℕ → List (List ℕ)
two_of_each version k = datagram_of_100 ∷ datagram_of_100 ∷ []

-- the slots of the parts, and the part of version 1
abbrev pub slots_of_files : ℕ → ℕ
slots_of_files zero = 100
slots_of_files (suc version) = 3

abbrev pub second_part : PartFields
second_part = part_of plan_that_changes two_of_each slots_of_files 1

-- the same files in MPE-FEC frames of 256 rows
abbrev pub in_frames : ServiceFields → ServiceFields
in_frames service = record service { kind = fec 513 256 64 None }

abbrev pub framed_plan : PlanFields
framed_plan = record plan_that_changes { services = map in_frames plan_that_changes.services }

abbrev pub second_part_in_frames : PartFields
second_part_in_frames = part_of framed_plan two_of_each slots_of_files 1

-- bursts at 10,000 packets per second, in a window of 1,500 slots from slot 100 of each cycle of 20,000, in a part before which one cycle
-- went out
abbrev pub after_a_cycle : FrameSchedule
after_a_cycle = record { first = 1; form = stamped; rate = 10000; cycle = 20000; slots_before = 20000; goes_on = true }

abbrev pub window_of_1500 : WindowFields
window_of_1500 = record { start = 100; length = 1500 }
