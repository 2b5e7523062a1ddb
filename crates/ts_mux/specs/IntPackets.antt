-- The INT on its way: its section is packetized again in each cycle.
use Rattle.std.specs.Prelude.{◌≡◌, ℕ, ◌+◌, ◌*◌, ◌/◌, ◌%◌, ◌<◌, ◌≤◌, true, List, [], ◌∷◌, drop, min, Option, Some, None}
use Rattle.int_spec.specs.Table.{table_bytes}
use Rattle.plan_spec.specs.Plan.{IntFields}
use Rattle.plan_spec.specs.Signalling.{table_of, table_packets}
use Rattle.ts_spec.specs.Packetized.{packet_at}
use Rattle.stream_spec.specs.Parts.{PartFields, int_packets, written}
use Rattle.ts_mux.specs.SectionPackets.{OnWay}
use Rattle.ts_mux.specs.declared.int_packets.IntPackets.{IntPackets}

-- before this slot of a part the packets of the INT are so far out
pub record IsSignalled (part : PartFields) (int : IntFields) (slot : ℕ) (way : OnWay) : Type 0 where
  pub pid : way.pid ≡ int.pid
  pub packing : way.packing ≡ true
  pub units : way.units ≡ table_bytes (table_of part.plan int) ∷ []
  pub counter : way.counter ≡ (part.table_before + (slot / part.plan.cycle * table_packets part.plan + min (slot % part.plan.cycle) (table_packets part.plan))) % 16
  pub packets : 0 < slot % part.plan.cycle → slot % part.plan.cycle ≤ table_packets part.plan
      → way.packets ≡ drop (slot % part.plan.cycle) (int_packets part (Some int) (slot / part.plan.cycle))

abbrev pub IsSignalling : PartFields → Option IntFields → ℕ → Option OnWay → Type 0
IsSignalling part None slot way = Unit {0}
IsSignalling part (Some int) slot None = ⊥
IsSignalling part (Some int) slot (Some way) = IsSignalled part int slot way

pub record IsTableAt (part : PartFields) (slot : ℕ) (table : IntPackets) : Type 0 where
  pub count : table.count ≡ table_packets part.plan
  pub packets : IsSignalling part part.plan.table slot table.packets

-- the packet of the INT in a slot
abbrev pub packet_of_table : PartFields → ℕ → List ℕ
packet_of_table part slot = written (packet_at (int_packets part part.plan.table (slot / part.plan.cycle)) (slot % part.plan.cycle))
