-- The bursts of a service that are still to come.
use Rattle.std.specs.Prelude.{◌≡◌, ℕ, zero, suc, ◌+◌, ◌%◌, ◌≤◌, ◌^◌, Bool, true, List, [], ◌++◌, length, map, drop, if◌then◌else◌, Some}
use Rattle.ts_spec.specs.Packet.{PacketFields}
use Rattle.plan_spec.specs.Plan.{KindFields, fec}
use Rattle.section_spec.specs.Section.{section_form}
use Rattle.section_spec.specs.Mpe.{IsRows}
use Rattle.slice_spec.specs.Bursts.{IsSliceable}
use Rattle.unit_stream.specs.Packers.{PackerState, AreEnds, IsOnWay, packets_left}
use Rattle.stream_spec.specs.Units.{FrameSchedule, burst_size, burst_sizes, datagrams_by_burst, delta_after, packets_of_kind, packetized_apart, units_by_burst}
use Rattle.fec_sent_law.specs.Frames.{AreSendable}
use Rattle.fec_units.specs.Bursts.{AreBurstEnds, HeldUnits}
use Rattle.burst_packets.specs.Timing.{IsTimedBy, schedule_in, slicing_in, window_in}
use Rattle.burst_packets.specs.declared.bursts.Shape.{Shape}
use Rattle.burst_packets.specs.declared.timing.Timing.{Timing}

-- rows and sent columns of each frame; the packets of all bursts of a part that are not out, and the counter of the packet that would follow
-- them; how many packets the bursts have whose windows have not opened; and how many of the burst of the last window that opened are not out
pub record Bursts : Type 0 where
  pub rows : ℕ
  pub columns : ℕ
  pub packets : List PacketFields
  pub behind : ℕ
  pub sizes : List ℕ
  pub under_way : ℕ

-- a sliced service with frames of this shape
abbrev pub kind_of : Shape → Timing → ℕ → KindFields
kind_of shape timing pid = fec pid shape.rows shape.columns (Some (window_in timing))

-- before the first slot of a part in which the service has these datagrams
pub record Begins (shape : Shape) (timing : Timing) (pid counter : ℕ) (datagrams : List (List ℕ)) (bursts : Bursts) : Type 0 where
  pub rows_are : bursts.rows ≡ shape.rows
  pub columns_are : bursts.columns ≡ shape.columns
  pub packets_are : (schedule : FrameSchedule) → IsTimedBy timing schedule
      → bursts.packets ≡ packets_of_kind (kind_of shape timing pid) shape.unicast counter schedule datagrams
  pub behind_is : bursts.behind ≡ (counter + length bursts.packets) % 16
  pub sizes_are : bursts.sizes ≡ burst_sizes (kind_of shape timing pid) datagrams
  pub none : bursts.under_way ≡ 0
  pub most : length bursts.packets ≤ 2 ^ 48

-- How the code has them. The units of a burst lie in a buffer, in which there are none of this part before its first window.

-- delta_t of a section that begins in packet n of the burst of a cycle
abbrev pub delta_in : Timing → Bool → ℕ → ℕ → ℕ
delta_in timing is_last cycle n = if is_last then 0 else delta_after (schedule_in 0 timing) (window_in timing) cycle n

-- where the units of the burst end, where so many windows have opened
abbrev pub ends_in : ℕ → HeldUnits → List ℕ
ends_in zero held = []
ends_in (suc opened) held = held.ends

-- the packets of this burst that are not out
abbrev pub packets_in : ℕ → HeldUnits → PackerState → List PacketFields
packets_in opened held packer = packets_left section_form packer held.bytes (ends_in opened held)

-- all bursts of the part
abbrev pub bursts_in : HeldUnits → Timing → List (List ℕ) → List (List (List ℕ))
bursts_in held timing datagrams = datagrams_by_burst held.rows held.columns timing.length datagrams

-- the packets of those whose windows have not opened, with counters from one on
abbrev pub packets_after : HeldUnits → List ℕ → Timing → List (List ℕ) → ℕ → ℕ → ℕ → List PacketFields
packets_after held unicast timing datagrams pid counter opened =
    packetized_apart pid counter
    (units_by_burst held.rows held.columns unicast (schedule_in 0 timing) (window_in timing) opened (drop opened (bursts_in held timing datagrams)))

abbrev pub all_packets : HeldUnits → List ℕ → Timing → List (List ℕ) → ℕ → PackerState → List PacketFields
all_packets held unicast timing datagrams opened packer =
    packets_in opened held packer
    ++ packets_after held unicast timing datagrams packer.pid ((packer.counter + length (packets_in opened held packer)) % 16) opened

abbrev pub bursts_seen : HeldUnits → List ℕ → Timing → List (List ℕ) → ℕ → PackerState → Bursts
bursts_seen held unicast timing datagrams opened packer = record {
  rows = held.rows;
  columns = held.columns;
  packets = all_packets held unicast timing datagrams opened packer;
  behind = (packer.counter + length (all_packets held unicast timing datagrams opened packer)) % 16;
  sizes = drop opened (map (burst_size held.rows held.columns) (bursts_in held timing datagrams));
  under_way = length (packets_in opened held packer);
}

-- the bursts of these datagrams end here; so many of their windows have opened, and the packer is on its way through the last of them
pub record AreUnderWay (held : HeldUnits) (timing : Timing) (datagrams : List (List ℕ)) (ends : List ℕ) (opened : ℕ) (packer : PackerState) : Type 0 where
  pub rows_are : IsRows held.rows
  pub columns_least : 1 ≤ held.columns
  pub columns_most : held.columns ≤ 64
  pub sliceable : IsSliceable (slicing_in timing)
  pub sendable : AreSendable datagrams
  pub bursts_are : AreBurstEnds held.rows held.columns timing.length datagrams ends
  pub within : opened ≤ length ends
  pub packing : packer.packing ≡ true
  pub counter : packer.counter ≤ 15
  pub units : AreEnds 1 (length held.bytes) (ends_in opened held)
  pub way : IsOnWay packer (ends_in opened held)
