-- Counters of a reception, which stand still at the last value of a u64.
use Rattle.std.specs.Prelude.{◌≡◌, ℕ, ◌+◌, zero, suc, List, map, flat_map, count_by}
use Rattle.wire_spec.specs.Causes.{raised}
use Rattle.ts_spec.specs.Events.{Event, unit_event, bad_check_event, delimit_event, bad_length_event}
use Rattle.reassembly_law.specs.UnderWay.{unit_of_event}
use Rattle.reception_spec.specs.Numbers.{PidNumbers, UnitNumbers, is_unit, is_bad_check, is_delimit, is_bad_length}
use Rattle.ts_packet.specs.declared.continuity.Link.{Link}
use Rattle.ts_packet.specs.declared.continuity.Link.TheVariants.{First, Next, Repeat, Gap}
use Rattle.reception_spec.specs.Frames.{FrameNumbers}
use Rattle.service_counts.specs.declared.counts.ServiceCounts.{ServiceCounts}

-- the numbers of the PID, those of the units, and those of frames
abbrev pub on_pid : ServiceCounts → PidNumbers
on_pid counts = record {
  heard = counts.heard;
  repeats = counts.repeats;
  gaps = counts.gaps;
  units = counts.units;
  bad_check = counts.bad_check;
  delimited = counts.delimited;
  bad_length = counts.bad_length;
}

abbrev pub of_units : ServiceCounts → UnitNumbers
of_units counts = record { unread = counts.unread; filtered = counts.filtered; datagrams = counts.datagrams }

abbrev pub of_frames : ServiceCounts → FrameNumbers
of_frames counts = record { frames = counts.frames; rows_mended = counts.rows_mended; rows_left = counts.rows_left; datagrams = counts.datagrams }

-- there are no frames in them
abbrev pub HasNoFrames : ServiceCounts → Type 0
HasNoFrames counts = (counts.frames ≡ 0) × (counts.rows_mended ≡ 0) × (counts.rows_left ≡ 0)

-- all numbers of a service: of its PIDs, of what its units give by themselves, and of what its frames do
abbrev pub service_counts_of : PidNumbers → UnitNumbers → FrameNumbers → ServiceCounts
service_counts_of on_pid of_units of_frames = record {
  heard = on_pid.heard;
  repeats = on_pid.repeats;
  gaps = on_pid.gaps;
  units = on_pid.units;
  bad_check = on_pid.bad_check;
  delimited = on_pid.delimited;
  bad_length = on_pid.bad_length;
  unread = of_units.unread;
  filtered = of_units.filtered;
  frames = of_frames.frames;
  rows_mended = of_frames.rows_mended;
  rows_left = of_frames.rows_left;
  datagrams = of_units.datagrams + of_frames.datagrams;
}

-- one packet more is counted, by how it follows the one before
abbrev pub counted_link : PidNumbers → Link → PidNumbers
counted_link n First = record n { heard = raised n.heard 1 }
counted_link n Next = record n { heard = raised n.heard 1 }
counted_link n Repeat = record n { repeats = raised n.repeats 1 }
counted_link n Gap = record n { heard = raised n.heard 1; gaps = raised n.gaps 1 }

-- one event more is counted
abbrev pub counted_event : PidNumbers → Event → PidNumbers
counted_event n (unit_event moment unit) = record n { units = raised n.units 1 }
counted_event n bad_check_event = record n { bad_check = raised n.bad_check 1 }
counted_event n delimit_event = record n { delimited = raised n.delimited 1 }
counted_event n bad_length_event = record n { bad_length = raised n.bad_length 1 }

-- the counter, raised by a number; by none it stays
abbrev pub raised_by : ℕ → ℕ → ℕ
raised_by n zero = n
raised_by n (suc k) = raised n (suc k)

-- what became of units is counted
abbrev pub counted_units : UnitNumbers → UnitNumbers → UnitNumbers
counted_units n more = record {
  unread = raised_by n.unread more.unread;
  filtered = raised_by n.filtered more.filtered;
  datagrams = raised_by n.datagrams more.datagrams;
}

-- the units among events
abbrev pub units_in : List Event → List (List ℕ)
units_in events = map (λ (pair : ℕ × List ℕ). pair.1) (flat_map unit_of_event events)

-- the numbers of packets, with those of these events
abbrev pub with_events : PidNumbers → List Event → PidNumbers
with_events links events = record {
  heard = links.heard;
  repeats = links.repeats;
  gaps = links.gaps;
  units = count_by is_unit events;
  bad_check = count_by is_bad_check events;
  delimited = count_by is_delimit events;
  bad_length = count_by is_bad_length events;
}
