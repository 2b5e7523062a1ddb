-- Counters of a reception of frames, which stand still at the last value of a u64.
use Rattle.std.specs.Prelude.{ℕ}
use Rattle.wire_spec.specs.Causes.{raised}
use Rattle.reception_spec.specs.Numbers.{UnitNumbers}
use Rattle.reception_spec.specs.Frames.{FrameNumbers}

-- what the units of a PID with frames give by themselves: some carry nothing of a frame, and none is filtered
abbrev pub unread_alone : ℕ → UnitNumbers
unread_alone unread = record { unread = unread; filtered = 0; datagrams = 0 }

-- one frame more is counted: its rows that were corrected, and that were not, and its datagrams
abbrev pub counted_frame : FrameNumbers → ℕ → ℕ → ℕ → FrameNumbers
counted_frame n mended left datagrams = record {
  frames = raised n.frames 1;
  rows_mended = raised n.rows_mended mended;
  rows_left = raised n.rows_left left;
  datagrams = raised n.datagrams datagrams;
}
