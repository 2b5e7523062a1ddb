-- What a reception of frames stands for.
use Rattle.std.specs.Prelude.{◌≡◌, ℕ, ◌^◌, ◌<◌, ◌≤◌, true, false, List, [], ◌∷◌, ◌++◌, drop, length, Option, None}
use Rattle.ts_spec.specs.Recording.{Record}
use Rattle.ts_spec.specs.Received.{received_packets}
use Rattle.reassembly_law.specs.Records.{last_bytes}
use Rattle.section_spec.specs.Section.{section_form}
use Rattle.section_spec.specs.Mpe.{IsRows}
use Rattle.slice_spec.specs.Sections.{Timing}
use Rattle.fec_frame_spec.specs.Sections.{sections_of}
use Rattle.reception_spec.specs.Numbers.{PidNumbers, pid_numbers}
use Rattle.reception_spec.specs.Frames.{FrameNumbers, frame_numbers}
use Rattle.unit_stream.specs.Joining.{JoinerState, Stands}
use Rattle.fec_frame.specs.Stands.{TableState, Stands as TableStands}
use Rattle.time_slice.specs.Views.{Seen}
use Rattle.fec_reception.specs.Frames.{closed_in, open_in, last_time, unread_in, told_in}

-- the table of the open frame, the section seen last of it, and all numbers
pub record FramesState : Type 0 where
  pub table : TableState
  pub seen : Seen
  pub on_pid : PidNumbers
  pub unread : ℕ
  pub of_frames : FrameNumbers

-- the packet received last, the unit under way, and these
pub record FecReceptionState : Type 0 where
  pub last : Option (List ℕ)
  pub joiner : JoinerState
  pub frames : FramesState

-- frames with so many rows are received, and their delta_t counts this
pub record IsOver (timing : Timing) (rows : ℕ) (state : FramesState) : Type 0 where
  pub timing_is : state.seen.timing ≡ timing
  pub rows_are : state.table.rows ≡ rows
  pub rows_right : IsRows rows

-- these records were received on a PID with frames
pub record HasTaken (timing : Timing) (rows pid : ℕ) (state : FecReceptionState) (records : List Record) : Type 0 where
  pub over : IsOver timing rows state.frames
  pub last_is : state.last ≡ last_bytes None (received_packets pid records)
  pub stands : Stands section_form state.joiner (received_packets pid records)
  pub on_pid_are : state.frames.on_pid ≡ pid_numbers section_form pid records
  pub unread_is : state.frames.unread ≡ unread_in rows pid records
  pub of_frames_are : state.frames.of_frames ≡ frame_numbers rows (closed_in false timing rows pid records)
  pub table_stands : TableStands state.frames.table (sections_of (open_in timing rows pid records))
  pub seen_is : state.frames.seen.last ≡ last_time (open_in timing rows pid records)

-- the same, where no more records can come: all frames are closed
pub record HasEnded (timing : Timing) (rows pid : ℕ) (state : FecReceptionState) (records : List Record) : Type 0 where
  pub over : IsOver timing rows state.frames
  pub on_pid_are : state.frames.on_pid ≡ pid_numbers section_form pid records
  pub unread_is : state.frames.unread ≡ unread_in rows pid records
  pub of_frames_are : state.frames.of_frames ≡ frame_numbers rows (closed_in true timing rows pid records)

-- these records were received, fewer than 2^32, and one packet more of this PID is to be taken
pub record IsReceiving (timing : Timing) (rows pid : ℕ) (state : FecReceptionState) (records : List Record) : Type 0 where
  pub few : length records < 2 ^ 32
  pub received : HasTaken timing rows pid state records

-- these records were received, 2^32 of them at most, and no packet of this PID comes after them
pub record IsEnding (timing : Timing) (rows pid : ℕ) (state : FecReceptionState) (records : List Record) : Type 0 where
  pub few : length records ≤ 2 ^ 32
  pub received : HasTaken timing rows pid state records

-- the datagrams that one record more tells, and those that the end does
abbrev pub added_by : Timing → ℕ → ℕ → List Record → Record → List (List ℕ)
added_by timing rows pid records r =
    drop (length (told_in false timing rows pid records)) (told_in false timing rows pid (records ++ r ∷ []))

abbrev pub added_by_end : Timing → ℕ → ℕ → List Record → List (List ℕ)
added_by_end timing rows pid records = drop (length (told_in false timing rows pid records)) (told_in true timing rows pid records)
