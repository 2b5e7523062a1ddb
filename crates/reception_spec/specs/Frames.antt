-- What is received of the MPE-FEC frames of a service on one PID (EN 301 192 clause 9).
use Rattle.std.specs.Prelude.{ℕ, ◌+◌, Bool, List, [], length, sum_by, is_some}
use Rattle.ts_spec.specs.Recording.{RecordingForm, Record}
use Rattle.fec_frame_spec.specs.Sections.{TimedSection, sections_of, frame_sections}
use Rattle.fec_frame_spec.specs.Groups.{timing_in, received_frames, closed_frames}
use Rattle.fec_frame_spec.specs.Known.{known_byte}
use Rattle.fec_frame_spec.specs.Corrected.{mended_rows, left_rows}
use Rattle.fec_frame_spec.specs.Delivered.{datagrams_of_frames}
use Rattle.plan_spec.specs.Plan.{KindFields, ule, mpe, fec, gse}

-- the received frames of a service of this kind in a span, in recordings of this form: none where it has no frames (EN 301 192 clause 9)
abbrev pub frames_received : RecordingForm → KindFields → List Record → List (List TimedSection)
frames_received form (ule pid address packing) records = []
frames_received form (mpe pid) records = []
frames_received form (fec pid rows parity window) records = received_frames (timing_in form (is_some window)) rows (frame_sections rows pid records)
frames_received form (gse isi address) records = []

-- those that are closed: all where no more sections come, otherwise those to which none can be added
abbrev pub told_frames : Bool → RecordingForm → KindFields → List Record → List (List TimedSection)
told_frames ended form kind records = closed_frames ended (frames_received form kind records)

-- the rows of its frames; 0 where it has none (EN 301 192 clause 9)
abbrev pub rows_of : KindFields → ℕ
rows_of (ule pid address packing) = 0
rows_of (mpe pid) = 0
rows_of (fec pid rows parity window) = rows
rows_of (gse isi address) = 0

-- received frames; their rows that lacked a byte of the application data table and were corrected, and those that lacked one and were left;
-- the datagrams that the frames give
pub record FrameNumbers : Type 0 where
  pub frames : ℕ
  pub rows_mended : ℕ
  pub rows_left : ℕ
  pub datagrams : ℕ

-- the numbers of no frames
abbrev pub no_frames : FrameNumbers
no_frames = record { frames = 0; rows_mended = 0; rows_left = 0; datagrams = 0 }

-- the sums of the numbers of frames
abbrev pub sum_of_frames : FrameNumbers → FrameNumbers → FrameNumbers
sum_of_frames a b = record {
  frames = a.frames + b.frames;
  rows_mended = a.rows_mended + b.rows_mended;
  rows_left = a.rows_left + b.rows_left;
  datagrams = a.datagrams + b.datagrams;
}

-- the numbers of some received frames
abbrev pub frame_numbers : ℕ → List (List TimedSection) → FrameNumbers
frame_numbers rows frames = record {
  frames = length frames;
  rows_mended = sum_by (λ (frame : List TimedSection). mended_rows rows (known_byte rows (sections_of frame))) frames;
  rows_left = sum_by (λ (frame : List TimedSection). left_rows rows (known_byte rows (sections_of frame))) frames;
  datagrams = length (datagrams_of_frames rows frames);
}
