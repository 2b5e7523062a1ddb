-- Pieces of a recording, as readers of records and of frames have them.
use Rattle.std.specs.Prelude.{◌≡◌, ℕ, ◌<◌, false, List}
use Rattle.ts_record.specs.Reading.{ReaderState, ReaderOf}
use Rattle.bb_frame.specs.Reading.{ReaderState as FrameReaderState, ReaderOf as FrameReaderOf}

-- a reader of records has read these pieces, and has not seen the end
pub record HasReadPackets (reader : ReaderState) (pieces : List (List ℕ)) : Type 0 where
  pub stands : ReaderOf reader pieces
  pub unended : reader.has_ended ≡ false

-- a reader of frames has read these, and has not seen the end
pub record HasReadFrames (reader : FrameReaderState) (frames : List (List ℕ)) : Type 0 where
  pub stands : FrameReaderOf reader frames
  pub unended : reader.has_ended ≡ false
  pub some : 0 < reader.size
