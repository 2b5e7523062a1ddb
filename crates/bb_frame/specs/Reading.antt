-- A reader of frames, and what one call of it reads.
use Rattle.std.specs.Prelude.{◌≡◌, ℕ, ◌+◌, ◌<◌, Bool, true, false, List, [], ◌∷◌, ◌++◌, length, All, Option, Some, None}
use Rattle.std.specs.Io.KnownBytes.{Consumes, IsAtEnd}
use Rattle.wire_spec.specs.Causes.{raised}
use Rattle.ipe_io.specs.Told.{InputTold}

-- a reader: the bytes of each frame, how many frames were read, the bytes left over at the end, whether it has seen the end,
-- whether it may be asked
pub record ReaderState : Type 0 where
  pub size : ℕ
  pub count : ℕ
  pub tail : ℕ
  pub has_ended : Bool
  pub is_open : Bool

-- the same reader after a fault
abbrev pub closed : ReaderState → ReaderState
closed reader = record { size = reader.size; count = reader.count; tail = reader.tail; has_ended = reader.has_ended; is_open = false }

-- the same reader after one frame more
abbrev pub stepped : ReaderState → ReaderState
stepped reader = record { size = reader.size; count = reader.count + 1; tail = reader.tail; has_ended = reader.has_ended; is_open = reader.is_open }

-- the reader has read these frames
pub record ReaderOf (reader : ReaderState) (frames : List (List ℕ)) : Type 0 where
  pub opened : reader.is_open ≡ true
  pub each : All (λ frame. length frame ≡ reader.size) frames
  pub count : reader.count ≡ length frames

-- a source gave these bytes: the next that it tells, and its counter rose by their number
pub record TakesBytes (source now_source : InputTold) (bytes : List ℕ) : Type 0 where
  pub bytes_are : Consumes source.left now_source.left bytes
  pub rose : now_source.taken ≡ raised source.taken (length bytes)

-- one frame more was read: the next bytes of the source
pub record ReadsFrame (reader now_reader : ReaderState) (source now_source : InputTold) (frames : List (List ℕ)) (frame : List ℕ) : Type 0 where
  pub takes : TakesBytes source now_source frame
  pub stands : ReaderOf now_reader (frames ++ frame ∷ [])
  pub size : now_reader.size ≡ reader.size
  pub tail : now_reader.tail ≡ reader.tail
  pub has_ended : now_reader.has_ended ≡ reader.has_ended

-- the next frame was lent: one frame more was read, and the source neither ended nor failed; where none was lent, all is as it was
abbrev pub LendsFrame : ReaderState → ReaderState → InputTold → InputTold → List (List ℕ) → Option (List ℕ) → Type 0
LendsFrame reader now_reader source now_source frames (Some frame) =
    ReadsFrame reader now_reader source now_source frames frame × (now_source.ended ≡ source.ended) × (now_source.faults ≡ source.faults)
LendsFrame reader now_reader source now_source frames None = (now_reader ≡ reader) × (now_source ≡ source)

-- the input has ended after fewer bytes than a frame has
pub record ReadsEnd (reader now_reader : ReaderState) (source now_source : InputTold) (frames : List (List ℕ)) : Type 0 where
  pub bytes : List ℕ
  pub short : length bytes < reader.size
  pub takes : TakesBytes source now_source bytes
  pub at_end : IsAtEnd now_source.left
  pub stands : ReaderOf now_reader frames
  pub size : now_reader.size ≡ reader.size
  pub tail : now_reader.tail ≡ length bytes
  pub has_ended : now_reader.has_ended ≡ true
