-- What was read of a recording in pieces, and what a taker was given of it: its records. Baseband frames are the records of a plain
-- recording, each of as many bytes as a frame.
use Rattle.std.specs.Prelude.{◌≡◌, ℕ, ◌+◌, ◌*◌, ◌^◌, ◌<◌, ◌≤◌, Bool, true, false, List, [], ◌∷◌, ◌++◌, length, All, Result, Ok, Err}
use Rattle.std.specs.Io.KnownBytes.{Consumes, IsAtEnd}
use Rattle.wire_spec.specs.Causes.{raised, Rose}
use Rattle.wire_spec.specs.Lists.{joined}
use Rattle.ts_spec.specs.Recording.{RecordingForm, Record, records_of}
use Rattle.ipe_io.specs.Told.{InputTold}
use Rattle.recording_reader.specs.declared.fault.ReadFault.{ReadFault}
use Rattle.recording_reader.specs.declared.fault.ReadFault.TheVariants as fault

-- the most pieces of a recording
abbrev pub most_pieces : ℕ
most_pieces = 2 ^ 32

-- these pieces of so many bytes were read, and nothing after them; a taker has taken their records; nothing failed
pub record HasTaken (form : RecordingForm) (size : ℕ) (input now : InputTold) (Took : List Record → Type 0) (pieces : List (List ℕ)) : Type 0 where
  pub each : All (λ piece. length piece ≡ size) pieces
  pub consumed : Consumes input.left now.left (joined pieces)
  pub taken : now.taken ≡ raised input.taken (size * length pieces)
  pub going : input.ended ≡ false → now.ended ≡ false
  pub input_faults : now.faults ≡ input.faults
  pub took : Took (records_of form pieces)

-- how a reading of these pieces and the bytes after them ends
abbrev pub Ends : Result ℕ ReadFault → RecordingForm → InputTold → InputTold → (List Record → Type 0) → (List Record → Type 0) → List (List ℕ) → List ℕ → Type 0
Ends (Ok tail) form input now Took Stopped pieces behind =
    (tail ≡ length behind) × (length pieces < most_pieces) × IsAtEnd now.left × (now.ended ≡ true) × (now.faults ≡ input.faults) × Took (records_of form pieces)
Ends (Err fault.Source) form input now Took Stopped pieces behind =
    (length pieces < most_pieces) × (input.ended ≡ false → now.ended ≡ false) × Rose input.faults now.faults × Took (records_of form pieces)
Ends (Err fault.TooLong) form input now Took Stopped pieces behind =
    (behind ≡ []) × (length pieces ≡ most_pieces) × (now.faults ≡ input.faults) × Took (records_of form pieces)
Ends (Err fault.Taker) form input now Took Stopped pieces behind =
    (behind ≡ []) × (length pieces ≤ most_pieces) × (now.faults ≡ input.faults) × Stopped (records_of form pieces)

-- A recording was read: what an input held begins with these pieces, each of so many bytes, and the bytes after them, fewer than a piece
-- has; they were read, and the counter of bytes taken rose by their number; and what stands by the answer.
pub record Reads (result : Result ℕ ReadFault) (form : RecordingForm) (size : ℕ) (input now : InputTold) (Took Stopped : List Record → Type 0) : Type 0 where
  pub pieces : List (List ℕ)
  pub behind : List ℕ
  pub each : All (λ piece. length piece ≡ size) pieces
  pub short : length behind < size
  pub consumed : Consumes input.left now.left (joined pieces ++ behind)
  pub taken : now.taken ≡ raised input.taken (size * length pieces + length behind)
  pub ends : Ends result form input now Took Stopped pieces behind

-- one piece more was read and taken
pub record StepsOn (form : RecordingForm) (size : ℕ) (input now : InputTold) (HasRead : List (List ℕ) → Type 0) (Took : List Record → Type 0) (pieces : List (List ℕ)) : Type 0 where
  pub piece : List ℕ
  pub has_read : HasRead (pieces ++ piece ∷ [])
  pub going : HasTaken form size input now Took (pieces ++ piece ∷ [])

-- by the answer of a step after these pieces: one piece more, or an end
abbrev pub Steps : Result Bool ReadFault → RecordingForm → ℕ → InputTold → InputTold → ℕ → (List (List ℕ) → Type 0)
    → (List Record → Type 0) → (List Record → Type 0) → List (List ℕ) → Type 0
Steps (Ok true) form size input now tail HasRead Took Stopped pieces = StepsOn form size input now HasRead Took pieces
Steps (Ok false) form size input now tail HasRead Took Stopped pieces = Reads (Ok tail) form size input now Took Stopped
Steps (Err e) form size input now tail HasRead Took Stopped pieces = Reads (Err e) form size input now Took Stopped
