-- What `find` ensures, by its answer: what was read of the recording, and what was written.
use Rattle.std.specs.Prelude.{◌≡◌, ℕ, ◌+◌, ◌*◌, ◌<◌, true, false, List, [], ◌∷◌, ◌++◌, length, take, All, is_some, None, Result, Ok, Err, OnErr, IsErrOf, ⊤}
use Rattle.std.specs.Io.KnownBytes.{Appends, Consumes, IsAtEnd}
use Rattle.wire_spec.specs.Causes.{raised, Rose}
use Rattle.wire_spec.specs.Content.{Stays}
use Rattle.wire_spec.specs.Lists.{joined}
use Rattle.ts_spec.specs.Recording.{plain, records_of}
use Rattle.ipe_io.specs.Told.{InputTold, OutputTold}
use Rattle.ipe_io.specs.Counts.{IsFlushed}
use Rattle.recording_reader.specs.Reading.{most_pieces}
use Rattle.psi_spec.specs.Named.{pat_of}
use Rattle.psi_tables.specs.Text.{IsFindText}
use Rattle.find_command.specs.declared.fault.FindFault.{FindFault}
use Rattle.find_command.specs.declared.fault.FindFault.TheVariants as fault

-- bytes of a record of a plain recording
abbrev pub packet_size : ℕ
packet_size = 188

-- What was read.

-- what an input held begins with these records and the bytes after them, fewer than a record has, and they were read
pub record HasRead (input now : InputTold) (pieces : List (List ℕ)) (behind : List ℕ) : Type 0 where
  pub each : All (λ piece. length piece ≡ packet_size) pieces
  pub short : length behind < packet_size
  pub consumed : Consumes input.left now.left (joined pieces ++ behind)
  pub taken : now.taken ≡ raised input.taken (packet_size * length pieces + length behind)

-- the input was read to its end, and had fewer records than the most
pub record ReadsWhole (input now : InputTold) : Type 0 where
  pub pieces : List (List ℕ)
  pub behind : List ℕ
  pub read : HasRead input now pieces behind
  pub fewer : length pieces < most_pieces
  pub at_end : IsAtEnd now.left
  pub ended : now.ended ≡ true

-- the input could not be read on: fewer records than the most were read, and less than one after them
pub record ReadsFront (input now : InputTold) : Type 0 where
  pub pieces : List (List ℕ)
  pub behind : List ℕ
  pub read : HasRead input now pieces behind
  pub fewer : length pieces < most_pieces
  pub going : input.ended ≡ false → now.ended ≡ false

-- the most records were read, and nothing after them
pub record ReadsMost (input now : InputTold) : Type 0 where
  pub pieces : List (List ℕ)
  pub read : HasRead input now pieces []
  pub limit : length pieces ≡ most_pieces

-- nothing was read after the record that completes the first PAT
pub record ReadsPat (input now : InputTold) : Type 0 where
  pub pieces : List (List ℕ)
  pub piece : List ℕ
  pub read : HasRead input now (pieces ++ piece ∷ []) []
  pub fewer : length pieces < most_pieces
  pub before : pat_of (records_of plain pieces) ≡ None
  pub complete : is_some (pat_of (records_of plain (pieces ++ piece ∷ []))) ≡ true

-- where memory ran out: before the first record, where the first PAT was complete, or after the input's end
pub data LacksMemory (input now : InputTold) (Unread : Type 0) : Type 0 where
  at_start : Unread → LacksMemory input now Unread
  at_pat : ReadsPat input now → LacksMemory input now Unread
  at_end : ReadsWhole input now → LacksMemory input now Unread

-- What was found, and written.

-- an input was read to its end, and this is the text of what its records name, with the INT on a PID
pub record IsFoundIn (pid : ℕ) (input now : InputTold) (text : List ℕ) : Type 0 where
  pub reads : ReadsWhole input now
  pub text_is : IsFindText pid (records_of plain reads.pieces) text

-- the text was put on an output, and flushed
pub record WritesFound (pid : ℕ) (input now : InputTold) (output now_output : OutputTold) : Type 0 where
  pub text : List ℕ
  pub found : IsFoundIn pid input now text
  pub written : Appends output.held now_output.held text
  pub flushed : IsFlushed now_output.held now_output.flushed

-- a prefix of it was, and nothing more is flushed
pub record WritesPart (pid : ℕ) (input now : InputTold) (output now_output : OutputTold) : Type 0 where
  pub text : List ℕ
  pub found : IsFoundIn pid input now text
  pub count : ℕ
  pub written : Appends output.held now_output.held (take count text)
  pub unflushed : Stays output.flushed now_output.flushed

-- How a search ends, by the answer; where it is done, or an output fails, as the call has it.
abbrev pub FindEnds : {T : Type 0} → Result T FindFault → InputTold → InputTold → (Done : T → Type 0) → (Fails Unread : Type 0) → Type 0
FindEnds (Ok it) input now Done Fails Unread = Done it
FindEnds (Err fault.Source) input now Done Fails Unread = ReadsFront input now
FindEnds (Err fault.Sink) input now Done Fails Unread = Fails
FindEnds (Err fault.TooLong) input now Done Fails Unread = ReadsMost input now
FindEnds (Err fault.OutOfMemory) input now Done Fails Unread = LacksMemory input now Unread

-- the text alone, of these bytes
pub record FindsText {T : Type 0} (bytes_of : T → List ℕ) (result : Result T FindFault) (pid : ℕ) (input now : InputTold) (Unread : Type 0) : Type 0 where
  pub ends : FindEnds result input now (λ text. IsFoundIn pid input now (bytes_of text)) ⊥ Unread
  pub input_rose : IsErrOf result fault.Source → Rose input.faults now.faults
  pub input_kept : ¬ IsErrOf result fault.Source → now.faults ≡ input.faults

-- how `find` ends, by its answer
pub record Finds (result : Result ⊤ FindFault) (pid : ℕ) (input now : InputTold) (output now_output : OutputTold) (Unread Silent : Type 0) : Type 0 where
  -- what was read, and at Ok and where the output fails what was written
  pub ends : FindEnds result input now (λ done. WritesFound pid input now output now_output) (WritesPart pid input now output now_output) Unread
  -- at every other answer nothing was written
  pub unchanged : ¬ IsErrOf result fault.Sink → OnErr result Silent
  -- the input failed exactly where the answer says so
  pub input_rose : IsErrOf result fault.Source → Rose input.faults now.faults
  pub input_kept : ¬ IsErrOf result fault.Source → now.faults ≡ input.faults
  -- and so with the output
  pub output_rose : IsErrOf result fault.Sink → Rose output.faults now_output.faults
  pub output_kept : ¬ IsErrOf result fault.Sink → now_output.faults ≡ output.faults
