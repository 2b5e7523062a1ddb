-- What is written of a stream, by the answer.
use Rattle.std.specs.Prelude.{◌≡◌, ℕ, List, take, Result, Ok, Err, ⊤}
use Rattle.std.specs.Io.KnownBytes.{Appends}
use Rattle.wire_spec.specs.Causes.{Rose}
use Rattle.wire_spec.specs.Content.{Stays}
use Rattle.ipe_io.specs.Told.{OutputTold}
use Rattle.ipe_io.specs.Counts.{IsFlushed}
use Rattle.bridge_command.specs.declared.pieces.WriteFault.{WriteFault}
use Rattle.bridge_command.specs.declared.pieces.WriteFault.TheVariants as fault

-- all of it was written and flushed
pub record WritesAll (stream : List ℕ) (output now : OutputTold) : Type 0 where
  pub written : Appends output.held now.held stream
  pub flushed : IsFlushed now.held now.flushed
  pub kept : now.faults ≡ output.faults

-- a front of it was written, nothing more is flushed, and the output counted that
pub record WritesFront (stream : List ℕ) (output now : OutputTold) : Type 0 where
  pub count : ℕ
  pub written : Appends output.held now.held (take count stream)
  pub unflushed : Stays output.flushed now.flushed
  pub rose : Rose output.faults now.faults

-- out of memory nothing was
abbrev pub Writes : Result ⊤ WriteFault → List ℕ → OutputTold → OutputTold → (Silent : Type 0) → Type 0
Writes (Ok done) stream output now Silent = WritesAll stream output now
Writes (Err fault.Sink) stream output now Silent = WritesFront stream output now
Writes (Err fault.OutOfMemory) stream output now Silent = Silent
