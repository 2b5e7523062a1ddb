-- What the program does over its objects: one run, after which it writes out all that output and rack hold back, and its exit status.
use Rattle.std.specs.Prelude.{◌≡◌, ℕ, ◌⊎◌, Bool, List, length}
use Rattle.std.specs.Io.KnownBytes.{Keeps}
use Rattle.wire_spec.specs.Causes.{Rose, RoseBy}
use Rattle.wire_spec.specs.Content.{Stays}
use Rattle.ipe_io.specs.Told.{ShelfTold, InputTold, OutputTold, RackTold}
use Rattle.ipe_io.specs.Counts.{IsFlushed}
use Rattle.ipe_io.specs.Real.{FilesState, told_files, AreKept, unwritten}
use Rattle.ipencap_engine.specs.World.{world, of_objects}
use Rattle.ipencap_engine.specs.Jobs.{Job}
use Rattle.ipencap_engine.specs.Runs.{Runs}
use Rattle.ipencap_engine.specs.declared.status.Status.{Status}
use Rattle.ipencap_cli.specs.Exit.{exit_number}

-- what a rack of files tells, of which the writers tell their bytes or not
abbrev pub files_told : Bool → FilesState → RackTold
files_told tells rack = record { count = length rack.files; files = told_files tells rack.files; faults = rack.faults }

-- an output was flushed: all of it is, or that is one more fault
pub record FlushesOutput (before after : OutputTold) : Type 0 where
  pub held : Keeps before.held after.held
  pub flushed : (IsFlushed after.held after.flushed × (after.faults ≡ before.faults)) ⊎ Rose before.faults after.faults

-- a rack was flushed: each file has all that was put into it, and nothing of any waits to be written out; or there are more faults
pub record FlushesRack (before after : FilesState) : Type 0 where
  pub files : AreKept before.files after.files
  pub flushed : ((unwritten after.files ≡ 0) × (after.faults ≡ before.faults)) ⊎ RoseBy before.faults after.faults 1

-- One run of this job, and then, whatever its status is, output and rack are flushed; the number of the status is the answer.
pub record RunsAndFlushes {O : Type 0} (told : O → OutputTold) (tells : Bool) (job : Job) (number : ℕ) (shelf new_shelf : ShelfTold) (input new_input : InputTold)
    (output new_output : O) (rack new_rack : FilesState) (same_shelf same_input : Type 0) (IsReported : List ℕ → Type 0) : Type 0 where
  pub status : Status
  pub line : List ℕ
  -- output and rack as the run leaves them
  pub put : O
  pub added : FilesState
  pub reported : IsReported line
  pub runs : Runs job status line (world shelf input (told output) (files_told tells rack)) (world new_shelf new_input (told put) (files_told tells added))
      (of_objects same_shelf same_input (put ≡ output) (added ≡ rack))
  pub output_flushed : FlushesOutput (told put) (told new_output)
  pub rack_flushed : FlushesRack added new_rack
  pub number_is : number ≡ exit_number status
