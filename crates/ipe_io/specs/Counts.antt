-- What a call of an object of the outside does to its counts, by its answer.
use Rattle.std.specs.Prelude.{◌≡◌, ℕ, ◌≤◌, Bool, List, length, Option, Some, None, Result, Ok, Err, IsErrOf, ◌==◌, if◌then◌else◌, ⊤}
use Rattle.wire_spec.specs.Causes.{raised, Rose}
use Rattle.ipe_io.specs.declared.faults.LoadFault.{LoadFault}
use Rattle.ipe_io.specs.declared.faults.AddFault.{AddFault}
use Rattle.ipe_io.specs.declared.faults.LoadFault.TheVariants as load
use Rattle.ipe_io.specs.declared.faults.AddFault.TheVariants as add

-- the bytes taken so far, after a read
abbrev pub taken_after : {E : Type 0} → ℕ → Result ℕ E → ℕ
taken_after before (Ok n) = raised before n
taken_after before (Err e) = before

-- whether the input has ended, after a read with this much room:
-- of the reads with room that did not fail, the last gave nothing
abbrev pub ended_after : {E : Type 0} → Bool → ℕ → Result ℕ E → Bool
ended_after before room (Ok n) = if room == 0 then before else n == 0
ended_after before room (Err e) = before

-- all bytes are flushed, where both are told
abbrev pub IsFlushed : Option (List ℕ) → Option ℕ → Type 0
IsFlushed (Some bytes) (Some flushed) = flushed ≡ length bytes
IsFlushed (Some bytes) None = ⊤
IsFlushed None flushed = ⊤

-- the most bytes that a loaded file has: 1,048,576
abbrev pub longest_file : ℕ
longest_file = 1048576

-- `load` answers Failed only where the count of the name rose by one, and never lowers it
pub record HasLoadCause {T : Type 0} (before now : ℕ) (result : Result T LoadFault) : Type 0 where
  pub later : before ≤ now
  pub failed : IsErrOf result load.Failed → Rose before now

-- `add` answers Failed only where the rack's count rose by one, and every other answer leaves it
pub record HasAddCause {T : Type 0} (before now : ℕ) (result : Result T AddFault) : Type 0 where
  pub later : before ≤ now
  pub failed : IsErrOf result add.Failed → Rose before now
  pub kept : ¬ IsErrOf result add.Failed → now ≡ before
