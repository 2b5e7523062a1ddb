-- Counts of faults: each fault has its cause in the count of its object, and no fault is passed over.
use Rattle.std.specs.Prelude.{◌≡◌, ◌≢◌, ℕ, ◌≤◌, Bool, true, false, List, Some}
use Rattle.wire_spec.specs.Causes.{Rose}
use Rattle.wire_spec.specs.Content.{Stays}
use Rattle.ipe_io.specs.Told.{ShelfTold}
use Rattle.ipencap_engine.specs.World.{World, Object, the_shelf, the_input, the_output, the_rack}
use Rattle.ipencap_engine.specs.Jobs.{Job, row, TellsSettings}
use Rattle.ipencap_engine.specs.Settings.{GivesPlan}
use Rattle.ipencap_engine.specs.declared.status.Status.{Status}
use Rattle.ipencap_engine.specs.declared.status.Status.TheVariants as status

-- the status blames the object
abbrev pub blames : Status → Object → Bool
blames status.ShelfFault the_shelf = true
blames status.SourceFault the_input = true
blames status.SinkFault the_output = true
blames status.RackFault the_rack = true
blames end object = false

-- a count rose where its object is blamed, and stays as it was where it is not
abbrev pub IsCount : Bool → ℕ → ℕ → Type 0
IsCount true before after = Rose before after
IsCount false before after = after ≡ before

-- the count rose which the job's settings have, or that of its second settings file, where the first one gives a plan
pub data ShelfRose (job : Job) (before after : ShelfTold) : Type 0 where
  of_settings : (name : List ℕ) → (row job).settings ≡ Some name → Rose (before.faults name) (after.faults name) → ShelfRose job before after
  of_outer : (name : List ℕ) → (row job).outer ≡ Some name → ((bytes : List ℕ) → TellsSettings job after bytes → GivesPlan bytes)
      → Rose (before.faults name) (after.faults name) → ShelfRose job before after

-- the name is that of no settings file of the job
pub record IsOther (job : Job) (name : List ℕ) : Type 0 where
  pub first : (row job).settings ≢ Some name
  pub second : (row job).outer ≢ Some name

-- of a shelf that is blamed, such a count rose; no count of it falls; the files that it knows stay, and it knows no more but the job's settings
pub record KeepsShelf (job : Job) (is_blamed : Bool) (before after : ShelfTold) : Type 0 where
  pub files : (name : List ℕ) → Stays (before.file name) (after.file name)
  pub others : (name : List ℕ) → IsOther job name → after.file name ≡ before.file name
  pub later : (name : List ℕ) → before.faults name ≤ after.faults name
  pub rose : is_blamed ≡ true → ShelfRose job before after
  pub kept : (name : List ℕ) → is_blamed ≡ false → after.faults name ≡ before.faults name

-- each fault has its cause in the count of its object, and each count that rose its status
pub record CountsFaults (job : Job) (end : Status) (before after : World) : Type 0 where
  pub shelf : KeepsShelf job (blames end the_shelf) before.shelf after.shelf
  pub input : IsCount (blames end the_input) before.input.faults after.input.faults
  pub output : IsCount (blames end the_output) before.output.faults after.output.faults
  pub rack : IsCount (blames end the_rack) before.rack.faults after.rack.faults
