-- What a run makes of told settings, whatever else it does.
use Rattle.std.specs.Prelude.{◌≡◌, ◌≢◌, ◌⊎◌, true, false, List, ℕ, None, is_some, ⊤}
use Rattle.plan_spec.specs.Plan.{PlanFields}
use Rattle.ipe_io.specs.Told.{ShelfTold}
use Rattle.settings_load.specs.Settings.{Refusal, too_long, IsAcceptedFile, IsRefusedFile}
use Rattle.ipencap_engine.specs.World.{Object, the_input, the_output, the_rack}
use Rattle.ipencap_engine.specs.Jobs.{Job, row, is_after_settings, is_out_of_memory, TellsSettings, IsGiven, TellsOuter, HasOuter, IsPlanOf}
use Rattle.ipencap_engine.specs.declared.status.Status.{Status}
use Rattle.ipencap_engine.specs.declared.status.Status.TheVariants as status

-- told bytes give a plan
abbrev pub GivesPlan : List ℕ → Type 0
GivesPlan bytes = (plan : PlanFields) × IsAcceptedFile bytes plan

-- the second settings file, where it is told, gives a plan
abbrev pub GivesOuter : Job → ShelfTold → Type 0
GivesOuter job shelf = (bytes : List ℕ) → TellsOuter job shelf bytes → GivesPlan bytes

-- the job has a second settings file, and where it is told, it is refused so; where it is not, it is too long
pub record OuterIsRefused (job : Job) (shelf : ShelfTold) (refusal : Refusal) : Type 0 where
  pub has : is_some (row job).outer ≡ true
  pub is : (bytes : List ℕ) → TellsOuter job shelf bytes → IsRefusedFile bytes refusal
  pub unknown : ((bytes : List ℕ) → TellsOuter job shelf bytes → ⊥) → refusal ≡ too_long

-- of settings, where they are told, this is why the first file of them is refused that is
abbrev pub IsRefusalOf : Job → ShelfTold → List ℕ → Refusal → Type 0
IsRefusalOf job shelf bytes refusal = IsRefusedFile bytes refusal ⊎ (GivesPlan bytes × OuterIsRefused job shelf refusal)

-- told settings either give a plan, or are refused with Settings; the shelf may fail and memory run out before
abbrev pub IsAnswer : Job → ShelfTold → List ℕ → Status → Type 0
IsAnswer job shelf bytes status.ShelfFault = ⊤
IsAnswer job shelf bytes status.OutOfMemory = ⊤
IsAnswer job shelf bytes status.Settings = (refusal : Refusal) × IsRefusalOf job shelf bytes refusal
IsAnswer job shelf bytes status.Usage = ⊥
IsAnswer job shelf bytes status.Done = GivesPlan bytes × GivesOuter job shelf
IsAnswer job shelf bytes status.Capture = GivesPlan bytes × GivesOuter job shelf
IsAnswer job shelf bytes status.SourceFault = GivesPlan bytes × GivesOuter job shelf
IsAnswer job shelf bytes status.SinkFault = GivesPlan bytes × GivesOuter job shelf
IsAnswer job shelf bytes status.RackFault = GivesPlan bytes × GivesOuter job shelf
IsAnswer job shelf bytes status.TooLong = GivesPlan bytes × GivesOuter job shelf

-- told settings are refused: the first file, or the second where the first gives a plan
pub data IsRefusedBy (job : Job) (shelf : ShelfTold) (refusal : Refusal) : Type 0 where
  in_first : (bytes : List ℕ) → TellsSettings job shelf bytes → IsRefusedFile bytes refusal → IsRefusedBy job shelf refusal
  in_outer : (plan : PlanFields) → IsGiven job shelf plan → (bytes : List ℕ) → TellsOuter job shelf bytes → IsRefusedFile bytes refusal → IsRefusedBy job shelf refusal

-- the answers to settings that are refused
abbrev pub IsRefusing : Status → Type 0
IsRefusing end = (end ≡ status.Settings) ⊎ ((end ≡ status.ShelfFault) ⊎ (end ≡ status.OutOfMemory))

-- the settings of the job, where it has any, are known and give plans
pub record HasSettings (job : Job) (shelf : ShelfTold) : Type 0 where
  pub first : ((row job).settings ≡ None) ⊎ ((plan : PlanFields) × IsGiven job shelf plan)
  pub outer : HasOuter job shelf

-- told settings give plans or are refused, the first of two files that is, and a refusal is the end of it; at each status after them, but where
-- memory ran out, they are known
pub record JudgesSettings (job : Job) (end : Status) (shelf : ShelfTold) (same : Object → Type 0) : Type 0 where
  pub answer : (bytes : List ℕ) → TellsSettings job shelf bytes → IsAnswer job shelf bytes end
  pub known : is_after_settings end ≡ true → is_out_of_memory end ≡ false → HasSettings job shelf
  pub accepted : (plan : PlanFields) → IsPlanOf job shelf plan → HasOuter job shelf → end ≢ status.Settings
  pub refused : (refusal : Refusal) → IsRefusedBy job shelf refusal → IsRefusing end
  -- refused settings are the end of it, whatever the status is
  pub unused : (refusal : Refusal) → IsRefusedBy job shelf refusal → same the_input × (same the_output × same the_rack)
