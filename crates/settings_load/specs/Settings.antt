-- What a settings file says: the plan that it gives, or why it gives none. Profile: all of it.
use Rattle.std.specs.Prelude.{◌≡◌, ℕ, ◌<◌, ◌≤◌, List, length, Option, None, Some}
use Rattle.ipe_io.specs.Counts.{longest_file}
use Rattle.plan_spec.specs.Plan.{PlanFields}
use Rattle.settings_spec.specs.Keys.{SettingsFault}
use Rattle.settings_spec.specs.Refusal.{IsRefused, IsAccepted}

-- why a file gives no plan: it is too long, or its bytes are refused for a fault
pub data Refusal : Type 0 where
  too_long : Refusal
  refused : (fault : SettingsFault) → Refusal

-- a shelf knows a file, and this holds of its bytes
abbrev pub IsKnown : Option (List ℕ) → (List ℕ → Type 0) → Type 0
IsKnown file Holds = (bytes : List ℕ) × (file ≡ Some bytes) × Holds bytes

-- the file gives no plan, for this
abbrev pub IsRefusedFile : List ℕ → Refusal → Type 0
IsRefusedFile bytes too_long = longest_file < length bytes
IsRefusedFile bytes (refused fault) = (length bytes ≤ longest_file) × IsRefused bytes fault

-- a file is refused for this, by what a shelf knows of it: of one that it does not know, that it is too long
abbrev pub IsRefusedAs : Option (List ℕ) → Refusal → Type 0
IsRefusedAs None refusal = refusal ≡ too_long
IsRefusedAs (Some bytes) refusal = IsRefusedFile bytes refusal

-- the file gives this plan
pub record IsAcceptedFile (bytes : List ℕ) (plan : PlanFields) : Type 0 where
  pub short : length bytes ≤ longest_file
  pub accepted : IsAccepted bytes plan
