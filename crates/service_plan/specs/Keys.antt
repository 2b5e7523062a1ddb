-- Errors as definitions say them.
use Rattle.std.specs.Prelude.{◌≡◌, Option, Some}
use Rattle.settings_spec.specs.Keys.{SettingsFault}
pub use Rattle.settings_keys.specs.Keys.{key_text, fault_seen}
use Rattle.service_plan.specs.declared.fault.PlanError.{PlanError}
use Rattle.service_plan.specs.declared.fault.PlanError.TheVariants as error

-- the error is this fault, or out of memory
abbrev pub Faults : PlanError → Option SettingsFault → Type 0
Faults (error.Fault f) fault = fault ≡ Some (fault_seen f)
Faults error.OutOfMemory fault = Unit {0}

-- a fact of the fault, where the error is one
abbrev pub OnFault : PlanError → (SettingsFault → Type 0) → Type 0
OnFault (error.Fault f) P = P (fault_seen f)
OnFault error.OutOfMemory P = Unit {0}
