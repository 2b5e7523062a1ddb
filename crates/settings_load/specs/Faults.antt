-- Faults of settings files as definitions say them.
use Rattle.std.specs.Prelude.{Option, None, Some}
use Rattle.settings_keys.specs.Keys.{fault_seen}
use Rattle.settings_load.specs.Settings.{Refusal, too_long, refused}
use Rattle.settings_load.specs.declared.fault.FileFault.{FileFault}
use Rattle.settings_load.specs.declared.fault.FileFault.TheVariants as file
use Rattle.settings_load.specs.declared.fault.SettingsError.{SettingsError}
use Rattle.settings_load.specs.declared.fault.SettingsError.TheVariants as error

abbrev pub refusal_seen : FileFault → Refusal
refusal_seen file.TooLong = too_long
refusal_seen (file.Plan fault) = refused (fault_seen fault)

-- why the file gives no plan, where that is the error
abbrev pub refusal_of : SettingsError → Option Refusal
refusal_of error.ShelfFault = None
refusal_of (error.File fault) = Some (refusal_seen fault)
refusal_of error.OutOfMemory = None
