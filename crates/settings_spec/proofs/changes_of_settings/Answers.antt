use Rattle.std.proofs.Common.{refl}
use Rattle.settings_spec.specs.Keys.{key_fault, unknown_fault, items_at}
use Rattle.settings_spec.specs.Settings.{change_fault}
use Rattle.settings_spec.proofs.changes_of_settings.Goals as goal

pub returns : goal.returns
unfolding key_fault unknown_fault items_at change_fault
returns c = record { right = refl; low = refl; list = refl; signalled = refl; unsignalled = refl }
