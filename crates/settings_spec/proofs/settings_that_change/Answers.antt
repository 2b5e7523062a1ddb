use Rattle.std.proofs.Common.{refl}
use Rattle.settings_spec.specs.Keys.{text_or, number_or, number_at, flag_or, address_or, items_at, texts_if_any, table_at}
use Rattle.settings_spec.specs.Settings.{says_baseband, is_sliced_mode, kind_of, changes_at, plan_of}
use Rattle.settings_spec.proofs.settings_that_change.Goals as goal

pub returns : goal.returns
unfolding text_or number_or number_at flag_or address_or items_at texts_if_any table_at says_baseband is_sliced_mode kind_of changes_at plan_of
returns c = record { plan = refl }
