use Rattle.std.proofs.Common.{refl}
use Rattle.settings_spec.specs.Keys.{key_fault, unknown_fault, text_or, number_or, flag_or, address_or, items_at, table_at}
use Rattle.settings_spec.specs.Settings.{says_baseband, is_sliced_mode, kind_fault, service_fault, int_fault, change_fault, tables_fault, kind_of, plan_of}
use Rattle.settings_spec.proofs.tables_of_settings.Goals as goal

pub returns-clause-right : goal.returns-clause-right
unfolding key_fault unknown_fault text_or number_or flag_or address_or items_at table_at says_baseband is_sliced_mode kind_fault service_fault int_fault tables_fault kind_of plan_of
returns-clause-right c = refl

pub returns-clause-text : goal.returns-clause-text
unfolding key_fault unknown_fault text_or number_or flag_or address_or items_at table_at says_baseband is_sliced_mode kind_fault service_fault int_fault tables_fault kind_of plan_of
returns-clause-text c = refl

pub returns-clause-low : goal.returns-clause-low
unfolding key_fault unknown_fault text_or number_or flag_or address_or items_at table_at says_baseband is_sliced_mode kind_fault service_fault int_fault tables_fault kind_of plan_of
returns-clause-low c = refl

pub returns-clause-least : goal.returns-clause-least
unfolding key_fault unknown_fault text_or number_or flag_or address_or items_at table_at says_baseband is_sliced_mode kind_fault service_fault int_fault tables_fault kind_of plan_of
returns-clause-least c = refl

pub returns-clause-negative : goal.returns-clause-negative
unfolding key_fault unknown_fault text_or number_or flag_or address_or items_at table_at says_baseband is_sliced_mode kind_fault service_fault int_fault tables_fault kind_of plan_of
returns-clause-negative c = refl

pub returns-clause-word : goal.returns-clause-word
unfolding key_fault unknown_fault text_or number_or flag_or address_or items_at table_at says_baseband is_sliced_mode kind_fault service_fault int_fault tables_fault kind_of plan_of
returns-clause-word c = refl

pub returns-clause-unknown : goal.returns-clause-unknown
unfolding key_fault unknown_fault text_or number_or flag_or address_or items_at table_at says_baseband is_sliced_mode kind_fault service_fault int_fault tables_fault kind_of plan_of
returns-clause-unknown c = refl

pub returns-clause-nothing : goal.returns-clause-nothing
unfolding key_fault unknown_fault text_or number_or flag_or address_or items_at table_at says_baseband is_sliced_mode kind_fault service_fault int_fault tables_fault kind_of plan_of
returns-clause-nothing c = refl

pub returns-clause-change : goal.returns-clause-change
unfolding key_fault unknown_fault text_or number_or flag_or address_or items_at table_at says_baseband is_sliced_mode kind_fault service_fault int_fault change_fault tables_fault kind_of plan_of
returns-clause-change c = refl

pub returns-clause-moved : goal.returns-clause-moved
unfolding key_fault unknown_fault text_or number_or flag_or address_or items_at table_at says_baseband is_sliced_mode kind_fault service_fault int_fault change_fault tables_fault kind_of plan_of
returns-clause-moved c = refl

pub returns-clause-unsignalled : goal.returns-clause-unsignalled
unfolding key_fault unknown_fault text_or number_or flag_or address_or items_at table_at says_baseband is_sliced_mode kind_fault service_fault int_fault change_fault tables_fault kind_of plan_of
returns-clause-unsignalled c = refl
