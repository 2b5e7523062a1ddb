-- Lists of settings as the code sees them.
use Rattle.std.specs.Prelude.{◌≡◌, ℕ, List, map, Option, Some}
use Rattle.std.specs.List.{filter_map}
use Rattle.toml.specs.Data.{Data, Members, as_str, as_table}
use Rattle.toml.specs.View.{view}
use Rattle.toml.specs.declared.value.Value.{Value}
use Rattle.settings_spec.specs.Keys.{as_list, is_text}
use Rattle.settings_keys.specs.Reading.{items_where}
use Rattle.addr_rules.specs.Texts.{mac_of_text}

-- the data of values
abbrev pub views : List Value → List Data
views values = map view values

-- the texts and the MAC addresses among items
abbrev pub texts_of : List Data → List (List ℕ)
texts_of items = filter_map as_str items

abbrev pub macs_of : List Data → List (List ℕ)
macs_of items = filter_map mac_of_text (texts_of items)

-- what stands somewhere is a list of texts
pub record IsTextList (there : Option Data) (items : List Data) : Type 0 where
  pub value : Data
  pub is : Some value ≡ there
  pub list : Some items ≡ items_where is_text (as_list value)

-- the tables among items
abbrev pub tables_of : List Data → List Members
tables_of items = filter_map as_table items
