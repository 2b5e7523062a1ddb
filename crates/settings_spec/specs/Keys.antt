-- The keys of settings: what each may hold, and what is wrong with a table that holds something else.
use Rattle.std.specs.Prelude.{ℕ, ℤ, pos, negsuc, Bool, true, false, not, List, [], ◌∷◌, length, map, bytes_eq, Option, Some, None, is_some, if◌then◌else◌}
use Rattle.std.specs.List.{list_all, list_any, filter_map}
use Rattle.std.specs.Option.{option_and_then, option_map, unwrap_or}
use Rattle.toml.specs.Data.{Data, Items, no_items, item, Members, no_members, member, get_member, as_str, as_integer, as_bool, as_array, as_table}
use Rattle.addr_rules.specs.Texts.{mac_of_text}
use Rattle.plan_spec.specs.Checks.{is_between, is_service_name, is_row_count}

-- why settings are refused
pub data SettingsFault : Type 0 where
  no_document : SettingsFault
  missing : (key : List ℕ) → SettingsFault
  wrong_type : (key : List ℕ) → SettingsFault
  out_of_range : (key : List ℕ) → SettingsFault
  same_pid : SettingsFault
  same_name : SettingsFault
  wrong_rules : SettingsFault
  wrong_window : SettingsFault
  short_gap : SettingsFault
  long_cycle : SettingsFault
  no_stamps : SettingsFault
  wrong_carrier : SettingsFault
  unknown_key : SettingsFault
  wrong_change : SettingsFault

-- what a key may hold: one of some texts, a service's name, a MAC address, any text; a number from one to another, a number of rows;
-- true or false; a table; one table to so many; texts; MAC addresses
pub data Values : Type 0 where
  one_of : List (List ℕ) → Values
  name_text : Values
  address_text : Values
  any_text : Values
  range : ℕ → ℕ → Values
  row_count : Values
  flag : Values
  one_table : Values
  tables : ℕ → Values
  texts : Values
  addresses : Values

-- the items of an array
abbrev pub list_of : Items → List Data
list_of no_items = []
list_of (item d ds) = d ∷ list_of ds

-- the items of an array that a value is
abbrev pub as_list : Data → Option (List Data)
as_list value = option_map list_of (as_array value)

-- a whole number from 0 on
abbrev pub natural : ℤ → Option ℕ
natural (pos n) = Some n
natural (negsuc n) = None

-- the whole number from 0 on that a value is
abbrev pub as_natural : Data → Option ℕ
as_natural d = option_and_then natural (as_integer d)

-- the value is a whole number
abbrev pub is_integer : Data → Bool
is_integer d = is_some (as_integer d)

-- the value is a text
abbrev pub is_text : Data → Bool
is_text d = is_some (as_str d)

-- the value is a table
abbrev pub is_table : Data → Bool
is_table d = is_some (as_table d)

-- the answer of a test where there is something to test
abbrev pub holds : {X : Type 0} → (X → Bool) → Option X → Bool
holds test None = false
holds test (Some x) = test x

-- the value is of the key's type
abbrev pub has_type : Values → Data → Bool
has_type (one_of words) d = is_text d
has_type name_text d = is_text d
has_type address_text d = is_text d
has_type any_text d = is_text d
has_type (range least most) d = is_integer d
has_type row_count d = is_integer d
has_type flag d = is_some (as_bool d)
has_type one_table d = is_table d
has_type (tables most) d = holds (list_all is_table) (as_list d)
has_type texts d = holds (list_all is_text) (as_list d)
has_type addresses d = holds (list_all is_text) (as_list d)

-- the text is a MAC address
abbrev pub is_address : List ℕ → Bool
is_address text = is_some (mac_of_text text)

-- a value of the key's type is in its range
abbrev pub in_range : Values → Data → Bool
in_range (one_of words) d = holds (λ text. list_any (bytes_eq text) words) (as_str d)
in_range name_text d = holds is_service_name (as_str d)
in_range address_text d = holds is_address (as_str d)
in_range any_text d = true
in_range (range least most) d = holds (is_between least most) (as_natural d)
in_range row_count d = holds is_row_count (as_natural d)
in_range flag d = true
in_range one_table d = true
in_range (tables most) d = holds (λ items. is_between 1 most (length items)) (as_list d)
in_range texts d = true
in_range addresses d = holds (list_all (λ d'. holds is_address (as_str d'))) (as_list d)

-- a key of a table: its name, whether it must be there, and what it may hold
pub record KeyRule : Type 0 where
  pub name : List ℕ
  pub is_required : Bool
  pub values : Values

-- a key that must be there
abbrev pub required : List ℕ → Values → KeyRule
required name values = record { name = name; is_required = true; values = values }

-- a key that may be missing
abbrev pub optional : List ℕ → Values → KeyRule
optional name values = record { name = name; is_required = false; values = values }

-- what is wrong with what stands at the key
abbrev pub value_fault : KeyRule → Option Data → Option SettingsFault
value_fault rule None = if rule.is_required then Some (missing rule.name) else None
value_fault rule (Some d) =
    if not (has_type rule.values d) then Some (wrong_type rule.name) else
    if not (in_range rule.values d) then Some (out_of_range rule.name) else
    None

unfoldable pub key_fault : KeyRule → Members → Option SettingsFault
key_fault rule entries = value_fault rule (get_member rule.name entries)

-- the keys of a table, and whether each is one of those that it may have
abbrev pub keys_of : Members → List (List ℕ)
keys_of no_members = []
keys_of (member key d rest) = key ∷ keys_of rest

abbrev pub are_known : List (List ℕ) → List (List ℕ) → Bool
are_known known keys = list_all (λ key. list_any (bytes_eq key) known) keys

unfoldable pub unknown_fault : List (List ℕ) → Members → Option SettingsFault
unknown_fault known entries = if are_known known (keys_of entries) then None else Some unknown_key

-- the first of two faults
abbrev pub first_of : Option SettingsFault → Option SettingsFault → Option SettingsFault
first_of None later = later
first_of (Some fault) later = Some fault

-- the first fault of the keys of a table, in the order of the rules
abbrev pub keys_fault : List KeyRule → Members → Option SettingsFault
keys_fault [] entries = None
keys_fault (rule ∷ rules) entries = first_of (key_fault rule entries) (keys_fault rules entries)

-- a table has these keys and no other: an unknown one comes first
abbrev pub table_fault : List KeyRule → Members → Option SettingsFault
table_fault rules entries = first_of (unknown_fault (map (λ (rule : KeyRule). rule.name) rules) entries) (keys_fault rules entries)

-- What stands at a key, or a default where there is one.

unfoldable pub text_or : List ℕ → List ℕ → Members → List ℕ
text_or default key entries = unwrap_or (option_and_then as_str (get_member key entries)) default

unfoldable pub number_or : ℕ → List ℕ → Members → ℕ
number_or default key entries = unwrap_or (option_and_then as_natural (get_member key entries)) default

unfoldable pub number_at : List ℕ → Members → Option ℕ
number_at key entries = option_and_then as_natural (get_member key entries)

unfoldable pub flag_or : Bool → List ℕ → Members → Bool
flag_or default key entries = unwrap_or (option_and_then as_bool (get_member key entries)) default

unfoldable pub address_or : List ℕ → List ℕ → Members → List ℕ
address_or default key entries = unwrap_or (option_and_then mac_of_text (option_and_then as_str (get_member key entries))) default

-- the items of a list, none where there is no list
unfoldable pub items_at : List ℕ → Members → List Data
items_at key entries = unwrap_or (option_and_then as_list (get_member key entries)) []

-- the texts of a list, none where there is no list
abbrev pub texts_at : List ℕ → Members → List (List ℕ)
texts_at key entries = filter_map as_str (items_at key entries)

-- the texts of a list, where there is one
unfoldable pub texts_if_any : List ℕ → Members → Option (List (List ℕ))
texts_if_any key entries = option_map (λ items. filter_map as_str items) (option_and_then as_list (get_member key entries))

-- the tables of a list, none where there is no list
abbrev pub tables_at : List ℕ → Members → List Members
tables_at key entries = filter_map as_table (items_at key entries)

-- the table at a key, where there is one
unfoldable pub table_at : List ℕ → Members → Option Members
table_at key entries = option_and_then as_table (get_member key entries)
