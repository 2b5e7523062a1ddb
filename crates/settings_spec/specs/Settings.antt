-- Settings: the keys of their tables in order, and the plan that the values or their defaults give. Profile: all of it.
use Rattle.std.specs.Prelude.{ℕ, ◌+◌, Bool, true, List, [], ◌∷◌, ◌++◌, map, bytes_eq, codes, Option, Some, None, is_some, if◌then◌else◌}
use Rattle.std.specs.Option.{option_map}
use Rattle.std.specs.List.{filter_map}
use Rattle.toml.specs.Data.{Members, get_member}
use Rattle.ts_spec.specs.Recording.{RecordingForm, plain, stamped, m2ts}
use Rattle.addr_rules.specs.Macs.{broadcast_mac}
use Rattle.addr_rules.specs.Texts.{mac_of_text}
use Rattle.plan_spec.specs.Plan.{WindowFields, KindFields, ule, mpe, fec, gse, ServiceFields, ServiceRules, IntFields, PlanFields}
use Rattle.plan_spec.specs.Checks.{is_gse}
use Rattle.settings_spec.specs.Keys.{SettingsFault, one_of, name_text, address_text, any_text, range, row_count, flag, one_table, tables, texts, addresses, KeyRule, required, optional, key_fault, unknown_fault, keys_fault, first_of, table_fault, text_or, number_or, flag_or, address_or, texts_at, tables_at, table_at}
use Rattle.settings_spec.specs.Changes.{ChangeValues, change_values, without_rules, changes_by}

-- baseband frames carry the stream, and not transport packets
unfoldable pub says_baseband : Members → Bool
says_baseband top = bytes_eq (text_or (codes "ts") (codes "carrier") top) (codes "bb")

-- The keys.

-- the keys of the top table that are neither tables nor lists of them
abbrev pub value_keys : List KeyRule
value_keys =
    optional (codes "carrier") (one_of (codes "ts" ∷ codes "bb" ∷ []))
    ∷ optional (codes "recording") (one_of (codes "plain" ∷ codes "stamped" ∷ codes "m2ts" ∷ []))
    ∷ optional (codes "packet_rate") (range 1 1000000)
    ∷ optional (codes "cycle") (range 100 1000000)
    ∷ optional (codes "frame_bytes") (range 300 7274)
    ∷ []

-- what changes the plan needs an INT
abbrev pub int_key : Members → KeyRule
int_key top = record { name = codes "int"; is_required = is_some (get_member (codes "change") top); values = one_table }

-- the list of services: 1 to 16 of baseband frames, 1 to 64 of transport packets
abbrev pub service_key : Members → KeyRule
service_key top = required (codes "service") (tables (if says_baseband top then 16 else 64))

-- the keys of the top table, in order, but for the changes
abbrev pub top_keys : Members → List KeyRule
top_keys top = value_keys ++ int_key top ∷ service_key top ∷ []

-- what changes the plan, each change from a record of the capture on
abbrev pub change_key : KeyRule
change_key = optional (codes "change") (tables 31)

-- the keys of a change: the record from which on it holds, and the services that it moves
abbrev pub change_keys : List KeyRule
change_keys = required (codes "at") (range 2 4194304) ∷ required (codes "service") (tables 64) ∷ []

-- a service that a change moves: its PID and its rules, where they change
abbrev pub moved_keys : List KeyRule
moved_keys = required (codes "name") any_text ∷ optional (codes "pid") (range 32 8190) ∷ optional (codes "rules") texts ∷ []

-- the names that the top table may have
abbrev pub names_of : List KeyRule → List (List ℕ)
names_of rules = map (λ (rule : KeyRule). rule.name) rules

abbrev pub top_names : Members → List (List ℕ)
top_names top = names_of (top_keys top) ++ codes "change" ∷ []

-- the keys of the INT, in order
abbrev pub int_keys : List KeyRule
int_keys =
    required (codes "pid") (range 32 8190)
    ∷ required (codes "platform_id") (range 0 16777215)
    ∷ required (codes "network_id") (range 0 65535)
    ∷ required (codes "original_network_id") (range 0 65535)
    ∷ required (codes "transport_stream_id") (range 0 65535)
    ∷ []

-- those of a service: of every kind at first and at last, of its own kind between
abbrev pub name_key : KeyRule
name_key = required (codes "name") name_text

abbrev pub kind_key : KeyRule
kind_key = required (codes "kind") (one_of (codes "ule" ∷ codes "mpe" ∷ codes "fec" ∷ codes "gse" ∷ []))

abbrev pub pid_key : KeyRule
pid_key = required (codes "pid") (range 32 8190)

abbrev pub address_key : KeyRule
address_key = optional (codes "address") flag

abbrev pub mode_key : KeyRule
mode_key = optional (codes "mode") (one_of (codes "indexed" ∷ codes "sliced" ∷ []))

abbrev pub frame_keys : List KeyRule
frame_keys = mode_key ∷ optional (codes "rows") row_count ∷ optional (codes "parity") (range 1 64) ∷ []

abbrev pub window_keys : List KeyRule
window_keys = required (codes "window_start") (range 0 999999) ∷ required (codes "window_length") (range 1 1000000) ∷ []

abbrev pub rules_key : KeyRule
rules_key = required (codes "rules") texts

-- the rules by which datagrams of GSE packets are urgent
abbrev pub urgent_key : KeyRule
urgent_key = optional (codes "urgent") texts

-- the addresses that a filter wants
abbrev pub filter_key : KeyRule
filter_key = optional (codes "filter") addresses

-- the last keys of a service, of every kind
abbrev pub last_keys : List KeyRule
last_keys =
    optional (codes "unicast") address_text
    ∷ optional (codes "service_id") (range 0 65535)
    ∷ optional (codes "component_tag") (range 0 255)
    ∷ []

-- the keys of a service of kind "ule", in order
abbrev pub ule_keys : List KeyRule
ule_keys =
    name_key ∷ kind_key ∷ pid_key ∷ address_key ∷ optional (codes "packing") flag ∷ rules_key ∷ filter_key ∷ last_keys

-- the keys of a service of kind "mpe", in order
abbrev pub mpe_keys : List KeyRule
mpe_keys = name_key ∷ kind_key ∷ pid_key ∷ rules_key ∷ filter_key ∷ last_keys

-- the keys of a service of kind "fec" and mode "indexed", in order
abbrev pub indexed_keys : List KeyRule
indexed_keys = name_key ∷ kind_key ∷ pid_key ∷ (frame_keys ++ rules_key ∷ last_keys)

-- the keys of a service of kind "fec" and mode "sliced", in order
abbrev pub sliced_keys : List KeyRule
sliced_keys = name_key ∷ kind_key ∷ pid_key ∷ (frame_keys ++ window_keys ++ rules_key ∷ last_keys)

-- the keys of a service of kind "gse", in order
abbrev pub gse_keys : List KeyRule
gse_keys = name_key ∷ kind_key ∷ required (codes "isi") (range 0 255) ∷ address_key ∷ rules_key ∷ urgent_key ∷ filter_key ∷ last_keys

-- What is wrong with the tables.

-- kind comes first, mode after it where the kind has frames, then the keys of this kind and mode
abbrev pub kind_text : Members → List ℕ
kind_text service = text_or [] (codes "kind") service

unfoldable pub is_sliced_mode : Members → Bool
is_sliced_mode service = bytes_eq (text_or (codes "indexed") (codes "mode") service) (codes "sliced")

abbrev pub fec_fault : Members → Option SettingsFault
fec_fault service = first_of (key_fault mode_key service) (if is_sliced_mode service then table_fault sliced_keys service else table_fault indexed_keys service)

unfoldable pub kind_fault : Members → Option SettingsFault
kind_fault service =
    if bytes_eq (kind_text service) (codes "ule") then table_fault ule_keys service else
    if bytes_eq (kind_text service) (codes "mpe") then table_fault mpe_keys service else
    if bytes_eq (kind_text service) (codes "fec") then fec_fault service else
    table_fault gse_keys service

unfoldable pub service_fault : Members → Option SettingsFault
service_fault service = first_of (key_fault kind_key service) (kind_fault service)

-- the first fault of services, in order
abbrev pub services_fault : List Members → Option SettingsFault
services_fault [] = None
services_fault (service ∷ services) = first_of (service_fault service) (services_fault services)

-- the fault of the INT, where there is one
unfoldable pub int_fault : Option Members → Option SettingsFault
int_fault None = None
int_fault (Some int) = table_fault int_keys int

-- the first fault of the services that a change moves
abbrev pub moved_fault : List Members → Option SettingsFault
moved_fault [] = None
moved_fault (moved ∷ others) = first_of (table_fault moved_keys moved) (moved_fault others)

-- the fault of a change: of its own keys, then of the services that it moves
unfoldable pub change_fault : Members → Option SettingsFault
change_fault change = first_of (table_fault change_keys change) (moved_fault (tables_at (codes "service") change))

-- the first fault of changes, in order
abbrev pub changes_fault : List Members → Option SettingsFault
changes_fault [] = None
changes_fault (change ∷ changes) = first_of (change_fault change) (changes_fault changes)

-- an unknown key of the top table comes first, then key by key; what stands at `change` has a place of its own
abbrev pub top_fault : Members → Option SettingsFault
top_fault top = first_of (unknown_fault (top_names top) top) (keys_fault (top_keys top) top)

-- the first fault of all tables: the top table first, then int, then each service in order, then the list of changes, then each change and the services that it
-- moves
unfoldable pub tables_fault : Members → Option SettingsFault
tables_fault top =
    first_of (top_fault top) (first_of (int_fault (table_at (codes "int") top)) (first_of (services_fault (tables_at (codes "service") top))
    (first_of (key_fault change_key top) (changes_fault (tables_at (codes "change") top)))))

-- The plan.

-- the form of recording that a text names
abbrev pub recording_of : List ℕ → RecordingForm
recording_of text =
    if bytes_eq text (codes "stamped") then stamped else
    if bytes_eq text (codes "m2ts") then m2ts else
    plain

-- the window that the keys of a service give
abbrev pub window_of : Members → WindowFields
window_of service = record { start = number_or 0 (codes "window_start") service; length = number_or 0 (codes "window_length") service }

-- the kind of a service, by its keys or their defaults
unfoldable pub kind_of : Members → KindFields
kind_of service =
    if bytes_eq (kind_text service) (codes "ule") then
    ule (number_or 0 (codes "pid") service) (flag_or true (codes "address") service) (flag_or true (codes "packing") service) else
    if bytes_eq (kind_text service) (codes "mpe") then mpe (number_or 0 (codes "pid") service) else
    if bytes_eq (kind_text service) (codes "fec") then
    fec (number_or 0 (codes "pid") service) (number_or 1024 (codes "rows") service) (number_or 64 (codes "parity") service)
    (if is_sliced_mode service then Some (window_of service) else None) else
    gse (number_or 0 (codes "isi") service) (flag_or true (codes "address") service)

-- a service at a place of the list, still without rules
abbrev pub service_of : ℕ → Members → ServiceFields
service_of place service = record {
  name = text_or [] (codes "name") service;
  kind = kind_of service;
  rules = [];
  urgent = [];
  filter = if bytes_eq (kind_text service) (codes "fec") then [] else filter_map mac_of_text (texts_at (codes "filter") service);
  unicast = address_or broadcast_mac (codes "unicast") service;
  service_id = number_or 1 (codes "service_id") service;
  component_tag = number_or place (codes "component_tag") service;
}

-- services of the list, the first of them at this place, still without rules
abbrev pub services_of : ℕ → List Members → List ServiceFields
services_of place [] = []
services_of place (service ∷ services) = service_of place service ∷ services_of (place + 1) services

-- the INT that the keys of its table give
abbrev pub int_of : Members → IntFields
int_of int = record {
  pid = number_or 0 (codes "pid") int;
  platform_id = number_or 0 (codes "platform_id") int;
  network_id = number_or 0 (codes "network_id") int;
  original_network_id = number_or 0 (codes "original_network_id") int;
  transport_stream_id = number_or 0 (codes "transport_stream_id") int;
}

-- the changes, as the text says them
unfoldable pub changes_at : Members → List (ChangeValues (List ℕ))
changes_at top = map change_values (tables_at (codes "change") top)

-- the plan that the values or their defaults give, still without rules
unfoldable pub plan_of : Members → PlanFields
plan_of top = record {
  recording = recording_of (text_or (codes "plain") (codes "recording") top);
  packet_rate = number_or 10000 (codes "packet_rate") top;
  cycle = number_or 20000 (codes "cycle") top;
  frame_bytes = if says_baseband top then Some (number_or 2000 (codes "frame_bytes") top) else None;
  table = option_map int_of (table_at (codes "int") top);
  services = services_of 0 (tables_at (codes "service") top);
  version = 0;
  changes = changes_by (services_of 0 (tables_at (codes "service") top)) (map without_rules (changes_at top));
}

-- the texts of the rules of a service, and of each; only GSE packets have urgent ones
abbrev pub urgent_texts : Members → List (List ℕ)
urgent_texts service = if is_gse (kind_of service) then texts_at (codes "urgent") service else []

abbrev pub service_texts : Members → ServiceRules (List ℕ)
service_texts service = record { rules = texts_at (codes "rules") service; urgent = urgent_texts service }

unfoldable pub rule_texts : Members → List (ServiceRules (List ℕ))
rule_texts top = map service_texts (tables_at (codes "service") top)
