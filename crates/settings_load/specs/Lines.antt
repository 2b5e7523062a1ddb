-- Lines of text: what is wrong with a settings file, and the services of a plan. Profile: all of it.
use Rattle.std.specs.Prelude.{ℕ, ◌+◌, ◌<◌, List, [], ◌∷◌, ◌++◌, map, codes, decimal, All}
use Rattle.wire_spec.specs.Lists.{joined}
use Rattle.plan_spec.specs.Plan.{KindFields, ule, mpe, fec, gse, ServiceFields, MovedFields, ChangeFields, PlanFields}
use Rattle.plan_spec.specs.Changes.{service_in}
use Rattle.settings_spec.specs.Keys.{SettingsFault, no_document, missing, wrong_type, out_of_range, same_pid, same_name, wrong_rules, wrong_window, short_gap, long_cycle, no_stamps, wrong_carrier, unknown_key, wrong_change}
use Rattle.settings_load.specs.Settings.{Refusal, too_long, refused}

-- the number of a fault
abbrev pub fault_number : SettingsFault → ℕ
fault_number no_document = 1
fault_number (missing key) = 2
fault_number (wrong_type key) = 3
fault_number (out_of_range key) = 4
fault_number same_pid = 5
fault_number same_name = 6
fault_number wrong_rules = 7
fault_number wrong_window = 8
fault_number short_gap = 9
fault_number long_cycle = 10
fault_number no_stamps = 11
fault_number wrong_carrier = 12
fault_number unknown_key = 13
fault_number wrong_change = 14

-- its key after a space, where it has one
abbrev pub fault_key : SettingsFault → List ℕ
fault_key no_document = []
fault_key (missing key) = 32 ∷ key
fault_key (wrong_type key) = 32 ∷ key
fault_key (out_of_range key) = 32 ∷ key
fault_key same_pid = []
fault_key same_name = []
fault_key wrong_rules = []
fault_key wrong_window = []
fault_key short_gap = []
fault_key long_cycle = []
fault_key no_stamps = []
fault_key wrong_carrier = []
fault_key unknown_key = []
fault_key wrong_change = []

-- the line that is printed for a file that gives no plan
abbrev pub refusal_line : Refusal → List ℕ
refusal_line too_long = codes "ipencap: settings too long" ++ 10 ∷ []
refusal_line (refused fault) = codes "ipencap: settings " ++ decimal (fault_number fault) ++ fault_key fault ++ 10 ∷ []

-- the word of a kind in settings, and its PID or ISI
abbrev pub kind_word : KindFields → List ℕ
kind_word (ule pid address packing) = codes "ule"
kind_word (mpe pid) = codes "mpe"
kind_word (fec pid rows parity window) = codes "fec"
kind_word (gse isi address) = codes "gse"

abbrev pub kind_number : KindFields → ℕ
kind_number (ule pid address packing) = pid
kind_number (mpe pid) = pid
kind_number (fec pid rows parity window) = pid
kind_number (gse isi address) = isi

-- the line of a service: its name, its kind, and its PID or ISI
abbrev pub service_line : ServiceFields → List ℕ
service_line service = service.name ++ 32 ∷ kind_word service.kind ++ 32 ∷ decimal (kind_number service.kind) ++ 10 ∷ []

-- each service that moves is one of so many
abbrev pub AreThere : ℕ → List MovedFields → Type 0
AreThere count moves = All (λ (moved : MovedFields). moved.service < count) moves

-- the lines of a change, from which on the plan has this version: the number of its record, and each service that it moves, as it is then
abbrev pub moved_line : PlanFields → ℕ → MovedFields → List ℕ
moved_line plan version moved = service_line (service_in plan version moved.service)

abbrev pub change_line : ℕ → List ℕ
change_line at = codes "change " ++ decimal at ++ 10 ∷ []

abbrev pub change_text : PlanFields → ℕ → ChangeFields → List ℕ
change_text plan version change = change_line change.at ++ joined (map (moved_line plan version) change.moved)

-- those of changes, the first of which makes this version
abbrev pub changes_text : PlanFields → ℕ → List ChangeFields → List ℕ
changes_text plan version [] = []
changes_text plan version (change ∷ changes) = change_text plan version change ++ changes_text plan (version + 1) changes

-- the lines of a plan: one for each service in order, as it is at first, and after them those of its changes
abbrev pub check_text : PlanFields → List ℕ
check_text plan = joined (map service_line plan.services) ++ changes_text plan 1 plan.changes
