-- What the reading of one key answers.
use Rattle.std.specs.Prelude.{◌≡◌, ℕ, Bool, List, [], ◌∷◌, codes, Option, Some, None, Result, MatchResult, if◌then◌else◌}
use Rattle.std.specs.List.{list_all}
use Rattle.toml.specs.Data.{Data, Members}
use Rattle.settings_spec.specs.Keys.{SettingsFault, Values, KeyRule, key_fault}
use Rattle.settings_keys.specs.Keys.{key_text, fault_seen}
use Rattle.settings_keys.specs.declared.key.Key.{Key}
use Rattle.settings_keys.specs.declared.key.Key.TheVariants as key
use Rattle.settings_keys.specs.declared.fault.PlanFault.{PlanFault}

-- a key of a table, and what it may hold
abbrev pub rule_for : Key → Bool → Values → KeyRule
rule_for k is_required values = record { name = key_text k; is_required = is_required; values = values }

-- the answer is right: a value of which this holds where nothing is wrong, otherwise what is wrong
abbrev pub Answers : {T : Type 0} → Result T PlanFault → Option SettingsFault → (T → Type 0) → Type 0
Answers result fault P = MatchResult result (λ x. (fault ≡ None) × P x) (λ f. fault ≡ Some (fault_seen f))

-- of what stands at a key
abbrev pub Reads : {T : Type 0} → Result T PlanFault → KeyRule → Members → (T → Type 0) → Type 0
Reads result rule table P = Answers result (key_fault rule table) P

-- the words that a key may hold
abbrev pub words_of : Key → List (List ℕ)
words_of key.Carrier = codes "ts" ∷ codes "bb" ∷ []
words_of key.Recording = codes "plain" ∷ codes "stamped" ∷ codes "m2ts" ∷ []
words_of key.Kind = codes "ule" ∷ codes "mpe" ∷ codes "fec" ∷ codes "gse" ∷ []
words_of key.Mode = codes "indexed" ∷ codes "sliced" ∷ []
words_of _ = []

-- the number, where it is there and passes the test
abbrev pub within : (ℕ → Bool) → Option ℕ → Option ℕ
within test None = None
within test (Some n) = if test n then Some n else None

-- the items, where each passes the test
abbrev pub items_where : (Data → Bool) → Option (List Data) → Option (List Data)
items_where test None = None
items_where test (Some items) = if list_all test items then Some items else None

-- nothing is said of a value
abbrev pub Always : {T : Type 0} → T → Type 0
Always x = Unit {0}
