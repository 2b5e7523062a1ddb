-- The words after the program's name, and which of them form a command. Profile: all of it.
use Rattle.std.specs.Prelude.{◌≡◌, ◌≢◌, ℕ, ◌≤◌, List, [], ◌∷◌, ◌++◌, length, codes}
use Rattle.std.specs.Str.Parse.{IsNumeral, digits_value}
use Rattle.command_words.specs.declared.carrier.Carrier.{Carrier}
use Rattle.command_words.specs.declared.carrier.Carrier.TheVariants as carrier

-- a text that is no option: not empty, and its first byte no `-`
abbrev pub IsValue : List ℕ → Type 0
IsValue [] = ⊥
IsValue (byte ∷ bytes) = byte ≢ 45

-- a number of so many decimal digits at most, and no larger than the largest
pub record IsNumber (digits largest : ℕ) (text : List ℕ) (number : ℕ) : Type 0 where
  pub numeral : IsNumeral 10 text
  pub short : length text ≤ digits
  pub value : number ≡ digits_value 10 text
  pub most : number ≤ largest

-- the words are a command's name and the name of a settings file
pub record AsksWith (command : List ℕ) (words : List (List ℕ)) (name : List ℕ) : Type 0 where
  pub words_are : words ≡ command ∷ name ∷ []
  pub value : IsValue name

-- `send SETTINGS`, `receive SETTINGS`, `check SETTINGS`
abbrev pub AsksForSend : List (List ℕ) → List ℕ → Type 0
AsksForSend words name = AsksWith (codes "send") words name

abbrev pub AsksForReceive : List (List ℕ) → List ℕ → Type 0
AsksForReceive words name = AsksWith (codes "receive") words name

abbrev pub AsksForCheck : List (List ℕ) → List ℕ → Type 0
AsksForCheck words name = AsksWith (codes "check") words name

-- the words are a command's name and a number
pub record AsksNumbered (command : List ℕ) (digits largest : ℕ) (words : List (List ℕ)) (number : ℕ) : Type 0 where
  pub text : List ℕ
  pub words_are : words ≡ command ∷ text ∷ []
  pub written : IsNumber digits largest text number

-- `ule PID`: one to four decimal digits with a value of at most 8190, the last PID that is no null packet's
abbrev pub AsksForUle : List (List ℕ) → ℕ → Type 0
AsksForUle words pid = AsksNumbered (codes "ule") 4 8190 words pid

-- `sample NUMBER`: one to ten decimal digits with a value of 32 bits
abbrev pub AsksForSample : List (List ℕ) → ℕ → Type 0
AsksForSample words number = AsksNumbered (codes "sample") 10 4294967295 words number

-- `tables SETTINGS`
abbrev pub AsksForTables : List (List ℕ) → List ℕ → Type 0
AsksForTables words name = AsksWith (codes "tables") words name

-- `find PID`: the PID of an INT, 32 to 8190, of one to four decimal digits (EN 300 468 clause 5.1.3 keeps those before it for other tables)
pub record AsksForFind (words : List (List ℕ)) (pid : ℕ) : Type 0 where
  pub asks : AsksNumbered (codes "find") 4 8190 words pid
  pub least : 32 ≤ pid

-- the text is a prefix and a number of so many decimal digits at most, no larger than the largest
pub record IsPrefixedNumber (prefix : List ℕ) (digits largest : ℕ) (text : List ℕ) (number : ℕ) : Type 0 where
  pub rest : List ℕ
  pub text_is : text ≡ prefix ++ rest
  pub written : IsNumber digits largest rest number

-- CARRIER: `ule:` and a PID of one to four decimal digits, 0 to 8190, or `gse:` and an ISI of one to three, 0 to 255
abbrev pub IsCarrierText : List ℕ → Carrier → Type 0
IsCarrierText text (carrier.Ule pid) = IsPrefixedNumber (codes "ule:") 4 8190 text pid
IsCarrierText text (carrier.Gse isi) = IsPrefixedNumber (codes "gse:") 3 255 text isi

-- the words are a command's name and a carrier
pub record AsksWithCarrier (command : List ℕ) (words : List (List ℕ)) (carrier : Carrier) : Type 0 where
  pub text : List ℕ
  pub words_are : words ≡ command ∷ text ∷ []
  pub written : IsCarrierText text carrier

-- `bridge CARRIER`, `unbridge CARRIER`
abbrev pub AsksForBridge : List (List ℕ) → Carrier → Type 0
AsksForBridge words carrier = AsksWithCarrier (codes "bridge") words carrier

abbrev pub AsksForUnbridge : List (List ℕ) → Carrier → Type 0
AsksForUnbridge words carrier = AsksWithCarrier (codes "unbridge") words carrier

-- `relay IN OUT`: the names of the settings files of the inner and of the outer service
pub record AsksForRelay (words : List (List ℕ)) (inner outer : List ℕ) : Type 0 where
  pub words_are : words ≡ codes "relay" ∷ inner ∷ outer ∷ []
  pub inner_value : IsValue inner
  pub outer_value : IsValue outer

-- the words form no command
pub record IsNoCommand (words : List (List ℕ)) : Type 0 where
  pub no_send : (name : List ℕ) → ¬ AsksForSend words name
  pub no_receive : (name : List ℕ) → ¬ AsksForReceive words name
  pub no_ule : (pid : ℕ) → ¬ AsksForUle words pid
  pub no_check : (name : List ℕ) → ¬ AsksForCheck words name
  pub no_sample : (number : ℕ) → ¬ AsksForSample words number
  pub no_tables : (name : List ℕ) → ¬ AsksForTables words name
  pub no_find : (pid : ℕ) → ¬ AsksForFind words pid
  pub no_bridge : (carrier : Carrier) → ¬ AsksForBridge words carrier
  pub no_unbridge : (carrier : Carrier) → ¬ AsksForUnbridge words carrier
  pub no_relay : (inner outer : List ℕ) → ¬ AsksForRelay words inner outer

-- the words form one
pub data IsCommand (words : List (List ℕ)) : Type 0 where
  asks_for_send : (name : List ℕ) → AsksForSend words name → IsCommand words
  asks_for_receive : (name : List ℕ) → AsksForReceive words name → IsCommand words
  asks_for_ule : (pid : ℕ) → AsksForUle words pid → IsCommand words
  asks_for_check : (name : List ℕ) → AsksForCheck words name → IsCommand words
  asks_for_sample : (number : ℕ) → AsksForSample words number → IsCommand words
  asks_for_tables : (name : List ℕ) → AsksForTables words name → IsCommand words
  asks_for_find : (pid : ℕ) → AsksForFind words pid → IsCommand words
  asks_for_bridge : (carrier : Carrier) → AsksForBridge words carrier → IsCommand words
  asks_for_unbridge : (carrier : Carrier) → AsksForUnbridge words carrier → IsCommand words
  asks_for_relay : (inner outer : List ℕ) → AsksForRelay words inner outer → IsCommand words
