-- Words that form no command.
use Rattle.std.proofs.Common.{◌≡◌, ◌≢◌, ◌<◌, ◌==◌, ℕ, List, [], ◌∷◌, Bool, true, false, subst, sym, ap, ◌∙◌, arith, codes}
use Rattle.std.specs.Char.{digit_value}
use Rattle.std.specs.Str.Parse.{IsNumeral}
use Rattle.std.proofs.lemmas.Bool.Decides.{nat_tests}
use Rattle.clap.specs.Words.{takes}
use Rattle.command_words.specs.Line.{command_line}
use Rattle.command_words.specs.Words.{IsValue, AsksWith, AsksNumbered, IsCarrierText, AsksWithCarrier, AsksForRelay, IsNoCommand, IsCommand, asks_for_send, asks_for_receive, asks_for_ule, asks_for_check, asks_for_sample, asks_for_tables, asks_for_find, asks_for_bridge, asks_for_unbridge, asks_for_relay}
use Rattle.command_words.specs.Asked.{AsksFor}
use Rattle.command_words.specs.declared.carrier.Carrier.{Carrier}
use Rattle.command_words.specs.declared.carrier.Carrier.TheVariants as carrier
use Rattle.command_words.specs.declared.parse.Command.{Command}
use Rattle.command_words.specs.declared.parse.Command.TheVariants as command
use Rattle.command_words.proofs.Taken.{send_taken, receive_taken, ule_taken, check_taken, sample_taken, tables_taken, find_taken, bridge_taken, unbridge_taken, relay_taken}

differ : (b : Bool) → b ≡ true → b ≡ false → ⊥
differ true t f = cc
differ false t f = cc

no_hyphen : (x : ℕ) → x ≢ 45 → (x == 45) ≡ false
no_hyphen x other = grind (arith, nat_tests)

-- digits are no option
numeral_value : (text : List ℕ) → IsNumeral 10 text → IsValue text
numeral_value [] numeral = absurd (omega arith)
numeral_value (x ∷ xs) numeral = λ e. let small : digit_value 45 < 10 = subst (λ (b : ℕ). digit_value b < 10) e numeral.1.0 in absurd (omega arith)

-- a prefix's letter is no hyphen
carrier_value : (text : List ℕ) (carrier : Carrier) → IsCarrierText text carrier → IsValue text
carrier_value text (carrier.Ule pid) written = subst IsValue (sym written.text_is) (λ e. absurd (omega arith))
carrier_value text (carrier.Gse isi) written = subst IsValue (sym written.text_is) (λ e. absurd (omega arith))

-- every command's words with a value are taken
abbrev TakesAll : List ℕ → Type 0
TakesAll command = (x : ℕ) (xs : List ℕ) → (x == 45) ≡ false → takes command_line (command ∷ (x ∷ xs) ∷ []) ≡ true

value_taken : (command value : List ℕ) → TakesAll command → IsValue value → takes command_line (command ∷ value ∷ []) ≡ true
value_taken command [] all value = absurd value
value_taken command (x ∷ xs) all value = all x xs (no_hyphen x value)

not_with : (command : List ℕ) (words : List (List ℕ)) (name : List ℕ) → TakesAll command → takes command_line words ≡ false → AsksWith command words name → ⊥
not_with command words name all refused asks =
    differ (takes command_line words) (ap (takes command_line) asks.words_are ∙ value_taken command name all asks.value) refused

not_numbered : (command : List ℕ) (digits largest : ℕ) (words : List (List ℕ)) (number : ℕ) → TakesAll command → takes command_line words ≡ false
    → AsksNumbered command digits largest words number → ⊥
not_numbered command digits largest words number all refused asks =
    differ (takes command_line words) (ap (takes command_line) asks.words_are ∙ value_taken command asks.text all (numeral_value asks.text asks.written.numeral)) refused

not_carried : (command : List ℕ) (words : List (List ℕ)) (carrier : Carrier) → TakesAll command → takes command_line words ≡ false
    → AsksWithCarrier command words carrier → ⊥
not_carried command words carrier all refused asks =
    differ (takes command_line words) (ap (takes command_line) asks.words_are ∙ value_taken command asks.text all (carrier_value asks.text carrier asks.written)) refused

values_taken : (inner outer : List ℕ) → IsValue inner → IsValue outer → takes command_line (codes "relay" ∷ inner ∷ outer ∷ []) ≡ true
values_taken [] outer one two = absurd one
values_taken (x ∷ xs) [] one two = absurd two
values_taken (x ∷ xs) (y ∷ ys) one two = relay_taken x xs y ys (no_hyphen x one) (no_hyphen y two)

not_relayed : (words : List (List ℕ)) (inner outer : List ℕ) → takes command_line words ≡ false → AsksForRelay words inner outer → ⊥
not_relayed words inner outer refused asks =
    differ (takes command_line words) (ap (takes command_line) asks.words_are ∙ values_taken inner outer asks.inner_value asks.outer_value) refused

-- words that are not taken form no command
pub untaken : (words : List (List ℕ)) → takes command_line words ≡ false → IsNoCommand words
untaken words refused = record {
  no_send = λ name asks. not_with (codes "send") words name send_taken refused asks;
  no_receive = λ name asks. not_with (codes "receive") words name receive_taken refused asks;
  no_ule = λ pid asks. not_numbered (codes "ule") 4 8190 words pid ule_taken refused asks;
  no_check = λ name asks. not_with (codes "check") words name check_taken refused asks;
  no_sample = λ number asks. not_numbered (codes "sample") 10 4294967295 words number sample_taken refused asks;
  no_tables = λ name asks. not_with (codes "tables") words name tables_taken refused asks;
  no_find = λ pid asks. not_numbered (codes "find") 4 8190 words pid find_taken refused asks.asks;
  no_bridge = λ carrier asks. not_carried (codes "bridge") words carrier bridge_taken refused asks;
  no_unbridge = λ carrier asks. not_carried (codes "unbridge") words carrier unbridge_taken refused asks;
  no_relay = λ inner outer asks. not_relayed words inner outer refused asks;
}

-- words that are neither two values nor those of a relay form no command
pub unpaired : (words : List (List ℕ)) → ((name value : List ℕ) → words ≡ name ∷ value ∷ [] → IsValue name → IsValue value → ⊥)
    → ((inner outer : List ℕ) → AsksForRelay words inner outer → ⊥) → IsNoCommand words
unpaired words none no_relay = record {
  no_send = λ name asks. none (codes "send") name asks.words_are (λ e. absurd (omega arith)) asks.value;
  no_receive = λ name asks. none (codes "receive") name asks.words_are (λ e. absurd (omega arith)) asks.value;
  no_ule = λ pid asks. none (codes "ule") asks.text asks.words_are (λ e. absurd (omega arith)) (numeral_value asks.text asks.written.numeral);
  no_check = λ name asks. none (codes "check") name asks.words_are (λ e. absurd (omega arith)) asks.value;
  no_sample = λ number asks. none (codes "sample") asks.text asks.words_are (λ e. absurd (omega arith)) (numeral_value asks.text asks.written.numeral);
  no_tables = λ name asks. none (codes "tables") name asks.words_are (λ e. absurd (omega arith)) asks.value;
  no_find = λ pid asks. none (codes "find") asks.asks.text asks.asks.words_are (λ e. absurd (omega arith)) (numeral_value asks.asks.text asks.asks.written.numeral);
  no_bridge = λ carrier asks. none (codes "bridge") asks.text asks.words_are (λ e. absurd (omega arith)) (carrier_value asks.text carrier asks.written);
  no_unbridge = λ carrier asks. none (codes "unbridge") asks.text asks.words_are (λ e. absurd (omega arith)) (carrier_value asks.text carrier asks.written);
  no_relay = no_relay;
}

-- the words of a command form one
pub forms_command : (words : List (List ℕ)) (command : Command) → AsksFor words command → IsCommand words
forms_command words (command.Send name) asks = asks_for_send name.now asks
forms_command words (command.Receive name) asks = asks_for_receive name.now asks
forms_command words (command.Ule pid) asks = asks_for_ule pid asks
forms_command words (command.Check name) asks = asks_for_check name.now asks
forms_command words (command.Sample number) asks = asks_for_sample number asks
forms_command words (command.Tables name) asks = asks_for_tables name.now asks
forms_command words (command.Find pid) asks = asks_for_find pid asks
forms_command words (command.Bridge carrier) asks = asks_for_bridge carrier asks
forms_command words (command.Unbridge carrier) asks = asks_for_unbridge carrier asks
forms_command words (command.Relay inner outer) asks = asks_for_relay inner.now outer.now asks
