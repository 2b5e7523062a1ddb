-- What is wrong with settings, in errors; the carrier and the INT's table.
use Rattle.std.proofs.Common.{◌≡◌, ℕ, Bool, List, [], ◌∷◌, ◌++◌, Option, Some, None, bytes_eq, codes, refl, ◌∙◌}
use Rattle.toml.specs.Data.{Members}
use Rattle.settings_spec.specs.Keys.{SettingsFault, KeyRule, key_fault, keys_fault, first_of, table_fault, text_or}
use Rattle.settings_spec.specs.Settings.{says_baseband, int_fault, int_keys}
use Rattle.service_plan.specs.Keys.{fault_seen, Faults}
use Rattle.service_plan.specs.declared.fault.PlanError.{PlanError}
use Rattle.service_plan.specs.declared.fault.PlanError.TheVariants as error
pub use Rattle.settings_keys.proofs.KeyLemmas.{fault_absent, no_fault_absent, fault_typed, fault_ranged, no_fault_there, number_absent, number_there, flag_absent, flag_there, text_absent, text_there, address_absent, address_there, first_here, first_later, held, natural_there, natural_within, natural_outside, table_absent, table_there, between_both, items_absent, same_text}

pub baseband_said : (top : Members) (word : List ℕ) (b : Bool) → word ≡ text_or (codes "ts") (codes "carrier") top → b ≡ bytes_eq word (codes "bb")
    → b ≡ says_baseband top
unfolding says_baseband
baseband_said top word b is said = rw (← is) said

-- the table of the INT, or none
pub int_fault_there : (int : Members) → int_fault (Some int) ≡ table_fault int_keys int
unfolding int_fault
int_fault_there int = refl

pub int_fault_absent : int_fault None ≡ None
unfolding int_fault
int_fault_absent = refl

-- a fault, where the error is one, of two that may be
pub error_here : (e : PlanError) (a b : Option SettingsFault) → Faults e a → Faults e (first_of a b)
error_here (error.Fault f) a b here = first_here a b (fault_seen f) here
error_here error.OutOfMemory a b here = tt

pub error_later : (e : PlanError) (a b : Option SettingsFault) → a ≡ None → Faults e b → Faults e (first_of a b)
error_later (error.Fault f) a b none later = first_later a b (Some (fault_seen f)) none later
error_later error.OutOfMemory a b none later = tt

-- what is wrong at some keys, and at more after them
first_joined : (a b c d : Option SettingsFault) → d ≡ first_of b c → first_of a d ≡ first_of (first_of a b) c
first_joined None b c d same = same
first_joined (Some f) b c d same = refl

pub keys_append : (xs ys : List KeyRule) (m : Members) → keys_fault (xs ++ ys) m ≡ first_of (keys_fault xs m) (keys_fault ys m)
keys_append [] ys m = refl
keys_append (x ∷ xs) ys m = first_joined (key_fault x m) (keys_fault xs m) (keys_fault ys m) (keys_fault (xs ++ ys) m) (keys_append xs ys m)

pub keys_here : (front back : List KeyRule) (m : Members) (f : SettingsFault) → keys_fault front m ≡ Some f → keys_fault (front ++ back) m ≡ Some f
keys_here front back m f here = keys_append front back m ∙ first_here (keys_fault front m) (keys_fault back m) f here

pub keys_later : (front back : List KeyRule) (m : Members) (f : Option SettingsFault) → keys_fault front m ≡ None → keys_fault back m ≡ f → keys_fault (front ++ back) m ≡ f
keys_later front back m f none later = keys_append front back m ∙ first_later (keys_fault front m) (keys_fault back m) f none later
