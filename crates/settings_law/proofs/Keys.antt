-- What stands at a key in whose table nothing is wrong, or its default.
use Rattle.std.proofs.Common.{◌≡◌, ◌⊎◌, inl, inr, ℕ, Bool, true, false, not, cond, List, [], ◌∷◌, map, Option, Some, None, refl, sym, ◌∙◌, subst}
use Rattle.std.specs.Option.{unwrap_or, option_and_then}
use Rattle.toml.specs.Data.{Data, Members, get_member, as_str}
use Rattle.addr_rules.specs.Texts.{mac_of_text}
use Rattle.plan_spec.specs.Checks.{is_between, is_service_name}
use Rattle.settings_spec.specs.Keys.{SettingsFault, missing, wrong_type, out_of_range, Values, range, name_text, address_text, has_type, in_range, as_natural, holds, KeyRule, value_fault, key_fault, unknown_fault, first_of, keys_fault, table_fault, text_or, number_or, address_or}
use Rattle.plan_spec.specs.Bytes.{IsMac}
use Rattle.settings_law.proofs.Addresses.{mac_is}

-- Faults.

-- of two faults there is none
pub first_none : (a b : Option SettingsFault) → first_of a b ≡ None → (a ≡ None) × (b ≡ None)
first_none None b none = (refl, none)
first_none (Some fault) b none = absurd (cc)

-- the key is one of these
abbrev pub IsAmong : List KeyRule → KeyRule → Type 0
IsAmong [] rule = ⊥
IsAmong (first ∷ rules) rule = (first ≡ rule) ⊎ IsAmong rules rule

-- nothing is wrong at a key of the table
pub key_of_keys : (rules : List KeyRule) (rule : KeyRule) (m : Members) → keys_fault rules m ≡ None → IsAmong rules rule → key_fault rule m ≡ None
key_of_keys [] rule m none there = absurd there
key_of_keys (first ∷ rules) rule m none (inl same) =
    subst (λ (t : KeyRule). key_fault t m ≡ None) same (first_none (key_fault first m) (keys_fault rules m) none).0
key_of_keys (first ∷ rules) rule m none (inr there) = key_of_keys rules rule m (first_none (key_fault first m) (keys_fault rules m) none).1 there

pub key_of_table : (rules : List KeyRule) (rule : KeyRule) (m : Members) → table_fault rules m ≡ None → IsAmong rules rule → key_fault rule m ≡ None
key_of_table rules rule m none there =
    key_of_keys rules rule m (first_none (unknown_fault (map (λ (r : KeyRule). r.name) rules) m) (keys_fault rules m) none).1 there

-- Values.

-- both tests of a value are passed
pub passed : (typed ranged : Bool) (f g : SettingsFault) → cond (not typed) (Some f) (cond (not ranged) (Some g) None) ≡ None → (typed ≡ true) × (ranged ≡ true)
passed true true f g none = (refl, refl)
passed true false f g none = absurd (cc)
passed false ranged f g none = absurd (cc)

-- of a value there, or of the default, a test holds
held : {X : Type 0} (test : X → Bool) (default : X) (o : Option X) → holds test o ≡ true → test (unwrap_or o default) ≡ true
held test default None is = absurd (cc)
held test default (Some x) is = is

-- where nothing stands the key is not required
absent : (must : Bool) (f : SettingsFault) → cond must (Some f) None ≡ None → must ≡ false
absent true f none = absurd (cc)
absent false f none = refl

-- Numbers.

pub number_holds : (test : ℕ → Bool) (values : Values) → ((d : Data) → in_range values d ≡ holds test (as_natural d)) → (default : ℕ) (key : List ℕ) (must : Bool) (m : Members)
    → key_fault (record { name = key; is_required = must; values = values }) m ≡ None → (must ≡ false → test default ≡ true) → test (number_or default key m) ≡ true
unfolding key_fault number_or
number_holds test values tests default key must m none fits = by_value (get_member key m) none
  where
    by_value : (o : Option Data) → value_fault (record { name = key; is_required = must; values = values }) o ≡ None → test (unwrap_or (option_and_then as_natural o) default) ≡ true
    by_value None is = fits (absent must (missing key) is)
    by_value (Some d) is =
        held test default (as_natural d) (sym (tests d) ∙ (passed (has_type values d) (in_range values d) (wrong_type key) (out_of_range key) is).1)

pub number_between : (least most default : ℕ) (key : List ℕ) (must : Bool) (m : Members)
    → key_fault (record { name = key; is_required = must; values = range least most }) m ≡ None → (must ≡ false → is_between least most default ≡ true)
    → is_between least most (number_or default key m) ≡ true
number_between least most default key must m none fits = number_holds (is_between least most) (range least most) (λ d. refl) default key must m none fits

-- Names.

pub name_holds : (key : List ℕ) (m : Members) → key_fault (record { name = key; is_required = true; values = name_text }) m ≡ None → is_service_name (text_or [] key m) ≡ true
unfolding key_fault text_or
name_holds key m none = by_value (get_member key m) none
  where
    by_value : (o : Option Data) → value_fault (record { name = key; is_required = true; values = name_text }) o ≡ None → is_service_name (unwrap_or (option_and_then as_str o) []) ≡ true
    by_value None is = absurd (cc)
    by_value (Some d) is =
        held is_service_name [] (as_str d) (passed (has_type name_text d) (in_range name_text d) (wrong_type key) (out_of_range key) is).1

-- MAC addresses.

pub address_holds : (default key : List ℕ) (m : Members) → key_fault (record { name = key; is_required = false; values = address_text }) m ≡ None → IsMac default → IsMac (address_or default key m)
unfolding key_fault address_or
address_holds default key m none fits = by_value (get_member key m) none
  where
    by_mac : (text : List ℕ) (o : Option (List ℕ)) → mac_of_text text ≡ o → IsMac (unwrap_or o default)
    by_mac text None told = fits
    by_mac text (Some mac) told = mac_is text mac told

    by_text : (o : Option (List ℕ)) → IsMac (unwrap_or (option_and_then mac_of_text o) default)
    by_text None = fits
    by_text (Some text) = by_mac text (mac_of_text text) refl

    by_value : (o : Option Data) → value_fault (record { name = key; is_required = false; values = address_text }) o ≡ None
        → IsMac (unwrap_or (option_and_then mac_of_text (option_and_then as_str o)) default)
    by_value None is = fits
    by_value (Some d) is = by_text (as_str d)
