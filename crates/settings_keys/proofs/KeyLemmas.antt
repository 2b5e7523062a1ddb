-- What is wrong at a key, by what stands there.
use Rattle.std.proofs.Common.{◌≡◌, ◌≤◌, le-leb, bytes_eq, ℕ, ℤ, Bool, true, false, ◌||◌, List, [], ◌∷◌, map, Option, Some, None, refl, ap, sym, not, if◌then◌else◌}
use Rattle.addr_rules.specs.Texts.{mac_of_text}
use Rattle.toml.specs.Data.{Data, Members, get_member, as_str, as_integer, as_bool, as_table}
use Rattle.settings_spec.specs.Keys.{SettingsFault, missing, wrong_type, out_of_range, KeyRule, has_type, in_range, key_fault, first_of, text_or, number_or, flag_or, address_or, natural, as_natural, holds, table_at, Values, range, required, optional, value_fault, number_at}
use Rattle.plan_spec.specs.Checks.{is_between}
use Rattle.std.proofs.lemmas.Slice.Eq.{bytes_eq-Decides}
use Rattle.settings_spec.specs.Keys.{items_at}
use Rattle.std.specs.List.{list_any}
use Rattle.std.specs.Option.{option_and_then, unwrap_or}
use Rattle.settings_keys.specs.Reading.{within}

-- nothing stands there
pub fault_absent : (rule : KeyRule) (table : Members) → None ≡ get_member rule.name table → rule.is_required ≡ true → key_fault rule table ≡ Some (missing rule.name)
unfolding key_fault
fault_absent rule table absent must = rw (← absent, must)

pub no_fault_absent : (rule : KeyRule) (table : Members) → None ≡ get_member rule.name table → rule.is_required ≡ false → key_fault rule table ≡ None
unfolding key_fault
no_fault_absent rule table absent may = rw (← absent, may)

-- a value stands there
pub fault_typed : (rule : KeyRule) (table : Members) (d : Data) → Some d ≡ get_member rule.name table → has_type rule.values d ≡ false → key_fault rule table ≡ Some (wrong_type rule.name)
unfolding key_fault
fault_typed rule table d there typed = rw (← there, typed)

pub fault_ranged : (rule : KeyRule) (table : Members) (d : Data) → Some d ≡ get_member rule.name table → has_type rule.values d ≡ true → in_range rule.values d ≡ false → key_fault rule table ≡ Some (out_of_range rule.name)
unfolding key_fault
fault_ranged rule table d there typed ranged = rw (← there, typed, ranged)

pub no_fault_there : (rule : KeyRule) (table : Members) (d : Data) → Some d ≡ get_member rule.name table → has_type rule.values d ≡ true → in_range rule.values d ≡ true → key_fault rule table ≡ None
unfolding key_fault
no_fault_there rule table d there typed ranged = rw (← there, typed, ranged)

-- where something stands there, it is as wrong at a key that may be left out as at one that must be there
pub fault_of_some : (name : List ℕ) (values : Values) (table : Members) (d : Data) → Some d ≡ get_member name table
    → key_fault (optional name values) table ≡ key_fault (required name values) table
unfolding key_fault
fault_of_some name values table d there = rw (← there) refl

-- the values there, or the defaults
pub number_absent : (default : ℕ) (key : List ℕ) (table : Members) → None ≡ get_member key table → default ≡ number_or default key table
unfolding number_or
number_absent default key table absent = rw (← absent)

pub number_there : (default : ℕ) (key : List ℕ) (table : Members) (d : Data) (n : ℕ) → Some d ≡ get_member key table → Some n ≡ as_natural d → n ≡ number_or default key table
unfolding number_or
number_there default key table d n there is = rw (← there, ← is)

pub flag_absent : (default : Bool) (key : List ℕ) (table : Members) → None ≡ get_member key table → default ≡ flag_or default key table
unfolding flag_or
flag_absent default key table absent = rw (← absent)

pub flag_there : (default : Bool) (key : List ℕ) (table : Members) (d : Data) (b : Bool) → Some d ≡ get_member key table → Some b ≡ as_bool d → b ≡ flag_or default key table
unfolding flag_or
flag_there default key table d b there is = rw (← there, ← is)

pub text_absent : (default : List ℕ) (key : List ℕ) (table : Members) → None ≡ get_member key table → default ≡ text_or default key table
unfolding text_or
text_absent default key table absent = rw (← absent)

pub text_there : (default : List ℕ) (key : List ℕ) (table : Members) (d : Data) (text : List ℕ) → Some d ≡ get_member key table → Some text ≡ as_str d → text ≡ text_or default key table
unfolding text_or
text_there default key table d text there is = rw (← there, ← is)

pub address_absent : (default : List ℕ) (key : List ℕ) (table : Members) → None ≡ get_member key table → default ≡ address_or default key table
unfolding address_or
address_absent default key table absent = rw (← absent)

pub address_there : (default : List ℕ) (key : List ℕ) (table : Members) (d : Data) (text mac : List ℕ) → Some d ≡ get_member key table → Some text ≡ as_str d → Some mac ≡ mac_of_text text → mac ≡ address_or default key table
unfolding address_or
address_there default key table d text mac there is read = rw (← there, ← is, ← read)

-- the first of two faults
pub first_here : (a b : Option SettingsFault) (f : SettingsFault) → a ≡ Some f → first_of a b ≡ Some f
first_here a b f here = rw here

pub first_later : (a b c : Option SettingsFault) → a ≡ None → b ≡ c → first_of a b ≡ c
first_later a b c none later = rw none later

-- a test of what is there
pub held : {X : Type 0} (test : X → Bool) (o : Option X) (x : X) (b : Bool) → Some x ≡ o → b ≡ test x → holds test o ≡ b
held test o x b there is = rw (← there) (sym is)

-- one of some words passes a test
pub any_mapped : {X : Type 0} (test : List ℕ → Bool) (text : X → List ℕ) (xs : List X) → list_any (λ x. test (text x)) xs ≡ list_any test (map text xs)
any_mapped test text [] = refl
any_mapped test text (x ∷ xs) = rw (any_mapped test text xs)

pub any_of_three : (test : List ℕ → Bool) (a b c : List ℕ) → list_any test (a ∷ b ∷ c ∷ []) ≡ (test a || (test b || test c))
any_of_three test a b c = ap (λ last. test a || (test b || last)) (last (test c))
  where
    last : (passed : Bool) → (passed || false) ≡ passed
    last true = refl
    last false = refl

-- a number there, within its range or not
within_number : (test : ℕ → Bool) (m n : ℕ) (b : Bool) → test m ≡ b → Some n ≡ (if b then Some m else None) → (Some n ≡ Some m) × (test m ≡ true)
within_number test m n true t e = (e, t)
within_number test m n false t e = absurd (let h = e in cc)

within_some : (test : ℕ → Bool) (o : Option ℕ) (n : ℕ) → Some n ≡ within test o → (Some n ≡ o) × (holds test o ≡ true)
within_some test None n e = absurd (let h = e in cc)
within_some test (Some m) n e = within_number test m n (test m) refl e

without_number : (test : ℕ → Bool) (m : ℕ) (b : Bool) → test m ≡ b → None ≡ (if b then Some m else None) → test m ≡ false
without_number test m true t e = absurd (let h = e in cc)
without_number test m false t e = t

within_none : (test : ℕ → Bool) (o : Option ℕ) → None ≡ within test o → holds test o ≡ false
within_none test None e = refl
within_none test (Some m) e = without_number test m (test m) refl e

natural_of_integer : (z : ℤ) (d : Data) → Some z ≡ as_integer d → as_natural d ≡ natural z
natural_of_integer z d is = rw (← is)

pub natural_there : (test : ℕ → Bool) (z : ℤ) (d : Data) (n : ℕ) → Some z ≡ as_integer d → Some n ≡ within test (natural z) → Some n ≡ as_natural d
natural_there test z d n is e = rw (natural_of_integer z d is) (within_some test (natural z) n e).0

pub natural_within : (test : ℕ → Bool) (z : ℤ) (d : Data) (n : ℕ) → Some z ≡ as_integer d → Some n ≡ within test (natural z) → holds test (as_natural d) ≡ true
natural_within test z d n is e = rw (natural_of_integer z d is) (within_some test (natural z) n e).1

pub natural_outside : (test : ℕ → Bool) (z : ℤ) (d : Data) → Some z ≡ as_integer d → None ≡ within test (natural z) → holds test (as_natural d) ≡ false
natural_outside test z d is e = rw (natural_of_integer z d is) (within_none test (natural z) e)

pub table_absent : (key : List ℕ) (table : Members) → None ≡ get_member key table → None ≡ table_at key table
unfolding table_at
table_absent key table absent = rw (← absent)

pub table_there : (key : List ℕ) (table : Members) (d : Data) (inner : Members) → Some d ≡ get_member key table → Some inner ≡ as_table d → Some inner ≡ table_at key table
unfolding table_at
table_there key table d inner there is = rw (← there, ← is)

-- a number between two others
pub between_both : (least most n : ℕ) → least ≤ n → n ≤ most → is_between least most n ≡ true
between_both least most n low high = rw (le-leb least n low, le-leb n most high)

pub items_absent : (key : List ℕ) (table : Members) → None ≡ get_member key table → items_at key table ≡ []
unfolding items_at
items_absent key table absent = rw (← absent)

-- texts that are tested equal
pub same_text : (a b : List ℕ) → bytes_eq a b ≡ true → a ≡ b
same_text a b same = (bytes_eq-Decides a b).0 same

-- a number that may be left out
pub no_number : (key : List ℕ) (table : Members) → None ≡ get_member key table → None ≡ number_at key table
unfolding number_at
no_number key table absent = rw (← absent) refl

pub some_number : (least most : ℕ) (key : List ℕ) (table : Members) (n : ℕ) → key_fault (required key (range least most)) table ≡ None → n ≡ number_or 0 key table
    → Some n ≡ number_at key table
unfolding key_fault number_or number_at
some_number least most key table n none is = by_value (get_member key table) none is
  where
    by_number : (o : Option ℕ) (typed : Bool) (f g : SettingsFault) → (if not typed then Some f else if not (holds (is_between least most) o) then Some g else None) ≡ None
        → n ≡ unwrap_or o 0 → Some n ≡ o
    by_number None true f g right same = absurd (let h = right in cc)
    by_number None false f g right same = absurd (let h = right in cc)
    by_number (Some m) typed f g right same = ap Some same

    by_value : (o : Option Data) → value_fault (required key (range least most)) o ≡ None → n ≡ unwrap_or (option_and_then as_natural o) 0
        → Some n ≡ option_and_then as_natural o
    by_value None right same = absurd (let h = right in cc)
    by_value (Some d) right same = by_number (as_natural d) (has_type (range least most) d) _ _ right same
