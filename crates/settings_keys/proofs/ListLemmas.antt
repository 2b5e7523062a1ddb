-- Lists of settings: their items, the rules and MAC addresses among them.
use Rattle.std.proofs.Common.{◌≡◌, ℕ, ◌+◌, ◌<◌, ◌≤◌, Bool, true, false, List, [], ◌∷◌, ◌++◌, length, map, get_or, drop, Option, Some, None, Vec, Global, refl, ap, sym, ◌∙◌, append_assoc, not, if◌then◌else◌}
use Rattle.std.specs.List.{list_all}
use Rattle.std.proofs.lemmas.List.{drop_more, drop_all, append-nil, length-map}
use Rattle.toml.specs.Data.{Data, Members, get_member, as_array, as_str}
use Rattle.toml.specs.View.{view, items_of, array_view}
use Rattle.toml.specs.declared.value.Value.{Value}
use Rattle.addr_rules.specs.Texts.{IsRuleText, mac_of_text}
use Rattle.addr_rules.specs.declared.rules.Rule.{Rule}
use Rattle.plan_spec.specs.Checks.{is_between}
use Rattle.std.specs.Option.{option_and_then, option_map, unwrap_or}
use Rattle.settings_spec.specs.Keys.{SettingsFault, wrong_type, out_of_range, list_of, as_list, holds, is_address, is_text, texts, required, value_fault, key_fault, items_at, texts_if_any}
use Rattle.settings_spec.specs.Refusal.{AreRules}
use Rattle.settings_keys.specs.Lists.{views, texts_of, macs_of}
use Rattle.settings_keys.specs.Reading.{items_where}

-- items, seen as a list
listed : (ds : List Data) → list_of (items_of ds) ≡ ds
listed [] = refl
listed (d ∷ ds) = ap (λ rest. d ∷ rest) (listed ds)

pub as_list_of : (v : Vec Value Global) (d : Data) → Some (array_view v) ≡ as_array d → as_list d ≡ Some (views v.items)
as_list_of v d is = rw (← is) (ap Some (listed (map view v.items)))

pub no_list_of : (d : Data) → None ≡ as_array d → as_list d ≡ None
no_list_of d is = rw (← is)

-- a test of each
tested : (test : Data → Bool) (s : List Value) → list_all test (views s) ≡ list_all (λ v. test (view v)) s
tested test [] = refl
tested test (v ∷ s) = rw (tested test s)

pub all_there : (test : Data → Bool) (v : Vec Value Global) (d : Data) (s : List Value) (b : Bool) → Some (array_view v) ≡ as_array d
    → s ≡ v.items → b ≡ list_all (λ x. test (view x)) s → (if b then Some (views s) else None) ≡ items_where test (as_list d)
all_there test v d s b is same passed = rw (as_list_of v d is, ← same, tested test s, ← passed)

pub none_there : (test : Data → Bool) (d : Data) → None ≡ as_array d → None ≡ items_where test (as_list d)
none_there test d is = rw (no_list_of d is)

-- what the test of all says of the list
all_some : (test : Data → Bool) (o : Option (List Data)) (items : List Data) → Some items ≡ items_where test o → (o ≡ Some items) × (holds (list_all test) o ≡ true)
all_some test None items e = absurd (let h = e in cc)
all_some test (Some ds) items e = chosen (list_all test ds) refl e
  where
    chosen : (b : Bool) → list_all test ds ≡ b → Some items ≡ (if b then Some ds else None) → (Some ds ≡ Some items) × (list_all test ds ≡ true)
    chosen true t h = (sym h, t)
    chosen false t h = absurd (let g = h in cc)

pub listed_items : (test : Data → Bool) (o : Option (List Data)) (items : List Data) → Some items ≡ items_where test o → o ≡ Some items
listed_items test o items e = (all_some test o items e).0

pub listed_type : (test : Data → Bool) (o : Option (List Data)) (items : List Data) → Some items ≡ items_where test o → holds (list_all test) o ≡ true
listed_type test o items e = (all_some test o items e).1

pub listed_all : (test : Data → Bool) (o : Option (List Data)) (items : List Data) → Some items ≡ items_where test o → list_all test items ≡ true
listed_all test o items e = rw (all_some test o items e).0 at (all_some test o items e).1

pub unlisted_type : (test : Data → Bool) (o : Option (List Data)) → None ≡ items_where test o → holds (list_all test) o ≡ false
unlisted_type test None e = refl
unlisted_type test (Some ds) e = chosen (list_all test ds) refl e
  where
    chosen : (b : Bool) → list_all test ds ≡ b → None ≡ (if b then Some ds else None) → list_all test ds ≡ false
    chosen true t h = absurd (let g = h in cc)
    chosen false t h = t

-- the items at a key
pub items_there : (key : List ℕ) (table : Members) (d : Data) (items : List Data) → Some d ≡ get_member key table → as_list d ≡ Some items → items ≡ items_at key table
unfolding items_at
items_there key table d items there is = rw (← there, is)

-- the texts of a list that may be left out
pub no_texts : (key : List ℕ) (table : Members) → None ≡ get_member key table → None ≡ texts_if_any key table
unfolding texts_if_any
no_texts key table absent = rw (← absent) refl

pub some_texts : (key : List ℕ) (table : Members) (items : List Data) → key_fault (required key texts) table ≡ None → items ≡ items_at key table
    → Some (texts_of items) ≡ texts_if_any key table
unfolding key_fault items_at texts_if_any
some_texts key table items none is = by_value (get_member key table) none is
  where
    by_list : (o : Option (List Data)) (f g : SettingsFault) → (if not (holds (list_all is_text) o) then Some f else if not true then Some g else None) ≡ None
        → items ≡ unwrap_or o [] → Some (texts_of items) ≡ option_map (λ ds. texts_of ds) o
    by_list None f g right same = absurd (let h = right in cc)
    by_list (Some ds) f g right same = ap (λ l. Some (texts_of l)) same

    by_value : (o : Option Data) → value_fault (required key texts) o ≡ None → items ≡ unwrap_or (option_and_then as_list o) []
        → Some (texts_of items) ≡ option_map (λ ds. texts_of ds) (option_and_then as_list o)
    by_value None right same = absurd (let h = right in cc)
    by_value (Some d) right same = by_list (as_list d) (wrong_type key) (out_of_range key) right same

-- the rules so far: what the rest of the texts spell goes after them
pub record RulesSoFar (all rest : List (List ℕ)) (list : List Rule) : Type 0 where
  pub forth : (others : List Rule) → AreRules rest others → AreRules all (list ++ others)
  pub back : (whole : List Rule) → AreRules all whole → (others : List Rule) × (whole ≡ list ++ others) × AreRules rest others

pub no_rules_yet : (all : List (List ℕ)) → RulesSoFar all all []
no_rules_yet all = record { forth = λ others h. h; back = λ whole h. (whole, refl, h) }

split_rules : (all rest : List (List ℕ)) (text : List ℕ) (list : List Rule) (rule : Rule) → ((r : Rule) → IsRuleText text r → Some rule ≡ Some r)
    → (whole others : List Rule) → whole ≡ list ++ others → AreRules (text ∷ rest) others
    → (later : List Rule) × (whole ≡ (list ++ rule ∷ []) ++ later) × AreRules rest later
split_rules all rest text list rule only whole [] same are = absurd are
split_rules all rest text list rule only whole (r ∷ others) same are =
    let first : Some rule ≡ Some r = only r are.0 in
    let is : rule ≡ r = cc in
    (others, same ∙ rw (← is) (sym (append_assoc list (rule ∷ []) others)), are.1)

pub one_rule_more : (all rest : List (List ℕ)) (text : List ℕ) (list : List Rule) (rule : Rule) → RulesSoFar all (text ∷ rest) list
    → IsRuleText text rule → ((r : Rule) → IsRuleText text r → Some rule ≡ Some r) → RulesSoFar all rest (list ++ rule ∷ [])
one_rule_more all rest text list rule far is only = record {
  forth = λ others are. rw (append_assoc list (rule ∷ []) others) (far.forth (rule ∷ others) (is, are));
  back = λ whole are. let split = far.back whole are in split_rules all rest text list rule only whole split.0 split.1 split.2;
}

last_rules : (list whole others : List Rule) → whole ≡ list ++ others → AreRules [] others → whole ≡ list
last_rules list whole [] same are = same ∙ simp append-nil
last_rules list whole (r ∷ others) same are = absurd are

pub all_rules : (all : List (List ℕ)) (list : List Rule) → RulesSoFar all [] list → AreRules all list
all_rules all list far = let e : list ++ [] ≡ list = append-nil list in rw e at (far.forth [] tt)

pub no_other_rules : (all : List (List ℕ)) (list : List Rule) → RulesSoFar all [] list → (others : List Rule) → AreRules all others → others ≡ list
no_other_rules all list far others are = let split = far.back others are in last_rules list others split.0 split.1 split.2

no_first : (text : List ℕ) (rest : List (List ℕ)) (others : List Rule) → ((r : Rule) → IsRuleText text r → None ≡ Some r) → ¬ AreRules (text ∷ rest) others
no_first text rest [] none are = are
no_first text rest (r ∷ others) none are = let e = none r are.0 in cc

pub not_all_rules : (all rest : List (List ℕ)) (text : List ℕ) (list : List Rule) → RulesSoFar all (text ∷ rest) list
    → ((r : Rule) → IsRuleText text r → None ≡ Some r) → (others : List Rule) → ¬ AreRules all others
not_all_rules all rest text list far none others are = let split = far.back others are in no_first text rest split.0 none split.2

-- the texts of one item more
pub texts_more : (s : List Value) (i : ℕ) (v : Value) (text : List ℕ) → i < length s → v ≡ get_or s i v → Some text ≡ as_str (view v)
    → texts_of (views (drop i s)) ≡ text ∷ texts_of (views (drop (i + 1) s))
texts_more s i v text within is text_is = rw (drop_more s i v within, ← is, ← text_is)

pub texts_same : (s : List Value) (i : ℕ) (v : Value) → i < length s → v ≡ get_or s i v → None ≡ as_str (view v)
    → texts_of (views (drop i s)) ≡ texts_of (views (drop (i + 1) s))
texts_same s i v within is none = rw (drop_more s i v within, ← is, ← none)

pub texts_end : (s : List Value) (i : ℕ) → length s ≤ i → texts_of (views (drop i s)) ≡ []
texts_end s i past = rw (drop_all i s past)

-- MAC addresses: whether the rest of the items are all that, and what they are
abbrev pub is_address_item : Data → Bool
is_address_item d = holds is_address (as_str d)

-- the rest of the items decide whether all are addresses, and theirs go after those so far
abbrev pub AddressesSoFar : List Data → List Data → List (List ℕ) → Type 0
AddressesSoFar all rest list = (list_all is_address_item all ≡ list_all is_address_item rest) × (macs_of all ≡ list ++ macs_of rest)

-- the text of an item that is an address
address_text : (o : Option (List ℕ)) (mac : List ℕ) → Some mac ≡ option_and_then mac_of_text o → (text : List ℕ) × (Some text ≡ o) × (Some mac ≡ mac_of_text text)
address_text None mac read = absurd (let h = read in cc)
address_text (Some text) mac read = (text, refl, read)

no_address : (o : Option (List ℕ)) → None ≡ option_and_then mac_of_text o → holds is_address o ≡ false
no_address None read = refl
no_address (Some text) read = rw (← read)

pub one_address_more : (all : List Data) (s : List Value) (i : ℕ) (v : Value) (mac : List ℕ) (list : List (List ℕ)) → AddressesSoFar all (views (drop i s)) list
    → i < length s → v ≡ get_or s i v → Some mac ≡ option_and_then mac_of_text (as_str (view v)) → AddressesSoFar all (views (drop (i + 1) s)) (list ++ mac ∷ [])
one_address_more all s i v mac list far within is read =
    let there = address_text (as_str (view v)) mac read in (
      far.0 ∙ rw (drop_more s i v within, ← is, ← there.1, ← there.2) refl,
      far.1 ∙ rw (drop_more s i v within, ← is, ← there.1, ← there.2) (sym (append_assoc list (mac ∷ []) (macs_of (views (drop (i + 1) s))))),
    )

pub no_address_there : (all : List Data) (s : List Value) (i : ℕ) (v : Value) (list : List (List ℕ)) → AddressesSoFar all (views (drop i s)) list
    → i < length s → v ≡ get_or s i v → None ≡ option_and_then mac_of_text (as_str (view v)) → list_all is_address_item all ≡ false
no_address_there all s i v list far within is read = far.0 ∙ rw (drop_more s i v within, ← is, no_address (as_str (view v)) read) refl

pub all_addresses : (all : List Data) (s : List Value) (i : ℕ) (list : List (List ℕ)) → AddressesSoFar all (views (drop i s)) list → length s ≤ i
    → (list_all is_address_item all ≡ true) × (list ≡ macs_of all)
all_addresses all s i list far past =
    let far = rw (drop_all i s past) at far in (far.0, sym (far.1 ∙ append-nil list))

-- how many items there are
pub counted : (most : ℕ) (d : Data) (s : List Value) (b : Bool) → as_list d ≡ Some (views s) → b ≡ is_between 1 most (length s)
    → holds (λ items. is_between 1 most (length items)) (as_list d) ≡ b
counted most d s b is passed = rw is (rw (length-map s view) (sym passed))
