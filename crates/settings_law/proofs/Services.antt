-- A service of accepted settings has values in their ranges, and an address of six bytes.
use Rattle.std.proofs.Common.{◌≡◌, inl, inr, ℕ, zero, suc, ◌+◌, ◌≤◌, Bool, true, false, cond, ◌&&◌, leb, List, [], ◌∷◌, map, Option, Some, None, codes, bytes_eq, refl, arith, le-leb}
use Rattle.std.specs.Prelude.{All}
use Rattle.std.specs.List.{list_all}
use Rattle.toml.specs.Data.{Members}
use Rattle.wire_spec.specs.Bytes.{AreBytes}
use Rattle.addr_rules.specs.Macs.{broadcast_mac}
use Rattle.addr_rules.specs.Texts.{bit_count}
use Rattle.addr_rules.specs.declared.rules.Rule.{Rule}
use Rattle.int_spec.specs.Table.{IsRule}
use Rattle.plan_spec.specs.Plan.{WindowFields, KindFields, ule, mpe, fec, gse, ServiceFields, ServiceRules, services_with}
use Rattle.plan_spec.specs.Checks.{is_between, is_row_count, is_service_name}
use Rattle.settings_spec.specs.Keys.{range, row_count, address_text, KeyRule, optional, required, key_fault, table_fault, text_or, number_or, flag_or}
use Rattle.settings_spec.specs.Settings.{name_key, kind_key, pid_key, mode_key, ule_keys, mpe_keys, indexed_keys, sliced_keys, gse_keys, kind_text, is_sliced_mode, fec_fault, kind_fault, service_fault, services_fault, window_of, kind_of, service_of, services_of}
use Rattle.settings_spec.specs.Refusal.{AreRules}
use Rattle.plan_spec.specs.Valid.{is_valid_window, is_valid_kind, is_valid_rule, has_valid_values}
use Rattle.plan_spec.specs.Bytes.{IsMac}
use Rattle.settings_law.proofs.Addresses.{rule_is}
use Rattle.settings_law.proofs.Keys.{first_none, key_of_table, number_holds, number_between, name_holds, address_holds}

-- tests that hold together
pub both_true : (a b : Bool) → a ≡ true → b ≡ true → (a && b) ≡ true
both_true true true is_a is_b = refl
both_true true false is_a is_b = absurd (cc)
both_true false b is_a is_b = absurd (cc)

-- The keys that each kind has.

abbrev unicast_key : KeyRule
unicast_key = optional (codes "unicast") address_text

abbrev service_id_key : KeyRule
service_id_key = optional (codes "service_id") (range 0 65535)

abbrev tag_key : KeyRule
tag_key = optional (codes "component_tag") (range 0 255)

-- nothing is wrong at them
record CommonKeys (m : Members) : Type 0 where
  pub name : key_fault name_key m ≡ None
  pub unicast : key_fault unicast_key m ≡ None
  pub service_id : key_fault service_id_key m ≡ None
  pub tag : key_fault tag_key m ≡ None

-- a service of the kind's keys has a kind in its ranges, and these keys
abbrev Holds : KindFields → Members → Type 0
Holds kind m = (is_valid_kind 32 kind ≡ true) × CommonKeys m

pid_between : (m : Members) → key_fault pid_key m ≡ None → is_between 32 8190 (number_or 0 (codes "pid") m) ≡ true
pid_between m none = number_between 32 8190 0 (codes "pid") true m none (λ never. absurd (cc))

ule_holds : (m : Members) → table_fault ule_keys m ≡ None → Holds (ule (number_or 0 (codes "pid") m) (flag_or true (codes "address") m) (flag_or true (codes "packing") m)) m
ule_holds m none = (
  pid_between m (key_of_table ule_keys pid_key m none (inr (inr (inl refl)))),
  record {
    name = key_of_table ule_keys name_key m none (inl refl);
    unicast = key_of_table ule_keys unicast_key m none (inr (inr (inr (inr (inr (inr (inr (inl refl))))))));
    service_id = key_of_table ule_keys service_id_key m none (inr (inr (inr (inr (inr (inr (inr (inr (inl refl)))))))));
    tag = key_of_table ule_keys tag_key m none (inr (inr (inr (inr (inr (inr (inr (inr (inr (inl refl))))))))));
  },
)

mpe_holds : (m : Members) → table_fault mpe_keys m ≡ None → Holds (mpe (number_or 0 (codes "pid") m)) m
mpe_holds m none = (
  pid_between m (key_of_table mpe_keys pid_key m none (inr (inr (inl refl)))),
  record {
    name = key_of_table mpe_keys name_key m none (inl refl);
    unicast = key_of_table mpe_keys unicast_key m none (inr (inr (inr (inr (inr (inl refl))))));
    service_id = key_of_table mpe_keys service_id_key m none (inr (inr (inr (inr (inr (inr (inl refl)))))));
    tag = key_of_table mpe_keys tag_key m none (inr (inr (inr (inr (inr (inr (inr (inl refl))))))));
  },
)

gse_holds : (m : Members) → table_fault gse_keys m ≡ None → Holds (gse (number_or 0 (codes "isi") m) (flag_or true (codes "address") m)) m
gse_holds m none = (
  number_between 0 255 0 (codes "isi") true m (key_of_table gse_keys (required (codes "isi") (range 0 255)) m none (inr (inr (inl refl)))) (λ never. absurd (cc)),
  record {
    name = key_of_table gse_keys name_key m none (inl refl);
    unicast = key_of_table gse_keys unicast_key m none (inr (inr (inr (inr (inr (inr (inr (inl refl))))))));
    service_id = key_of_table gse_keys service_id_key m none (inr (inr (inr (inr (inr (inr (inr (inr (inl refl)))))))));
    tag = key_of_table gse_keys tag_key m none (inr (inr (inr (inr (inr (inr (inr (inr (inr (inl refl))))))))));
  },
)

-- rows, parity and window of frames
rows_hold : (m : Members) → key_fault (optional (codes "rows") row_count) m ≡ None → is_row_count (number_or 1024 (codes "rows") m) ≡ true
rows_hold m none = number_holds is_row_count row_count (λ d. refl) 1024 (codes "rows") false m none (λ never. refl)

parity_holds : (m : Members) → key_fault (optional (codes "parity") (range 1 64)) m ≡ None → is_between 1 64 (number_or 64 (codes "parity") m) ≡ true
parity_holds m none = number_between 1 64 64 (codes "parity") false m none (λ never. refl)

window_holds : (m : Members) → key_fault (required (codes "window_start") (range 0 999999)) m ≡ None → key_fault (required (codes "window_length") (range 1 1000000)) m ≡ None
    → is_valid_window (Some (window_of m)) ≡ true
window_holds m start size =
    both_true (is_between 0 999999 (number_or 0 (codes "window_start") m)) (is_between 1 1000000 (number_or 0 (codes "window_length") m))
    (number_between 0 999999 0 (codes "window_start") true m start (λ never. absurd (cc)))
    (number_between 1 1000000 0 (codes "window_length") true m size (λ never. absurd (cc)))

frames_hold : (m : Members) (window : Option WindowFields) → key_fault pid_key m ≡ None → key_fault (optional (codes "rows") row_count) m ≡ None
    → key_fault (optional (codes "parity") (range 1 64)) m ≡ None → is_valid_window window ≡ true
    → is_valid_kind 32 (fec (number_or 0 (codes "pid") m) (number_or 1024 (codes "rows") m) (number_or 64 (codes "parity") m) window) ≡ true
frames_hold m window pid rows parity is_window =
    both_true (is_between 32 8190 (number_or 0 (codes "pid") m)) _ (pid_between m pid)
    (both_true (is_row_count (number_or 1024 (codes "rows") m)) _ (rows_hold m rows)
    (both_true (is_between 1 64 (number_or 64 (codes "parity") m)) (is_valid_window window) (parity_holds m parity) is_window))

indexed_holds : (m : Members) → table_fault indexed_keys m ≡ None → Holds (fec (number_or 0 (codes "pid") m) (number_or 1024 (codes "rows") m) (number_or 64 (codes "parity") m) None) m
indexed_holds m none = (
  frames_hold m None (key_of_table indexed_keys pid_key m none (inr (inr (inl refl))))
      (key_of_table indexed_keys (optional (codes "rows") row_count) m none (inr (inr (inr (inr (inl refl))))))
      (key_of_table indexed_keys (optional (codes "parity") (range 1 64)) m none (inr (inr (inr (inr (inr (inl refl))))))) refl,
  record {
    name = key_of_table indexed_keys name_key m none (inl refl);
    unicast = key_of_table indexed_keys unicast_key m none (inr (inr (inr (inr (inr (inr (inr (inl refl))))))));
    service_id = key_of_table indexed_keys service_id_key m none (inr (inr (inr (inr (inr (inr (inr (inr (inl refl)))))))));
    tag = key_of_table indexed_keys tag_key m none (inr (inr (inr (inr (inr (inr (inr (inr (inr (inl refl))))))))));
  },
)

sliced_holds : (m : Members) → table_fault sliced_keys m ≡ None
    → Holds (fec (number_or 0 (codes "pid") m) (number_or 1024 (codes "rows") m) (number_or 64 (codes "parity") m) (Some (window_of m))) m
sliced_holds m none = (
  frames_hold m (Some (window_of m)) (key_of_table sliced_keys pid_key m none (inr (inr (inl refl))))
      (key_of_table sliced_keys (optional (codes "rows") row_count) m none (inr (inr (inr (inr (inl refl))))))
      (key_of_table sliced_keys (optional (codes "parity") (range 1 64)) m none (inr (inr (inr (inr (inr (inl refl)))))))
      (window_holds m (key_of_table sliced_keys (required (codes "window_start") (range 0 999999)) m none (inr (inr (inr (inr (inr (inr (inl refl))))))))
      (key_of_table sliced_keys (required (codes "window_length") (range 1 1000000)) m none (inr (inr (inr (inr (inr (inr (inr (inl refl)))))))))),
  record {
    name = key_of_table sliced_keys name_key m none (inl refl);
    unicast = key_of_table sliced_keys unicast_key m none (inr (inr (inr (inr (inr (inr (inr (inr (inr (inl refl))))))))));
    service_id = key_of_table sliced_keys service_id_key m none (inr (inr (inr (inr (inr (inr (inr (inr (inr (inr (inl refl)))))))))));
    tag = key_of_table sliced_keys tag_key m none (inr (inr (inr (inr (inr (inr (inr (inr (inr (inr (inr (inl refl))))))))))));
  },
)

fec_holds : (m : Members) → fec_fault m ≡ None
    → Holds (fec (number_or 0 (codes "pid") m) (number_or 1024 (codes "rows") m) (number_or 64 (codes "parity") m) (cond (is_sliced_mode m) (Some (window_of m)) None)) m
fec_holds m none =
    by_mode (is_sliced_mode m) (first_none (key_fault mode_key m) (cond (is_sliced_mode m) (table_fault sliced_keys m) (table_fault indexed_keys m)) none).1
  where
    by_mode : (b : Bool) → cond b (table_fault sliced_keys m) (table_fault indexed_keys m) ≡ None
        → Holds (fec (number_or 0 (codes "pid") m) (number_or 1024 (codes "rows") m) (number_or 64 (codes "parity") m) (cond b (Some (window_of m)) None)) m
    by_mode true is = sliced_holds m is
    by_mode false is = indexed_holds m is

-- each kind
kind_holds : (m : Members) → kind_fault m ≡ None → Holds (kind_of m) m
unfolding kind_fault kind_of
kind_holds m none = by_words (bytes_eq (kind_text m) (codes "ule")) (bytes_eq (kind_text m) (codes "mpe")) (bytes_eq (kind_text m) (codes "fec")) none
  where
    by_words : (a b c : Bool) → cond a (table_fault ule_keys m) (cond b (table_fault mpe_keys m) (cond c (fec_fault m) (table_fault gse_keys m))) ≡ None
        → Holds (cond a (ule (number_or 0 (codes "pid") m) (flag_or true (codes "address") m) (flag_or true (codes "packing") m))
        (cond b (mpe (number_or 0 (codes "pid") m))
        (cond c (fec (number_or 0 (codes "pid") m) (number_or 1024 (codes "rows") m) (number_or 64 (codes "parity") m) (cond (is_sliced_mode m) (Some (window_of m)) None))
        (gse (number_or 0 (codes "isi") m) (flag_or true (codes "address") m))))) m
    by_words true b c is = ule_holds m is
    by_words false true c is = mpe_holds m is
    by_words false false true is = fec_holds m is
    by_words false false false is = gse_holds m is

service_holds : (m : Members) → service_fault m ≡ None → Holds (kind_of m) m
unfolding service_fault
service_holds m none = kind_holds m (first_none (key_fault kind_key m) (kind_fault m) none).1

-- The services.

-- the values of a service at one of the first 256 places
pub values_hold : (place : ℕ) (m : Members) → place ≤ 255 → service_fault m ≡ None → has_valid_values 32 (service_of place m) ≡ true
values_hold place m few none =
    let hold = service_holds m none in
    both_true (is_service_name (text_or [] (codes "name") m)) _ (name_holds (codes "name") m hold.1.name)
    (both_true (is_valid_kind 32 (kind_of m)) _ hold.0
    (both_true (is_between 0 65535 (number_or 1 (codes "service_id") m)) (is_between 0 255 (number_or place (codes "component_tag") m))
    (number_between 0 65535 1 (codes "service_id") false m hold.1.service_id (λ never. refl))
    (number_between 0 255 place (codes "component_tag") false m hold.1.tag
    (λ never. both_true (leb 0 place) (leb place 255) (le-leb 0 place (omega arith)) (le-leb place 255 few)))))

-- rules that are spelled are rules
pub rules_hold : (texts : List (List ℕ)) (rules : List Rule) → AreRules texts rules → list_all is_valid_rule rules ≡ true
rules_hold [] [] are = refl
rules_hold [] (rule ∷ rules) are = absurd are
rules_hold (text ∷ texts) [] are = absurd are
rules_hold (text ∷ texts) (rule ∷ rules) are = rw (le-leb rule.slash (bit_count rule.address) are.0.range, are.0.clear, rules_hold texts rules are.1) refl

pub rules_are : (texts : List (List ℕ)) (rules : List Rule) → AreRules texts rules → All IsRule rules
rules_are [] [] are k d less = absurd (omega (arith, less))
rules_are [] (rule ∷ rules) are k d less = absurd are
rules_are (text ∷ texts) [] are k d less = absurd are
rules_are (text ∷ texts) (rule ∷ rules) are zero d less = rule_is text rule are.0
rules_are (text ∷ texts) (rule ∷ rules) are (suc k) d less = rules_are texts rules are.1 k d (omega (arith, less))

-- the address of all receivers
broadcast_is : IsMac broadcast_mac
broadcast_is = record { size = refl; bytes = each }
  where
    each : AreBytes broadcast_mac
    each zero x less = omega arith
    each (suc zero) x less = omega arith
    each (suc (suc zero)) x less = omega arith
    each (suc (suc (suc zero))) x less = omega arith
    each (suc (suc (suc (suc zero)))) x less = omega arith
    each (suc (suc (suc (suc (suc zero))))) x less = omega arith
    each (suc (suc (suc (suc (suc (suc n)))))) x less = absurd (omega (arith, less))

-- the addresses of their receivers
pub unicasts_are : (place : ℕ) (ms : List Members) (lists : List (ServiceRules Rule)) → services_fault ms ≡ None
    → All IsMac (map (λ (service : ServiceFields). service.unicast) (services_with (services_of place ms) lists))
unicasts_are place [] lists none k d less = absurd (omega (arith, less))
unicasts_are place (m ∷ ms) lists none k d less =
    by_lists lists (first_none (service_fault m) (services_fault ms) none) (λ more. unicasts_are (place + 1) ms more) k d less
  where
    by_lists : (rest : List (ServiceRules Rule)) → (service_fault m ≡ None) × (services_fault ms ≡ None)
        → ((more : List (ServiceRules Rule)) → services_fault ms ≡ None → All IsMac (map (λ (service : ServiceFields). service.unicast) (services_with (services_of (place + 1) ms) more)))
        → All IsMac (map (λ (service : ServiceFields). service.unicast) (services_with (services_of place (m ∷ ms)) rest))
    by_lists [] parts later zero d less = address_holds broadcast_mac (codes "unicast") m (service_holds m parts.0).1.unicast broadcast_is
    by_lists [] parts later (suc k) d less = without (services_of (place + 1) ms) (later [] parts.1) k d (omega (arith, less))
      where
        without : (services : List ServiceFields) → All IsMac (map (λ (service : ServiceFields). service.unicast) (services_with services []))
            → All IsMac (map (λ (service : ServiceFields). service.unicast) services)
        without [] all = all
        without (service ∷ services) all = all
    by_lists (rules ∷ rest) parts later zero d less = address_holds broadcast_mac (codes "unicast") m (service_holds m parts.0).1.unicast broadcast_is
    by_lists (rules ∷ rest) parts later (suc k) d less = later rest parts.1 k d (omega (arith, less))
