-- A service of a table: its kind, its filter, and what is wrong with it.
use Rattle.std.proofs.Common.{◌≡◌, ℕ, Bool, true, false, List, [], ◌∷◌, Option, Some, None, codes, bytes_eq, if◌then◌else◌, ◌&&◌, Result, Ok, Err, refl, sym, ◌∙◌, ap, ap₂, subst}
use Rattle.std.proofs.lemmas.Bool.{and_parts}
use Rattle.std.specs.List.{filter_map}
use Rattle.toml.specs.Data.{Data, Members}
use Rattle.addr_rules.specs.Texts.{mac_of_text}
use Rattle.addr_rules.specs.declared.rules.Rule.{Rule}
use Rattle.plan_spec.specs.Plan.{WindowFields, ServiceFields, ServiceRules, ule, mpe, fec, gse}
use Rattle.plan_spec.specs.Checks.{is_service_name, is_gse}
use Rattle.settings_spec.specs.Keys.{SettingsFault, key_fault, table_fault, number_or, flag_or, text_or, items_at, texts_at}
use Rattle.settings_spec.specs.Settings.{kind_key, mode_key, ule_keys, mpe_keys, indexed_keys, sliced_keys, gse_keys, kind_text, is_sliced_mode, kind_fault, fec_fault, service_fault, window_of, kind_of, service_of, urgent_texts, service_texts}
use Rattle.settings_spec.specs.Refusal.{AreRules}
use Rattle.plan_spec.specs.Valid.{is_valid_kind, has_valid_values}
use Rattle.plan.specs.Parts.{kind_seen, urgent_seen, service_seen}
use Rattle.settings_keys.specs.Lists.{macs_of}
use Rattle.service_plan.specs.Keys.{Faults}
use Rattle.service_plan.specs.Reading.{AnswersOrWants}
use Rattle.service_plan.specs.declared.fault.PlanError.{PlanError}
use Rattle.service_plan.specs.Services.{Spells, SpellsService, rules_read, ruled, IsEnded, IsServiceOf, mode_keys}
use Rattle.plan.specs.declared.service.Kind.{Kind}
use Rattle.service_plan.proofs.KeyLemmas.{first_later}
use Rattle.service_plan.specs.declared.service_draft.ServiceDraft.{ServiceDraft}

-- the kinds
pub kind_of_ule : (m : Members) (pid : ℕ) (address packing : Bool) → kind_text m ≡ codes "ule" → pid ≡ number_or 0 (codes "pid") m
    → address ≡ flag_or true (codes "address") m → packing ≡ flag_or true (codes "packing") m → ule pid address packing ≡ kind_of m
unfolding kind_of
kind_of_ule m pid address packing word p a k = rw (word, ← p, ← a, ← k)

pub kind_of_mpe : (m : Members) (pid : ℕ) → kind_text m ≡ codes "mpe" → pid ≡ number_or 0 (codes "pid") m → mpe pid ≡ kind_of m
unfolding kind_of
kind_of_mpe m pid word p = rw (word, ← p)

pub kind_of_fec : (m : Members) (pid rows parity : ℕ) (sliced : Bool) (window : Option WindowFields) → kind_text m ≡ codes "fec" → is_sliced_mode m ≡ sliced
    → pid ≡ number_or 0 (codes "pid") m → rows ≡ number_or 1024 (codes "rows") m → parity ≡ number_or 64 (codes "parity") m
    → window ≡ (if sliced then Some (window_of m) else None) → fec pid rows parity window ≡ kind_of m
unfolding kind_of
kind_of_fec m pid rows parity sliced window word mode p r q w = rw (word, mode, ← p, ← r, ← q) (ap (λ (o : Option WindowFields). fec pid rows parity o) w)

pub kind_of_gse : (m : Members) (isi : ℕ) (address : Bool) → bytes_eq (kind_text m) (codes "ule") ≡ false → bytes_eq (kind_text m) (codes "mpe") ≡ false
    → bytes_eq (kind_text m) (codes "fec") ≡ false → isi ≡ number_or 0 (codes "isi") m → address ≡ flag_or true (codes "address") m → gse isi address ≡ kind_of m
unfolding kind_of
kind_of_gse m isi address u p f i a = rw (u, p, f, ← i, ← a)

-- the filter: frames have none
abbrev pub filter_of : Members → List (List ℕ)
filter_of m = if bytes_eq (kind_text m) (codes "fec") then [] else filter_map mac_of_text (texts_at (codes "filter") m)

pub filter_of_ule : (m : Members) (list : List (List ℕ)) → kind_text m ≡ codes "ule" → list ≡ macs_of (items_at (codes "filter") m) → list ≡ filter_of m
filter_of_ule m list word is = rw word is

pub filter_of_mpe : (m : Members) (list : List (List ℕ)) → kind_text m ≡ codes "mpe" → list ≡ macs_of (items_at (codes "filter") m) → list ≡ filter_of m
filter_of_mpe m list word is = rw word is

pub filter_of_gse : (m : Members) (list : List (List ℕ)) → bytes_eq (kind_text m) (codes "fec") ≡ false → list ≡ macs_of (items_at (codes "filter") m) → list ≡ filter_of m
filter_of_gse m list word is = rw word is

pub filter_of_fec : (m : Members) (list : List (List ℕ)) → kind_text m ≡ codes "fec" → list ≡ [] → list ≡ filter_of m
filter_of_fec m list word is = rw word is

-- the rules of a service, where it has no urgent ones, and where it has some
abbrev rules_with : List Rule → List Rule → ServiceRules Rule
rules_with rules urgent = record { rules = rules; urgent = urgent }

none_spelled : (rules : List Rule) → AreRules [] rules → rules ≡ []
none_spelled [] are = refl
none_spelled (rule ∷ rules) are = absurd are

one_list : (texts : ServiceRules (List ℕ)) (own : ServiceRules Rule) (spelled : Bool) → Spells texts.rules own.rules spelled → texts.urgent ≡ [] → own.urgent ≡ []
    → SpellsService texts own spelled
one_list texts own spelled rules t o = record {
  all = λ yes. record { rules = rules.all yes; urgent = rw (t, o) tt };
  only = λ others are.
      let found = rules.only others.rules are.rules in
      (found.0, ap₂ rules_with found.1 (none_spelled others.urgent (rw t at are.urgent) ∙ sym o));
}

both_lists : (texts : ServiceRules (List ℕ)) (own : ServiceRules Rule) (spelled urgent : Bool) → Spells texts.rules own.rules spelled → Spells texts.urgent own.urgent urgent
    → SpellsService texts own (spelled && urgent)
both_lists texts own spelled urgent rules others = record {
  all = λ yes. let parts = and_parts spelled urgent yes in record { rules = rules.all parts.0; urgent = others.all parts.1 };
  only = λ pair are.
      let first = rules.only pair.rules are.rules in
      let second = others.only pair.urgent are.urgent in
      (rw (first.0, second.0), ap₂ rules_with first.1 second.1);
}

-- a service that was read to its end
module _ (m : Members) (place : ℕ) (name : List ℕ) (kind : Kind) (items : List Data) (filter : List (List ℕ)) (draft : ServiceDraft)
    (ended : IsEnded m place name kind items filter draft) (n : name ≡ text_or [] (codes "name") m) (k : kind_seen kind ≡ kind_of m) (f : filter ≡ filter_of m) where
  urgent_is : urgent_seen draft.service.kind ≡ urgent_seen kind
  urgent_is = ap (λ (s : ServiceFields). s.urgent) ended.seen

  ended_seen : service_seen draft.service ≡ ruled (service_of place m) (rules_read draft)
  ended_seen = ended.seen ∙ rw (← n, ← k, ← f, urgent_is)

  ended_valid : is_service_name name ≡ true → is_valid_kind 32 (kind_seen kind) ≡ true → has_valid_values 32 (service_seen draft.service) ≡ true
  ended_valid named valid =
      let id : draft.service.service_id ≡ number_or 1 (codes "service_id") m = ap (λ (s : ServiceFields). s.service_id) ended.seen in
      let tag : draft.service.component_tag ≡ number_or place (codes "component_tag") m = ap (λ (s : ServiceFields). s.component_tag) ended.seen in
      subst (λ (s : ServiceFields). has_valid_values 32 s ≡ true) (sym ended.seen) (rw (named, valid, rw id at ended.id_in_range, rw tag at ended.tag_in_range))

-- of another kind than GSE packets
pub ended_is_service : (m : Members) (place : ℕ) (name : List ℕ) (kind : Kind) (items : List Data) (filter : List (List ℕ)) (draft : ServiceDraft)
    → IsEnded m place name kind items filter draft → name ≡ text_or [] (codes "name") m → kind_seen kind ≡ kind_of m → items ≡ items_at (codes "rules") m
    → filter ≡ filter_of m → is_service_name name ≡ true → is_valid_kind 32 (kind_seen kind) ≡ true → is_gse (kind_seen kind) ≡ false → urgent_seen kind ≡ []
    → IsServiceOf m place draft
ended_is_service m place name kind items filter draft ended n k i f named valid other none =
    let rules : Spells (texts_at (codes "rules") m) draft.service.rules draft.spelled = rw i at ended.rules in
    let no_texts : urgent_texts m ≡ [] = rw (← k, other) in
    record {
      seen = ended_seen m place name kind items filter draft ended n k f;
      rules = one_list (service_texts m) (rules_read draft) draft.spelled rules no_texts (urgent_is m place name kind items filter draft ended n k f ∙ none);
      valid = ended_valid m place name kind items filter draft ended n k f named valid;
    }

-- of GSE packets, whose urgent rules are read too
pub gse_is_service : (m : Members) (place : ℕ) (name : List ℕ) (kind : Kind) (items : List Data) (filter : List (List ℕ)) (draft : ServiceDraft)
    → IsEnded m place name kind items filter draft → name ≡ text_or [] (codes "name") m → kind_seen kind ≡ kind_of m → items ≡ items_at (codes "rules") m
    → filter ≡ filter_of m → is_service_name name ≡ true → is_valid_kind 32 (kind_seen kind) ≡ true → is_gse (kind_seen kind) ≡ true
    → (urgent all : Bool) → Spells (texts_at (codes "urgent") m) (urgent_seen kind) urgent → all ≡ (draft.spelled && urgent)
    → IsServiceOf m place (record { service = draft.service; spelled = all })
gse_is_service m place name kind items filter draft ended n k i f named valid is urgent all spells both =
    let rules : Spells (texts_at (codes "rules") m) draft.service.rules draft.spelled = rw i at ended.rules in
    let texts : urgent_texts m ≡ texts_at (codes "urgent") m = rw (← k, is) in
    let same : urgent_seen draft.service.kind ≡ urgent_seen kind = urgent_is m place name kind items filter draft ended n k f in
    let others : Spells (urgent_texts m) (urgent_seen draft.service.kind) urgent = rw (texts, same) spells in
    record {
      seen = ended_seen m place name kind items filter draft ended n k f;
      rules = subst (SpellsService (service_texts m) (rules_read draft)) (sym both) (both_lists (service_texts m) (rules_read draft) draft.spelled urgent rules others);
      valid = ended_valid m place name kind items filter draft ended n k f named valid;
    }

-- an answer about one fault is one about an equal fault
pub answers_for : {T : Type 0} (result : Result T PlanError) (a b : Option SettingsFault) (P : T → Type 0) → a ≡ b → AnswersOrWants result b P → AnswersOrWants result a P
answers_for result a b P same answers = subst (λ (fault : Option SettingsFault). AnswersOrWants result fault P) (sym same) answers

-- and what is so of the draft follows
pub answers_as : (result : Result ServiceDraft PlanError) (a b : Option SettingsFault) (P Q : ServiceDraft → Type 0) → a ≡ b → ((draft : ServiceDraft) → P draft → Q draft)
    → AnswersOrWants result b P → AnswersOrWants result a Q
answers_as (Ok draft) a b P Q same follows answers = (same ∙ answers.0, follows draft answers.1)
answers_as (Err error) a b P Q same follows answers = subst (λ (fault : Option SettingsFault). Faults error fault) (sym same) answers

-- what is wrong with a service, by its kind
pub service_fault_ule : (m : Members) → key_fault kind_key m ≡ None → kind_text m ≡ codes "ule" → service_fault m ≡ table_fault ule_keys m
unfolding service_fault kind_fault
service_fault_ule m none word = rw (none, word)

pub service_fault_mpe : (m : Members) → key_fault kind_key m ≡ None → kind_text m ≡ codes "mpe" → service_fault m ≡ table_fault mpe_keys m
unfolding service_fault kind_fault
service_fault_mpe m none word = rw (none, word)

pub service_fault_fec : (m : Members) → key_fault kind_key m ≡ None → kind_text m ≡ codes "fec" → service_fault m ≡ fec_fault m
unfolding service_fault kind_fault
service_fault_fec m none word = rw (none, word)

pub service_fault_gse : (m : Members) → key_fault kind_key m ≡ None → bytes_eq (kind_text m) (codes "ule") ≡ false → bytes_eq (kind_text m) (codes "mpe") ≡ false
    → bytes_eq (kind_text m) (codes "fec") ≡ false → service_fault m ≡ table_fault gse_keys m
unfolding service_fault kind_fault
service_fault_gse m none u p f = rw (none, u, p, f)

pub service_fault_here : (m : Members) (f : SettingsFault) → key_fault kind_key m ≡ Some f → service_fault m ≡ Some f
unfolding service_fault
service_fault_here m f here = rw here

pub sliced_said : (m : Members) (word : List ℕ) (b : Bool) → word ≡ text_or (codes "indexed") (codes "mode") m → b ≡ bytes_eq word (codes "sliced") → is_sliced_mode m ≡ b
unfolding is_sliced_mode
sliced_said m word b is said = rw (← is) (sym said)

pub mode_later : (m : Members) (b : Bool) (f : Option SettingsFault) → key_fault mode_key m ≡ None → is_sliced_mode m ≡ b → table_fault (mode_keys b) m ≡ f → fec_fault m ≡ f
mode_later m true f none mode later = first_later (key_fault mode_key m) (if is_sliced_mode m then table_fault sliced_keys m else table_fault indexed_keys m) f none (rw mode later)
mode_later m false f none mode later = first_later (key_fault mode_key m) (if is_sliced_mode m then table_fault sliced_keys m else table_fault indexed_keys m) f none (rw mode later)
