-- A plan of its tables.
use Rattle.std.proofs.Common.{◌≡◌, ℕ, ◌≤◌, Bool, true, false, ◌&&◌, List, length, map, Option, Some, None, option_map, nat_le, codes, if◌then◌else◌, refl, ap, sym, ◌∙◌, subst, arith}
use Rattle.std.specs.List.{AllZip}
use Rattle.std.proofs.lemmas.Bool.{and_parts}
use Rattle.std.proofs.lemmas.Bool.Decides.{nat_tests}
use Rattle.toml.specs.Data.{Members}
use Rattle.ts_spec.specs.Recording.{RecordingForm}
use Rattle.addr_rules.specs.declared.rules.Rule.{Rule}
use Rattle.plan_spec.specs.Plan.{ServiceFields, ServiceRules, IntFields, ChangeFields, PlanFields, services_with, with_rules}
use Rattle.plan_spec.specs.Checks.{is_between}
use Rattle.plan_spec.specs.Valid.{most_services}
use Rattle.settings_spec.specs.Keys.{tables, text_or, number_or, table_at, tables_at}
use Rattle.settings_spec.specs.Changes.{ChangeValues, change_values, without_rules, changes_by, with_changes}
use Rattle.settings_spec.specs.Settings.{says_baseband, service_key, recording_of, int_of, services_of, changes_at, plan_of, rule_texts}
use Rattle.settings_spec.specs.Refusal.{AreRuleLists, IsSpelledChange}
use Rattle.plan.specs.Parts.{form_of, int_seen, services_seen, changes_seen}
use Rattle.plan.specs.declared.plan.IntPlan.{IntPlan}
use Rattle.settings_keys.specs.declared.key.Key.TheVariants as key
use Rattle.service_plan.specs.Reading.{rule_for}
use Rattle.service_plan.specs.Top.{AreTopValues}
use Rattle.service_plan.specs.Drafts.{rules_seen, texts_of_rules, AreServicesOf}
use Rattle.service_plan.specs.Changes.{AreChangesOf}
use Rattle.service_plan.specs.Plans.{IsDraftOf}
use Rattle.service_plan.specs.declared.top.TopValues.{TopValues}
use Rattle.service_plan.specs.declared.services.ServicesDraft.{ServicesDraft}
use Rattle.service_plan.specs.declared.changes.ChangesDraft.{ChangesDraft}

abbrev plan_from : RecordingForm → ℕ → ℕ → Option ℕ → Option IntFields → List ServiceFields → List ChangeFields → PlanFields
plan_from recording rate cycle frame table services changes =
    record { recording = recording; packet_rate = rate; cycle = cycle; frame_bytes = frame; table = table; services = services; version = 0; changes = changes }

-- the key of the services asks for as many as the carrier takes
pub service_key_is : (top : Members) (b : Bool) (n : ℕ) → n ≡ most_services b → b ≡ says_baseband top → rule_for key.Service true (tables n) ≡ service_key top
service_key_is top b n most said = rw (most, said)

plan_of_parts : (top : Members) (recording : RecordingForm) (rate cycle : ℕ) (frame : Option ℕ) (table : Option IntFields) (services : List ServiceFields) (lists : List (ServiceRules Rule))
    (changes : List ChangeFields) (values : List (ChangeValues Rule))
    → recording ≡ recording_of (text_or (codes "plain") (codes "recording") top) → rate ≡ number_or 10000 (codes "packet_rate") top
    → cycle ≡ number_or 20000 (codes "cycle") top → frame ≡ (if says_baseband top then Some (number_or 2000 (codes "frame_bytes") top) else None)
    → table ≡ option_map int_of (table_at (codes "int") top) → services ≡ services_with (services_of 0 (tables_at (codes "service") top)) lists
    → changes ≡ changes_by services values → plan_from recording rate cycle frame table services changes ≡ with_changes (with_rules (plan_of top) lists) values
unfolding plan_of
plan_of_parts top recording rate cycle frame table services lists changes values r p c f t s h = rw (h, r, p, c, f, t, s) refl

frame_said : (top : Members) (b : Bool) (bytes : ℕ) → b ≡ says_baseband top → bytes ≡ number_or 2000 (codes "frame_bytes") top
    → (if b then Some bytes else None) ≡ (if says_baseband top then Some (number_or 2000 (codes "frame_bytes") top) else None)
frame_said top b bytes said is = rw (said, is)

-- the texts of a table
texts_of_services : (top : Members) → rule_texts top ≡ texts_of_rules (tables_at (codes "service") top)
unfolding rule_texts
texts_of_services top = refl

texts_of_changes : (top : Members) → changes_at top ≡ map change_values (tables_at (codes "change") top)
unfolding changes_at
texts_of_changes top = refl

at_least : (least most n : ℕ) → is_between least most n ≡ true → least ≤ n
at_least least most n h = let (low, high) = and_parts (nat_le least n) (nat_le n most) h in grind (arith, nat_tests)

both_true : (a b : Bool) → a ≡ true → b ≡ true → (a && b) ≡ true
both_true a b x y = rw (x, y)

pub few_services : (b : Bool) (n most : ℕ) → most ≡ most_services b → n ≤ most → n ≤ 64
few_services true n most is within = omega (arith, is, within)
few_services false n most is within = omega (arith, is, within)

-- a draft of its parts
pub draft_is : (top : Members) (values : TopValues) (frame : Option ℕ) (table : Option IntPlan) (services : ServicesDraft) (changes : ChangesDraft) (spelled : Bool)
    → AreTopValues top values → frame ≡ (if values.baseband then Some values.frame_bytes else None) → option_map int_seen table ≡ option_map int_of (table_at (codes "int") top)
    → AreServicesOf (tables_at (codes "service") top) services → AreChangesOf (services_seen services.services) (tables_at (codes "change") top) changes
    → length services.services ≤ 64 → spelled ≡ (services.spelled && changes.spelled)
    → IsDraftOf top (record { recording = values.recording; packet_rate = values.packet_rate; cycle = values.cycle; frame_bytes = frame; table = table; services = services.services; changes = changes.changes; spelled = spelled })
draft_is top values frame table services changes spelled top_is frame_is table_is services_are changes_are few spelled_is = record {
  changes = changes_are.values;
  seen = plan_of_parts top (form_of values.recording) values.packet_rate values.cycle frame (option_map int_seen table) (services_seen services.services) (rules_seen services.services)
      (changes_seen changes.changes) changes_are.values top_is.recording top_is.packet_rate top_is.cycle
      (frame_is ∙ frame_said top values.baseband values.frame_bytes top_is.baseband top_is.frame_bytes) table_is services_are.seen changes_are.seen;
  same = changes_are.same ∙ ap (λ (l : List (ChangeValues (List ℕ))). map without_rules l) (sym (texts_of_changes top));
  spelled = λ yes.
      let parts = and_parts services.spelled changes.spelled (sym spelled_is ∙ yes) in
      record {
        of_services = subst (λ texts. AreRuleLists texts (rules_seen services.services)) (sym (texts_of_services top)) (services_are.rules.all parts.0);
        of_changes = subst (λ texts. AllZip IsSpelledChange texts changes_are.values) (sym (texts_of_changes top)) (changes_are.read.all parts.1);
      };
  only = λ lists others are.
      let of_services = services_are.rules.only lists (subst (λ texts. AreRuleLists texts lists) (texts_of_services top) are.of_services) in
      let of_changes = changes_are.read.only others (subst (λ texts. AllZip IsSpelledChange texts others) (texts_of_changes top) are.of_changes) in
      (spelled_is ∙ both_true services.spelled changes.spelled of_services.0 of_changes.0, (of_services.1, of_changes.1));
  rate = at_least 1 1000000 values.packet_rate top_is.rate_in_range;
  count = few;
}
