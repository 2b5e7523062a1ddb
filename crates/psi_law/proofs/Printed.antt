-- The rules of a service among those of a plan, and their lines.
use Rattle.std.proofs.Common.{◌≡◌, ℕ, List, ◌∷◌, ◌++◌, map, flat_map, ap, ◌∙◌, Some}
use Rattle.std.proofs.lemmas.List.{map-append}
use Rattle.std.proofs.lemmas.Grind.{flat_map-append}
use Rattle.ts_spec.specs.Recording.{Record}
use Rattle.plan_spec.specs.Plan.{ServiceFields}
use Rattle.plan_spec.specs.Signalling.{entry_of}
use Rattle.psi_spec.specs.Named.{NamedRule, pid_named, rules_by, rules_of_entry}
use Rattle.psi_tables.specs.Text.{find_text, IsFindText}
use Rattle.psi_law.specs.Printed.{PrintsEntry}

module _ (records : List Record) (stream rate : ℕ) where
  abbrev pub named_of : List ServiceFields → List NamedRule
  named_of services = flat_map (rules_of_entry records stream) (map (entry_of rate) services)

  -- those of a service stand together, with its PID
  rules_within : (service : ServiceFields) (pid : ℕ) (earlier later : List ServiceFields) → pid_named records stream service.service_id service.component_tag ≡ Some pid
      → named_of (earlier ++ service ∷ later) ≡ named_of earlier ++ (rules_by (entry_of rate service) (Some pid) ++ named_of later)
  rules_within service pid earlier later found =
      ap (flat_map (rules_of_entry records stream)) (map-append (entry_of rate) earlier (service ∷ later))
      ∙ flat_map-append (rules_of_entry records stream) (map (entry_of rate) earlier) (map (entry_of rate) (service ∷ later))
      ∙ ap (λ o. named_of earlier ++ (rules_by (entry_of rate service) o ++ named_of later)) found

  pub prints_service : (int_pid : ℕ) (text : List ℕ) (service : ServiceFields) (pid : ℕ) (all earlier later : List ServiceFields) → all ≡ earlier ++ service ∷ later
      → pid_named records stream service.service_id service.component_tag ≡ Some pid → (is : IsFindText int_pid records text) → is.rules ≡ named_of all
      → PrintsEntry (entry_of rate service) pid text
  prints_service int_pid text service pid all earlier later parts found is rules_are = record {
    before = named_of earlier;
    after = named_of later;
    text_is = is.text_is ∙ ap find_text (rules_are ∙ ap named_of parts ∙ rules_within service pid earlier later found);
  }
