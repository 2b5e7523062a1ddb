-- The section of the INT that a report shows, section by section.
use Rattle.std.proofs.Common.{◌≡◌, ℕ, ◌<◌, Bool, true, false, cond, eqb, Option, None, Some, List, [], ◌∷◌, ◌++◌, refl, ap, ap₂, sym, ◌∙◌, arith}
use Rattle.std.specs.Prelude.{max, fold, find}
use Rattle.std.specs.Option.{option_or}
use Rattle.std.specs.List.{filter_map, cons_option}
use Rattle.std.proofs.lemmas.Bool.{ne_eqb, eq-eqb, eqb-true, eqb-false}
use Rattle.std.proofs.lemmas.List.Folds.{find-append}
use Rattle.ts_spec.specs.Recording.{Record}
use Rattle.plan_spec.specs.Plan.{PlanFields}
use Rattle.plan_spec.specs.Changes.{has_pid}
use Rattle.plan_spec.specs.InForce.{version_in, version_behind}
use Rattle.reception_spec.specs.Table.{is_int_section, table_sections}
use Rattle.reception_spec.specs.Shown.{says_version, table_section}
use Rattle.reception_law.specs.Shown.{shown_behind}
use Rattle.reception_law.proofs.VersionInForce.{at_end, behind_both, max_first}

-- what is shown, where this version is in force
abbrev shown_at : PlanFields → List (List ℕ) → ℕ → Option (List ℕ)
shown_at plan sections version = cond (eqb version 0) (find is_int_section sections) (find (says_version plan version) sections)

pub shown_is : (plan : PlanFields) (records : List Record) → table_section plan records ≡ shown_behind plan (table_sections plan records)
shown_is plan records = ap (shown_at plan (table_sections plan records)) (at_end plan records)

at_zero : (plan : PlanFields) (sections : List (List ℕ)) (version : ℕ) → version ≡ 0 → shown_at plan sections version ≡ find is_int_section sections
at_zero plan sections version is = ap (λ (b : Bool). cond b (find is_int_section sections) (find (says_version plan version) sections)) (eq-eqb version 0 is)

above_zero : (plan : PlanFields) (sections : List (List ℕ)) (version : ℕ) → 0 < version → shown_at plan sections version ≡ find (says_version plan version) sections
above_zero plan sections version above =
    ap (λ (b : Bool). cond b (find is_int_section sections) (find (says_version plan version) sections)) (ne_eqb version 0 (λ same. omega (arith, same, above)))

-- the version of one section
one_behind : (plan : PlanFields) (section : List ℕ) (version : ℕ) → version_in plan section ≡ Some version → version_behind plan (section ∷ []) ≡ version
one_behind plan section version is = ap (λ (o : Option ℕ). fold max 0 (cons_option o [])) is ∙ first_is version
  where
    first_is : (n : ℕ) → max 0 n ≡ n
    first_is n = omega arith

behind_first : (plan : PlanFields) (section : List ℕ) (sections : List (List ℕ)) → version_behind plan (section ∷ sections) ≡ max (version_behind plan (section ∷ [])) (version_behind plan sections)
behind_first plan section sections = max_first (version_in plan section) (filter_map (version_in plan) sections)

says : (plan : PlanFields) (section : List ℕ) (version : ℕ) → version_in plan section ≡ Some version → says_version plan version section ≡ true
says plan section version is = ap (λ (o : Option ℕ). has_pid o version) is ∙ eq-eqb version version refl

said : (plan : PlanFields) (section : List ℕ) (version : ℕ) → says_version plan version section ≡ true → version_in plan section ≡ Some version
said plan section version is = by_version (version_in plan section) refl is
  where
    by_version : (o : Option ℕ) → version_in plan section ≡ o → has_pid o version ≡ true → o ≡ Some version
    by_version None told has = absurd (cc (has))
    by_version (Some own) told has = ap (λ (n : ℕ). Some n) (eqb-true own version has)

-- no section says a version above that in force
none_says : (plan : PlanFields) (version : ℕ) (sections : List (List ℕ)) → version_behind plan sections < version → find (says_version plan version) sections ≡ None
none_says plan version [] below = refl
none_says plan version (section ∷ sections) below = by_test (says_version plan version section) refl (none_says plan version sections (omega (arith, below, behind_first plan section sections)))
  where
    by_test : (b : Bool) → says_version plan version section ≡ b → find (says_version plan version) sections ≡ None → cond b (Some section) (find (says_version plan version) sections) ≡ None
    by_test true is later =
        absurd (omega (arith, below, behind_first plan section sections, one_behind plan section version (said plan section version is)))
    by_test false is later = later

-- one says the version in force, where it is not 0
one_says : (plan : PlanFields) (version : ℕ) (sections : List (List ℕ)) → version_behind plan sections ≡ version → 0 < version
    → (section : List ℕ) × (find (says_version plan version) sections ≡ Some section)
one_says plan version [] is above = absurd (omega (arith, is, above))
one_says plan version (section ∷ sections) is above = by_test (λ later. one_says plan version sections later above) (says_version plan version section) refl
  where
    Found : Bool → Type 0
    Found b = (found : List ℕ) × (cond b (Some section) (find (says_version plan version) sections) ≡ Some found)

    at_rest : (o : Option ℕ) → version_in plan section ≡ o → says_version plan version section ≡ false → version_behind plan sections ≡ version
    at_rest None told not_said =
        let none : version_behind plan (section ∷ []) ≡ 0 = ap (λ (o : Option ℕ). fold max 0 (cons_option o [])) told in
        omega (arith, is, above, behind_first plan section sections, none)
    at_rest (Some own) told not_said =
        let differs : eqb own version ≡ false = sym (ap (λ (o : Option ℕ). has_pid o version) told) ∙ not_said in
        omega (arith, is, above, behind_first plan section sections, one_behind plan section own told, eqb-false own version differs)

    by_test : (version_behind plan sections ≡ version → (found : List ℕ) × (find (says_version plan version) sections ≡ Some found)) → (b : Bool) → says_version plan version section ≡ b → Found b
    by_test later true told = (section, refl)
    by_test later false told = later (at_rest (version_in plan section) refl told)

-- One section more.

pub shown_raised : (plan : PlanFields) (sections : List (List ℕ)) (section : List ℕ) (version : ℕ) → version_in plan section ≡ Some version → version_behind plan sections < version
    → shown_behind plan (sections ++ section ∷ []) ≡ Some section
shown_raised plan sections section version is above =
    ap (shown_at plan (sections ++ section ∷ [])) in_force
    ∙ above_zero plan (sections ++ section ∷ []) version (omega (arith, above))
    ∙ find-append (says_version plan version) sections (section ∷ [])
    ∙ ap₂ option_or (none_says plan version sections above) (ap (λ (b : Bool). cond b (Some section) None) (says plan section version is))
  where
    in_force : version_behind plan (sections ++ section ∷ []) ≡ version
    in_force = omega (arith, behind_both plan sections (section ∷ []), one_behind plan section version is, above)

pub shown_stays : (plan : PlanFields) (sections : List (List ℕ)) (section : List ℕ) → 0 < version_behind plan sections → version_behind plan (sections ++ section ∷ []) ≡ version_behind plan sections
    → shown_behind plan (sections ++ section ∷ []) ≡ shown_behind plan sections
shown_stays plan sections section above same =
    let found = one_says plan (version_behind plan sections) sections refl above in
    ap (shown_at plan (sections ++ section ∷ [])) same
    ∙ above_zero plan (sections ++ section ∷ []) (version_behind plan sections) above
    ∙ find-append (says_version plan (version_behind plan sections)) sections (section ∷ [])
    ∙ ap (λ (o : Option (List ℕ)). option_or o (find (says_version plan (version_behind plan sections)) (section ∷ []))) found.1
    ∙ sym found.1
    ∙ sym (above_zero plan sections (version_behind plan sections) above)

pub shown_first : (plan : PlanFields) (sections : List (List ℕ)) (section : List ℕ) → version_behind plan (sections ++ section ∷ []) ≡ 0
    → shown_behind plan (sections ++ section ∷ []) ≡ option_or (shown_behind plan sections) (cond (is_int_section section) (Some section) None)
shown_first plan sections section first =
    at_zero plan (sections ++ section ∷ []) (version_behind plan (sections ++ section ∷ [])) first
    ∙ find-append is_int_section sections (section ∷ [])
    ∙ ap (λ (o : Option (List ℕ)). option_or o (cond (is_int_section section) (Some section) None))
    (sym (at_zero plan sections (version_behind plan sections) (omega (arith, behind_both plan sections (section ∷ []), first))))
