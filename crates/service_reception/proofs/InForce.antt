-- The version in force, and the section that is shown, with one section more.
use Rattle.std.proofs.Common.{◌≡◌, ◌≢◌, ℕ, ◌<◌, ◌≤◌, Bool, true, false, cond, ◌==◌, List, [], ◌∷◌, ◌++◌, length, find, max, refl, ap, sym, ◌∙◌, arith, eq-eqb, true≢false, Option, None, Some}
use Rattle.std.specs.Prelude.{fold, nat_lt}
use Rattle.std.specs.List.{filter_map, cons_option}
use Rattle.std.specs.Option.{option_or}
use Rattle.std.proofs.lemmas.Bool.{ne_eqb}
use Rattle.std.proofs.lemmas.List.Folds.{find-append}
use Rattle.std.proofs.lemmas.List.Sums.{fold-append}
use Rattle.int_spec.specs.Versions.{version_of_platform}
use Rattle.plan_spec.specs.Plan.{IntFields, PlanFields}
use Rattle.plan_spec.specs.Changes.{has_pid}
use Rattle.plan_spec.specs.InForce.{if_version, version_by, version_in, version_behind}
use Rattle.reception_spec.specs.Table.{is_int_section}
use Rattle.service_reception.specs.Table.{KeptSections, kept_of, shown_among, up_to, above, put_in_force, first_with, version_with, shown_with}

-- the greatest of some numbers, from a least one on
least_max : (start : ℕ) (xs : List ℕ) → start ≤ fold max start xs
least_max start [] = omega arith
least_max start (x ∷ xs) = omega (arith, least_max (max start x) xs)

-- the first section of an INT
first_found : (sections : List (List ℕ)) (section : List ℕ) → first_with (find is_int_section sections) section ≡ find is_int_section (sections ++ section ∷ [])
first_found sections section = by_found (find is_int_section sections) ∙ sym (find-append is_int_section sections (section ∷ []))
  where
    by_found : (found : Option (List ℕ)) → first_with found section ≡ option_or found (find is_int_section (section ∷ []))
    by_found None = refl
    by_found (Some x) = refl

-- where one was found it stays
found_stays : (p : List ℕ → Bool) (sections : List (List ℕ)) (section first : List ℕ) → find p sections ≡ Some first
    → first_with (find p sections) section ≡ find p (sections ++ section ∷ [])
found_stays p sections section first found =
    ap (λ (t : Option (List ℕ)). first_with t section) found
    ∙ ap (λ (t : Option (List ℕ)). option_or t (find p (section ∷ []))) (sym found)
    ∙ sym (find-append p sections (section ∷ []))

-- and where none was, the next may be it
found_next : (p : List ℕ → Bool) (sections : List (List ℕ)) (section : List ℕ) → find p sections ≡ None → p section ≡ true → find p (sections ++ section ∷ []) ≡ Some section
found_next p sections section none own =
    find-append p sections (section ∷ [])
    ∙ ap (λ (t : Option (List ℕ)). option_or t (find p (section ∷ []))) none
    ∙ ap (λ (b : Bool). cond {A = Option (List ℕ)} b (Some section) None) own

-- what sections say
module _ (say : List ℕ → Option ℕ) where
  abbrev greatest : List (List ℕ) → ℕ
  greatest sections = fold max 0 (filter_map say sections)

  abbrev says : ℕ → List ℕ → Bool
  says version section = has_pid (say section) version

  abbrev shown : ℕ → List (List ℕ) → Option (List ℕ)
  shown version sections = cond (version == 0) (find is_int_section sections) (find (says version) sections)

  filter_map-append : (xs ys : List (List ℕ)) → filter_map say (xs ++ ys) ≡ filter_map say xs ++ filter_map say ys
  filter_map-append [] ys = refl
  filter_map-append (x ∷ xs) ys = by_said (say x) (filter_map-append xs ys)
    where
      by_said : (o : Option ℕ) → filter_map say (xs ++ ys) ≡ filter_map say xs ++ filter_map say ys
          → cons_option o (filter_map say (xs ++ ys)) ≡ cons_option o (filter_map say xs) ++ filter_map say ys
      by_said None rest = rest
      by_said (Some version) rest = ap (λ (t : List ℕ). version ∷ t) rest

  -- none says a version above all
  none_says : (version start : ℕ) (xs : List (List ℕ)) → fold max start (filter_map say xs) < version → find (says version) xs ≡ None
  none_says version start [] below = refl
  none_says version start (x ∷ xs) below = by_said (say x) (λ least less. none_says version least xs less) below
    where
      by_said : (o : Option ℕ) → ((least : ℕ) → fold max least (filter_map say xs) < version → find (says version) xs ≡ None)
          → fold max start (cons_option o (filter_map say xs)) < version → cond {A = Option (List ℕ)} (has_pid o version) (Some x) (find (says version) xs) ≡ None
      by_said None rest less = rest start less
      by_said (Some said) rest less =
          ap (λ (b : Bool). cond {A = Option (List ℕ)} b (Some x) (find (says version) xs))
          (ne_eqb said version (λ same. omega (arith, same, less, least_max (max start said) (filter_map say xs))))
          ∙ rest (max start said) less

  -- one says the greatest
  one_says : (version start : ℕ) (xs : List (List ℕ)) → version ≡ fold max start (filter_map say xs) → start < version → (x : List ℕ) × (find (says version) xs ≡ Some x)
  one_says version start [] same less = absurd (omega (arith, same, less))
  one_says version start (x ∷ xs) same less = by_said (say x) (λ least is below. one_says version least xs is below) same
    where
      by_said : (o : Option ℕ) → ((least : ℕ) → version ≡ fold max least (filter_map say xs) → least < version → (y : List ℕ) × (find (says version) xs ≡ Some y))
          → version ≡ fold max start (cons_option o (filter_map say xs))
          → (y : List ℕ) × (cond {A = Option (List ℕ)} (has_pid o version) (Some x) (find (says version) xs) ≡ Some y)
      by_said None rest same = rest start same less
      by_said (Some said) rest same = by_test (said == version) refl
        where
          by_test : (b : Bool) → (said == version) ≡ b → (y : List ℕ) × (cond {A = Option (List ℕ)} b (Some x) (find (says version) xs) ≡ Some y)
          by_test true own = (x, refl)
          by_test false other = rest (max start said) same
              (omega (arith, same, less, least_max (max start said) (filter_map say xs), apart))
            where
              apart : said ≢ version
              apart = λ is. true≢false (sym (eq-eqb said version is) ∙ other)

  -- the version in force, with one section more
  greatest_more : (sections : List (List ℕ)) (section : List ℕ) → greatest (sections ++ section ∷ []) ≡ fold max (greatest sections) (cons_option (say section) [])
  greatest_more sections section =
      ap (fold max 0) (filter_map-append sections (section ∷ [])) ∙ fold-append max 0 (filter_map say sections) (cons_option (say section) [])

  -- the section that is shown, where the next puts no version in force
  stays : (sections : List (List ℕ)) (section : List ℕ) (version : ℕ) → version ≡ greatest sections → (b : Bool) → (version == 0) ≡ b
      → first_with (cond b (find is_int_section sections) (find (says version) sections)) section
      ≡ cond b (find is_int_section (sections ++ section ∷ [])) (find (says version) (sections ++ section ∷ []))
  stays sections section version same true first = first_found sections section
  stays sections section version same false later =
      let one = one_says version 0 sections same (grind (arith, later)) in
      found_stays (says version) sections section one.0 one.1

  shown_stays : (sections : List (List ℕ)) (section : List ℕ) → greatest (sections ++ section ∷ []) ≡ greatest sections
      → first_with (shown (greatest sections) sections) section ≡ shown (greatest (sections ++ section ∷ [])) (sections ++ section ∷ [])
  shown_stays sections section same =
      stays sections section (greatest sections) refl (greatest sections == 0) refl
      ∙ ap (λ (version : ℕ). shown version (sections ++ section ∷ [])) (sym same)

  -- and where it puts one in force
  shown_rises : (sections : List (List ℕ)) (section : List ℕ) (version : ℕ) → say section ≡ Some version → greatest sections < version
      → greatest (sections ++ section ∷ []) ≡ version → Some section ≡ shown (greatest (sections ++ section ∷ [])) (sections ++ section ∷ [])
  shown_rises sections section version said less same =
      let all : List (List ℕ) = sections ++ section ∷ [] in
      let own : says version section ≡ true = ap (λ (o : Option ℕ). has_pid o version) said ∙ eq-eqb version version refl in
      let later : (version == 0) ≡ false = ne_eqb version 0 (λ zero. omega (arith, zero, less)) in
      sym (found_next (says version) sections section (none_says version 0 sections less) own)
      ∙ ap (λ (b : Bool). cond b (find is_int_section all) (find (says version) all)) (sym later)
      ∙ ap (λ (n : ℕ). shown n all) (sym same)

-- what a section says under a plan with this INT
module _ (plan : PlanFields) (int : IntFields) (table_is : plan.table ≡ Some int) (sections : List (List ℕ)) (section : List ℕ) where
  abbrev before : KeptSections
  before = kept_of plan int sections

  abbrev in_force : ℕ
  in_force = version_behind plan sections

  up_to_is : (o : Option ℕ) → if_version plan o ≡ up_to (length plan.changes) o
  up_to_is None = refl
  up_to_is (Some version) = refl

  said : version_in plan section ≡ up_to (length plan.changes) (version_of_platform int.platform_id section)
  said = ap (λ (t : Option IntFields). version_by plan t section) table_is ∙ up_to_is (version_of_platform int.platform_id section)

  more : (o : Option ℕ) → version_in plan section ≡ o → version_behind plan (sections ++ section ∷ []) ≡ fold max in_force (cons_option o [])
  more o is = greatest_more (version_in plan) sections section ∙ ap (λ (t : Option ℕ). fold max in_force (cons_option t [])) is

  raised_to : (version : ℕ) → nat_lt in_force version ≡ true → max in_force version ≡ version
  raised_to version less = grind (arith, less)

  kept_at : (version : ℕ) → nat_lt in_force version ≡ false → max in_force version ≡ in_force
  kept_at version not_less = grind (arith, not_less)

  pub version_next : version_with before (put_in_force before section) ≡ version_behind plan (sections ++ section ∷ [])
  version_next = ap (λ (o : Option ℕ). version_with before (above in_force o)) (sym said) ∙ by_said (version_in plan section) refl
    where
      by_said : (o : Option ℕ) → version_in plan section ≡ o → version_with before (above in_force o) ≡ version_behind plan (sections ++ section ∷ [])
      by_said None is = sym (more None is)
      by_said (Some version) is = by_test (nat_lt in_force version) refl
        where
          by_test : (b : Bool) → nat_lt in_force version ≡ b → version_with before (cond b (Some version) None) ≡ version_behind plan (sections ++ section ∷ [])
          by_test true less = sym (more (Some version) is ∙ raised_to version less)
          by_test false not_less = sym (more (Some version) is ∙ kept_at version not_less)

  pub shown_next : shown_with before section (put_in_force before section) ≡ shown_among plan (sections ++ section ∷ [])
  shown_next = ap (λ (o : Option ℕ). shown_with before section (above in_force o)) (sym said) ∙ by_said (version_in plan section) refl
    where
      by_said : (o : Option ℕ) → version_in plan section ≡ o → shown_with before section (above in_force o) ≡ shown_among plan (sections ++ section ∷ [])
      by_said None is = shown_stays (version_in plan) sections section (more None is)
      by_said (Some version) is = by_test (nat_lt in_force version) refl
        where
          by_test : (b : Bool) → nat_lt in_force version ≡ b → shown_with before section (cond b (Some version) None) ≡ shown_among plan (sections ++ section ∷ [])
          by_test true less =
              shown_rises (version_in plan) sections section version is (grind (arith, less)) (more (Some version) is ∙ raised_to version less)
          by_test false not_less = shown_stays (version_in plan) sections section (more (Some version) is ∙ kept_at version not_less)
