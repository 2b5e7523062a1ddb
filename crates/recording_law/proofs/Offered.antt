-- What is offered to a service in all versions are some of all datagrams, in order: versions follow each other as records do.
use Rattle.std.proofs.Common.{◌≡◌, ◌⊎◌, inl, inr, ℕ, zero, suc, ◌+◌, ◌<◌, ◌≤◌, Bool, true, false, cond, nat_le, List, [], ◌∷◌, ◌++◌, length, flat_map, refl, ap, ap₂, sym, ◌∙◌, subst, arith, Option, Some, None}
use Rattle.std.specs.Prelude.{filter, count_by}
use Rattle.std.specs.List.{range_with_len}
use Rattle.std.proofs.lemmas.Bool.{eq-eqb, ne_eqb, cases_eq, cases_lt, leb-true, le-leb, cases_Bool}
use Rattle.std.proofs.lemmas.List.Sums.{sum_by-cons}
use Rattle.std.proofs.lemmas.List.Elements.{filter_map-append}
use Rattle.wire_spec.specs.Lists.{IsSubsequence}
use Rattle.plan_spec.specs.Plan.{ChangeFields, PlanFields}
use Rattle.plan_spec.specs.Changes.{plan_in, versions, version_at, records_from, records_of_version}
use Rattle.plan_spec.specs.Offered.{Records, datagrams as datagrams_of, service_of_datagram, is_offered_to, offered_in, offered_in_all}
use Rattle.loss_law.proofs.Subsequences.{behind_others, subsequence_self, subsequence_through, subsequence_each}

-- Versions do not fall.

abbrev pub holding : ℕ → List ChangeFields → ℕ
holding number changes = count_by (λ (change : ChangeFields). nat_le change.at number) changes

holding-cons : (number : ℕ) (change : ChangeFields) (changes : List ChangeFields)
    → holding number (change ∷ changes) ≡ cond (nat_le change.at number) 1 0 + holding number changes
holding-cons number change changes = sum_by-cons (λ (c : ChangeFields). cond {A = ℕ} (nat_le c.at number) 1 0) change changes

one_rises : (at number : ℕ) → cond {A = ℕ} (nat_le at number) 1 0 ≤ cond {A = ℕ} (nat_le at (number + 1)) 1 0
one_rises at number = elim (cases_Bool (nat_le at number)) [
  | inl holds ↦
      let later : nat_le at (number + 1) ≡ true = le-leb at (number + 1) (omega (arith, leb-true at number holds)) in
      omega (arith, ap (λ (b : Bool). cond {A = ℕ} b 1 0) holds, ap (λ (b : Bool). cond {A = ℕ} b 1 0) later)
  | inr waits ↦ omega (arith, ap (λ (b : Bool). cond {A = ℕ} b 1 0) waits)
]

holding_rises : (number : ℕ) (changes : List ChangeFields) → holding number changes ≤ holding (number + 1) changes
holding_rises number [] = omega arith
holding_rises number (change ∷ changes) =
    omega (arith, holding-cons number change changes, holding-cons (number + 1) change changes, one_rises change.at number, holding_rises number changes)

rises : (plan : PlanFields) (number : ℕ) → version_at plan number ≤ version_at plan (number + 1)
rises plan number = holding_rises number plan.changes

-- The records of versions, one version after another.

module _ {R : Type 0} (plan : PlanFields) where
  here : (version number : ℕ) (r : R) (records : List R) → version_at plan number ≡ version
      → records_from plan version number (r ∷ records) ≡ r ∷ records_from plan version (number + 1) records
  here version number r records is =
      ap (λ (b : Bool). cond b (r ∷ []) [] ++ records_from plan version (number + 1) records) (eq-eqb (version_at plan number) version is)

  elsewhere : (version number : ℕ) (r : R) (records : List R) → (version_at plan number ≡ version → ⊥)
      → records_from plan version number (r ∷ records) ≡ records_from plan version (number + 1) records
  elsewhere version number r records other =
      ap (λ (b : Bool). cond b (r ∷ []) [] ++ records_from plan version (number + 1) records) (ne_eqb (version_at plan number) version other)

  -- none is of a version before that of the first
  none_before : (version number : ℕ) (records : List R) → version < version_at plan number → records_from plan version number records ≡ []
  none_before version number [] less = refl
  none_before version number (r ∷ records) less =
      elsewhere version number r records (λ same. omega (arith, same, less))
      ∙ none_before version (number + 1) records (omega (arith, less, rises plan number))

  abbrev pub of_versions : (from count number : ℕ) → List R → List R
  of_versions from count number records = flat_map (λ version. records_from plan version number records) (range_with_len from count)

  -- versions after that of the first record do not have it
  without_first : (from count number : ℕ) (r : R) (records : List R) → version_at plan number < from
      → of_versions from count number (r ∷ records) ≡ of_versions from count (number + 1) records
  without_first from zero number r records less = refl
  without_first from (suc count) number r records less =
      ap₂ (λ (x y : List R). x ++ y) (elsewhere from number r records (λ same. omega (arith, same, less)))
      (without_first (from + 1) count number r records (omega (arith, less)))

  -- with one record more in front
  first_more : (from count number : ℕ) (r : R) (records : List R)
      → IsSubsequence (of_versions from count number (r ∷ records)) (r ∷ of_versions from count (number + 1) records)
  first_more from zero number r records = tt
  first_more from (suc count) number r records =
      by_case (cases_eq (version_at plan number) from) (cases_lt (version_at plan number) from) (first_more (from + 1) count number r records)
    where
      le_ne : from ≤ version_at plan number → (version_at plan number ≡ from → ⊥) → from < version_at plan number
      le_ne at differs = elim (cases_lt from (version_at plan number)) [
        | inl is ↦ is
        | inr not ↦ absurd (differs (omega (arith, at, not)))
      ]

      by_case : (version_at plan number ≡ from) ⊎ (version_at plan number ≡ from → ⊥) → (version_at plan number < from) ⊎ (from ≤ version_at plan number)
          → IsSubsequence (of_versions (from + 1) count number (r ∷ records)) (r ∷ of_versions (from + 1) count (number + 1) records)
          → IsSubsequence (records_from plan from number (r ∷ records) ++ of_versions (from + 1) count number (r ∷ records))
          (r ∷ (records_from plan from (number + 1) records ++ of_versions (from + 1) count (number + 1) records))
      by_case (inl same) either later =
          subst (λ (xs : List R). IsSubsequence xs (r ∷ (records_from plan from (number + 1) records ++ of_versions (from + 1) count (number + 1) records)))
          (sym (ap₂ (λ (x y : List R). x ++ y) (here from number r records same) (without_first (from + 1) count number r records (omega (arith, same)))))
          (subsequence_self (r ∷ (records_from plan from (number + 1) records ++ of_versions (from + 1) count (number + 1) records)))
      by_case (inr other) (inl less) later =
          subst (λ (xs : List R). IsSubsequence xs (r ∷ (records_from plan from (number + 1) records ++ of_versions (from + 1) count (number + 1) records)))
          (sym (ap₂ (λ (x y : List R). x ++ y) (elsewhere from number r records other) (without_first (from + 1) count number r records (omega (arith, less)))))
          (behind_others (records_from plan from (number + 1) records ++ of_versions (from + 1) count (number + 1) records) (r ∷ [])
          (records_from plan from (number + 1) records ++ of_versions (from + 1) count (number + 1) records)
          (subsequence_self (records_from plan from (number + 1) records ++ of_versions (from + 1) count (number + 1) records)))
      by_case (inr other) (inr least) later =
          let less : from < version_at plan number = le_ne least other in
          let none : records_from plan from (number + 1) records ≡ [] = none_before from (number + 1) records (omega (arith, less, rises plan number)) in
          subst (λ (xs : List R). IsSubsequence xs (r ∷ (records_from plan from (number + 1) records ++ of_versions (from + 1) count (number + 1) records)))
          (sym (ap (λ (x : List R). x ++ of_versions (from + 1) count number (r ∷ records)) (elsewhere from number r records other ∙ none)))
          (subst (λ (x : List R). IsSubsequence (of_versions (from + 1) count number (r ∷ records)) (r ∷ (x ++ of_versions (from + 1) count (number + 1) records))) (sym none) later)

  pub in_order : (from count number : ℕ) (records : List R) → IsSubsequence (of_versions from count number records) records
  in_order from count number [] = no_records from count
    where
      nothing : (f c : ℕ) → of_versions f c number [] ≡ []
      nothing f zero = refl
      nothing f (suc c) = nothing (f + 1) c

      no_records : (f c : ℕ) → IsSubsequence (of_versions f c number []) []
      no_records f c = subst (λ (xs : List R). IsSubsequence xs []) (sym (nothing f c)) tt
  in_order from count number (r ∷ records) =
      subsequence_through (of_versions from count number (r ∷ records)) (r ∷ of_versions from count (number + 1) records) (r ∷ records)
      (first_more from count number r records) (inl (refl, in_order from count (number + 1) records))

-- Datagrams.

filter_within : {X : Type 0} (test : X → Bool) (xs : List X) → IsSubsequence (filter test xs) xs
filter_within test [] = tt
filter_within {X} test (x ∷ xs) = by_test (test x) (filter_within test xs)
  where
    by_test : (b : Bool) → IsSubsequence (filter test xs) xs → IsSubsequence (cond b (x ∷ filter test xs) (filter test xs)) (x ∷ xs)
    by_test true within = inl (refl, within)
    by_test false within = behind_others (filter test xs) (x ∷ []) xs within

datagrams_within : (xs ys : Records) → IsSubsequence xs ys → IsSubsequence (datagrams_of xs) (datagrams_of ys)
datagrams_within [] ys within = tt
datagrams_within (x ∷ xs) [] within = absurd within
datagrams_within (x ∷ xs) (y ∷ ys) (inl taken) = by_item x y taken.0 (datagrams_within xs ys taken.1)
  where
    by_item : (a b : Option (List ℕ)) → a ≡ b → IsSubsequence (datagrams_of xs) (datagrams_of ys) → IsSubsequence (datagrams_of (a ∷ xs)) (datagrams_of (b ∷ ys))
    by_item None None same within = within
    by_item (Some d) (Some e) same within = let is : d ≡ e = cc in inl (is, within)
    by_item None (Some e) same within = absurd (cc)
    by_item (Some d) None same within = absurd (cc)
datagrams_within (x ∷ xs) (y ∷ ys) (inr left_out) = by_item y (datagrams_within (x ∷ xs) ys left_out)
  where
    by_item : (b : Option (List ℕ)) → IsSubsequence (datagrams_of (x ∷ xs)) (datagrams_of ys) → IsSubsequence (datagrams_of (x ∷ xs)) (datagrams_of (b ∷ ys))
    by_item None within = within
    by_item (Some e) within = behind_others (datagrams_of (x ∷ xs)) (e ∷ []) (datagrams_of ys) within

datagrams_flat : (f : ℕ → Records) (ks : List ℕ) → flat_map (λ k. datagrams_of (f k)) ks ≡ datagrams_of (flat_map f ks)
datagrams_flat f [] = refl
datagrams_flat f (k ∷ ks) =
    ap (λ (t : List (List ℕ)). datagrams_of (f k) ++ t) (datagrams_flat f ks) ∙ sym (filter_map-append (λ (datagram : Option (List ℕ)). datagram) (f k) (flat_map f ks))

pub offered_within : (plan : PlanFields) (records : Records) (k : ℕ) → IsSubsequence (offered_in_all plan records k) (datagrams_of records)
offered_within plan records k =
    let each : ℕ → Records = λ version. records_of_version plan version records in
    subsequence_through (offered_in_all plan records k) (flat_map (λ version. datagrams_of (each version)) (versions plan)) (datagrams_of records)
    (subsequence_each (λ version. offered_in plan records version k) (λ version. datagrams_of (each version)) (versions plan)
    (λ version there. filter_within (λ datagram. is_offered_to (plan_in plan version) (service_of_datagram (plan_in plan version) datagram) k datagram) (datagrams_of (each version))))
    (subst (λ (xs : List (List ℕ)). IsSubsequence xs (datagrams_of records)) (sym (datagrams_flat each (versions plan)))
    (datagrams_within (flat_map each (versions plan)) records (in_order plan 0 (length plan.changes + 1) 1 records)))
