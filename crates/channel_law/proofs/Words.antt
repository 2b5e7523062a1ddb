-- Definitions of ts_spec in other words.
use Rattle.std.proofs.Common.{◌≡◌, ◌⊎◌, inl, inr, ℕ, ◌≤◌, Bool, true, false, cond, leb, eqb, ◌||◌, Option, None, Some, List, [], ◌∷◌, ◌++◌, length, take, drop, refl, ap, sym, ◌∙◌, subst, arith, length-append}
use Rattle.std.proofs.lemmas.List.{take-append-drop, take_all}
use Rattle.ts_spec.specs.Form.{UnitForm, IsLawful, Span, more, stuffing, whole, bad}
use Rattle.ts_spec.specs.Received.{Arrival, repeats, received_after}
use Rattle.ts_spec.specs.Reassembly.{Given, all_given, Outcome, candidate, bad_length, delimit, no_outcome, is_complete, incomplete, outcome_by, outcome_of}
use Rattle.channel_law.specs.Words.{differing_from_last, IsUnitInFront, IsBadInFront, TellsNothing, TellsByFronts}
use Rattle.channel_law.proofs.Starts.{leb_true}
use Rattle.channel_law.proofs.Received.{repeated_same}

-- Received packets.

-- a packet that is no duplicate of the packet before differs from the one received last
pub differing : (last : Option (List ℕ)) (xs : List Arrival) → received_after last xs ≡ differing_from_last last xs
differing last [] = refl
differing last (a ∷ xs) = by_test last (repeats last a.bytes) refl (differing (Some a.bytes) xs)
  where
    same_last : (l : Option (List ℕ)) → repeats l a.bytes ≡ true → Some a.bytes ≡ l
    same_last None test = absurd (cc)
    same_last (Some bytes) test = ap (λ (t : List ℕ). Some t) (sym (repeated_same bytes a.bytes test))

    by_test : (l : Option (List ℕ)) (b : Bool) → repeats l a.bytes ≡ b → received_after (Some a.bytes) xs ≡ differing_from_last (Some a.bytes) xs
        → cond b [] (a ∷ []) ++ received_after (Some a.bytes) xs ≡ cond b (differing_from_last l xs) (a ∷ differing_from_last (Some a.bytes) xs)
    by_test l true test later = later ∙ ap (λ (t : Option (List ℕ)). differing_from_last t xs) (same_last l test)
    by_test l false test later = ap (λ (t : List Arrival). a ∷ t) later

-- Outcomes.

-- what a front tells all the bytes tell
front_tells : (form : UnitForm) → IsLawful form → (bytes : List ℕ) (n : ℕ) → (form.span (take n bytes) ≡ more → ⊥) → form.span bytes ≡ form.span (take n bytes)
front_tells form lawful bytes n tells = by_told (lawful.told (take n bytes) (drop n bytes))
  where
    by_told : (form.span (take n bytes) ≡ more) ⊎ (form.span (take n bytes ++ drop n bytes) ≡ form.span (take n bytes)) → form.span bytes ≡ form.span (take n bytes)
    by_told (inl nothing) = absurd (tells nothing)
    by_told (inr stays) = ap form.span (sym (take-append-drop n bytes)) ∙ stays

-- a complete unit ends within the whole payloads, or with all of the bytes
complete_ends : (n part all : ℕ) → (leb n part || eqb n all) ≡ true → part ≤ all → (n ≤ all) × ((n ≤ part) ⊎ (n ≡ all))
complete_ends n part all test order = by_front (leb n part) refl test
  where
    by_front : (b : Bool) → leb n part ≡ b → (b || eqb n all) ≡ true → (n ≤ all) × ((n ≤ part) ⊎ (n ≡ all))
    by_front true front complete = let within : n ≤ part = grind (arith, front) in (omega (arith, within, order), inl within)
    by_front false front complete = let same : n ≡ all = grind (arith, complete) in (omega (arith, same), inr same)

-- and one that does is complete
ends_complete : (n part all : ℕ) → (n ≤ part) ⊎ (n ≡ all) → (leb n part || eqb n all) ≡ true
ends_complete n part all (inl within) = ap (λ (b : Bool). b || eqb n all) (leb_true n part within)
ends_complete n part all (inr same) = by_front (leb n part)
  where
    equal : eqb n all ≡ true
    equal = grind (arith, same)

    by_front : (b : Bool) → (b || eqb n all) ≡ true
    by_front true = refl
    by_front false = equal

module _ (form : UnitForm) (lawful : IsLawful form) (given : Given) where
  -- the whole payloads are a part of the bytes
  payloads_within : length given.payloads ≤ length (all_given given)
  payloads_within = grind (arith, length-append given.payloads given.rest)

  -- a front that tells a bad length is the outcome
  told_bad : IsBadInFront form given → outcome_of form given ≡ bad_length
  told_bad front = ap (λ (s : Span). outcome_by s given) (front_tells form lawful (all_given given) front.size (λ nothing. cc (nothing, front.told)) ∙ front.told)

  -- a front that is a whole unit is the outcome
  told_unit : (unit : List ℕ) → IsUnitInFront form given unit → outcome_of form given ≡ candidate unit
  told_unit unit front =
      ap (λ (s : Span). outcome_by s given) (front_tells form lawful (all_given given) front.size (λ nothing. cc (nothing, front.told)) ∙ front.told)
      ∙ ap (λ (b : Bool). cond b (candidate (take front.size (all_given given))) (incomplete given)) (ends_complete front.size (length given.payloads) (length (all_given given)) front.ends)
      ∙ ap candidate (sym front.unit_is)

  -- an incomplete unit is neither
  nothing_told : outcome_of form given ≡ incomplete given → TellsNothing form given
  nothing_told is = record {
    no_unit = λ unit front. by_unit unit given.is_ended (sym (told_unit unit front) ∙ is);
    no_bad = λ front. by_bad given.is_ended (sym (told_bad front) ∙ is);
  }
    where
      by_unit : (unit : List ℕ) (b : Bool) → candidate unit ≡ cond b delimit no_outcome → ⊥
      by_unit unit true same = cc
      by_unit unit false same = cc

      by_bad : (b : Bool) → bad_length ≡ cond b delimit no_outcome → ⊥
      by_bad true same = cc
      by_bad false same = cc

  -- the outcome, with what tells it: a bad length, a unit, or nothing
  abbrev IsTold : Outcome → Type 0
  IsTold told =
      (IsBadInFront form given × (told ≡ bad_length)) ⊎ (((unit : List ℕ) × IsUnitInFront form given unit × (told ≡ candidate unit)) ⊎ (told ≡ incomplete given))

  -- it is one of the three
  outcome_told : IsTold (outcome_of form given)
  outcome_told = by_span (form.span (all_given given)) refl
    where
      by_span : (s : Span) → form.span (all_given given) ≡ s → IsTold (outcome_by s given)
      by_span more is = inr (inr refl)
      by_span stuffing is = inr (inr refl)
      by_span bad is =
          inl (record { size = length (all_given given); told = ap form.span (take_all (length (all_given given)) (all_given given) (omega arith)) ∙ is }, refl)
      by_span (whole n) is = inr (by_test (is_complete n given) refl)
        where
          by_test : (b : Bool) → is_complete n given ≡ b
              → ((unit : List ℕ) × IsUnitInFront form given unit × (cond b (candidate (take n (all_given given))) (incomplete given) ≡ candidate unit))
              ⊎ (cond b (candidate (take n (all_given given))) (incomplete given) ≡ incomplete given)
          by_test false complete = inr refl
          by_test true complete =
              let ends : (n ≤ length (all_given given)) × ((n ≤ length given.payloads) ⊎ (n ≡ length (all_given given))) =
              complete_ends n (length given.payloads) (length (all_given given)) complete payloads_within in
              inl (
                take n (all_given given),
                record { size = n; within = ends.0; unit_is = refl; told = lawful.of_unit (all_given given) n is; ends = ends.1 },
                refl,
              )

  -- an incomplete unit is lost exactly where a packet ended the bytes
  lost_by_end : (told : Outcome) (b : Bool) → told ≡ cond b delimit no_outcome → (told ≡ delimit → b ≡ true) × (told ≡ no_outcome → b ≡ false)
  lost_by_end told true is = (λ same. refl, λ same. absurd (cc (is, same)))
  lost_by_end told false is = (λ same. absurd (cc (is, same)), λ same. refl)

  -- the other two outcomes are those of an incomplete unit
  neither : (told : Outcome) → (told ≡ delimit) ⊎ (told ≡ no_outcome) → outcome_of form given ≡ told → outcome_of form given ≡ incomplete given
  neither told which is = by_case outcome_told
    where
      by_case : IsTold (outcome_of form given) → outcome_of form given ≡ incomplete given
      by_case (inl bad_one) = absurd (by_which which)
        where
          by_which : (told ≡ delimit) ⊎ (told ≡ no_outcome) → ⊥
          by_which (inl same) = cc (sym bad_one.1 ∙ is ∙ same)
          by_which (inr same) = cc (sym bad_one.1 ∙ is ∙ same)
      by_case (inr (inl whole_one)) = absurd (by_which which)
        where
          by_which : (told ≡ delimit) ⊎ (told ≡ no_outcome) → ⊥
          by_which (inl same) = cc (sym whole_one.2 ∙ is ∙ same)
          by_which (inr same) = cc (sym whole_one.2 ∙ is ∙ same)
      by_case (inr (inr same)) = same

  -- where nothing is told the unit is incomplete
  told_incomplete : TellsNothing form given → outcome_of form given ≡ incomplete given
  told_incomplete nothing = by_case outcome_told
    where
      by_case : IsTold (outcome_of form given) → outcome_of form given ≡ incomplete given
      by_case (inl bad_one) = absurd (nothing.no_bad bad_one.0)
      by_case (inr (inl whole_one)) = absurd (nothing.no_unit whole_one.0 whole_one.1)
      by_case (inr (inr same)) = same

  -- a bad length is told by a front
  bad_told : outcome_of form given ≡ bad_length → IsBadInFront form given
  bad_told is = by_case outcome_told
    where
      by_end_packet : (b : Bool) → bad_length ≡ cond b delimit no_outcome → IsBadInFront form given
      by_end_packet true same = absurd (cc)
      by_end_packet false same = absurd (cc)

      by_case : IsTold (outcome_of form given) → IsBadInFront form given
      by_case (inl bad_one) = bad_one.0
      by_case (inr (inl whole_one)) = absurd (cc (sym is ∙ whole_one.2))
      by_case (inr (inr same)) = by_end_packet given.is_ended (sym is ∙ same)

  -- a candidate is told by a front
  unit_told : (unit : List ℕ) → outcome_of form given ≡ candidate unit → IsUnitInFront form given unit
  unit_told unit is = by_case outcome_told
    where
      by_end_packet : (b : Bool) → candidate unit ≡ cond b delimit no_outcome → IsUnitInFront form given unit
      by_end_packet true same = absurd (cc)
      by_end_packet false same = absurd (cc)

      by_case : IsTold (outcome_of form given) → IsUnitInFront form given unit
      by_case (inl bad_one) = absurd (cc (sym is ∙ bad_one.1))
      by_case (inr (inl whole_one)) =
          let same : whole_one.0 ≡ unit = cc (sym whole_one.2 ∙ is) in
          subst (IsUnitInFront form given) same whole_one.1
      by_case (inr (inr same)) = by_end_packet given.is_ended (sym is ∙ same)

  -- so each outcome is told
  pub tells_by_fronts : TellsByFronts form given
  tells_by_fronts = record {
    bad_when = (bad_told, told_bad);
    unit_when = λ unit. (unit_told unit, told_unit unit);
    delimit_when = (
      λ is. (nothing_told (neither delimit (inl refl) is), (lost_by_end (outcome_of form given) given.is_ended (neither delimit (inl refl) is)).0 is),
      λ ended. told_incomplete ended.0 ∙ ap (λ (b : Bool). cond b delimit no_outcome) ended.1,
    );
    none_when = (
      λ is. (nothing_told (neither no_outcome (inr refl) is), (lost_by_end (outcome_of form given) given.is_ended (neither no_outcome (inr refl) is)).1 is),
      λ ended. told_incomplete ended.0 ∙ ap (λ (b : Bool). cond b delimit no_outcome) ended.1,
    );
  }
