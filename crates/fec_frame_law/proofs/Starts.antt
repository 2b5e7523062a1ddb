-- The places where datagrams can start, as a list and as a fact.
use Rattle.std.proofs.Common.{◌≡◌, ◌⊎◌, inl, inr, ℕ, zero, suc, ◌+◌, ◌-◌, ◌*◌, ◌<◌, ◌≤◌, Bool, true, false, ◌||◌, cond, eqb, leb, List, [], ◌∷◌, ◌++◌, Option, refl, ap, sym, ◌∙◌, subst, arith, le-leb}
use Rattle.std.specs.List.{list_any}
use Rattle.std.proofs.lemmas.Bool.{and_parts, and_from, or_cases, or_left, or_right, leb-true, eqb-true, eq-eqb}
use Rattle.ip_datagram.specs.Hint.{hint_of}
use Rattle.ip_datagram.specs.declared.hint.Hint.{Hint}
use Rattle.ip_datagram.specs.declared.hint.Hint.TheVariants.{More, Padding, Length, Bad}
use Rattle.channel_spec.specs.Carried.{IsRising}
use Rattle.channel_law.proofs.Member.{Member, member_front, member_behind, member_parted, contains_member, member_contains}
use Rattle.section_spec.specs.Mpe.{MpeFields}
use Rattle.fec_frame_spec.specs.Sections.{data_end}
use Rattle.fec_frame_spec.specs.Starts.{known_run, is_edge, is_first_start, ends_at, tells_end, starts_below, IsTold, AreTold, IsSectionEdge, IsDatagramStart}
use Rattle.fec_frame_law.proofs.Least.{first_start, edge_start, next_start}

-- an item that passes a test, and the test of a list that has one
any_member : {X : Type 0} (test : X → Bool) (xs : List X) → list_any test xs ≡ true → (x : X) × Member xs x × (test x ≡ true)
any_member test [] any = absurd (cc)
any_member test (x ∷ xs) any = by_part (or_cases (test x) (list_any test xs) any) (any_member test xs)
  where
    by_part : (test x ≡ true) ⊎ (list_any test xs ≡ true) → (list_any test xs ≡ true → (y : _) × Member xs y × (test y ≡ true)) → (y : _) × Member (x ∷ xs) y × (test y ≡ true)
    by_part (inl here) later = (x, inl refl, here)
    by_part (inr there) later = let found = later there in (found.0, inr found.1, found.2)

any_from : {X : Type 0} (test : X → Bool) (xs : List X) (x : X) → Member xs x → test x ≡ true → list_any test xs ≡ true
any_from test [] x there passes = absurd there
any_from test (y ∷ xs) x (inl same) passes = or_left (test y) (list_any test xs) (ap test same ∙ passes)
any_from test (y ∷ xs) x (inr there) passes = or_right (test y) (list_any test xs) (any_from test xs x there passes)

-- a told length is no 0
pub told_some : (b : List ℕ) (n : ℕ) → hint_of b ≡ Length n → 1 ≤ n
told_some b n told = grind arith

-- numbers that rise, and a higher one after them
rising_more : (xs : List ℕ) (least n : ℕ) → IsRising least xs → least ≤ n → ((x : ℕ) → Member xs x → x < n) → IsRising least (xs ++ n ∷ [])
rising_more [] least n rising low below = (low, tt)
rising_more (x ∷ xs) least n rising low below = (rising.0, rising_more xs (x + 1) n rising.1 (omega (arith, below x (inl refl))) (λ y there. below y (inr there)))

module _ (rows : ℕ) (bytes : ℕ → Option ℕ) (sections : List MpeFields) where
  abbrev starts : ℕ → List ℕ
  starts n = starts_below rows bytes sections n

  abbrev test_at : ℕ → Bool
  test_at n = is_first_start sections n || list_any (tells_end rows bytes n) (starts n)

  next_is : (n : ℕ) → starts (suc n) ≡ starts n ++ cond (test_at n) (n ∷ []) []
  unfolding starts_below
  next_is n = refl

  none_is : starts zero ≡ []
  unfolding starts_below
  none_is = refl

  added : (b : Bool) (n p : ℕ) → Member (cond b (n ∷ []) []) p → (b ≡ true) × (n ≡ p)
  added true n p (inl same) = (refl, same)
  added true n p (inr never) = absurd never
  added false n p never = absurd never

  -- each is a start
  first_is : (n : ℕ) → is_first_start sections n ≡ true → IsDatagramStart rows bytes sections n
  first_is n first = by_kind (or_cases (eqb n 0) (list_any (is_edge n) sections) first)
    where
      by_side : (m : MpeFields) → Member sections m → (eqb m.real_time.address n ≡ true) ⊎ (eqb (data_end m) n ≡ true) → IsDatagramStart rows bytes sections n
      by_side m there (inl start) = edge_start rows bytes sections n (m, contains_member sections m there, inl (sym (eqb-true m.real_time.address n start)))
      by_side m there (inr end) = edge_start rows bytes sections n (m, contains_member sections m there, inr (sym (eqb-true (data_end m) n end)))

      by_kind : (eqb n 0 ≡ true) ⊎ (list_any (is_edge n) sections ≡ true) → IsDatagramStart rows bytes sections n
      by_kind (inl zero_is) = subst (IsDatagramStart rows bytes sections) (sym (eqb-true n 0 zero_is)) (first_start rows bytes sections)
      by_kind (inr edge) =
          let found = any_member (is_edge n) sections edge in
          by_side found.0 found.1 (or_cases (eqb (found.0).real_time.address n) (eqb (data_end found.0) n) found.2)

  told_end : (q n : ℕ) → IsDatagramStart rows bytes sections q → tells_end rows bytes n q ≡ true → IsDatagramStart rows bytes sections n
  told_end q n is tells = by_hint (hint_of (known_run rows bytes q)) refl parts.1
    where
      parts : (leb n (191 * rows) ≡ true) × (ends_at (hint_of (known_run rows bytes q)) q n ≡ true)
      parts = and_parts (leb n (191 * rows)) (ends_at (hint_of (known_run rows bytes q)) q n) tells

      by_hint : (h : Hint) → hint_of (known_run rows bytes q) ≡ h → ends_at h q n ≡ true → IsDatagramStart rows bytes sections n
      by_hint More is_hint ends = absurd (cc)
      by_hint Padding is_hint ends = absurd (cc)
      by_hint Bad is_hint ends = absurd (cc)
      by_hint (Length k) is_hint ends =
          let at : q + k ≡ n = eqb-true (q + k) n ends in
          subst (IsDatagramStart rows bytes sections) at
          (next_start rows bytes sections q k is (record { length_is = is_hint; within = omega (arith, at, leb-true n (191 * rows) parts.0) }))

  pub starts_are : (n p : ℕ) → Member (starts n) p → (p < n) × IsDatagramStart rows bytes sections p
  starts_are zero p there = absurd (subst (λ (l : List ℕ). Member l p) none_is there)
  starts_are (suc n) p there = by_part (member_parted (starts n) (cond (test_at n) (n ∷ []) []) p (subst (λ (l : List ℕ). Member l p) (next_is n) there)) (starts_are n)
    where
      by_part : Member (starts n) p ⊎ Member (cond (test_at n) (n ∷ []) []) p → ((q : ℕ) → Member (starts n) q → (q < n) × IsDatagramStart rows bytes sections q)
          → (p < suc n) × IsDatagramStart rows bytes sections p
      by_part (inl before) later = let found = later p before in (omega (arith, found.0), found.1)
      by_part (inr here) later =
          let is = added (test_at n) n p here in
          (omega (arith, is.1), subst (IsDatagramStart rows bytes sections) is.1 (by_test (or_cases (is_first_start sections n) (list_any (tells_end rows bytes n) (starts n)) is.0)))
        where
          by_test : (is_first_start sections n ≡ true) ⊎ (list_any (tells_end rows bytes n) (starts n) ≡ true) → IsDatagramStart rows bytes sections n
          by_test (inl first) = first_is n first
          by_test (inr told) =
              let found = any_member (tells_end rows bytes n) (starts n) told in
              told_end found.0 n (later found.0 found.1).1 found.2

  -- and each start is one
  raise : (m k q : ℕ) → Member (starts m) q → Member (starts (m + k)) q
  raise m zero q there = let e : m ≡ m + 0 = omega arith in subst (λ (i : ℕ). Member (starts i) q) e there
  raise m (suc k) q there =
      let e : suc (m + k) ≡ m + suc k = omega arith in
      subst (λ (i : ℕ). Member (starts i) q) e
      (subst (λ (l : List ℕ). Member l q) (sym (next_is (m + k))) (member_front (starts (m + k)) (cond (test_at (m + k)) ((m + k) ∷ []) []) q (raise m k q there)))

  up_to : (m n q : ℕ) → m ≤ n → Member (starts m) q → Member (starts n) q
  up_to m n q order there = let e : m + (n - m) ≡ n = omega (arith, order) in subst (λ (i : ℕ). Member (starts i) q) e (raise m (n - m) q there)

  passes : (n : ℕ) → test_at n ≡ true → Member (starts (suc n)) n
  passes n test =
      subst (λ (l : List ℕ). Member l n) (sym (next_is n))
      (member_behind (starts n) (cond (test_at n) (n ∷ []) []) n (ap_cond (test_at n) test))
    where
      ap_cond : (b : Bool) → b ≡ true → Member (cond b (n ∷ []) []) n
      ap_cond true is = inl refl
      ap_cond false is = absurd (cc)

  edge_test : (place : ℕ) → IsSectionEdge sections place → is_first_start sections place ≡ true
  edge_test place edge =
      or_right (eqb place 0) (list_any (is_edge place) sections)
      (any_from (is_edge place) sections edge.0 (member_contains sections edge.0 edge.1) (by_side edge.2))
    where
      by_side : (place ≡ (edge.0).real_time.address) ⊎ (place ≡ data_end edge.0) → is_edge place edge.0 ≡ true
      by_side (inl start) = or_left (eqb (edge.0).real_time.address place) (eqb (data_end edge.0) place) (eq-eqb (edge.0).real_time.address place (sym start))
      by_side (inr end) = or_right (eqb (edge.0).real_time.address place) (eqb (data_end edge.0) place) (eq-eqb (data_end edge.0) place (sym end))

  first_in : (start : ℕ) → (start ≡ 0) ⊎ IsSectionEdge sections start → Member (starts (suc start)) start
  first_in start (inl zero_is) =
      passes start (or_left (is_first_start sections start) (list_any (tells_end rows bytes start) (starts start))
      (or_left (eqb start 0) (list_any (is_edge start) sections) (eq-eqb start 0 zero_is)))
  first_in start (inr edge) =
      passes start (or_left (is_first_start sections start) (list_any (tells_end rows bytes start) (starts start)) (edge_test start edge))

  next_in : (q k : ℕ) → Member (starts (suc q)) q → IsTold rows bytes q k → Member (starts (suc (q + k))) (q + k)
  next_in q k there told =
      let some : 1 ≤ k = told_some (known_run rows bytes q) k told.length_is in
      passes (q + k)
      (or_right (is_first_start sections (q + k)) (list_any (tells_end rows bytes (q + k)) (starts (q + k)))
      (any_from (tells_end rows bytes (q + k)) (starts (q + k)) q (up_to (suc q) (q + k) q (omega (arith, some)) there)
      (and_from (leb (q + k) (191 * rows)) (ends_at (hint_of (known_run rows bytes q)) q (q + k)) (le-leb (q + k) (191 * rows) told.within)
      (ap (λ (h : Hint). ends_at h q (q + k)) told.length_is ∙ eq-eqb (q + k) (q + k) refl))))

  chain_in : (lengths : List ℕ) (q end : ℕ) → Member (starts (suc q)) q → AreTold rows bytes q lengths end → Member (starts (suc end)) end
  chain_in [] q end there told = subst (λ (p : ℕ). Member (starts (suc p)) p) told there
  chain_in (k ∷ lengths) q end there told = chain_in lengths (q + k) end (next_in q k there told.0) told.1

  pub start_in : (n p : ℕ) → p < n → IsDatagramStart rows bytes sections p → Member (starts n) p
  start_in n p low is = up_to (suc p) n p (omega (arith, low)) (chain_in is.lengths is.start p (first_in is.start is.from) is.told)

  -- they rise
  pub starts_rise : (n : ℕ) → IsRising 0 (starts n)
  starts_rise zero = subst (λ (l : List ℕ). IsRising 0 l) (sym none_is) tt
  starts_rise (suc n) = subst (λ (l : List ℕ). IsRising 0 l) (sym (next_is n)) (by_test (test_at n) (starts_rise n))
    where
      same : (xs : List ℕ) → xs ++ [] ≡ xs
      same [] = refl
      same (x ∷ xs) = ap (λ (l : List ℕ). x ∷ l) (same xs)

      by_test : (b : Bool) → IsRising 0 (starts n) → IsRising 0 (starts n ++ cond b (n ∷ []) [])
      by_test true rising = rising_more (starts n) 0 n rising (omega arith) (λ x there. (starts_are n x there).0)
      by_test false rising = subst (λ (l : List ℕ). IsRising 0 l) (sym (same (starts n))) rising
