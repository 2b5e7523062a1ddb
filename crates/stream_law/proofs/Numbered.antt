-- What goes with the versions of a service is numbered over all of them: on one PID the numbers go on, since its versions follow each
-- other.
use Rattle.std.proofs.Common.{◌≡◌, ◌⊎◌, inl, inr, ℕ, zero, suc, ◌+◌, ◌<◌, ◌≤◌, Bool, true, false, cond, eqb, List, [], ◌∷◌, ◌++◌, length, refl, sym, ap, ◌∙◌, arith, Option, Some}
use Rattle.std.specs.Prelude.{sum_by}
use Rattle.std.specs.List.{range_with_len}
use Rattle.std.proofs.lemmas.Bool.{eqb-true, eq-eqb, or_left, cases_lt}
use Rattle.std.proofs.lemmas.List.{length-append}
use Rattle.plan_spec.specs.Changes.{has_pid, with_last}
use Rattle.plan_law.proofs.Pids.{is_in, twice}
use Rattle.stream_law.proofs.Ranges.{sum_next}
use Rattle.stream_law.proofs.Lists.{twice_parts, twice_first}
use Rattle.stream_law.proofs.PidsIn.{with_last_is}
use Rattle.stream_law.proofs.AllPids.{pids, on, pids_next, on_next, there, nothing_on}

-- the last of some numbers
abbrev last_of : List ℕ → ℕ
last_of [] = 0
last_of (x ∷ []) = x
last_of (x ∷ y ∷ others) = last_of (y ∷ others)

last_is : (front : List ℕ) (x : ℕ) → last_of (front ++ x ∷ []) ≡ x
last_is [] x = refl
last_is (y ∷ []) x = refl
last_is (y ∷ z ∷ front) x = last_is (z ∷ front) x

module _ {X : Type 0} (pid_at : ℕ → Option ℕ) (all : (v : ℕ) → (pid : ℕ) × (pid_at v ≡ Some pid)) (items : ℕ → List X) where
  abbrev pids_of : ℕ → List ℕ
  pids_of n = pids pid_at all items n

  abbrev items_on : ℕ → ℕ → List X
  items_on n pid = on pid_at all items n pid

  -- so many come before a version
  abbrev pub items_before : ℕ → ℕ
  items_before v = sum_by (λ u. length (items u)) (range_with_len 0 v)

  -- the PIDs of the versions up to one end with its own
  ends_with : (m : ℕ) → last_of (pids_of (suc m)) ≡ (all m).0
  ends_with m = ap last_of (pids_next pid_at all items m) ∙ by_last (with_last_is (pids_of m) (all m).0)
    where
      by_last : ((front : List ℕ) × (pids_of m ≡ front ++ (all m).0 ∷ []) × (with_last (pids_of m) (all m).0 ≡ pids_of m))
          ⊎ (with_last (pids_of m) (all m).0 ≡ pids_of m ++ (all m).0 ∷ []) → last_of (with_last (pids_of m) (all m).0) ≡ (all m).0
      by_last (inl (front, whole, same)) = ap last_of (same ∙ whole) ∙ last_is front (all m).0
      by_last (inr more) = ap last_of more ∙ last_is (pids_of m) (all m).0

  -- on a PID the numbers go on from a first one
  abbrev GoesOn : ℕ → ℕ → ℕ → Type 0
  GoesOn n pid first = (v : ℕ) → v < n → has_pid (pid_at v) pid ≡ true → items_before v ≡ first + length (items_on v pid)

  own_pid : (v pid : ℕ) → has_pid (pid_at v) pid ≡ true → (all v).0 ≡ pid
  own_pid v pid is = eqb-true (all v).0 pid (sym (ap (λ (o : Option ℕ). has_pid o pid) (all v).1) ∙ is)

  pub goes_on : (n pid : ℕ) → twice (pids_of n) ≡ false → (first : ℕ) × ((v : ℕ) → v < n → has_pid (pid_at v) pid ≡ true → items_before v ≡ first + length (items_on v pid))
  goes_on zero pid once = (0, λ v less is. absurd (omega (arith, less)))
  goes_on (suc n) pid once = by_last (with_last_is (pids_of n) (all n).0) (λ before. goes_on n pid before)
    where
      next : pids_of (suc n) ≡ with_last (pids_of n) (all n).0
      next = pids_next pid_at all items n

      -- the version has another PID
      as_before : eqb (all n).0 pid ≡ false → (first : ℕ) × GoesOn n pid first → (first : ℕ) × GoesOn (suc n) pid first
      as_before other (first, each) = (first, λ v less is. of_place v is (cases_lt v n) less)
        where
          of_place : (v : ℕ) → has_pid (pid_at v) pid ≡ true → (v < n) ⊎ (n ≤ v) → v < suc n → items_before v ≡ first + length (items_on v pid)
          of_place v is (inl before) less = each v before is
          of_place v is (inr le) less =
              let here : v ≡ n = omega (arith, le, less) in
              absurd (cc (ap (λ (i : ℕ). has_pid (pid_at i) pid) (sym here) ∙ is, ap (λ (o : Option ℕ). has_pid o pid) (all n).1, other))

      -- it has the PID, and its number is known
      with_own : (first : ℕ) → GoesOn n pid first → items_before n ≡ first + length (items_on n pid) → (start : ℕ) × GoesOn (suc n) pid start
      with_own first each own = (first, λ v less is. of_place v is (cases_lt v n) less)
        where
          of_place : (v : ℕ) → has_pid (pid_at v) pid ≡ true → (v < n) ⊎ (n ≤ v) → v < suc n → items_before v ≡ first + length (items_on v pid)
          of_place v is (inl before) less = each v before is
          of_place v is (inr le) less =
              let here : n ≡ v = omega (arith, le, less) in
              ap items_before (sym here) ∙ own ∙ ap (λ (i : ℕ). first + length (items_on i pid)) here

      -- the version before has it too
      after_own : (m : ℕ) → n ≡ suc m → (front : List ℕ) → pids_of n ≡ front ++ (all n).0 ∷ [] → (all n).0 ≡ pid
          → (first : ℕ) × GoesOn n pid first → (start : ℕ) × GoesOn (suc n) pid start
      after_own m e front whole own (first, each) =
          let same : (all m).0 ≡ pid
          = sym (ends_with m) ∙ ap (λ (i : ℕ). last_of (pids_of i)) (sym e) ∙ ap last_of whole ∙ last_is front (all n).0 ∙ own in
          let has : has_pid (pid_at m) pid ≡ true = ap (λ (o : Option ℕ). has_pid o pid) (all m).1 ∙ eq-eqb (all m).0 pid same in
          let test : eqb (all m).0 pid ≡ true = eq-eqb (all m).0 pid same in
          let one : suc m ≡ m + 1 = omega arith in
          let grown : items_on n pid ≡ items_on m pid ++ items m
          = ap (λ (i : ℕ). items_on i pid) e ∙ on_next pid_at all items m pid ∙ ap (λ (b : Bool). items_on m pid ++ cond b (items m) []) test in
          with_own first each
          (omega (
            arith,
            ap items_before (e ∙ one),
            sum_next (λ u. length (items u)) m,
            each m (omega (arith, e)) has,
            ap (λ (l : List X). length l) grown,
            length-append (items_on m pid) (items m),
          ))

      -- none before has it
      first_own : is_in (all n).0 (pids_of n) ≡ false → (all n).0 ≡ pid → (start : ℕ) × GoesOn (suc n) pid start
      first_own absent own =
          let none : items_on n pid ≡ [] = nothing_on pid_at all items n pid (ap (λ (p : ℕ). is_in p (pids_of n)) (sym own) ∙ absent) in
          with_own (items_before n)
          (λ v less is. absurd (cc (there pid_at all items n v less, ap (λ (p : ℕ). is_in p (pids_of n)) (own_pid v pid is ∙ sym own), absent)))
          (omega (arith, ap (λ (l : List X). length l) none))

      by_pid : (own : Bool) → eqb (all n).0 pid ≡ own → ((all n).0 ≡ pid → (start : ℕ) × GoesOn (suc n) pid start) → (first : ℕ) × GoesOn n pid first
          → (first : ℕ) × GoesOn (suc n) pid first
      by_pid true e has before = has (eqb-true (all n).0 pid e)
      by_pid false e has before = as_before e before

      not_none : (front : List ℕ) → pids_of n ≡ front ++ (all n).0 ∷ [] → (m : ℕ) × (n ≡ suc m)
      not_none front whole = of_number n refl
        where
          of_number : (i : ℕ) → n ≡ i → (m : ℕ) × (n ≡ suc m)
          of_number zero e = absurd (omega (arith, ap (λ (l : List ℕ). length l) (ap pids_of (sym e) ∙ whole), length-append front ((all n).0 ∷ [])))
          of_number (suc m) e = (m, e)

      by_last : ((front : List ℕ) × (pids_of n ≡ front ++ (all n).0 ∷ []) × (with_last (pids_of n) (all n).0 ≡ pids_of n))
          ⊎ (with_last (pids_of n) (all n).0 ≡ pids_of n ++ (all n).0 ∷ [])
          → (twice (pids_of n) ≡ false → (first : ℕ) × GoesOn n pid first) → (first : ℕ) × GoesOn (suc n) pid first
      by_last (inl (front, whole, same)) before =
          let earlier : (first : ℕ) × GoesOn n pid first = before (sym (ap twice (next ∙ same)) ∙ once) in
          let last : (m : ℕ) × (n ≡ suc m) = not_none front whole in
          by_pid (eqb (all n).0 pid) refl (λ own. after_own last.0 last.1 front whole own earlier) earlier
      by_last (inr more) before =
          let single : twice (pids_of n ++ (all n).0 ∷ []) ≡ false = sym (ap twice (next ∙ more)) ∙ once in
          by_pid (eqb (all n).0 pid) refl (λ own. first_own (absent single) own) (before (twice_first (pids_of n) ((all n).0 ∷ []) single))
        where
          absent : twice (pids_of n ++ (all n).0 ∷ []) ≡ false → is_in (all n).0 (pids_of n) ≡ false
          absent single = by_test (is_in (all n).0 (pids_of n)) refl
            where
              by_test : (is : Bool) → is_in (all n).0 (pids_of n) ≡ is → is ≡ false
              by_test false e = refl
              by_test true e =
                  let apart : is_in (all n).0 ((all n).0 ∷ []) ≡ false = (twice_parts (pids_of n) ((all n).0 ∷ []) single).1 (all n).0 e in
                  let here : is_in (all n).0 ((all n).0 ∷ []) ≡ true = or_left (eqb (all n).0 (all n).0) false (eq-eqb (all n).0 (all n).0 refl) in
                  absurd (cc)
