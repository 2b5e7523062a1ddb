-- A PID of a service is that of one of the versions.
use Rattle.std.proofs.Common.{◌≡◌, ◌⊎◌, inl, inr, ℕ, zero, suc, ◌+◌, ◌<◌, ◌≤◌, Bool, true, false, cond, ◌||◌, eqb, List, [], ◌∷◌, ◌++◌, length, map, fold, refl, sym, ap, ◌∙◌, arith, Option, Some, None}
use Rattle.std.specs.List.{range_with_len}
use Rattle.std.proofs.lemmas.Bool.{eqb-true}
use Rattle.std.proofs.lemmas.List.Folds.{list_any-append}
use Rattle.plan_spec.specs.Plan.{PlanFields}
use Rattle.plan_spec.specs.Changes.{pid_in, pids_in, with_last, with_pid_behind}
use Rattle.plan_law.proofs.Pids.{is_in}

-- a PID behind others: they end with it, or it comes behind them
pub with_last_is : (pids : List ℕ) (pid : ℕ) → ((front : List ℕ) × (pids ≡ front ++ pid ∷ []) × (with_last pids pid ≡ pids)) ⊎ (with_last pids pid ≡ pids ++ pid ∷ [])
with_last_is [] pid = inr refl
with_last_is (last ∷ []) pid = by_test (eqb last pid) refl
  where
    by_test : (same : Bool) → eqb last pid ≡ same
        → ((front : List ℕ) × (last ∷ [] ≡ front ++ pid ∷ []) × (cond same (last ∷ []) (last ∷ pid ∷ []) ≡ last ∷ []))
        ⊎ (cond same (last ∷ []) (last ∷ pid ∷ []) ≡ last ∷ pid ∷ [])
    by_test true e = inl ([], ap (λ (n : ℕ). n ∷ []) (eqb-true last pid e), refl)
    by_test false e = inr refl
with_last_is (first ∷ next ∷ others) pid = by_rest (with_last_is (next ∷ others) pid)
  where
    by_rest : ((front : List ℕ) × (next ∷ others ≡ front ++ pid ∷ []) × (with_last (next ∷ others) pid ≡ next ∷ others)) ⊎ (with_last (next ∷ others) pid ≡ (next ∷ others) ++ pid ∷ [])
        → ((front : List ℕ) × (first ∷ next ∷ others ≡ front ++ pid ∷ []) × (first ∷ with_last (next ∷ others) pid ≡ first ∷ next ∷ others))
        ⊎ (first ∷ with_last (next ∷ others) pid ≡ (first ∷ next ∷ others) ++ pid ∷ [])
    by_rest (inl (front, whole, same)) = inl (first ∷ front, ap (λ (l : List ℕ). first ∷ l) whole, ap (λ (l : List ℕ). first ∷ l) same)
    by_rest (inr more) = inr (ap (λ (l : List ℕ). first ∷ l) more)

last_or_before : (x : ℕ) (pids : List ℕ) (pid : ℕ) → is_in x (with_last pids pid) ≡ true → (is_in x pids ≡ true) ⊎ (x ≡ pid)
last_or_before x pids pid there = by_last (with_last_is pids pid)
  where
    among : (a : Bool) → is_in x pids ≡ a → (b : Bool) → eqb x pid ≡ b → (a || (b || false)) ≡ true → (is_in x pids ≡ true) ⊎ (x ≡ pid)
    among true e b e2 is = inl e
    among false e true e2 is = inr (eqb-true x pid e2)
    among false e false e2 is = absurd (cc)

    by_last : ((front : List ℕ) × (pids ≡ front ++ pid ∷ []) × (with_last pids pid ≡ pids)) ⊎ (with_last pids pid ≡ pids ++ pid ∷ []) → (is_in x pids ≡ true) ⊎ (x ≡ pid)
    by_last (inl (front, whole, same)) = inl (sym (ap (is_in x) same) ∙ there)
    by_last (inr more) = among (is_in x pids) refl (eqb x pid) refl (sym (ap (is_in x) more ∙ list_any-append (λ y. eqb x y) pids (pid ∷ [])) ∙ there)

abbrev IsFrom : (ℕ → Option ℕ) → ℕ → ℕ → ℕ → Type 0
IsFrom pid_at start n x = (v : ℕ) × (start ≤ v) × (v < start + n) × (pid_at v ≡ Some x)

from_one : (pid_at : ℕ → Option ℕ) (pids : List ℕ) (start n x : ℕ) → is_in x (fold with_pid_behind pids (map pid_at (range_with_len start n))) ≡ true
    → (is_in x pids ≡ true) ⊎ IsFrom pid_at start n x
from_one pid_at pids start zero x there = inl there
from_one pid_at pids start (suc n) x there = by_rest (from_one pid_at (with_pid_behind pids (pid_at start)) (start + 1) n x there)
  where
    by_first : (o : Option ℕ) → pid_at start ≡ o → is_in x (with_pid_behind pids o) ≡ true → (is_in x pids ≡ true) ⊎ IsFrom pid_at start (suc n) x
    by_first None e is = inl is
    by_first (Some pid) e is = by_last (last_or_before x pids pid is)
      where
        by_last : (is_in x pids ≡ true) ⊎ (x ≡ pid) → (is_in x pids ≡ true) ⊎ IsFrom pid_at start (suc n) x
        by_last (inl before) = inl before
        by_last (inr same) = inr (start, omega arith, omega arith, e ∙ ap (λ (p : ℕ). Some p) (sym same))

    by_rest : (is_in x (with_pid_behind pids (pid_at start)) ≡ true) ⊎ IsFrom pid_at (start + 1) n x → (is_in x pids ≡ true) ⊎ IsFrom pid_at start (suc n) x
    by_rest (inl is) = by_first (pid_at start) refl is
    by_rest (inr (v, from, below, is)) = inr (v, omega (arith, from), omega (arith, below), is)

pub of_a_version : (plan : PlanFields) (k x : ℕ) → is_in x (pids_in plan k) ≡ true → (version : ℕ) × (version ≤ length plan.changes) × (pid_in plan version k ≡ Some x)
unfolding pids_in
of_a_version plan k x there = by_side (from_one (λ version. pid_in plan version k) [] 0 (length plan.changes + 1) x there)
  where
    by_side : (is_in x [] ≡ true) ⊎ IsFrom (λ version. pid_in plan version k) 0 (length plan.changes + 1) x
        → (version : ℕ) × (version ≤ length plan.changes) × (pid_in plan version k ≡ Some x)
    by_side (inl none) = absurd (cc)
    by_side (inr (v, from, below, is)) = (v, omega (arith, below), is)
