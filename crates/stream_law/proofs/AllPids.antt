-- The datagrams on the PIDs of a service, one PID after another, are those of all versions.
use Rattle.std.proofs.Common.{◌≡◌, ◌⊎◌, inl, inr, ℕ, zero, suc, ◌+◌, ◌<◌, ◌≤◌, Bool, true, false, cond, eqb, List, [], ◌∷◌, ◌++◌, length, map, fold, refl, sym, ap, ap₂, ◌∙◌, arith, Option, Some, None}
use Rattle.std.specs.Prelude.{flat_map, is_some}
use Rattle.std.specs.List.{range_with_len}
use Rattle.std.proofs.lemmas.Bool.{or_parts, or_left, or_right, eqb-true, eq-eqb, cases_lt}
use Rattle.std.proofs.lemmas.List.{map-append, append-nil, append_assoc}
use Rattle.std.proofs.lemmas.List.Sums.{fold-append}
use Rattle.std.proofs.lemmas.Grind.{flat_map-append}
use Rattle.plan_spec.specs.Plan.{KindFields, ule, mpe, fec, gse, PlanFields, pid_of}
use Rattle.plan_spec.specs.Changes.{with_pid, pid_in, has_pid, pids_in, with_last, with_pid_behind, versions}
use Rattle.plan_spec.specs.Wholes.{is_whole_plan}
use Rattle.plan_law.proofs.Pids.{is_in, twice}
use Rattle.stream_spec.specs.Services.{kind_at, datagrams_on}
use Rattle.stream_law.proofs.Ranges.{range_append, flat_map_same}
use Rattle.stream_law.proofs.Lists.{in_both, twice_parts, twice_first}
use Rattle.stream_law.proofs.Kept.{part_kept, pid_of_version}
use Rattle.stream_law.proofs.PidsIn.{with_last_is}
use Rattle.stream_law.proofs.Wholes.{pids_not_twice}

in_first : (x : ℕ) (first second : List ℕ) → is_in x first ≡ true → is_in x (first ++ second) ≡ true
in_first x first second there = in_both x first second (inl there)

in_last : (x : ℕ) (first : List ℕ) → is_in x (first ++ x ∷ []) ≡ true
in_last x first = in_both x first (x ∷ []) (inr (or_left (eqb x x) false (eq-eqb x x refl)))

-- what is the same of each number of a list
same_on : {X : Type 0} (g h : ℕ → List X) (xs : List ℕ) → ((x : ℕ) → is_in x xs ≡ true → g x ≡ h x) → flat_map g xs ≡ flat_map h xs
same_on g h [] each = refl
same_on {X} g h (x ∷ xs) each =
    ap₂ (λ (a b : List X). a ++ b) (each x (or_left (eqb x x) (is_in x xs) (eq-eqb x x refl)))
    (same_on g h xs (λ y there. each y (or_right (eqb y x) (is_in y xs) there)))

-- PIDs by number, each a PID, and what goes with each number.
module _ {X : Type 0} (pid_at : ℕ → Option ℕ) (all : (v : ℕ) → (pid : ℕ) × (pid_at v ≡ Some pid)) (items : ℕ → List X) where
  abbrev pub pids : ℕ → List ℕ
  pids n = fold with_pid_behind [] (map pid_at (range_with_len 0 n))

  -- what is on a PID
  abbrev pub on : ℕ → ℕ → List X
  on n pid = flat_map (λ v. cond (has_pid (pid_at v) pid) (items v) []) (range_with_len 0 n)

  numbers_next : (n : ℕ) → range_with_len 0 (suc n) ≡ range_with_len 0 n ++ n ∷ []
  numbers_next n = let one : suc n ≡ n + 1 = omega arith in ap (range_with_len 0) one ∙ range_append 0 n 1 n (omega arith)

  pub pids_next : (n : ℕ) → pids (suc n) ≡ with_last (pids n) (all n).0
  pids_next n =
      ap (λ (l : List ℕ). fold with_pid_behind [] (map pid_at l)) (numbers_next n)
      ∙ ap (λ (l : List (Option ℕ)). fold with_pid_behind [] l) (map-append pid_at (range_with_len 0 n) (n ∷ []))
      ∙ fold-append with_pid_behind [] (map pid_at (range_with_len 0 n)) (pid_at n ∷ [])
      ∙ ap (λ (o : Option ℕ). with_pid_behind (pids n) o) (all n).1

  pub on_next : (n pid : ℕ) → on (suc n) pid ≡ on n pid ++ cond (eqb (all n).0 pid) (items n) []
  on_next n pid =
      ap (flat_map (λ v. cond (has_pid (pid_at v) pid) (items v) [])) (numbers_next n)
      ∙ flat_map-append (λ v. cond (has_pid (pid_at v) pid) (items v) []) (range_with_len 0 n) (n ∷ [])
      ∙ ap (λ (l : List X). on n pid ++ l) (append-nil (cond (has_pid (pid_at n) pid) (items n) []) ∙ ap (λ (o : Option ℕ). cond (has_pid o pid) (items n) []) (all n).1)

  -- each PID of the numbers before is there
  pub there : (n v : ℕ) → v < n → is_in (all v).0 (pids n) ≡ true
  there zero v less = absurd (omega (arith, less))
  there (suc n) v less = ap (is_in (all v).0) (pids_next n) ∙ by_last (with_last_is (pids n) (all n).0) (cases_lt v n) (λ before. there n v before)
    where
      last : n ≤ v → v ≡ n
      last le = omega (arith, less, le)

      by_last : ((front : List ℕ) × (pids n ≡ front ++ (all n).0 ∷ []) × (with_last (pids n) (all n).0 ≡ pids n)) ⊎ (with_last (pids n) (all n).0 ≡ pids n ++ (all n).0 ∷ [])
          → (v < n) ⊎ (n ≤ v) → (v < n → is_in (all v).0 (pids n) ≡ true) → is_in (all v).0 (with_last (pids n) (all n).0) ≡ true
      by_last (inl (front, whole, same)) (inl before) earlier = ap (is_in (all v).0) same ∙ earlier before
      by_last (inl (front, whole, same)) (inr le) earlier =
          ap (is_in (all v).0) (same ∙ whole ∙ ap (λ (i : ℕ). front ++ (all i).0 ∷ []) (sym (last le))) ∙ in_last (all v).0 front
      by_last (inr more) (inl before) earlier = ap (is_in (all v).0) more ∙ in_first (all v).0 (pids n) ((all n).0 ∷ []) (earlier before)
      by_last (inr more) (inr le) earlier =
          ap (is_in (all v).0) (more ∙ ap (λ (i : ℕ). pids n ++ (all i).0 ∷ []) (sym (last le))) ∙ in_last (all v).0 (pids n)

  -- so that on another PID there is nothing
  pub nothing_on : (n pid : ℕ) → is_in pid (pids n) ≡ false → on n pid ≡ []
  nothing_on n pid absent = flat_map_same (λ v. cond (has_pid (pid_at v) pid) (items v) []) nothing 0 n (λ v less. other v (omega (arith, less))) ∙ none 0 n
    where
      nothing : ℕ → List X
      nothing v = []

      none : (a m : ℕ) → flat_map nothing (range_with_len a m) ≡ []
      none a zero = refl
      none a (suc m) = none (a + 1) m

      other : (v : ℕ) → v < n → cond (has_pid (pid_at v) pid) (items v) [] ≡ []
      other v less = ap (λ (o : Option ℕ). cond (has_pid o pid) (items v) []) (all v).1 ∙ by_test (eqb (all v).0 pid) refl
        where
          by_test : (same : Bool) → eqb (all v).0 pid ≡ same → cond same (items v) [] ≡ []
          by_test true e = absurd (cc (ap (λ (p : ℕ). is_in p (pids n)) (sym (eqb-true (all v).0 pid e)), there n v less, absent))
          by_test false e = refl

  -- of PIDs that are not the one of a number, it adds nothing
  before_next : (n : ℕ) (front : List ℕ) → ((x : ℕ) → is_in x front ≡ true → is_in x ((all n).0 ∷ []) ≡ false) → flat_map (on (suc n)) front ≡ flat_map (on n) front
  before_next n front apart = same_on (on (suc n)) (on n) front (λ x is. on_next n x ∙ ap (λ (b : Bool). on n x ++ cond b (items n) []) (other x (apart x is)) ∙ append-nil (on n x))
    where
      other : (x : ℕ) → is_in x ((all n).0 ∷ []) ≡ false → eqb (all n).0 x ≡ false
      other x e = swapped x (all n).0 (or_parts (eqb x (all n).0) false e).0
        where
          swapped : (a b : ℕ) → eqb a b ≡ false → eqb b a ≡ false
          swapped a b e2 = grind (arith, e2)

  on_last : (n : ℕ) → on (suc n) (all n).0 ≡ on n (all n).0 ++ items n
  on_last n = on_next n (all n).0 ∙ ap (λ (b : Bool). on n (all n).0 ++ cond b (items n) []) (eq-eqb (all n).0 (all n).0 refl)

  pub all_on : (n : ℕ) → twice (pids n) ≡ false → flat_map (on n) (pids n) ≡ flat_map items (range_with_len 0 n)
  all_on zero none = refl
  all_on (suc n) none = by_last (with_last_is (pids n) (all n).0) (λ once. all_on n once)
    where
      ends : flat_map items (range_with_len 0 n) ++ items n ≡ flat_map items (range_with_len 0 (suc n))
      ends =
          sym (ap (flat_map items) (numbers_next n) ∙ flat_map-append items (range_with_len 0 n) (n ∷ [])
          ∙ ap (λ (l : List X). flat_map items (range_with_len 0 n) ++ l) (append-nil (items n)))

      -- the PIDs before, and the last
      of_last : (front : List ℕ) → twice (front ++ (all n).0 ∷ []) ≡ false
          → flat_map (on (suc n)) (front ++ (all n).0 ∷ []) ≡ flat_map (on n) (front ++ (all n).0 ∷ []) ++ items n
      of_last front once =
          flat_map-append (on (suc n)) front ((all n).0 ∷ [])
          ∙ ap₂ (λ (a b : List X). a ++ b) (before_next n front (twice_parts front ((all n).0 ∷ []) once).1) (append-nil (on (suc n) (all n).0) ∙ on_last n)
          ∙ sym (append_assoc (flat_map (on n) front) (on n (all n).0) (items n))
          ∙ ap (λ (l : List X). l ++ items n)
          (sym (flat_map-append (on n) front ((all n).0 ∷ []) ∙ ap (λ (l : List X). flat_map (on n) front ++ l) (append-nil (on n (all n).0))))

      by_last : ((front : List ℕ) × (pids n ≡ front ++ (all n).0 ∷ []) × (with_last (pids n) (all n).0 ≡ pids n)) ⊎ (with_last (pids n) (all n).0 ≡ pids n ++ (all n).0 ∷ [])
          → (twice (pids n) ≡ false → flat_map (on n) (pids n) ≡ flat_map items (range_with_len 0 n))
          → flat_map (on (suc n)) (pids (suc n)) ≡ flat_map items (range_with_len 0 (suc n))
      by_last (inl (front, whole, same)) before =
          let now : pids (suc n) ≡ front ++ (all n).0 ∷ [] = pids_next n ∙ same ∙ whole in
          ap (flat_map (on (suc n))) now
          ∙ of_last front (sym (ap twice now) ∙ none)
          ∙ ap (λ (l : List X). l ++ items n) (ap (flat_map (on n)) (sym whole) ∙ before (sym (ap twice (pids_next n ∙ same)) ∙ none))
          ∙ ends
      by_last (inr more) before =
          let now : pids (suc n) ≡ pids n ++ (all n).0 ∷ [] = pids_next n ∙ more in
          let once : twice (pids n ++ (all n).0 ∷ []) ≡ false = sym (ap twice now) ∙ none in
          ap (flat_map (on (suc n))) now
          ∙ of_last (pids n) once
          ∙ ap (λ (l : List X). l ++ items n)
          (flat_map-append (on n) (pids n) ((all n).0 ∷ [])
          ∙ ap₂ (λ (a b : List X). a ++ b) (before (twice_first (pids n) ((all n).0 ∷ []) once)) (append-nil (on n (all n).0) ∙ nothing_on n (all n).0 (absent once))
          ∙ append-nil (flat_map items (range_with_len 0 n)))
          ∙ ends
        where
          absent : twice (pids n ++ (all n).0 ∷ []) ≡ false → is_in (all n).0 (pids n) ≡ false
          absent once = by_test (is_in (all n).0 (pids n)) refl
            where
              by_test : (is : Bool) → is_in (all n).0 (pids n) ≡ is → is ≡ false
              by_test false e = refl
              by_test true e =
                  let apart : is_in (all n).0 ((all n).0 ∷ []) ≡ false = (twice_parts (pids n) ((all n).0 ∷ []) once).1 (all n).0 e in
                  let here : is_in (all n).0 ((all n).0 ∷ []) ≡ true = or_left (eqb (all n).0 (all n).0) false (eq-eqb (all n).0 (all n).0 refl) in
                  absurd (cc)

-- Of a service of transport packets.
pub has_pid_in : (plan : PlanFields) (k pid : ℕ) → pid_of (kind_at plan k) ≡ Some pid → (version : ℕ) → (own : ℕ) × (pid_in plan version k ≡ Some own)
has_pid_in plan k pid is version = by_pid (pid_in plan version k) refl (ap is_some (pid_of_version plan version k) ∙ part_kept (λ kind. is_some (pid_of kind)) stays plan version k ∙ ap is_some is)
  where
    stays : (kind : KindFields) (new : ℕ) → is_some (pid_of (with_pid kind new)) ≡ is_some (pid_of kind)
    stays (ule old address packing) new = refl
    stays (mpe old) new = refl
    stays (fec old rows parity window) new = refl
    stays (gse isi address) new = refl

    by_pid : (o : Option ℕ) → pid_in plan version k ≡ o → is_some o ≡ true → (own : ℕ) × (pid_in plan version k ≡ Some own)
    by_pid None e some = absurd (cc)
    by_pid (Some own) e some = (own, e)

-- what goes with each version, on one PID after another, is that of all versions
pub items_have_all : {X : Type 0} (plan : PlanFields) (items : ℕ → List X) (k pid : ℕ) → is_whole_plan plan ≡ true → k < length plan.services → pid_of (kind_at plan k) ≡ Some pid
    → flat_map (λ its. flat_map (λ version. cond (has_pid (pid_in plan version k) its) (items version) []) (versions plan)) (pids_in plan k) ≡ flat_map items (versions plan)
unfolding pids_in
items_have_all plan items k pid whole known is =
    all_on (λ version. pid_in plan version k) (has_pid_in plan k pid is) items (length plan.changes + 1) (pids_not_twice plan whole k known)

pub pids_have_all : (plan : PlanFields) (datagrams : ℕ → ℕ → List (List ℕ)) (k pid : ℕ) → is_whole_plan plan ≡ true → k < length plan.services → pid_of (kind_at plan k) ≡ Some pid
    → flat_map (datagrams_on plan datagrams k) (pids_in plan k) ≡ flat_map (λ version. datagrams version k) (versions plan)
pids_have_all plan datagrams k pid whole known is = items_have_all plan (λ version. datagrams version k) k pid whole known is
