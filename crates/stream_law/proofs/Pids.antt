-- PIDs that differ.
use Rattle.std.proofs.Common.{◌≡◌, ℕ, zero, suc, ◌<◌, Bool, true, false, ◌||◌, eqb, ltb, get_or, List, [], ◌∷◌, length, refl, ap, sym, ◌∙◌, arith, Option, Some, None}
use Rattle.std.specs.List.{cons_option, filter_map, list_any}
use Rattle.plan_spec.specs.Plan.{KindFields, pid_of}
use Rattle.plan_spec.specs.Checks.{has_pair}

pub neither : (a b : Bool) → (a || b) ≡ false → (a ≡ false) × (b ≡ false)
neither true b e = absurd (cc)
neither false b e = (refl, e)

abbrev pub same_pid : ℕ → ℕ → Bool
same_pid a b = eqb a b

-- what no PID of a list meets, that of none of the services does
pub none_meets : (p : ℕ → Bool) (d : KindFields) (kinds : List KindFields) → list_any p (filter_map pid_of kinds) ≡ false
    → (k pid : ℕ) → k < length kinds → pid_of (get_or kinds k d) ≡ Some pid → p pid ≡ false
none_meets p d [] none k pid less is = absurd (omega arith)
none_meets p d (kind ∷ kinds) none zero pid less is =
    (neither (p pid) (list_any p (filter_map pid_of kinds)) (sym (ap (λ (o : Option ℕ). list_any p (cons_option o (filter_map pid_of kinds))) is) ∙ none)).0
none_meets p d (kind ∷ kinds) none (suc k) pid less is = none_meets p d kinds (behind (pid_of kind) none) k pid (omega arith) is
  where
    behind : (o : Option ℕ) → list_any p (cons_option o (filter_map pid_of kinds)) ≡ false → list_any p (filter_map pid_of kinds) ≡ false
    behind None e = e
    behind (Some x) e = (neither (p x) (list_any p (filter_map pid_of kinds)) e).1

later_differs : (d : KindFields) (kinds : List KindFields) → has_pair same_pid (filter_map pid_of kinds) ≡ false
    → (j k a b : ℕ) → j < k → k < length kinds → pid_of (get_or kinds j d) ≡ Some a → pid_of (get_or kinds k d) ≡ Some b → eqb a b ≡ false
later_differs d [] none j k a b order less is is2 = absurd (omega arith)
later_differs d (kind ∷ kinds) none j zero a b order less is is2 = absurd (omega (arith, order))
later_differs d (kind ∷ kinds) none zero (suc k) a b order less is is2 =
    none_meets (same_pid a) d kinds
    (neither (list_any (same_pid a) (filter_map pid_of kinds)) (has_pair same_pid (filter_map pid_of kinds))
    (sym (ap (λ (o : Option ℕ). has_pair same_pid (cons_option o (filter_map pid_of kinds))) is) ∙ none)).0
    k b (omega arith) is2
later_differs d (kind ∷ kinds) none (suc j) (suc k) a b order less is is2 =
    later_differs d kinds (behind (pid_of kind) none) j k a b (omega (arith, order)) (omega arith) is is2
  where
    behind : (o : Option ℕ) → has_pair same_pid (cons_option o (filter_map pid_of kinds)) ≡ false → has_pair same_pid (filter_map pid_of kinds) ≡ false
    behind None e = e
    behind (Some x) e = (neither (list_any (same_pid x) (filter_map pid_of kinds)) (has_pair same_pid (filter_map pid_of kinds)) e).1

-- two services have two PIDs
pub services_differ : (d : KindFields) (kinds : List KindFields) → has_pair same_pid (filter_map pid_of kinds) ≡ false
    → (j k a b : ℕ) → eqb j k ≡ false → j < length kinds → k < length kinds → pid_of (get_or kinds j d) ≡ Some a → pid_of (get_or kinds k d) ≡ Some b → eqb a b ≡ false
services_differ d kinds none j k a b apart less less2 is is2 = by_order (ltb j k) refl
  where
    swapped : eqb b a ≡ false → eqb a b ≡ false
    swapped e = grind (arith, e)

    by_order : (before : Bool) → ltb j k ≡ before → eqb a b ≡ false
    by_order true e = later_differs d kinds none j k a b (grind (arith, e)) less2 is is2
    by_order false e = swapped (later_differs d kinds none k j b a (grind (arith, e, apart)) less is2 is)
