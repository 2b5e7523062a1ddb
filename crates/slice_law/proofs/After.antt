-- After all bursts no slot is kept for a service, and always some slot is kept for nothing.
use Rattle.std.proofs.Common.{◌≡◌, ℕ, ◌+◌, ◌*◌, ◌/◌, ◌%◌, ◌<◌, ◌≤◌, Bool, true, false, cond, ltb, List, refl, sym, ap, ap₂, ◌∙◌, arith, Option, Some, None}
use Rattle.std.specs.Prelude.{slice_index}
use Rattle.std.specs.Option.{option_or}
use Rattle.std.proofs.lemmas.List.{get_or_past}
use Rattle.std.proofs.lemmas.Nat.{le-div, div-mul-add, mod-mul-add}
use Rattle.std.proofs.Math.Nat.{le-mul_of_pos_right}
use Rattle.stream_spec.specs.Slots.{Slot, of_table, of_service, empty, is_of_service}
use Rattle.slice_spec.specs.Windows.{OwnedWindow, owner_of}
use Rattle.stream_spec.specs.Windows.{out_before, of_owner, sliced_at, kept_for_bursts}
use Rattle.slice_law.specs.Kept.{AreWithin}

module _ (cycle table : ℕ) (windows : List OwnedWindow) (sizes : ℕ → List ℕ) (cycles : ℕ) (are : AreWithin cycles sizes) (less : table < cycle) where
  -- a cycle after all bursts has none
  none_in : (c : ℕ) → cycles ≤ c → (owner : Option (ℕ × ℕ)) → of_owner sizes c owner ≡ None
  none_in c late None = refl
  none_in c late (Some owner) = ap (λ (b : Bool). cond b (Some (of_service owner.0 (out_before (sizes owner.0) c + owner.1))) None) over
    where
      over : ltb owner.1 (slice_index (sizes owner.0) c) ≡ false
      over = not_less owner.1 (slice_index (sizes owner.0) c) (get_or_past (sizes owner.0) c 0 (omega (arith, are owner.0, late)))
        where
          not_less : (a b : ℕ) → b ≡ 0 → ltb a b ≡ false
          not_less a b e = grind (arith, e)

  pub keeps_none : (s : ℕ) (slot : Slot) → cycles * cycle ≤ s → kept_for_bursts cycle table windows sizes s ≡ Some slot → is_of_service slot ≡ false
  keeps_none s slot late e = by_test (ltb (s % cycle) table) (sym (rest (ltb (s % cycle) table)) ∙ e)
    where
      in_time : cycles ≤ s / cycle
      in_time = le-div cycles s cycle (omega (arith, less)) late

      rest : (early : Bool) → option_or (cond early (Some (of_table (s % cycle))) None) (sliced_at cycle windows sizes s) ≡ option_or (cond early (Some (of_table (s % cycle))) None) None
      rest early = ap (λ (o : Option Slot). option_or (cond early (Some (of_table (s % cycle))) None) o) (none_in (s / cycle) in_time (owner_of windows (s % cycle)))

      by_test : (early : Bool) → option_or (cond early (Some (of_table (s % cycle))) None) None ≡ Some slot → is_of_service slot ≡ false
      by_test true kept = let same : of_table (s % cycle) ≡ slot = cc in rw (← same) refl
      by_test false kept = absurd (cc)

  pub leaves : (s : ℕ) → (free : ℕ) × (s ≤ free) × (kept_for_bursts cycle table windows sizes free ≡ None)
  leaves s = (
    (cycles + s) * cycle + table,
    omega (arith, le-mul_of_pos_right {m = cycle} (cycles + s) (omega (arith, less))),
    none,
  )
    where
      free : ℕ
      free = (cycles + s) * cycle + table

      none : kept_for_bursts cycle table windows sizes free ≡ None
      none =
          let q : free / cycle ≡ cycles + s = div-mul-add (cycles + s) cycle table less in
          let r : free % cycle ≡ table = mod-mul-add (cycles + s) cycle table less in
          ap₂ (λ (c o : ℕ). option_or (cond (ltb o table) (Some (of_table o)) None) (of_owner sizes c (owner_of windows o))) q r
          ∙ ap (λ (b : Bool). option_or (cond b (Some (of_table table)) None) (of_owner sizes (cycles + s) (owner_of windows table))) self
          ∙ none_in (cycles + s) (omega arith) (owner_of windows table)
        where
          self : ltb table table ≡ false
          self = grind arith

-- a slot is kept for no service without a window
pub keeps_none_of : (cycle table : ℕ) (windows : List OwnedWindow) (sizes : ℕ → List ℕ) (k : ℕ) → ((o n : ℕ) → owner_of windows o ≡ Some (k, n) → ⊥)
    → (s p : ℕ) → kept_for_bursts cycle table windows sizes s ≡ Some (of_service k p) → ⊥
keeps_none_of cycle table windows sizes k never s p e = by_table (ltb (s % cycle) table) (owner_of windows (s % cycle)) refl e
  where
    service_in : Option Slot → ℕ
    service_in None = 0
    service_in (Some (of_table n)) = 0
    service_in (Some (of_service j n)) = j
    service_in (Some empty) = 0

    by_held : (j n : ℕ) → owner_of windows (s % cycle) ≡ Some (j, n) → (more : Bool)
        → cond more (Some (of_service j (out_before (sizes j) (s / cycle) + n))) None ≡ Some (of_service k p) → ⊥
    by_held j n is false e2 = absurd (cc)
    by_held j n is true e2 = let same : j ≡ k = ap service_in e2 in never (s % cycle) n (is ∙ ap (λ (i : ℕ). Some (i, n)) same)

    by_table : (early : Bool) (owner : Option (ℕ × ℕ)) → owner_of windows (s % cycle) ≡ owner
        → option_or (cond early (Some (of_table (s % cycle))) None) (of_owner sizes (s / cycle) owner) ≡ Some (of_service k p) → ⊥
    by_table true owner is e2 = absurd (cc)
    by_table false None is e2 = absurd (cc)
    by_table false (Some owner) is e2 = by_held owner.0 owner.1 is (ltb owner.1 (slice_index (sizes owner.0) (s / cycle))) e2
