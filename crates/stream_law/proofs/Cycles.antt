-- What stands in the first slots of each cycle, one cycle after another.
use Rattle.std.proofs.Common.{◌≡◌, ℕ, zero, suc, ◌+◌, ◌-◌, ◌*◌, ◌/◌, ◌%◌, ◌<◌, ◌≤◌, Bool, true, false, cond, ltb, List, [], ◌∷◌, ◌++◌, map, refl, sym, ap, ap₂, ◌∙◌, arith}
use Rattle.std.specs.Prelude.{flat_map}
use Rattle.std.specs.List.{range_with_len}
use Rattle.std.proofs.lemmas.List.{append-nil}
use Rattle.std.proofs.lemmas.Grind.{flat_map-append}
use Rattle.std.proofs.lemmas.Nat.{mod-mul-add, div-mul-add, div-add-mod'}
use Rattle.std.proofs.Math.Nat.{add-mul, add-div_right, mod-lt}
use Rattle.stream_law.specs.Words.{begun_cycles}
use Rattle.stream_law.proofs.Ranges.{range_append}

module _ {X : Type 0} (cycle table : ℕ) (less : table < cycle) (item : ℕ → ℕ → X) where
  -- what slot s gives: an item of its cycle, in one of the first slots
  abbrev pub given : ℕ → List X
  given s = cond (ltb (s % cycle) table) (item (s / cycle) (s % cycle) ∷ []) []

  -- the items of a cycle
  abbrev pub items : ℕ → List X
  items c = map (item c) (range_with_len 0 table)

  given_at : (c o : ℕ) → o < cycle → given (c * cycle + o) ≡ cond (ltb o table) (item c o ∷ []) []
  given_at c o below =
      ap₂ (λ (q r : ℕ). cond (ltb r table) (item q r ∷ []) []) (div-mul-add c cycle o below) (mod-mul-add c cycle o below)

  early : (m o c at : ℕ) → at ≡ c * cycle + o → o + m ≤ table → flat_map given (range_with_len at m) ≡ map (item c) (range_with_len o m)
  early zero o c at e le = refl
  early (suc m) o c at e le =
      let first : given at ≡ item c o ∷ [] = ap given e ∙ given_at c o (omega (arith, le, less)) ∙ within (omega (arith, le)) in
      ap₂ (λ (a b : List X). a ++ b) first (early m (o + 1) c (at + 1) (omega (arith, e)) (omega (arith, le)))
    where
      within : o < table → cond (ltb o table) (item c o ∷ []) [] ≡ item c o ∷ []
      within below = let is : ltb o table ≡ true = grind (arith, below) in ap (λ (b : Bool). cond b (item c o ∷ []) []) is

  late : (m o c at : ℕ) → at ≡ c * cycle + o → table ≤ o → o + m ≤ cycle → flat_map given (range_with_len at m) ≡ []
  late zero o c at e from le = refl
  late (suc m) o c at e from le =
      let first : given at ≡ [] = ap given e ∙ given_at c o (omega (arith, le)) ∙ behind in
      ap₂ (λ (a b : List X). a ++ b) first (late m (o + 1) c (at + 1) (omega (arith, e)) (omega (arith, from)) (omega (arith, le)))
    where
      behind : cond (ltb o table) (item c o ∷ []) [] ≡ []
      behind = let is : ltb o table ≡ false = grind (arith, from) in ap (λ (b : Bool). cond b (item c o ∷ []) []) is

  -- of a cycle that has all first slots
  one_cycle : (r c at : ℕ) → at ≡ c * cycle → table ≤ r → r ≤ cycle → flat_map given (range_with_len at r) ≡ items c
  one_cycle r c at e from le =
      let parts : r ≡ table + (r - table) = omega (arith, from) in
      ap (λ (n : ℕ). flat_map given (range_with_len at n)) parts
      ∙ ap (flat_map given) (range_append at table (r - table) (at + table) refl)
      ∙ flat_map-append given (range_with_len at table) (range_with_len (at + table) (r - table))
      ∙ ap₂ (λ (a b : List X). a ++ b) (early table 0 c at (omega (arith, e)) (omega arith)) (late (r - table) table c (at + table) (omega (arith, e)) (omega arith) (omega (arith, from, le)))
      ∙ append-nil (items c)

  all_cycles : (n r c at : ℕ) → at ≡ c * cycle → table ≤ r → r ≤ cycle → flat_map given (range_with_len at (n * cycle + r)) ≡ flat_map items (range_with_len c (suc n))
  all_cycles zero r c at e from le =
      let none : 0 * cycle + r ≡ r = omega arith in
      ap (λ (k : ℕ). flat_map given (range_with_len at k)) none ∙ one_cycle r c at e from le ∙ sym (append-nil (items c))
  all_cycles (suc n) r c at e from le =
      let first : suc n * cycle + r ≡ cycle + (n * cycle + r) = more_cycles in
      let next : at + cycle ≡ (c + 1) * cycle = next_cycle in
      ap (λ (k : ℕ). flat_map given (range_with_len at k)) first
      ∙ ap (flat_map given) (range_append at cycle (n * cycle + r) (at + cycle) refl)
      ∙ flat_map-append given (range_with_len at cycle) (range_with_len (at + cycle) (n * cycle + r))
      ∙ ap₂ (λ (a b : List X). a ++ b) (one_cycle cycle c at e (omega (arith, less)) (omega arith)) (all_cycles n r (c + 1) (at + cycle) next from le)
    where
      next_cycle : at + cycle ≡ (c + 1) * cycle
      next_cycle = omega (arith, e, add-mul c 1 cycle)

      more_cycles : suc n * cycle + r ≡ cycle + (n * cycle + r)
      more_cycles = let one : suc n ≡ n + 1 = omega arith in ap (λ (k : ℕ). k * cycle + r) one ∙ omega (arith, add-mul n 1 cycle)

  -- slots that end after the first ones of a cycle
  pub of_slots : (slots : ℕ) → ((s : ℕ) → slots ≡ s + 1 → table ≤ s % cycle) → flat_map given (range_with_len 0 slots) ≡ flat_map items (range_with_len 0 (begun_cycles cycle slots))
  of_slots zero last = sym (ap (λ (n : ℕ). flat_map items (range_with_len 0 n)) none)
    where
      none : begun_cycles cycle 0 ≡ 0
      none = let few : (0 * cycle + (cycle - 1)) / cycle ≡ 0 = div-mul-add 0 cycle (cycle - 1) (omega (arith, less)) in
          let same : 0 + cycle - 1 ≡ 0 * cycle + (cycle - 1) = omega (arith, less) in
          ap (λ (n : ℕ). n / cycle) same ∙ few
  of_slots (suc s) last =
      let whole : suc s ≡ s / cycle * cycle + (s % cycle + 1) = omega (arith, div-add-mod' s cycle) in
      let cycles : begun_cycles cycle (suc s) ≡ suc (s / cycle) = begun in
      ap (λ (n : ℕ). flat_map given (range_with_len 0 n)) whole
      ∙ all_cycles (s / cycle) (s % cycle + 1) 0 0 (omega arith) (omega (arith, last s (omega arith))) (omega (arith, mod-lt s {m = cycle} (omega (arith, less))))
      ∙ ap (λ (n : ℕ). flat_map items (range_with_len 0 n)) (sym cycles)
    where
      begun : begun_cycles cycle (suc s) ≡ suc (s / cycle)
      begun =
          let same : suc s + cycle - 1 ≡ s + cycle = omega arith in
          ap (λ (n : ℕ). n / cycle) same ∙ add-div_right s {k = cycle} (omega (arith, less)) ∙ omega arith
