-- Bursts of cycles that follow one another, and of parts.
use Rattle.std.proofs.Common.{◌≡◌, ◌⊎◌, inl, inr, ℕ, zero, suc, ◌+◌, ◌<◌, List, [], ◌∷◌, ◌++◌, length, ap, arith, Some}
use Rattle.std.specs.Prelude.{Contains}
use Rattle.std.specs.List.{slice_get}
use Rattle.std.proofs.lemmas.Option.{slice_get_within, get_or_from_slice_get}
use Rattle.slice_spec.specs.Bursts.{Slicing, Burst, AreInWindows}
use Rattle.slice_law.specs.Cycles.{bursts_from}

-- burst i has cycle c + i and the places of frame i
burst_is : (c : ℕ) (frames : List (List ℕ)) (i : ℕ) (b : Burst) → slice_get (bursts_from c frames) i ≡ Some b → (b.cycle ≡ c + i) × (slice_get frames i ≡ Some b.places)
burst_is c [] i b is = absurd (cc)
burst_is c (places ∷ frames) zero b is = by_same (same_burst (record { cycle = c; places = places }) b is)
  where
    same_burst : (x y : Burst) → Some x ≡ Some y → x ≡ y
    same_burst x y e = cc

    by_same : record { cycle = c; places = places } ≡ b → (b.cycle ≡ c + zero) × (Some places ≡ Some b.places)
    by_same e = let cycle : c ≡ b.cycle = ap (λ (x : Burst). x.cycle) e in (omega (arith, cycle), ap (λ (x : Burst). Some x.places) e)
burst_is c (places ∷ frames) (suc i) b is =
    let later : (b.cycle ≡ c + 1 + i) × (slice_get frames i ≡ Some b.places) = burst_is (c + 1) frames i b is in
    (omega (arith, later.0), later.1)

pub in_a_row : (s : Slicing) (c : ℕ) (frames : List (List ℕ)) → ((places : List ℕ) (place : ℕ) → Contains frames places → Contains places place → place < s.length)
    → AreInWindows s (bursts_from c frames)
in_a_row s c frames below = record {
  within = λ i place b is in_it. below b.places place (contained i b (burst_is c frames i b is).1) in_it;
  later = λ i j a b less is is2. omega (arith, less, (burst_is c frames i a is).0, (burst_is c frames j b is2).0);
}
  where
    contained : (i : ℕ) (b : Burst) → slice_get frames i ≡ Some b.places → Contains frames b.places
    contained i b e = (i, slice_get_within frames i b.places e, get_or_from_slice_get frames i b.places b.places e)

-- an item of two lists, one after the other
split : (front rest : List Burst) (i : ℕ) (b : Burst) → slice_get (front ++ rest) i ≡ Some b
    → ((i < length front) × (slice_get front i ≡ Some b)) ⊎ ((k : ℕ) × (i ≡ length front + k) × (slice_get rest k ≡ Some b))
split [] rest i b is = inr (i, omega arith, is)
split (x ∷ front) rest zero b is = inl (omega arith, is)
split (x ∷ front) rest (suc i) b is = by_later (split front rest i b is)
  where
    by_later : ((i < length front) × (slice_get front i ≡ Some b)) ⊎ ((k : ℕ) × (i ≡ length front + k) × (slice_get rest k ≡ Some b))
        → ((suc i < suc (length front)) × (slice_get front i ≡ Some b)) ⊎ ((k : ℕ) × (suc i ≡ suc (length front) + k) × (slice_get rest k ≡ Some b))
    by_later (inl early) = inl (omega (arith, early.0), early.1)
    by_later (inr late) = inr (late.0, omega (arith, late.1), late.2)

pub of_parts : (s : Slicing) (front rest : List Burst) → AreInWindows s front → AreInWindows s rest
    → ((i j : ℕ) (a b : Burst) → slice_get front i ≡ Some a → slice_get rest j ≡ Some b → a.cycle < b.cycle) → AreInWindows s (front ++ rest)
of_parts s front rest first second apart = record {
  within = λ i place b is in_it. within i place b in_it (split front rest i b is);
  later = λ i j a b less is is2. later i j a b less (split front rest i a is) (split front rest j b is2);
}
  where
    within : (i place : ℕ) (b : Burst) → Contains b.places place
        → ((i < length front) × (slice_get front i ≡ Some b)) ⊎ ((k : ℕ) × (i ≡ length front + k) × (slice_get rest k ≡ Some b)) → place < s.length
    within i place b in_it (inl early) = first.within i place b early.1 in_it
    within i place b in_it (inr late) = second.within late.0 place b late.2 in_it

    later : (i j : ℕ) (a b : Burst) → i < j → ((i < length front) × (slice_get front i ≡ Some a)) ⊎ ((k : ℕ) × (i ≡ length front + k) × (slice_get rest k ≡ Some a))
        → ((j < length front) × (slice_get front j ≡ Some b)) ⊎ ((k : ℕ) × (j ≡ length front + k) × (slice_get rest k ≡ Some b)) → a.cycle < b.cycle
    later i j a b less (inl early) (inl early2) = first.later i j a b less early.1 early2.1
    later i j a b less (inl early) (inr late2) = apart i late2.0 a b early.1 late2.2
    later i j a b less (inr late) (inl early2) = absurd (omega (arith, less, late.1, early2.0))
    later i j a b less (inr late) (inr late2) = second.later late.0 late2.0 a b (omega (arith, less, late.1, late2.1)) late.2 late2.2
