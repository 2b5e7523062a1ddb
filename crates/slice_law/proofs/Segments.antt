-- Parts of the frames of a service.
use Rattle.std.proofs.Common.{◌≡◌, ℕ, ◌+◌, ◌%◌, ◌<◌, ◌≤◌, Bool, true, false, not, ◌&&◌, ◌||◌, eqb, ltb, leb, get_or, List, [], ◌∷◌, ◌++◌, length, map, refl, sym, ap, ap₂, subst, ◌∙◌, arith, length-append}
use Rattle.std.specs.Prelude.{Contains}
use Rattle.std.proofs.lemmas.List.{get_or_append_left, get_or-append-add, get_or_past}
use Rattle.slice_spec.specs.Sections.{Timing, indexed, sliced, SectionTime}
use Rattle.slice_spec.specs.Frames.{IsOf, IsTimed, IsIndexed, HasTiming}
use Rattle.slice_spec.specs.Bursts.{Slicing, Burst, time_in, times_of}

module _ (front rest : List (List SectionTime)) where
  in_front : (i : ℕ) (x : SectionTime) → IsOf front i x → (i < length front) × IsOf (front ++ rest) i x
  in_front i x is = by_order (leb (length front) i) refl
    where
      by_order : (past : Bool) → leb (length front) i ≡ past → (i < length front) × IsOf (front ++ rest) i x
      by_order false e =
          let less : i < length front = grind (arith, e) in
          (less, subst (λ (frame : List SectionTime). Contains frame x) (sym (get_or_append_left front rest [] i less)) is)
      by_order true e =
          let past : length front ≤ i = grind (arith, e) in
          let none : length (get_or front i []) ≡ 0 = ap (λ (l : List SectionTime). length l) (get_or_past front i [] past) in
          absurd (omega (arith, is.1, none))

  in_rest : (i : ℕ) (x : SectionTime) → IsOf rest i x → IsOf (front ++ rest) (length front + i) x
  in_rest i x is = subst (λ (frame : List SectionTime). Contains frame x) (sym (get_or-append-add front rest i [])) is

  pub timed_front : (ten : ℕ) → IsTimed ten (front ++ rest) → IsTimed ten front
  timed_front ten timed = record {
    within = λ i x y is is2. timed.within i x y (in_front i x is).1 (in_front i y is2).1;
    after = λ i j x y less is is2. timed.after i j x y less (in_front i x is).1 (in_front j y is2).1;
    last = λ i x is none. omega (arith, timed.last i x (in_front i x is).1 none, length-append front rest, (in_front i x is).0);
  }

  timed_rest : (ten : ℕ) → IsTimed ten (front ++ rest) → IsTimed ten rest
  timed_rest ten timed = record {
    within = λ i x y is is2. timed.within (length front + i) x y (in_rest i x is) (in_rest i y is2);
    after = λ i j x y less is is2. timed.after (length front + i) (length front + j) x y (omega (arith, less)) (in_rest i x is) (in_rest j y is2);
    last = λ i x is none. omega (arith, timed.last (length front + i) x (in_rest i x is) none, length-append front rest);
  }

  indexed_front : (first : ℕ) → IsIndexed first (front ++ rest) → IsIndexed first front
  indexed_front first numbered = record { index = λ i x is. numbered.index i x (in_front i x is).1 }

  indexed_rest : (first : ℕ) → IsIndexed first (front ++ rest) → IsIndexed (first + length front) rest
  indexed_rest first numbered = record { index = index }
    where
      index : (i : ℕ) (x : SectionTime) → IsOf rest i x → x.delta ≡ (first + length front + i) % 4096
      index i x is =
          let sum : first + (length front + i) ≡ first + length front + i = omega arith in
          numbered.index (length front + i) x (in_rest i x is) ∙ ap (λ (n : ℕ). n % 4096) sum

pub has_front : (timing : Timing) (first : ℕ) (front rest : List (List SectionTime)) → HasTiming timing first (front ++ rest) → HasTiming timing first front
has_front indexed first front rest has = indexed_front front rest first has
has_front (sliced ten) first front rest has = timed_front front rest ten has

pub has_rest : (timing : Timing) (first : ℕ) (front rest : List (List SectionTime)) → HasTiming timing first (front ++ rest) → HasTiming timing (first + length front) rest
has_rest indexed first front rest has = indexed_rest front rest first has
has_rest (sliced ten) first front rest has = timed_rest front rest ten has

-- the last of a front is the last of all exactly where nothing follows
last_of : (goes_on : Bool) (m n : ℕ) → (not goes_on && eqb (m + n) 0) ≡ (not (goes_on || ltb 0 n) && eqb m 0)
last_of true m n = refl
last_of false m n = by_tests (ltb 0 n) refl (eqb (m + n) 0) refl (eqb m 0) refl
  where
    by_tests : (some : Bool) → ltb 0 n ≡ some → (none : Bool) → eqb (m + n) 0 ≡ none → (first : Bool) → eqb m 0 ≡ first → none ≡ (not some && first)
    by_tests true e true e2 first e3 = absurd (grind (arith, e, e2))
    by_tests true e false e2 first e3 = refl
    by_tests false e true e2 true e3 = refl
    by_tests false e true e2 false e3 = absurd (grind (arith, e, e2, e3))
    by_tests false e false e2 true e3 = absurd (grind (arith, e, e2, e3))
    by_tests false e false e2 false e3 = refl

pub times_of-append : (s : Slicing) (goes_on : Bool) (front rest : List Burst)
    → times_of s goes_on (front ++ rest) ≡ times_of s (goes_on || ltb 0 (length rest)) front ++ times_of s goes_on rest
times_of-append s goes_on [] rest = refl
times_of-append s goes_on (burst ∷ front) rest =
    ap₂ (λ (last : Bool) (later : List (List SectionTime)). map (time_in s last burst.cycle) burst.places ∷ later) same (times_of-append s goes_on front rest)
  where
    same : (not goes_on && eqb (length (front ++ rest)) 0) ≡ (not (goes_on || ltb 0 (length rest)) && eqb (length front) 0)
    same = ap (λ (n : ℕ). not goes_on && eqb n 0) (length-append front rest) ∙ last_of goes_on (length front) (length rest)
