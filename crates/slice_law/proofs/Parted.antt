-- Receiving: sections of one frame belong together, and those of two do not.
use Rattle.std.proofs.Common.{◌≡◌, ℕ, ◌+◌, ◌*◌, ◌%◌, ◌<◌, ◌≤◌, Bool, true, false, not, ◌&&◌, eqb, ltb, leb, List, [], length, get_or, refl, sym, ap, subst, arith}
use Rattle.std.specs.Prelude.{Contains}
use Rattle.std.proofs.lemmas.List.{get_or_past}
use Rattle.slice_spec.specs.Sections.{SectionTime, is_of_next_burst, has_other_index, IsShifted}
use Rattle.slice_spec.specs.Frames.{IsOf, IsTimed, IsIndexed}

-- a section is of a frame that there is
within_frames : (frames : List (List SectionTime)) (j : ℕ) (y : SectionTime) → IsOf frames j y → j < length frames
within_frames frames j y is = by_order (leb (length frames) j) refl
  where
    by_order : (past : Bool) → leb (length frames) j ≡ past → j < length frames
    by_order false e = grind (arith, e)
    by_order true e =
        let none : length (get_or frames j []) ≡ 0 = ap (λ (l : List SectionTime). length l) (get_or_past frames j [] (past_is (length frames) e)) in
        absurd (omega (arith, is.1, none))
      where
        past_is : (n : ℕ) → leb n j ≡ true → n ≤ j
        past_is n e2 = grind (arith, e2)

-- the test of the first case
next_is : (t : ℕ) (a b : SectionTime) → 0 < a.delta → a.moment + t * a.delta ≤ b.moment → is_of_next_burst t a b ≡ true
next_is t a b above le = by_tests (ltb 0 a.delta) (grind (arith, above)) (leb (a.moment + t * a.delta) b.moment) (leb_true (a.moment + t * a.delta) b.moment le)
  where
    leb_true : (m n : ℕ) → m ≤ n → leb m n ≡ true
    leb_true m n le2 = grind (arith, le2)

    by_tests : (x : Bool) → x ≡ true → (y : Bool) → y ≡ true → (x && y) ≡ true
    by_tests x e y e2 = cc

next_is_not : (t : ℕ) (a b : SectionTime) → (0 < a.delta → b.moment < a.moment + t * a.delta) → is_of_next_burst t a b ≡ false
next_is_not t a b before = by_test (ltb 0 a.delta) refl
  where
    leb_false : (m n : ℕ) → n < m → leb m n ≡ false
    leb_false m n less = grind (arith, less)

    above_is : (d : ℕ) → ltb 0 d ≡ true → 0 < d
    above_is d e = grind (arith, e)

    by_test : (x : Bool) → ltb 0 a.delta ≡ x → (x && leb (a.moment + t * a.delta) b.moment) ≡ false
    by_test false e = refl
    by_test true e = leb_false (a.moment + t * a.delta) b.moment (before (above_is a.delta e))

module _ (frames : List (List SectionTime)) (i j : ℕ) (x y a b : SectionTime) (is : IsOf frames i x) (is2 : IsOf frames j y) (le : i ≤ j) where
  pub parted_by_time : (t shift : ℕ) → IsTimed t frames → IsShifted shift a x → IsShifted shift b y → is_of_next_burst t a b ≡ not (eqb i j)
  parted_by_time t shift timed of_a of_b = by_same (eqb i j) refl
    where
      product : t * a.delta ≡ t * x.delta
      product = ap (λ (d : ℕ). t * d) of_a.delta

      by_same : (same : Bool) → eqb i j ≡ same → is_of_next_burst t a b ≡ not same
      by_same true e =
          let one : i ≡ j = grind (arith, e) in
          next_is_not t a b (λ above. before one (timed.within i x y is (here one) (omega (arith, above, of_a.delta))))
        where
          here : i ≡ j → IsOf frames i y
          here one = subst (λ (n : ℕ). Contains (get_or frames n []) y) (sym one) is2

          before : i ≡ j → y.moment < x.moment + t * x.delta → b.moment < a.moment + t * a.delta
          before one less = omega (arith, less, product, of_a.moment, of_b.moment)
      by_same false e =
          let less : i < j = grind (arith, e, le) in
          let above : 0 < x.delta = announced less (eqb x.delta 0) refl in
          next_is t a b (omega (arith, above, of_a.delta)) (omega (arith, timed.after i j x y less is is2 above, product, of_a.moment, of_b.moment))
        where
          announced : i < j → (none : Bool) → eqb x.delta 0 ≡ none → 0 < x.delta
          announced less true e2 =
              let zero_is : x.delta ≡ 0 = grind (arith, e2) in
              absurd (omega (arith, less, timed.last i x is zero_is, within_frames frames j y is2))
          announced less false e2 = grind (arith, e2)

  pub parted_by_index : (first : ℕ) → IsIndexed first frames → j < i + 4096 → a.delta ≡ x.delta → b.delta ≡ y.delta → has_other_index a b ≡ not (eqb i j)
  parted_by_index first indexed near of_a of_b =
      same_tests a.delta b.delta (omega (arith, of_a, indexed.index i x is)) (omega (arith, of_b, indexed.index j y is2))
    where
      by_tests : (d e : ℕ) → d ≡ (first + i) % 4096 → e ≡ (first + j) % 4096 → (other : Bool) → eqb d e ≡ other → (same : Bool) → eqb i j ≡ same → not other ≡ not same
      by_tests d e of_d of_e true is_e true is_s = refl
      by_tests d e of_d of_e false is_e false is_s = refl
      by_tests d e of_d of_e true is_e false is_s =
          let one : d ≡ e = grind (arith, is_e) in
          let less : i < j = grind (arith, is_s, le) in
          absurd (omega (arith, one, less, of_d, of_e, near))
      by_tests d e of_d of_e false is_e true is_s =
          let one : i ≡ j = grind (arith, is_s) in
          let same_rest : (first + i) % 4096 ≡ (first + j) % 4096 = ap (λ (n : ℕ). (first + n) % 4096) one in
          let same : d ≡ e = omega (arith, of_d, of_e, same_rest) in
          absurd (grind (arith, is_e, same))

      same_tests : (d e : ℕ) → d ≡ (first + i) % 4096 → e ≡ (first + j) % 4096 → not (eqb d e) ≡ not (eqb i j)
      same_tests d e of_d of_e = by_tests d e of_d of_e (eqb d e) refl (eqb i j) refl
