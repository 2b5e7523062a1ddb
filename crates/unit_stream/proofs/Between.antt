-- Parts of a buffer, and where units end in it.
use Rattle.std.proofs.Common.{◌≡◌, ℕ, zero, suc, ◌+◌, ◌-◌, ◌<◌, ◌≤◌, List, [], ◌∷◌, ◌++◌, take, drop, length, get_or, ap, sym, ◌∙◌, arith, length-drop, add-one}
use Rattle.std.proofs.lemmas.List.{length-take-le, take-take, drop-take, drop-drop, drop_more, drop_all}
use Rattle.std.proofs.Math.Seq.{take-add}
use Rattle.unit_stream.specs.Packers.{between, units_from, AreRising, end_of}

pub length-between : (bytes : List ℕ) (from to : ℕ) → to ≤ length bytes → length (between bytes from to) ≡ to - from
length-between bytes from to within = length-take-le (to - from) (drop from bytes) (omega (arith, length-drop from bytes))

pub between-none : (bytes : List ℕ) (from : ℕ) → between bytes from from ≡ []
between-none bytes from = let e : from - from ≡ 0 = omega arith in ap (λ (n : ℕ). take n (drop from bytes)) e

pub between-append : (bytes : List ℕ) (from mid to : ℕ) → from ≤ mid → mid ≤ to → between bytes from mid ++ between bytes mid to ≡ between bytes from to
between-append bytes from mid to before behind =
    let there : from + (mid - from) ≡ mid = omega arith in
    let sizes : (mid - from) + (to - mid) ≡ to - from = omega arith in
    ap (λ (xs : List ℕ). between bytes from mid ++ take (to - mid) xs) (ap (λ (n : ℕ). drop n bytes) (sym there) ∙ sym (drop-drop (mid - from) from bytes))
    ∙ sym (take-add (mid - from) (to - mid) (drop from bytes))
    ∙ ap (λ (n : ℕ). take n (drop from bytes)) sizes

pub take-between : (bytes : List ℕ) (from to n : ℕ) → from + n ≤ to → take n (between bytes from to) ≡ between bytes from (from + n)
take-between bytes from to n within =
    let size : n ≡ (from + n) - from = omega arith in
    take-take n (to - from) (drop from bytes) (omega arith) ∙ ap (λ (m : ℕ). take m (drop from bytes)) size

pub drop-between : (bytes : List ℕ) (from to n : ℕ) → from + n ≤ to → drop n (between bytes from to) ≡ between bytes (from + n) to
drop-between bytes from to n within =
    let size : to - from ≡ n + (to - (from + n)) = omega arith in
    ap (λ (m : ℕ). drop n (take m (drop from bytes))) size
    ∙ drop-take n (to - (from + n)) (drop from bytes)
    ∙ ap (take (to - (from + n))) (drop-drop n from bytes)

-- Ends of units.

pub end_of-next : (ends : List ℕ) (begun : ℕ) → end_of ends (begun + 1) ≡ get_or ends begun 0
end_of-next ends begun = ap (end_of ends) (add-one begun)

-- the unit after the first so many
pub units_from-next : (bytes ends : List ℕ) (from begun : ℕ) → begun < length ends
    → units_from from bytes (drop begun ends) ≡ between bytes from (end_of ends (begun + 1)) ∷ units_from (end_of ends (begun + 1)) bytes (drop (begun + 1) ends)
units_from-next bytes ends from begun less =
    ap (units_from from bytes) (drop_more ends begun 0 less)
    ∙ ap (λ (end : ℕ). between bytes from end ∷ units_from end bytes (drop (begun + 1) ends)) (sym (end_of-next ends begun))

pub units_from-none : (bytes ends : List ℕ) (from begun : ℕ) → length ends ≤ begun → units_from from bytes (drop begun ends) ≡ []
units_from-none bytes ends from begun le = ap (units_from from bytes) (drop_all begun ends le)

-- ends rise, whichever they are counted from
rising_at : (start from : ℕ) (ends : List ℕ) (begun : ℕ) → AreRising start from ends → begun < length ends → get_or (from ∷ ends) begun 0 + start ≤ get_or ends begun 0
rising_at start from [] begun rising less = absurd (omega arith)
rising_at start from (end ∷ ends) zero rising less = rising.0
rising_at start from (end ∷ ends) (suc begun) rising less = rising_at start end ends begun rising.1 (omega arith)

pub rises : (start : ℕ) (ends : List ℕ) (begun : ℕ) → AreRising start 0 ends → begun < length ends → end_of ends begun + start ≤ end_of ends (begun + 1)
rises start ends begun rising less = omega (arith, rising_at start 0 ends begun rising less, end_of-next ends begun)

rising_to : (start from : ℕ) (ends : List ℕ) (begun : ℕ) → AreRising start from ends → begun ≤ length ends → get_or (from ∷ ends) begun 0 ≤ get_or (from ∷ ends) (length ends) 0
rising_to start from ends zero rising le = from_first start from ends rising
  where
    from_first : (start from : ℕ) (ends : List ℕ) → AreRising start from ends → from ≤ get_or (from ∷ ends) (length ends) 0
    from_first start from [] rising = omega arith
    from_first start from (end ∷ ends) rising = omega (arith, rising.0, from_first start end ends rising.1)
rising_to start from [] (suc begun) rising le = absurd (omega arith)
rising_to start from (end ∷ ends) (suc begun) rising le = rising_to start end ends begun rising.1 (omega arith)

-- each unit ends before the last one does
pub below_last : (start : ℕ) (ends : List ℕ) (begun : ℕ) → AreRising start 0 ends → begun ≤ length ends → end_of ends begun ≤ end_of ends (length ends)
below_last start ends begun rising le = rising_to start 0 ends begun rising le
