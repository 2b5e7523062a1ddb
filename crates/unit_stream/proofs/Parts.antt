-- What the next packet carries of units in a buffer.
use Rattle.std.proofs.Common.{◌≡◌, ◌⊎◌, inl, inr, ℕ, zero, suc, ◌+◌, ◌-◌, ◌<◌, ◌≤◌, min, Bool, true, false, ◌&&◌, ◌||◌, leb, eqb, List, [], ◌∷◌, ◌++◌, take, drop, length, replicate, get_or, refl, ap, sym, ◌∙◌, subst, arith, append_assoc, Some, None}
use Rattle.std.proofs.lemmas.List.{take_min, drop_min}
use Rattle.unit_stream.specs.Packing.{Filling, filled, may_begin, begin_piece}
use Rattle.unit_stream.specs.Packers.{between, units_from, AreRising, end_of, pieces_left}
use Rattle.unit_stream.specs.declared.packer.Part.{Part}
use Rattle.unit_stream.specs.Parts.{part_piece, NextPart, Fills}
use Rattle.unit_stream.proofs.Between.{length-between, between-append, take-between, drop-between, units_from-next, units_from-none, below_last}
use Rattle.unit_stream.proofs.Left.{AreLong, left, left_none, left_begin, left_middle}

-- The units after some have enough bytes each.

rising_drop : (start from : ℕ) (ends : List ℕ) (begun : ℕ) → AreRising start from ends → begun ≤ length ends → AreRising start (get_or (from ∷ ends) begun 0) (drop begun ends)
rising_drop start from ends zero rising le = rising
rising_drop start from [] (suc begun) rising le = absurd (omega arith)
rising_drop start from (end ∷ ends) (suc begun) rising le = rising_drop start end ends begun rising.1 (omega arith)

last_drop : (from : ℕ) (ends : List ℕ) (begun : ℕ) → begun ≤ length ends
    → get_or (get_or (from ∷ ends) begun 0 ∷ drop begun ends) (length (drop begun ends)) 0 ≡ get_or (from ∷ ends) (length ends) 0
last_drop from ends zero le = refl
last_drop from [] (suc begun) le = absurd (omega arith)
last_drop from (end ∷ ends) (suc begun) le = last_drop end ends begun (omega arith)

rising_last : (start from : ℕ) (ends : List ℕ) → AreRising start from ends → from ≤ get_or (from ∷ ends) (length ends) 0
rising_last start from [] rising = omega arith
rising_last start from (end ∷ ends) rising = omega (arith, rising.0, rising_last start end ends rising.1)

long_units : (start from : ℕ) (bytes ends : List ℕ) → AreRising start from ends → get_or (from ∷ ends) (length ends) 0 ≤ length bytes → AreLong start (units_from from bytes ends)
long_units start from bytes [] rising within = tt
long_units start from bytes (end ∷ ends) rising within = (
  omega (arith, rising.0, length-between bytes from end (omega (arith, rising_last start end ends rising.1, within))),
  long_units start end bytes ends rising.1 within,
)

module _ (start : ℕ) (packing : Bool) (least : 1 ≤ start) (most_start : start ≤ 183) (ends : List ℕ) (rising : AreRising start 0 ends) (begun at : ℕ) (count : begun ≤ length ends) (here : at ≤ end_of ends begun) where
  pub long_behind : (bytes : List ℕ) → end_of ends (length ends) ≤ length bytes → AreLong start (units_from (end_of ends begun) bytes (drop begun ends))
  long_behind bytes within =
      long_units start (end_of ends begun) bytes (drop begun ends) (rising_drop start 0 ends begun rising count) (omega (arith, within, last_drop 0 ends begun count))

  rest_size : (bytes : List ℕ) → end_of ends (length ends) ≤ length bytes → length (between bytes at (end_of ends begun)) ≡ end_of ends begun - at
  rest_size bytes within = length-between bytes at (end_of ends begun) (omega (arith, within, below_last start ends begun rising count))

  -- no unit more may begin
  may_not : (bytes : List ℕ) → end_of ends (length ends) ≤ length bytes
      → (length ends ≤ begun) ⊎ ((eqb (end_of ends begun - at) 0 || (packing && leb (end_of ends begun - at + start) 183)) ≡ false)
      → may_begin start packing (between bytes at (end_of ends begun)) (units_from (end_of ends begun) bytes (drop begun ends)) ≡ false
  may_not bytes within (inl none) = ap (may_begin start packing (between bytes at (end_of ends begun))) (units_from-none bytes ends (end_of ends begun) begun none)
  may_not bytes within (inr full) = by_units (units_from (end_of ends begun) bytes (drop begun ends))
    where
      by_units : (units : List (List ℕ)) → may_begin start packing (between bytes at (end_of ends begun)) units ≡ false
      by_units [] = refl
      by_units (unit ∷ units) = ap (λ (n : ℕ). eqb n 0 || (packing && leb (n + start) 183)) (rest_size bytes within) ∙ full

  pub next_none : (length ends ≤ begun) ⊎ ((eqb (end_of ends begun - at) 0 || (packing && leb (end_of ends begun - at + start) 183)) ≡ false)
      → end_of ends begun - at ≡ 0 → (bytes : List ℕ) → end_of ends (length ends) ≤ length bytes → NextPart start packing bytes ends begun at None
  next_none none out bytes within =
      let nil : between bytes at (end_of ends begun) ≡ [] = ap (λ (n : ℕ). take n (drop at bytes)) out in
      ap (λ (r : List ℕ). left start packing least most_start r (units_from (end_of ends begun) bytes (drop begun ends))) nil
      ∙ left_none start packing least most_start (units_from (end_of ends begun) bytes (drop begun ends)) (long_behind bytes within)
      (subst (λ (r : List ℕ). may_begin start packing r (units_from (end_of ends begun) bytes (drop begun ends)) ≡ false) nil (may_not bytes within none))

  pub next_middle : (length ends ≤ begun) ⊎ ((eqb (end_of ends begun - at) 0 || (packing && leb (end_of ends begun - at + start) 183)) ≡ false)
      → 1 ≤ end_of ends begun - at → (bytes : List ℕ) → end_of ends (length ends) ≤ length bytes
      → NextPart start packing bytes ends begun at (Some (record { starts = false; begun = begun; at = at + min (end_of ends begun - at) 184 }))
  next_middle none some bytes within =
      let size : length (between bytes at (end_of ends begun)) ≡ end_of ends begun - at = rest_size bytes within in
      let taken : min 184 (length (between bytes at (end_of ends begun))) ≡ min (end_of ends begun - at) 184 = omega arith in
      let fits : at + min (end_of ends begun - at) 184 ≤ end_of ends begun = omega arith in
      let front : take 184 (between bytes at (end_of ends begun)) ≡ between bytes at (at + min (end_of ends begun - at) 184) =
      sym (take_min 184 (between bytes at (end_of ends begun)))
      ∙ ap (λ (n : ℕ). take n (between bytes at (end_of ends begun))) taken
      ∙ take-between bytes at (end_of ends begun) (min (end_of ends begun - at) 184) fits in
      let behind : drop 184 (between bytes at (end_of ends begun)) ≡ between bytes (at + min (end_of ends begun - at) 184) (end_of ends begun) =
      sym (drop_min 184 (between bytes at (end_of ends begun)))
      ∙ ap (λ (n : ℕ). drop n (between bytes at (end_of ends begun))) taken
      ∙ drop-between bytes at (end_of ends begun) (min (end_of ends begun - at) 184) fits in
      let part_size : length (between bytes at (at + min (end_of ends begun - at) 184)) ≡ at + min (end_of ends begun - at) 184 - at =
      length-between bytes at (at + min (end_of ends begun - at) 184) (omega (arith, within, below_last start ends begun rising count)) in
      let filler : 184 - length (between bytes at (end_of ends begun)) ≡ 184 - length (between bytes at (at + min (end_of ends begun - at) 184)) = omega arith in
      left_middle start packing least most_start (between bytes at (end_of ends begun)) (units_from (end_of ends begun) bytes (drop begun ends))
      (long_behind bytes within) (may_not bytes within none) (omega arith)
      ∙ ap (λ (t : List ℕ). record { starts = false; payload = t ++ replicate (184 - length (between bytes at (end_of ends begun))) 0xFF }
      ∷ left start packing least most_start (drop 184 (between bytes at (end_of ends begun))) (units_from (end_of ends begun) bytes (drop begun ends))) front
      ∙ ap (λ (n : ℕ). record { starts = false; payload = between bytes at (at + min (end_of ends begun - at) 184) ++ replicate n 0xFF }
      ∷ left start packing least most_start (drop 184 (between bytes at (end_of ends begun))) (units_from (end_of ends begun) bytes (drop begun ends))) filler
      ∙ ap (λ (r : List ℕ). part_piece false bytes (end_of ends begun) at (at + min (end_of ends begun - at) 184)
      ∷ left start packing least most_start r (units_from (end_of ends begun) bytes (drop begun ends))) behind

  pub next_begin : begun < length ends → (eqb (end_of ends begun - at) 0 || (packing && leb (end_of ends begun - at + start) 183)) ≡ true
      → (part : Part) → part.starts ≡ true → Fills start packing (183 - (end_of ends begun - at)) ends begun part
      → (bytes : List ℕ) → end_of ends (length ends) ≤ length bytes → NextPart start packing bytes ends begun at (Some part)
  next_begin less may part starts fills bytes within =
      let size : length (between bytes at (end_of ends begun)) ≡ end_of ends begun - at = rest_size bytes within in
      let units : units_from (end_of ends begun) bytes (drop begun ends)
      ≡ between bytes (end_of ends begun) (end_of ends (begun + 1)) ∷ units_from (end_of ends (begun + 1)) bytes (drop (begun + 1) ends) =
      units_from-next bytes ends (end_of ends begun) begun less in
      let may_here : may_begin start packing (between bytes at (end_of ends begun))
      (between bytes (end_of ends begun) (end_of ends (begun + 1)) ∷ units_from (end_of ends (begun + 1)) bytes (drop (begun + 1) ends)) ≡ true =
      ap (λ (n : ℕ). eqb n 0 || (packing && leb (n + start) 183)) size ∙ may in
      let part_size : length (between bytes at part.at) ≡ part.at - at =
      length-between bytes at part.at (omega (arith, fills.to, within, below_last start ends part.begun rising fills.count)) in
      let filler : 183 - (end_of ends begun - at) - (part.at - end_of ends begun) ≡ 183 - length (between bytes at part.at) = omega (arith, fills.from) in
      ap (left start packing least most_start (between bytes at (end_of ends begun))) units
      ∙ left_begin start packing least most_start (between bytes at (end_of ends begun)) (between bytes (end_of ends begun) (end_of ends (begun + 1)))
      (units_from (end_of ends (begun + 1)) bytes (drop (begun + 1) ends)) (subst (AreLong start) units (long_behind bytes within)) may_here
      ∙ ap (λ (u : List (List ℕ)). begin_piece (between bytes at (end_of ends begun)) (filled start packing (183 - length (between bytes at (end_of ends begun))) u) (left start packing least most_start)) (sym units)
      ∙ ap (λ (n : ℕ). begin_piece (between bytes at (end_of ends begun)) (filled start packing (183 - n) (units_from (end_of ends begun) bytes (drop begun ends))) (left start packing least most_start)) size
      ∙ ap (λ (f : Filling). begin_piece (between bytes at (end_of ends begun)) f (left start packing least most_start)) (fills.filled_is bytes within)
      ∙ ap (λ (n : ℕ). record { starts = true; payload = n ∷ (between bytes at (end_of ends begun) ++ (between bytes (end_of ends begun) part.at ++ replicate (183 - (end_of ends begun - at) - (part.at - end_of ends begun)) 0xFF)) }
      ∷ pieces_left start packing bytes ends part.begun part.at) size
      ∙ ap (λ (t : List ℕ). record { starts = true; payload = (end_of ends begun - at) ∷ t } ∷ pieces_left start packing bytes ends part.begun part.at)
      (sym (append_assoc (between bytes at (end_of ends begun)) (between bytes (end_of ends begun) part.at) (replicate (183 - (end_of ends begun - at) - (part.at - end_of ends begun)) 0xFF))
      ∙ ap (λ (t : List ℕ). t ++ replicate (183 - (end_of ends begun - at) - (part.at - end_of ends begun)) 0xFF) (between-append bytes at (end_of ends begun) part.at here fills.from)
      ∙ ap (λ (n : ℕ). between bytes at part.at ++ replicate n 0xFF) filler)
      ∙ ap (λ (b : Bool). part_piece b bytes (end_of ends begun) at part.at ∷ pieces_left start packing bytes ends part.begun part.at) (sym starts)
