-- How many packets units take is told by their lengths.
use Rattle.std.proofs.Common.{◌≡◌, ℕ, zero, suc, ◌+◌, ◌-◌, Bool, true, false, cond, ◌&&◌, ◌||◌, leb, eqb, List, [], ◌∷◌, ◌++◌, length, take, drop, refl, sym, ap, ap₂, subst, ◌∙◌, arith, length-drop}
use Rattle.ts_spec.specs.Form.{UnitForm}
use Rattle.unit_stream.specs.Packing.{Filling, stuffed, behind_unit, filled, Piece, may_begin, begin_piece, middle_piece, pieces, byte_count, packetized}
use Rattle.unit_stream.proofs.Written.{length-numbered}

-- units have the lengths of others
abbrev pub HaveLengths : List (List ℕ) → List (List ℕ) → Type 0
HaveLengths [] [] = Unit {0}
HaveLengths (u ∷ us) (v ∷ vs) = (length u ≡ length v) × HaveLengths us vs
HaveLengths (u ∷ us) [] = ⊥
HaveLengths [] (v ∷ vs) = ⊥

pub have_both : (a b c d : List (List ℕ)) → HaveLengths a b → HaveLengths c d → HaveLengths (a ++ c) (b ++ d)
have_both [] [] c d first second = second
have_both (x ∷ a) (y ∷ b) c d first second = (first.0, have_both a b c d first.1 second)
have_both (x ∷ a) [] c d first second = absurd first
have_both [] (y ∷ b) c d first second = absurd first

same_bytes : (us vs : List (List ℕ)) → HaveLengths us vs → byte_count us ≡ byte_count vs
same_bytes [] [] same = refl
same_bytes (u ∷ us) (v ∷ vs) same = omega (arith, same.0, same_bytes us vs same.1)
same_bytes (u ∷ us) [] same = absurd same
same_bytes [] (v ∷ vs) same = absurd same

module _ (start : ℕ) (packing : Bool) where
  abbrev Alike : Filling → Filling → Type 0
  Alike f g = (length f.rest ≡ length g.rest) × HaveLengths f.units g.units

  -- the room filled by a unit of this length
  abbrev filled_by : ℕ → List ℕ → List (List ℕ) → ℕ → Filling
  filled_by room v vs size =
      cond (leb size room) (behind_unit v (cond (packing && leb start (room - size)) (filled start packing (room - size) vs) (stuffed (room - size) vs)))
      (record { bytes = take room v; rest = drop room v; units = vs })

  filled_alike : (room : ℕ) (us vs : List (List ℕ)) → HaveLengths us vs → Alike (filled start packing room us) (filled start packing room vs)
  filled_alike room [] [] same = (refl, tt)
  filled_alike room (u ∷ us) [] same = absurd same
  filled_alike room [] (v ∷ vs) same = absurd same
  filled_alike room (u ∷ us) (v ∷ vs) same =
      with_size (by_tests (leb (length u) room) (packing && leb start (room - length u)) (filled_alike (room - length u) us vs same.1))
    where
      size_is : filled_by room v vs (length u) ≡ filled_by room v vs (length v)
      size_is = ap (filled_by room v vs) same.0

      with_size : Alike (filled_by room u us (length u)) (filled_by room v vs (length u)) → Alike (filled_by room u us (length u)) (filled_by room v vs (length v))
      with_size alike = subst (Alike (filled_by room u us (length u))) size_is alike

      by_tests : (fits follows : Bool) → Alike (filled start packing (room - length u) us) (filled start packing (room - length u) vs)
          → Alike (cond fits (behind_unit u (cond follows (filled start packing (room - length u) us) (stuffed (room - length u) us))) (record { bytes = take room u; rest = drop room u; units = us }))
          (cond fits (behind_unit v (cond follows (filled start packing (room - length u) vs) (stuffed (room - length u) vs))) (record { bytes = take room v; rest = drop room v; units = vs }))
      by_tests true true alike = alike
      by_tests true false alike = (refl, same.1)
      by_tests false follows alike = (omega (arith, length-drop room u, length-drop room v, same.0), same.1)

  -- the test by the length of the rest
  abbrev may_by : ℕ → List (List ℕ) → Bool
  may_by size [] = false
  may_by size (v ∷ vs) = eqb size 0 || (packing && leb (size + start) 183)

  may_is : (rest : List ℕ) (vs : List (List ℕ)) → may_begin start packing rest vs ≡ may_by (length rest) vs
  may_is rest [] = refl
  may_is rest (v ∷ vs) = refl

  same_test : (size : ℕ) (us vs : List (List ℕ)) → HaveLengths us vs → may_by size us ≡ may_by size vs
  same_test size [] [] same = refl
  same_test size (u ∷ us) (v ∷ vs) same = refl
  same_test size (u ∷ us) [] same = absurd same
  same_test size [] (v ∷ vs) same = absurd same

  count_alike : (most : ℕ) (r s : List ℕ) (us vs : List (List ℕ)) → length r ≡ length s → HaveLengths us vs
      → length (pieces most start packing r us) ≡ length (pieces most start packing s vs)
  count_alike zero r s us vs e same = refl
  count_alike (suc most) r s us vs e same =
      by_tests (may_begin start packing r us) (eqb (length r) 0)
      (count_alike most (drop 184 r) (drop 184 s) us vs drop_same same)
      (count_alike most (filled start packing (183 - length r) us).rest (filled start packing (183 - length s) vs).rest
      (filled start packing (183 - length r) us).units (filled start packing (183 - length s) vs).units alike.0 alike.1)
      ∙ ap₂ (λ (may none : Bool). length (cond may (begin_piece s (filled start packing (183 - length s) vs) (pieces most start packing))
      (cond {A = List Piece} none [] (middle_piece s ∷ pieces most start packing (drop 184 s) vs)))) may_same (ap (λ (n : ℕ). eqb n 0) e)
    where
      may_same : may_begin start packing r us ≡ may_begin start packing s vs
      may_same = may_is r us ∙ same_test (length r) us vs same ∙ ap (λ (n : ℕ). may_by n vs) e ∙ sym (may_is s vs)

      room_same : filled start packing (183 - length r) vs ≡ filled start packing (183 - length s) vs
      room_same = ap (λ (n : ℕ). filled start packing (183 - n) vs) e

      alike : Alike (filled start packing (183 - length r) us) (filled start packing (183 - length s) vs)
      alike = subst (Alike (filled start packing (183 - length r) us)) room_same (filled_alike (183 - length r) us vs same)

      drop_same : length (drop 184 r) ≡ length (drop 184 s)
      drop_same = omega (arith, length-drop 184 r, length-drop 184 s, e)

      by_tests : (may none : Bool) → length (pieces most start packing (drop 184 r) us) ≡ length (pieces most start packing (drop 184 s) vs)
          → length (pieces most start packing (filled start packing (183 - length r) us).rest (filled start packing (183 - length r) us).units)
          ≡ length (pieces most start packing (filled start packing (183 - length s) vs).rest (filled start packing (183 - length s) vs).units)
          → length (cond may (begin_piece r (filled start packing (183 - length r) us) (pieces most start packing)) (cond {A = List Piece} none [] (middle_piece r ∷ pieces most start packing (drop 184 r) us)))
          ≡ length (cond may (begin_piece s (filled start packing (183 - length s) vs) (pieces most start packing)) (cond {A = List Piece} none [] (middle_piece s ∷ pieces most start packing (drop 184 s) vs)))
      by_tests true none behind begun = ap suc begun
      by_tests false true behind begun = refl
      by_tests false false behind begun = ap suc behind

pub counted : (form : UnitForm) (packing : Bool) (pid counter pid2 counter2 : ℕ) (us vs : List (List ℕ)) → HaveLengths us vs
    → length (packetized form packing pid counter us) ≡ length (packetized form packing pid2 counter2 vs)
counted form packing pid counter pid2 counter2 us vs same =
    length-numbered pid counter (pieces (byte_count us) form.start packing [] us)
    ∙ ap (λ (n : ℕ). length (pieces n form.start packing [] us)) (same_bytes us vs same)
    ∙ count_alike form.start packing (byte_count vs) [] [] us vs refl same
    ∙ sym (length-numbered pid2 counter2 (pieces (byte_count vs) form.start packing [] vs))
