-- Whether packets are still to come: where bytes of a unit are not out, or a unit has not begun, and only there.
use Rattle.std.proofs.Common.{◌≡◌, ℕ, zero, suc, ◌+◌, ◌-◌, ◌<◌, ◌≤◌, Bool, true, false, cond, ◌&&◌, ◌||◌, eqb, leb, ltb, List, [], ◌∷◌, drop, length, refl, ap, ap₂, sym, ◌∙◌, arith}
use Rattle.ts_spec.specs.Form.{UnitForm}
use Rattle.unit_stream.specs.Packing.{Piece, filled, may_begin, begin_piece, middle_piece, pieces, byte_count}
use Rattle.unit_stream.specs.Packers.{AreRising, IsOnWay, PackerState, between, units_from, end_of, pieces_left, packets_left}
use Rattle.unit_stream.proofs.Numbers.{eqb_true, eqb_zero, ltb_true, ltb_false}
use Rattle.unit_stream.proofs.Written.{length-numbered}
use Rattle.unit_stream.proofs.Between.{length-between, between-none, units_from-next, units_from-none, rises, below_last}

-- of the rest of a unit, or of a unit that may begin, there is a packet
pieces_more : (most start : ℕ) (packing : Bool) (rest : List ℕ) (units : List (List ℕ)) → 1 ≤ most → (length rest ≡ 0 → may_begin start packing rest units ≡ true)
    → 1 ≤ length (pieces most start packing rest units)
pieces_more zero start packing rest units some may = absurd (omega (arith, some))
pieces_more (suc most) start packing rest units some may = by_begin (may_begin start packing rest units) refl
  where
    differ : (b : Bool) → b ≡ true → b ≡ false → ⊥
    differ b e1 e2 = cc

    by_rest : (none : Bool) → eqb (length rest) 0 ≡ none → may_begin start packing rest units ≡ false
        → 1 ≤ length (cond {A = List Piece} none [] (middle_piece rest ∷ pieces most start packing (drop 184 rest) units))
    by_rest true e late = absurd (differ (may_begin start packing rest units) (may (eqb_zero (length rest) e)) late)
    by_rest false e late = omega arith

    by_begin : (begins : Bool) → may_begin start packing rest units ≡ begins
        → 1 ≤ length (cond {A = List Piece} begins (begin_piece rest (filled start packing (183 - length rest) units) (pieces most start packing))
        (cond {A = List Piece} (eqb (length rest) 0) [] (middle_piece rest ∷ pieces most start packing (drop 184 rest) units)))
    by_begin true e = omega arith
    by_begin false e = by_rest (eqb (length rest) 0) refl e

module _ (start : ℕ) (packing : Bool) (bytes ends : List ℕ) (begun at : ℕ) (least : 1 ≤ start) (rising : AreRising start 0 ends) (le : begun ≤ length ends) (out : at ≤ end_of ends begun)
    (within : end_of ends (length ends) ≤ length bytes) where
  abbrev end : ℕ
  end = end_of ends begun

  abbrev rest : List ℕ
  rest = between bytes at end

  abbrev units : List (List ℕ)
  units = units_from end bytes (drop begun ends)

  rest_size : length rest ≡ end - at
  rest_size = length-between bytes at end (omega (arith, below_last start ends begun rising le, within))

  -- bytes of a unit are not out
  pub some_rest : at < end → 1 ≤ length (pieces_left start packing bytes ends begun at)
  some_rest less =
      pieces_more (length rest + byte_count units) start packing rest units (omega (arith, rest_size, less)) (λ none. absurd (omega (arith, rest_size, less, none)))

  -- a unit has not begun
  pub some_unit : begun < length ends → 1 ≤ length (pieces_left start packing bytes ends begun at)
  some_unit less = pieces_more (length rest + byte_count units) start packing rest units (omega (arith, first_size)) begins
    where
      next : ℕ
      next = end_of ends (begun + 1)

      next_within : (n : ℕ) → n ≡ begun + 1 → end_of ends n ≤ end_of ends (length ends)
      next_within n is = below_last start ends n rising (omega (arith, less, is))

      units_are : units ≡ between bytes end next ∷ units_from next bytes (drop (begun + 1) ends)
      units_are = units_from-next bytes ends end begun less

      first_size : 1 ≤ byte_count units
      first_size = omega (
        arith,
        ap byte_count units_are,
        length-between bytes end next (omega (arith, next_within (begun + 1) refl, within)),
        rises start ends begun rising less,
        least,
      )

      begins : length rest ≡ 0 → may_begin start packing rest units ≡ true
      begins none =
          ap (λ (us : List (List ℕ)). may_begin start packing rest us) units_are
          ∙ ap (λ (b : Bool). b || (packing && leb (length rest + start) 183)) (eqb_true (length rest) 0 none)

  -- all are out
  pub none_left : length ends ≤ begun → end ≤ at → length (pieces_left start packing bytes ends begun at) ≡ 0
  none_left over all = ap (λ (ps : List Piece). length ps) (ap₂ (λ (r : List ℕ) (us : List (List ℕ)). pieces (length r + byte_count us) start packing r us) rest_none (units_from-none bytes ends end begun over))
    where
      rest_none : rest ≡ []
      rest_none = let same : at ≡ end = omega (arith, all, out) in ap (λ (n : ℕ). between bytes n end) same ∙ between-none bytes end

-- whether packets of a packer's units are left, as it is tested
module _ (form : UnitForm) (state : PackerState) (bytes ends : List ℕ) (least : 1 ≤ form.start) (rising : AreRising form.start 0 ends) (way : IsOnWay state ends)
    (within : end_of ends (length ends) ≤ length bytes) where
  abbrev count : ℕ
  count = length (packets_left form state bytes ends)

  abbrev counted : ℕ
  counted = length (pieces_left form.start state.packing bytes ends state.begun state.at)

  same : count ≡ counted
  same = length-numbered state.pid state.counter (pieces_left form.start state.packing bytes ends state.begun state.at)

  pub unit_comes : (begun : ℕ) → begun ≡ state.begun → begun < length ends → ltb begun (length ends) ≡ ltb 0 count
  unit_comes begun is less =
      ltb_true begun (length ends) less
      ∙ sym (ltb_true 0 count (omega (arith, same, some_unit form.start state.packing bytes ends state.begun state.at least rising way.begun way.at within (omega (arith, is, less)))))

  pub rest_comes : (begun at end : ℕ) → begun ≡ state.begun → at ≡ state.at → end ≡ end_of ends begun → length ends ≤ begun → ltb at end ≡ ltb 0 count
  rest_comes begun at end is at_is end_is over = by_order (ltb at end) refl
    where
      end_there : end_of ends begun ≡ end_of ends state.begun
      end_there = ap (end_of ends) is

      by_order : (before : Bool) → ltb at end ≡ before → before ≡ ltb 0 count
      by_order true e = sym (ltb_true 0 count (omega (
        arith,
        same,
        some_rest form.start state.packing bytes ends state.begun state.at least rising way.begun way.at within (omega (arith, end_there, end_is, at_is, less_so at end e)),
      )))
        where
          less_so : (a b : ℕ) → ltb a b ≡ true → a < b
          less_so a b e2 = grind (arith, e2)
      by_order false e = sym (ltb_false 0 count (omega (
        arith,
        same,
        none_left form.start state.packing bytes ends state.begun state.at least rising way.begun way.at within (omega (arith, is, over)) (omega (arith, end_there, end_is, at_is, not_so at end e)),
      )))
        where
          not_so : (a b : ℕ) → ltb a b ≡ false → b ≤ a
          not_so a b e2 = grind (arith, e2)
