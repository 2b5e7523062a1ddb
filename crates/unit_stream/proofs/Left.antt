-- The packets of the rest of a unit and the units after it, one from another.
use Rattle.std.proofs.Common.{◌≡◌, ℕ, zero, suc, ◌+◌, ◌-◌, ◌≤◌, Bool, true, false, cond, ◌&&◌, ◌||◌, leb, eqb, List, [], ◌∷◌, ◌++◌, take, drop, length, refl, ap, ◌∙◌, arith, length-drop}
use Rattle.reassembly_law.proofs.Outcomes.{true_leb, false_leb}
use Rattle.unit_stream.proofs.Numbers.{eqb_zero, not_zero}
use Rattle.unit_stream.proofs.Numbers.{eqb_false}
use Rattle.unit_stream.specs.Packing.{Filling, stuffed, behind_unit, filled, Piece, may_begin, begin_piece, middle_piece, pieces, byte_count}

-- each unit has so many bytes at least
abbrev pub AreLong : ℕ → List (List ℕ) → Type 0
AreLong start [] = Unit {0}
AreLong start (unit ∷ units) = (start ≤ length unit) × AreLong start units

abbrev make : List ℕ → List ℕ → List (List ℕ) → Filling
make bytes rest units = record { bytes = bytes; rest = rest; units = units }

-- what a packet leaves to the next ones
pub record Leaves (start : ℕ) (most : ℕ) (filling : Filling) : Type 0 where
  pub size : length filling.rest + byte_count filling.units ≤ most
  pub long : AreLong start filling.units

module _ (start : ℕ) (packing : Bool) (least : 1 ≤ start) (most_start : start ≤ 183) where
  filled_leaves : (room : ℕ) (units : List (List ℕ)) → AreLong start units → Leaves start (byte_count units) (filled start packing room units)
  filled_leaves room [] long = record { size = omega arith; long = tt }
  filled_leaves room (unit ∷ units) long =
      by_tests (leb (length unit) room) (packing && leb start (room - length unit)) (filled_leaves (room - length unit) units long.1)
    where
      by_tests : (fits follows : Bool) → Leaves start (byte_count units) (filled start packing (room - length unit) units)
          → Leaves start (length unit + byte_count units)
          (cond fits (behind_unit unit (cond follows (filled start packing (room - length unit) units) (stuffed (room - length unit) units)))
          (make (take room unit) (drop room unit) units))
      by_tests true true later = record { size = omega (arith, later.size); long = later.long }
      by_tests true false later = record { size = omega arith; long = long.1 }
      by_tests false follows later = record { size = omega (arith, length-drop room unit); long = long.1 }

  -- where a unit begins, some of its bytes are out
  pub begun_leaves : (room : ℕ) (unit : List ℕ) (units : List (List ℕ)) → 1 ≤ room → AreLong start (unit ∷ units)
      → Leaves start (length unit + byte_count units - 1) (filled start packing room (unit ∷ units))
  begun_leaves room unit units some long =
      by_tests (leb (length unit) room) refl (packing && leb start (room - length unit)) (filled_leaves (room - length unit) units long.1)
    where
      by_tests : (fits : Bool) → leb (length unit) room ≡ fits → (follows : Bool) → Leaves start (byte_count units) (filled start packing (room - length unit) units)
          → Leaves start (length unit + byte_count units - 1)
          (cond fits (behind_unit unit (cond follows (filled start packing (room - length unit) units) (stuffed (room - length unit) units)))
          (make (take room unit) (drop room unit) units))
      by_tests true e true later = record { size = omega (arith, later.size, long.0); long = later.long }
      by_tests true e false later = record { size = omega (arith, long.0); long = long.1 }
      by_tests false e follows later = record { size = omega (arith, length-drop room unit, false_leb (length unit) room e); long = long.1 }

  -- where a unit may begin there is room
  pub room_left : (rest : List ℕ) (unit : List ℕ) (units : List (List ℕ)) → may_begin start packing rest (unit ∷ units) ≡ true → start ≤ 183 - length rest
  room_left rest unit units may = by_tests (eqb (length rest) 0) refl packing (leb (length rest + start) 183) refl may
    where
      by_tests : (none : Bool) → eqb (length rest) 0 ≡ none → (on fits : Bool) → leb (length rest + start) 183 ≡ fits → (none || (on && fits)) ≡ true → start ≤ 183 - length rest
      by_tests true e on fits e2 m = omega (arith, eqb_zero (length rest) e)
      by_tests false e true true e2 m = omega (arith, true_leb (length rest + start) 183 e2)
      by_tests false e true false e2 m = absurd (cc)
      by_tests false e false fits e2 m = absurd (cc)

  -- more than enough is as good as enough
  same_pieces : (most k : ℕ) (rest : List ℕ) (units : List (List ℕ)) → length rest + byte_count units ≤ most → length rest + byte_count units ≤ k → AreLong start units
      → pieces most start packing rest units ≡ pieces k start packing rest units
  same_pieces zero zero rest units le le2 long = refl
  same_pieces zero (suc k) [] [] le le2 long = refl
  same_pieces zero (suc k) (x ∷ rest) units le le2 long = absurd (omega arith)
  same_pieces zero (suc k) [] (unit ∷ units) le le2 long = absurd (omega (arith, long.0))
  same_pieces (suc most) zero [] [] le le2 long = refl
  same_pieces (suc most) zero (x ∷ rest) units le le2 long = absurd (omega arith)
  same_pieces (suc most) zero [] (unit ∷ units) le le2 long = absurd (omega (arith, long.0))
  same_pieces (suc most) (suc k) rest units le le2 long =
      by_begin units le le2 long (may_begin start packing rest units) refl (λ r u a b l. same_pieces most k r u a b l)
    where
      by_rest : (units2 : List (List ℕ)) → length rest + byte_count units2 ≤ suc most → length rest + byte_count units2 ≤ suc k → AreLong start units2
          → ((r : List ℕ) (u : List (List ℕ)) → length r + byte_count u ≤ most → length r + byte_count u ≤ k → AreLong start u → pieces most start packing r u ≡ pieces k start packing r u)
          → (none : Bool) → eqb (length rest) 0 ≡ none
          → cond {A = List Piece} none [] (middle_piece rest ∷ pieces most start packing (drop 184 rest) units2) ≡ cond {A = List Piece} none [] (middle_piece rest ∷ pieces k start packing (drop 184 rest) units2)
      by_rest units2 a b l later true e = refl
      by_rest units2 a b l later false e =
          ap (λ (t : List Piece). middle_piece rest ∷ t)
          (later (drop 184 rest) units2 (omega (arith, length-drop 184 rest, not_zero (length rest) e)) (omega (arith, length-drop 184 rest, not_zero (length rest) e)) l)

      by_begin : (units2 : List (List ℕ)) → length rest + byte_count units2 ≤ suc most → length rest + byte_count units2 ≤ suc k → AreLong start units2
          → (may : Bool) → may_begin start packing rest units2 ≡ may
          → ((r : List ℕ) (u : List (List ℕ)) → length r + byte_count u ≤ most → length r + byte_count u ≤ k → AreLong start u → pieces most start packing r u ≡ pieces k start packing r u)
          → cond {A = List Piece} may (begin_piece rest (filled start packing (183 - length rest) units2) (pieces most start packing))
          (cond {A = List Piece} (eqb (length rest) 0) [] (middle_piece rest ∷ pieces most start packing (drop 184 rest) units2))
          ≡ cond {A = List Piece} may (begin_piece rest (filled start packing (183 - length rest) units2) (pieces k start packing))
          (cond {A = List Piece} (eqb (length rest) 0) [] (middle_piece rest ∷ pieces k start packing (drop 184 rest) units2))
      by_begin units2 a b l false m later = by_rest units2 a b l later (eqb (length rest) 0) refl
      by_begin [] a b l true m later = absurd (cc)
      by_begin (unit ∷ units2) a b l true m later =
          let leaves : Leaves start (length unit + byte_count units2 - 1) (filled start packing (183 - length rest) (unit ∷ units2)) =
          begun_leaves (183 - length rest) unit units2 (omega (arith, room_left rest unit units2 m)) l in
          ap (λ (t : List Piece). record { starts = true; payload = length rest ∷ (rest ++ (filled start packing (183 - length rest) (unit ∷ units2)).bytes) } ∷ t)
          (later (filled start packing (183 - length rest) (unit ∷ units2)).rest (filled start packing (183 - length rest) (unit ∷ units2)).units
          (omega (arith, leaves.size, l.0)) (omega (arith, leaves.size, l.0)) leaves.long)

  -- the packets left
  abbrev pub left : List ℕ → List (List ℕ) → List Piece
  left rest units = pieces (length rest + byte_count units) start packing rest units

  pub left_none : (units : List (List ℕ)) → AreLong start units → may_begin start packing [] units ≡ false → left [] units ≡ []
  left_none [] long may = refl
  left_none (unit ∷ units) long may = absurd (cc)

  pub left_begin : (rest unit : List ℕ) (units : List (List ℕ)) → AreLong start (unit ∷ units) → may_begin start packing rest (unit ∷ units) ≡ true
      → left rest (unit ∷ units) ≡ begin_piece rest (filled start packing (183 - length rest) (unit ∷ units)) left
  left_begin rest unit units long may = by_most (length rest + byte_count (unit ∷ units)) (omega arith) (omega arith)
    where
      by_most : (most : ℕ) → length rest + byte_count (unit ∷ units) ≤ most → most ≤ length rest + byte_count (unit ∷ units)
          → pieces most start packing rest (unit ∷ units) ≡ begin_piece rest (filled start packing (183 - length rest) (unit ∷ units)) left
      by_most most enough exact =
          let leaves : Leaves start (length unit + byte_count units - 1) (filled start packing (183 - length rest) (unit ∷ units)) =
          begun_leaves (183 - length rest) unit units (omega (arith, room_left rest unit units may)) long in
          same_pieces most (suc most) rest (unit ∷ units) enough (omega arith) long
          ∙ ap (λ (b : Bool). cond {A = List Piece} b (begin_piece rest (filled start packing (183 - length rest) (unit ∷ units)) (pieces most start packing))
          (cond {A = List Piece} (eqb (length rest) 0) [] (middle_piece rest ∷ pieces most start packing (drop 184 rest) (unit ∷ units)))) may
          ∙ ap (λ (t : List Piece). record { starts = true; payload = length rest ∷ (rest ++ (filled start packing (183 - length rest) (unit ∷ units)).bytes) } ∷ t)
          (same_pieces most (length (filled start packing (183 - length rest) (unit ∷ units)).rest + byte_count (filled start packing (183 - length rest) (unit ∷ units)).units)
          (filled start packing (183 - length rest) (unit ∷ units)).rest (filled start packing (183 - length rest) (unit ∷ units)).units
          (omega (arith, leaves.size)) (omega arith) leaves.long)

  pub left_middle : (rest : List ℕ) (units : List (List ℕ)) → AreLong start units → may_begin start packing rest units ≡ false → 1 ≤ length rest
      → left rest units ≡ middle_piece rest ∷ left (drop 184 rest) units
  left_middle rest units long may some = by_most (length rest + byte_count units) (omega arith)
    where
      some_left : (n : ℕ) → 1 ≤ n → eqb n 0 ≡ false
      some_left n le = eqb_false n 0 (λ none. omega arith)

      by_most : (most : ℕ) → length rest + byte_count units ≤ most → pieces most start packing rest units ≡ middle_piece rest ∷ left (drop 184 rest) units
      by_most most enough =
          same_pieces most (suc most) rest units enough (omega arith) long
          ∙ ap (λ (b : Bool). cond {A = List Piece} b (begin_piece rest (filled start packing (183 - length rest) units) (pieces most start packing))
          (cond {A = List Piece} (eqb (length rest) 0) [] (middle_piece rest ∷ pieces most start packing (drop 184 rest) units))) may
          ∙ ap (λ (b : Bool). cond {A = List Piece} b [] (middle_piece rest ∷ pieces most start packing (drop 184 rest) units)) (some_left (length rest) some)
          ∙ ap (λ (t : List Piece). middle_piece rest ∷ t)
          (same_pieces most (length (drop 184 rest) + byte_count units) (drop 184 rest) units (omega (arith, length-drop 184 rest)) (omega arith) long)
