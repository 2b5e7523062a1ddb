-- Packets of sections: each but the last of them holds at least 183 bytes.
use Rattle.std.proofs.Common.{◌≡◌, ◌⊎◌, inl, inr, ℕ, zero, suc, ◌+◌, ◌-◌, ◌*◌, ◌%◌, ◌<◌, ◌≤◌, Bool, true, false, cond, ◌||◌, leb, eqb, List, [], ◌∷◌, length, take, drop, refl, ap, arith, length-drop}
use Rattle.section_spec.specs.Section.{section_form}
use Rattle.unit_stream.specs.Packing.{Filling, stuffed, behind_unit, filled, Piece, may_begin, begin_piece, middle_piece, pieces, byte_count, numbered, packetized}
use Rattle.slice_law.specs.Packets.{AreSome}

-- what is left of units
abbrev left : List ℕ → List (List ℕ) → ℕ
left rest units = length rest + byte_count units

true_leb : (a b : ℕ) → leb a b ≡ true → a ≤ b
true_leb a b e = grind (arith, e)

false_leb : (a b : ℕ) → leb a b ≡ false → b < a
false_leb a b e = grind (arith, e)

-- the room is filled, or all units end in it
abbrev IsFilling : ℕ → List (List ℕ) → Filling → Type 0
IsFilling room units f = ((left f.rest f.units + room ≡ byte_count units) ⊎ (left f.rest f.units ≡ 0)) × AreSome f.units

filling : (room : ℕ) (units : List (List ℕ)) → AreSome units → IsFilling room units (filled 1 true room units)
filling room [] some = (inr refl, tt)
filling room (unit ∷ units) some = by_fits (leb (length unit) room) refl (leb 1 (room - length unit)) refl (filling (room - length unit) units some.1)
  where
    by_fits : (fits : Bool) → leb (length unit) room ≡ fits → (follows : Bool) → leb 1 (room - length unit) ≡ follows → IsFilling (room - length unit) units (filled 1 true (room - length unit) units)
        → IsFilling room (unit ∷ units) (cond fits (behind_unit unit (cond follows (filled 1 true (room - length unit) units) (stuffed (room - length unit) units)))
        (record { bytes = take room unit; rest = drop room unit; units = units }))
    by_fits false e follows e2 later =
        let less : room < length unit = false_leb (length unit) room e in
        (inl (omega (arith, length-drop room unit, less)), some.1)
    by_fits true e false e2 later =
        let fits : length unit ≤ room = true_leb (length unit) room e in
        let none : room - length unit < 1 = false_leb 1 (room - length unit) e2 in
        (inl (omega (arith, fits, none)), some.1)
    by_fits true e true e2 later = (by_later later.0, later.1)
      where
        fits : length unit ≤ room
        fits = true_leb (length unit) room e

        by_later : ((left (filled 1 true (room - length unit) units).rest (filled 1 true (room - length unit) units).units + (room - length unit) ≡ byte_count units)
            ⊎ (left (filled 1 true (room - length unit) units).rest (filled 1 true (room - length unit) units).units ≡ 0))
            → ((left (filled 1 true (room - length unit) units).rest (filled 1 true (room - length unit) units).units + room ≡ length unit + byte_count units)
            ⊎ (left (filled 1 true (room - length unit) units).rest (filled 1 true (room - length unit) units).units ≡ 0))
        by_later (inl whole) = inl (omega (arith, whole, fits))
        by_later (inr none) = inr none

few_pieces : (most : ℕ) (rest : List ℕ) (units : List (List ℕ)) → AreSome units → length (pieces most 1 true rest units) * 183 ≤ left rest units + 182
few_pieces zero rest units some = omega arith
few_pieces (suc most) rest units some =
    by_begin (may_begin 1 true rest units) refl (eqb (length rest) 0) refl (filling (183 - length rest) units some)
    (few_pieces most (filled 1 true (183 - length rest) units).rest (filled 1 true (183 - length rest) units).units (filling (183 - length rest) units some).1)
    (few_pieces most (drop 184 rest) units some)
  where
    -- a next unit begins where there is one and the rest leaves room
    begun : (units2 : List (List ℕ)) → AreSome units2 → may_begin 1 true rest units2 ≡ true → (length rest ≤ 182) × (1 ≤ byte_count units2)
    begun [] some2 e = absurd (cc)
    begun (unit ∷ others) some2 e = (by_tests (eqb (length rest) 0) refl (leb (length rest + 1) 183) refl e, omega (arith, some2.0))
      where
        by_tests : (none : Bool) → eqb (length rest) 0 ≡ none → (room : Bool) → leb (length rest + 1) 183 ≡ room → (none || room) ≡ true → length rest ≤ 182
        by_tests true e1 room e2 e3 = let zero_is : length rest ≡ 0 = grind (arith, e1) in omega (arith, zero_is)
        by_tests false e1 true e2 e3 = omega (arith, true_leb (length rest + 1) 183 e2)
        by_tests false e1 false e2 e3 = absurd (cc)

    not_begun : (units2 : List (List ℕ)) → may_begin 1 true rest units2 ≡ false → (183 ≤ length rest) ⊎ (byte_count units2 ≡ 0)
    not_begun [] e = inr refl
    not_begun (unit ∷ others) e = inl (by_tests (eqb (length rest) 0) (leb (length rest + 1) 183) refl e)
      where
        by_tests : (none room : Bool) → leb (length rest + 1) 183 ≡ room → (none || room) ≡ false → 183 ≤ length rest
        by_tests true room e2 e3 = absurd (cc)
        by_tests false true e2 e3 = absurd (cc)
        by_tests false false e2 e3 = omega (arith, false_leb (length rest + 1) 183 e2)

    more : (n b : ℕ) → n * 183 + 183 ≤ b → suc n * 183 ≤ b
    more n b le = let one : suc n ≡ n + 1 = omega arith in omega (arith, le, one)

    by_filling : (n l b : ℕ) → (length rest ≤ 182) × (1 ≤ b) → (l + (183 - length rest) ≡ b) ⊎ (l ≡ 0) → n * 183 ≤ l + 182 → suc n * 183 ≤ length rest + b + 182
    by_filling n l b begins (inl whole) le = more n (length rest + b + 182) (omega (arith, begins.0, whole, le))
    by_filling n l b begins (inr none) le = more n (length rest + b + 182) (omega (arith, begins.1, none, le))

    by_rest : (n d b : ℕ) → d ≡ length rest - 184 → 0 < length rest → (183 ≤ length rest) ⊎ (b ≡ 0) → n * 183 ≤ d + b + 182 → suc n * 183 ≤ length rest + b + 182
    by_rest n d b is above (inl long) le = more n (length rest + b + 182) (omega (arith, is, long, le))
    by_rest n d b is above (inr none) le = by_length (leb 184 (length rest)) refl
      where
        by_length : (long : Bool) → leb 184 (length rest) ≡ long → suc n * 183 ≤ length rest + b + 182
        by_length true e = more n (length rest + b + 182) (omega (arith, is, true_leb 184 (length rest) e, le))
        by_length false e = more n (length rest + b + 182) (omega (arith, is, none, above, false_leb 184 (length rest) e, le))

    by_begin : (begins : Bool) → may_begin 1 true rest units ≡ begins → (none : Bool) → eqb (length rest) 0 ≡ none
        → IsFilling (183 - length rest) units (filled 1 true (183 - length rest) units)
        → length (pieces most 1 true (filled 1 true (183 - length rest) units).rest (filled 1 true (183 - length rest) units).units) * 183
        ≤ left (filled 1 true (183 - length rest) units).rest (filled 1 true (183 - length rest) units).units + 182
        → length (pieces most 1 true (drop 184 rest) units) * 183 ≤ left (drop 184 rest) units + 182
        → length (cond begins (begin_piece rest (filled 1 true (183 - length rest) units) (pieces most 1 true))
        (cond none [] (middle_piece rest ∷ pieces most 1 true (drop 184 rest) units))) * 183 ≤ left rest units + 182
    by_begin true e none e2 fill le le2 =
        by_filling (length (pieces most 1 true (filled 1 true (183 - length rest) units).rest (filled 1 true (183 - length rest) units).units))
        (left (filled 1 true (183 - length rest) units).rest (filled 1 true (183 - length rest) units).units) (byte_count units) (begun units some e) fill.0 le
    by_begin false e true e2 fill le le2 = omega arith
    by_begin false e false e2 fill le le2 =
        by_rest (length (pieces most 1 true (drop 184 rest) units)) (length (drop 184 rest)) (byte_count units) (length-drop 184 rest) above (not_begun units e) le2
      where
        above : 0 < length rest
        above = grind (arith, e2)

length-numbered : (pid counter : ℕ) (ps : List Piece) → length (numbered pid counter ps) ≡ length ps
length-numbered pid counter [] = refl
length-numbered pid counter (piece ∷ ps) = ap suc (length-numbered pid ((counter + 1) % 16) ps)

pub few_packets : (pid counter : ℕ) (units : List (List ℕ)) → AreSome units → length (packetized section_form true pid counter units) * 183 ≤ byte_count units + 182
few_packets pid counter units some =
    let same : length (packetized section_form true pid counter units) ≡ length (pieces (byte_count units) 1 true [] units) = length-numbered pid counter (pieces (byte_count units) 1 true [] units) in
    let few : length (pieces (byte_count units) 1 true [] units) * 183 ≤ left [] units + 182 = few_pieces (byte_count units) [] units some in
    of_same (length (packetized section_form true pid counter units)) (length (pieces (byte_count units) 1 true [] units)) same few
  where
    of_same : (a b : ℕ) → a ≡ b → b * 183 ≤ 0 + byte_count units + 182 → a * 183 ≤ byte_count units + 182
    of_same a b e le = omega (arith, e, le)
