-- The one packetization carries the units.
use Rattle.std.proofs.Common.{◌≡◌, inl, ℕ, zero, suc, ◌+◌, ◌-◌, ◌<◌, ◌≤◌, ◌%◌, Bool, true, false, cond, ◌&&◌, eqb, List, [], ◌∷◌, ◌++◌, length, take, drop, map, replicate, refl, ap, ◌∙◌, arith, length-drop}
use Rattle.ts_spec.specs.Form.{UnitForm, IsLawful, IsUnit}
use Rattle.ts_spec.specs.Packet.{PacketFields, unit_bytes, pointer, continues}
use Rattle.ts_spec.specs.Packetized.{packet_at, unit_at, edge, IsFirstIn, Packetizes}
use Rattle.unit_stream.proofs.Numbers.{eqb_zero, not_zero}
use Rattle.unit_stream.specs.Packing.{filled, Piece, may_begin, begin_piece, middle_piece, pieces, byte_count, numbered, packetized}
use Rattle.unit_stream.proofs.Numbers.{eqb_true}
use Rattle.unit_stream.proofs.Left.{AreLong, Leaves, begun_leaves, room_left}
use Rattle.unit_stream.proofs.Laid.{begin_at, AreLaid, IsPointed, laid_begin, laid_middle}

abbrev middle_packet : ℕ → ℕ → List ℕ → PacketFields
middle_packet pid counter rest =
    record { pid = pid; starts = false; counter = counter; broken = false; payload = take 184 rest ++ replicate (184 - length rest) 0xFF }

abbrev begin_packet : ℕ → ℕ → List ℕ → List ℕ → PacketFields
begin_packet pid counter rest behind =
    record { pid = pid; starts = true; counter = counter; broken = false; payload = length rest ∷ (rest ++ behind) }

module _ (start : ℕ) (packing : Bool) (least : 1 ≤ start) (most_start : start ≤ 183) (pid : ℕ) where
  -- nothing is left
  laid_none : AreLaid start [] [] [] (0 ∷ [])
  laid_none = record {
    count = omega arith;
    rest_bytes = refl;
    rest_next = inl refl;
    each = λ n less. absurd (omega arith);
    to_end = refl;
    pointed = λ m less set. absurd (omega arith);
    at_once = λ _. refl;
    none = λ _ _. refl;
  }

  none_left : (rest : List ℕ) (units : List (List ℕ)) → eqb (length rest) 0 ≡ true → may_begin start packing rest units ≡ false → (begins : List ℕ) × AreLaid start rest units [] begins
  none_left [] [] none may = (0 ∷ [], laid_none)
  none_left [] (unit ∷ units) none may = absurd (cc)
  none_left (x ∷ rest) units none may = absurd (omega (arith, eqb_zero (suc (length rest)) none))

  laid_pieces : (most counter : ℕ) (rest : List ℕ) (units : List (List ℕ)) → length rest + byte_count units ≤ most → AreLong start units
      → (begins : List ℕ) × AreLaid start rest units (numbered pid counter (pieces most start packing rest units)) begins
  laid_pieces zero counter [] [] enough long = (0 ∷ [], laid_none)
  laid_pieces zero counter (x ∷ rest) units enough long = absurd (omega arith)
  laid_pieces zero counter [] (unit ∷ units) enough long = absurd (omega (arith, long.0))
  laid_pieces (suc most) counter rest units enough long =
      by_begin units enough long (may_begin start packing rest units) refl (λ r u e l. laid_pieces most ((counter + 1) % 16) r u e l)
    where
      by_rest : (units2 : List (List ℕ)) → length rest + byte_count units2 ≤ suc most → AreLong start units2 → may_begin start packing rest units2 ≡ false
          → ((r : List ℕ) (u : List (List ℕ)) → length r + byte_count u ≤ most → AreLong start u → (begins : List ℕ) × AreLaid start r u (numbered pid ((counter + 1) % 16) (pieces most start packing r u)) begins)
          → (none : Bool) → eqb (length rest) 0 ≡ none
          → (begins : List ℕ) × AreLaid start rest units2 (numbered pid counter (cond {A = List Piece} none [] (middle_piece rest ∷ pieces most start packing (drop 184 rest) units2))) begins
      by_rest units2 e l may later true none = none_left rest units2 none may
      by_rest units2 e l may later false some = by_laid (later (drop 184 rest) units2 (omega (arith, length-drop 184 rest, not_zero (length rest) some)) l)
        where
          by_laid : (begins : List ℕ) × AreLaid start (drop 184 rest) units2 (numbered pid ((counter + 1) % 16) (pieces most start packing (drop 184 rest) units2)) begins
              → (begins : List ℕ) × AreLaid start rest units2 (middle_packet pid counter rest ∷ numbered pid ((counter + 1) % 16) (pieces most start packing (drop 184 rest) units2)) begins
          by_laid (begins, laid) = (
            map (λ b. length (unit_bytes (middle_packet pid counter rest)) + b) begins,
            laid_middle start (middle_packet pid counter rest) (numbered pid ((counter + 1) % 16) (pieces most start packing (drop 184 rest) units2)) rest units2 begins
                refl (not_zero (length rest) some) refl laid,
          )

      by_begin : (units2 : List (List ℕ)) → length rest + byte_count units2 ≤ suc most → AreLong start units2 → (may : Bool) → may_begin start packing rest units2 ≡ may
          → ((r : List ℕ) (u : List (List ℕ)) → length r + byte_count u ≤ most → AreLong start u → (begins : List ℕ) × AreLaid start r u (numbered pid ((counter + 1) % 16) (pieces most start packing r u)) begins)
          → (begins : List ℕ) × AreLaid start rest units2 (numbered pid counter (cond {A = List Piece} may (begin_piece rest (filled start packing (183 - length rest) units2) (pieces most start packing))
          (cond {A = List Piece} (eqb (length rest) 0) [] (middle_piece rest ∷ pieces most start packing (drop 184 rest) units2)))) begins
      by_begin units2 e l false may later = by_rest units2 e l may later (eqb (length rest) 0) refl
      by_begin [] e l true may later = absurd (cc)
      by_begin (unit ∷ units2) e l true may later =
          by_laid (later (filled start packing (183 - length rest) (unit ∷ units2)).rest (filled start packing (183 - length rest) (unit ∷ units2)).units (omega (arith, leaves.size, l.0)) leaves.long)
        where
          leaves : Leaves start (length unit + byte_count units2 - 1) (filled start packing (183 - length rest) (unit ∷ units2))
          leaves = begun_leaves start packing least most_start (183 - length rest) unit units2 (omega (arith, room_left start packing least most_start rest unit units2 may)) l

          by_laid : (begins : List ℕ) × AreLaid start (filled start packing (183 - length rest) (unit ∷ units2)).rest (filled start packing (183 - length rest) (unit ∷ units2)).units
              (numbered pid ((counter + 1) % 16) (pieces most start packing (filled start packing (183 - length rest) (unit ∷ units2)).rest (filled start packing (183 - length rest) (unit ∷ units2)).units)) begins
              → (begins : List ℕ) × AreLaid start rest (unit ∷ units2)
              (begin_packet pid counter rest (filled start packing (183 - length rest) (unit ∷ units2)).bytes
              ∷ numbered pid ((counter + 1) % 16) (pieces most start packing (filled start packing (183 - length rest) (unit ∷ units2)).rest (filled start packing (183 - length rest) (unit ∷ units2)).units)) begins
          by_laid (begins, laid) =
              laid_begin start (begin_packet pid counter rest (filled start packing (183 - length rest) (unit ∷ units2)).bytes)
              (numbered pid ((counter + 1) % 16) (pieces most start packing (filled start packing (183 - length rest) (unit ∷ units2)).rest (filled start packing (183 - length rest) (unit ∷ units2)).units))
              packing rest unit units2 begins refl refl least l (room_left start packing least most_start rest unit units2 may) refl laid

-- The counters.

continuous : (pid counter : ℕ) (ps : List Piece) (m : ℕ) → m + 1 < length (numbered pid counter ps)
    → continues (packet_at (numbered pid counter ps) m) (packet_at (numbered pid counter ps) (m + 1)) ≡ true
continuous pid counter [] m less = absurd (omega arith)
continuous pid counter (a ∷ []) m less = absurd (omega arith)
continuous pid counter (a ∷ (b ∷ ps)) zero less = ap (λ (t : Bool). t && true) (eqb_true ((counter + 1) % 16) ((counter + 1) % 16) refl)
continuous pid counter (a ∷ (b ∷ ps)) (suc m) less =
    let next : suc m + 1 ≡ suc (m + 1) = omega arith in
    ap (λ (k : ℕ). continues (packet_at (numbered pid ((counter + 1) % 16) (b ∷ ps)) m) (packet_at (numbered pid counter (a ∷ (b ∷ ps))) k)) next
    ∙ continuous pid ((counter + 1) % 16) (b ∷ ps) m (omega arith)

long_units : (form : UnitForm) → IsLawful form → (units : List (List ℕ)) → ((n : ℕ) → n < length units → IsUnit form (unit_at units n)) → AreLong form.start units
long_units form lawful [] each = tt
long_units form lawful (unit ∷ units) each = (
  lawful.whole_least unit (length unit) (each 0 (omega arith)).size,
  long_units form lawful units (λ n less. each (suc n) (omega arith)),
)

pub carries : (form : UnitForm) → IsLawful form → (packing : Bool) (pid counter : ℕ) (units : List (List ℕ)) → ((n : ℕ) → n < length units → IsUnit form (unit_at units n))
    → (begin : ℕ → ℕ) × Packetizes form units (packetized form packing pid counter units) begin
carries form lawful packing pid counter units each =
    by_laid (laid_pieces form.start packing lawful.start_least lawful.start_most pid (byte_count units) counter [] units (omega arith) (long_units form lawful units each))
  where
    by_laid : (begins : List ℕ) × AreLaid form.start [] units (packetized form packing pid counter units) begins
        → (begin : ℕ → ℕ) × Packetizes form units (packetized form packing pid counter units) begin
    by_laid (begins, laid) = (
      begin_at begins,
      record {
        each = each;
        continuous = continuous pid counter (pieces (byte_count units) form.start packing [] units);
        from_zero = laid.at_once refl;
        bytes = λ n less. (laid.each n less).bytes;
        next = λ n less. (laid.each n less).next_is;
        to_end = laid.to_end;
        starts = λ m n less here. (laid.each n less).starts m here;
        pointed = λ m less set. by_found m (laid.pointed m less set);
        enough = λ m n less here. (laid.each n less).enough m here;
      },
    )
      where
        by_found : (m : ℕ) → (n : ℕ) × IsPointed (packetized form packing pid counter units) (length units) begins m n
            → (n : ℕ) × IsFirstIn units (packetized form packing pid counter units) (begin_at begins) m n × (edge (packetized form packing pid counter units) m + pointer (packet_at (packetized form packing pid counter units) m) ≡ begin_at begins n)
        by_found m (n, found) = (n, record { unit = found.unit; starts = found.here; first = found.first }, found.pointer_is)
