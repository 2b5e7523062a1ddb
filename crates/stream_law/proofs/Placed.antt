-- In which packet a unit begins: the packets of the units before it and of its first bytes, without the last one, stand before it.
use Rattle.std.proofs.Common.{◌≡◌, ◌⊎◌, inl, inr, ℕ, zero, suc, ◌+◌, ◌-◌, ◌<◌, ◌≤◌, ◌%◌, Bool, true, false, cond, ◌&&◌, leb, eqb, List, [], ◌∷◌, ◌++◌, length, take, drop, map, replicate, refl, sym, ap, ap₂, subst, ◌∙◌, arith, length-drop, length-take}
use Rattle.std.proofs.lemmas.List.{get_or_append_left, get_or-map}
use Rattle.unit_stream.proofs.Numbers.{eqb_true}
use Rattle.ts_spec.specs.Form.{UnitForm, IsLawful, IsUnit}
use Rattle.ts_spec.specs.Packet.{PacketFields, unit_bytes, pointer, continues}
use Rattle.ts_spec.specs.Packetized.{packet_at, unit_at, edge, IsIn, IsFirstIn, Packetizes}
use Rattle.unit_stream.specs.Packing.{Filling, stuffed, behind_unit, filled, Piece, may_begin, begin_piece, middle_piece, pieces, byte_count, numbered, packetized}
use Rattle.unit_stream.proofs.Numbers.{eqb_zero, not_zero}
use Rattle.unit_stream.proofs.Left.{AreLong, Leaves, begun_leaves, room_left}
use Rattle.unit_stream.proofs.Edges.{in_first, in_later}
use Rattle.unit_stream.proofs.Laid.{begin_at, IsPointed, AreLaid, BeginIn, laid_middle}
use Rattle.stream_law.proofs.LaidFront.{begin_in, begin_shifted, laid_front}
use Rattle.unit_stream.proofs.Written.{length-numbered}
use Rattle.reassembly_law.proofs.Outcomes.{true_leb, false_leb}

-- the units before unit n, and the bytes of it that must stand in its first packet
abbrev pub up_to : ℕ → List (List ℕ) → ℕ → List (List ℕ)
up_to start units n = take n units ++ take start (unit_at units n) ∷ []

abbrev middle_packet : ℕ → ℕ → List ℕ → PacketFields
middle_packet pid counter rest =
    record { pid = pid; starts = false; counter = counter; broken = false; payload = take 184 rest ++ replicate (184 - length rest) 0xFF }

abbrev begin_packet : ℕ → ℕ → List ℕ → List ℕ → PacketFields
begin_packet pid counter rest behind =
    record { pid = pid; starts = true; counter = counter; broken = false; payload = length rest ∷ (rest ++ behind) }

module _ (start : ℕ) (packing : Bool) (least : 1 ≤ start) (most_start : start ≤ 183) where
  -- nothing is left
  laid_none : (pid : ℕ) → AreLaid start [] [] [] (0 ∷ [])
  laid_none pid = record {
    count = omega arith;
    rest_bytes = refl;
    rest_next = inl refl;
    each = λ n less. absurd (omega arith);
    to_end = refl;
    pointed = λ m less set. absurd (omega arith);
    at_once = λ _. refl;
    none = λ _ _. refl;
  }

  -- more than enough is as good as enough
  same_pieces : (most k : ℕ) (rest : List ℕ) (units : List (List ℕ)) → length rest + byte_count units ≤ most → length rest + byte_count units ≤ k → AreLong start units
      → pieces most start packing rest units ≡ pieces k start packing rest units
  same_pieces zero zero rest units le le2 long = refl
  same_pieces zero (suc k) [] [] le le2 long = refl
  same_pieces zero (suc k) (x ∷ rest) units le le2 long = absurd (omega arith)
  same_pieces zero (suc k) [] (unit ∷ units) le le2 long = absurd (omega (arith, long.0))
  same_pieces (suc most) zero [] [] le le2 long = refl
  same_pieces (suc most) zero (x ∷ rest) units le le2 long = absurd (omega arith)
  same_pieces (suc most) zero [] (unit ∷ units) le le2 long = absurd (omega (arith, long.0))
  same_pieces (suc most) (suc k) rest units le le2 long =
      by_begin units le le2 long (may_begin start packing rest units) refl (λ r u a b l. same_pieces most k r u a b l)
    where
      by_rest : (units2 : List (List ℕ)) → length rest + byte_count units2 ≤ suc most → length rest + byte_count units2 ≤ suc k → AreLong start units2
          → ((r : List ℕ) (u : List (List ℕ)) → length r + byte_count u ≤ most → length r + byte_count u ≤ k → AreLong start u → pieces most start packing r u ≡ pieces k start packing r u)
          → (none : Bool) → eqb (length rest) 0 ≡ none
          → cond {A = List Piece} none [] (middle_piece rest ∷ pieces most start packing (drop 184 rest) units2) ≡ cond {A = List Piece} none [] (middle_piece rest ∷ pieces k start packing (drop 184 rest) units2)
      by_rest units2 a b l later true e = refl
      by_rest units2 a b l later false e =
          ap (λ (t : List Piece). middle_piece rest ∷ t)
          (later (drop 184 rest) units2 (omega (arith, length-drop 184 rest, not_zero (length rest) e)) (omega (arith, length-drop 184 rest, not_zero (length rest) e)) l)

      by_begin : (units2 : List (List ℕ)) → length rest + byte_count units2 ≤ suc most → length rest + byte_count units2 ≤ suc k → AreLong start units2
          → (may : Bool) → may_begin start packing rest units2 ≡ may
          → ((r : List ℕ) (u : List (List ℕ)) → length r + byte_count u ≤ most → length r + byte_count u ≤ k → AreLong start u → pieces most start packing r u ≡ pieces k start packing r u)
          → cond {A = List Piece} may (begin_piece rest (filled start packing (183 - length rest) units2) (pieces most start packing))
          (cond {A = List Piece} (eqb (length rest) 0) [] (middle_piece rest ∷ pieces most start packing (drop 184 rest) units2))
          ≡ cond {A = List Piece} may (begin_piece rest (filled start packing (183 - length rest) units2) (pieces k start packing))
          (cond {A = List Piece} (eqb (length rest) 0) [] (middle_piece rest ∷ pieces k start packing (drop 184 rest) units2))
      by_begin units2 a b l false m later = by_rest units2 a b l later (eqb (length rest) 0) refl
      by_begin [] a b l true m later = absurd (cc)
      by_begin (unit ∷ units2) a b l true m later =
          let leaves : Leaves start (length unit + byte_count units2 - 1) (filled start packing (183 - length rest) (unit ∷ units2)) =
          begun_leaves start packing least most_start (183 - length rest) unit units2 (omega (arith, room_left start packing least most_start rest unit units2 m)) l in
          ap (λ (t : List Piece). record { starts = true; payload = length rest ∷ (rest ++ (filled start packing (183 - length rest) (unit ∷ units2)).bytes) } ∷ t)
          (later (filled start packing (183 - length rest) (unit ∷ units2)).rest (filled start packing (183 - length rest) (unit ∷ units2)).units
          (omega (arith, leaves.size, l.0)) (omega (arith, leaves.size, l.0)) leaves.long)

-- The counters.

continuous : (pid counter : ℕ) (ps : List Piece) (m : ℕ) → m + 1 < length (numbered pid counter ps)
    → continues (packet_at (numbered pid counter ps) m) (packet_at (numbered pid counter ps) (m + 1)) ≡ true
continuous pid counter [] m less = absurd (omega arith)
continuous pid counter (a ∷ []) m less = absurd (omega arith)
continuous pid counter (a ∷ (b ∷ ps)) zero less = ap (λ (t : Bool). t && true) (eqb_true ((counter + 1) % 16) ((counter + 1) % 16) refl)
continuous pid counter (a ∷ (b ∷ ps)) (suc m) less =
    let next : suc m + 1 ≡ suc (m + 1) = omega arith in
    ap (λ (k : ℕ). continues (packet_at (numbered pid ((counter + 1) % 16) (b ∷ ps)) m) (packet_at (numbered pid counter (a ∷ (b ∷ ps))) k)) next
    ∙ continuous pid ((counter + 1) % 16) (b ∷ ps) m (omega arith)

long_units : (form : UnitForm) → IsLawful form → (units : List (List ℕ)) → ((n : ℕ) → n < length units → IsUnit form (unit_at units n)) → AreLong form.start units
long_units form lawful [] each = tt
long_units form lawful (unit ∷ units) each = (
  lawful.whole_least unit (length unit) (each 0 (omega arith)).size,
  long_units form lawful units (λ n less. each (suc n) (omega arith)),
)

carried_by : (form : UnitForm) (packing : Bool) (pid counter : ℕ) (units : List (List ℕ)) → ((n : ℕ) → n < length units → IsUnit form (unit_at units n))
    → (begins : List ℕ) → AreLaid form.start [] units (packetized form packing pid counter units) begins → Packetizes form units (packetized form packing pid counter units) (begin_at begins)
carried_by form packing pid counter units each begins laid = record {
  each = each;
  continuous = continuous pid counter (pieces (byte_count units) form.start packing [] units);
  from_zero = laid.at_once refl;
  bytes = λ n less. (laid.each n less).bytes;
  next = λ n less. (laid.each n less).next_is;
  to_end = laid.to_end;
  starts = λ m n less here. (laid.each n less).starts m here;
  pointed = λ m less set. by_found m (laid.pointed m less set);
  enough = λ m n less here. (laid.each n less).enough m here;
}
  where
    by_found : (m : ℕ) → (n : ℕ) × IsPointed (packetized form packing pid counter units) (length units) begins m n
        → (n : ℕ) × IsFirstIn units (packetized form packing pid counter units) (begin_at begins) m n × (edge (packetized form packing pid counter units) m + pointer (packet_at (packetized form packing pid counter units) m) ≡ begin_at begins n)
    by_found m (n, found) = (n, record { unit = found.unit; starts = found.here; first = found.first }, found.pointer_is)

-- whether a unit may begin does not depend on which
same_may : (start : ℕ) (packing : Bool) (rest : List ℕ) (units : List (List ℕ)) (n : ℕ) → n < length units → may_begin start packing rest (up_to start units n) ≡ may_begin start packing rest units
same_may start packing rest [] n less = absurd (omega arith)
same_may start packing rest (unit ∷ units) zero less = refl
same_may start packing rest (unit ∷ units) (suc n) less = refl

module _ (start : ℕ) (packing : Bool) (least : 1 ≤ start) (most_start : start ≤ 183) where
  -- What is left where units up to one fill the room.

  abbrev Splits : List (List ℕ) → ℕ → Filling → Filling → Type 0
  Splits units n f g = ((n + length f.units < length units) × (g.rest ≡ []) × (g.units ≡ []))
      ⊎ ((m : ℕ) × (n + length f.units ≡ length units + m) × (m < length f.units) × (g.rest ≡ f.rest) × (g.units ≡ up_to start f.units m))

  fewer : (room : ℕ) (units : List (List ℕ)) → length (filled start packing room units).units ≤ length units
  fewer room [] = omega arith
  fewer room (unit ∷ units) = by_tests (leb (length unit) room) (packing && leb start (room - length unit)) (fewer (room - length unit) units)
    where
      by_tests : (fits follows : Bool) → length (filled start packing (room - length unit) units).units ≤ length units
          → length (cond fits (behind_unit unit (cond follows (filled start packing (room - length unit) units) (stuffed (room - length unit) units)))
          (record { bytes = take room unit; rest = drop room unit; units = units })).units ≤ suc (length units)
      by_tests true true le = omega (arith, le)
      by_tests true false le = omega arith
      by_tests false follows le = omega arith

  fewer_behind : (room : ℕ) (unit : List ℕ) (units : List (List ℕ)) → length (filled start packing room (unit ∷ units)).units ≤ length units
  fewer_behind room unit units = by_tests (leb (length unit) room) (packing && leb start (room - length unit)) (fewer (room - length unit) units)
    where
      by_tests : (fits follows : Bool) → length (filled start packing (room - length unit) units).units ≤ length units
          → length (cond fits (behind_unit unit (cond follows (filled start packing (room - length unit) units) (stuffed (room - length unit) units)))
          (record { bytes = take room unit; rest = drop room unit; units = units })).units ≤ length units
      by_tests true true le = le
      by_tests true false le = omega arith
      by_tests false follows le = omega arith

  filled_up_to : (room : ℕ) (units : List (List ℕ)) (n : ℕ) → AreLong start units → start ≤ room → n < length units
      → Splits units n (filled start packing room units) (filled start packing room (up_to start units n))
  filled_up_to room [] n long fits less = absurd (omega arith)
  filled_up_to room (unit ∷ units) zero long fits less =
      by_fits (leb (length (take start unit)) room) refl (packing && leb start (room - length (take start unit)))
    where
      by_fits : (whole : Bool) → leb (length (take start unit)) room ≡ whole → (follows : Bool)
          → Splits (unit ∷ units) zero (filled start packing room (unit ∷ units))
          (cond whole (behind_unit (take start unit) (cond follows (filled start packing (room - length (take start unit)) []) (stuffed (room - length (take start unit)) [])))
          (record { bytes = take room (take start unit); rest = drop room (take start unit); units = [] }))
      by_fits true e true = inl (omega (arith, fewer_behind room unit units), refl, refl)
      by_fits true e false = inl (omega (arith, fewer_behind room unit units), refl, refl)
      by_fits false e follows = absurd (omega (arith, length-take start unit, fits, false_leb (length (take start unit)) room e))
  filled_up_to room (unit ∷ units) (suc n) long fits less =
      by_tests (leb (length unit) room) (packing && leb start (room - length unit)) refl (λ room_left. filled_up_to (room - length unit) units n long.1 room_left (omega (arith, less)))
    where
      stays : (m : ℕ) → suc n + length units ≡ suc (length units) + n
      stays m = omega arith

      both_true : (a b : Bool) → (a && b) ≡ true → b ≡ true
      both_true true b e = e
      both_true false b e = absurd (cc)

      by_splits : Splits units n (filled start packing (room - length unit) units) (filled start packing (room - length unit) (up_to start units n))
          → Splits (unit ∷ units) (suc n) (behind_unit unit (filled start packing (room - length unit) units)) (behind_unit unit (filled start packing (room - length unit) (up_to start units n)))
      by_splits (inl here) = inl (omega (arith, here.0), here.1, here.2)
      by_splits (inr later) = inr (later.0, omega (arith, later.1), later.2, later.3, later.4)

      by_tests : (whole follows : Bool) → (packing && leb start (room - length unit)) ≡ follows
          → (start ≤ room - length unit → Splits units n (filled start packing (room - length unit) units) (filled start packing (room - length unit) (up_to start units n)))
          → Splits (unit ∷ units) (suc n)
          (cond whole (behind_unit unit (cond follows (filled start packing (room - length unit) units) (stuffed (room - length unit) units)))
          (record { bytes = take room unit; rest = drop room unit; units = units }))
          (cond whole (behind_unit unit (cond follows (filled start packing (room - length unit) (up_to start units n)) (stuffed (room - length unit) (up_to start units n))))
          (record { bytes = take room unit; rest = drop room unit; units = up_to start units n }))
      by_tests true true e later = by_splits (later (true_leb start (room - length unit) (both_true packing (leb start (room - length unit)) e)))
      by_tests true false e later = inr (n, stays n, omega (arith, less), refl, refl)
      by_tests false follows e later = inr (n, stays n, omega (arith, less), refl, refl)

  -- Packets.

  none_pieces : (most : ℕ) → length (pieces most start packing [] []) ≡ 0
  none_pieces zero = refl
  none_pieces (suc most) = refl

  module _ (pid : ℕ) where
    -- each unit begins in the packet that the units up to it count
    abbrev AreIn : ℕ → List ℕ → List (List ℕ) → List PacketFields → List ℕ → Type 0
    AreIn most rest units packets begins =
        (n : ℕ) → n < length units → (m : ℕ) × IsIn packets m (begin_at begins n) × (suc m ≡ length (pieces most start packing rest (up_to start units n)))

    abbrev ArePlaced : ℕ → ℕ → List ℕ → List (List ℕ) → Type 0
    ArePlaced most counter rest units = (begins : List ℕ) × AreLaid start rest units (numbered pid counter (pieces most start packing rest units)) begins
        × AreIn most rest units (numbered pid counter (pieces most start packing rest units)) begins

    placed : (most counter : ℕ) (rest : List ℕ) (units : List (List ℕ)) → length rest + byte_count units ≤ most → AreLong start units → ArePlaced most counter rest units
    placed zero counter [] [] enough long = (0 ∷ [], laid_none start packing least most_start pid, λ n less. absurd (omega arith))
    placed zero counter (x ∷ rest) units enough long = absurd (omega arith)
    placed zero counter [] (unit ∷ units) enough long = absurd (omega (arith, long.0, least))
    placed (suc most) counter rest units enough long =
        by_begin units enough long (may_begin start packing rest units) refl (λ r u e l. placed most ((counter + 1) % 16) r u e l)
      where
        -- the packets of units up to one, by whether one begins in the first
        up_to_begin : (unit : List ℕ) (units2 : List (List ℕ)) (n : ℕ) → n < length (unit ∷ units2) → may_begin start packing rest (unit ∷ units2) ≡ true
            → length (pieces (suc most) start packing rest (up_to start (unit ∷ units2) n))
            ≡ suc (length (pieces most start packing (filled start packing (183 - length rest) (up_to start (unit ∷ units2) n)).rest (filled start packing (183 - length rest) (up_to start (unit ∷ units2) n)).units))
        up_to_begin unit units2 n less may =
            ap (λ (b : Bool). length (cond b (begin_piece rest (filled start packing (183 - length rest) (up_to start (unit ∷ units2) n)) (pieces most start packing))
            (cond (eqb (length rest) 0) [] (middle_piece rest ∷ pieces most start packing (drop 184 rest) (up_to start (unit ∷ units2) n)))))
            (same_may start packing rest (unit ∷ units2) n less ∙ may)

        up_to_middle : (units2 : List (List ℕ)) (n : ℕ) → n < length units2 → may_begin start packing rest units2 ≡ false → eqb (length rest) 0 ≡ false
            → length (pieces (suc most) start packing rest (up_to start units2 n)) ≡ suc (length (pieces most start packing (drop 184 rest) (up_to start units2 n)))
        up_to_middle units2 n less may some =
            ap (λ (b : Bool). length (cond b (begin_piece rest (filled start packing (183 - length rest) (up_to start units2 n)) (pieces most start packing))
            (cond (eqb (length rest) 0) [] (middle_piece rest ∷ pieces most start packing (drop 184 rest) (up_to start units2 n)))))
            (same_may start packing rest units2 n less ∙ may)
            ∙ ap (λ (b : Bool). length (cond {A = List Piece} b [] (middle_piece rest ∷ pieces most start packing (drop 184 rest) (up_to start units2 n)))) some

        none_left : (rest2 : List ℕ) (units2 : List (List ℕ)) → eqb (length rest2) 0 ≡ true → may_begin start packing rest2 units2 ≡ false
            → (begins : List ℕ) × AreLaid start rest2 units2 [] begins × AreIn (suc most) rest2 units2 [] begins
        none_left [] [] none may = (0 ∷ [], laid_none start packing least most_start pid, λ n less. absurd (omega arith))
        none_left [] (unit ∷ units2) none may = absurd (cc)
        none_left (x ∷ rest2) units2 none may = absurd (omega (arith, eqb_zero (suc (length rest2)) none))

        by_rest : (units2 : List (List ℕ)) → length rest + byte_count units2 ≤ suc most → AreLong start units2 → may_begin start packing rest units2 ≡ false
            → ((r : List ℕ) (u : List (List ℕ)) → length r + byte_count u ≤ most → AreLong start u → ArePlaced most ((counter + 1) % 16) r u)
            → (none : Bool) → eqb (length rest) 0 ≡ none
            → (begins : List ℕ) × AreLaid start rest units2 (numbered pid counter (cond {A = List Piece} none [] (middle_piece rest ∷ pieces most start packing (drop 184 rest) units2))) begins
            × AreIn (suc most) rest units2 (numbered pid counter (cond {A = List Piece} none [] (middle_piece rest ∷ pieces most start packing (drop 184 rest) units2))) begins
        by_rest units2 e l may later true none = none_left rest units2 none may
        by_rest units2 e l may later false some = by_placed (later (drop 184 rest) units2 (omega (arith, length-drop 184 rest, not_zero (length rest) some)) l)
          where
            p : PacketFields
            p = middle_packet pid counter rest

            packets : List PacketFields
            packets = numbered pid ((counter + 1) % 16) (pieces most start packing (drop 184 rest) units2)

            by_placed : ArePlaced most ((counter + 1) % 16) (drop 184 rest) units2
                → (begins : List ℕ) × AreLaid start rest units2 (p ∷ packets) begins × AreIn (suc most) rest units2 (p ∷ packets) begins
            by_placed (begins, laid, are_in) = (
              map (λ b. length (unit_bytes p) + b) begins,
              laid_middle start p packets rest units2 begins refl (not_zero (length rest) some) refl laid,
              λ n less. by_in n less (are_in n less),
            )
              where
                by_in : (n : ℕ) → n < length units2 → (m : ℕ) × IsIn packets m (begin_at begins n) × (suc m ≡ length (pieces most start packing (drop 184 rest) (up_to start units2 n)))
                    → (m : ℕ) × IsIn (p ∷ packets) m (begin_at (map (λ b. length (unit_bytes p) + b) begins) n) × (suc m ≡ length (pieces (suc most) start packing rest (up_to start units2 n)))
                by_in n less (m, is, count) = (
                  suc m,
                  subst (IsIn (p ∷ packets) (suc m)) (sym (get_or-map (λ b. length (unit_bytes p) + b) begins n 0 0 (omega (arith, laid.count, less)))) (in_later p packets m (begin_at begins n) is),
                  ap suc count ∙ sym (up_to_middle units2 n less may some),
                )

        by_begin : (units2 : List (List ℕ)) → length rest + byte_count units2 ≤ suc most → AreLong start units2 → (may : Bool) → may_begin start packing rest units2 ≡ may
            → ((r : List ℕ) (u : List (List ℕ)) → length r + byte_count u ≤ most → AreLong start u → ArePlaced most ((counter + 1) % 16) r u)
            → (begins : List ℕ) × AreLaid start rest units2 (numbered pid counter (cond {A = List Piece} may (begin_piece rest (filled start packing (183 - length rest) units2) (pieces most start packing))
            (cond {A = List Piece} (eqb (length rest) 0) [] (middle_piece rest ∷ pieces most start packing (drop 184 rest) units2)))) begins
            × AreIn (suc most) rest units2 (numbered pid counter (cond {A = List Piece} may (begin_piece rest (filled start packing (183 - length rest) units2) (pieces most start packing))
            (cond {A = List Piece} (eqb (length rest) 0) [] (middle_piece rest ∷ pieces most start packing (drop 184 rest) units2)))) begins
        by_begin units2 e l false may later = by_rest units2 e l may later (eqb (length rest) 0) refl
        by_begin [] e l true may later = absurd (cc)
        by_begin (unit ∷ units2) e l true may later = by_placed (later f.rest f.units (omega (arith, e, leaves.size, l.0)) leaves.long)
          where
            f : Filling
            f = filled start packing (183 - length rest) (unit ∷ units2)

            room : start ≤ 183 - length rest
            room = room_left start packing least most_start rest unit units2 may

            leaves : Leaves start (length unit + byte_count units2 - 1) f
            leaves = begun_leaves start packing least most_start (183 - length rest) unit units2 (omega (arith, room, least)) l

            p : PacketFields
            p = begin_packet pid counter rest f.bytes

            packets : List PacketFields
            packets = numbered pid ((counter + 1) % 16) (pieces most start packing f.rest f.units)

            by_placed : ArePlaced most ((counter + 1) % 16) f.rest f.units
                → (begins : List ℕ) × AreLaid start rest (unit ∷ units2) (p ∷ packets) begins × AreIn (suc most) rest (unit ∷ units2) (p ∷ packets) begins
            by_placed (begins, laid, are_in) = by_front (begin_in start p packets packing (unit ∷ units2) rest (183 - length rest) begins refl least l room refl laid)
              where
                by_front : (front : List ℕ) × BeginIn start p packets (length rest) (unit ∷ units2) f.units front begins
                    → (begins2 : List ℕ) × AreLaid start rest (unit ∷ units2) (p ∷ packets) begins2 × AreIn (suc most) rest (unit ∷ units2) (p ∷ packets) begins2
                by_front (front, so) = (
                  front ++ map (λ b. length (unit_bytes p) + b) begins,
                  laid_front start p packets rest f.rest f.bytes (unit ∷ units2) f.units front begins refl refl (omega arith) so laid,
                  λ n less. by_splits n less (filled_up_to (183 - length rest) (unit ∷ units2) n l room less),
                )
                  where
                    by_splits : (n : ℕ) → n < length (unit ∷ units2) → Splits (unit ∷ units2) n f (filled start packing (183 - length rest) (up_to start (unit ∷ units2) n))
                        → (m : ℕ) × IsIn (p ∷ packets) m (begin_at (front ++ map (λ b. length (unit_bytes p) + b) begins) n) × (suc m ≡ length (pieces (suc most) start packing rest (up_to start (unit ∷ units2) n)))
                    by_splits n less (inl here) =
                        let early : n < length front = omega (arith, here.0, so.count) in (
                          0,
                          subst (IsIn (p ∷ packets) 0) (sym (get_or_append_left front (map (λ b. length (unit_bytes p) + b) begins) 0 n early)) (in_first p packets (begin_at front n) (so.inside n early).1),
                          ap suc (sym (none_pieces most) ∙ sym (ap₂ (λ (r : List ℕ) (u : List (List ℕ)). length (pieces most start packing r u)) here.1 here.2))
                              ∙ sym (up_to_begin unit units2 n less may),
                        )
                    by_splits n less (inr later) =
                        let place : n ≡ length front + later.0 = omega (arith, later.1, so.count) in
                        let found : (m : ℕ) × IsIn packets m (begin_at begins later.0) × (suc m ≡ length (pieces most start packing f.rest (up_to start f.units later.0))) = are_in later.0 later.2 in
                        let at : begin_at (front ++ map (λ b. length (unit_bytes p) + b) begins) n ≡ length (unit_bytes p) + begin_at begins later.0
                        = ap (begin_at (front ++ map (λ b. length (unit_bytes p) + b) begins)) place ∙ begin_shifted start p packets front begins later.0 (omega (arith, laid.count, later.2)) in (
                          suc found.0,
                          subst (IsIn (p ∷ packets) (suc found.0)) (sym at) (in_later p packets found.0 (begin_at begins later.0) found.1),
                          ap suc (found.2 ∙ sym (ap₂ (λ (r : List ℕ) (u : List (List ℕ)). length (pieces most start packing r u)) later.3 later.4))
                              ∙ sym (up_to_begin unit units2 n less may),
                        )

  -- The units up to one have no more bytes than all.

  fewer_bytes : (units : List (List ℕ)) (n : ℕ) → n < length units → byte_count (up_to start units n) ≤ byte_count units
  fewer_bytes [] n less = absurd (omega arith)
  fewer_bytes (unit ∷ units) zero less = omega (arith, length-take start unit)
  fewer_bytes (unit ∷ units) (suc n) less = omega (arith, fewer_bytes units n (omega (arith, less)))

  long_up_to : (units : List (List ℕ)) (n : ℕ) → AreLong start units → n < length units → AreLong start (up_to start units n)
  long_up_to [] n long less = absurd (omega arith)
  long_up_to (unit ∷ units) zero long less = (omega (arith, length-take start unit, long.0), tt)
  long_up_to (unit ∷ units) (suc n) long less = (long.0, long_up_to units n long.1 (omega (arith, less)))

pub begin_there : (form : UnitForm) → IsLawful form → (packing : Bool) (pid counter : ℕ) (units : List (List ℕ)) → ((n : ℕ) → n < length units → IsUnit form (unit_at units n))
    → (begin : ℕ → ℕ) × Packetizes form units (packetized form packing pid counter units) begin
    × ((n : ℕ) → n < length units → (m : ℕ) × IsIn (packetized form packing pid counter units) m (begin n) × (m + 1 ≡ length (packetized form packing pid counter (up_to form.start units n))))
begin_there form lawful packing pid counter units each =
    by_placed (placed form.start packing lawful.start_least lawful.start_most pid (byte_count units) counter [] units (omega arith) long)
  where
    long : AreLong form.start units
    long = long_units form lawful units each

    by_placed : ArePlaced form.start packing lawful.start_least lawful.start_most pid (byte_count units) counter [] units
        → (begin : ℕ → ℕ) × Packetizes form units (packetized form packing pid counter units) begin
        × ((n : ℕ) → n < length units → (m : ℕ) × IsIn (packetized form packing pid counter units) m (begin n) × (m + 1 ≡ length (packetized form packing pid counter (up_to form.start units n))))
    by_placed (begins, laid, are_in) = (begin_at begins, carried_by form packing pid counter units each begins laid, λ n less. by_in n less (are_in n less))
      where
        by_in : (n : ℕ) → n < length units
            → (m : ℕ) × IsIn (packetized form packing pid counter units) m (begin_at begins n) × (suc m ≡ length (pieces (byte_count units) form.start packing [] (up_to form.start units n)))
            → (m : ℕ) × IsIn (packetized form packing pid counter units) m (begin_at begins n) × (m + 1 ≡ length (packetized form packing pid counter (up_to form.start units n)))
        by_in n less (m, is, count) =
            let few : byte_count (up_to form.start units n) ≤ byte_count units = fewer_bytes form.start packing lawful.start_least lawful.start_most units n less in
            let same : pieces (byte_count units) form.start packing [] (up_to form.start units n) ≡ pieces (byte_count (up_to form.start units n)) form.start packing [] (up_to form.start units n)
            = same_pieces form.start packing lawful.start_least lawful.start_most (byte_count units) (byte_count (up_to form.start units n)) [] (up_to form.start units n)
            (omega (arith, few)) (omega arith) (long_up_to form.start packing lawful.start_least lawful.start_most units n long less) in
            (m, is, omega (arith, count, ap length same, length-numbered pid counter (pieces (byte_count (up_to form.start units n)) form.start packing [] (up_to form.start units n))))
