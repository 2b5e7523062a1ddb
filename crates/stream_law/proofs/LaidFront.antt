-- The units that begin in a packet in front of packets that carry the rest.
use Rattle.std.proofs.Common.{◌≡◌, ◌⊎◌, inl, inr, ℕ, zero, suc, ◌+◌, ◌-◌, ◌<◌, ◌≤◌, Bool, true, false, cond, ◌&&◌, leb, List, [], ◌∷◌, ◌++◌, length, take, drop, map, replicate, refl, ap, sym, ◌∙◌, subst, arith, length-append, length-drop, append_assoc}
use Rattle.std.proofs.lemmas.List.{drop_at, take_at, take-append-drop, length-take-le, get_or-append-add, get_or_append_left, get_or-map, length-map}
use Rattle.std.proofs.lemmas.Bool.{cases_lt}
use Rattle.std.proofs.Math.Seq.{take-append-add}
use Rattle.ts_spec.specs.Packet.{PacketFields, unit_bytes, pointer}
use Rattle.ts_spec.specs.Packetized.{packet_at, unit_at, joined_payloads, edge, IsIn}
use Rattle.unit_stream.specs.Packing.{Filling, stuffed, behind_unit, filled}
use Rattle.reassembly_law.proofs.Given.{both}
use Rattle.reassembly_law.proofs.Outcomes.{true_leb, false_leb}
use Rattle.unit_stream.proofs.Left.{AreLong}
use Rattle.unit_stream.proofs.Edges.{Follows, edge-zero, edge-suc, in_first, in_later, later_from, edge-one, edge-suc_next, first_of, only_first, later_of, follows_later, follows_first, bytes_later}
use Rattle.unit_stream.proofs.Laid.{begin_at, IsLaid, IsPointed, AreLaid, BeginIn}

module _ (start : ℕ) (p : PacketFields) (packets : List PacketFields) where
  -- with the places after the first packet
  abbrev pub shifted : List ℕ → List ℕ
  shifted begins = map (λ b. length (unit_bytes p) + b) begins

  pub begin_shifted : (front begins : List ℕ) (n : ℕ) → n < length begins → begin_at (front ++ shifted begins) (length front + n) ≡ length (unit_bytes p) + begin_at begins n
  begin_shifted front begins n less =
      get_or-append-add front (shifted begins) n 0 ∙ get_or-map (λ b. length (unit_bytes p) + b) begins n 0 0 less

  begin_first : (begins : List ℕ) → 1 ≤ length begins → begin_at (shifted begins) 0 ≡ length (unit_bytes p) + begin_at begins 0
  begin_first begins some = get_or-map (λ b. length (unit_bytes p) + b) begins 0 0 0 (omega arith)

  -- a unit of the packets after
  laid_later : (begin next : ℕ) (unit : List ℕ) → IsLaid start packets begin next unit → IsLaid start (p ∷ packets) (length (unit_bytes p) + begin) (length (unit_bytes p) + next) unit
  laid_later begin next unit so = record {
    bytes = bytes_later p packets (length unit) begin ∙ so.bytes;
    next_is =
        let end : length (unit_bytes p) + (begin + length unit) ≡ length (unit_bytes p) + begin + length unit = omega arith in
        subst (λ (e : ℕ). Follows (p ∷ packets) e (length (unit_bytes p) + next)) end (follows_later p packets (begin + length unit) next so.next_is);
    starts = starts_later;
    enough = enough_later;
  }
    where
      starts_later : (m : ℕ) → IsIn (p ∷ packets) m (length (unit_bytes p) + begin) → (packet_at (p ∷ packets) m).starts ≡ true
      starts_later zero here = absurd (omega (arith, first_of p packets (length (unit_bytes p) + begin) here))
      starts_later (suc m) here = so.starts m (later_of p packets m begin here)

      enough_later : (m : ℕ) → IsIn (p ∷ packets) m (length (unit_bytes p) + begin) → length (unit_bytes p) + begin + start ≤ edge (p ∷ packets) (m + 1)
      enough_later zero here = absurd (omega (arith, first_of p packets (length (unit_bytes p) + begin) here))
      enough_later (suc m) here = omega (arith, so.enough m (later_of p packets m begin here), edge-suc_next p packets m)

  -- a unit that begins in the first packet
  laid_first : (begin next : ℕ) (unit : List ℕ) → p.starts ≡ true → begin + start ≤ length (unit_bytes p) → 1 ≤ start
      → take (length unit) (drop begin (joined_payloads (p ∷ packets))) ≡ unit → Follows (p ∷ packets) (begin + length unit) next → IsLaid start (p ∷ packets) begin next unit
  laid_first begin next unit starts enough least bytes follows = record {
    bytes = bytes;
    next_is = follows;
    starts = λ m here. ap (λ (k : ℕ). (packet_at (p ∷ packets) k).starts) (only_first p packets m begin here (omega arith)) ∙ starts;
    enough = λ m here. subst (λ (k : ℕ). begin + start ≤ edge (p ∷ packets) (k + 1)) (sym (only_first p packets m begin here (omega arith))) (omega (arith, edge-one p packets));
  }

  -- the bytes of a unit that ends in the first packet
  whole_bytes : (pre unit behind : List ℕ) → unit_bytes p ≡ pre ++ (unit ++ behind) → take (length unit) (drop (length pre) (joined_payloads (p ∷ packets))) ≡ unit
  whole_bytes pre unit behind bytes =
      ap (λ (t : List ℕ). take (length unit) (drop (length pre) (t ++ joined_payloads packets))) bytes
      ∙ ap (λ (t : List ℕ). take (length unit) (drop (length pre) t)) (append_assoc pre (unit ++ behind) (joined_payloads packets))
      ∙ ap (take (length unit)) (drop_at pre ((unit ++ behind) ++ joined_payloads packets) (length pre) refl)
      ∙ ap (take (length unit)) (append_assoc unit behind (joined_payloads packets))
      ∙ take_at unit (behind ++ joined_payloads packets) (length unit) refl

  -- the bytes of a unit that goes on after it
  cut_bytes : (pre unit : List ℕ) (room : ℕ) → unit_bytes p ≡ pre ++ take room unit → room < length unit → take (length (drop room unit)) (joined_payloads packets) ≡ drop room unit
      → take (length unit) (drop (length pre) (joined_payloads (p ∷ packets))) ≡ unit
  cut_bytes pre unit room bytes over rest =
      let front : length (take room unit) ≡ room = length-take-le room unit (omega arith) in
      let sizes : length unit ≡ length (take room unit) + length (drop room unit) = omega (arith, length-drop room unit) in
      ap (λ (t : List ℕ). take (length unit) (drop (length pre) (t ++ joined_payloads packets))) bytes
      ∙ ap (λ (t : List ℕ). take (length unit) (drop (length pre) t)) (append_assoc pre (take room unit) (joined_payloads packets))
      ∙ ap (take (length unit)) (drop_at pre (take room unit ++ joined_payloads packets) (length pre) refl)
      ∙ ap (λ (n : ℕ). take n (take room unit ++ joined_payloads packets)) sizes
      ∙ take-append-add (take room unit) (joined_payloads packets) (length (drop room unit))
      ∙ ap (λ (t : List ℕ). take room unit ++ t) rest
      ∙ take-append-drop room unit

  cut_short : ℕ → List ℕ → List (List ℕ) → Filling
  cut_short room unit units = record { bytes = take room unit; rest = drop room unit; units = units }

  -- no unit begins
  begin_none : (packing : Bool) (pre : List ℕ) (room : ℕ) (begins : List ℕ) → unit_bytes p ≡ pre ++ replicate room 0xFF
      → AreLaid start [] [] packets begins → BeginIn start p packets (length pre) [] [] [] begins
  begin_none packing pre room begins bytes laid = record {
    count = omega arith;
    some = λ some_unit. absurd (omega arith);
    units_are = λ n. refl;
    inside = λ n less. absurd (omega arith);
    each = λ n less. absurd (omega arith);
    first = λ some. absurd (omega arith);
    next_is = λ some.
        let next : begin_at (shifted begins) 0 ≡ length (unit_bytes p) = begin_first begins (omega (arith, laid.count)) ∙ omega (arith, laid.at_once refl) in
        subst (λ (e : ℕ). Follows (p ∷ packets) (length pre) e) (sym next) (follows_first p packets pre room bytes some);
  }

  -- the first unit begins at its place, the others after it
  begin_more : (pre unit : List ℕ) (units left : List (List ℕ)) (front begins : List ℕ) → p.starts ≡ true → 1 ≤ start → start ≤ length unit
      → (behind : List ℕ) → unit_bytes p ≡ pre ++ (unit ++ behind) → BeginIn start p packets (length pre + length unit) units left front begins
      → BeginIn start p packets (length pre) (unit ∷ units) left (length pre ∷ front) begins
  begin_more pre unit units left front begins starts least long behind bytes so = record {
    count = omega (arith, so.count);
    some = λ _. omega arith;
    units_are = λ n. let next : suc (length front) + n ≡ suc (length front + n) = omega arith in ap (unit_at (unit ∷ units)) next ∙ so.units_are n;
    inside = inside;
    each = each;
    first = λ some. refl;
    next_is = λ some. inl refl;
  }
    where
      size : length (unit_bytes p) ≡ length pre + (length unit + length behind)
      size = ap length bytes ∙ length-append pre (unit ++ behind) ∙ ap (λ (n : ℕ). length pre + n) (length-append unit behind)

      inside : (n : ℕ) → n < suc (length front) → (length pre ≤ begin_at (length pre ∷ front) n) × (begin_at (length pre ∷ front) n < length (unit_bytes p))
      inside zero less = (omega arith, omega (arith, size, long, least))
      inside (suc n) less = (omega (arith, (so.inside n (omega arith)).0), (so.inside n (omega arith)).1)

      each : (n : ℕ) → n < suc (length front)
          → IsLaid start (p ∷ packets) (begin_at (length pre ∷ (front ++ shifted begins)) n) (begin_at (length pre ∷ (front ++ shifted begins)) (n + 1)) (unit_at (unit ∷ units) n)
      each zero less =
          laid_first (length pre) (begin_at (front ++ shifted begins) 0) unit starts (omega (arith, size, long)) least
          (whole_bytes pre unit behind bytes) (so.next_is (omega (arith, long, least)))
      each (suc n) less =
          let next : suc n + 1 ≡ suc (n + 1) = omega arith in
          subst (λ (k : ℕ). IsLaid start (p ∷ packets) (begin_at (front ++ shifted begins) n) (begin_at (length pre ∷ (front ++ shifted begins)) k) (unit_at units n)) (sym next) (so.each n (omega arith))

  -- the unit is the last that begins in the packet
  begin_last : (pre unit : List ℕ) (units : List (List ℕ)) (begins : List ℕ) → p.starts ≡ true → 1 ≤ start → length pre + start ≤ length (unit_bytes p)
      → 1 ≤ length begins → take (length unit) (drop (length pre) (joined_payloads (p ∷ packets))) ≡ unit
      → Follows (p ∷ packets) (length pre + length unit) (length (unit_bytes p) + begin_at begins 0)
      → BeginIn start p packets (length pre) (unit ∷ units) units (length pre ∷ []) begins
  begin_last pre unit units begins starts least enough some bytes follows = record {
    count = omega arith;
    some = λ _. omega arith;
    units_are = λ n. let next : 1 + n ≡ suc n = omega arith in ap (unit_at (unit ∷ units)) next;
    inside = inside;
    each = each;
    first = λ _. refl;
    next_is = λ _. inl refl;
  }
    where
      inside : (n : ℕ) → n < 1 → (length pre ≤ begin_at (length pre ∷ []) n) × (begin_at (length pre ∷ []) n < length (unit_bytes p))
      inside zero less = (omega arith, omega arith)
      inside (suc n) less = absurd (omega arith)

      each : (n : ℕ) → n < 1 → IsLaid start (p ∷ packets) (begin_at (length pre ∷ shifted begins) n) (begin_at (length pre ∷ shifted begins) (n + 1)) (unit_at (unit ∷ units) n)
      each zero less =
          laid_first (length pre) (begin_at (shifted begins) 0) unit starts enough least bytes
          (subst (λ (e : ℕ). Follows (p ∷ packets) (length pre + length unit) e) (sym (begin_first begins some)) follows)
      each (suc n) less = absurd (omega arith)

  -- all units that begin in the packet
  pub begin_in : (packing : Bool) (units : List (List ℕ)) (pre : List ℕ) (room : ℕ) (begins : List ℕ) → p.starts ≡ true → 1 ≤ start → AreLong start units → start ≤ room
      → unit_bytes p ≡ pre ++ (filled start packing room units).bytes
      → AreLaid start (filled start packing room units).rest (filled start packing room units).units packets begins
      → (front : List ℕ) × BeginIn start p packets (length pre) units (filled start packing room units).units front begins
  begin_in packing [] pre room begins starts least long enough bytes laid = ([], begin_none packing pre room begins bytes laid)
  begin_in packing (unit ∷ units) pre room begins starts least long enough bytes laid =
      by_tests (leb (length unit) room) refl (packing && leb start (room - length unit)) refl bytes laid
      (λ e l a. begin_in packing units (pre ++ unit) (room - length unit) begins starts least long.1 e l a)
    where
      by_tests : (fits : Bool) → leb (length unit) room ≡ fits → (follows : Bool) → (packing && leb start (room - length unit)) ≡ follows
          → unit_bytes p ≡ pre ++ (cond fits (behind_unit unit (cond follows (filled start packing (room - length unit) units) (stuffed (room - length unit) units))) (record { bytes = take room unit; rest = drop room unit; units = units })).bytes
          → AreLaid start (cond fits (behind_unit unit (cond follows (filled start packing (room - length unit) units) (stuffed (room - length unit) units))) (record { bytes = take room unit; rest = drop room unit; units = units })).rest
          (cond fits (behind_unit unit (cond follows (filled start packing (room - length unit) units) (stuffed (room - length unit) units))) (record { bytes = take room unit; rest = drop room unit; units = units })).units packets begins
          → (start ≤ room - length unit → unit_bytes p ≡ (pre ++ unit) ++ (filled start packing (room - length unit) units).bytes
          → AreLaid start (filled start packing (room - length unit) units).rest (filled start packing (room - length unit) units).units packets begins
          → (front : List ℕ) × BeginIn start p packets (length (pre ++ unit)) units (filled start packing (room - length unit) units).units front begins)
          → (front : List ℕ) × BeginIn start p packets (length pre) (unit ∷ units)
          (cond fits (behind_unit unit (cond follows (filled start packing (room - length unit) units) (stuffed (room - length unit) units))) (record { bytes = take room unit; rest = drop room unit; units = units })).units front begins
      by_tests true f true g b a later = more_units (later (true_leb start (room - length unit) (both packing (leb start (room - length unit)) g).1) (b ∙ sym (append_assoc pre unit (filled start packing (room - length unit) units).bytes)) a)
        where
          more_units : (front : List ℕ) × BeginIn start p packets (length (pre ++ unit)) units (filled start packing (room - length unit) units).units front begins
              → (front : List ℕ) × BeginIn start p packets (length pre) (unit ∷ units) (filled start packing (room - length unit) units).units front begins
          more_units (front, so) = (
            length pre ∷ front,
            begin_more pre unit units (filled start packing (room - length unit) units).units front begins starts least long.0 (filled start packing (room - length unit) units).bytes b
                (subst (λ (n : ℕ). BeginIn start p packets n units (filled start packing (room - length unit) units).units front begins) (length-append pre unit) so),
          )
      by_tests true f false g b a later =
          let size : length (unit_bytes p) ≡ length pre + (length unit + length {A = ℕ} (replicate (room - length unit) 0xFF)) =
          ap length b ∙ length-append pre (unit ++ replicate (room - length unit) 0xFF) ∙ ap (λ (n : ℕ). length pre + n) (length-append unit (replicate (room - length unit) 0xFF)) in
          let next : length (unit_bytes p) ≡ length (unit_bytes p) + begin_at begins 0 = omega (arith, a.at_once refl) in
          let joined_front : Follows (p ∷ packets) (length (pre ++ unit)) (length (unit_bytes p)) =
          follows_first p packets (pre ++ unit) (room - length unit) (b ∙ sym (append_assoc pre unit (replicate (room - length unit) 0xFF))) (omega (arith, length-append pre unit, long.0)) in (
            length pre ∷ [],
            begin_last pre unit units begins starts least (omega (arith, size, long.0)) (omega (arith, a.count)) (whole_bytes pre unit (replicate (room - length unit) 0xFF) b)
                (subst (λ (e : ℕ). Follows (p ∷ packets) e (length (unit_bytes p) + begin_at begins 0)) (length-append pre unit)
                (subst (λ (e : ℕ). Follows (p ∷ packets) (length (pre ++ unit)) e) next joined_front)),
          )
      by_tests false f follows g b a later =
          let over : room < length unit = false_leb (length unit) room f in
          let size : length (unit_bytes p) ≡ length pre + room = ap length b ∙ length-append pre (take room unit) ∙ ap (λ (n : ℕ). length pre + n) (length-take-le room unit (omega arith)) in
          let end : length (unit_bytes p) + length (drop room unit) ≡ length pre + length unit = omega (arith, length-drop room unit) in (
            length pre ∷ [],
            begin_last pre unit units begins starts least (omega arith) (omega (arith, a.count)) (cut_bytes pre unit room b over a.rest_bytes)
                (subst (λ (e : ℕ). Follows (p ∷ packets) e (length (unit_bytes p) + begin_at begins 0)) end (follows_later p packets (length (drop room unit)) (begin_at begins 0) a.rest_next)),
          )

  -- Packets with one more in front.

  same_laid : (begin begin2 next next2 : ℕ) (unit unit2 : List ℕ) → begin ≡ begin2 → next ≡ next2 → unit ≡ unit2
      → IsLaid start (p ∷ packets) begin2 next2 unit2 → IsLaid start (p ∷ packets) begin next unit
  same_laid begin begin2 next next2 unit unit2 a b c so =
      subst (λ (u : List ℕ). IsLaid start (p ∷ packets) begin next u) (sym c)
      (subst (λ (n : ℕ). IsLaid start (p ∷ packets) begin n unit2) (sym b)
      (subst (λ (n : ℕ). IsLaid start (p ∷ packets) n next2 unit2) (sym a) so))

  bytes_count : length (joined_payloads (p ∷ packets)) ≡ length (unit_bytes p) + length (joined_payloads packets)
  bytes_count = length-append (unit_bytes p) (joined_payloads packets)

  -- in which units begin
  pub laid_front : (rest left_rest behind : List ℕ) (units left : List (List ℕ)) (front begins : List ℕ) → unit_bytes p ≡ rest ++ behind → pointer p ≡ length rest → 1 ≤ length units
      → BeginIn start p packets (length rest) units left front begins → AreLaid start left_rest left packets begins → AreLaid start rest units (p ∷ packets) (front ++ shifted begins)
  laid_front rest left_rest behind units left front begins bytes pointer_is some so laid = record {
    count = omega (arith, length-append front (shifted begins), length-map begins (λ b. length (unit_bytes p) + b), laid.count, so.count);
    rest_bytes =
        ap (λ (t : List ℕ). take (length rest) (t ++ joined_payloads packets)) bytes
        ∙ ap (take (length rest)) (append_assoc rest behind (joined_payloads packets))
        ∙ take_at rest (behind ++ joined_payloads packets) (length rest) refl;
    rest_next = inl (so.first some);
    each = each;
    to_end =
        ap (begin_at (front ++ shifted begins)) (sym so.count)
        ∙ begin_shifted front begins (length left) (omega (arith, laid.count))
        ∙ ap (λ (n : ℕ). length (unit_bytes p) + n) laid.to_end
        ∙ sym bytes_count;
    pointed = pointed;
    at_once = λ none. so.first some ∙ none;
    none = λ _ no_units. absurd (omega arith);
  }
    where
      -- the units after the first ones
      later_begin : (n : ℕ) → length front ≤ n → n < length units + 1 → begin_at (front ++ shifted begins) n ≡ length (unit_bytes p) + begin_at begins (n - length front)
      later_begin n past less =
          let place : n ≡ length front + (n - length front) = omega arith in
          ap (begin_at (front ++ shifted begins)) place ∙ begin_shifted front begins (n - length front) (omega (arith, laid.count, so.count))

      front_begin : (n : ℕ) → n < length front → begin_at (front ++ shifted begins) n ≡ begin_at front n
      front_begin n less = get_or_append_left front (shifted begins) 0 n less

      rest_inside : length rest < length (unit_bytes p)
      rest_inside = omega (arith, (so.inside 0 (omega (arith, so.some some))).0, (so.inside 0 (omega (arith, so.some some))).1)

      each : (n : ℕ) → n < length units → IsLaid start (p ∷ packets) (begin_at (front ++ shifted begins) n) (begin_at (front ++ shifted begins) (n + 1)) (unit_at units n)
      each n less = by_place (cases_lt n (length front))
        where
          by_place : (n < length front) ⊎ (length front ≤ n) → IsLaid start (p ∷ packets) (begin_at (front ++ shifted begins) n) (begin_at (front ++ shifted begins) (n + 1)) (unit_at units n)
          by_place (inl early) = so.each n early
          by_place (inr past) =
              let place : n ≡ length front + (n - length front) = omega arith in
              let next : n + 1 - length front ≡ n - length front + 1 = omega arith in
              same_laid (begin_at (front ++ shifted begins) n) (length (unit_bytes p) + begin_at begins (n - length front))
              (begin_at (front ++ shifted begins) (n + 1)) (length (unit_bytes p) + begin_at begins (n - length front + 1)) (unit_at units n) (unit_at left (n - length front))
              (later_begin n past (omega arith))
              (later_begin (n + 1) (omega arith) (omega arith) ∙ ap (λ (k : ℕ). length (unit_bytes p) + begin_at begins k) next)
              (ap (unit_at units) place ∙ so.units_are (n - length front))
              (laid_later (begin_at begins (n - length front)) (begin_at begins (n - length front + 1)) (unit_at left (n - length front)) (laid.each (n - length front) (omega (arith, so.count))))

      all_from : (k : ℕ) → k < length units → length rest ≤ begin_at (front ++ shifted begins) k
      all_from k less = by_place (cases_lt k (length front))
        where
          by_place : (k < length front) ⊎ (length front ≤ k) → length rest ≤ begin_at (front ++ shifted begins) k
          by_place (inl early) = omega (arith, front_begin k early, (so.inside k early).0)
          by_place (inr past) = omega (arith, later_begin k past (omega arith), rest_inside)

      pointed : (m : ℕ) → m < suc (length packets) → (packet_at (p ∷ packets) m).starts ≡ true → (n : ℕ) × IsPointed (p ∷ packets) (length units) (front ++ shifted begins) m n
      pointed zero less set = (
        0,
        record {
          unit = some;
          here = subst (IsIn (p ∷ packets) 0) (sym (so.first some)) (in_first p packets (length rest) rest_inside);
          first = λ k kl _. omega (arith, so.first some, all_from k kl);
          pointer_is = omega (arith, edge-zero (p ∷ packets), pointer_is, so.first some);
        },
      )
      pointed (suc m) less set = by_found (laid.pointed m (omega arith) set)
        where
          by_found : (n : ℕ) × IsPointed packets (length left) begins m n → (n : ℕ) × IsPointed (p ∷ packets) (length units) (front ++ shifted begins) (suc m) n
          by_found (n, found) =
              let begin_is : begin_at (front ++ shifted begins) (length front + n) ≡ length (unit_bytes p) + begin_at begins n = begin_shifted front begins n (omega (arith, laid.count, found.unit)) in (
                length front + n,
                record {
                  unit = omega (arith, found.unit, so.count);
                  here = subst (IsIn (p ∷ packets) (suc m)) (sym begin_is) (in_later p packets m (begin_at begins n) found.here);
                  first = λ k kl here. by_place k kl here (cases_lt k (length front));
                  pointer_is = omega (arith, edge-suc p packets m, found.pointer_is, begin_is);
                },
              )
            where
              by_place : (k : ℕ) → k < length units → IsIn (p ∷ packets) (suc m) (begin_at (front ++ shifted begins) k) → (k < length front) ⊎ (length front ≤ k)
                  → begin_at (front ++ shifted begins) (length front + n) ≤ begin_at (front ++ shifted begins) k
              by_place k kl here (inl early) =
                  absurd (omega (arith, later_from p packets m (begin_at (front ++ shifted begins) k) here, front_begin k early, (so.inside k early).1))
              by_place k kl here (inr past) =
                  let there : IsIn packets m (begin_at begins (k - length front)) =
                  later_of p packets m (begin_at begins (k - length front)) (subst (IsIn (p ∷ packets) (suc m)) (later_begin k past (omega arith)) here) in
                  omega (arith, later_begin k past (omega arith), found.first (k - length front) (omega (arith, so.count)) there, begin_shifted front begins n (omega (arith, laid.count, found.unit)))
