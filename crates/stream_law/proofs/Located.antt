-- Where the packets of a PID stand among the parts of a stream.
use Rattle.std.proofs.Common.{◌≡◌, ◌⊎◌, inl, inr, ℕ, zero, suc, ◌+◌, ◌-◌, ◌<◌, ◌≤◌, Bool, true, false, cond, List, [], ◌∷◌, ◌++◌, length, take, drop, refl, sym, ap, subst, ◌∙◌, arith, Option, Some, None}
use Rattle.std.specs.Prelude.{flat_map, sum_by}
use Rattle.std.specs.List.{range_with_len}
use Rattle.std.proofs.lemmas.Bool.{cases_lt}
use Rattle.std.proofs.lemmas.List.{append_assoc, length-append, length-map, take-append-drop, get_or_append_left, get_or-append-add}
use Rattle.std.proofs.lemmas.List.FromFn.{length-map-range_with_len}
use Rattle.ts_spec.specs.Recording.{Record}
use Rattle.ts_spec.specs.Received.{is_of, no_arrival, Arrival, arrival_of, arrivals_from, arrival_at, packet_of}
use Rattle.plan_spec.specs.Plan.{PlanFields}
use Rattle.stream_spec.specs.Stream.{earlier}
use Rattle.stream_spec.specs.Standing.{IsInPart}
use Rattle.stream_law.specs.Words.{records_before}
use Rattle.stream_law.proofs.Ranges.{sum_next}
use Rattle.stream_law.proofs.Records.{CarryPackets, read_of, read_from}
use Rattle.stream_law.proofs.OnPid.{slot_packet}
use Rattle.stream_law.proofs.Parts.{part, packets}

-- Records and their packets.

pub length_carried : (records : List Record) (pieces : List (List ℕ)) → CarryPackets records pieces → length records ≡ length pieces
length_carried [] [] carry = refl
length_carried [] (piece ∷ pieces) carry = absurd carry
length_carried (r ∷ records) [] carry = absurd carry
length_carried (r ∷ records) (piece ∷ pieces) carry = ap suc (length_carried records pieces carry.2)

both_carried : (front rest : List (List ℕ)) (records : List Record) → CarryPackets records (front ++ rest)
    → CarryPackets (take (length front) records) front × CarryPackets (drop (length front) records) rest
both_carried [] rest records carry = (tt, carry)
both_carried (piece ∷ front) rest [] carry = absurd carry
both_carried (piece ∷ front) rest (r ∷ records) carry = by_rest (both_carried front rest records carry.2)
  where
    by_rest : CarryPackets (take (length front) records) front × CarryPackets (drop (length front) records) rest
        → CarryPackets (r ∷ take (length front) records) (piece ∷ front) × CarryPackets (drop (length front) records) rest
    by_rest (first, behind) = ((carry.0, carry.1, first), behind)

-- Arrivals.

both_arrive : (pid place : ℕ) (xs ys : List Record) → arrivals_from pid place (xs ++ ys) ≡ arrivals_from pid place xs ++ arrivals_from pid (place + length xs) ys
both_arrive pid place [] ys = let same : place ≡ place + 0 = omega arith in ap (λ (n : ℕ). arrivals_from pid n ys) same
both_arrive pid place (x ∷ xs) ys =
    ap (λ (l : List Arrival). arrival_of pid place x.moment x.bytes ++ l) (both_arrive pid (place + 1) xs ys ∙ ap (λ (n : ℕ). arrivals_from pid (place + 1) xs ++ arrivals_from pid n ys) next)
    ∙ sym (append_assoc (arrival_of pid place x.moment x.bytes) (arrivals_from pid (place + 1) xs) (arrivals_from pid (place + suc (length xs)) ys))
  where
    next : place + 1 + length xs ≡ place + suc (length xs)
    next = omega arith

abbrev AreWithin : ℕ → ℕ → List Arrival → Type 0
AreWithin from until arrived = (m : ℕ) → m < length arrived → (from ≤ (arrival_at arrived m).place) × ((arrival_at arrived m).place < until)

arrive_within : (pid place : ℕ) (xs : List Record) → AreWithin place (place + length xs) (arrivals_from pid place xs)
arrive_within pid place [] m less = absurd (omega (arith, less))
arrive_within pid place (x ∷ xs) m less = by_moment x.moment (arrive_within pid (place + 1) xs) m less
  where
    wider : AreWithin (place + 1) (place + 1 + length xs) (arrivals_from pid (place + 1) xs) → AreWithin place (place + suc (length xs)) (arrivals_from pid (place + 1) xs)
    wider later k less2 = (omega (arith, (later k less2).0), omega (arith, (later k less2).1))

    by_test : (is : Bool) (moment : ℕ) → AreWithin (place + 1) (place + 1 + length xs) (arrivals_from pid (place + 1) xs)
        → AreWithin place (place + suc (length xs)) (cond is (record { place = place; moment = moment; bytes = x.bytes } ∷ []) [] ++ arrivals_from pid (place + 1) xs)
    by_test true moment later zero less2 = (omega arith, omega arith)
    by_test true moment later (suc k) less2 = wider later k (omega (arith, less2))
    by_test false moment later k less2 = wider later k less2

    by_moment : (o : Option ℕ) → AreWithin (place + 1) (place + 1 + length xs) (arrivals_from pid (place + 1) xs)
        → AreWithin place (place + suc (length xs)) (arrival_of pid place o x.bytes ++ arrivals_from pid (place + 1) xs)
    by_moment None later = wider later
    by_moment (Some moment) later = by_test (is_of pid x.bytes) moment later

-- The parts of a stream.
module _ (plan : PlanFields) (datagrams : ℕ → ℕ → List (List ℕ)) (slots : ℕ → ℕ) (pid : ℕ) where
  abbrev pub packets_in : ℕ → List (List ℕ)
  packets_in version = packets plan datagrams slots version

  pub length-packets_in : (version : ℕ) → length (packets plan datagrams slots version) ≡ slots version
  length-packets_in version = length-map-range_with_len (slot_packet (part plan datagrams slots version)) 0 (slots version)

  -- so many packets of the PID stand before a part
  abbrev pub out_before : ℕ → ℕ
  out_before version = sum_by (λ v. length (read_of pid (packets plan datagrams slots v))) (earlier version)

  -- the packet of this number on the PID stands at this place in a part, and that has so many of them
  pub record IsLocated (a n count place : ℕ) : Type 0 where
    pub number : ℕ
    pub from : a ≤ number
    pub below : number < a + n
    pub part_is : IsInPart (records_before slots) number place
    pub after : out_before number ≤ count
    pub until : count < out_before (number + 1)

  pub located : (n a : ℕ) (records : List Record) → CarryPackets records (flat_map (packets plan datagrams slots) (range_with_len a n))
      → (m count : ℕ) → count ≡ out_before a + m → m < length (arrivals_from pid (records_before slots a) records)
      → IsLocated a n count (arrival_at (arrivals_from pid (records_before slots a) records) m).place
  located zero a [] carry m count e less = absurd (omega (arith, less))
  located zero a (r ∷ records) carry m count e less = absurd carry
  located (suc n) a records carry m count e less =
      by_records (both_carried (packets_in a) (flat_map (packets plan datagrams slots) (range_with_len (a + 1) n)) records carry)
      (λ behind k e2 less2. located n (a + 1) (drop (length (packets_in a)) records) behind k count e2 less2)
    where
      first : List Record
      first = take (length (packets_in a)) records

      rest : List Record
      rest = drop (length (packets_in a)) records

      here : List Arrival
      here = arrivals_from pid (records_before slots a) first

      later : List Arrival
      later = arrivals_from pid (records_before slots (a + 1)) rest

      by_records : CarryPackets first (packets_in a) × CarryPackets rest (flat_map (packets plan datagrams slots) (range_with_len (a + 1) n))
          → (CarryPackets rest (flat_map (packets plan datagrams slots) (range_with_len (a + 1) n)) → (k : ℕ) → count ≡ out_before (a + 1) + k → k < length later
          → IsLocated (a + 1) n count (arrival_at later k).place)
          → IsLocated a (suc n) count (arrival_at (arrivals_from pid (records_before slots a) records) m).place
      by_records (carry_first, carry_rest) behind =
          subst (λ (l : List Arrival). m < length l → IsLocated a (suc n) count (arrival_at l m).place) (sym whole) by_place less
        where
          size : length first ≡ slots a
          size = length_carried first (packets_in a) carry_first ∙ length-packets_in a

          next : records_before slots a + length first ≡ records_before slots (a + 1)
          next = omega (arith, size, sum_next slots a)

          whole : arrivals_from pid (records_before slots a) records ≡ here ++ later
          whole =
              ap (arrivals_from pid (records_before slots a)) (sym (take-append-drop (length (packets_in a)) records))
              ∙ both_arrive pid (records_before slots a) first rest
              ∙ ap (λ (place : ℕ). here ++ arrivals_from pid place rest) next

          count_here : length here ≡ length (read_of pid (packets_in a))
          count_here = sym (length-map here packet_of) ∙ ap (λ l. length l) (read_from pid (records_before slots a) first (packets_in a) carry_first)

          out_next : out_before (a + 1) ≡ out_before a + length here
          out_next = omega (arith, count_here, sum_next (λ v. length (read_of pid (packets plan datagrams slots v))) a)

          of_first : m < length here → IsLocated a (suc n) count (arrival_at here m).place
          of_first low = record {
            number = a;
            from = omega arith;
            below = omega arith;
            part_is = record {
              from = (arrive_within pid (records_before slots a) first m low).0;
              below = omega (arith, (arrive_within pid (records_before slots a) first m low).1, next);
            };
            after = omega (arith, e);
            until = omega (arith, e, low, out_next);
          }

          of_rest : (k place : ℕ) → IsLocated (a + 1) n count place → IsLocated a (suc n) count place
          of_rest k place it = record {
            number = it.number;
            from = omega (arith, it.from);
            below = omega (arith, it.below);
            part_is = it.part_is;
            after = it.after;
            until = it.until;
          }

          by_place : m < length (here ++ later) → IsLocated a (suc n) count (arrival_at (here ++ later) m).place
          by_place less2 = by_side (cases_lt m (length here))
            where
              by_side : (m < length here) ⊎ (length here ≤ m) → IsLocated a (suc n) count (arrival_at (here ++ later) m).place
              by_side (inl low) =
                  subst (λ (x : Arrival). IsLocated a (suc n) count x.place) (sym (get_or_append_left here later no_arrival m low)) (of_first low)
              by_side (inr high) =
                  let at : length here + (m - length here) ≡ m = omega (arith, high) in
                  subst (λ (x : Arrival). IsLocated a (suc n) count x.place)
                  (sym (get_or-append-add here later (m - length here) no_arrival) ∙ ap (arrival_at (here ++ later)) at)
                  (of_rest (m - length here) (arrival_at later (m - length here)).place
                  (behind carry_rest (m - length here) (omega (arith, e, high, out_next)) (omega (arith, less2, high, length-append here later))))
