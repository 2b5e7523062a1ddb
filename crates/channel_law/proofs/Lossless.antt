-- Of a recording that is what was sent each unit arrived intact.
use Rattle.std.proofs.Common.{◌≡◌, ◌⊎◌, inl, inr, ℕ, suc, ◌+◌, ◌<◌, ◌≤◌, Bool, true, false, cond, Option, None, Some, List, [], ◌∷◌, ◌++◌, length, refl, ap, sym, ◌∙◌, subst, arith}
use Rattle.std.specs.Prelude.{Contains, is_some}
use Rattle.std.proofs.lemmas.Bool.{cases_lt}
use Rattle.std.proofs.lemmas.List.{get_or-map, length-map}
use Rattle.ts_spec.specs.Form.{UnitForm}
use Rattle.ts_spec.specs.Packet.{fields_of}
use Rattle.ts_spec.specs.Recording.{Record}
use Rattle.ts_spec.specs.Received.{record_at, Arrival, arrival_at, no_arrival, packet_of, arrivals, repeats, received_after, received_packets}
use Rattle.ts_spec.specs.Packetized.{no_packet, packet_at, IsIn}
use Rattle.channel_spec.specs.Carried.{packets_sent, HoldsPart, IsKept, IsLastBefore, ArrivedIntact, IsAccepted, IsCarried}
use Rattle.channel_law.proofs.Member.{Member, member_at, contains_member, member_contains}
use Rattle.channel_law.proofs.Positions.{edge_rises}
use Rattle.channel_law.proofs.Arrivals.{later_place, later_arrival, ArrivesFrom, arrival_record}
use Rattle.channel_law.proofs.Received.{repeated_same, received_arrived}
use Rattle.channel_law.proofs.Intact.{continues_other, intact_accepted}
use Rattle.channel_law.proofs.Spans.{whole_is_span}
use Rattle.channel_law.proofs.Late.{unchanged}

-- each arrival has a number
numbered : (xs : List Arrival) (a : Arrival) → Member xs a → (i : ℕ) × (i < length xs) × (arrival_at xs i ≡ a)
numbered [] a there = absurd there
numbered (x ∷ xs) a (inl same) = (0, omega arith, same)
numbered (x ∷ xs) a (inr there) = one_later (numbered xs a there)
  where
    one_later : ((i : ℕ) × (i < length xs) × (arrival_at xs i ≡ a)) → (i : ℕ) × (i < suc (length xs)) × (arrival_at (x ∷ xs) i ≡ a)
    one_later found = (suc found.0, omega (arith, found.1), found.2)

-- where each arrival differs from the one before it all are received
all_received : (before : Option (List ℕ)) (xs : List Arrival)
    → ((a : Arrival) (rest : List Arrival) → xs ≡ a ∷ rest → repeats before a.bytes ≡ false)
    → ((i : ℕ) → i + 1 < length xs → (arrival_at xs i).bytes ≡ (arrival_at xs (i + 1)).bytes → ⊥) → received_after before xs ≡ xs
all_received before [] first differs = refl
all_received before (a ∷ xs) first differs =
    ap (λ (b : Bool). cond b [] (a ∷ []) ++ received_after (Some a.bytes) xs) (first a xs refl)
    ∙ ap (λ (t : List Arrival). a ∷ t) (all_received (Some a.bytes) xs next later)
  where
    next : (b : Arrival) (rest : List Arrival) → xs ≡ b ∷ rest → repeats (Some a.bytes) b.bytes ≡ false
    next b rest is = by_test (repeats (Some a.bytes) b.bytes) refl
      where
        by_test : (t : Bool) → repeats (Some a.bytes) b.bytes ≡ t → repeats (Some a.bytes) b.bytes ≡ false
        by_test false test = test
        by_test true test =
            absurd (differs 0 (omega (arith, ap length is)) (repeated_same a.bytes b.bytes test ∙ sym (ap (λ (t : List Arrival). (arrival_at t 0).bytes) is)))

    later : (i : ℕ) → i + 1 < length xs → (arrival_at xs i).bytes ≡ (arrival_at xs (i + 1)).bytes → ⊥
    later i within same = differs (i + 1) (omega arith) (one_next ∙ same ∙ sym two_next)
      where
        one_next : (arrival_at (a ∷ xs) (i + 1)).bytes ≡ (arrival_at xs i).bytes
        one_next = let number : i + 1 ≡ suc i = omega arith in ap (λ (t : ℕ). (arrival_at (a ∷ xs) t).bytes) number

        two_next : (arrival_at (a ∷ xs) (i + 1 + 1)).bytes ≡ (arrival_at xs (i + 1)).bytes
        two_next = let number : i + 1 + 1 ≡ suc (i + 1) = omega arith in ap (λ (t : ℕ). (arrival_at (a ∷ xs) t).bytes) number

module _ (pids : List ℕ) (sent : List Record) (form : UnitForm) (pid : ℕ) (read : Contains pids pid) (units : List (List ℕ)) (begin : ℕ → ℕ)
    (carried : IsCarried form pid sent units begin) (n : ℕ) (known : n < length units) where
  -- its arrivals
  abbrev sent_at : ℕ → Arrival
  sent_at m = arrival_at (arrivals pid sent) m

  -- as many packets as arrivals
  count : length (packets_sent pid sent) ≡ length (arrivals pid sent)
  count = length-map (arrivals pid sent) packet_of

  -- an arrival is its packet
  packet_is : (i : ℕ) → i < length (arrivals pid sent) → packet_of (sent_at i) ≡ packet_at (packets_sent pid sent) i
  packet_is i within = sym (get_or-map packet_of (arrivals pid sent) i no_arrival no_packet within)

  -- and has the bytes of its record
  bytes_at : (m : ℕ) → m < length (arrivals pid sent) → (record_at sent (sent_at m).place).bytes ≡ (sent_at m).bytes
  bytes_at m within = (arrival_record pid sent (sent_at m) (member_at (arrivals pid sent) m no_arrival within)).bytes

  -- packets differ from the next
  differs_next : (i : ℕ) → i + 1 < length (arrivals pid sent) → (sent_at i).bytes ≡ (sent_at (i + 1)).bytes → ⊥
  differs_next i within same =
      continues_other (packet_at (packets_sent pid sent) i) (packet_at (packets_sent pid sent) (i + 1)) (carried.packetized.continuous i (omega (arith, count)))
      (sym (packet_is i (omega arith)) ∙ ap fields_of same ∙ packet_is (i + 1) within)

  -- so all are received
  received_all : received_packets pid sent ≡ arrivals pid sent
  received_all = all_received None (arrivals pid sent) (λ a rest is. refl) differs_next

  -- a received packet has a number
  number_of : (a : Arrival) → Contains (received_packets pid sent) a → (i : ℕ) × (i < length (arrivals pid sent)) × (sent_at i ≡ a)
  number_of a contained = numbered (arrivals pid sent) a (received_arrived None (arrivals pid sent) a (member_contains (received_packets pid sent) a contained))

  -- the packet received last before another is the one before it, and differs
  differs : (m : ℕ) (before : Arrival) → IsIn (packets_sent pid sent) m (begin n) → IsLastBefore pid sent (sent_at m).place before
      → before.bytes ≡ (record_at sent (sent_at m).place).bytes → ⊥
  differs m before here last same = by_number (number_of before last.received)
    where
      within : m < length (arrivals pid sent)
      within = omega (arith, here.within, count)

      by_number : ((i : ℕ) × (i < length (arrivals pid sent)) × (sent_at i ≡ before)) → ⊥
      by_number found = by_next (cases_lt (found.0 + 1) m)
        where
          place : (sent_at found.0).place ≡ before.place
          place = ap (λ (t : Arrival). t.place) found.2

          less : found.0 < m
          less = later_arrival pid sent found.0 m found.1 within (omega (arith, last.before, place))

          by_next : (found.0 + 1 < m) ⊎ (m ≤ found.0 + 1) → ⊥
          by_next (inl more) =
              let between : Contains (received_packets pid sent) (sent_at (found.0 + 1)) =
              contains_member (received_packets pid sent) (sent_at (found.0 + 1))
              (subst (λ (t : List Arrival). Member t (sent_at (found.0 + 1))) (sym received_all) (member_at (arrivals pid sent) (found.0 + 1) no_arrival (omega (arith, within, more)))) in
              omega (
                arith,
                last.last (sent_at (found.0 + 1)) between (later_place pid sent (found.0 + 1) m more within),
                place,
                later_place pid sent found.0 (found.0 + 1) (omega arith) (omega (arith, within, more)),
              )
          by_next (inr up_to) =
              let next : found.0 + 1 ≡ m = omega (arith, less, up_to) in
              differs_next found.0 (omega (arith, within, next))
              (ap (λ (t : Arrival). t.bytes) found.2 ∙ same ∙ bytes_at m within ∙ ap (λ (t : ℕ). (sent_at t).bytes) (sym next))

  -- a packet received between two that hold parts of a unit holds one too
  alone : (m k : ℕ) (between : Arrival) → HoldsPart units (packets_sent pid sent) begin n m → HoldsPart units (packets_sent pid sent) begin n k
      → Contains (received_packets pid sent) between → (sent_at m).place < between.place → between.place < (sent_at k).place
      → (i : ℕ) × HoldsPart units (packets_sent pid sent) begin n i × (between.place ≡ (sent_at i).place)
  alone m k between part_m part_k contained from below = by_number (number_of between contained)
    where
      by_number : ((i : ℕ) × (i < length (arrivals pid sent)) × (sent_at i ≡ between)) → (i : ℕ) × HoldsPart units (packets_sent pid sent) begin n i × (between.place ≡ (sent_at i).place)
      by_number found = (
        found.0,
        record {
          within = omega (arith, found.1, count);
          begun = omega (arith, part_m.begun, edge_rises (packets_sent pid sent) (m + 1) (found.0 + 1) (omega (arith, above)));
          not_over = omega (arith, part_k.not_over, edge_rises (packets_sent pid sent) found.0 k (omega (arith, under)));
        },
        sym place,
      )
        where
          place : (sent_at found.0).place ≡ between.place
          place = ap (λ (t : Arrival). t.place) found.2

          above : m < found.0
          above = later_arrival pid sent m found.0 (omega (arith, part_m.within, count)) found.1 (omega (arith, from, place))

          under : found.0 < k
          under = later_arrival pid sent found.0 k found.1 (omega (arith, part_k.within, count)) (omega (arith, below, place))

  -- each unit arrived intact
  intact : ArrivedIntact (unchanged pids sent) sent pid units begin n
  intact = record {
    at = λ m. (sent_at m).place;
    kept = kept;
    differs = differs;
    alone = alone;
  }
    where
      kept : (m : ℕ) → HoldsPart units (packets_sent pid sent) begin n m → IsKept (unchanged pids sent) sent pid m (sent_at m).place
      kept m part = by_record (arrival_record pid sent (sent_at m) (member_at (arrivals pid sent) m no_arrival (omega (arith, part.within, count))))
        where
          by_record : ArrivesFrom pid sent (sent_at m) → IsKept (unchanged pids sent) sent pid m (sent_at m).place
          by_record is = record { within = is.within; place = refl; same = is.bytes; has_moment = ap is_some is.moment }

  -- so each is accepted
  pub lossless_accepted : IsAccepted (unchanged pids sent) sent form pid units begin n
  lossless_accepted = intact_accepted pids sent sent (unchanged pids sent) sent (whole_is_span sent) form pid read units begin carried n known intact
