-- A unit that arrived intact in a span is accepted.
use Rattle.std.proofs.Common.{◌≡◌, ◌⊎◌, inl, inr, ℕ, zero, suc, ◌+◌, ◌-◌, ◌<◌, ◌≤◌, ◌%◌, Bool, true, false, not, eqb, ◌&&◌, Option, None, Some, List, ◌∷◌, length, refl, ap, sym, ◌∙◌, subst, arith}
use Rattle.std.specs.Prelude.{Contains, is_some, unwrap_or}
use Rattle.std.proofs.lemmas.Bool.{cases_lt, cases_order}
use Rattle.std.proofs.lemmas.List.{get_or-map, length-map}
use Rattle.ts_spec.specs.Form.{UnitForm}
use Rattle.ts_spec.specs.Packet.{PacketFields, fields_of, continues}
use Rattle.ts_spec.specs.Recording.{Record}
use Rattle.ts_spec.specs.Received.{record_at, Arrival, arrival_at, no_arrival, packet_of, arrivals, received_after, received_packets}
use Rattle.ts_spec.specs.Reassembly.{PlacedUnit, accepted_in, accepted_units}
use Rattle.ts_spec.specs.Packetized.{no_packet, packet_at, unit_at, edge, IsIn}
use Rattle.channel_spec.specs.Channel.{Channel}
use Rattle.channel_spec.specs.Spans.{IsSpanOf}
use Rattle.channel_spec.specs.Carried.{packets_sent, HoldsPart, IsKept, ArrivedIntact, IsAccepted, IsCarried}
use Rattle.channel_law.proofs.Member.{Member, member_at, member_behind, contains_member, member_contains}
use Rattle.channel_law.proofs.Positions.{size, edge_rises, edge-all, place_in, unit_long, unit_within}
use Rattle.channel_law.proofs.Candidates.{Agrees}
use Rattle.channel_law.proofs.Accept.{accepted_behind, unit_accepted}
use Rattle.channel_law.proofs.Arrivals.{above_member, arrivals_above, later_place, ArrivesFrom, arrival_record, record_arrives}
use Rattle.channel_law.proofs.Spans.{span_arrived}
use Rattle.channel_law.proofs.Received.{received_arrived}
use Rattle.channel_law.proofs.Channel.{place_sent, place_told, channel_alone, channel_orders}
use Rattle.channel_law.proofs.Row.{OnlyThese, row, Differs, Found, find}

-- a counter is not its own next one
next_counter : (a b : ℕ) → eqb b ((a + 1) % 16) ≡ true → a ≡ b → ⊥
next_counter a b test same = absurd (by_number (grind arith))
  where
    by_number : b ≡ (a + 1) % 16 → ⊥
    by_number next = omega (arith, same)

-- the first part of a test that holds
first_holds : (x y : Bool) → (x && y) ≡ true → x ≡ true
first_holds true y test = refl
first_holds false y test = absurd (cc)

-- a packet does not continue itself
pub continues_other : (before packet : PacketFields) → continues before packet ≡ true → before ≡ packet → ⊥
continues_other before packet test same =
    next_counter before.counter packet.counter (first_holds (eqb packet.counter ((before.counter + 1) % 16)) (not packet.broken) test)
    (ap (λ (t : PacketFields). t.counter) same)

-- a moment that is there
unwrapped : (moment : Option ℕ) → is_some moment ≡ true → moment ≡ Some (unwrap_or moment 0)
unwrapped None some = absurd (cc)
unwrapped (Some time) some = refl

module _ (pids : List ℕ) (sent recorded : List Record) (channel : Channel pids sent recorded) (span : List Record) (is_span : IsSpanOf span recorded) (form : UnitForm) (pid : ℕ)
    (read : Contains pids pid) (units : List (List ℕ)) (begin : ℕ → ℕ) (carried : IsCarried form pid sent units begin) (n : ℕ) (known : n < length units) (intact : ArrivedIntact channel span pid units begin n) where
  -- the packets that were sent
  abbrev packets : List PacketFields
  packets = packets_sent pid sent

  -- as many as arrived when they were sent
  count : length packets ≡ length (arrivals pid sent)
  count = length-map (arrivals pid sent) packet_of

  -- Its packets.

  -- a unit has a byte
  not_empty : 1 ≤ size units n
  not_empty = omega (arith, unit_long form units packets begin carried.lawful carried.packetized n known, carried.lawful.start_least)

  -- and ends within the packets
  end_within : begin n + size units n ≤ edge packets (length packets)
  end_within = omega (arith, unit_within form units packets begin carried.lawful carried.packetized n known, edge-all packets)

  -- the packet with its first byte
  first_in : (m : ℕ) × (m < length packets) × IsIn packets m (begin n)
  first_in = place_in packets (begin n) (length packets) (omega arith) (omega (arith, end_within, not_empty))

  -- the packet with its last byte
  last_in : (m : ℕ) × (m < length packets) × IsIn packets m (begin n + size units n - 1)
  last_in = place_in packets (begin n + size units n - 1) (length packets) (omega arith) (omega (arith, end_within, not_empty))

  -- Facts on the unit from its first packet to its last.
  module _ (first last : ℕ) (begins : IsIn packets first (begin n)) (ends : IsIn packets last (begin n + size units n - 1)) where
    -- the last packet is not before the first
    in_order : first ≤ last
    in_order = by_order (cases_lt last first)
      where
        by_order : (last < first) ⊎ (first ≤ last) → first ≤ last
        by_order (inr order) = order
        by_order (inl back) = absurd (omega (arith, edge_rises packets (last + 1) first (omega arith), begins.from, ends.below, not_empty))

    -- the packets between them hold parts of it
    holds : (i : ℕ) → first ≤ i → i ≤ last → HoldsPart units packets begin n i
    holds i from to = record {
      within = omega (arith, ends.within);
      begun = omega (arith, begins.below, edge_rises packets (first + 1) (i + 1) (omega arith));
      not_over = omega (arith, ends.from, not_empty, edge_rises packets i last to);
    }

    -- and no others
    only_holds : (i : ℕ) → HoldsPart units packets begin n i → (first ≤ i) × (i ≤ last)
    only_holds i part = (by_first (cases_lt i first), by_last (cases_lt last i))
      where
        by_first : (i < first) ⊎ (first ≤ i) → first ≤ i
        by_first (inr from) = from
        by_first (inl before) = absurd (omega (arith, part.begun, begins.from, edge_rises packets (i + 1) first (omega arith)))

        by_last : (last < i) ⊎ (i ≤ last) → i ≤ last
        by_last (inr to) = to
        by_last (inl behind) = absurd (omega (arith, part.not_over, ends.below, edge_rises packets (last + 1) i (omega arith)))

    -- their records are kept
    kept : (i : ℕ) → first ≤ i → i ≤ last → IsKept channel span pid i (intact.at i)
    kept i from to = intact.kept i (holds i from to)

    -- they are among those that were sent
    known_packet : (i : ℕ) → i ≤ last → i < length (arrivals pid sent)
    known_packet i to = omega (arith, ends.within, count)

    -- they arrived when they were sent
    sent_arrival : (i : ℕ) → i ≤ last → ArrivesFrom pid sent (arrival_at (arrivals pid sent) i)
    sent_arrival i to = arrival_record pid sent (arrival_at (arrivals pid sent) i) (member_at (arrivals pid sent) i no_arrival (known_packet i to))

    -- the arrival of packet i in the span
    abbrev arrived : ℕ → Arrival
    arrived i = record { place = intact.at i; moment = unwrap_or (record_at span (intact.at i)).moment 0; bytes = (arrival_at (arrivals pid sent) i).bytes }

    -- it arrives
    arrives : (i : ℕ) → first ≤ i → i ≤ last → Member (arrivals pid span) (arrived i)
    arrives i from to =
        let it : IsKept channel span pid i (intact.at i) = kept i from to in
        let sent_it : ArrivesFrom pid sent (arrival_at (arrivals pid sent) i) = sent_arrival i to in
        record_arrives pid (intact.at i) span (arrived i).moment (arrived i).bytes (omega (arith, it.within, is_span.size))
        (unwrapped (record_at span (intact.at i)).moment it.has_moment) it.same sent_it.of_pid

    -- it is packet i
    packet_is : (i : ℕ) → first ≤ i → i ≤ last → packet_of (arrived i) ≡ packet_at packets i
    packet_is i from to = sym (get_or-map packet_of (arrivals pid sent) i no_arrival no_packet (known_packet i to))

    -- none equals the next
    differs_next : (i : ℕ) → first ≤ i → i + 1 ≤ last → (arrived i).bytes ≡ (arrived (i + 1)).bytes → ⊥
    differs_next i from to same =
        continues_other (packet_at packets i) (packet_at packets (i + 1)) (carried.packetized.continuous i (omega (arith, ends.within)))
        (sym (packet_is i from (omega arith)) ∙ ap fields_of same ∙ packet_is (i + 1) (omega arith) to)

    -- the places in what was sent rise
    apart : (i : ℕ) → first ≤ i → i + 1 ≤ last → place_sent channel.place (intact.at i) < place_sent channel.place (intact.at (i + 1))
    apart i from to =
        omega (
          arith,
          place_told channel.place (intact.at i) (arrival_at (arrivals pid sent) i).place (kept i from (omega arith)).place,
          place_told channel.place (intact.at (i + 1)) (arrival_at (arrivals pid sent) (i + 1)).place (kept (i + 1) (omega arith) to).place,
          later_place pid sent i (i + 1) (omega arith) (known_packet (i + 1) to),
        )

    -- so each arrives before the next: otherwise it is a copy, and the next stands between it and the record that it is a copy of
    rise_next : (i : ℕ) → first ≤ i → i + 1 ≤ last → intact.at i < intact.at (i + 1)
    rise_next i from to = by_order (cases_order (intact.at i) (intact.at (i + 1)))
      where
        this : Member (arrivals pid recorded) (arrived i)
        this = span_arrived span recorded is_span pid (arrived i) (arrives i from (omega arith))

        next : Member (arrivals pid recorded) (arrived (i + 1))
        next = span_arrived span recorded is_span pid (arrived (i + 1)) (arrives (i + 1) (omega arith) to)

        not_back : (intact.at (i + 1) < channel.first (intact.at i)) ⊎ (channel.first (intact.at i) ≤ intact.at (i + 1)) → intact.at (i + 1) < intact.at i → ⊥
        not_back (inl before) less =
            omega (arith, apart i from to, channel_orders pids sent recorded channel pid read (arrived (i + 1)) (arrived i) next this less before)
        not_back (inr behind) less = differs_next i from to (sym (channel_alone pids sent recorded channel pid read (arrived i) (arrived (i + 1)) this next behind less))

        by_order : (intact.at i ≡ intact.at (i + 1)) ⊎ ((intact.at i < intact.at (i + 1)) ⊎ (intact.at (i + 1) < intact.at i)) → intact.at i < intact.at (i + 1)
        by_order (inl same) = absurd (omega (arith, apart i from to, ap (place_sent channel.place) same))
        by_order (inr (inl before)) = before
        by_order (inr (inr back)) = absurd (not_back (cases_lt (intact.at (i + 1)) (channel.first (intact.at i))) back)

    -- they arrive in their order
    rise_by : (d i : ℕ) → first ≤ i → i + 1 + d ≤ last → (arrived i).place < (arrived (i + 1 + d)).place
    rise_by zero i from to = let number : i + 1 ≡ i + 1 + 0 = omega arith in omega (arith, rise_next i from (omega arith), ap intact.at number)
    rise_by (suc d) i from to =
        let number : i + 1 + d + 1 ≡ i + 1 + suc d = omega arith in
        omega (arith, rise_by d i from (omega arith), rise_next (i + 1 + d) (omega arith) (omega arith), ap intact.at number)

    rise : (i k : ℕ) → first ≤ i → i < k → k ≤ last → (arrived i).place < (arrived k).place
    rise i k from less to =
        let number : i + 1 + (k - (i + 1)) ≡ k = omega arith in
        omega (arith, rise_by (k - (i + 1)) i from (omega (arith, number)), ap intact.at number)

    -- the first of them differs from the packet received last before it
    differs_first : Differs packets arrived first last rise packet_is ends.within differs_next (received_packets pid span)
    differs_first before there less last_of_them same =
        intact.differs first before begins (record {
          received = contains_member (received_packets pid span) before there;
          before = less;
          last = λ other contained below. last_of_them other (member_contains (received_packets pid span) other contained) below;
        }) (same ∙ sym (kept first (omega arith) in_order).same)

    -- so it is received
    found : Found packets arrived first last rise packet_is ends.within differs_next None (arrivals pid span)
    found =
        find packets arrived first last rise packet_is ends.within differs_next (received_packets pid span) differs_first None (arrivals pid span) 0
        (arrivals_above pid 0 span) in_order arrives (λ x there. there) (λ x there. there)

    -- and then the others alone
    only : OnlyThese packets arrived first last rise packet_is ends.within differs_next (received_after (Some (arrived first).bytes) found.rest)
    only x there below =
        let received : Member (received_packets pid span) x =
        subst (λ (t : List Arrival). Member t x) (sym found.split) (member_behind found.front (arrived first ∷ received_after (Some (arrived first).bytes) found.rest) x (inr there)) in
        let above : (arrived first).place < x.place =
        omega (arith, above_member ((arrived first).place + 1) found.rest x found.above (received_arrived (Some (arrived first).bytes) found.rest x there)) in
        let part : (i : ℕ) × HoldsPart units packets begin n i × (x.place ≡ intact.at i) =
        intact.alone first last x (holds first (omega arith) in_order) (holds last in_order (omega arith)) (contains_member (received_packets pid span) x received) above below in
        let within : (first ≤ part.0) × (part.0 ≤ last) = only_holds part.0 part.1 in
        (part.0, within.0, within.1, part.2)

    -- so all of them are received one after another
    agrees : Agrees packets (last - first) first (received_after (Some (arrived first).bytes) found.rest)
    agrees = row packets arrived first last rise packet_is ends.within differs_next found.rest (last - first) first (omega arith) (omega (arith, in_order)) found.above found.here only

    -- the unit with its record, place and moment
    abbrev placed : PlacedUnit
    placed = record { place = (arrived first).place; start = 1 + (begin n - edge packets first); moment = (arrived first).moment; unit = unit_at units n }

    -- it is accepted
    placed_accepted : Member (accepted_units form pid span) placed
    placed_accepted =
        let end_last : last + 1 ≡ first + 1 + (last - first) = omega (arith, in_order) in
        subst (λ (t : List Arrival). Member (accepted_in form t) placed) (sym found.split)
        (accepted_behind form found.front (arrived first ∷ received_after (Some (arrived first).bytes) found.rest) placed
        (unit_accepted form units packets begin carried.lawful carried.packetized n first (begin n - edge packets first) (last - first) (arrived first)
        (received_after (Some (arrived first).bytes) found.rest) known begins (omega (arith, begins.from)) (packet_is first (omega arith) in_order) agrees
        (omega (arith, ends.below, ap (edge packets) end_last))))

    -- the unit is accepted from its own record and place
    accepted_there : IsAccepted channel span form pid units begin n
    accepted_there = record {
      accepted = placed;
      contained = contains_member (accepted_units form pid span) placed placed_accepted;
      sent_unit = record {
        packet = first;
        start = record { unit = known; packet = begins; start_is = omega (arith, begins.from) };
        record_is = (kept first (omega arith) in_order).place;
        bytes = refl;
      };
    }

  -- a unit that arrived intact is accepted
  pub intact_accepted : IsAccepted channel span form pid units begin n
  intact_accepted = accepted_there first_in.0 last_in.0 first_in.2 last_in.2
