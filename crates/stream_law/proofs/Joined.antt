-- Several packetizations, one after another, whose counters go on: together they are one.
use Rattle.std.proofs.Common.{◌≡◌, ◌⊎◌, inl, inr, ℕ, zero, suc, ◌+◌, ◌-◌, ◌%◌, ◌<◌, ◌≤◌, Bool, true, false, ◌&&◌, not, eqb, List, [], ◌++◌, length, refl, ap, ap₂, ◌∙◌, arith}
use Rattle.std.specs.Prelude.{flat_map}
use Rattle.std.specs.List.{range_with_len}
use Rattle.std.proofs.lemmas.Bool.{cases_lt}
use Rattle.std.proofs.lemmas.List.{length-append, get_or_append_left, get_or-append-add}
use Rattle.ts_spec.specs.Form.{UnitForm, IsLawful}
use Rattle.ts_spec.specs.Packet.{PacketFields, continues}
use Rattle.ts_spec.specs.Packetized.{packet_at, unit_at, Packetizes}
use Rattle.channel_spec.specs.Carried.{HoldsPart}
use Rattle.stream_law.proofs.Packets.{GoOn, none_go_on}
use Rattle.stream_law.proofs.Places.{length-both, packet_low, packet_high}
use Rattle.stream_law.proofs.Together.{appended, held}

-- no units in no packets
pub none_carried : (form : UnitForm) → Packetizes form [] [] (λ n. 0)
none_carried form = record {
  each = λ n less. absurd (omega (arith, less));
  continuous = λ m less. absurd (omega (arith, less));
  from_zero = refl;
  bytes = λ n less. absurd (omega (arith, less));
  next = λ n less. absurd (omega (arith, less));
  to_end = refl;
  starts = λ m n less here. absurd (omega (arith, less));
  pointed = λ m less set. absurd (omega (arith, less));
  enough = λ m n less here. absurd (omega (arith, less));
}

-- Two lists of packets, where the counters go on from one to the other.
module _ (b c : ℕ) (ps qs : List PacketFields) (then : c ≡ b + length ps) (first : GoOn b ps) (second : GoOn c qs) where
  abbrev both : List PacketFields
  both = ps ++ qs

  pub both_go_on : GoOn b (ps ++ qs)
  both_go_on = record { counter = λ i less. counter_of i less (cases_lt i (length ps)); broken = λ i less. broken_of i less (cases_lt i (length ps)) }
    where
      counter_of : (i : ℕ) → i < length (ps ++ qs) → (i < length ps) ⊎ (length ps ≤ i) → (packet_at (ps ++ qs) i).counter ≡ (b + i) % 16
      counter_of i less (inl low) = ap (λ (p : PacketFields). p.counter) (packet_low ps qs i low) ∙ first.counter i low
      counter_of i less (inr high) =
          let at : i ≡ length ps + (i - length ps) = omega (arith, high) in
          let number : c + (i - length ps) ≡ b + i = omega (arith, then, high) in
          ap (λ (j : ℕ). (packet_at (ps ++ qs) j).counter) at ∙ ap (λ (p : PacketFields). p.counter) (packet_high ps qs (i - length ps))
          ∙ second.counter (i - length ps) (omega (arith, less, high, length-both ps qs)) ∙ ap (λ (n : ℕ). n % 16) number

      broken_of : (i : ℕ) → i < length (ps ++ qs) → (i < length ps) ⊎ (length ps ≤ i) → (packet_at (ps ++ qs) i).broken ≡ false
      broken_of i less (inl low) = ap (λ (p : PacketFields). p.broken) (packet_low ps qs i low) ∙ first.broken i low
      broken_of i less (inr high) =
          let at : i ≡ length ps + (i - length ps) = omega (arith, high) in
          ap (λ (j : ℕ). (packet_at (ps ++ qs) j).broken) at ∙ ap (λ (p : PacketFields). p.broken) (packet_high ps qs (i - length ps))
          ∙ second.broken (i - length ps) (omega (arith, less, high, length-both ps qs))

  pub continue : 1 ≤ length ps → 1 ≤ length qs → continues (packet_at ps (length ps - 1)) (packet_at qs 0) ≡ true
  continue some some2 =
      ap₂ (λ (x y : Bool). x && not y) (so_eqb (packet_at qs 0).counter (((packet_at ps (length ps - 1)).counter + 1) % 16) next) (second.broken 0 some2)
    where
      so_eqb : (m n : ℕ) → m ≡ n → eqb m n ≡ true
      so_eqb m n e = grind (arith, e)

      next : (packet_at qs 0).counter ≡ ((packet_at ps (length ps - 1)).counter + 1) % 16
      next = omega (arith, first.counter (length ps - 1) (omega (arith, some)), second.counter 0 some2, then, some)

-- Packets by number, up to a bound, where so many of the PID stand before those of a number.
module _ (packets : ℕ → List PacketFields) (before : ℕ → ℕ) (bound : ℕ) (go_on : (v : ℕ) → v < bound → GoOn (before v) (packets v))
    (next : (v : ℕ) → v < bound → before (v + 1) ≡ before v + length (packets v)) where
  abbrev all_packets : ℕ → ℕ → List PacketFields
  all_packets a n = flat_map packets (range_with_len a n)

  first_in : (n a : ℕ) → a + suc n ≤ bound → a < bound
  first_in n a le = omega (arith, le)

  rest_in : (n a : ℕ) → a + suc n ≤ bound → a + 1 + n ≤ bound
  rest_in n a le = omega (arith, le)

  pub all_go_on : (n a : ℕ) → a + n ≤ bound → GoOn (before a) (flat_map packets (range_with_len a n))
  all_go_on zero a le = none_go_on (before a)
  all_go_on (suc n) a le =
      both_go_on (before a) (before (a + 1)) (packets a) (all_packets (a + 1) n) (next a (first_in n a le)) (go_on a (first_in n a le)) (all_go_on n (a + 1) (rest_in n a le))

  -- and the units that they carry
  module _ (form : UnitForm) (lawful : IsLawful form) (units : ℕ → List (List ℕ)) (each : (v : ℕ) → v < bound → (begin : ℕ → ℕ) × Packetizes form (units v) (packets v) begin) where
    abbrev all_units : ℕ → ℕ → List (List ℕ)
    all_units a n = flat_map units (range_with_len a n)

    pub joined : (n a : ℕ) → a + n ≤ bound → (begin : ℕ → ℕ) × Packetizes form (flat_map units (range_with_len a n)) (flat_map packets (range_with_len a n)) begin
    joined zero a le = ((λ n. 0), none_carried form)
    joined (suc n) a le =
        appended form lawful (units a) (all_units (a + 1) n) (packets a) (all_packets (a + 1) n) (each a (first_in n a le)).0 (joined n (a + 1) (rest_in n a le)).0
        (each a (first_in n a le)).1 (joined n (a + 1) (rest_in n a le)).1
        (continue (before a) (before (a + 1)) (packets a) (all_packets (a + 1) n) (next a (first_in n a le)) (go_on a (first_in n a le)) (all_go_on n (a + 1) (rest_in n a le)))

    -- a packet that holds a part of unit i is one of the number whose units have it; so many packets stand before it as it has on the PID
    pub record IsOwn (a n i count : ℕ) : Type 0 where
      pub number : ℕ
      pub from : a ≤ number
      pub below : number < a + n
      pub place : ℕ
      pub unit : place < length (units number)
      pub unit_is : unit_at (flat_map units (range_with_len a n)) i ≡ unit_at (units number) place
      pub after : before number ≤ count
      pub until : count < before (number + 1)

    pub own : (n a : ℕ) (le : a + n ≤ bound) (i m count : ℕ) → count ≡ before a + m → i < length (flat_map units (range_with_len a n))
        → HoldsPart (flat_map units (range_with_len a n)) (flat_map packets (range_with_len a n)) (joined n a le).0 i m → IsOwn a n i count
    unfolding joined
    own zero a le i m count e less part = absurd (omega (arith, less))
    own (suc n) a le i m count e less part =
        by_side
        (held form lawful (units a) (all_units (a + 1) n) (packets a) (all_packets (a + 1) n) (each a (first_in n a le)).0 (joined n (a + 1) (rest_in n a le)).0
        (each a (first_in n a le)).1 (joined n (a + 1) (rest_in n a le)).1
        (continue (before a) (before (a + 1)) (packets a) (all_packets (a + 1) n) (next a (first_in n a le)) (go_on a (first_in n a le)) (all_go_on n (a + 1) (rest_in n a le)))
        i m less part)
        (λ j k less2 part2 e2. own n (a + 1) (rest_in n a le) j k count e2 less2 part2)
      where
        unit_behind : (j : ℕ) → i ≡ length (units a) + j → unit_at (flat_map units (range_with_len a (suc n))) i ≡ unit_at (flat_map units (range_with_len (a + 1) n)) j
        unit_behind j at = ap (unit_at (units a ++ all_units (a + 1) n)) at ∙ get_or-append-add (units a) (all_units (a + 1) n) j []

        of_later : (j : ℕ) → i ≡ length (units a) + j → IsOwn (a + 1) n j count → IsOwn a (suc n) i count
        of_later j at it = record {
          number = it.number;
          from = omega (arith, it.from);
          below = omega (arith, it.below);
          place = it.place;
          unit = it.unit;
          unit_is = unit_behind j at ∙ it.unit_is;
          after = it.after;
          until = it.until;
        }

        by_side : ((i < length (units a)) × (m < length (packets a)))
            ⊎ ((length (units a) ≤ i) × (length (packets a) ≤ m)
            × HoldsPart (all_units (a + 1) n) (all_packets (a + 1) n) (joined n (a + 1) (rest_in n a le)).0 (i - length (units a)) (m - length (packets a)))
            → ((j k : ℕ) → j < length (all_units (a + 1) n) → HoldsPart (all_units (a + 1) n) (all_packets (a + 1) n) (joined n (a + 1) (rest_in n a le)).0 j k
            → count ≡ before (a + 1) + k → IsOwn (a + 1) n j count)
            → IsOwn a (suc n) i count
        by_side (inl (low, front)) later = record {
          number = a;
          from = omega arith;
          below = omega arith;
          place = i;
          unit = low;
          unit_is = get_or_append_left (units a) (all_units (a + 1) n) [] i low;
          after = omega (arith, e);
          until = omega (arith, e, front, next a (first_in n a le));
        }
        by_side (inr (high, behind, part2)) later =
            of_later (i - length (units a)) (omega (arith, high))
            (later (i - length (units a)) (m - length (packets a)) (omega (arith, less, high, length-append (units a) (all_units (a + 1) n))) part2
            (omega (arith, e, behind, next a (first_in n a le))))
