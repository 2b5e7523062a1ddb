-- Packets with a value of each, and the value of the packet in which each unit begins.
use Rattle.std.proofs.Common.{◌≡◌, ◌⊎◌, inl, inr, ℕ, zero, suc, ◌+◌, ◌-◌, ◌<◌, ◌≤◌, true, get_or, List, [], ◌++◌, length, refl, sym, ap, ◌∙◌, arith}
use Rattle.std.specs.Prelude.{flat_map}
use Rattle.std.specs.List.{range_with_len}
use Rattle.std.proofs.lemmas.Bool.{cases_lt}
use Rattle.std.proofs.lemmas.List.{length-append, get_or_append_left, get_or-append-add}
use Rattle.ts_spec.specs.Form.{UnitForm, IsLawful}
use Rattle.ts_spec.specs.Packet.{PacketFields, continues}
use Rattle.ts_spec.specs.Packetized.{packet_at, IsIn, Packetizes}
use Rattle.stream_law.proofs.Packets.{GoOn}
use Rattle.stream_law.proofs.Together.{appended, begun_first, begun_behind}
use Rattle.stream_law.proofs.Joined.{none_carried, continue, all_go_on}

-- unit n begins in a packet with this value
pub record IsAt (packets : List PacketFields) (values expected : List ℕ) (place n : ℕ) : Type 0 where
  pub packet : ℕ
  pub here : IsIn packets packet place
  pub value : get_or values packet 0 ≡ get_or expected n 0

pub record IsValued (form : UnitForm) (units : List (List ℕ)) (packets : List PacketFields) (values expected : List ℕ) : Type 0 where
  pub begin : ℕ → ℕ
  pub packetizes : Packetizes form units packets begin
  pub values_size : length values ≡ length packets
  pub expected_size : length expected ≡ length units
  pub at : (n : ℕ) → n < length units → IsAt packets values expected (begin n) n

pub none_valued : (form : UnitForm) → IsValued form [] [] [] []
none_valued form = record {
  begin = λ n. 0;
  packetizes = none_carried form;
  values_size = refl;
  expected_size = refl;
  at = λ n less. absurd (omega (arith, less));
}

-- two such lists, the second after the first
pub both_valued : (form : UnitForm) → IsLawful form → (us vs : List (List ℕ)) (ps qs : List PacketFields) (xs ys ms ns : List ℕ) → IsValued form us ps xs ms → IsValued form vs qs ys ns
    → (1 ≤ length ps → 1 ≤ length qs → continues (packet_at ps (length ps - 1)) (packet_at qs 0) ≡ true)
    → IsValued form (us ++ vs) (ps ++ qs) (xs ++ ys) (ms ++ ns)
both_valued form lawful us vs ps qs xs ys ms ns first second goes_on = record {
  begin = (appended form lawful us vs ps qs first.begin second.begin first.packetizes second.packetizes goes_on).0;
  packetizes = (appended form lawful us vs ps qs first.begin second.begin first.packetizes second.packetizes goes_on).1;
  values_size = omega (arith, length-append xs ys, length-append ps qs, first.values_size, second.values_size);
  expected_size = omega (arith, length-append ms ns, length-append us vs, first.expected_size, second.expected_size);
  at = λ n less. by_place n less (cases_lt n (length us));
}
  where
    of_first : (n : ℕ) → n < length us → IsAt ps xs ms (first.begin n) n → IsAt (ps ++ qs) (xs ++ ys) (ms ++ ns) ((appended form lawful us vs ps qs first.begin second.begin first.packetizes second.packetizes goes_on).0 n) n
    of_first n less it = record {
      packet = it.packet;
      here = begun_first form lawful us vs ps qs first.begin second.begin first.packetizes second.packetizes goes_on n it.packet less it.here;
      value = get_or_append_left xs ys 0 it.packet (omega (arith, it.here.within, first.values_size))
          ∙ it.value
          ∙ sym (get_or_append_left ms ns 0 n (omega (arith, less, first.expected_size)));
    }

    of_second : (n j : ℕ) → n ≡ length us + j → IsAt qs ys ns (second.begin j) j → IsAt (ps ++ qs) (xs ++ ys) (ms ++ ns) ((appended form lawful us vs ps qs first.begin second.begin first.packetizes second.packetizes goes_on).0 n) n
    of_second n j e it = record {
      packet = length ps + it.packet;
      here = begun_behind form lawful us vs ps qs first.begin second.begin first.packetizes second.packetizes goes_on n j it.packet e it.here;
      value = ap (λ (k : ℕ). get_or (xs ++ ys) (k + it.packet) 0) (sym first.values_size)
          ∙ get_or-append-add xs ys it.packet 0
          ∙ it.value
          ∙ sym (ap (λ (k : ℕ). get_or (ms ++ ns) k 0) place ∙ get_or-append-add ms ns j 0);
    }
      where
        place : n ≡ length ms + j
        place = omega (arith, e, first.expected_size)

    by_place : (n : ℕ) → n < length (us ++ vs) → (n < length us) ⊎ (length us ≤ n)
        → IsAt (ps ++ qs) (xs ++ ys) (ms ++ ns) ((appended form lawful us vs ps qs first.begin second.begin first.packetizes second.packetizes goes_on).0 n) n
    by_place n less (inl low) = of_first n low (first.at n low)
    by_place n less (inr high) = of_second n (n - length us) (omega (arith, high)) (second.at (n - length us) (omega (arith, less, high, length-append us vs)))

-- by number, up to a bound, where the counters go on
module _ (packets : ℕ → List PacketFields) (before : ℕ → ℕ) (bound : ℕ) (go_on : (v : ℕ) → v < bound → GoOn (before v) (packets v))
    (next : (v : ℕ) → v < bound → before (v + 1) ≡ before v + length (packets v)) (form : UnitForm) (lawful : IsLawful form)
    (units : ℕ → List (List ℕ)) (values expected : ℕ → List ℕ) (each : (v : ℕ) → v < bound → IsValued form (units v) (packets v) (values v) (expected v)) where
  pub all_valued : (n a : ℕ) → a + n ≤ bound
      → IsValued form (flat_map units (range_with_len a n)) (flat_map packets (range_with_len a n)) (flat_map values (range_with_len a n)) (flat_map expected (range_with_len a n))
  all_valued zero a le = none_valued form
  all_valued (suc n) a le =
      both_valued form lawful (units a) (flat_map units (range_with_len (a + 1) n)) (packets a) (flat_map packets (range_with_len (a + 1) n))
      (values a) (flat_map values (range_with_len (a + 1) n)) (expected a) (flat_map expected (range_with_len (a + 1) n))
      (each a first) (all_valued n (a + 1) rest)
      (continue (before a) (before (a + 1)) (packets a) (flat_map packets (range_with_len (a + 1) n)) (next a first) (go_on a first)
      (all_go_on packets before bound go_on next n (a + 1) rest))
    where
      first : a < bound
      first = omega (arith, le)

      rest : a + 1 + n ≤ bound
      rest = omega (arith, le)
