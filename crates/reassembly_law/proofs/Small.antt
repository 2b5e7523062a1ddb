-- The small stream is packetized.
use Rattle.std.proofs.Common.{◌≡◌, ◌⊎◌, inl, inr, ℕ, zero, suc, ◌+◌, ◌-◌, ◌<◌, ◌≤◌, Bool, true, false, cond, ltb, List, [], ◌∷◌, ◌++◌, length, take, drop, refl, ap, arith}
use Rattle.std.specs.Prelude.{slice_index}
use Rattle.ts_spec.specs.Form.{more, stuffing, whole, bad, IsLawful, IsUnit}
use Rattle.ts_spec.specs.Packet.{continues, pointer}
use Rattle.ts_spec.specs.Packetized.{packet_at, unit_at, joined_payloads, edge, IsIn, IsStuffed, IsFirstIn, Packetizes}
use Rattle.reassembly_law.specs.Examples.{small_span, small_form, small_units, small_packets, small_begin, SmallStream}

-- The kind of unit.

told : (bytes behind : List ℕ) → (small_span bytes ≡ more) ⊎ (small_span (bytes ++ behind) ≡ small_span bytes)
told [] behind = inl refl
told (n ∷ bytes) behind = inr refl

-- what a whole span says of the first byte
whole_is : (a b : Bool) (m n : ℕ) → cond a stuffing (cond b bad (whole m)) ≡ whole n → (a ≡ false) × (b ≡ false) × (m ≡ n)
whole_is true b m n e = absurd (cc)
whole_is false true m n e = absurd (cc)
whole_is false false m n e = (refl, refl, cc)

not_less : (a b : ℕ) → ltb a b ≡ false → b ≤ a
not_less a b e = grind (arith, e)

-- a length is 2 to 254, and stands in the first byte
length_is : (m n : ℕ) (bytes : List ℕ) → small_span (m ∷ bytes) ≡ whole n → (2 ≤ n) × (n ≤ 254) × (m ≡ n)
length_is m n bytes e =
    let parts : (ltb 254 m ≡ false) × (ltb m 2 ≡ false) × (m ≡ n) = whole_is (ltb 254 m) (ltb m 2) m n e in
    (omega (arith, not_less m 2 parts.1, parts.2), omega (arith, not_less 254 m parts.0, parts.2), parts.2)

of_unit : (bytes : List ℕ) (n : ℕ) → small_span bytes ≡ whole n → small_span (take n bytes) ≡ whole n
of_unit [] n e = absurd (cc)
of_unit (m ∷ bytes) zero e = absurd (omega (arith, (length_is m 0 bytes e).0))
of_unit (m ∷ bytes) (suc n) e = e

whole_least : (bytes : List ℕ) (n : ℕ) → small_span bytes ≡ whole n → 1 ≤ n
whole_least [] n e = absurd (cc)
whole_least (m ∷ bytes) n e = omega (arith, (length_is m n bytes e).0)

whole_most : (bytes : List ℕ) (n : ℕ) → small_span bytes ≡ whole n → n ≤ 254
whole_most [] n e = absurd (cc)
whole_most (m ∷ bytes) n e = (length_is m n bytes e).1

soon : (bytes : List ℕ) → small_span bytes ≡ more → length bytes < 4
soon [] e = omega arith
soon (m ∷ bytes) e = absurd (by_tests (ltb 254 m) (ltb m 2) e)
  where
    by_tests : (a b : Bool) → cond a stuffing (cond b bad (whole m)) ≡ more → ⊥
    by_tests true b x = cc
    by_tests false true x = cc
    by_tests false false x = cc

stuffing_least : (bytes : List ℕ) → small_span bytes ≡ stuffing → 1 ≤ length bytes
stuffing_least [] e = absurd (cc)
stuffing_least (m ∷ bytes) e = omega arith

stuffing_start : (bytes : List ℕ) → small_span bytes ≡ stuffing → small_span (take 1 bytes) ≡ stuffing
stuffing_start [] e = absurd (cc)
stuffing_start (m ∷ bytes) e = e

lawful : IsLawful small_form
lawful = record {
  start_least = omega arith;
  start_most = omega arith;
  longest_least = omega arith;
  told = told;
  of_unit = of_unit;
  whole_least = whole_least;
  whole_most = whole_most;
  soon = soon;
  stuffing_least = stuffing_least;
  stuffing_start = stuffing_start;
}

-- The stream.

each : (n : ℕ) → n < 2 → IsUnit small_form (unit_at small_units n)
each zero lt = record { size = refl; checked = refl }
each (suc zero) lt = record { size = refl; checked = refl }
each (suc (suc n)) lt = absurd (omega arith)

continuous : (m : ℕ) → m + 1 < 3 → continues (packet_at small_packets m) (packet_at small_packets (m + 1)) ≡ true
continuous zero lt = refl
continuous (suc zero) lt = refl
continuous (suc (suc m)) lt = absurd (omega arith)

bytes_at : (n : ℕ) → n < 2 → take (length (unit_at small_units n)) (drop (small_begin n) (joined_payloads small_packets)) ≡ unit_at small_units n
bytes_at zero lt = refl
bytes_at (suc zero) lt = refl
bytes_at (suc (suc n)) lt = absurd (omega arith)

edge-1 : edge small_packets 1 ≡ 3
unfolding edge
edge-1 = refl

edge-2 : edge small_packets 2 ≡ 6
unfolding edge
edge-2 = refl

edge-3 : edge small_packets 3 ≡ 10
unfolding edge
edge-3 = refl

edge-0 : edge small_packets 0 ≡ 0
unfolding edge
edge-0 = refl

stuffed_first : (k : ℕ) → 4 ≤ k → k < 6 → slice_index (joined_payloads small_packets) k ≡ 0xFF
stuffed_first k from below = by_number (k - 4) (omega arith)
  where
    by_number : (d : ℕ) → k ≡ 4 + d → slice_index (joined_payloads small_packets) k ≡ 0xFF
    by_number zero e = ap (slice_index (joined_payloads small_packets)) e
    by_number (suc zero) e = ap (slice_index (joined_payloads small_packets)) e
    by_number (suc (suc d)) e = absurd (omega arith)

stuffed_last : (k : ℕ) → 9 ≤ k → k < 10 → slice_index (joined_payloads small_packets) k ≡ 0xFF
stuffed_last k from below = let e : k ≡ 9 = omega arith in ap (slice_index (joined_payloads small_packets)) e

next : (n : ℕ) → n < 2 → (small_begin (n + 1) ≡ small_begin n + length (unit_at small_units n)) ⊎ IsStuffed small_packets (small_begin n + length (unit_at small_units n)) (small_begin (n + 1))
next zero lt = inr (record { last = 1; within = omega arith; ends_in = omega (arith, edge-1); before = omega arith; up_to = omega (arith, edge-2); stuffed = stuffed_first })
next (suc zero) lt = inr (record { last = 2; within = omega arith; ends_in = omega (arith, edge-2); before = omega arith; up_to = omega (arith, edge-3); stuffed = stuffed_last })
next (suc (suc n)) lt = absurd (omega arith)

starts : (m n : ℕ) → n < 2 → IsIn small_packets m (small_begin n) → (packet_at small_packets m).starts ≡ true
starts zero n lt here = refl
starts (suc zero) zero lt here = absurd (omega (arith, here.from, edge-1))
starts (suc zero) (suc zero) lt here = absurd (omega (arith, here.below, edge-2))
starts (suc zero) (suc (suc n)) lt here = absurd (omega arith)
starts (suc (suc zero)) n lt here = refl
starts (suc (suc (suc m))) n lt here = absurd (omega (arith, here.within))

least_begin : (k : ℕ) → 0 ≤ small_begin k
least_begin k = omega arith

first_last : (k : ℕ) → k < 2 → IsIn small_packets 2 (small_begin k) → 6 ≤ small_begin k
first_last zero lt here = absurd (omega (arith, here.from, edge-2))
first_last (suc zero) lt here = omega arith
first_last (suc (suc k)) lt here = absurd (omega arith)

pointed : (m : ℕ) → m < 3 → (packet_at small_packets m).starts ≡ true
    → (n : ℕ) × IsFirstIn small_units small_packets small_begin m n × (edge small_packets m + pointer (packet_at small_packets m) ≡ small_begin n)
pointed zero lt s = (0, record { unit = omega arith; starts = record { within = omega arith; from = omega (arith, edge-0); below = omega (arith, edge-1) }; first = λ k kl here. omega arith }, omega (arith, edge-0))
pointed (suc zero) lt s = absurd (cc)
pointed (suc (suc zero)) lt s = (1, record { unit = omega arith; starts = record { within = omega arith; from = omega (arith, edge-2); below = omega (arith, edge-3) }; first = first_last }, omega (arith, edge-2))
pointed (suc (suc (suc m))) lt s = absurd (omega arith)

packetized : Packetizes small_form small_units small_packets small_begin
packetized = record {
  each = each;
  continuous = continuous;
  from_zero = refl;
  bytes = bytes_at;
  next = next;
  to_end = refl;
  starts = starts;
  pointed = pointed;
  enough = λ m n lt here. omega (arith, here.below);
}

pub small_stream : SmallStream
small_stream = record { lawful = lawful; packetized = packetized }
