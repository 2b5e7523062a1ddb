-- The order of accepted units: by the place of their record in what was sent, then by their place in its payload.
use Rattle.std.proofs.Common.{◌≡◌, ◌⊎◌, inl, inr, ℕ, zero, suc, ◌+◌, ◌<◌, ◌≤◌, Bool, true, false, cond, leb, ltb, List, [], ◌∷◌, ◌++◌, length, drop, flat_map, refl, ap, sym, ◌∙◌, subst, arith}
use Rattle.std.proofs.lemmas.Bool.{cases_Bool}
use Rattle.ts_spec.specs.Form.{UnitForm, Span, more, stuffing, whole, bad, IsLawful}
use Rattle.ts_spec.specs.Packet.{PacketFields, pointer, pointer_fits}
use Rattle.ts_spec.specs.Received.{Arrival, packet_of}
use Rattle.ts_spec.specs.Reassembly.{starts_behind, starts_within, unit_starts, bytes_from, Outcome, candidate, bad_length, delimit, no_outcome, outcome_of, PlacedUnit, accepted_by, accepted_at, accepted_in}
use Rattle.channel_spec.specs.Carried.{IsRising}
use Rattle.channel_law.proofs.Member.{Member, member_parted}
use Rattle.channel_law.proofs.Received.{InOrder}

-- The starts of a packet.

-- numbers that rise from one on rise from a lower one on
rising_less : (j k : ℕ) (xs : List ℕ) → j ≤ k → IsRising k xs → IsRising j xs
rising_less j k [] order rising = tt
rising_less j k (x ∷ xs) order rising = (omega (arith, rising.0), rising.1)

-- after a start the next place is a later one
behind_rises : (place : ℕ) (bytes : List ℕ) (size : ℕ) (span : Span) (next : ℕ → List ℕ → List ℕ) → ((n : ℕ) → span ≡ whole n → 1 ≤ n)
    → ((p : ℕ) (rest : List ℕ) → IsRising p (next p rest)) → IsRising place (starts_behind place bytes size span next)
behind_rises place bytes size more next least rises = (omega arith, tt)
behind_rises place bytes size stuffing next least rises = tt
behind_rises place bytes size bad next least rises = (omega arith, tt)
behind_rises place bytes size (whole n) next least rises = (omega arith, by_fit (leb n size))
  where
    by_fit : (b : Bool) → IsRising (place + 1) (cond b (next (place + n) (drop n bytes)) [])
    by_fit false = tt
    by_fit true = rising_less (place + 1) (place + n) (next (place + n) (drop n bytes)) (omega (arith, least n refl)) (rises (place + n) (drop n bytes))

-- the starts in some bytes rise
starts_rise : (form : UnitForm) → IsLawful form → (most place : ℕ) (bytes : List ℕ) → IsRising place (starts_within form most place bytes)
starts_rise form lawful zero place bytes = tt
starts_rise form lawful (suc most) place bytes = by_enough (starts_rise form lawful most) (ltb (length bytes) form.start)
  where
    by_enough : ((p : ℕ) (rest : List ℕ) → IsRising p (starts_within form most p rest)) → (b : Bool)
        → IsRising place (cond b [] (starts_behind place bytes (length bytes) (form.span bytes) (starts_within form most)))
    by_enough later true = tt
    by_enough later false =
        behind_rises place bytes (length bytes) (form.span bytes) (starts_within form most)
        (λ n told. omega (arith, lawful.whole_least bytes n told, lawful.start_least)) later

-- the starts of a packet rise
unit_starts_rise : (form : UnitForm) → IsLawful form → (packet : PacketFields) → IsRising 0 (unit_starts form packet)
unit_starts_rise form lawful packet = by_test (cases_Bool packet.starts) (cases_Bool (pointer_fits packet))
  where
    from_pointer : IsRising 0 (starts_within form (length packet.payload) (1 + pointer packet) (drop (1 + pointer packet) packet.payload))
    from_pointer =
        rising_less 0 (1 + pointer packet) (starts_within form (length packet.payload) (1 + pointer packet) (drop (1 + pointer packet) packet.payload)) (omega arith)
        (starts_rise form lawful (length packet.payload) (1 + pointer packet) (drop (1 + pointer packet) packet.payload))

    by_test : ((packet.starts ≡ true) ⊎ (packet.starts ≡ false)) → ((pointer_fits packet ≡ true) ⊎ (pointer_fits packet ≡ false)) → IsRising 0 (unit_starts form packet)
    by_test (inl starts) (inl fits) = rw starts (rw fits from_pointer)
    by_test (inl starts) (inr misfit) = rw starts (rw misfit tt)
    by_test (inr none) fits = rw none tt

-- Accepted units.

-- one stands before another in what was sent
abbrev pub Before : (ℕ → ℕ) → PlacedUnit → PlacedUnit → Type 0
Before place x y = (place x.place < place y.place) ⊎ ((x.place ≡ y.place) × (x.start < y.start))

-- each stands before all after it
abbrev pub Sorted : (ℕ → ℕ) → List PlacedUnit → Type 0
Sorted place [] = Unit {0}
Sorted place (x ∷ xs) = ((y : PlacedUnit) → Member xs y → Before place x y) × Sorted place xs

-- sorted lists one after the other are sorted, where all of the first stand before all of the second
sorted_append : (place : ℕ → ℕ) (xs ys : List PlacedUnit) → Sorted place xs → Sorted place ys
    → ((x y : PlacedUnit) → Member xs x → Member ys y → Before place x y) → Sorted place (xs ++ ys)
sorted_append place [] ys sorted_xs sorted_ys before = sorted_ys
sorted_append place (x ∷ xs) ys sorted_xs sorted_ys before = (
  λ y there. by_part y (member_parted xs ys y there),
  sorted_append place xs ys sorted_xs.1 sorted_ys (λ a b there_a there_b. before a b (inr there_a) there_b),
)
  where
    by_part : (y : PlacedUnit) → Member xs y ⊎ Member ys y → Before place x y
    by_part y (inl front) = sorted_xs.0 y front
    by_part y (inr behind) = before x y (inl refl) behind

-- what one start gives stands at that start, at the moment of its packet
at_start : (form : UnitForm) (a : Arrival) (start : ℕ) (told : Outcome) (x : PlacedUnit) → Member (accepted_by form a start told) x → (x.place ≡ a.place) × (x.start ≡ start) × (x.moment ≡ a.moment)
at_start form a start (candidate unit) x there = by_check (form.check unit) there
  where
    by_check : (b : Bool) → Member (cond {A = List PlacedUnit} b (record { place = a.place; start = start; moment = a.moment; unit = unit } ∷ []) []) x
        → (x.place ≡ a.place) × (x.start ≡ start) × (x.moment ≡ a.moment)
    by_check false given = absurd given
    by_check true (inl same) = (sym (ap (λ (t : PlacedUnit). t.place) same), sym (ap (λ (t : PlacedUnit). t.start) same), sym (ap (λ (t : PlacedUnit). t.moment) same))
    by_check true (inr never) = absurd never
at_start form a start bad_length x there = absurd there
at_start form a start delimit x there = absurd there
at_start form a start no_outcome x there = absurd there

-- it is one unit or none
sorted_start : (form : UnitForm) (place : ℕ → ℕ) (a : Arrival) (start : ℕ) (told : Outcome) → Sorted place (accepted_by form a start told)
sorted_start form place a start (candidate unit) = by_check (form.check unit)
  where
    by_check : (b : Bool) → Sorted place (cond {A = List PlacedUnit} b (record { place = a.place; start = start; moment = a.moment; unit = unit } ∷ []) [])
    by_check false = tt
    by_check true = (λ y there. absurd there, tt)
sorted_start form place a start bad_length = tt
sorted_start form place a start delimit = tt
sorted_start form place a start no_outcome = tt

-- what the starts of one packet give stands at that packet, and not before the first of them
in_packet : (form : UnitForm) (a : Arrival) (behind : List Arrival) (k : ℕ) (starts : List ℕ) (x : PlacedUnit) → IsRising k starts
    → Member (flat_map (accepted_at form a behind) starts) x → (x.place ≡ a.place) × (k ≤ x.start) × (x.moment ≡ a.moment)
in_packet form a behind k [] x rising there = absurd there
in_packet form a behind k (s ∷ starts) x rising there =
    by_part (in_packet form a behind (s + 1) starts x rising.1) (member_parted (accepted_at form a behind s) (flat_map (accepted_at form a behind) starts) x there)
  where
    by_part : (Member (flat_map (accepted_at form a behind) starts) x → (x.place ≡ a.place) × (s + 1 ≤ x.start) × (x.moment ≡ a.moment))
        → Member (accepted_at form a behind s) x ⊎ Member (flat_map (accepted_at form a behind) starts) x → (x.place ≡ a.place) × (k ≤ x.start) × (x.moment ≡ a.moment)
    by_part later (inl here) =
        let stands : (x.place ≡ a.place) × (x.start ≡ s) × (x.moment ≡ a.moment) = at_start form a s (outcome_of form (bytes_from s (packet_of a) behind)) x here in
        (stands.0, omega (arith, stands.1, rising.0), stands.2)
    by_part later (inr rest) =
        let stands : (x.place ≡ a.place) × (s + 1 ≤ x.start) × (x.moment ≡ a.moment) = later rest in
        (stands.0, omega (arith, stands.1, rising.0), stands.2)

-- what the starts of one packet give is sorted
sorted_packet : (form : UnitForm) (place : ℕ → ℕ) (a : Arrival) (behind : List Arrival) (k : ℕ) (starts : List ℕ) → IsRising k starts
    → Sorted place (flat_map (accepted_at form a behind) starts)
sorted_packet form place a behind k [] rising = tt
sorted_packet form place a behind k (s ∷ starts) rising =
    sorted_append place (accepted_at form a behind s) (flat_map (accepted_at form a behind) starts)
    (sorted_start form place a s (outcome_of form (bytes_from s (packet_of a) behind)))
    (sorted_packet form place a behind (s + 1) starts rising.1)
    (λ x y there_x there_y.
    let one : (x.place ≡ a.place) × (x.start ≡ s) × (x.moment ≡ a.moment) = at_start form a s (outcome_of form (bytes_from s (packet_of a) behind)) x there_x in
    let other : (y.place ≡ a.place) × (s + 1 ≤ y.start) × (y.moment ≡ a.moment) = in_packet form a behind (s + 1) starts y rising.1 there_y in
    inr (one.0 ∙ sym other.0, omega (arith, one.1, other.1)))

-- an accepted unit stands at a received packet, and has its moment
pub at_received : (form : UnitForm) → IsLawful form → (xs : List Arrival) (x : PlacedUnit) → Member (accepted_in form xs) x → (a : Arrival) × Member xs a × (x.place ≡ a.place) × (x.moment ≡ a.moment)
at_received form lawful [] x there = absurd there
at_received form lawful (a ∷ xs) x there =
    by_part (at_received form lawful xs x) (member_parted (flat_map (accepted_at form a xs) (unit_starts form (packet_of a))) (accepted_in form xs) x there)
  where
    by_part : (Member (accepted_in form xs) x → (b : Arrival) × Member xs b × (x.place ≡ b.place) × (x.moment ≡ b.moment))
        → Member (flat_map (accepted_at form a xs) (unit_starts form (packet_of a))) x ⊎ Member (accepted_in form xs) x → (b : Arrival) × Member (a ∷ xs) b × (x.place ≡ b.place) × (x.moment ≡ b.moment)
    by_part later (inl here) =
        let stands : (x.place ≡ a.place) × (0 ≤ x.start) × (x.moment ≡ a.moment) = in_packet form a xs 0 (unit_starts form (packet_of a)) x (unit_starts_rise form lawful (packet_of a)) here in
        (a, inl refl, stands.0, stands.2)
    by_part later (inr behind) =
        let found : (b : Arrival) × Member xs b × (x.place ≡ b.place) × (x.moment ≡ b.moment) = later behind in
        (found.0, inr found.1, found.2, found.3)

-- the accepted units of packets in order are in order
pub accepted_sorted : (form : UnitForm) → IsLawful form → (place : ℕ → ℕ) (xs : List Arrival) → InOrder place xs → Sorted place (accepted_in form xs)
accepted_sorted form lawful place [] in_order = tt
accepted_sorted form lawful place (a ∷ xs) in_order =
    sorted_append place (flat_map (accepted_at form a xs) (unit_starts form (packet_of a))) (accepted_in form xs)
    (sorted_packet form place a xs 0 (unit_starts form (packet_of a)) (unit_starts_rise form lawful (packet_of a)))
    (accepted_sorted form lawful place xs in_order.1)
    (λ x y there_x there_y.
    let one : (x.place ≡ a.place) × (0 ≤ x.start) × (x.moment ≡ a.moment) = in_packet form a xs 0 (unit_starts form (packet_of a)) x (unit_starts_rise form lawful (packet_of a)) there_x in
    let other : (b : Arrival) × Member xs b × (y.place ≡ b.place) × (y.moment ≡ b.moment) = at_received form lawful xs y there_y in
    inl (subst (λ (t : ℕ). place t < place y.place) (sym one.0) (subst (λ (t : ℕ). place a.place < place t) (sym other.2) (in_order.0 other.0 other.1))))
