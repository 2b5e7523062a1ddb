-- What is received and accepted doesn't depend on the places of records.
use Rattle.std.proofs.Common.{◌≡◌, ℕ, Bool, true, false, cond, Option, Some, None, List, [], ◌∷◌, ◌++◌, map, flat_map, drop, refl, ap, ap₂, sym, ◌∙◌}
use Rattle.std.proofs.lemmas.List.{map-append}
use Rattle.std.proofs.lemmas.Simd.{map-map}
use Rattle.std.proofs.lemmas.List.Folds.{flat_map-map}
use Rattle.ts_spec.specs.Form.{UnitForm}
use Rattle.ts_spec.specs.Packet.{PacketFields, continues}
use Rattle.ts_spec.specs.Recording.{Record}
use Rattle.ts_spec.specs.Received.{Arrival, packet_of, repeats, unless_repeated, received_after, received_packets, arrivals}
use Rattle.ts_spec.specs.Reassembly.{Given, given_by, given_behind, ended_by, with_payload, bytes_from, Outcome, candidate, bad_length, delimit, no_outcome, outcome_of, unit_starts, PlacedUnit, accepted_by, accepted_at, accepted_in, accepted_units}
use Rattle.ts_spec.specs.Events.{event_by, event_at, events_of, misfit_events}
use Rattle.channel_law.specs.Words.{timed_packet, timed_unit}

-- the arrival of a packet at its moment, at place 0
abbrev at_zero : ℕ × List ℕ → Arrival
at_zero timed = record { place = 0; moment = timed.0; bytes = timed.1 }

-- the arrival without its place
abbrev moved : Arrival → Arrival
moved a = at_zero (timed_packet a)

-- Received packets.

-- a duplicate is one wherever it stands
unless_repeated-moved : (before : Option (List ℕ)) (a : Arrival) → unless_repeated before (moved a) ≡ map moved (unless_repeated before a)
unless_repeated-moved before a = by_test (repeats before a.bytes)
  where
    by_test : (b : Bool) → cond b [] (moved a ∷ []) ≡ map moved (cond b [] (a ∷ []))
    by_test true = refl
    by_test false = refl

-- the same packets are received
received_after-moved : (before : Option (List ℕ)) (xs : List Arrival) → received_after before (map moved xs) ≡ map moved (received_after before xs)
received_after-moved before [] = refl
received_after-moved before (a ∷ xs) =
    ap (λ (t : List Arrival). unless_repeated before (moved a) ++ t) (received_after-moved (Some a.bytes) xs)
    ∙ ap (λ (t : List Arrival). t ++ map moved (received_after (Some a.bytes) xs)) (unless_repeated-moved before a)
    ∙ sym (map-append moved (unless_repeated before a) (received_after (Some a.bytes) xs))

-- Accepted units.

-- the same bytes stand after a start
given_behind-moved : (before : PacketFields) (behind : List Arrival) → given_behind before (map moved behind) ≡ given_behind before behind
given_behind-moved before [] = refl
given_behind-moved before (a ∷ behind) =
    ap (λ (g : Given). cond (continues before (packet_of a)) (given_by (packet_of a) g) (ended_by (packet_of a))) (given_behind-moved (packet_of a) behind)

-- the outcome of a start
outcome-moved : (form : UnitForm) (a : Arrival) (behind : List Arrival) (start : ℕ)
    → outcome_of form (bytes_from start (packet_of a) (map moved behind)) ≡ outcome_of form (bytes_from start (packet_of a) behind)
outcome-moved form a behind start =
    ap (λ (g : Given). outcome_of form (with_payload (drop start (packet_of a).payload) g)) (given_behind-moved (packet_of a) behind)

-- what an outcome gives
accepted_by-moved : (form : UnitForm) (a : Arrival) (start : ℕ) (told : Outcome) → map timed_unit (accepted_by form (moved a) start told) ≡ map timed_unit (accepted_by form a start told)
accepted_by-moved form a start (candidate unit) = by_check (form.check unit)
  where
    by_check : (b : Bool)
        → map timed_unit (cond b (record { place = 0; start = start; moment = a.moment; unit = unit } ∷ []) [])
        ≡ map timed_unit (cond b (record { place = a.place; start = start; moment = a.moment; unit = unit } ∷ []) [])
    by_check true = refl
    by_check false = refl
accepted_by-moved form a start bad_length = refl
accepted_by-moved form a start delimit = refl
accepted_by-moved form a start no_outcome = refl

-- what a start gives
accepted_at-moved : (form : UnitForm) (a : Arrival) (behind : List Arrival) (start : ℕ)
    → map timed_unit (accepted_at form (moved a) (map moved behind) start) ≡ map timed_unit (accepted_at form a behind start)
accepted_at-moved form a behind start =
    ap (λ (told : Outcome). map timed_unit (accepted_by form (moved a) start told)) (outcome-moved form a behind start)
    ∙ accepted_by-moved form a start (outcome_of form (bytes_from start (packet_of a) behind))

-- what some starts give
starts-moved : (form : UnitForm) (a : Arrival) (behind : List Arrival) (starts : List ℕ)
    → map timed_unit (flat_map (accepted_at form (moved a) (map moved behind)) starts) ≡ map timed_unit (flat_map (accepted_at form a behind) starts)
starts-moved form a behind [] = refl
starts-moved form a behind (s ∷ starts) =
    map-append timed_unit (accepted_at form (moved a) (map moved behind) s) (flat_map (accepted_at form (moved a) (map moved behind)) starts)
    ∙ ap₂ (λ x y. x ++ y) (accepted_at-moved form a behind s) (starts-moved form a behind starts)
    ∙ sym (map-append timed_unit (accepted_at form a behind s) (flat_map (accepted_at form a behind) starts))

-- the same units are accepted
accepted_in-moved : (form : UnitForm) (xs : List Arrival) → map timed_unit (accepted_in form (map moved xs)) ≡ map timed_unit (accepted_in form xs)
accepted_in-moved form [] = refl
accepted_in-moved form (a ∷ xs) =
    map-append timed_unit (flat_map (accepted_at form (moved a) (map moved xs)) (unit_starts form (packet_of a))) (accepted_in form (map moved xs))
    ∙ ap₂ (λ x y. x ++ y) (starts-moved form a xs (unit_starts form (packet_of a))) (accepted_in-moved form xs)
    ∙ sym (map-append timed_unit (flat_map (accepted_at form a xs) (unit_starts form (packet_of a))) (accepted_in form xs))

-- Events.

-- the same events are told of the starts of a packet
event_starts-moved : (form : UnitForm) (a : Arrival) (behind : List Arrival) (starts : List ℕ)
    → flat_map (event_at form (moved a) (map moved behind)) starts ≡ flat_map (event_at form a behind) starts
event_starts-moved form a behind [] = refl
event_starts-moved form a behind (s ∷ starts) =
    ap₂ (λ x y. x ++ y) (ap (event_by form a.moment) (outcome-moved form a behind s)) (event_starts-moved form a behind starts)

-- and of all packets
events_of-moved : (form : UnitForm) (xs : List Arrival) → events_of form (map moved xs) ≡ events_of form xs
events_of-moved form [] = refl
events_of-moved form (a ∷ xs) =
    ap₂ (λ x y. (misfit_events (packet_of a) ++ x) ++ y) (event_starts-moved form a xs (unit_starts form (packet_of a))) (events_of-moved form xs)

-- Two recordings.

module _ (pid : ℕ) (one other : List Record) (same : map timed_packet (arrivals pid one) ≡ map timed_packet (arrivals pid other)) where
  -- the same packets are received
  received_same : map moved (received_packets pid one) ≡ map moved (received_packets pid other)
  received_same =
      sym (received_after-moved None (arrivals pid one))
      ∙ ap (received_after None) (sym (map-map at_zero timed_packet (arrivals pid one)) ∙ ap (map at_zero) same ∙ map-map at_zero timed_packet (arrivals pid other))
      ∙ received_after-moved None (arrivals pid other)

  -- the same units are accepted
  pub accepted_same : (form : UnitForm) → map timed_unit (accepted_units form pid one) ≡ map timed_unit (accepted_units form pid other)
  accepted_same form =
      sym (accepted_in-moved form (received_packets pid one))
      ∙ ap (λ (xs : List Arrival). map timed_unit (accepted_in form xs)) received_same
      ∙ accepted_in-moved form (received_packets pid other)

  -- with the same events
  pub events_same : (form : UnitForm) → events_of form (received_packets pid one) ≡ events_of form (received_packets pid other)
  events_same form =
      sym (events_of-moved form (received_packets pid one)) ∙ ap (events_of form) received_same ∙ events_of-moved form (received_packets pid other)

  -- what the units carry is the same
  pub carried_same : {X : Type 0} (form : UnitForm) (carried : List ℕ → List X)
      → flat_map (λ (x : PlacedUnit). carried x.unit) (accepted_units form pid one) ≡ flat_map (λ (x : PlacedUnit). carried x.unit) (accepted_units form pid other)
  carried_same form carried =
      sym (flat_map-map (λ (timed : ℕ × ℕ × List ℕ). carried timed.2) timed_unit (accepted_units form pid one))
      ∙ ap (flat_map (λ (timed : ℕ × ℕ × List ℕ). carried timed.2)) (accepted_same form)
      ∙ flat_map-map (λ (timed : ℕ × ℕ × List ℕ). carried timed.2) timed_unit (accepted_units form pid other)
