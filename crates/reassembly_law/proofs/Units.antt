-- The units among the events.
use Rattle.std.proofs.Common.{◌≡◌, ℕ, Bool, true, false, cond, not, ◌&&◌, List, [], ◌∷◌, ◌++◌, map, flat_map, refl, ap, sym, ◌∙◌}
use Rattle.std.proofs.lemmas.Grind.{flat_map-append}
use Rattle.std.proofs.lemmas.List.{map-append}
use Rattle.ts_spec.specs.Form.{UnitForm}
use Rattle.ts_spec.specs.Packet.{PacketFields, pointer_fits}
use Rattle.ts_spec.specs.Received.{Arrival, packet_of}
use Rattle.ts_spec.specs.Reassembly.{Outcome, candidate, bad_length, delimit, no_outcome, outcome_of, bytes_from, unit_starts, PlacedUnit, accepted_by, accepted_at, accepted_in}
use Rattle.ts_spec.specs.Events.{Event, unit_event, bad_check_event, delimit_event, event_by, event_at, misfit_events, packet_events, events_of}
use Rattle.reassembly_law.specs.UnderWay.{unit_of_event}

of_outcome : (form : UnitForm) (a : Arrival) (s : ℕ) (o : Outcome) → flat_map unit_of_event (event_by form a.moment o) ≡ map (λ (x : PlacedUnit). (x.moment, x.unit)) (accepted_by form a s o)
of_outcome form a s (candidate u) = by_check (form.check u)
  where
    by_check : (b : Bool) → flat_map unit_of_event (cond b (unit_event a.moment u) bad_check_event ∷ []) ≡ map (λ (x : PlacedUnit). (x.moment, x.unit)) (cond {A = List PlacedUnit} b (record { place = a.place; start = s; moment = a.moment; unit = u } ∷ []) [])
    by_check true = refl
    by_check false = refl
of_outcome form a s bad_length = refl
of_outcome form a s delimit = refl
of_outcome form a s no_outcome = refl

of_starts : (form : UnitForm) (a : Arrival) (behind : List Arrival) (starts : List ℕ) → flat_map unit_of_event (flat_map (event_at form a behind) starts) ≡ map (λ (x : PlacedUnit). (x.moment, x.unit)) (flat_map (accepted_at form a behind) starts)
of_starts form a behind [] = refl
of_starts form a behind (s ∷ starts) =
    flat_map-append unit_of_event (event_at form a behind s) (flat_map (event_at form a behind) starts)
    ∙ ap (λ (t : List (ℕ × List ℕ)). t ++ flat_map unit_of_event (flat_map (event_at form a behind) starts)) (of_outcome form a s (outcome_of form (bytes_from s (packet_of a) behind)))
    ∙ ap (λ (t : List (ℕ × List ℕ)). map (λ (x : PlacedUnit). (x.moment, x.unit)) (accepted_at form a behind s) ++ t) (of_starts form a behind starts)
    ∙ sym (map-append (λ (x : PlacedUnit). (x.moment, x.unit)) (accepted_at form a behind s) (flat_map (accepted_at form a behind) starts))

no_units : (packet : PacketFields) → flat_map unit_of_event (misfit_events packet) ≡ []
no_units packet = by_test (packet.starts && not (pointer_fits packet))
  where
    by_test : (b : Bool) → flat_map unit_of_event (cond {A = List Event} b (delimit_event ∷ []) []) ≡ []
    by_test true = refl
    by_test false = refl

pub of_events : (form : UnitForm) (xs : List Arrival) → flat_map unit_of_event (events_of form xs) ≡ map (λ (x : PlacedUnit). (x.moment, x.unit)) (accepted_in form xs)
of_events form [] = refl
of_events form (a ∷ xs) =
    flat_map-append unit_of_event (packet_events form a xs) (events_of form xs)
    ∙ ap (λ (t : List (ℕ × List ℕ)). t ++ flat_map unit_of_event (events_of form xs))
    (flat_map-append unit_of_event (misfit_events (packet_of a)) (flat_map (event_at form a xs) (unit_starts form (packet_of a)))
    ∙ ap (λ (t : List (ℕ × List ℕ)). t ++ flat_map unit_of_event (flat_map (event_at form a xs) (unit_starts form (packet_of a)))) (no_units (packet_of a))
    ∙ of_starts form a xs (unit_starts form (packet_of a)))
    ∙ ap (λ (t : List (ℕ × List ℕ)). map (λ (x : PlacedUnit). (x.moment, x.unit)) (flat_map (accepted_at form a xs) (unit_starts form (packet_of a))) ++ t) (of_events form xs)
    ∙ sym (map-append (λ (x : PlacedUnit). (x.moment, x.unit)) (flat_map (accepted_at form a xs) (unit_starts form (packet_of a))) (accepted_in form xs))
