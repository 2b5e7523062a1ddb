-- The events of a packet, taken one after another: the Ethernet frames of their SNDUs are handed out.
use Rattle.std.proofs.Common.{◌≡◌, ℕ, List, [], ◌∷◌, ◌++◌, flat_map, refl, ap, sym, ◌∙◌, subst, drop, length, Bor}
use Rattle.std.proofs.lemmas.List.{drop_at}
use Rattle.std.proofs.lemmas.List.Folds.{flat_map-map}
use Rattle.std.proofs.lemmas.Grind.{flat_map-append}
use Rattle.ts_spec.specs.Form.{IsLawful}
use Rattle.ts_spec.specs.Recording.{Record}
use Rattle.ts_spec.specs.Received.{received_packets}
use Rattle.ts_spec.specs.Reassembly.{PlacedUnit, accepted_units}
use Rattle.ts_spec.specs.Sndu.{sndu_form}
use Rattle.ts_spec.specs.Events.{Event, unit_event, bad_check_event, delimit_event, bad_length_event, events_of}
use Rattle.unit_stream.specs.Telling.{HasHeard}
use Rattle.unit_stream.specs.States.{event_in}
use Rattle.unit_stream.specs.declared.reading.JoinEvent.{JoinEvent}
use Rattle.unit_stream.specs.declared.reading.JoinEvent.TheVariants.{Unit, BadCheck, Delimit, BadLength}
use Rattle.service_reception.specs.Counting.{units_in}
use Rattle.service_reception.proofs.Proper.{AllProper}
use Rattle.service_reception.proofs.Units.{units_accepted}
use Rattle.outlet_spec.specs.Going.{Going}
use Rattle.gse_reception.specs.Outlets.{HandsOut}
use Rattle.gse_reception.proofs.Outlets.{hands_nothing, hands_both}
use Rattle.bridge_spec.specs.Frames.{frame_of_sndu, frames_on_pid}
use Rattle.bridge_frame.specs.Sndus.{added_on_pid, frame_of_event, frames_of_events, HearsSndu}

module _ {T A E : Type 0} (StandsFor : T → List (ℕ × List ℕ) → Type 0) (Refused : T → ℕ → List ℕ → Type 0) (services faults : T → ℕ) where
  abbrev Hands : List (List ℕ) → Going T A E → Going T A E → Type 0
  Hands frames old new = HandsOut StandsFor Refused services faults 0 frames old new

  module _ {L : Type 0} (Hears : L → Event → L → Type 0) (view : L → Going T A E)
      (each : (old new : L) (event : Event) → Hears old event new → HearsSndu StandsFor Refused services faults event (view old) (view new)) where
    none_handed : (old new : L) → new ≡ old → Hands [] (view old) (view new)
    none_handed old new same = subst (λ (l : L). Hands [] (view old) (view l)) (sym same) (hands_nothing StandsFor Refused services faults 0 (view old).outlet (view old).went)

    -- whatever the events are, some frames
    pub some_handed : (events : List Event) (old new : L) → HasHeard Hears old events new → (frames : List (List ℕ)) × HandsOut StandsFor Refused services faults 0 frames (view old) (view new)
    some_handed [] old new heard = ([], none_handed old new heard)
    some_handed (event ∷ events) old new (mid, (one, rest)) =
        let first = each old mid event one in
        let then = some_handed events mid new rest in
        (first.frames ++ then.0, hands_both StandsFor Refused services faults 0 first.frames then.0 (view old) (view mid) (view new) first.hands then.1)

    -- of units that are SNDUs, theirs
    pub all_handed : (lawful : IsLawful sndu_form) (events : List Event) (old new : L) → HasHeard Hears old events new → AllProper sndu_form lawful events
        → HandsOut StandsFor Refused services faults 0 (frames_of_events events) (view old) (view new)
    all_handed lawful [] old new heard proper = none_handed old new heard
    all_handed lawful (event ∷ events) old new (mid, (one, rest)) proper =
        let first = each old mid event one in
        hands_both StandsFor Refused services faults 0 (frame_of_event event) (frames_of_events events) (view old) (view mid) (view new)
        (subst (λ (t : List (List ℕ)). Hands t (view old) (view mid)) (first.frames_are proper.0) first.hands)
        (all_handed lawful events mid new rest proper.1)

-- an event of no unit has no frame
pub no_frame_in : (event : JoinEvent) → ((moment : ℕ) (bytes : Bor (List ℕ)) → event ≡ Unit moment bytes → ⊥) → [] ≡ frame_of_event (event_in event)
no_frame_in (Unit moment bytes) other = absurd (other moment bytes refl)
no_frame_in BadCheck other = refl
no_frame_in Delimit other = refl
no_frame_in BadLength other = refl

-- the frames of events are those of the units among them
frames_of_units : (events : List Event) → frames_of_events events ≡ flat_map frame_of_sndu (units_in events)
frames_of_units [] = refl
frames_of_units (unit_event moment unit ∷ events) = ap (λ (t : List (List ℕ)). frame_of_sndu unit ++ t) (frames_of_units events)
frames_of_units (bad_check_event ∷ events) = frames_of_units events
frames_of_units (delimit_event ∷ events) = frames_of_units events
frames_of_units (bad_length_event ∷ events) = frames_of_units events

-- and those received on a PID are those of all events
pub frames_of_all : (pid : ℕ) (records : List Record) → frames_on_pid pid records ≡ frames_of_events (events_of sndu_form (received_packets pid records))
frames_of_all pid records =
    sym (flat_map-map frame_of_sndu (λ (x : PlacedUnit). x.unit) (accepted_units sndu_form pid records))
    ∙ ap (flat_map frame_of_sndu) (sym (units_accepted sndu_form pid records))
    ∙ sym (frames_of_units (events_of sndu_form (received_packets pid records)))

-- the events that a record adds have the frames that it adds
pub added_are : (pid : ℕ) (records : List Record) (r : Record) (events : List Event)
    → events_of sndu_form (received_packets pid (records ++ r ∷ [])) ≡ events_of sndu_form (received_packets pid records) ++ events
    → added_on_pid pid records r ≡ frames_of_events events
added_are pid records r events told =
    let before : List Event = events_of sndu_form (received_packets pid records) in
    let all : frames_on_pid pid (records ++ r ∷ []) ≡ frames_of_events before ++ frames_of_events events =
    frames_of_all pid (records ++ r ∷ []) ∙ ap frames_of_events told ∙ flat_map-append frame_of_event before events in
    ap (λ (t : List (List ℕ)). drop (length (frames_on_pid pid records)) t) all
    ∙ drop_at (frames_of_events before) (frames_of_events events) (length (frames_on_pid pid records)) (ap (λ (t : List (List ℕ)). length t) (sym (frames_of_all pid records)))
