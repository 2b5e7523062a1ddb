-- What the bytes at a place of a payload make of the events from there on.
use Rattle.std.proofs.Common.{◌≡◌, ◌⊎◌, inl, inr, ℕ, ◌+◌, ◌<◌, ◌≤◌, Bool, true, false, cond, ltb, List, [], ◌∷◌, ◌++◌, length, take, drop, flat_map, refl, ap, sym, ◌∙◌, subst, arith, length-drop, None, Some}
use Rattle.std.proofs.lemmas.List.{append-nil}
use Rattle.ts_spec.specs.Form.{UnitForm, Span, more, stuffing, whole, bad, IsLawful}
use Rattle.ts_spec.specs.Packet.{PacketFields}
use Rattle.ts_spec.specs.Reassembly.{Outcome, outcome_of, bytes_from, starts_behind}
use Rattle.ts_spec.specs.Events.{Event, unit_event, bad_check_event, bad_length_event, event_by}
use Rattle.reassembly_law.specs.UnderWay.{Open, is_told, unless_told, nothing_given}
use Rattle.reassembly_law.specs.Starts.{starts_from}
use Rattle.reassembly_law.proofs.OneByOne.{step}
use Rattle.reassembly_law.proofs.Outcomes.{told_by, leb_true, told_outcome, untold_outcome}
use Rattle.unit_stream.proofs.Numbers.{ltb_true, ltb_false}
use Rattle.unit_stream.specs.Joining.{Place, drained, reading, open_from}
use Rattle.unit_stream.specs.Steps.{Reads}

module _ (form : UnitForm) (lawful : IsLawful form) (packet : PacketFields) (place : Place) (bytes : List ℕ) (there : bytes ≡ drop place.at packet.payload) where
  abbrev event_there : ℕ → List Event
  event_there start = event_by form place.moment (outcome_of form (bytes_from start packet []))

  abbrev open_there : ℕ → List Open
  open_there start = unless_told form place.moment (bytes_from start packet []).payloads

  starts_are : starts_from form packet.payload place.at ≡ cond (ltb (length bytes) form.start) [] (starts_behind place.at bytes (length bytes) (form.span bytes) (λ next rest. starts_from form packet.payload next))
  starts_are =
      step form lawful packet.payload place.at
      ∙ ap (λ (t : List ℕ). cond (ltb (length t) form.start) [] (starts_behind place.at t (length t) (form.span t) (λ next rest. starts_from form packet.payload next))) (sym there)

  no_starts : ltb (length bytes) form.start ≡ true → starts_from form packet.payload place.at ≡ []
  no_starts few = starts_are ∙ ap (λ (b : Bool). cond b [] (starts_behind place.at bytes (length bytes) (form.span bytes) (λ next rest. starts_from form packet.payload next))) few

  starts_by : (s : Span) → form.start ≤ length bytes → form.span bytes ≡ s
      → starts_from form packet.payload place.at ≡ starts_behind place.at bytes (length bytes) s (λ next rest. starts_from form packet.payload next)
  starts_by s enough told =
      starts_are
      ∙ ap (λ (b : Bool). cond b [] (starts_behind place.at bytes (length bytes) (form.span bytes) (λ next rest. starts_from form packet.payload next))) (ltb_false (length bytes) form.start enough)
      ∙ ap (λ (t : Span). starts_behind place.at bytes (length bytes) t (λ next rest. starts_from form packet.payload next)) told

  outcome_there : is_told (form.span bytes) (length bytes) ≡ true
      → outcome_of form (bytes_from place.at packet []) ≡ told_by (form.span bytes) bytes
  outcome_there told =
      subst (λ (t : List ℕ). outcome_of form (bytes_from place.at packet []) ≡ told_by (form.span t) t) (sym there)
      (told_outcome form lawful (drop place.at packet.payload) nothing_given (ap (λ (t : List ℕ). is_told (form.span t) (length t)) (sym there) ∙ told))

  no_outcome_there : is_told (form.span bytes) (length bytes) ≡ false
      → event_by form place.moment (outcome_of form (bytes_from place.at packet [])) ≡ []
  no_outcome_there untold =
      ap (event_by form place.moment) (untold_outcome form (drop place.at packet.payload) (ap (λ (t : List ℕ). is_told (form.span t) (length t)) (sym there) ∙ untold))

  open_is : (b : Bool) → is_told (form.span bytes) (length bytes) ≡ b
      → unless_told form place.moment (bytes_from place.at packet []).payloads ≡ cond b [] (record { moment = place.moment; bytes = bytes } ∷ [])
  open_is b told =
      ap (λ (t : List ℕ). unless_told form place.moment t) (append-nil (drop place.at packet.payload) ∙ sym there)
      ∙ ap (λ (t : Bool). cond {A = List Open} t [] (record { moment = place.moment; bytes = bytes } ∷ [])) told

  none_read : starts_from form packet.payload place.at ≡ [] → Reads form packet place None (drained [])
  none_read none = record {
    events = ap (flat_map event_there) none;
    under_way = ap (flat_map open_there) none;
    at_end = λ _. ap drained (sym (ap (flat_map open_there) none));
    past = tt;
    falls = λ some. absurd (cc);
  }

  -- no unit starts there
  pub reads_nothing : (length bytes < form.start) ⊎ (form.span bytes ≡ stuffing) → Reads form packet place None (drained [])
  reads_nothing (inl few) = none_read (no_starts (ltb_true (length bytes) form.start few))
  reads_nothing (inr told) = by_size (ltb (length bytes) form.start) refl
    where
      by_size : (b : Bool) → ltb (length bytes) form.start ≡ b → Reads form packet place None (drained [])
      by_size true few = none_read (no_starts few)
      by_size false enough = none_read (starts_by stuffing (lawful.stuffing_least bytes told) told)

  -- a unit of a length that no unit has
  pub reads_bad : form.start ≤ length bytes → form.span bytes ≡ bad → Reads form packet place (Some bad_length_event) (drained [])
  reads_bad enough told =
      let one : starts_from form packet.payload place.at ≡ place.at ∷ [] = starts_by bad enough told in
      let is : is_told (form.span bytes) (length bytes) ≡ true = ap (λ (s : Span). is_told s (length bytes)) told in
      record {
        events = ap (flat_map event_there) one ∙ append-nil (event_there place.at)
            ∙ ap (event_by form place.moment) (outcome_there is ∙ ap (λ (s : Span). told_by s bytes) told);
        under_way = ap (flat_map open_there) one ∙ append-nil (open_there place.at) ∙ open_is true is;
        at_end = λ none. absurd (cc);
        past = tt;
        falls = λ _. omega arith;
      }

  -- a unit of which all bytes lie there: reading goes on after it
  pub reads_within : (size : ℕ) → form.start ≤ length bytes → form.span bytes ≡ whole size → size ≤ length bytes
      → Reads form packet place (Some (cond (form.check (take size bytes)) (unit_event place.moment (take size bytes)) bad_check_event)) (reading (record { moment = place.moment; at = place.at + size }))
  reads_within size enough told within =
      let more_starts : starts_from form packet.payload place.at ≡ place.at ∷ starts_from form packet.payload (place.at + size) =
      starts_by (whole size) enough told
      ∙ ap (λ (b : Bool). place.at ∷ cond b (starts_from form packet.payload (place.at + size)) []) (leb_true size (length bytes) within) in
      let is : is_told (form.span bytes) (length bytes) ≡ true = ap (λ (s : Span). is_told s (length bytes)) told ∙ leb_true size (length bytes) within in
      let least : 1 ≤ size = omega (arith, lawful.whole_least bytes size told, lawful.start_least) in
      record {
        events = ap (flat_map event_there) more_starts
            ∙ ap (λ (t : Outcome). event_by form place.moment t ++ flat_map event_there (starts_from form packet.payload (place.at + size)))
            (outcome_there is ∙ ap (λ (s : Span). told_by s bytes) told);
        under_way = ap (flat_map open_there) more_starts
            ∙ ap (λ (t : List Open). t ++ flat_map open_there (starts_from form packet.payload (place.at + size))) (open_is true is);
        at_end = λ none. absurd (cc);
        past = tt;
        falls = λ _. omega (arith, least, ap length there, length-drop place.at packet.payload);
      }

  -- a unit that goes on in the next packet
  pub reads_beyond : form.start ≤ length bytes → (form.span bytes ≡ stuffing → ⊥) → is_told (form.span bytes) (length bytes) ≡ false
      → Reads form packet place None (drained (record { moment = place.moment; bytes = bytes } ∷ []))
  reads_beyond enough no_stuffing untold =
      let one : starts_from form packet.payload place.at ≡ place.at ∷ [] = by_span (form.span bytes) refl untold in
      let opened : open_from form packet place ≡ record { moment = place.moment; bytes = bytes } ∷ [] =
      ap (flat_map open_there) one ∙ append-nil (open_there place.at) ∙ open_is false untold in
      record {
        events = ap (flat_map event_there) one ∙ append-nil (event_there place.at) ∙ no_outcome_there untold;
        under_way = opened;
        at_end = λ _. ap drained (sym opened);
        past = tt;
        falls = λ some. absurd (cc);
      }
    where
      by_span : (s : Span) → form.span bytes ≡ s → is_told s (length bytes) ≡ false → starts_from form packet.payload place.at ≡ place.at ∷ []
      by_span more told u = starts_by more enough told
      by_span stuffing told u = absurd (no_stuffing told)
      by_span bad told u = absurd (cc)
      by_span (whole n) told u =
          starts_by (whole n) enough told ∙ ap (λ (b : Bool). place.at ∷ cond b (starts_from form packet.payload (place.at + n)) []) u
