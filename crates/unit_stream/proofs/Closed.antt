-- What a continuous packet with the start indicator makes of a unit under way.
use Rattle.std.proofs.Common.{◌≡◌, ◌⊎◌, inl, inr, ℕ, ◌+◌, ◌<◌, ◌≤◌, Bool, true, false, cond, ◌||◌, leb, eqb, min, List, [], ◌++◌, length, take, drop, refl, ap, sym, ◌∙◌, arith, length-append, Option}
use Rattle.std.proofs.lemmas.List.{append-nil, take-append-le, take-append-drop, take_all, length-take}
use Rattle.ts_spec.specs.Form.{UnitForm, Span, more, stuffing, whole, bad, IsLawful}
use Rattle.ts_spec.specs.Packet.{PacketFields, pointer_fits}
use Rattle.ts_spec.specs.Reassembly.{Given, all_given, with_payload, ended_by, Outcome, candidate, bad_length, delimit, is_complete, incomplete, outcome_by, outcome_of}
use Rattle.ts_spec.specs.Events.{Event, event_by}
use Rattle.reassembly_law.specs.UnderWay.{Open, is_told, nothing_given, given_next, IsUnderWay}
use Rattle.reassembly_law.proofs.Outcomes.{leb_true, true_leb, false_leb}
use Rattle.unit_stream.specs.Joining.{Place, giving, rest_events}
use Rattle.unit_stream.specs.Steps.{Closes, pointed}
use Rattle.unit_stream.proofs.Resumed.{span-take}
use Rattle.unit_stream.proofs.Numbers.{eqb_false, eqb_true, leb_false}

-- what a unit under way and the pointer's bytes are together
abbrev closed : List ℕ → List ℕ → Given
closed bytes rest = record { payloads = bytes ++ []; rest = rest; is_ended = true }

given_pointed : (bytes : List ℕ) (packet : PacketFields) → packet.starts ≡ true → pointer_fits packet ≡ true
    → with_payload bytes (given_next true packet) ≡ closed bytes (pointed packet)
given_pointed bytes packet starts fits =
    ap (λ (b : Bool). with_payload bytes (cond b (cond (pointer_fits packet) (record { payloads = []; rest = pointed packet; is_ended = true }) (ended_by packet)) (with_payload packet.payload nothing_given))) starts
    ∙ ap (λ (b : Bool). with_payload bytes (cond b (record { payloads = []; rest = pointed packet; is_ended = true }) (ended_by packet))) fits

module _ (form : UnitForm) (lawful : IsLawful form) where
  -- a unit under way is longer than the bytes that came
  longer : (bytes rest : List ℕ) (n : ℕ) → IsUnderWay form bytes → form.span (bytes ++ rest) ≡ whole n → length bytes < n
  longer bytes rest n good told = by_size (leb n (length bytes)) refl
    where
      by_told : n ≤ length bytes → (form.span (take n bytes) ≡ more) ⊎ (form.span (take n bytes ++ drop n bytes) ≡ form.span (take n bytes))
          → form.span (take n bytes) ≡ whole n → ⊥
      by_told le (inl e) front = cc
      by_told le (inr e) front =
          let all : form.span bytes ≡ whole n = ap form.span (sym (take-append-drop n bytes)) ∙ e ∙ front in
          let is : is_told (form.span bytes) (length bytes) ≡ true = ap (λ (s : Span). is_told s (length bytes)) all ∙ leb_true n (length bytes) le in
          cc (is, good.untold)

      by_size : (b : Bool) → leb n (length bytes) ≡ b → length bytes < n
      by_size false e = false_leb n (length bytes) e
      by_size true e =
          let le : n ≤ length bytes = true_leb n (length bytes) e in
          absurd (by_told le (lawful.told (take n bytes) (drop n bytes)) (ap form.span (sym (take-append-le n bytes rest le)) ∙ lawful.of_unit (bytes ++ rest) n told))

  -- the one outcome of a unit under way and the pointer's bytes
  closed_outcome : (bytes rest : List ℕ) (s : Span) → form.span (bytes ++ rest) ≡ s → outcome_of form (closed bytes rest) ≡ outcome_by s (closed bytes rest)
  closed_outcome bytes rest s told = ap (λ (t : List ℕ). outcome_by (form.span (t ++ rest)) (closed bytes rest)) (append-nil bytes) ∙ ap (λ (t : Span). outcome_by t (closed bytes rest)) told

  complete_is : (bytes rest : List ℕ) (n : ℕ) (b : Bool) → IsUnderWay form bytes → form.span (bytes ++ rest) ≡ whole n → eqb n (length (bytes ++ rest)) ≡ b
      → is_complete n (closed bytes rest) ≡ b
  complete_is bytes rest n b good told is =
      ap (λ (t : List ℕ). leb n (length t) || eqb n (length (t ++ rest))) (append-nil bytes)
      ∙ ap (λ (t : Bool). t || eqb n (length (bytes ++ rest))) (leb_false n (length bytes) (longer bytes rest n good told)) ∙ is

  closed_whole : (bytes rest : List ℕ) (n : ℕ) → IsUnderWay form bytes → form.span (bytes ++ rest) ≡ whole n → n ≡ length (bytes ++ rest)
      → outcome_of form (closed bytes rest) ≡ candidate (bytes ++ rest)
  closed_whole bytes rest n good told same =
      closed_outcome bytes rest (whole n) told
      ∙ ap (λ (b : Bool). cond b (candidate (take n (all_given (closed bytes rest)))) (incomplete (closed bytes rest)))
      (complete_is bytes rest n true good told (eqb_true n (length (bytes ++ rest)) same))
      ∙ ap (λ (t : List ℕ). candidate (take n (t ++ rest))) (append-nil bytes)
      ∙ ap candidate (take_all n (bytes ++ rest) (omega arith))

  closed_other : (bytes rest : List ℕ) (n : ℕ) → IsUnderWay form bytes → form.span (bytes ++ rest) ≡ whole n → (n ≡ length (bytes ++ rest) → ⊥)
      → outcome_of form (closed bytes rest) ≡ delimit
  closed_other bytes rest n good told apart =
      closed_outcome bytes rest (whole n) told
      ∙ ap (λ (b : Bool). cond b (candidate (take n (all_given (closed bytes rest)))) (incomplete (closed bytes rest)))
      (complete_is bytes rest n false good told (eqb_false n (length (bytes ++ rest)) apart))

  -- by what the buffer holds
  module _ (unit : Open) (packet : PacketFields) (starts : packet.starts ≡ true) (fits : pointer_fits packet ≡ true) (good : IsUnderWay form unit.bytes)
      (place : Option Place) where
    closes_by : (moment : ℕ) (told : Outcome) → event_by form moment told ≡ event_by form unit.moment (outcome_of form (closed unit.bytes (pointed packet)))
        → Closes form unit packet place (giving moment told place)
    closes_by moment told same = record {
      events = ap (λ (t : List Event). t ++ rest_events form packet place)
          (same ∙ sym (ap (λ (g : Given). event_by form unit.moment (outcome_of form g)) (given_pointed unit.bytes packet starts fits)));
      under_way = refl;
    }

    span_all : (s : Span) (joined : List ℕ) → joined ≡ take form.longest (unit.bytes ++ pointed packet) → s ≡ form.span joined
        → form.span (unit.bytes ++ pointed packet) ≡ s
    span_all s joined held told = sym (told ∙ ap form.span held ∙ span-take form lawful (unit.bytes ++ pointed packet))

    sizes : length (unit.bytes ++ pointed packet) ≡ length unit.bytes + length (pointed packet)
    sizes = length-append unit.bytes (pointed packet)

    pub closes_whole : (n : ℕ) (joined : List ℕ) → joined ≡ take form.longest (unit.bytes ++ pointed packet) → whole n ≡ form.span joined
        → n ≡ length joined → length joined ≡ length unit.bytes + length (pointed packet)
        → Closes form unit packet place (giving unit.moment (candidate joined) place)
    closes_whole n joined held told same all =
        let size : length joined ≡ min form.longest (length (unit.bytes ++ pointed packet)) = ap length held ∙ length-take form.longest (unit.bytes ++ pointed packet) in
        let whole_held : joined ≡ unit.bytes ++ pointed packet = held ∙ take_all form.longest (unit.bytes ++ pointed packet) (omega (arith, sizes)) in
        closes_by unit.moment (candidate joined)
        (ap (λ (t : List ℕ). event_by form unit.moment (candidate t)) whole_held
        ∙ sym (ap (event_by form unit.moment) (closed_whole unit.bytes (pointed packet) n good (span_all (whole n) joined held told) (omega (arith, sizes)))))

    pub closes_other : (n : ℕ) (joined : List ℕ) → joined ≡ take form.longest (unit.bytes ++ pointed packet) → whole n ≡ form.span joined
        → (n ≡ length joined → length joined ≡ length unit.bytes + length (pointed packet) → ⊥)
        → Closes form unit packet place (giving 0 delimit place)
    closes_other n joined held told apart =
        let size : length joined ≡ min form.longest (length (unit.bytes ++ pointed packet)) = ap length held ∙ length-take form.longest (unit.bytes ++ pointed packet) in
        let most : n ≤ form.longest = lawful.whole_most joined n (sym told) in
        let differ : n ≡ length (unit.bytes ++ pointed packet) → ⊥ = λ e. apart (omega (arith, e, size, most)) (omega (arith, e, size, most, sizes)) in
        closes_by 0 delimit
        (sym (ap (event_by form unit.moment) (closed_other unit.bytes (pointed packet) n good (span_all (whole n) joined held told) differ)))

    pub closes_bad : (joined : List ℕ) → joined ≡ take form.longest (unit.bytes ++ pointed packet) → bad ≡ form.span joined
        → Closes form unit packet place (giving 0 bad_length place)
    closes_bad joined held told =
        closes_by 0 bad_length (sym (ap (event_by form unit.moment) (closed_outcome unit.bytes (pointed packet) bad (span_all bad joined held told))))

    pub closes_untold : (s : Span) (joined : List ℕ) → joined ≡ take form.longest (unit.bytes ++ pointed packet) → s ≡ form.span joined
        → (s ≡ more) ⊎ (s ≡ stuffing) → Closes form unit packet place (giving 0 delimit place)
    closes_untold s joined held told (inl e) =
        closes_by 0 delimit (sym (ap (event_by form unit.moment) (closed_outcome unit.bytes (pointed packet) more (span_all s joined held told ∙ e))))
    closes_untold s joined held told (inr e) =
        closes_by 0 delimit (sym (ap (event_by form unit.moment) (closed_outcome unit.bytes (pointed packet) stuffing (span_all s joined held told ∙ e))))
