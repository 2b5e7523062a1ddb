-- What one event makes of a joiner.
use Rattle.std.proofs.Common.{◌≡◌, ℕ, ◌<◌, List, [], ◌∷◌, ◌++◌, length, refl, ap, sym, ◌∙◌, subst, append_assoc, arith, Option, None, Some}
use Rattle.std.proofs.lemmas.List.{append-nil}
use Rattle.ts_spec.specs.Form.{UnitForm}
use Rattle.ts_spec.specs.Packet.{PacketFields}
use Rattle.ts_spec.specs.Received.{Arrival}
use Rattle.ts_spec.specs.Events.{Event}
use Rattle.unit_stream.specs.Joining.{Place, JoinerState, drained, reading, rest_events, rest_open, left_events, left_open, steps_left, IsGiving, AfterNext, Answers}
use Rattle.unit_stream.specs.States.{ended_state}
use Rattle.unit_stream.specs.Steps.{Reads, state_after}
use Rattle.unit_stream.specs.declared.joining.Ended.{Ended}
use Rattle.unit_stream.specs.declared.joining.Ended.TheVariants as how

pub answers_reading : (form : UnitForm) (old new : JoinerState) (packet : PacketFields) (place : Place) (event : Option Event)
    → reading place ≡ old → Reads form packet place event new → Answers form old new packet event
answers_reading form old new packet place event was read = record {
  gives = λ packets given giving.
      by_event event read packets given (subst (λ (s : JoinerState). IsGiving form s packet packets given) (sym was) giving);
  falls = λ some. subst (λ (s : JoinerState). steps_left (length packet.payload) new < steps_left (length packet.payload) s) was (read.falls some);
}
  where
    by_event : (e : Option Event) → Reads form packet place e new → (packets : List Arrival) (given : List Event) → IsGiving form (reading place) packet packets given
        → AfterNext form new packet packets given e
    by_event (Some e) read packets given giving = record {
      events = append_assoc given (e ∷ []) (left_events form packet new)
          ∙ ap (λ (t : List Event). given ++ t) (sym read.events) ∙ giving.events;
      under_way = sym read.under_way ∙ giving.under_way;
    }
    by_event None read packets given giving =
        let ended : new ≡ drained (left_open form packet (reading place)) = read.at_end refl in
        let nothing : left_events form packet new ≡ [] = ap (left_events form packet) ended in (
          ended ∙ ap drained giving.under_way,
          sym (append-nil given) ∙ ap (λ (t : List Event). given ++ t) (sym (read.events ∙ nothing)) ∙ giving.events,
        )

-- The outcome of the unit that ended.

module _ (form : UnitForm) (packet : PacketFields) (ended : Ended) (rest : Option Place) (buffer : List ℕ) (after : JoinerState) (event : Event)
    (left : left_events form packet (ended_state ended rest buffer) ≡ event ∷ rest_events form packet rest) (is : after ≡ state_after rest) where
  pub end_events : left_events form packet (ended_state ended rest buffer) ≡ event ∷ left_events form packet after
  end_events = left ∙ ap (λ (t : List Event). event ∷ t) (by_rest rest) ∙ ap (λ (s : JoinerState). event ∷ left_events form packet s) (sym is)
    where
      by_rest : (r : Option Place) → rest_events form packet r ≡ left_events form packet (state_after r)
      by_rest None = refl
      by_rest (Some place) = refl

  pub end_open : left_open form packet (ended_state ended rest buffer) ≡ left_open form packet after
  end_open = by_way ended ∙ by_rest rest ∙ ap (left_open form packet) (sym is)
    where
      by_way : (way : Ended) → left_open form packet (ended_state way rest buffer) ≡ rest_open form packet rest
      by_way (how.Unit unit) = refl
      by_way how.Delimit = refl
      by_way how.BadLength = refl

      by_rest : (r : Option Place) → rest_open form packet r ≡ left_open form packet (state_after r)
      by_rest None = refl
      by_rest (Some place) = refl

  end_falls : steps_left (length packet.payload) after < steps_left (length packet.payload) (ended_state ended rest buffer)
  end_falls = subst (λ (s : JoinerState). steps_left (length packet.payload) s < steps_left (length packet.payload) (ended_state ended rest buffer)) (sym is) (by_rest ended rest)
    where
      by_rest : (way : Ended) (r : Option Place) → steps_left (length packet.payload) (state_after r) < steps_left (length packet.payload) (ended_state way r buffer)
      by_rest (how.Unit unit) None = omega arith
      by_rest (how.Unit unit) (Some place) = omega arith
      by_rest how.Delimit None = omega arith
      by_rest how.Delimit (Some place) = omega arith
      by_rest how.BadLength None = omega arith
      by_rest how.BadLength (Some place) = omega arith

  pub answers_end : (old : JoinerState) → ended_state ended rest buffer ≡ old → Answers form old after packet (Some event)
  answers_end old was = subst (λ (s : JoinerState). Answers form s after packet (Some event)) was (record {
    gives = λ packets given giving. record {
      events = append_assoc given (event ∷ []) (left_events form packet after)
          ∙ ap (λ (t : List Event). given ++ t) (sym end_events) ∙ giving.events;
      under_way = sym end_open ∙ giving.under_way;
    };
    falls = λ _. end_falls;
  })
