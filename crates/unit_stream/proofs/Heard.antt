-- Events taken one after another.
use Rattle.std.proofs.Common.{◌≡◌, ℕ, List, [], ◌∷◌, ◌++◌, refl, sym, ap, ◌∙◌, subst, append_assoc, Option, Some, None, option_to_list}
use Rattle.std.proofs.lemmas.List.{append-nil}
use Rattle.ts_spec.specs.Form.{UnitForm}
use Rattle.ts_spec.specs.Packet.{PacketFields}
use Rattle.ts_spec.specs.Received.{Arrival}
use Rattle.ts_spec.specs.Events.{Event}
use Rattle.unit_stream.specs.Joining.{Place, JoinerState, drained, reading, rest_events, left_events, left_open, IsGiving}
use Rattle.unit_stream.specs.Steps.{IsDrained, IsPastOutcome, Reads, state_after}
use Rattle.unit_stream.specs.States.{ended_state}
use Rattle.unit_stream.specs.Telling.{HasHeard, Tells, HasTold}
use Rattle.unit_stream.specs.declared.joining.Ended.{Ended}
use Rattle.unit_stream.proofs.Answered.{end_events, end_open}

module _ {L : Type 0} (Hears : L → Event → L → Type 0) where
  -- some events, and then some others
  pub heard_then : (old mid new : L) (some others : List Event) → HasHeard Hears old some mid → HasHeard Hears mid others new → HasHeard Hears old (some ++ others) new
  heard_then old mid new [] others heard then = subst (λ (l : L). HasHeard Hears l others new) heard then
  heard_then old mid new (event ∷ some) others (now, (one, rest)) then = (now, (one, heard_then now mid new some others rest then))

  module _ (form : UnitForm) (packet : PacketFields) where
    -- none is taken
    pub tells_none : (state : JoinerState) (old : L) → IsPastOutcome state → Tells form packet state state Hears old old
    tells_none state old past = record {
      events = [];
      left = refl;
      under_way = refl;
      past = past;
      heard = refl;
    }

    -- some are taken, and then some others
    pub tells_then : (one two three : JoinerState) (old mid new : L) → Tells form packet one two Hears old mid → Tells form packet two three Hears mid new
        → Tells form packet one three Hears old new
    tells_then one two three old mid new first then = record {
      events = first.events ++ then.events;
      left = first.left ∙ ap (λ (t : List Event). first.events ++ t) then.left ∙ sym (append_assoc first.events then.events (left_events form packet three));
      under_way = first.under_way ∙ then.under_way;
      past = then.past;
      heard = heard_then old mid new first.events then.events first.heard then.heard;
    }

    -- the outcome of the unit that ended is taken
    pub tells_end : (ended : Ended) (rest : Option Place) (buffer : List ℕ) (after : JoinerState) (event : Event) (old new : L)
        → left_events form packet (ended_state ended rest buffer) ≡ event ∷ rest_events form packet rest → after ≡ state_after rest → Hears old event new
        → Tells form packet (ended_state ended rest buffer) after Hears old new
    tells_end ended rest buffer after event old new left is heard = record {
      events = event ∷ [];
      left = end_events form packet ended rest buffer after event left is;
      under_way = end_open form packet ended rest buffer after event left is;
      past = subst IsPastOutcome (sym is) (past rest);
      heard = (new, (heard, refl));
    }
      where
        past : (r : Option Place) → IsPastOutcome (state_after r)
        past None = tt
        past (Some place) = tt

    -- the event of a unit that starts at a place is taken, where there is one
    pub tells_start : (place : Place) (event : Option Event) (state : JoinerState) (old new : L) → Reads form packet place event state
        → HasHeard Hears old (option_to_list event) new → Tells form packet (reading place) state Hears old new
    tells_start place event state old new read heard = record {
      events = option_to_list event;
      left = read.events;
      under_way = read.under_way;
      past = read.past;
      heard = heard;
    }

    -- none is left
    pub tells_all : (one two : JoinerState) (old new : L) (packets : List Arrival) (before : List Event) → Tells form packet one two Hears old new → IsDrained two
        → IsGiving form one packet packets before → HasTold form two packets before Hears old new
    tells_all one two old new packets before tells (under_way, all) giving = record {
      stands = all ∙ ap drained (sym (ap (left_open form packet) all) ∙ sym tells.under_way ∙ giving.under_way);
      events = tells.events;
      events_are =
          sym giving.events
          ∙ ap (λ (t : List Event). before ++ t)
          (tells.left ∙ ap (λ (s : JoinerState). tells.events ++ left_events form packet s) all ∙ append-nil tells.events);
      heard = tells.heard;
    }

  -- where all events are given, none is taken
  pub drained_told : (form : UnitForm) (packet : PacketFields) (packets : List Arrival) (before : List Event) (joiner : JoinerState) (old : L)
      → IsGiving form joiner packet packets before → IsDrained joiner → HasTold form joiner packets before Hears old old
  drained_told form packet packets before joiner old gives (under_way, all) =
      let given : IsGiving form (drained under_way) packet packets before = subst (λ (s : JoinerState). IsGiving form s packet packets before) all gives in
      record {
        stands = all ∙ ap drained given.under_way;
        events = [];
        events_are = sym given.events;
        heard = refl;
      }
