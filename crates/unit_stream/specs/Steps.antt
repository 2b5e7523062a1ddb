-- What one packet makes of a unit under way.
use Rattle.std.specs.Prelude.{◌≡◌, ℕ, ◌<◌, Bool, true, List, [], ◌∷◌, ◌++◌, length, take, drop, flat_map, Option, None, Some, option_to_list, IsSome}
use Rattle.ts_spec.specs.Form.{UnitForm}
use Rattle.ts_spec.specs.Packet.{PacketFields, pointer}
use Rattle.ts_spec.specs.Reassembly.{outcome_of, bytes_from, unit_starts}
use Rattle.ts_spec.specs.Events.{Event, event_by, misfit_events}
use Rattle.reassembly_law.specs.UnderWay.{Open, unless_told, resumed, still_open, IsUnderWay}
use Rattle.unit_stream.specs.Joining.{Place, JoinerState, drained, reading, giving, steps_left, events_from, open_from, left_events, left_open, rest_events, rest_open}

-- the bytes before the first start
abbrev pub pointed : PacketFields → List ℕ
pointed packet = take (pointer packet) (drop 1 packet.payload)

-- the bytes of each unit leave its outcome open
abbrev pub AreProper : UnitForm → List Open → Type 0
AreProper form [] = Unit {0}
AreProper form (unit ∷ units) = IsUnderWay form unit.bytes × AreProper form units

-- all events are given; a unit may be under way
abbrev pub IsDrained : JoinerState → Type 0
IsDrained state = (under_way : List Open) × (state ≡ drained under_way)

-- no outcome of a unit that began before is left to be given
abbrev pub IsPastOutcome : JoinerState → Type 0
IsPastOutcome (drained under_way) = Unit {0}
IsPastOutcome (reading place) = Unit {0}
IsPastOutcome (giving moment told rest) = ⊥

-- once that outcome is given, units may start from a place on
abbrev pub state_after : Option Place → JoinerState
state_after None = drained []
state_after (Some place) = reading place

-- a continuous packet without the start indicator
pub record GoesOn (form : UnitForm) (unit : Open) (packet : PacketFields) (state : JoinerState) : Type 0 where
  pub events : left_events form packet state ≡ resumed form true packet unit
  pub under_way : left_open form packet state ≡ still_open form true packet unit

-- a continuous packet with the start indicator, of which units from a place on may follow
pub record Closes (form : UnitForm) (unit : Open) (packet : PacketFields) (place : Option Place) (state : JoinerState) : Type 0 where
  pub events : left_events form packet state ≡ resumed form true packet unit ++ rest_events form packet place
  pub under_way : left_open form packet state ≡ rest_open form packet place

-- any packet, after a unit under way or none
pub record IsFed (form : UnitForm) (is_continuous : Bool) (under_way : List Open) (moment : ℕ) (packet : PacketFields) (state : JoinerState) : Type 0 where
  pub events : left_events form packet state
      ≡ flat_map (resumed form is_continuous packet) under_way
      ++ (misfit_events packet ++ flat_map (λ start. event_by form moment (outcome_of form (bytes_from start packet []))) (unit_starts form packet))
  pub open_units : left_open form packet state
      ≡ flat_map (still_open form is_continuous packet) under_way
      ++ flat_map (λ start. unless_told form moment (bytes_from start packet []).payloads) (unit_starts form packet)

-- the place is read: an event is given where there is one, and what is left is to come
pub record Reads (form : UnitForm) (packet : PacketFields) (place : Place) (event : Option Event) (state : JoinerState) : Type 0 where
  pub events : events_from form packet place ≡ option_to_list event ++ left_events form packet state
  pub under_way : open_from form packet place ≡ left_open form packet state
  pub at_end : event ≡ None → state ≡ drained (open_from form packet place)
  pub past : IsPastOutcome state
  pub falls : IsSome event → steps_left (length packet.payload) state < steps_left (length packet.payload) (reading place)
