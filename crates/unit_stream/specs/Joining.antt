-- A joiner over the packets that it was fed and the events that it gave.
use Rattle.std.specs.Prelude.{◌≡◌, ◌⊎◌, ℕ, ◌+◌, ◌-◌, ◌<◌, List, [], ◌∷◌, ◌++◌, length, flat_map, Option, Some, None, IsSome}
use Rattle.ts_spec.specs.Form.{UnitForm}
use Rattle.ts_spec.specs.Packet.{PacketFields}
use Rattle.ts_spec.specs.Received.{Arrival}
use Rattle.ts_spec.specs.Reassembly.{Outcome, outcome_of, bytes_from}
use Rattle.ts_spec.specs.Events.{Event, event_by, events_of}
use Rattle.reassembly_law.specs.UnderWay.{Open, unless_told, open_units}
use Rattle.reassembly_law.specs.Records.{last_bytes}
use Rattle.reassembly_law.specs.Starts.{starts_from}
use Rattle.ts_packet.specs.declared.continuity.Link.{Link}
use Rattle.ts_packet.specs.declared.continuity.Link.TheVariants.{First, Next, Repeat, Gap}
use Rattle.ts_packet.specs.Links.{link_of}

-- a place of the payload fed last, with the packet's moment
pub record Place : Type 0 where
  pub moment : ℕ
  pub at : ℕ

-- what a joiner holds: all events given and the unit under way; or a place from which starts are to be given; or an outcome to be given before that
pub data JoinerState : Type 0 where
  -- all events are given; the unit under way, where there is one
  drained : List Open → JoinerState
  -- the starts from a place on are to be given
  reading : Place → JoinerState
  -- the outcome of the unit that began at this moment is to be given, then the starts from a place on, where there are some
  giving : ℕ → Outcome → Option Place → JoinerState

-- the events of the starts from a place on (RFC 4326 section 7)
abbrev pub events_from : UnitForm → PacketFields → Place → List Event
events_from form packet place =
    flat_map (λ start. event_by form place.moment (outcome_of form (bytes_from start packet []))) (starts_from form packet.payload place.at)

-- the unit under way after the starts from a place on
abbrev pub open_from : UnitForm → PacketFields → Place → List Open
open_from form packet place =
    flat_map (λ start. unless_told form place.moment (bytes_from start packet []).payloads) (starts_from form packet.payload place.at)

abbrev pub rest_events : UnitForm → PacketFields → Option Place → List Event
rest_events form packet None = []
rest_events form packet (Some place) = events_from form packet place

abbrev pub rest_open : UnitForm → PacketFields → Option Place → List Open
rest_open form packet None = []
rest_open form packet (Some place) = open_from form packet place

-- the events that are still to come of the packet fed last
abbrev pub left_events : UnitForm → PacketFields → JoinerState → List Event
left_events form packet (drained under_way) = []
left_events form packet (reading place) = events_from form packet place
left_events form packet (giving moment told rest) = event_by form moment told ++ rest_events form packet rest

-- the unit under way once they are given
abbrev pub left_open : UnitForm → PacketFields → JoinerState → List Open
left_open form packet (drained under_way) = under_way
left_open form packet (reading place) = open_from form packet place
left_open form packet (giving moment told rest) = rest_open form packet rest

-- the joiner was fed these packets, and all their events are given
abbrev pub Stands : UnitForm → JoinerState → List Arrival → Type 0
Stands form state packets = state ≡ drained (open_units form packets)

-- the joiner was fed these packets, the last of them with these fields; the events that are not given yet are still to come
pub record IsGiving (form : UnitForm) (state : JoinerState) (packet : PacketFields) (packets : List Arrival) (given : List Event) : Type 0 where
  pub events : given ++ left_events form packet state ≡ events_of form packets
  pub under_way : left_open form packet state ≡ open_units form packets

-- how the next packet follows the packets before it; where there are none it does not matter (ISO/IEC 13818-1 clause 2.4.3.3)
abbrev pub IsLinked : Link → List Arrival → Arrival → Type 0
IsLinked link packets next = (packets ≡ []) ⊎ (link ≡ link_of (last_bytes None packets) next.bytes)

-- the packets with one more, unless it is a duplicate (ISO/IEC 13818-1 clause 2.4.3.3)
abbrev pub packets_with : Link → List Arrival → Arrival → List Arrival
packets_with First packets next = packets ++ next ∷ []
packets_with Next packets next = packets ++ next ∷ []
packets_with Gap packets next = packets ++ next ∷ []
packets_with Repeat packets next = packets

-- what holds after an answer: one event more is given, or all were given before
abbrev pub AfterNext : UnitForm → JoinerState → PacketFields → List Arrival → List Event → Option Event → Type 0
AfterNext form state packet packets given (Some event) = IsGiving form state packet packets (given ++ event ∷ [])
AfterNext form state packet packets given None = Stands form state packets × (given ≡ events_of form packets)

-- a number that falls with each event of a payload of this size
abbrev pub steps_left : ℕ → JoinerState → ℕ
steps_left size (drained under_way) = 0
steps_left size (reading place) = 1 + (size - place.at)
steps_left size (giving moment told None) = 1
steps_left size (giving moment told (Some place)) = 2 + (size - place.at)

-- what an answer makes of a joiner that was fed a packet last
pub record Answers (form : UnitForm) (old new : JoinerState) (packet : PacketFields) (event : Option Event) : Type 0 where
  -- whatever packets it was fed and events it gave
  pub gives : (packets : List Arrival) (given : List Event) → IsGiving form old packet packets given → AfterNext form new packet packets given event
  -- so that a loop over the events ends
  pub falls : IsSome event → steps_left (length packet.payload) new < steps_left (length packet.payload) old
