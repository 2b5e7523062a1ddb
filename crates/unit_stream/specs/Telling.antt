-- A listener takes the events of a packet, one after another.
use Rattle.std.specs.Prelude.{◌≡◌, List, [], ◌∷◌, ◌++◌}
use Rattle.ts_spec.specs.Form.{UnitForm}
use Rattle.ts_spec.specs.Packet.{PacketFields}
use Rattle.ts_spec.specs.Received.{Arrival}
use Rattle.ts_spec.specs.Events.{Event, events_of}
use Rattle.unit_stream.specs.Joining.{JoinerState, Stands, left_events, left_open}
use Rattle.unit_stream.specs.Steps.{IsPastOutcome}

-- a listener took these events in order, where `Hears` says what one makes of it
abbrev pub HasHeard : {L : Type 0} → (L → Event → L → Type 0) → L → List Event → L → Type 0
HasHeard Hears old [] new = new ≡ old
HasHeard {L} Hears old (event ∷ events) new = (mid : L) × (Hears old event mid × HasHeard Hears mid events new)

-- the listener took some events of a packet that were still to come, and the others are still to come
pub record Tells {L : Type 0} (form : UnitForm) (packet : PacketFields) (before after : JoinerState) (Hears : L → Event → L → Type 0) (old new : L) : Type 0 where
  pub events : List Event
  pub left : left_events form packet before ≡ events ++ left_events form packet after
  pub under_way : left_open form packet before ≡ left_open form packet after
  pub past : IsPastOutcome after
  pub heard : HasHeard Hears old events new

-- the listener took all events of the packets after the ones before, and the joiner was fed these packets
pub record HasTold {L : Type 0} (form : UnitForm) (joiner : JoinerState) (packets : List Arrival) (before : List Event)
    (Hears : L → Event → L → Type 0) (old new : L) : Type 0 where
  pub stands : Stands form joiner packets
  pub events : List Event
  pub events_are : events_of form packets ≡ before ++ events
  pub heard : HasHeard Hears old events new
