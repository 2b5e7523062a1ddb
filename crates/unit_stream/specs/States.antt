-- What the parts of a joiner stand for.
use Rattle.std.specs.Prelude.{◌≡◌, ◌≢◌, ◌⊎◌, ℕ, ◌+◌, ◌<◌, ◌≤◌, length, true, false, List, [], ◌∷◌, take, Option, Some, None}
use Rattle.ts_spec.specs.Form.{UnitForm, stuffing, whole, bad}
use Rattle.ts_spec.specs.Packet.{PacketFields, pointer, pointer_fits}
use Rattle.ts_spec.specs.Reassembly.{candidate, delimit, bad_length}
use Rattle.ts_spec.specs.Events.{Event, unit_event, bad_check_event, delimit_event, bad_length_event}
use Rattle.reassembly_law.specs.UnderWay.{Open, is_told}
use Rattle.unit_stream.specs.Joining.{Place, JoinerState, drained, reading, giving}
use Rattle.unit_stream.specs.declared.joining.UnderWay.{UnderWay}
use Rattle.unit_stream.specs.declared.joining.Position.{Position}
use Rattle.unit_stream.specs.declared.joining.Ended.{Ended}
use Rattle.unit_stream.specs.declared.joining.Ended.TheVariants as how
use Rattle.unit_stream.specs.declared.joining.State.{State}
use Rattle.unit_stream.specs.declared.joining.State.TheVariants as now
use Rattle.unit_stream.specs.declared.joining.Front.{Front}
use Rattle.unit_stream.specs.declared.joining.Front.TheVariants as front
use Rattle.unit_stream.specs.declared.reading.Look.{Look}
use Rattle.unit_stream.specs.declared.reading.Look.TheVariants as look
use Rattle.unit_stream.specs.declared.reading.JoinEvent.{JoinEvent}
use Rattle.unit_stream.specs.declared.reading.JoinEvent.TheVariants as event

-- the unit under way is at the front of the buffer
abbrev pub open_in : UnderWay → List ℕ → Open
open_in unit buffer = record { moment = unit.moment; bytes = take unit.size buffer }

abbrev pub opens_in : Option UnderWay → List ℕ → List Open
opens_in None buffer = []
opens_in (Some unit) buffer = open_in unit buffer ∷ []

abbrev pub place_of : Position → Place
place_of position = record { moment = position.moment; at = position.at }

abbrev pub rest_of : Option Position → Option Place
rest_of None = None
rest_of (Some position) = Some (place_of position)

abbrev pub ended_state : Ended → Option Place → List ℕ → JoinerState
ended_state (how.Unit unit) rest buffer = giving unit.moment (candidate (take unit.size buffer)) rest
ended_state how.Delimit rest buffer = giving 0 delimit rest
ended_state how.BadLength rest buffer = giving 0 bad_length rest

-- what the parts hold together
abbrev pub state_in : State → List ℕ → JoinerState
state_in (now.Drained under_way) buffer = drained (opens_in under_way buffer)
state_in (now.Reading position) buffer = reading (place_of position)
state_in (now.Ended way rest) buffer = ended_state way (rest_of rest) buffer

-- a length that is kept is the one that the bytes tell
abbrev pub KeepsLength : UnitForm → Option ℕ → List ℕ → Type 0
KeepsLength form None bytes = Unit {0}
KeepsLength form (Some size) bytes = form.span bytes ≡ whole size

-- the buffer holds the unit, and the length that is kept is the unit's
abbrev pub HoldsUnit : UnitForm → UnderWay → List ℕ → Type 0
HoldsUnit form unit buffer = (unit.size ≤ length buffer) × KeepsLength form unit.whole (take unit.size buffer)

abbrev pub FitsUnderWay : UnitForm → Option UnderWay → List ℕ → Type 0
FitsUnderWay form None buffer = Unit {0}
FitsUnderWay form (Some unit) buffer = HoldsUnit form unit buffer

abbrev pub FitsEnded : Ended → ℕ → Type 0
FitsEnded (how.Unit unit) size = unit.size ≤ size
FitsEnded how.Delimit size = Unit {0}
FitsEnded how.BadLength size = Unit {0}

-- its buffer holds the unit under way, or the one that ended; the length that is kept of the unit under way is what its bytes tell
abbrev pub FitsState : UnitForm → State → List ℕ → Type 0
FitsState form (now.Drained under_way) buffer = FitsUnderWay form under_way buffer
FitsState form (now.Reading position) buffer = Unit {0}
FitsState form (now.Ended way rest) buffer = FitsEnded way (length buffer)

-- where the first unit starts in a packet
pub record IsFirstStart (front_at : ℕ) (packet : PacketFields) : Type 0 where
  pub starts : packet.starts ≡ true
  pub fits : pointer_fits packet ≡ true
  pub place : front_at ≡ 1 + pointer packet

abbrev pub TellsFront : Front → PacketFields → Type 0
TellsFront front.Absent packet = packet.starts ≡ false
TellsFront (front.At place) packet = IsFirstStart place packet
TellsFront front.Misfit packet = (packet.starts ≡ true) × (pointer_fits packet ≡ false)

-- the event that is given
abbrev pub event_in : JoinEvent → Event
event_in (event.Unit moment bytes) = unit_event moment bytes.now
event_in event.BadCheck = bad_check_event
event_in event.Delimit = delimit_event
event_in event.BadLength = bad_length_event

-- what the bytes at a place of a payload tell
abbrev pub TellsLook : UnitForm → Look → List ℕ → Type 0
TellsLook form look.Nothing bytes = (length bytes < form.start) ⊎ (form.span bytes ≡ stuffing)
TellsLook form look.Bad bytes = (form.start ≤ length bytes) × (form.span bytes ≡ bad)
TellsLook form (look.Within size) bytes = (form.start ≤ length bytes) × (form.span bytes ≡ whole size) × (size ≤ length bytes)
TellsLook form (look.Beyond kept) bytes =
    (form.start ≤ length bytes) × (form.span bytes ≢ stuffing) × (is_told (form.span bytes) (length bytes) ≡ false) × KeepsLength form kept bytes

-- a unit that goes on has room in a buffer of the longest unit
abbrev pub HasRoom : Look → ℕ → ℕ → Type 0
HasRoom look.Nothing size longest = Unit {0}
HasRoom look.Bad size longest = Unit {0}
HasRoom (look.Within whole_size) size longest = Unit {0}
HasRoom (look.Beyond kept) size longest = size < longest
