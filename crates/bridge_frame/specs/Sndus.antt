-- The packets of a PID, and what a listener makes of the events of one.
use Rattle.std.specs.Prelude.{◌≡◌, ℕ, List, [], ◌∷◌, ◌++◌, drop, length, flat_map, Option, None}
use Rattle.ts_spec.specs.Recording.{Record}
use Rattle.ts_spec.specs.Received.{received_packets}
use Rattle.ts_spec.specs.Events.{Event, unit_event, bad_check_event, delimit_event, bad_length_event}
use Rattle.ts_spec.specs.Sndu.{sndu_form}
use Rattle.reassembly_law.specs.Records.{last_bytes}
use Rattle.unit_stream.specs.Joining.{JoinerState, Stands}
use Rattle.service_reception.specs.Taking.{IsProper}
use Rattle.outlet_spec.specs.Going.{Going}
use Rattle.gse_reception.specs.Outlets.{HandsOut}
use Rattle.bridge_spec.specs.Frames.{frame_of_sndu, frames_on_pid}

-- the packet received last, and the SNDU under way
pub record SnduState : Type 0 where
  pub last : Option (List ℕ)
  pub joiner : JoinerState

-- these records were received on a PID
pub record HasTakenOn (pid : ℕ) (state : SnduState) (records : List Record) : Type 0 where
  pub last_is : state.last ≡ last_bytes None (received_packets pid records)
  pub stands : Stands sndu_form state.joiner (received_packets pid records)

-- the Ethernet frames that one record more adds
abbrev pub added_on_pid : ℕ → List Record → Record → List (List ℕ)
added_on_pid pid records r = drop (length (frames_on_pid pid records)) (frames_on_pid pid (records ++ r ∷ []))

-- the Ethernet frame of an event, and those of several
abbrev pub frame_of_event : Event → List (List ℕ)
frame_of_event (unit_event moment unit) = frame_of_sndu unit
frame_of_event bad_check_event = []
frame_of_event delimit_event = []
frame_of_event bad_length_event = []

abbrev pub frames_of_events : List Event → List (List ℕ)
frames_of_events events = flat_map frame_of_event events

-- The outlet's words stand before: what it stands for, what it refused, its services and its faults.
module _ {T A E : Type 0} (StandsFor : T → List (ℕ × List ℕ) → Type 0) (Refused : T → ℕ → List ℕ → Type 0) (services faults : T → ℕ) where
  -- one event more is taken: some frames are handed out, and these are its own where its unit is an SNDU
  pub record HearsSndu (event : Event) (old new : Going T A E) : Type 0 where
    pub frames : List (List ℕ)
    pub hands : HandsOut StandsFor Refused services faults 0 frames old new
    pub frames_are : IsProper sndu_form event → frames ≡ frame_of_event event
