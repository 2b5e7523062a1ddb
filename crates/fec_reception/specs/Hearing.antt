-- The events of a packet with frames, taken one after another.
use Rattle.std.specs.Prelude.{◌≡◌, ℕ, ◌^◌, ◌<◌, List, [], ◌∷◌, ◌++◌, length, count_by, Result}
use Rattle.ts_spec.specs.Events.{Event}
use Rattle.section_spec.specs.Section.{section_form}
use Rattle.slice_spec.specs.Sections.{Timing}
use Rattle.fec_frame_spec.specs.Sections.{TimedSection, sections_of}
use Rattle.fec_frame_spec.specs.Delivered.{datagrams_of_frames}
use Rattle.reception_spec.specs.Numbers.{PidNumbers}
use Rattle.reception_spec.specs.Frames.{frame_numbers}
use Rattle.fec_frame.specs.Stands.{Stands}
use Rattle.service_reception.specs.Counting.{units_in, with_events}
use Rattle.service_reception.specs.Taking.{IsProper}
use Rattle.fec_reception.specs.Frames.{last_time, is_unread}
use Rattle.fec_reception.specs.Steps.{closed_with, open_with, sections_of_events}
use Rattle.outlet_spec.specs.Going.{Going, DeliversAfter, GoesOn}
use Rattle.fec_reception.specs.Reception.{FramesState, IsOver}

-- These frames were closed, not too many to be counted, and then these sections came of the frame that is open.
pub record HasFrames (timing : Timing) (rows : ℕ) (closed : List (List TimedSection)) (group : List TimedSection) (state : FramesState) : Type 0 where
  pub over : IsOver timing rows state
  pub stands : Stands state.table (sections_of group)
  pub seen_is : state.seen.last ≡ last_time group
  pub numbers_are : length closed < 2 ^ 42 → state.of_frames ≡ frame_numbers rows closed

-- these events were taken, with the numbers of the packets themselves
pub record HasHeardFrames (timing : Timing) (rows : ℕ) (links : PidNumbers) (events : List Event) (state : FramesState) : Type 0 where
  pub frames : HasFrames timing rows (closed_with timing rows [] (sections_of_events rows events)) (open_with timing rows [] (sections_of_events rows events)) state
  pub on_pid_are : length events < 2 ^ 64 → state.on_pid ≡ with_events links events
  pub unread_is : length events < 2 ^ 64 → state.unread ≡ count_by (is_unread rows) (units_in events)

-- the datagrams of the frames that some events close after others
abbrev pub told_after : Timing → ℕ → List Event → List Event → List (List ℕ)
told_after timing rows given events =
    datagrams_of_frames rows (closed_with timing rows (open_with timing rows [] (sections_of_events rows given)) (sections_of_events rows events))

-- what the listener of frames has: the frames, the number of their service, the outlet, and how its deliveries went
pub record Hearing (T A E : Type 0) : Type 0 where
  pub frames : FramesState
  pub number : ℕ
  pub outlet : T
  pub went : Result A E

abbrev pub going_of : {T A E : Type 0} → Hearing T A E → Going T A E
going_of h = record { outlet = h.outlet; went = h.went }

module _ {T A E : Type 0} (StandsFor : T → List (ℕ × List ℕ) → Type 0) (Refused : T → ℕ → List ℕ → Type 0) (services faults : T → ℕ) where
  -- one event more is taken: it is counted, and the datagrams of the frames that it closes are delivered where none was refused before
  pub record HearsFrames (event : Event) (old new : Hearing T A E) : Type 0 where
    pub number_is : new.number ≡ old.number
    pub goes : GoesOn services faults (going_of old) (going_of new)
    pub heard : (timing : Timing) (rows : ℕ) (links : PidNumbers) (given : List Event) → IsProper section_form event
        → HasHeardFrames timing rows links given old.frames → HasHeardFrames timing rows links (given ++ event ∷ []) new.frames
    pub delivered : (timing : Timing) (rows : ℕ) (links : PidNumbers) (given : List Event) → IsProper section_form event
        → HasHeardFrames timing rows links given old.frames
        → DeliversAfter StandsFor Refused old.number (told_after timing rows given (event ∷ [])) (going_of old) (going_of new)
