-- Bursts as they are sent: each frame of a service in its window of one cycle. Profile: windows, and which delta_t is written.
use Rattle.std.specs.Prelude.{◌≡◌, ℕ, ◌+◌, ◌-◌, ◌*◌, ◌<◌, ◌≤◌, Bool, not, ◌&&◌, List, [], ◌∷◌, length, map, ◌==◌, if◌then◌else◌, Contains, Some}
use Rattle.std.specs.List.{slice_get}
use Rattle.ts_spec.specs.Recording.{RecordingForm}
use Rattle.slice_spec.specs.Moments.{units_per_second, ten, moment_of}
use Rattle.slice_spec.specs.Sections.{SectionTime, tens_between}

-- how a service is sliced: form of recording, packets in a second, slots in a cycle, and the first slot and the length of its window in each cycle
pub record Slicing : Type 0 where
  pub form : RecordingForm
  pub rate : ℕ
  pub cycle : ℕ
  pub start : ℕ
  pub length : ℕ

-- a burst: its cycle, and for each section of its frame the packet of the burst, from 0, with the section's first byte
pub record Burst : Type 0 where
  pub cycle : ℕ
  pub places : List ℕ

-- the slot of packet n of the burst in cycle c
abbrev pub slot_of : Slicing → ℕ → ℕ → ℕ
slot_of s c n = c * s.cycle + s.start + n

-- the moment of this packet
abbrev pub moment_in : Slicing → ℕ → ℕ → ℕ
moment_in s c n = moment_of s.form s.rate (slot_of s c n)

-- the time from this packet to the window in the next cycle, where a burst may be missing
abbrev pub delta_to_next : Slicing → ℕ → ℕ → ℕ
delta_to_next s c n = tens_between (moment_in s c n) (moment_in s (c + 1) 0) (ten s.form)

-- the time of a section that begins in this packet; the last burst of a service announces none (EN 301 192 clause 9)
abbrev pub time_in : Slicing → Bool → ℕ → ℕ → SectionTime
time_in s is_last c n = record { moment = moment_in s c n; delta = if is_last then 0 else delta_to_next s c n }

-- the times of the sections of bursts; goes_on where the service has later bursts than these
abbrev pub times_of : Slicing → Bool → List Burst → List (List SectionTime)
times_of s goes_on [] = []
times_of s goes_on (burst ∷ bursts) =
    map (time_in s (not goes_on && (length bursts == 0)) burst.cycle) burst.places ∷ times_of s goes_on bursts

-- each burst lies in the window of its cycle, and each in a later cycle than those before it
pub record AreInWindows (s : Slicing) (bursts : List Burst) : Type 0 where
  pub within : (i place : ℕ) (burst : Burst) → slice_get bursts i ≡ Some burst → Contains burst.places place → place < s.length
  pub later : (i j : ℕ) (a b : Burst) → i < j → slice_get bursts i ≡ Some a → slice_get bursts j ≡ Some b → a.cycle < b.cycle

-- ten milliseconds at least from the end of a window to its start in the next cycle, and less than 4,096 tens of them in a cycle
pub record IsSliceable (s : Slicing) : Type 0 where
  pub rate_above : 0 < s.rate
  pub gap : ten s.form * s.rate ≤ (s.cycle - s.length) * units_per_second s.form
  pub cycle_below : s.cycle * units_per_second s.form ≤ (4096 * ten s.form - 1) * s.rate
