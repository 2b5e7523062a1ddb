-- Windows and memberships of the code, in the words of the definitions.
use Rattle.std.specs.Prelude.{ℕ, Bool, List, map, if◌then◌else◌, Option, Some, None}
use Rattle.mpe_section.specs.declared.real_time.RealTime.{RealTime}
use Rattle.slice_spec.specs.Sections.{Timing, indexed, sliced, SectionTime}
use Rattle.slice_spec.specs.Windows.{OwnedWindow}
use Rattle.time_slice.specs.declared.windows.Window.{Window}

abbrev pub window_in : Window → OwnedWindow
window_in w = record { service = w.service; start = w.start; length = w.length }

abbrev pub windows_in : List Window → List OwnedWindow
windows_in windows = map window_in windows

-- the time of a section with its first byte at this moment
abbrev pub time_of : ℕ → RealTime → SectionTime
time_of moment t = record { moment = moment; delta = t.delta }

-- with time slicing, where so many units of time are ten milliseconds, or without
abbrev pub timing_of : Bool → ℕ → Timing
timing_of is_sliced ten = if is_sliced then sliced ten else indexed

-- what a membership stands for: with time slicing or without, and the time of the section seen last
pub record Seen : Type 0 where
  pub timing : Timing
  pub last : Option SectionTime

-- no section was seen
abbrev pub none_seen : Timing → Seen
none_seen timing = record { timing = timing; last = None }

-- this section was seen last
abbrev pub with_seen : Timing → SectionTime → Seen
with_seen timing x = record { timing = timing; last = Some x }
