-- The sections of a service in a stream, and as they are accepted. delta_of is what a unit has as delta_t.
use Rattle.std.specs.Prelude.{◌≡◌, ℕ, List}
use Rattle.ts_spec.specs.Packetized.{unit_at}
use Rattle.ts_spec.specs.Reassembly.{PlacedUnit}
use Rattle.slice_spec.specs.Sections.{SectionTime}
use Rattle.slice_spec.specs.Frames.{IsOf}

-- unit n has the delta_t of a section of frame i, whatever its moment is
pub record IsNumberedUnit (units : List (List ℕ)) (delta_of : List ℕ → ℕ) (frames : List (List SectionTime)) (n i : ℕ) : Type 0 where
  pub section : SectionTime
  pub is_of : IsOf frames i section
  pub delta : delta_of (unit_at units n) ≡ section.delta

-- the time of an accepted section
abbrev pub time_seen : (List ℕ → ℕ) → PlacedUnit → SectionTime
time_seen delta_of accepted = record { moment = accepted.moment; delta = delta_of accepted.unit }
