-- The section that a membership keeps.
use Rattle.std.specs.Prelude.{ℕ}
use Rattle.slice_spec.specs.Sections.{SectionTime}
use Rattle.time_slice.specs.declared.membership.Last.{Last}

abbrev pub last_in : Last → SectionTime
last_in last = record { moment = last.moment; delta = last.delta }

-- a section at this moment, whatever its delta_t
abbrev pub at : ℕ → SectionTime
at moment = record { moment = moment; delta = 0 }
