-- Where the units of frames without time slicing end.
use Rattle.std.specs.Prelude.{◌≡◌, ℕ, ◌+◌, List, [], ◌∷◌, length}
use Rattle.wire_spec.specs.Lists.{joined}
use Rattle.unit_stream.specs.Packers.{AreEnds, units_of}
use Rattle.stream_spec.specs.Units.{datagrams_by_frame, units_of_frames}

-- the units, one after another, end here
pub record AreUnitEnds (units : List (List ℕ)) (ends : List ℕ) : Type 0 where
  pub units_are : units_of (joined units) ends ≡ units
  pub ends_are : AreEnds 1 (length (joined units)) ends

-- so do those of the frames of these datagrams: neither the address of the receivers nor the number of the first frame changes a size
abbrev pub AreFrameEnds : ℕ → ℕ → List (List ℕ) → List ℕ → Type 0
AreFrameEnds rows columns datagrams ends =
    (unicast : List ℕ) (first : ℕ) → AreUnitEnds (units_of_frames rows columns unicast first (datagrams_by_frame rows datagrams)) ends

-- In steps: units of these sizes from a byte on, where each ends, and where the last does.

abbrev pub ends_of_sizes : ℕ → List ℕ → List ℕ
ends_of_sizes at [] = []
ends_of_sizes at (size ∷ sizes) = (at + size) ∷ ends_of_sizes (at + size) sizes

abbrev pub after_sizes : ℕ → List ℕ → ℕ
after_sizes at [] = at
after_sizes at (size ∷ sizes) = after_sizes (at + size) sizes
