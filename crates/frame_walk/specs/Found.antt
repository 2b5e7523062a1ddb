-- The datagrams that a walk over the marks of a table finds.
use Rattle.std.specs.Prelude.{ℕ, zero, suc, ◌+◌, ◌-◌, List, [], ◌++◌, slice_index, if◌then◌else◌}
use Rattle.wire_spec.specs.Datagram.{front_length}
use Rattle.fec_frame_spec.specs.Starts.{front_datagram}
use Rattle.fec_frame.specs.Marks.{is_start_mark, marked_run}

-- the datagram at the front of some bytes, as a list of at most one
abbrev pub front_list : List ℕ → List (List ℕ)
front_list run = front_datagram run (front_length run)

-- what is found at a place
unfoldable pub found_at : List ℕ → List ℕ → ℕ → ℕ → List (List ℕ)
found_at bytes marks limit place =
    if is_start_mark (slice_index marks place) then front_list (marked_run bytes marks limit place) else []

-- what is found at so many places from one on
unfoldable pub found_within : List ℕ → List ℕ → ℕ → ℕ → ℕ → List (List ℕ)
found_within bytes marks limit zero place = []
found_within bytes marks limit (suc most) place = found_at bytes marks limit place ++ found_within bytes marks limit most (place + 1)

-- what is found from a place on, before the limit
unfoldable pub found_from : List ℕ → List ℕ → ℕ → ℕ → List (List ℕ)
found_from bytes marks limit place = found_within bytes marks limit (limit - place) place
