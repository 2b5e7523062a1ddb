-- The datagrams that received frames give: rows are corrected, then datagrams found.
use Rattle.std.specs.Prelude.{ℕ, List, flat_map}
use Rattle.slice_spec.specs.Sections.{Timing}
use Rattle.fec_frame_spec.specs.Sections.{FrameSection, TimedSection, sections_of, data_of}
use Rattle.fec_frame_spec.specs.Groups.{received_frames}
use Rattle.fec_frame_spec.specs.Known.{known_byte}
use Rattle.fec_frame_spec.specs.Corrected.{corrected_byte}
use Rattle.fec_frame_spec.specs.Starts.{found_datagrams}

-- the datagrams that a received frame with these sections gives: rows are corrected, then datagrams found (EN 301 192 clause 9)
abbrev pub frame_datagrams : ℕ → List FrameSection → List (List ℕ)
frame_datagrams rows sections = found_datagrams rows (corrected_byte rows (known_byte rows sections)) (data_of sections)

-- those of some received frames, in order
abbrev pub datagrams_of_frames : ℕ → List (List TimedSection) → List (List ℕ)
datagrams_of_frames rows frames = flat_map (λ (group : List TimedSection). frame_datagrams rows (sections_of group)) frames

-- delivered of all sections of a service on one PID, when all frames are closed
abbrev pub delivered_by_frames : Timing → ℕ → List TimedSection → List (List ℕ)
delivered_by_frames timing rows sections = datagrams_of_frames rows (received_frames timing rows sections)
