-- What a PID carries in MPE-FEC frames.
use Rattle.std.specs.Prelude.{◌≡◌, ℕ, List, map, flat_map, length}
use Rattle.std.specs.List.{range_with_len}
use Rattle.ts_spec.specs.Packetized.{unit_at}
use Rattle.slice_spec.specs.Sections.{Timing}
use Rattle.slice_spec.specs.Frames.{HasTiming}
use Rattle.fec_frame_spec.specs.Sections.{TimedSection, times_of, timed_sections_in}
use Rattle.fec_frame_spec.specs.Groups.{all_sections}
use Rattle.fec_frame_spec.specs.Frame.{FrameFields, AreSentFrames}

-- the sections of frames that units read as; a unit that reads as none stands between them without a place in a frame
abbrev pub sections_of_units : ℕ → List (List ℕ) → (ℕ → ℕ) → List TimedSection
sections_of_units rows units moments = flat_map (λ n. timed_sections_in rows (moments n) (unit_at units n)) (range_with_len 0 (length units))

-- the datagrams of some frames, in order
abbrev pub datagrams_sent : List FrameFields → List (List ℕ)
datagrams_sent frames = flat_map (λ (frame : FrameFields). frame.datagrams) frames

-- The units of a PID carry these frames with these sections, where unit n begins in a packet with the moment moments n (EN 301 192 clause 9). So many frames of
-- the service come before them, on other PIDs of a changing plan.
pub record AreFramesOf (timing : Timing) (rows first : ℕ) (units : List (List ℕ)) (moments : ℕ → ℕ)
    (frames : List FrameFields) (sections : List (List TimedSection)) : Type 0 where
  pub sent : AreSentFrames rows frames sections
  pub timed : HasTiming timing first (map times_of sections)
  pub read : sections_of_units rows units moments ≡ all_sections sections

-- the units of a PID carry the datagrams in frames
pub record CarriesInFrames (timing : Timing) (rows first : ℕ) (units : List (List ℕ)) (moments : ℕ → ℕ) (datagrams : List (List ℕ)) : Type 0 where
  pub frames : List FrameFields
  pub sections : List (List TimedSection)
  pub are : AreFramesOf timing rows first units moments frames sections
  pub datagrams_are : datagrams ≡ datagrams_sent frames
