-- Sections of frames, one after another: which frames each closes, and what it leaves open.
use Rattle.std.specs.Prelude.{ℕ, List, [], ◌∷◌, ◌++◌, flat_map, if◌then◌else◌}
use Rattle.ts_spec.specs.Events.{Event}
use Rattle.reassembly_law.specs.UnderWay.{unit_of_event}
use Rattle.slice_spec.specs.Sections.{Timing}
use Rattle.fec_frame_spec.specs.Sections.{TimedSection, ends_frame, timed_sections_in}
use Rattle.fec_frame_spec.specs.Groups.{is_cut}

-- the frame of these sections, where there are some
abbrev pub frame_with : List TimedSection → List (List TimedSection)
frame_with [] = []
frame_with (s ∷ group) = (s ∷ group) ∷ []

-- a section comes after those of the open frame: it begins the next one, or joins them
abbrev pub cut_off : Timing → ℕ → List TimedSection → TimedSection → List (List TimedSection)
cut_off timing rows group x = if is_cut timing rows group x then frame_with group else []

abbrev pub joined_by : Timing → ℕ → List TimedSection → TimedSection → List TimedSection
joined_by timing rows group x = if is_cut timing rows group x then x ∷ [] else group ++ x ∷ []

-- the last of some sections has frame_boundary, or not: then they are a frame, or are left
abbrev pub ended_by : TimedSection → List TimedSection → List (List TimedSection)
ended_by x group = if ends_frame x.section then frame_with group else []

abbrev pub left_by : TimedSection → List TimedSection → List TimedSection
left_by x group = if ends_frame x.section then [] else group

-- the frames that some sections close after those of the open frame, and the sections that they leave open
abbrev pub closed_with : Timing → ℕ → List TimedSection → List TimedSection → List (List TimedSection)
closed_with timing rows group [] = []
closed_with timing rows group (x ∷ sections) =
    (cut_off timing rows group x ++ ended_by x (joined_by timing rows group x))
    ++ closed_with timing rows (left_by x (joined_by timing rows group x)) sections

abbrev pub open_with : Timing → ℕ → List TimedSection → List TimedSection → List TimedSection
open_with timing rows group [] = group
open_with timing rows group (x ∷ sections) = open_with timing rows (left_by x (joined_by timing rows group x)) sections

-- the sections of frames among events
abbrev pub sections_of_pair : ℕ → ℕ × List ℕ → List TimedSection
sections_of_pair rows pair = timed_sections_in rows pair.0 pair.1

abbrev pub sections_of_events : ℕ → List Event → List TimedSection
sections_of_events rows events = flat_map (sections_of_pair rows) (flat_map unit_of_event events)
